-- The types of DER that can be named, as their standards spell them, and what their pages are called.
use Rattle.std.specs.Prelude.{ℕ, nat_eq, Bool, ◌||◌, if◌then◌else◌, Option, Some, None, List, [], ◌∷◌, codes}
use Rattle.std.specs.Char.{eq_ignore_ascii_case}
use Rattle.std.specs.Cmp.Lexicographic.{pointwise}

-- messages and opened parts by the first octet of their encodings (RFC 4120, 5.10)
unfoldable pub applications : List (ℕ × List ℕ)
applications =
    (97, codes "Ticket")
    ∷ (98, codes "Authenticator")
    ∷ (99, codes "EncTicketPart")
    ∷ (106, codes "AS-REQ")
    ∷ (107, codes "AS-REP")
    ∷ (108, codes "TGS-REQ")
    ∷ (109, codes "TGS-REP")
    ∷ (110, codes "AP-REQ")
    ∷ (111, codes "AP-REP")
    ∷ (117, codes "KRB-PRIV")
    ∷ (118, codes "KRB-CRED")
    ∷ (121, codes "EncASRepPart")
    ∷ (122, codes "EncTGSRepPart")
    ∷ (123, codes "EncAPRepPart")
    ∷ (124, codes "EncKrbPrivPart")
    ∷ (125, codes "EncKrbCredPart")
    ∷ (126, codes "KRB-ERROR")
    ∷ []

-- types that no first octet tells: of messages, of PKINIT and of CredSSP
unfoldable pub type_names : List (List ℕ)
type_names =
    codes "PrincipalName"
    ∷ codes "HostAddress"
    ∷ codes "HostAddresses"
    ∷ codes "AuthorizationData"
    ∷ codes "EncryptedData"
    ∷ codes "EncryptionKey"
    ∷ codes "Checksum"
    ∷ codes "TransitedEncoding"
    ∷ codes "LastReq"
    ∷ codes "KDC-REQ-BODY"
    ∷ codes "KrbCredInfo"
    ∷ codes "PA-DATA"
    ∷ codes "METHOD-DATA"
    ∷ codes "PA-ENC-TS-ENC"
    ∷ codes "ETYPE-INFO2-ENTRY"
    ∷ codes "ETYPE-INFO2"
    ∷ codes "KERB-PA-PAC-REQUEST"
    ∷ codes "PA-PAC-OPTIONS"
    ∷ codes "KERB-ERROR-DATA"
    ∷ codes "KERB-AD-RESTRICTION-ENTRY"
    ∷ codes "ChangePasswdData"
    ∷ codes "TGT-REQ"
    ∷ codes "TGT-REP"
    ∷ codes "KDC-PROXY-MESSAGE"
    ∷ codes "PKU2U-NEGO-REQ-METADATA"
    ∷ codes "PKU2U-NEGO-BODY"
    ∷ codes "PKU2U-NEGO-REQ"
    ∷ codes "PKU2U-NEGO-REP"
    ∷ codes "KRB-FINISHED"
    ∷ codes "PA-PK-AS-REQ"
    ∷ codes "PA-PK-AS-REP"
    ∷ codes "DHAuthPack"
    ∷ codes "ECAuthPack"
    ∷ codes "PKAuthenticator"
    ∷ codes "ExternalPrincipalIdentifier"
    ∷ codes "DHRepInfo"
    ∷ codes "KDCDHKeyInfo"
    ∷ codes "AlgorithmIdentifier"
    ∷ codes "SubjectPublicKeyInfo"
    ∷ codes "DHSubjectPublicKeyInfo"
    ∷ codes "DomainParameters"
    ∷ codes "ValidationParms"
    ∷ codes "TSCredentials"
    ∷ codes "TSPasswordCreds"
    ∷ codes "TSSmartCardCreds"
    ∷ codes "TSCspDataDetail"
    ∷ codes "TSRemoteGuardCreds"
    ∷ codes "TSRemoteGuardPackageCred"
    ∷ []

-- whether this is the name, letters of either case alike
abbrev pub is_same : List ℕ → List ℕ → Bool
is_same name given = pointwise eq_ignore_ascii_case name given

-- the first octet of the row with this name
abbrev pub tag_in : List (ℕ × List ℕ) → List ℕ → Option ℕ
tag_in [] name = None
tag_in (row ∷ rows) name = if is_same row.1 name then Some row.0 else tag_in rows name

-- the name of the row with this first octet
abbrev pub name_in : List (ℕ × List ℕ) → ℕ → Option (List ℕ)
name_in [] tag = None
name_in (row ∷ rows) tag = if nat_eq row.0 tag then Some row.1 else name_in rows tag

-- the type of this name
abbrev pub type_in : List (List ℕ) → List ℕ → Option (List ℕ)
type_in [] name = None
type_in (type ∷ types) name = if is_same type name then Some type else type_in types name

-- whether this is the name, letter by letter
abbrev pub is_name : List ℕ → List ℕ → Bool
is_name name given = pointwise nat_eq given name

-- what the page of a type is called: its name, without what tells two forms of one name apart (RFC 4556, 3.2.1; RFC 5349, 4; RFC 3279, 2.3.3)
abbrev pub title : List ℕ → List ℕ
title name =
    if is_name (codes "DHAuthPack") name || is_name (codes "ECAuthPack") name then codes "AuthPack"
    else if is_name (codes "DHSubjectPublicKeyInfo") name then codes "SubjectPublicKeyInfo"
    else name
