-- Formats that are no DER within messages of Kerberos.
use Rattle.std.specs.Prelude.{◌≡◌, ◌≢◌, ◌⊎◌, ℕ, List, [], ◌∷◌, codes}
use Rattle.krb_schema.specs.declared.shape.Role.{Role}
use Rattle.krb_schema.specs.declared.shape.Role.TheVariants as roles
use Rattle.krb_show.specs.Leaves.{octets_of}
use Rattle.krb_show.specs.Tokens.{Label, Token}
use Rattle.krb_show_messages.specs.Pac.{pac_of}
use Rattle.krb_show_messages.specs.GssChecksum.{gss_checksum_of}
use Rattle.krb_show_messages.specs.Prefixed.{prefixed_of}
use Rattle.krb_show.specs.RowWalk.{IsShownByRow}

-- the contents of INTEGERs (X.690, 8.3): 128, AD-WIN2K-PAC (RFC 4120, 7.5.4), and 32771, the checksum of the GSS-API (RFC 4121, 4.1.1)
abbrev pub win2k_pac : List ℕ
win2k_pac = 0 ∷ 128 ∷ []

abbrev pub gss_checksum : List ℕ
gss_checksum = 0 ∷ 128 ∷ 3 ∷ []

-- the one behind this number, the other behind each other number
abbrev pub behind_number : List ℕ → List ℕ → (List Token → List Token → Type 0) → (List Token → List Token → Type 0) → List Token → List Token → Type 0
behind_number wanted number this other old new = ((number ≡ wanted) × this old new) ⊎ ((number ≢ wanted) × other old new)

-- within these formats are no others: octets are octets there
abbrev pub no_formats : Role → List ℕ → Label → List ℕ → List Token → List Token → Type 0
no_formats role number label octets = octets_of label octets

-- what is delegated: a KRB-CRED (RFC 4120, 5.8.1)
abbrev pub deleg_of : List ℕ → List Token → List Token → Type 0
deleg_of octets = IsShownByRow no_formats (codes "KRB-CRED") (codes "Deleg") octets

-- A PAC in authorization data of type 128 (MS-PAC, 2.3), the checksum of the GSS-API in one of type 32771 (RFC 4121, 4.1.1), and a message behind
-- its length (MS-KKDCP, 2.2.2); others are octets.
abbrev pub formats_of : Role → List ℕ → Label → List ℕ → List Token → List Token → Type 0
formats_of roles.AuthorizationData number label octets = behind_number win2k_pac number (pac_of label octets) (octets_of label octets)
formats_of roles.Checksum number label octets = behind_number gss_checksum number (gss_checksum_of deleg_of label octets) (octets_of label octets)
formats_of roles.PrefixedMessage number label octets = prefixed_of no_formats label octets
formats_of role number label octets = octets_of label octets
