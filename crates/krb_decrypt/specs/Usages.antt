-- Key usages (RFC 4120, 7.5.1), and what is encrypted for each.
use Rattle.std.specs.Prelude.{ℕ, ℤ, pos, List, [], ◌∷◌, codes}
use Rattle.krb_schema.specs.declared.shape.Role.{Role}
use Rattle.krb_schema.specs.declared.shape.Role.TheVariants as roles
use Rattle.krb_decrypt.specs.declared.usage.Usage.{Usage}
use Rattle.krb_decrypt.specs.declared.usage.Usage.TheVariants as usage

-- the number
abbrev pub number_of : Usage → ℕ
number_of usage.PaEncTimestamp = 1
number_of usage.Ticket = 2
number_of usage.AsRep = 3
number_of usage.TgsReqDataSession = 4
number_of usage.TgsReqDataSubkey = 5
number_of usage.TgsReqAuthenticator = 7
number_of usage.TgsRepSession = 8
number_of usage.TgsRepSubkey = 9
number_of usage.ApReqAuthenticator = 11
number_of usage.ApRep = 12
number_of usage.KrbPriv = 13
number_of usage.KrbCred = 14

abbrev pub integer_of : Usage → ℤ
integer_of u = pos (number_of u)

-- all, in the order of their numbers
abbrev pub any_usage : List Usage
any_usage =
    usage.PaEncTimestamp
    ∷ usage.Ticket
    ∷ usage.AsRep
    ∷ usage.TgsReqDataSession
    ∷ usage.TgsReqDataSubkey
    ∷ usage.TgsReqAuthenticator
    ∷ usage.TgsRepSession
    ∷ usage.TgsRepSubkey
    ∷ usage.ApReqAuthenticator
    ∷ usage.ApRep
    ∷ usage.KrbPriv
    ∷ usage.KrbCred
    ∷ []

-- of an EncryptedData of this role, in the order of their trial: one of which nothing is known may be any. Some KDCs encrypt the part of an AS-REP as
-- that of a TGS-REP.
abbrev pub usages_of : Role → List Usage
usages_of roles.EncTicketPart = usage.Ticket ∷ []
usages_of roles.EncAsRepPart = usage.AsRep ∷ usage.TgsRepSession ∷ usage.TgsRepSubkey ∷ []
usages_of roles.EncTgsRepPart = usage.TgsRepSession ∷ usage.TgsRepSubkey ∷ []
usages_of roles.Authenticator = usage.ApReqAuthenticator ∷ usage.TgsReqAuthenticator ∷ []
usages_of roles.RequestAuthorizationData = usage.TgsReqDataSession ∷ usage.TgsReqDataSubkey ∷ []
usages_of roles.EncApRepPart = usage.ApRep ∷ []
usages_of roles.EncKrbPrivPart = usage.KrbPriv ∷ []
usages_of roles.EncKrbCredPart = usage.KrbCred ∷ []
usages_of roles.PaEncTsEnc = usage.PaEncTimestamp ∷ []
usages_of other = any_usage

-- the type of what is encrypted for each
abbrev pub type_of : Usage → List ℕ
type_of usage.PaEncTimestamp = codes "PA-ENC-TS-ENC"
type_of usage.Ticket = codes "EncTicketPart"
type_of usage.AsRep = codes "EncASRepPart"
type_of usage.TgsReqDataSession = codes "AuthorizationData"
type_of usage.TgsReqDataSubkey = codes "AuthorizationData"
type_of usage.TgsReqAuthenticator = codes "Authenticator"
type_of usage.TgsRepSession = codes "EncTGSRepPart"
type_of usage.TgsRepSubkey = codes "EncTGSRepPart"
type_of usage.ApReqAuthenticator = codes "Authenticator"
type_of usage.ApRep = codes "EncAPRepPart"
type_of usage.KrbPriv = codes "EncKrbPrivPart"
type_of usage.KrbCred = codes "EncKrbCredPart"
