-- The table of Kerberos passes the test.
use Rattle.std.proofs.Common.{◌≡◌, ℕ, nat_eq, ◌||◌, true, refl, List, [], ◌∷◌}
use Rattle.std.specs.Prelude.{slice_get}
use Rattle.krb_schema.specs.declared.shape.Role.{Role}
use Rattle.krb_schema.specs.declared.shape.Role.TheVariants as roles
use Rattle.krb_schema.specs.Types.{cases, fields, shapes, types}
use Rattle.krb_show_row_laws.specs.Tests.{firsts, fits, is_told}
use Rattle.krb_show_row_laws.specs.Firsts.{apart_firsts, of_leaf, openings}
use Rattle.krb_show_row_laws.specs.Kerberos.{as_octets, each_below, every_row, every_type}
use Rattle.krb_show_row_laws.specs.KerberosFormats.{kerberos_kinds}
use Rattle.krb_show_row_laws.specs.Laws.{is_leaf_shape}

pub kerberos_told : is_told as_octets every_row 64 shapes fields cases ≡ true
unfolding shapes fields cases
kerberos_told = refl

pub kerberos_fits : (name : List ℕ) (role : Role)
    → each_below (λ is. nat_eq is 32 || fits as_octets every_row 64 shapes fields cases 64 true is name role) 150 ≡ true
unfolding shapes fields cases
kerberos_fits name roles.None = refl
kerberos_fits name roles.AuthorizationData = refl
kerberos_fits name roles.Checksum = refl
kerberos_fits name roles.PrefixedMessage = refl
kerberos_fits name roles.MechanismToken = refl
kerberos_fits name roles.MechanismListMic = refl
kerberos_fits name roles.Key = refl
kerberos_fits name roles.EncTicketPart = refl
kerberos_fits name roles.EncAsRepPart = refl
kerberos_fits name roles.EncTgsRepPart = refl
kerberos_fits name roles.Authenticator = refl
kerberos_fits name roles.RequestAuthorizationData = refl
kerberos_fits name roles.EncApRepPart = refl
kerberos_fits name roles.EncKrbPrivPart = refl
kerberos_fits name roles.EncKrbCredPart = refl
kerberos_fits name roles.PaEncTsEnc = refl
kerberos_fits name roles.Salt = refl
kerberos_fits name roles.ClientRealm = refl
kerberos_fits name roles.ClientName = refl
kerberos_fits name roles.ServerRealm = refl
kerberos_fits name roles.ServerName = refl

-- ---- with the formats of `krb_show_messages`

pub formats_told : is_told kerberos_kinds every_row 64 shapes fields cases ≡ true
unfolding shapes fields cases
formats_told = refl

pub formats_fits : (name : List ℕ) → each_below (λ is. nat_eq is 32 || fits kerberos_kinds every_row 64 shapes fields cases 64 true is name roles.None)
    150 ≡ true
unfolding shapes fields cases
formats_fits name = refl

-- the rows of types
pub types_fit : (text : List ℕ) → every_type (λ is. fits kerberos_kinds every_row 64 shapes fields cases 64 true is text roles.None) types ≡ true
unfolding shapes fields cases types
types_fit text = refl

-- elements of those that are of no leaf begin otherwise than octets
pub types_apart : (text : List ℕ)
    → every_type (λ is. is_leaf_shape (slice_get shapes is) || apart_firsts (firsts kerberos_kinds every_row 64 shapes fields cases 64 is text roles.None)
    (openings (of_leaf ∷ []) text)) types ≡ true
unfolding shapes fields cases types
types_apart text = refl
