-- The line that says for whom a request is.
use Rattle.std.specs.Prelude.{◌≡◌, ℕ, List, [], ◌∷◌, ◌++◌, codes, map}
use Rattle.std.specs.Char.{to_ascii_lowercase}
use Rattle.krb_kdc_proxy.specs.declared.asked.Service.{Service}
use Rattle.krb_kdc_proxy.specs.declared.asked.Service.TheVariants as service
use Rattle.krb_kdc_proxy.specs.declared.request.ProxyRequest.{ProxyRequest}
use Rattle.krb_show_text.specs.Text.{escaped}
use Rattle.krb_show_text.specs.declared.escape.Style.TheVariants as style

-- the name of a service
abbrev pub service_name : Service → List ℕ
service_name service.Kdc = codes "kdc"
service_name service.PasswordChange = codes "kpasswd"

-- the service and the realm that the client names, in which blanks, `:`, `\` and octets that are not printable are `\xNN`
abbrev pub destination : ProxyRequest → List ℕ
destination r = service_name r.service ++ 32 ∷ escaped style.Name r.target_domain

-- the realm that the message names
abbrev pub other_realm : ProxyRequest → List ℕ
other_realm r = codes " (the message names " ++ escaped style.Name r.realm ++ 41 ∷ []

-- The line of a request: its destination; and where the message names another realm (letters of either case are alike) that one too.
pub record IsLineOf (r : ProxyRequest) (line : List ℕ) : Type 0 where
  pub one_realm : map to_ascii_lowercase r.target_domain ≡ map to_ascii_lowercase r.realm → line ≡ destination r ++ 10 ∷ []
  pub another : (map to_ascii_lowercase r.target_domain ≡ map to_ascii_lowercase r.realm → ⊥) → line ≡ destination r ++ other_realm r ++ 10 ∷ []
