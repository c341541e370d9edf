-- What is told of a request that a client posts to a proxy, from what was read (MS-KKDCP, 2.2.2).
use Rattle.std.specs.Prelude.{◌≡◌, ◌⊎◌, ℕ, ℤ, pos, List, [], ◌∷◌, length, take, drop, map, Option, Some, None, FitsSigned}
use Rattle.std.specs.Char.{to_ascii_lowercase}
use Rattle.std.specs.Int.{w64}
use Rattle.krb_kdc_proxy.specs.declared.asked.Service.{Service}
use Rattle.krb_kdc_proxy.specs.declared.asked.Service.TheVariants as service
use Rattle.krb_kdc_proxy.specs.declared.lenient.LenientRequest.{LenientRequest}
use Rattle.krb_kdc_proxy.specs.declared.request.ProxyRequest.{ProxyRequest}
use Rattle.krb_message_fields.specs.Paths.{Leads}
use Rattle.krb_message_fields.specs.declared.places.place.Step.{Step}
use Rattle.krb_message_fields.specs.declared.places.place.Step.TheVariants.{Tag}
use Rattle.krb_c_calls.specs.declared.proxies.posted.PostedRecord.{PostedRecord}

-- 1 a KDC, 2 the server that changes passwords
abbrev pub service_number : Service → ℕ
service_number service.Kdc = 1
service_number service.PasswordChange = 2

-- target-domain is the realm that the message names, ASCII letters of either case alike
abbrev pub NamesOneRealm : ProxyRequest → Type 0
NamesOneRealm r = map to_ascii_lowercase r.target_domain ≡ map to_ascii_lowercase r.realm

abbrev pub IsNamesNumber : ProxyRequest → ℕ → Type 0
IsNamesNumber r number = ((number ≡ 1) × NamesOneRealm r) ⊎ ((number ≡ 0) × (NamesOneRealm r → ⊥))

-- the hint (0), which 64 bits hold; or it is past them (21), or absent (20), and 0 is told
abbrev pub IsHintOf : Option ℤ → ℤ → ℕ → Type 0
IsHintOf None hint status = (status ≡ 20) × (hint ≡ pos 0)
IsHintOf (Some n) hint status = ((status ≡ 0) × FitsSigned w64 n × (hint ≡ n)) ⊎ ((FitsSigned w64 n → ⊥) × (status ≡ 21) × (hint ≡ pos 0))

-- to target-domain: the SEQUENCE (30), its element [1] (a1), the GeneralString (1b) in it
abbrev pub domain_path : List Step
domain_path = Tag 48 ∷ Tag 161 ∷ Tag 27 ∷ []

-- target-domain is these octets, which stand behind so many at the end of the path
abbrev pub IsDomainAt : List ℕ → List ℕ → ℕ → ℕ → Type 0
IsDomainAt domain octets offset size = Leads domain_path octets offset domain × (size ≡ length domain) × (take size (drop offset octets) ≡ domain)

pub record TellsRequest (r : ProxyRequest) (told : PostedRecord) : Type 0 where
  pub message_offset : told.message_offset ≡ r.offset
  pub message_size : told.message_size ≡ length r.datagram.now
  pub hint : IsHintOf r.hint told.hint told.hint_status
  pub service : told.service ≡ service_number r.service
  pub names : IsNamesNumber r told.names_one_realm

pub record TellsLenient (r : LenientRequest) (told : PostedRecord) : Type 0 where
  pub message_offset : told.message_offset ≡ r.offset
  pub message_size : told.message_size ≡ length r.datagram.now
  pub hint : IsHintOf r.hint told.hint told.hint_status
  pub service : told.service ≡ service_number r.service
  pub names : told.names_one_realm ≡ 0

-- nothing is told
abbrev pub nothing : PostedRecord
nothing = record {
  message_offset = 0;
  message_size = 0;
  domain_offset = 0;
  domain_size = 0;
  hint = pos 0;
  hint_status = 0;
  service = 0;
  names_one_realm = 0;
}
