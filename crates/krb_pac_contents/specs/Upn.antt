-- The user's principal name and the domain's DNS name (MS-PAC 2.10, UPN_DNS_INFO).
use Rattle.std.specs.Prelude.{ℕ, ◌+◌, ◌/◌, ◌%◌, not, ◌==◌, nat_lt, List, [], ◌∷◌, length, take, drop, Option, Some, None, Result, Ok, if◌then◌else◌}
use Rattle.krb_pac_contents.specs.Numbers.{short_at, long_at}
use Rattle.krb_pac_contents.specs.Attributes.{requestor_of}
use Rattle.krb_pac_contents.specs.BufferSteps.{first_fault, ◌>>=◌}
use Rattle.krb_pac_contents.specs.declared.buffers.error.BufferError.{BufferError}
use Rattle.krb_pac_contents.specs.declared.buffers.error.BufferError.TheVariants as errors

pub record UpnDns : Type 0 where
  pub flags : ℕ
  pub upn : List ℕ
  pub dns_domain_name : List ℕ
  pub sam_name : Option (List ℕ)
  pub sid : Option (List ℕ)

-- the octets that a length at a place, and the offset after it, name
unfoldable pub named_of : List ℕ → ℕ → Result (List ℕ) BufferError
named_of b at = first_fault
    ((nat_lt (length b) (short_at (at + 2) b + short_at at b), errors.Range) ∷ [])
    (take (short_at at b) (drop (short_at (at + 2) b) b))

-- a name of these octets, in UTF-16
unfoldable pub name_of : List ℕ → ℕ → Result (List ℕ) BufferError
name_of b at = first_fault ((not (short_at at b % 2 == 0), errors.NameLength) ∷ []) b >>= λ x. named_of x at

-- flag S, the second bit: there are SamName and Sid
abbrev pub has_sid : List ℕ → ℕ
has_sid b = long_at 8 b / 2 % 2

-- with flag S: SamNameLength, SamNameOffset, SidLength, SidOffset
unfoldable pub sam_and_sid_of : List ℕ → List ℕ → List ℕ → Result UpnDns BufferError
sam_and_sid_of b upn domain = if has_sid b == 0 then Ok (record { flags = long_at 8 b; upn = upn; dns_domain_name = domain; sam_name = None; sid = None }) else do
  h ← first_fault ((nat_lt (length b) 20, errors.Truncated) ∷ []) b
  name ← name_of h 12
  octets ← named_of h 16
  sid ← requestor_of octets
  Ok (record { flags = long_at 8 h; upn = upn; dns_domain_name = domain; sam_name = Some name; sid = Some sid })

-- UpnLength, UpnOffset, DnsDomainNameLength, DnsDomainNameOffset, Flags
unfoldable pub upn_dns_of : List ℕ → Result UpnDns BufferError
upn_dns_of b = do
  h ← first_fault ((nat_lt (length b) 12, errors.Truncated) ∷ []) b
  upn ← name_of h 0
  domain ← name_of h 4
  sam_and_sid_of h upn domain
