-- Flags as octets (RFC 4120, 5.2.8; X.690, 8.6.2.1).
use Rattle.std.specs.Prelude.{◌≡◌, ◌↔◌, ℕ, ◌+◌, ◌*◌, ◌==◌, List, length, if◌then◌else◌, IsTrue, Contains}
use Rattle.std.specs.List.{list_any}
use Rattle.krb_der_core.specs.BitString.{Bits}
use Rattle.krb_types.specs.Flags.{is_set}

-- 32 bits, of which those of these numbers are set and no others
pub record AreFlags (numbers : List ℕ) (bits : Bits) : Type 0 where
  pub size : length bits.octets ≡ 4
  pub whole : bits.spare ≡ 0
  pub exact : (n : ℕ) → IsTrue (is_set bits.octets n) ↔ Contains numbers n

-- 1 where the number is in the list, and 0 elsewhere
abbrev pub has : List ℕ → ℕ → ℕ
has numbers n = if list_any (λ m. m == n) numbers then 1 else 0

-- eight bits from this number on, the highest first
unfoldable pub octet : List ℕ → ℕ → ℕ
octet numbers first =
    128 * has numbers first + 64 * has numbers (first + 1) + 32 * has numbers (first + 2) + 16 * has numbers (first + 3)
    + 8 * has numbers (first + 4) + 4 * has numbers (first + 5) + 2 * has numbers (first + 6) + has numbers (first + 7)
