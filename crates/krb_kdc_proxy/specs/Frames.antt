-- Frames in which passwords are changed (RFC 3244, 2).
use Rattle.std.specs.Prelude.{◌≡◌, ◌⊎◌, ℕ, ◌+◌, ◌<◌, ◌^◌, List, [], ◌∷◌, ◌++◌, length}
use Rattle.std.specs.Int.{to_be_bytes, w16}
use Rattle.krb_kdc_proxy.specs.declared.frame.Direction.{Direction}
use Rattle.krb_kdc_proxy.specs.declared.frame.Direction.TheVariants as direction

-- A frame: two octets of its own length, the highest first; its version; two octets of the first message's length; the messages.
abbrev pub frame : List ℕ → List ℕ → List ℕ → List ℕ
frame version first second = to_be_bytes w16 (6 + (length first + length second)) ++ (version ++ (to_be_bytes w16 (length first) ++ (first ++ second)))

-- The version of a request is 1, or ff80 where it may name whose password is set; that of a reply is 1.
abbrev pub IsVersion : Direction → List ℕ → Type 0
IsVersion direction.Request version = (version ≡ 0 ∷ 1 ∷ []) ⊎ (version ≡ 255 ∷ 128 ∷ [])
IsVersion direction.Reply version = version ≡ 0 ∷ 1 ∷ []

-- The octets begin as a frame: the first two are the length of the whole, the next two are such a version.
pub record BeginsAsFrame (direction : Direction) (octets : List ℕ) : Type 0 where
  pub version : List ℕ
  pub rest : List ℕ
  pub is_version : IsVersion direction version
  pub short : length octets < 2 ^ 16
  pub whole : octets ≡ to_be_bytes w16 (length octets) ++ (version ++ rest)

-- The octets are a frame of these messages.
pub record IsFrame (direction : Direction) (octets first second : List ℕ) : Type 0 where
  pub version : List ℕ
  pub is_version : IsVersion direction version
  pub short : length octets < 2 ^ 16
  pub whole : octets ≡ frame version first second

-- the octets are no frame, whatever its messages are
abbrev pub IsNoFrame : Direction → List ℕ → Type 0
IsNoFrame direction octets = (first second : List ℕ) → IsFrame direction octets first second → ⊥
