-- OBJECT IDENTIFIER (X.690, 8.19).
use Rattle.std.specs.Prelude.{ℕ, ◌+◌, ◌*◌, ◌/◌, ◌%◌, ◌<◌, ◌≤◌, ◌^◌, List, [], ◌∷◌, ◌++◌, length, slice_index}
use Rattle.std.specs.List.{flat_map}
use Rattle.std.specs.Int.Digits.{digits_of}
use Rattle.std.specs.Fmt.{decimal}
use Rattle.krb_der_core.specs.Tlv.{tlv}

-- digits in base 128 that are not the last: each is 128 more
abbrev pub continued : List ℕ → List ℕ
continued [] = []
continued (d ∷ ds) = (128 + d) ∷ continued ds

-- A sub-identifier (8.19.2): the shortest octets of the number in base 128, the highest first, each but the last 128 more.
unfoldable pub sub_identifier : ℕ → List ℕ
sub_identifier n = continued (digits_of 128 (n / 128)) ++ n % 128 ∷ []

-- the first sub-identifier joins the first two arcs (8.19.4)
abbrev pub sub_identifiers : List ℕ → List ℕ
sub_identifiers [] = []
sub_identifiers (a ∷ []) = a ∷ []
sub_identifiers (a ∷ b ∷ arcs) = (40 * a + b) ∷ arcs

-- the content of an object identifier with these arcs
abbrev pub arcs_content : List ℕ → List ℕ
arcs_content arcs = flat_map sub_identifier (sub_identifiers arcs)

-- The arcs of an object identifier (X.660, A.2): at least two, the first at most 2, and the second at most 39 below 0
-- and 1. Each sub-identifier is below 2^64.
pub record IsArcs (arcs : List ℕ) : Type 0 where
  pub some : 2 ≤ length arcs
  pub root : slice_index arcs 0 ≤ 2
  pub second : slice_index arcs 0 < 2 → slice_index arcs 1 ≤ 39
  pub first : 40 * slice_index arcs 0 + slice_index arcs 1 < 2 ^ 64
  pub each : (i : ℕ) → slice_index arcs i < 2 ^ 64

-- numbers in decimal, a dot (46) before each
abbrev pub dots_before : List ℕ → List ℕ
dots_before arcs = flat_map (λ a. 46 ∷ decimal a) arcs

-- the arcs in decimal, separated by dots (RFC 4512, 1.4: numericoid)
abbrev pub dotted : List ℕ → List ℕ
dotted [] = []
dotted (a ∷ arcs) = decimal a ++ dots_before arcs

-- OBJECT IDENTIFIER: universal 6 (X.690, 8.19)
abbrev pub object_identifier : List ℕ → List ℕ
object_identifier arcs = tlv 6 (arcs_content arcs)
