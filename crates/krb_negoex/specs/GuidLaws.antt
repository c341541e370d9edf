-- A GUID in its little-endian form (MS-DTYP 2.3.4.2): four octets, two and two turned, and eight as they are.
use Rattle.std.proofs.Common.{◌≡◌, ℕ, zero, suc, ◌≤◌, List, [], ◌∷◌, ◌++◌, length, take, slice_index, refl, sym, ap, ◌∙◌, arith}
use Rattle.std.proofs.lemmas.List.{length-take, take_all}
use Rattle.std.specs.declared.io.Error.{Error}
use Rattle.uuid.specs.Parts.{swap_fields}
use Rattle.krb_negoex.specs.Rejected.{IsCut, IsMemory}

pub record GuidPart (f m : List ℕ) (v : List ℕ) : Type 0 where
  pub room : 16 ≤ length f
  pub value : v ≡ swap_fields (take 16 f)

pub guid_room : (f m : List ℕ) (v : List ℕ) → GuidPart f m v → 16 ≤ length f
guid_room f m v x = x.room

pub one_guid : (f m v w : List ℕ) → GuidPart f m v → GuidPart f m w → v ≡ w
one_guid f m v w x y = x.value ∙ sym y.value

pub no_guid : (f m : List ℕ) (e : Error) (v : List ℕ) → IsCut 16 f e → GuidPart f m v → IsMemory e
no_guid f m e v r x = let room = x.room in absurd (omega (arith, r.1))

abbrev sixteen : List ℕ → List ℕ
sixteen xs =
    slice_index xs 0 ∷ slice_index xs 1 ∷ slice_index xs 2 ∷ slice_index xs 3 ∷ slice_index xs 4 ∷ slice_index xs 5 ∷ slice_index xs 6 ∷ slice_index xs 7
    ∷ slice_index xs 8 ∷ slice_index xs 9 ∷ slice_index xs 10 ∷ slice_index xs 11 ∷ slice_index xs 12 ∷ slice_index xs 13 ∷ slice_index xs 14 ∷ slice_index xs 15 ∷ []

-- a list is its elements by index, from k on
abbrev by_place : ℕ → ℕ → List ℕ → List ℕ
by_place k zero xs = []
by_place k (suc n) xs = slice_index xs k ∷ by_place (suc k) n xs

by_place-cons : (k n x : ℕ) (xs : List ℕ) → by_place (suc k) n (x ∷ xs) ≡ by_place k n xs
by_place-cons k zero x xs = refl
by_place-cons k (suc n) x xs = ap (λ (z : List ℕ). slice_index xs k ∷ z) (by_place-cons (suc k) n x xs)

is_by_place : (xs : List ℕ) → xs ≡ by_place 0 (length xs) xs
is_by_place [] = refl
is_by_place (x ∷ xs) = ap (λ (z : List ℕ). x ∷ z) (is_by_place xs ∙ sym (by_place-cons 0 (length xs) x xs))

as_sixteen : (xs : List ℕ) → length xs ≡ 16 → xs ≡ sixteen xs
as_sixteen xs e = is_by_place xs ∙ ap (λ (n : ℕ). by_place 0 n xs) e

pub guid_back : (v m f : List ℕ) → length v ≡ 16 → GuidPart (swap_fields v ++ f) m v
guid_back v m f e = record { room = omega arith; value = as_sixteen v e }

pub guid_prefix : (f m v : List ℕ) → GuidPart (take 16 f) m v → GuidPart f m v
guid_prefix f m v x =
    let room = x.room in
    let long = length-take 16 f in
    record { room = omega arith; value = x.value ∙ ap swap_fields (take_all 16 (take 16 f) (omega arith)) }

pub guid_trailing : (f m v : List ℕ) → GuidPart f m v → GuidPart (take 16 f) m v
guid_trailing f m v x =
    let room = x.room in
    let long = length-take 16 f in
    record { room = omega arith; value = x.value ∙ ap swap_fields (sym (take_all 16 (take 16 f) (omega arith))) }
