-- Octets rotated, and rotated back.
use Rattle.std.proofs.Common.{◌≡◌, ℕ, ◌-◌, ◌%◌, ◌≤◌, List, [], ◌∷◌, ◌++◌, length, take, drop, refl, sym, ap, ◌∙◌, subst, arith}
use Rattle.std.proofs.lemmas.List.{length-append, length-drop, length-take-le, take-append-drop}
use Rattle.std.proofs.Math.Seq.{drop-nil, take-nil, drop-append_seam, take-append_seam}
use Rattle.krb_gss_per_message.specs.Rotation.{last_first, rotated_right}

-- none are rotated to none
pub rotated_none : (count : ℕ) (xs : List ℕ) → length xs ≡ 0 → xs ≡ rotated_right count xs
rotated_none count [] e = sym (rw (drop-nil, take-nil) refl)
rotated_none count (x ∷ xs) e = absurd (omega arith)

-- the first of two parts, put last, is there again when as many octets are put first
seam : (front back : List ℕ) → last_first (length front) (back ++ front) ≡ front ++ back
seam front back =
    let count : length (back ++ front) - length front ≡ length back = omega (arith, length-append back front) in
    rw count (rw (drop-append_seam, take-append_seam) refl)

-- the first m octets, put last and then first again
pub first_last : (m : ℕ) (xs : List ℕ) → m ≤ length xs → last_first m (drop m xs ++ take m xs) ≡ xs
first_last m xs le =
    subst (λ (k : ℕ). last_first k (drop m xs ++ take m xs) ≡ xs) (length-take-le m xs le) (seam (take m xs) (drop m xs) ∙ take-append-drop m xs)

-- the first m octets put last
undone : ℕ → List ℕ → List ℕ
undone m xs = drop m xs ++ take m xs

undone_seam : (front back : List ℕ) → undone (length front) (front ++ back) ≡ back ++ front
unfolding undone
undone_seam front back = rw (drop-append_seam, take-append_seam) refl

last_undone : (m : ℕ) (xs : List ℕ) → m ≤ length xs → undone m (last_first m xs) ≡ xs
last_undone m xs le =
    let cut : ℕ = length xs - m in
    let size : length (drop cut xs) ≡ m = length-drop cut xs ∙ omega arith in
    subst (λ (k : ℕ). undone k (last_first m xs) ≡ xs) size (undone_seam (drop cut xs) (take cut xs) ∙ take-append-drop cut xs)

pub rotated_length : (count : ℕ) (xs : List ℕ) → length (rotated_right count xs) ≡ length xs
rotated_length count xs =
    let cut : ℕ = length xs - count % length xs in
    length-append (drop cut xs) (take cut xs) ∙ omega (arith, ap length (take-append-drop cut xs), length-append (take cut xs) (drop cut xs))

-- octets are rotated to other octets than others
pub rotated_once : (count : ℕ) (xs ys : List ℕ) → rotated_right count xs ≡ rotated_right count ys → xs ≡ ys
rotated_once count [] [] e = refl
rotated_once count [] (y ∷ ys) e =
    let size = sym (rotated_length count []) ∙ ap length e ∙ rotated_length count (y ∷ ys) in
    absurd (omega arith)
rotated_once count (x ∷ xs) [] e =
    let size = sym (rotated_length count (x ∷ xs)) ∙ ap length e ∙ rotated_length count [] in
    absurd (omega arith)
rotated_once count (x ∷ xs) (y ∷ ys) e =
    let size : length (x ∷ xs) ≡ length (y ∷ ys) = sym (rotated_length count (x ∷ xs)) ∙ ap length e ∙ rotated_length count (y ∷ ys) in
    let m : ℕ = count % length (x ∷ xs) in
    let le : m ≤ length (x ∷ xs) = omega arith in
    let more : m ≤ length (y ∷ ys) = omega arith in
    let same : last_first m (x ∷ xs) ≡ last_first m (y ∷ ys) = e ∙ ap (λ (k : ℕ). last_first (count % k) (y ∷ ys)) (sym size) in
    sym (last_undone m (x ∷ xs) le) ∙ ap (undone m) same ∙ last_undone m (y ∷ ys) more

-- all octets are some rotated by the count
pub unrotated : (count : ℕ) (xs : List ℕ) → (octets : List ℕ) × (xs ≡ rotated_right count octets)
unrotated count [] = ([], rotated_none count [] refl)
unrotated count (x ∷ xs) =
    let m : ℕ = count % length (x ∷ xs) in
    let le : m ≤ length (x ∷ xs) = omega arith in
    let octets : List ℕ = drop m (x ∷ xs) ++ take m (x ∷ xs) in
    let size : length octets ≡ length (x ∷ xs) =
    length-append (drop m (x ∷ xs)) (take m (x ∷ xs)) ∙ omega (arith, ap length (take-append-drop m (x ∷ xs)), length-append (take m (x ∷ xs)) (drop m (x ∷ xs))) in
    (octets, sym (first_last m (x ∷ xs) le) ∙ ap (λ (k : ℕ). last_first (count % k) octets) (sym size))
