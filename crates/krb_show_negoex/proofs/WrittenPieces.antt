-- Octets that are taken piece by piece.
use Rattle.std.proofs.Common.{◌≡◌, ◌≢◌, ℕ, zero, suc, ◌+◌, List, [], ◌∷◌, ◌++◌, length, drop, Option, None, Some, slice_get, refl, sym, ap, ◌∙◌, subst, drop-cons, append_assoc, arith}
use Rattle.std.proofs.lemmas.List.{append_cancel_left, append-nil}
use Rattle.std.proofs.lemmas.Option.{get_or_from_slice_get, slice_get_within}
use Rattle.std.specs.Borrow.{Bor}
use Rattle.std.specs.List.{flat_map}
use Rattle.byteorder.specs.Endian.{little_bytes}
use Rattle.krb_negoex.specs.View.{ExtensionSeen}
use Rattle.krb_show_negoex.specs.Negoex.{IsBehind, heads_octets, place_octets}

-- the octets are a piece and what follows exactly where these are a smaller piece and the same
pub record IsLeft (octets piece rest part : List ℕ) : Type 0 where
  pub to : (xs : List ℕ) → octets ≡ piece ++ xs → rest ≡ part ++ xs
  pub back : (xs : List ℕ) → rest ≡ part ++ xs → octets ≡ piece ++ xs

pub left_all : (octets piece : List ℕ) → IsLeft octets piece octets piece
left_all octets piece = record { to = λ xs e. e; back = λ xs e. e }

pub left_more : (octets piece rest part head tail trailing : List ℕ) → IsLeft octets piece rest part → part ≡ head ++ tail → rest ≡ head ++ trailing
    → IsLeft octets piece trailing tail
left_more octets piece rest part head tail trailing left same found = record {
  to = λ xs e. append_cancel_left head trailing (tail ++ xs)
      (sym found ∙ left.to xs e ∙ ap (λ z. z ++ xs) same ∙ append_assoc head tail xs);
  back = λ xs e. left.back xs (found ∙ ap (λ z. head ++ z) e ∙ sym (append_assoc head tail xs) ∙ ap (λ z. z ++ xs) (sym same));
}

pub left_none : (octets piece rest part head tail : List ℕ) → IsLeft octets piece rest part → part ≡ head ++ tail → ((xs : List ℕ) → rest ≢ head ++ xs)
    → (xs : List ℕ) → octets ≢ piece ++ xs
left_none octets piece rest part head tail left same missing xs e =
    missing (tail ++ xs) (left.to xs e ∙ ap (λ z. z ++ xs) same ∙ append_assoc head tail xs)

pub left_end : (octets piece rest part : List ℕ) → IsLeft octets piece rest part → part ≡ [] → octets ≡ piece ++ rest
left_end octets piece rest part left none = left.back rest (ap (λ z. z ++ rest) (sym none))

-- two pieces
pub behind_both : (octets a b rest : List ℕ) (result : Option (Bor (List ℕ))) → octets ≡ a ++ rest → IsBehind rest b result → IsBehind octets (a ++ b) result
behind_both octets a b rest None found missing =
    left_none octets (a ++ b) rest b b [] (left_more octets (a ++ b) octets (a ++ b) a b rest (left_all octets (a ++ b)) refl found) (sym (append-nil b)) missing
behind_both octets a b rest (Some x) found there = found ∙ ap (λ z. a ++ z) there ∙ sym (append_assoc a b x.now)

pub behind_neither : (octets a b : List ℕ) → ((xs : List ℕ) → octets ≢ a ++ xs) → (xs : List ℕ) → octets ≢ (a ++ b) ++ xs
behind_neither octets a b missing xs e = missing (b ++ xs) (e ∙ append_assoc a b xs)

-- the element that is next
pub next : {A : Type 0} (xs : List A) (n : ℕ) (x : A) → Some x ≡ slice_get xs n → drop n xs ≡ x ∷ drop (n + 1) xs
next xs n x e =
    let same : suc n ≡ n + 1 = omega arith in
    drop-cons xs n x (slice_get_within xs n x (sym e)) ∙ ap (λ z. z ∷ drop (suc n) xs) (get_or_from_slice_get xs n x x (sym e)) ∙ ap (λ k. x ∷ drop k xs) same

-- the place of a vector with elements
pub place_more : (offset count : ℕ) → count ≢ 0 → place_octets offset count ≡ little_bytes 4 offset ++ little_bytes 4 count
place_more offset zero more = absurd (more refl)
place_more offset (suc n) more = refl

-- where nothing is behind
pub all_said : (octets piece rest : List ℕ) → octets ≡ piece ++ rest → length rest ≡ 0 → octets ≡ piece
all_said octets piece [] e none = e ∙ append-nil piece
all_said octets piece (x ∷ xs) e none = absurd (omega (arith, none))

pub more_unsaid : (octets piece rest : List ℕ) → octets ≡ piece ++ rest → length rest ≢ 0 → octets ≢ piece
more_unsaid octets piece rest e more same =
    more (ap length (append_cancel_left piece rest [] (sym e ∙ same ∙ sym (append-nil piece))))

pub none_said : (octets piece : List ℕ) (result : Option (Bor (List ℕ))) → IsBehind octets piece result → result ≡ None → (octets ≡ octets) × (octets ≢ piece)
none_said octets piece result behind none =
    let missing : (rest : List ℕ) → octets ≢ piece ++ rest = subst (λ (r : Option (Bor (List ℕ))). IsBehind octets piece r) none behind in
    (refl, λ e. missing [] (e ∙ sym (append-nil piece)))

-- a piece is taken, where these are left, and the part that is left begins with it
module _ (octets piece rest part head tail : List ℕ) (left : IsLeft octets piece rest part) (same : part ≡ head ++ tail) (result : Option (Bor (List ℕ))) (behind : IsBehind rest head result) where
  pub step_none : result ≡ None → (xs : List ℕ) → octets ≢ piece ++ xs
  step_none none = left_none octets piece rest part head tail left same (subst (λ (r : Option (Bor (List ℕ))). IsBehind rest head r) none behind)

  pub step_more : (trailing : Bor (List ℕ)) → result ≡ Some trailing → IsLeft octets piece trailing.now tail
  step_more trailing some =
      left_more octets piece rest part head tail trailing.now left same (subst (λ (r : Option (Bor (List ℕ))). IsBehind rest head r) some behind)

-- the octets of each element of a list, one behind another
module _ {A : Type 0} (f : A → List ℕ) (all : List A) (n : ℕ) (x : A) (octets rest : List ℕ) (left : IsLeft octets (flat_map f all) rest (flat_map f (drop n all)))
    (there : Some x ≡ slice_get all n) (result : Option (Bor (List ℕ))) where
  pub each_none : IsBehind rest (f x) result → result ≡ None → (xs : List ℕ) → octets ≢ flat_map f all ++ xs
  each_none behind = step_none octets (flat_map f all) rest (flat_map f (drop n all)) (f x) (flat_map f (drop (n + 1) all)) left (ap (flat_map f) (next all n x there)) result behind

pub each_more : {A : Type 0} (f : A → List ℕ) (all : List A) (n : ℕ) (x : A) (octets rest : List ℕ) → IsLeft octets (flat_map f all) rest (flat_map f (drop n all))
    → Some x ≡ slice_get all n → (result : Option (Bor (List ℕ))) (trailing : Bor (List ℕ)) → IsBehind rest (f x) result → result ≡ Some trailing
    → IsLeft octets (flat_map f all) trailing.now (flat_map f (drop (n + 1) all))
each_more f all n x octets rest left there result trailing behind =
    step_more octets (flat_map f all) rest (flat_map f (drop n all)) (f x) (flat_map f (drop (n + 1) all)) left (ap (flat_map f) (next all n x there)) result behind trailing

-- the fixed parts of extensions
module _ (start offset : ℕ) (all : List ExtensionSeen) (n : ℕ) (x : ExtensionSeen) (kind : ℕ) (value octets rest : List ℕ)
    (left : IsLeft octets (heads_octets start all) rest (heads_octets offset (drop n all))) (there : Some x ≡ slice_get all n) (of_kind : kind ≡ x.extension_type) (of_value : value ≡ x.extension_value)
    (result : Option (Bor (List ℕ))) where
  heads_next : heads_octets offset (drop n all) ≡ (little_bytes 4 kind ++ place_octets offset (length value)) ++ heads_octets (offset + length value) (drop (n + 1) all)
  heads_next = rw (of_kind, of_value) (ap (heads_octets offset) (next all n x there))

  pub heads_none : IsBehind rest (little_bytes 4 kind ++ place_octets offset (length value)) result → result ≡ None → (xs : List ℕ) → octets ≢ heads_octets start all ++ xs
  heads_none behind =
      step_none octets (heads_octets start all) rest (heads_octets offset (drop n all)) (little_bytes 4 kind ++ place_octets offset (length value))
      (heads_octets (offset + length value) (drop (n + 1) all)) left heads_next result behind

  pub heads_more : (trailing : Bor (List ℕ)) → IsBehind rest (little_bytes 4 kind ++ place_octets offset (length value)) result → result ≡ Some trailing
      → IsLeft octets (heads_octets start all) trailing.now (heads_octets (offset + length value) (drop (n + 1) all))
  heads_more trailing behind =
      step_more octets (heads_octets start all) rest (heads_octets offset (drop n all)) (little_bytes 4 kind ++ place_octets offset (length value))
      (heads_octets (offset + length value) (drop (n + 1) all)) left heads_next result behind trailing
