-- The octets, and the elements, that are computed from a message.
use borrow.Author.Count.{below_more}
use Rattle.std.proofs.Common.{◌≡◌, ℕ, zero, suc, ◌+◌, ◌-◌, ◌*◌, ◌<◌, ◌≤◌, inr, List, [], ◌∷◌, length, take, drop, Some, Result, Ok, Err, IfOk, IfErr, slice_get, refl, sym, ap, ◌∙◌, subst, length-drop, arith}
use Rattle.std.specs.IoError.{error_kind}
use Rattle.std.specs.Result.{result_ok}
use Rattle.std.specs.declared.io.Error.{Error}
use Rattle.std.specs.declared.io.ErrorKind.TheVariants.{UnexpectedEof}
use Rattle.std.proofs.lemmas.List.{drop-drop, length-take}
use Rattle.byteorder.specs.Endian.{little_number}
use Rattle.krb_negoex.specs.Layouts.{Layout, NumberPart, ThenPart, ThenRejected}
use Rattle.krb_negoex.specs.Parts.{Elements, VectorPart}
use Rattle.krb_negoex.specs.Rejected.{IsCut, ElementRejected}
use Rattle.krb_negoex.specs.View.{ExtensionSeen, IsNotMemory, extension_view_layout, octets_of, extension_of, elements_of, AreThere}

octet_at : (xs : List ℕ) → 1 ≤ length xs → xs ≡ little_number 1 xs ∷ drop 1 xs
octet_at [] h = absurd (omega arith)
octet_at (x ∷ xs) h = ap (λ (z : ℕ). z ∷ xs) (omega arith)

next_octet : (m : List ℕ) (k : ℕ) → 1 ≤ length (drop k m) → drop k m ≡ little_number 1 (drop k m) ∷ drop (k + 1) m
next_octet m k h = octet_at (drop k m) h ∙ ap (λ (z : List ℕ). little_number 1 (drop k m) ∷ z) (drop-drop 1 k m)

octets_there : (m : List ℕ) (k n : ℕ) → k + n ≤ length m → Elements (NumberPart 1) 1 m k (take n (drop k m))
octets_there m k zero h = tt
octets_there m k (suc n) h =
    let long = length-drop k m in
    let room : 1 ≤ length (drop k m) = omega arith in
    let first : NumberPart 1 (drop k m) m (little_number 1 (drop k m)) = record { room = room; value = refl } in
    let both : Elements (NumberPart 1) 1 m k (take (suc n) (little_number 1 (drop k m) ∷ drop (k + 1) m)) = (first, octets_there m (k + 1) n (omega arith)) in
    subst (λ (z : List ℕ). Elements (NumberPart 1) 1 m k (take (suc n) z)) (sym (next_octet m k room)) both

octets_are : (m : List ℕ) (k : ℕ) (vs : List ℕ) → Elements (NumberPart 1) 1 m k vs → vs ≡ take (length vs) (drop k m)
octets_are m k [] x = refl
octets_are m k (v ∷ vs) x =
    let d : drop k m ≡ v ∷ drop (k + 1) m = next_octet m k x.0.room ∙ ap (λ (z : ℕ). z ∷ drop (k + 1) m) x.0.value in
    ap (λ (z : List ℕ). v ∷ z) (octets_are m (k + 1) vs x.1) ∙ ap (take (suc (length vs))) (sym d)

-- the octets that a vector names are those that are computed
pub is_octets : (f m vs : List ℕ) → VectorPart (NumberPart 1) 1 f m vs → vs ≡ octets_of f m
is_octets f m vs x = octets_are m (little_number 4 f) vs x.elements ∙ ap (λ (n : ℕ). take n (drop (little_number 4 f) m)) (sym x.count)

-- the octets are all there
pub octets_found : (f trailing m named v : List ℕ) (o n : ℕ) → little_number 4 f ≡ o → trailing ≡ drop 4 f → 4 ≤ length trailing → little_number 4 trailing ≡ n → o ≤ length m
    → v ≡ take n named → named ≡ drop o m → n ≤ length named → VectorPart (NumberPart 1) 1 f m v
octets_found f trailing m named v o n at b room count inside front back h =
    let long = ap length b ∙ length-drop 4 f in
    let size = length-take n named in
    let sized = ap length front in
    let left = ap length back ∙ length-drop o m in
    let all : little_number 4 (drop 4 f) ≡ n = sym (ap (little_number 4) b) ∙ count in
    let here : v ≡ take n (drop (little_number 4 f) m) = front ∙ ap (take n) (back ∙ ap (λ (k : ℕ). drop k m) (sym at)) in
    record {
      room = omega arith;
      count = omega arith;
      inside = subst (λ (k : ℕ). k ≤ length m) (sym at) inside;
      elements = subst (Elements (NumberPart 1) 1 m (little_number 4 f)) (sym here) (octets_there m (little_number 4 f) n (omega arith));
    }

-- the message ends before the octets do
pub octets_cut : (f trailing m named : List ℕ) (o n : ℕ) (e : Error) → error_kind e ≡ UnexpectedEof → little_number 4 f ≡ o → trailing ≡ drop 4 f → 4 ≤ length trailing → little_number 4 trailing ≡ n
    → o ≤ length m → named ≡ drop o m → length named < n → ElementRejected (NumberPart 1) (λ f m e. IsCut 1 f e) 1 f m e
octets_cut f trailing m named o n e kind at b room count inside back h =
    let long = ap length b ∙ length-drop 4 f in
    let left = ap length back ∙ length-drop o m in
    let all : little_number 4 (drop 4 f) ≡ n = sym (ap (little_number 4) b) ∙ count in
    let rest = length-drop (little_number 4 f) m in
    let before = length-take (length m - little_number 4 f) (drop (little_number 4 f) m) in
    let size = length (take (length m - little_number 4 f) (drop (little_number 4 f) m)) in
    let none = length-drop (little_number 4 f + 1 * length (take (length m - little_number 4 f) (drop (little_number 4 f) m))) m in
    record {
      room = omega arith;
      inside = subst (λ (k : ℕ). k ≤ length m) (sym at) inside;
      before = take (length m - little_number 4 f) (drop (little_number 4 f) m);
      more = omega arith;
      elements = octets_there m (little_number 4 f) (length m - little_number 4 f) (omega arith);
      error = (kind, omega arith);
    }

pub is_extension : (f m : List ℕ) (v : ExtensionSeen) → extension_view_layout.part f m v → v ≡ extension_of f m
is_extension f m v x =
    let mk : ℕ → List ℕ → ExtensionSeen = λ t o. record { extension_type = t; extension_value = o } in
    ap (λ (t : ℕ). mk t v.extension_value) (sym x.0.value) ∙ ap (mk (little_number 4 f)) (is_octets (drop 4 f) m v.extension_value x.1)

pub length_elements : {A : Type 0} (read : List ℕ → List ℕ → A) (width : ℕ) (m : List ℕ) (k n : ℕ) → length (elements_of read width m k n) ≡ n
unfolding elements_of
length_elements read width m k zero = refl
length_elements read width m k (suc n) = ap suc (length_elements read width m (k + width) n)

get_elements : {A : Type 0} (read : List ℕ → List ℕ → A) (width : ℕ) (m : List ℕ) (o n k : ℕ) → k < n → slice_get (elements_of read width m o n) k ≡ Some (read (drop (o + width * k) m) m)
unfolding elements_of
get_elements read width m o zero k h = absurd (omega arith)
get_elements read width m o (suc n) zero h = ap (λ (j : ℕ). Some (read (drop j m) m)) (omega arith)
get_elements read width m o (suc n) (suc k) h =
    let e : o + width + width * k ≡ o + width * suc k = omega arith in
    get_elements read width m (o + width) n k (omega arith) ∙ ap (λ (j : ℕ). Some (read (drop j m) m)) e

elements_there : {A : Type 0} (part : List ℕ → List ℕ → A → Type 0) (read : List ℕ → List ℕ → A) (width : ℕ) (m : List ℕ) (o n : ℕ) → AreThere part read width m o n
    → Elements part width m o (elements_of read width m o n)
unfolding elements_of
elements_there part read width m o zero f = tt
elements_there part read width m o (suc n) f =
    let e : o + width * 0 ≡ o = omega arith in (
      subst (λ (j : ℕ). part (drop j m) m (read (drop j m) m)) e (f 0 (omega arith)),
      elements_there part read width m (o + width) n (λ k h.
          let g : o + width * suc k ≡ o + width + width * k = omega arith in
          subst (λ (j : ℕ). part (drop j m) m (read (drop j m) m)) g (f (suc k) (omega arith))),
    )

module _ {A : Type 0} (l : Layout A) (read : List ℕ → List ℕ → A) (is : (f m : List ℕ) (v : A) → l.part f m v → v ≡ read f m) where
  -- one more element is there
  pub more_there : (m g : List ℕ) (o n : ℕ) (v : A) → g ≡ drop (o + l.width * n) m → l.part g m v → AreThere l.part read l.width m o n → AreThere l.part read l.width m o (n + 1)
  more_there m g o n v e x f =
      let here : l.part (drop (o + l.width * n) m) m v = subst (λ (z : List ℕ). l.part z m v) e x in
      below_more (λ k. l.part (drop (o + l.width * k) m) m (read (drop (o + l.width * k) m) m)) n f
      (subst (l.part (drop (o + l.width * n) m) m) (is (drop (o + l.width * n) m) m v here) here)

  -- all elements are there
  pub vector_found : (f trailing m : List ℕ) (o n : ℕ) → little_number 4 f ≡ o → trailing ≡ drop 4 f → 4 ≤ length trailing → little_number 4 trailing ≡ n → o ≤ length m
      → AreThere l.part read l.width m o n → VectorPart l.part l.width f m (elements_of read l.width m o n)
  vector_found f trailing m o n at b room count inside there =
      let long = ap length b ∙ length-drop 4 f in
      let all : little_number 4 (drop 4 f) ≡ n = sym (ap (little_number 4) b) ∙ count in
      record {
        room = omega arith;
        count = all ∙ sym (length_elements read l.width m o n);
        inside = subst (λ (k : ℕ). k ≤ length m) (sym at) inside;
        elements = subst (λ (k : ℕ). Elements l.part l.width m k (elements_of read l.width m o n)) (sym at) (elements_there l.part read l.width m o n there);
      }

  -- the element after those that are there is rejected
  pub vector_rejected : (f trailing m g : List ℕ) (o n i : ℕ) (e : Error) → little_number 4 f ≡ o → trailing ≡ drop 4 f → 4 ≤ length trailing → little_number 4 trailing ≡ n → o ≤ length m → i < n
      → AreThere l.part read l.width m o i → g ≡ drop (o + l.width * i) m → l.rejects g m e → ElementRejected l.part l.rejects l.width f m e
  vector_rejected f trailing m g o n i e at b room count inside less there here r =
      let long = ap length b ∙ length-drop 4 f in
      let all : little_number 4 (drop 4 f) ≡ n = sym (ap (little_number 4) b) ∙ count in
      let many : length (elements_of read l.width m o i) ≡ i = length_elements read l.width m o i in
      let place : o + l.width * i ≡ little_number 4 f + l.width * length (elements_of read l.width m o i) =
      ap (λ (k : ℕ). k + l.width * i) (sym at) ∙ ap (λ (k : ℕ). little_number 4 f + l.width * k) (sym many) in
      record {
        room = omega arith;
        inside = subst (λ (k : ℕ). k ≤ length m) (sym at) inside;
        before = elements_of read l.width m o i;
        more = omega arith;
        elements = subst (λ (k : ℕ). Elements l.part l.width m k (elements_of read l.width m o i)) (sym at) (elements_there l.part read l.width m o i there);
        error = subst (λ (z : List ℕ). l.rejects z m e) (here ∙ ap (λ (k : ℕ). drop k m) place) r;
      }

  -- the result of looking at an element that is there
  pub looked_up : (m g : List ℕ) (o n count : ℕ) (xs : List A) (r : Result A Error) → elements_of read l.width m o count ≡ xs → n < count → AreThere l.part read l.width m o count
      → g ≡ drop (o + l.width * n) m → IfOk r (l.part g m) → IfErr r (l.rejects g m) → IfErr r IsNotMemory → result_ok r ≡ slice_get xs n
  looked_up m g o n count xs (Ok v) e h there here found rejected memory =
      let x : l.part (drop (o + l.width * n) m) m v = subst (λ (z : List ℕ). l.part z m v) here found in
      ap Some (is (drop (o + l.width * n) m) m v x) ∙ sym (get_elements read l.width m o count n h) ∙ ap (λ (z : List A). slice_get z n) e
  looked_up m g o n count xs (Err f) e h there here found rejected memory =
      absurd (memory (l.no_part (drop (o + l.width * n) m) m f (read (drop (o + l.width * n) m) m) (subst (λ (z : List ℕ). l.rejects z m f) here rejected) (there n h)))

-- the error of what comes after a part
pub then_rejected : {A B : Type 0} (a : Layout A) (b : Layout B) (f g m : List ℕ) (v : A) (e : Error) → a.part f m v → g ≡ drop a.width f → b.rejects g m e → ThenRejected a b f m e
then_rejected a b f g m v e x here r = inr (v, x, subst (λ (z : List ℕ). b.rejects z m e) here r)

pub then_found : {A B : Type 0} (a : Layout A) (b : Layout B) (f g m : List ℕ) (v : A) (w : B) → a.part f m v → g ≡ drop a.width f → b.part g m w → ThenPart a b f m (v, w)
then_found a b f g m v w x here y = (x, subst (λ (z : List ℕ). b.part z m w) here y)
