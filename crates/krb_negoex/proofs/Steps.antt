-- What the loops over a vector's elements keep.
use Rattle.std.proofs.Common.{◌≡◌, ℕ, suc, ◌+◌, ◌-◌, ◌*◌, ◌^◌, ◌<◌, ◌≤◌, min, List, [], ◌∷◌, ◌++◌, length, take, drop, get_or, sym, ap, ◌∙◌, subst, append_assoc, length-append, length-drop, arith}
use Rattle.std.proofs.Math.Nat.{mul_comm}
use Rattle.std.proofs.Math.Seq.{drop-cons}
use Rattle.std.proofs.lemmas.Grind.{take_at_read}
use Rattle.std.proofs.lemmas.List.{drop-drop, append-nil, take-append-drop, drop_all}
use Rattle.std.specs.declared.io.Error.{Error}
use Rattle.byteorder.specs.Endian.{little_number}
use Rattle.krb_negoex.specs.Rejected.{ElementRejected}
use Rattle.krb_negoex.specs.Parts.{Elements, AllOf, total, fixeds, AllLaid, VectorLaid}

pub record ElementsRead {A : Type 0} (part : List ℕ → List ℕ → A → Type 0) (width : ℕ) (m rest : List ℕ) (k i : ℕ) (vs : List A) : Type 0 where
  pub count : length vs ≡ i
  pub place : rest ≡ drop (k + width * length vs) m
  pub elements : Elements part width m k vs

module _ {A : Type 0} (part : List ℕ → List ℕ → A → Type 0) (width : ℕ) where
  Elements-push : (m : List ℕ) (k : ℕ) (vs : List A) (v : A) → Elements part width m k vs → part (drop (k + width * length vs) m) m v → Elements part width m k (vs ++ v ∷ [])
  Elements-push m k [] v x y = (subst (λ (j : ℕ). part (drop j m) m v) (omega arith) y, tt)
  Elements-push m k (w ∷ vs) v x y =
      let e : k + width * length (w ∷ vs) ≡ k + width + width * length vs = omega arith in
      (x.0, Elements-push m (k + width) vs v x.1 (subst (λ (j : ℕ). part (drop j m) m v) e y))

  pub more_read : (m rest next : List ℕ) (k i : ℕ) (vs : List A) (v : A) (ws : List A) → ws ≡ vs ++ v ∷ [] → next ≡ drop width rest
      → ElementsRead part width m rest k i vs → part rest m v → ElementsRead part width m next k (i + 1) ws
  more_read m rest next k i vs v ws e n x y =
      let count = x.count in
      let long : length ws ≡ length vs + 1 = ap length e ∙ length-append vs (v ∷ []) in
      let w : width * (length vs + 1) ≡ width * length vs + width = omega arith in
      let trailing : k + width * length vs + width ≡ k + width * length ws = omega (arith, ap (λ (j : ℕ). width * j) long) in
      record {
        count = omega arith;
        place = n ∙ ap (drop width) x.place ∙ drop-drop width (k + width * length vs) m ∙ ap (λ (j : ℕ). drop j m) trailing;
        elements = subst (Elements part width m k) (sym e) (Elements-push m k vs v x.elements (subst (λ (z : List ℕ). part z m v) x.place y));
      }

-- the element after those that were read is rejected
pub element_rejected : {A : Type 0} (part : List ℕ → List ℕ → A → Type 0) (rejects : List ℕ → List ℕ → Error → Type 0) (width : ℕ) (f trailing m rest : List ℕ) (o n i : ℕ) (vs : List A) (e : Error)
    → little_number 4 f ≡ o → trailing ≡ drop 4 f → 4 ≤ length trailing → little_number 4 trailing ≡ n → o ≤ length m → i < n → ElementsRead part width m rest o i vs → rejects rest m e
    → ElementRejected part rejects width f m e
element_rejected part rejects width f trailing m rest o n i vs e at b room count inside more x r =
    let long = ap length b ∙ length-drop 4 f in
    let many = x.count in
    let here : rest ≡ drop (little_number 4 f + width * length vs) m = x.place ∙ ap (λ (k : ℕ). drop (k + width * length vs) m) (sym at) in
    let all : little_number 4 (drop 4 f) ≡ n = sym (ap (little_number 4) b) ∙ count in
    record {
      room = omega arith;
      inside = subst (λ (k : ℕ). k ≤ length m) (sym at) inside;
      before = vs;
      more = omega arith;
      elements = subst (λ (k : ℕ). Elements part width m k vs) (sym at) x.elements;
      error = subst (λ (z : List ℕ). rejects z m e) here r;
    }

-- the loop that lays the elements, after those in vs
pub record ElementsLaid {A : Type 0} (fixed payload : ℕ → A → List ℕ) (size : A → ℕ) (laid : ℕ → A → Type 0) (o : ℕ) (old fs ps : List ℕ) (end : ℕ) (vs : List A) : Type 0 where
  pub fixed_parts : fs ≡ old ++ fixeds fixed size o vs
  pub payloads : ps ≡ fixeds payload size o vs
  pub all_laid : AllLaid laid size o vs
  pub place : end ≡ o + total size vs

module _ {A : Type 0} (size : A → ℕ) where
  total-push : (vs : List A) (v : A) → total size (vs ++ v ∷ []) ≡ total size vs + size v
  total-push [] v = omega arith
  total-push (w ∷ vs) v = let ih = total-push vs v in omega arith

  fixeds-push : (fixed : ℕ → A → List ℕ) (o : ℕ) (vs : List A) (v : A) → fixeds fixed size o (vs ++ v ∷ []) ≡ fixeds fixed size o vs ++ fixed (o + total size vs) v
  fixeds-push fixed o [] v = append-nil (fixed o v) ∙ ap (λ (k : ℕ). fixed k v) (omega arith)
  fixeds-push fixed o (w ∷ vs) v =
      let e : o + size w + total size vs ≡ o + (size w + total size vs) = omega arith in
      ap (λ (z : List ℕ). fixed o w ++ z) (fixeds-push fixed (o + size w) vs v) ∙ sym (append_assoc (fixed o w) (fixeds fixed size (o + size w) vs) (fixed (o + size w + total size vs) v))
      ∙ ap (λ (k : ℕ). (fixed o w ++ fixeds fixed size (o + size w) vs) ++ fixed k v) e

  AllLaid-push : (laid : ℕ → A → Type 0) (o : ℕ) (vs : List A) (v : A) → AllLaid laid size o vs → laid (o + total size vs) v → AllLaid laid size o (vs ++ v ∷ [])
  AllLaid-push laid o [] v x y = (subst (λ (k : ℕ). laid k v) (omega arith) y, tt)
  AllLaid-push laid o (w ∷ vs) v x y =
      let e : o + (size w + total size vs) ≡ o + size w + total size vs = omega arith in
      (x.0, AllLaid-push laid (o + size w) vs v x.1 (subst (λ (k : ℕ). laid k v) e y))

  pub more_laid : (fixed payload : ℕ → A → List ℕ) (laid : ℕ → A → Type 0) (o at end : ℕ) (old fs ps fs2 ps2 : List ℕ) (vs : List A) (v : A) (ws : List A) → ws ≡ vs ++ v ∷ []
      → ElementsLaid fixed payload size laid o old fs ps at vs → laid at v → end ≡ at + size v → fs2 ≡ fs ++ fixed at v → ps2 ≡ ps ++ payload at v
      → ElementsLaid fixed payload size laid o old fs2 ps2 end ws
  more_laid fixed payload laid o at end old fs ps fs2 ps2 vs v ws e x l next f p =
      let here = x.place in
      let f1 : fs2 ≡ old ++ fixeds fixed size o (vs ++ v ∷ []) =
      f ∙ ap (λ (z : List ℕ). z ++ fixed at v) x.fixed_parts ∙ append_assoc old (fixeds fixed size o vs) (fixed at v)
      ∙ ap (λ (k : ℕ). old ++ (fixeds fixed size o vs ++ fixed k v)) here ∙ ap (λ (z : List ℕ). old ++ z) (sym (fixeds-push fixed o vs v)) in
      let p1 : ps2 ≡ fixeds payload size o (vs ++ v ∷ []) =
      p ∙ ap (λ (z : List ℕ). z ++ payload at v) x.payloads ∙ ap (λ (k : ℕ). fixeds payload size o vs ++ payload k v) here ∙ sym (fixeds-push payload o vs v) in
      let a1 : AllLaid laid size o (vs ++ v ∷ []) = AllLaid-push laid o vs v x.all_laid (subst (λ (k : ℕ). laid k v) here l) in
      let sized : total size ws ≡ total size vs + size v = ap (total size) e ∙ total-push vs v in
      record {
        fixed_parts = f1 ∙ ap (λ (z : List A). old ++ fixeds fixed size o z) (sym e);
        payloads = p1 ∙ ap (fixeds payload size o) (sym e);
        all_laid = subst (AllLaid laid size o) (sym e) a1;
        place = omega arith;
      }

  -- where an element has no place, the vector has none
  pub AllLaid-at : (laid : ℕ → A → Type 0) (o : ℕ) (vs : List A) (v : A) (ws : List A) → AllLaid laid size o (vs ++ v ∷ ws) → laid (o + total size vs) v
  AllLaid-at laid o [] v ws x = subst (λ (k : ℕ). laid k v) (omega arith) x.0
  AllLaid-at laid o (w ∷ vs) v ws x =
      let e : o + size w + total size vs ≡ o + (size w + total size vs) = omega arith in
      subst (λ (k : ℕ). laid k v) e (AllLaid-at laid (o + size w) vs v ws x.1)

pub parts_are : (p n k w len : ℕ) → p ≡ n * k → n ≡ len → k ≡ w → p ≡ w * len
parts_are p n k w len e a b = e ∙ ap (λ (z : ℕ). z * k) a ∙ ap (λ (z : ℕ). len * z) b ∙ mul_comm len w

-- one element more
pub one_more : {A : Type 0} (xs : List A) (i : ℕ) (x : A) → i < length xs → x ≡ get_or xs i x → take (i + 1) xs ≡ take i xs ++ x ∷ []
one_more {A = A} xs i x h e = let t = take_at_read xs i x h in t.1 ∙ ap (λ (z : A). take i xs ++ z ∷ []) (sym e)

module _ {A : Type 0} (fixed payload : ℕ → A → List ℕ) (size : A → ℕ) (laid : ℕ → A → Type 0) where
  -- all elements are laid
  pub vector_laid : (width o n : ℕ) (vs : List A) → o < 2 ^ 32 → length vs < 2 ^ 32 → n ≡ width * length vs → AllLaid laid size (o + n) vs → VectorLaid laid size width o vs
  vector_laid width o n [] h k e x = tt
  vector_laid width o n (v ∷ vs) h k e x = (h, k, subst (λ (z : ℕ). AllLaid laid size (o + z) (v ∷ vs)) e x)

  -- a vector's elements have places where it has one
  pub all_laid : (width o n : ℕ) (vs : List A) → n ≡ width * length vs → 0 < length vs → VectorLaid laid size width o vs → AllLaid laid size (o + n) vs
  all_laid width o n [] e h x = absurd (omega arith)
  all_laid width o n (v ∷ vs) e h x = subst (λ (k : ℕ). AllLaid laid size (o + k) (v ∷ vs)) (sym e) x.2

  -- an element has no place
  pub no_place : (o : ℕ) (vs : List A) (i : ℕ) (x : A) (at : ℕ) → i < length vs → x ≡ get_or vs i x → at ≡ o + total size (take i vs) → (laid at x → ⊥) → AllLaid laid size o vs → ⊥
  no_place o vs i x at h e here none l =
      let split : vs ≡ take i vs ++ x ∷ drop (suc i) vs =
      sym (take-append-drop i vs) ∙ ap (λ (z : List A). take i vs ++ z) (drop-cons vs i x h ∙ ap (λ (z : A). z ∷ drop (suc i) vs) (sym e)) in
      none (subst (λ (k : ℕ). laid k x) (sym here) (AllLaid-at size laid o (take i vs) x (drop (suc i) vs) (subst (AllLaid laid size o) split l)))

-- what is left of the sizes
pub fewer_left : {A : Type 0} (size : A → ℕ) (width : ℕ) (xs : List A) (i : ℕ) (x : A) (s one next all : ℕ) → i < length xs → x ≡ get_or xs i x → one ≡ min (width + size x) (2 ^ 64 - 1) → next ≡ min (s + one) (2 ^ 64 - 1)
    → min (s + (width * length (drop i xs) + total size (drop i xs))) (2 ^ 64 - 1) ≡ all → min (next + (width * length (drop (i + 1) xs) + total size (drop (i + 1) xs))) (2 ^ 64 - 1) ≡ all
fewer_left {A = A} size width xs i x s one next all h e o n inv =
    let k : suc i ≡ i + 1 = omega arith in
    let d : drop i xs ≡ x ∷ drop (i + 1) xs = drop-cons xs i x h ∙ ap (λ (z : A). z ∷ drop (suc i) xs) (sym e) ∙ ap (λ (j : ℕ). x ∷ drop j xs) k in
    let a : length (drop i xs) ≡ suc (length (drop (i + 1) xs)) = ap length d in
    let b : total size (drop i xs) ≡ size x + total size (drop (i + 1) xs) = ap (total size) d in
    let w0 : width * suc (length (drop (i + 1) xs)) ≡ width + width * length (drop (i + 1) xs) = omega arith in
    let w : width * length (drop i xs) ≡ width + width * length (drop (i + 1) xs) = ap (λ (j : ℕ). width * j) a ∙ w0 in
    omega arith

pub none_left : {A : Type 0} (size : A → ℕ) (width : ℕ) (xs : List A) (i s all : ℕ) → length xs ≤ i → s < 2 ^ 64 → min (s + (width * length (drop i xs) + total size (drop i xs))) (2 ^ 64 - 1) ≡ all → s ≡ all
none_left {A = A} size width xs i s all h k e =
    let d : drop i xs ≡ [] = drop_all i xs h in
    let a0 : width * 0 ≡ 0 = omega arith in
    let a : width * length (drop i xs) ≡ 0 = ap (λ (z : List A). width * length z) d ∙ a0 in
    let b : total size (drop i xs) ≡ 0 = ap (total size) d in
    omega arith

-- what is known of each element
AllOf-push : {A : Type 0} (P : A → Type 0) (vs : List A) (v : A) → AllOf P vs → P v → AllOf P (vs ++ v ∷ [])
AllOf-push P [] v x y = (y, tt)
AllOf-push P (w ∷ vs) v x y = (x.0, AllOf-push P vs v x.1 y)

pub more_known : {A : Type 0} (P : A → Type 0) (xs : List A) (i : ℕ) (x : A) → i < length xs → x ≡ get_or xs i x → AllOf P (take i xs) → P x → AllOf P (take (i + 1) xs)
more_known {A = A} P xs i x h e k p = subst (AllOf P) (sym (one_more xs i x h e)) (AllOf-push P (take i xs) x k p)

-- octets have no payload of their own
pub octets_size : (vs : List ℕ) → 1 * length vs + total (λ (v : ℕ). 0) vs ≡ length vs
octets_size [] = omega arith
octets_size (v ∷ vs) = let ih = octets_size vs in omega arith
