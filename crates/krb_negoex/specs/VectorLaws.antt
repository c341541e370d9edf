-- The laws of a vector's parts, from those of its elements.
use Rattle.std.proofs.Common.{◌≡◌, ℕ, zero, suc, ◌+◌, ◌-◌, ◌*◌, ◌^◌, ◌<◌, ◌≤◌, ◌⊎◌, inl, inr, ⊎_elim, List, [], ◌∷◌, ◌++◌, length, take, drop, refl, sym, ap, ◌∙◌, subst, append_assoc, length-append, length-drop, arith}
use Rattle.std.proofs.lemmas.List.{drop-drop, drop_at, drop-take, length-take}
use Rattle.std.specs.declared.io.Error.{Error}
use Rattle.byteorder.specs.Endian.{little_number, little_bytes}
use Rattle.byteorder.specs.Numbers.{little_number-reads_back, little_from-take}
use Rattle.krb_negoex.specs.Parts.{Elements, VectorPart, SameAll, AllOf, total, fixeds, AllLaid, vector_fixed, vector_payload, VectorLaid}
use Rattle.krb_negoex.specs.Rejected.{IsMemory, IsCut, IsOutside, OneError, ElementRejected, VectorRejected}

in_order : (j k : ℕ) → (j < k) ⊎ ((k < j) ⊎ (j ≡ k))
in_order zero zero = inr (inr refl)
in_order zero (suc k) = inl (omega arith)
in_order (suc j) zero = inr (inl (omega arith))
in_order (suc j) (suc k) = ⊎_elim (λ h. inl (omega (arith, h))) (⊎_elim (λ h. inr (inl (omega (arith, h)))) (λ h. inr (inr (ap suc h)))) (in_order j k)

-- a number reads its own octets alone
pub number-take : (n k : ℕ) (f : List ℕ) → n ≤ k → little_number n (take k f) ≡ little_number n f
number-take n k f h = little_from-take 0 n k f (omega arith)

drop-take_4 : (f : List ℕ) → little_number 4 (drop 4 (take 8 f)) ≡ little_number 4 (drop 4 f)
drop-take_4 f = ap (little_number 4) (drop-take 4 4 f) ∙ number-take 4 4 (drop 4 f) (omega arith)

module _ {A : Type 0} (part : List ℕ → List ℕ → A → Type 0) (width : ℕ) where
  pub vector_prefix : (f m : List ℕ) (vs : List A) → VectorPart part width (take 8 f) m vs → VectorPart part width f m vs
  vector_prefix f m vs x =
      let room = x.room in
      let long = length-take 8 f in
      let o : little_number 4 (take 8 f) ≡ little_number 4 f = number-take 4 8 f (omega arith) in
      record { room = omega arith; count = sym (drop-take_4 f) ∙ x.count; inside = subst (λ (k : ℕ). k ≤ length m) o x.inside; elements = subst (λ (k : ℕ). Elements part width m k vs) o x.elements }

  pub vector_trailing : (f m : List ℕ) (vs : List A) → VectorPart part width f m vs → VectorPart part width (take 8 f) m vs
  vector_trailing f m vs x =
      let room = x.room in
      let long = length-take 8 f in
      let o : little_number 4 f ≡ little_number 4 (take 8 f) = sym (number-take 4 8 f (omega arith)) in
      record { room = omega arith; count = drop-take_4 f ∙ x.count; inside = subst (λ (k : ℕ). k ≤ length m) o x.inside; elements = subst (λ (k : ℕ). Elements part width m k vs) o x.elements }

  pub vector_room : (f m : List ℕ) (vs : List A) → VectorPart part width f m vs → 8 ≤ length f
  vector_room f m vs x = x.room

  module _ (same : A → A → Type 0) (one : (f m : List ℕ) (v w : A) → part f m v → part f m w → same v w) where
    same_elements : (m : List ℕ) (k : ℕ) (vs ws : List A) → length vs ≡ length ws → Elements part width m k vs → Elements part width m k ws → SameAll same vs ws
    same_elements m k [] [] e x y = tt
    same_elements m k [] (w ∷ ws) e x y = absurd (omega arith)
    same_elements m k (v ∷ vs) [] e x y = absurd (omega arith)
    same_elements m k (v ∷ vs) (w ∷ ws) e x y = (one (drop k m) m v w x.0 y.0, same_elements m (k + width) vs ws (omega arith) x.1 y.1)

    pub one_vector : (f m : List ℕ) (vs ws : List A) → VectorPart part width f m vs → VectorPart part width f m ws → SameAll same vs ws
    one_vector f m vs ws x y = same_elements m (little_number 4 f) vs ws (sym x.count ∙ y.count) x.elements y.elements

  -- one of the elements
  nth : (m : List ℕ) (k i : ℕ) (vs : List A) → Elements part width m k vs → i < length vs → (v : A) × part (drop (k + width * i) m) m v
  nth m k i [] x h = absurd (omega arith)
  nth m k zero (v ∷ vs) x h = (v, subst (λ (j : ℕ). part (drop j m) m v) (omega arith) x.0)
  nth m k (suc i) (v ∷ vs) x h =
      let r = nth m (k + width) i vs x.1 (omega arith) in
      let e : k + width + width * i ≡ k + width * suc i = omega arith in
      (r.0, subst (λ (j : ℕ). part (drop j m) m r.0) e r.1)

  module _ (rejects : List ℕ → List ℕ → Error → Type 0) (no : (f m : List ℕ) (e : Error) (v : A) → rejects f m e → part f m v → IsMemory e) where
    pub no_vector : (f m : List ℕ) (e : Error) (vs : List A) → VectorRejected part rejects width f m e → VectorPart part width f m vs → IsMemory e
    no_vector f m e vs r x = let room = x.room in let inside = x.inside in let count = x.count in ⊎_elim (λ h. h) (⊎_elim (λ h. absurd (omega (arith, h.1))) (⊎_elim (λ h. absurd (omega (arith, h.2)))
        (λ h. let one = nth m (little_number 4 f) (length h.before) vs x.elements (omega (arith, h.more)) in
        no (drop (little_number 4 f + width * length h.before) m) m e one.0 h.error one.1))) r

    module _ (one_error : (f m : List ℕ) (e g : Error) → rejects f m e → rejects f m g → OneError e g) where
      one_element_error : (f m : List ℕ) (e g : Error) → ElementRejected part rejects width f m e → ElementRejected part rejects width f m g → OneError e g
      one_element_error f m e g x y =
          ⊎_elim (λ h. let v = nth m (little_number 4 f) (length x.before) y.before y.elements h in
          inl (no (drop (little_number 4 f + width * length x.before) m) m e v.0 x.error v.1))
          (⊎_elim (λ h. let v = nth m (little_number 4 f) (length y.before) x.before x.elements h in
          inr (inl (no (drop (little_number 4 f + width * length y.before) m) m g v.0 y.error v.1)))
          (λ h. one_error (drop (little_number 4 f + width * length x.before) m) m e g x.error
          (subst (λ (k : ℕ). rejects (drop (little_number 4 f + width * k) m) m g) (sym h) y.error))) (in_order (length x.before) (length y.before))

      one_read_error : (f m : List ℕ) (e g : Error) → IsCut 8 f e ⊎ (IsOutside f m e ⊎ ElementRejected part rejects width f m e)
          → IsCut 8 f g ⊎ (IsOutside f m g ⊎ ElementRejected part rejects width f m g) → OneError e g
      one_read_error f m e g x y = ⊎_elim
          (λ h. ⊎_elim (λ k. inr (inr (h.0 ∙ sym k.0))) (⊎_elim (λ k. absurd (omega (arith, h.1, k.1))) (λ k. let room = k.room in absurd (omega (arith, h.1)))) y)
          (⊎_elim (λ h. ⊎_elim (λ k. absurd (omega (arith, h.1, k.1))) (⊎_elim (λ k. inr (inr (h.0 ∙ sym k.0))) (λ k. let inside = k.inside in absurd (omega (arith, h.2)))) y)
          (λ h. ⊎_elim (λ k. let room = h.room in absurd (omega (arith, k.1))) (⊎_elim (λ k. let inside = h.inside in absurd (omega (arith, k.2))) (λ k. one_element_error f m e g h k)) y)) x

      pub one_vector_error : (f m : List ℕ) (e g : Error) → VectorRejected part rejects width f m e → VectorRejected part rejects width f m g → OneError e g
      one_vector_error f m e g x y = ⊎_elim (λ h. inl h) (λ h. ⊎_elim (λ k. inr (inl k)) (λ k. one_read_error f m e g h k) y) x

  module _ (fixed payload : ℕ → A → List ℕ) (size : A → ℕ) (laid : ℕ → A → Type 0) (readable : A → Type 0)
      (fixed_length : (o : ℕ) (v : A) → length (fixed o v) ≡ width)
      (payload_length : (o : ℕ) (v : A) → length (payload o v) ≡ size v) where
    pub length-fixeds : (o : ℕ) (vs : List A) → length (fixeds fixed size o vs) ≡ width * length vs
    length-fixeds o [] = omega arith
    length-fixeds o (v ∷ vs) =
        let ih = length-fixeds (o + size v) vs in
        let one = fixed_length o v in
        let e = length-append (fixed o v) (fixeds fixed size (o + size v) vs) in
        let w : width * suc (length vs) ≡ width + width * length vs = omega arith in
        omega arith

    pub length-payloads : (o : ℕ) (vs : List A) → length (fixeds payload size o vs) ≡ total size vs
    length-payloads o [] = refl
    length-payloads o (v ∷ vs) =
        let ih = length-payloads (o + size v) vs in
        let one = payload_length o v in
        let e = length-append (payload o v) (fixeds payload size (o + size v) vs) in
        omega arith

    pub vector_payload_length : (o : ℕ) (vs : List A) → length (vector_payload fixed payload size width o vs) ≡ width * length vs + total size vs
    vector_payload_length o vs =
        let p = o + width * length vs in
        let a = length-fixeds (o + width * length vs) vs in
        let b = length-payloads (o + width * length vs) vs in
        let e = length-append (fixeds fixed size (o + width * length vs) vs) (fixeds payload size (o + width * length vs) vs) in
        omega arith

    module _ (back : (o : ℕ) (v : A) (m f g : List ℕ) → readable v → laid o v → o ≤ length m → drop o m ≡ payload o v ++ g → part (fixed o v ++ f) m v) where
      elements_back : (m : List ℕ) (k o : ℕ) (vs : List A) (x y : List ℕ) → AllOf readable vs → AllLaid laid size o vs → o ≤ length m
          → drop k m ≡ fixeds fixed size o vs ++ x → drop o m ≡ fixeds payload size o vs ++ y → Elements part width m k vs
      elements_back m k o [] x y r l h ef ep = tt
      elements_back m k o (v ∷ vs) x y r l h ef ep =
          let f : drop k m ≡ fixed o v ++ (fixeds fixed size (o + size v) vs ++ x) = ef ∙ append_assoc (fixed o v) (fixeds fixed size (o + size v) vs) x in
          let p : drop o m ≡ payload o v ++ (fixeds payload size (o + size v) vs ++ y) = ep ∙ append_assoc (payload o v) (fixeds payload size (o + size v) vs) y in
          let fs : drop (k + width) m ≡ fixeds fixed size (o + size v) vs ++ x =
          sym (drop-drop width k m) ∙ ap (drop width) f ∙ drop_at (fixed o v) (fixeds fixed size (o + size v) vs ++ x) width (fixed_length o v) in
          let ps : drop (o + size v) m ≡ fixeds payload size (o + size v) vs ++ y =
          sym (drop-drop (size v) o m) ∙ ap (drop (size v)) p ∙ drop_at (payload o v) (fixeds payload size (o + size v) vs ++ y) (size v) (payload_length o v) in
          let long : length m - o ≡ length (payload o v) + length (fixeds payload size (o + size v) vs ++ y) =
          sym (length-drop o m) ∙ ap length p ∙ length-append (payload o v) (fixeds payload size (o + size v) vs ++ y) in
          let sized = payload_length o v in
          let more : o + size v ≤ length m = omega arith in (
            subst (λ (z : List ℕ). part z m v) (sym f) (back o v m (fixeds fixed size (o + size v) vs ++ x) (fixeds payload size (o + size v) vs ++ y) r.0 l.0 h p),
            elements_back m (k + width) (o + size v) vs x y r.1 l.1 more fs ps,
          )

      pub vector_back : (o : ℕ) (vs : List A) (m f g : List ℕ) → AllOf readable vs → VectorLaid laid size width o vs → o ≤ length m
          → drop o m ≡ vector_payload fixed payload size width o vs ++ g → VectorPart part width (vector_fixed o vs ++ f) m vs
      vector_back o [] m f g r l h e = record { room = omega arith; count = refl; inside = omega arith; elements = tt }
      vector_back o (v ∷ vs) m f g r l h e =
          let n = length (v ∷ vs) in
          let p = o + width * length (v ∷ vs) in
          let fs = fixeds fixed size (o + width * length (v ∷ vs)) (v ∷ vs) in
          let ps = fixeds payload size (o + width * length (v ∷ vs)) (v ∷ vs) in
          let at_o : little_number 4 ((little_bytes 4 o ++ little_bytes 4 n) ++ f) ≡ o =
          ap (little_number 4) (append_assoc (little_bytes 4 o) (little_bytes 4 n) f) ∙ little_number-reads_back 4 o (little_bytes 4 n ++ f) l.0 in
          let at_n : little_number 4 (drop 4 ((little_bytes 4 o ++ little_bytes 4 n) ++ f)) ≡ n = little_number-reads_back 4 n f l.1 in
          let whole : drop o m ≡ fs ++ (ps ++ g) = e ∙ append_assoc fs ps g in
          let width_all : length fs ≡ width * length (v ∷ vs) = length-fixeds (o + width * length (v ∷ vs)) (v ∷ vs) in
          let trailing : drop (o + width * length (v ∷ vs)) m ≡ ps ++ g =
          sym (drop-drop (width * length (v ∷ vs)) o m) ∙ ap (drop (width * length (v ∷ vs))) whole ∙ drop_at fs (ps ++ g) (width * length (v ∷ vs)) width_all in
          let long : length m - o ≡ length fs + length (ps ++ g) = sym (length-drop o m) ∙ ap length whole ∙ length-append fs (ps ++ g) in
          let room : o + width * length (v ∷ vs) ≤ length m = omega arith in
          record {
            room = omega arith;
            count = at_n;
            inside = subst (λ (k : ℕ). k ≤ length m) (sym at_o) h;
            elements = subst (λ (k : ℕ). Elements part width m k (v ∷ vs)) (sym at_o)
                (elements_back m o (o + width * length (v ∷ vs)) (v ∷ vs) (ps ++ g) g r l.2 room whole trailing);
          }

pub vector_fixed_length : {A : Type 0} (o : ℕ) (vs : List A) → length (vector_fixed o vs) ≡ 8
vector_fixed_length o [] = refl
vector_fixed_length o (v ∷ vs) = refl

le_mul : (w n : ℕ) → 0 < w → n ≤ w * n
le_mul zero n h = absurd (omega arith)
le_mul (suc k) n h = omega arith

module _ {A : Type 0} (width : ℕ) (size : A → ℕ) (laid : ℕ → A → Type 0) (wide : 0 < width) (fits : (o : ℕ) (v : A) → o + size v < 2 ^ 32 → laid o v) where
  all_fit : (o : ℕ) (vs : List A) → o + total size vs < 2 ^ 32 → AllLaid laid size o vs
  all_fit o [] h = tt
  all_fit o (v ∷ vs) h = (fits o v (omega arith), all_fit (o + size v) vs (omega arith))

  pub vector_fits : (o : ℕ) (vs : List A) → o + (width * length vs + total size vs) < 2 ^ 32 → VectorLaid laid size width o vs
  vector_fits o [] h = tt
  vector_fits o (v ∷ vs) h =
      let n = le_mul width (length (v ∷ vs)) wide in
      (omega arith, omega arith, all_fit (o + width * length (v ∷ vs)) (v ∷ vs) (omega arith))
