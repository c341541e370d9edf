-- A type's layout: what its fixed part says in a message, how its values are laid, and the laws of both.
use Rattle.std.proofs.Common.{◌≡◌, ℕ, ◌+◌, ◌-◌, ◌*◌, ◌^◌, ◌<◌, ◌≤◌, ◌⊎◌, inl, inr, ⊎_elim, List, [], ◌++◌, length, take, drop, refl, sym, ap, ◌∙◌, subst, append_assoc, length-append, take-take, lit<, arith}
use Rattle.std.proofs.lemmas.List.{drop-drop, drop_at, drop-take, length-take, length-drop}
use Rattle.std.specs.declared.io.Error.{Error}
use Rattle.byteorder.specs.Endian.{little_number, little_bytes}
use Rattle.byteorder.specs.Numbers.{little_number-reads_back, length-bytes_low_first}
use Rattle.krb_negoex.specs.Parts.{VectorPart, SameAll, AllOf, total, vector_fixed, vector_payload, VectorLaid}
use Rattle.krb_negoex.specs.Rejected.{IsMemory, IsCut, OneError, VectorRejected}
use Rattle.krb_negoex.specs.VectorLaws.{number-take, vector_room, one_vector, no_vector, one_vector_error, vector_prefix, vector_trailing, vector_back, vector_fits, vector_fixed_length, vector_payload_length}

pub record Layout (A : Type 0) : Type 1 where
  -- the octets of the fixed part, of which there is one at least
  pub width : ℕ
  pub wide : 0 < width
  -- octets that begin with a fixed part say a value in a message
  pub part : List ℕ → List ℕ → A → Type 0
  -- two values that are one when they are written
  pub same : A → A → Type 0
  -- the fixed part and the payload of a value, the payload starting at an offset
  pub fixed : ℕ → A → List ℕ
  pub payload : ℕ → A → List ℕ
  pub payload_size : A → ℕ
  -- where the payload ends
  pub after : ℕ → A → ℕ
  -- offsets and counts fit their fields
  pub laid : ℕ → A → Type 0
  -- what is read again once it is written
  pub readable : A → Type 0
  -- the first error of octets in a message
  pub rejects : List ℕ → List ℕ → Error → Type 0
  pub room : (f m : List ℕ) (v : A) → part f m v → width ≤ length f
  pub no_part : (f m : List ℕ) (e : Error) (v : A) → rejects f m e → part f m v → IsMemory e
  pub one_part : (f m : List ℕ) (v w : A) → part f m v → part f m w → same v w
  pub one_error : (f m : List ℕ) (e g : Error) → rejects f m e → rejects f m g → OneError e g
  pub prefix : (f m : List ℕ) (v : A) → part (take width f) m v → part f m v
  pub trailing : (f m : List ℕ) (v : A) → part f m v → part (take width f) m v
  pub after_is : (o : ℕ) (v : A) → after o v ≡ o + payload_size v
  -- where the payload ends below 2^32 each offset and count fits its field
  pub fits : (o : ℕ) (v : A) → o + payload_size v < 2 ^ 32 → laid o v
  pub fixed_length : (o : ℕ) (v : A) → length (fixed o v) ≡ width
  pub payload_length : (o : ℕ) (v : A) → length (payload o v) ≡ payload_size v
  -- what is laid at its offset in a message is read there
  pub reads_back : (o : ℕ) (v : A) (m f g : List ℕ) → readable v → laid o v → o ≤ length m → drop o m ≡ payload o v ++ g → part (fixed o v ++ f) m v

-- the layout of what a value is seen as
abbrev pub seen : {A B : Type 0} → (B → A) → Layout A → Layout B
seen {A} {B} s l = record {
  width = l.width;
  wide = l.wide;
  part = λ f m v. l.part f m (s v);
  same = λ v w. l.same (s v) (s w);
  fixed = λ o v. l.fixed o (s v);
  payload = λ o v. l.payload o (s v);
  payload_size = λ v. l.payload_size (s v);
  after = λ o v. l.after o (s v);
  after_is = λ o v. l.after_is o (s v);
  fits = λ o v. l.fits o (s v);
  laid = λ o v. l.laid o (s v);
  readable = λ v. l.readable (s v);
  rejects = l.rejects;
  room = λ f m v. l.room f m (s v);
  no_part = λ f m e v. l.no_part f m e (s v);
  one_part = λ f m v w. l.one_part f m (s v) (s w);
  one_error = l.one_error;
  prefix = λ f m v. l.prefix f m (s v);
  trailing = λ f m v. l.trailing f m (s v);
  fixed_length = λ o v. l.fixed_length o (s v);
  payload_length = λ o v. l.payload_length o (s v);
  reads_back = λ o v. l.reads_back o (s v);
}

-- a vector of values
abbrev pub vector : {A : Type 0} → Layout A → Layout (List A)
vector {A} t = record {
  width = 8;
  wide = lit< tt;
  part = VectorPart t.part t.width;
  same = SameAll t.same;
  fixed = λ o vs. vector_fixed o vs;
  payload = λ o vs. vector_payload t.fixed t.payload t.payload_size t.width o vs;
  payload_size = λ vs. t.width * length vs + total t.payload_size vs;
  after = λ o vs. o + (t.width * length vs + total t.payload_size vs);
  after_is = λ o vs. refl;
  fits = vector_fits t.width t.payload_size t.laid t.wide t.fits;
  laid = λ o vs. VectorLaid t.laid t.payload_size t.width o vs;
  readable = AllOf t.readable;
  rejects = VectorRejected t.part t.rejects t.width;
  room = vector_room t.part t.width;
  no_part = no_vector t.part t.width t.rejects t.no_part;
  one_part = one_vector t.part t.width t.same t.one_part;
  one_error = one_vector_error t.part t.width t.rejects t.no_part t.one_error;
  prefix = vector_prefix t.part t.width;
  trailing = vector_trailing t.part t.width;
  fixed_length = vector_fixed_length;
  payload_length = vector_payload_length t.part t.width t.fixed t.payload t.payload_size t.laid t.readable t.fixed_length t.payload_length;
  reads_back = vector_back t.part t.width t.fixed t.payload t.payload_size t.laid t.readable t.fixed_length t.payload_length t.reads_back;
}

-- a layout with no payload
pub record Plain (A : Type 0) : Type 1 where
  pub width : ℕ
  pub wide : 0 < width
  pub part : List ℕ → List ℕ → A → Type 0
  pub same : A → A → Type 0
  pub fixed : A → List ℕ
  pub readable : A → Type 0
  pub rejects : List ℕ → List ℕ → Error → Type 0
  pub room : (f m : List ℕ) (v : A) → part f m v → width ≤ length f
  pub no_part : (f m : List ℕ) (e : Error) (v : A) → rejects f m e → part f m v → IsMemory e
  pub one_part : (f m : List ℕ) (v w : A) → part f m v → part f m w → same v w
  pub one_error : (f m : List ℕ) (e g : Error) → rejects f m e → rejects f m g → OneError e g
  pub prefix : (f m : List ℕ) (v : A) → part (take width f) m v → part f m v
  pub trailing : (f m : List ℕ) (v : A) → part f m v → part (take width f) m v
  pub fixed_length : (v : A) → length (fixed v) ≡ width
  pub reads_back : (v : A) (m f : List ℕ) → readable v → part (fixed v ++ f) m v

pub same_place : (o : ℕ) → o ≡ o + 0
same_place o = omega arith

abbrev pub plain : {A : Type 0} → Plain A → Layout A
plain p = record {
  width = p.width;
  wide = p.wide;
  part = p.part;
  same = p.same;
  fixed = λ o v. p.fixed v;
  payload = λ o v. [];
  payload_size = λ v. 0;
  after = λ o v. o;
  laid = λ o v. Unit {0};
  readable = p.readable;
  rejects = p.rejects;
  room = p.room;
  no_part = p.no_part;
  one_part = p.one_part;
  one_error = p.one_error;
  prefix = p.prefix;
  trailing = p.trailing;
  after_is = λ o v. same_place o;
  fits = λ o v h. tt;
  fixed_length = λ o v. p.fixed_length v;
  payload_length = λ o v. refl;
  reads_back = λ o v m f g r l h e. p.reads_back v m f r;
}

-- a number of n octets
pub record NumberPart (n : ℕ) (f m : List ℕ) (v : ℕ) : Type 0 where
  pub room : n ≤ length f
  pub value : little_number n f ≡ v

pub number_prefix : (n : ℕ) (f m : List ℕ) (v : ℕ) → NumberPart n (take n f) m v → NumberPart n f m v
number_prefix n f m v x =
    let room = x.room in
    let long = length-take n f in
    record { room = omega arith; value = sym (number-take n n f (omega arith)) ∙ x.value }

pub number_trailing : (n : ℕ) (f m : List ℕ) (v : ℕ) → NumberPart n f m v → NumberPart n (take n f) m v
number_trailing n f m v x =
    let room = x.room in
    let long = length-take n f in
    record { room = omega arith; value = number-take n n f (omega arith) ∙ x.value }

pub no_number : (n : ℕ) (f m : List ℕ) (e : Error) (v : ℕ) → IsCut n f e → NumberPart n f m v → IsMemory e
no_number n f m e v r x = let room = x.room in absurd (omega (arith, r.1))

pub one_cut : (n : ℕ) (f : List ℕ) (e g : Error) → IsCut n f e → IsCut n f g → OneError e g
one_cut n f e g x y = inr (inr (x.0 ∙ sym y.0))

pub number_back : (n v : ℕ) (m f : List ℕ) → v < 256 ^ n → NumberPart n (little_bytes n v ++ f) m v
number_back n v m f h =
    let a = length-append (little_bytes n v) f in
    let b = length-bytes_low_first 0 n v in
    record { room = omega arith; value = little_number-reads_back n v f h }

abbrev pub number : (n : ℕ) → 0 < n → Layout ℕ
number n h = plain (record {
  width = n;
  wide = h;
  part = NumberPart n;
  same = λ v w. v ≡ w;
  fixed = little_bytes n;
  readable = λ v. v < 256 ^ n;
  rejects = λ f m e. IsCut n f e;
  room = λ f m v x. x.room;
  no_part = no_number n;
  one_part = λ f m v w x y. sym x.value ∙ y.value;
  one_error = λ f m. one_cut n f;
  prefix = number_prefix n;
  trailing = number_trailing n;
  fixed_length = length-bytes_low_first 0 n;
  reads_back = λ v m f r. number_back n v m f r;
})

-- two layouts, one after the other
module _ {A B : Type 0} (a : Layout A) (b : Layout B) where
  abbrev pub ThenPart : List ℕ → List ℕ → A × B → Type 0
  ThenPart f m v = a.part f m v.0 × b.part (drop a.width f) m v.1

  abbrev pub ThenRejected : List ℕ → List ℕ → Error → Type 0
  ThenRejected f m e = a.rejects f m e ⊎ ((v : A) × a.part f m v × b.rejects (drop a.width f) m e)

  pub then_room : (f m : List ℕ) (v : A × B) → ThenPart f m v → a.width + b.width ≤ length f
  then_room f m v x =
      let p = a.room f m v.0 x.0 in
      let q = b.room (drop a.width f) m v.1 x.1 in
      let e = length-drop a.width f in
      omega arith

  pub no_then : (f m : List ℕ) (e : Error) (v : A × B) → ThenRejected f m e → ThenPart f m v → IsMemory e
  no_then f m e v r x = ⊎_elim (λ h. a.no_part f m e v.0 h x.0) (λ h. b.no_part (drop a.width f) m e v.1 h.2 x.1) r

  pub one_then : (f m : List ℕ) (e g : Error) → ThenRejected f m e → ThenRejected f m g → OneError e g
  one_then f m e g x y = ⊎_elim (λ h. ⊎_elim (λ k. a.one_error f m e g h k) (λ k. inl (a.no_part f m e k.0 h k.1)) y)
      (λ h. ⊎_elim (λ k. inr (inl (a.no_part f m g h.0 k h.1))) (λ k. b.one_error (drop a.width f) m e g h.2 k.2) y) x

  take_less : (n k : ℕ) (f : List ℕ) → take n (take (n + k) f) ≡ take n f
  take_less n k f = take-take n (n + k) f (omega arith)

  pub then_prefix : (f m : List ℕ) (v : A × B) → ThenPart (take (a.width + b.width) f) m v → ThenPart f m v
  then_prefix f m v x = (
    a.prefix f m v.0 (subst (λ (z : List ℕ). a.part z m v.0) (take_less a.width b.width f) (a.trailing (take (a.width + b.width) f) m v.0 x.0)),
    b.prefix (drop a.width f) m v.1 (subst (λ (z : List ℕ). b.part z m v.1) (drop-take a.width b.width f) x.1),
  )

  pub then_trailing : (f m : List ℕ) (v : A × B) → ThenPart f m v → ThenPart (take (a.width + b.width) f) m v
  then_trailing f m v x = (
    a.prefix (take (a.width + b.width) f) m v.0 (subst (λ (z : List ℕ). a.part z m v.0) (sym (take_less a.width b.width f)) (a.trailing f m v.0 x.0)),
    subst (λ (z : List ℕ). b.part z m v.1) (sym (drop-take a.width b.width f)) (b.trailing (drop a.width f) m v.1 x.1),
  )

  pub then_fixed_length : (o : ℕ) (v : A × B) → length (a.fixed o v.0 ++ b.fixed (a.after o v.0) v.1) ≡ a.width + b.width
  then_fixed_length o v =
      let p = a.fixed_length o v.0 in
      let q = b.fixed_length (a.after o v.0) v.1 in
      let e = length-append (a.fixed o v.0) (b.fixed (a.after o v.0) v.1) in
      omega arith

  pub then_payload_length : (o : ℕ) (v : A × B) → length (a.payload o v.0 ++ b.payload (a.after o v.0) v.1) ≡ a.payload_size v.0 + b.payload_size v.1
  then_payload_length o v =
      let p = a.payload_length o v.0 in
      let q = b.payload_length (a.after o v.0) v.1 in
      let e = length-append (a.payload o v.0) (b.payload (a.after o v.0) v.1) in
      omega arith

  pub then_after : (o : ℕ) (v : A × B) → b.after (a.after o v.0) v.1 ≡ o + (a.payload_size v.0 + b.payload_size v.1)
  then_after o v =
      let p = a.after_is o v.0 in
      let q = b.after_is (a.after o v.0) v.1 in
      omega arith

  pub then_wide : 0 < a.width + b.width
  then_wide =
      let p = a.wide in
      omega arith

  pub then_fits : (o : ℕ) (v : A × B) → o + (a.payload_size v.0 + b.payload_size v.1) < 2 ^ 32 → a.laid o v.0 × b.laid (a.after o v.0) v.1
  then_fits o v h =
      let p = a.after_is o v.0 in
      (a.fits o v.0 (omega arith), b.fits (a.after o v.0) v.1 (omega arith))

  pub then_back : (o : ℕ) (v : A × B) (m f g : List ℕ) → a.readable v.0 × b.readable v.1 → a.laid o v.0 × b.laid (a.after o v.0) v.1 → o ≤ length m
      → drop o m ≡ (a.payload o v.0 ++ b.payload (a.after o v.0) v.1) ++ g → ThenPart ((a.fixed o v.0 ++ b.fixed (a.after o v.0) v.1) ++ f) m v
  then_back o v m f g r l h e =
      let q = a.after o v.0 in
      let e1 : drop o m ≡ a.payload o v.0 ++ (b.payload (a.after o v.0) v.1 ++ g) = e ∙ append_assoc (a.payload o v.0) (b.payload (a.after o v.0) v.1) g in
      let e2 : drop (a.after o v.0) m ≡ b.payload (a.after o v.0) v.1 ++ g =
      ap (λ (k : ℕ). drop k m) (a.after_is o v.0) ∙ sym (drop-drop (a.payload_size v.0) o m) ∙ ap (drop (a.payload_size v.0)) e1 ∙ drop_at (a.payload o v.0) (b.payload (a.after o v.0) v.1 ++ g) (a.payload_size v.0) (a.payload_length o v.0) in
      let long : length m - o ≡ length (a.payload o v.0) + length (b.payload (a.after o v.0) v.1 ++ g) =
      sym (length-drop o m) ∙ ap length e1 ∙ length-append (a.payload o v.0) (b.payload (a.after o v.0) v.1 ++ g) in
      let sized = a.payload_length o v.0 in
      let place = a.after_is o v.0 in
      let inside : a.after o v.0 ≤ length m = omega arith in
      let f1 : (a.fixed o v.0 ++ b.fixed (a.after o v.0) v.1) ++ f ≡ a.fixed o v.0 ++ (b.fixed (a.after o v.0) v.1 ++ f) = append_assoc (a.fixed o v.0) (b.fixed (a.after o v.0) v.1) f in
      let f2 : drop a.width ((a.fixed o v.0 ++ b.fixed (a.after o v.0) v.1) ++ f) ≡ b.fixed (a.after o v.0) v.1 ++ f =
      ap (drop a.width) f1 ∙ drop_at (a.fixed o v.0) (b.fixed (a.after o v.0) v.1 ++ f) a.width (a.fixed_length o v.0) in (
        subst (λ (z : List ℕ). a.part z m v.0) (sym f1) (a.reads_back o v.0 m (b.fixed (a.after o v.0) v.1 ++ f) (b.payload (a.after o v.0) v.1 ++ g) r.0 l.0 h e1),
        subst (λ (z : List ℕ). b.part z m v.1) (sym f2) (b.reads_back (a.after o v.0) v.1 m f g r.1 l.1 inside e2),
      )

  abbrev pub followed : Layout (A × B)
  followed = record {
    width = a.width + b.width;
    wide = then_wide;
    part = ThenPart;
    same = λ v w. a.same v.0 w.0 × b.same v.1 w.1;
    fixed = λ o v. a.fixed o v.0 ++ b.fixed (a.after o v.0) v.1;
    payload = λ o v. a.payload o v.0 ++ b.payload (a.after o v.0) v.1;
    payload_size = λ v. a.payload_size v.0 + b.payload_size v.1;
    after = λ o v. b.after (a.after o v.0) v.1;
    after_is = λ o v. then_after o v;
    fits = then_fits;
    laid = λ o v. a.laid o v.0 × b.laid (a.after o v.0) v.1;
    readable = λ v. a.readable v.0 × b.readable v.1;
    rejects = ThenRejected;
    room = then_room;
    no_part = no_then;
    one_part = λ f m v w x y. (a.one_part f m v.0 w.0 x.0 y.0, b.one_part (drop a.width f) m v.1 w.1 x.1 y.1);
    one_error = one_then;
    prefix = then_prefix;
    trailing = then_trailing;
    fixed_length = then_fixed_length;
    payload_length = then_payload_length;
    reads_back = then_back;
  }
