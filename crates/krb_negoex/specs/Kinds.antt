-- Layouts that take some numbers alone, and octets as they are.
use Rattle.std.proofs.Common.{◌≡◌, ℕ, ◌^◌, ◌<◌, ◌≤◌, ◌⊎◌, inr, ⊎_elim, List, ◌++◌, length, take, sym, ◌∙◌, length-append, replicate, arith}
use Rattle.std.proofs.lemmas.List.{take_at, take_all, length-take, length-replicate}
use Rattle.std.specs.IoError.{error_kind}
use Rattle.std.specs.declared.io.Error.{Error}
use Rattle.std.specs.declared.io.ErrorKind.{ErrorKind}
use Rattle.byteorder.specs.Endian.{little_number, little_bytes}
use Rattle.byteorder.specs.Numbers.{length-bytes_low_first}
use Rattle.krb_negoex.specs.Rejected.{IsMemory, IsCut, OneError}
use Rattle.krb_negoex.specs.Layouts.{Layout, plain, NumberPart, number_prefix, number_trailing, number_back, no_number, one_cut}

-- a number of n octets that is not taken is rejected by this kind
abbrev pub IsOther : ℕ → ErrorKind → (ℕ → Type 0) → List ℕ → Error → Type 0
IsOther n kind taken f e = (error_kind e ≡ kind) × (n ≤ length f) × (taken (little_number n f) → ⊥)

-- a value has this number
abbrev pub IsCode : {A : Type 0} → (A → ℕ) → ℕ → Type 0
IsCode {A} code k = (v : A) × (code v ≡ k)

pub one_other : (n : ℕ) (kind : ErrorKind) (taken : ℕ → Type 0) (f : List ℕ) (e g : Error) → IsCut n f e ⊎ IsOther n kind taken f e → IsCut n f g ⊎ IsOther n kind taken f g → OneError e g
one_other n kind taken f e g x y = ⊎_elim (λ h. ⊎_elim (λ k. one_cut n f e g h k) (λ k. absurd (omega (arith, h.1, k.1))) y)
    (λ h. ⊎_elim (λ k. absurd (omega (arith, h.1, k.1))) (λ k. inr (inr (h.0 ∙ sym k.0))) y) x

-- the number of n octets of a value, where other numbers are rejected
module _ {A : Type 0} (n : ℕ) (wide : 0 < n) (kind : ErrorKind) (code : A → ℕ) where
  pub no_code : (f m : List ℕ) (e : Error) (v : A) → IsCut n f e ⊎ IsOther n kind (IsCode code) f e → NumberPart n f m (code v) → IsMemory e
  no_code f m e v r x = ⊎_elim (λ h. no_number n f m e (code v) h x) (λ h. absurd (h.2 (v, sym x.value))) r

  abbrev pub coded : Layout A
  coded = plain (record {
    width = n;
    wide = wide;
    part = λ f m v. NumberPart n f m (code v);
    same = λ v w. code v ≡ code w;
    fixed = λ v. little_bytes n (code v);
    readable = λ v. code v < 256 ^ n;
    rejects = λ f m e. IsCut n f e ⊎ IsOther n kind (IsCode code) f e;
    room = λ f m v x. x.room;
    no_part = no_code;
    one_part = λ f m v w x y. sym x.value ∙ y.value;
    one_error = λ f m. one_other n kind (IsCode code) f;
    prefix = λ f m v. number_prefix n f m (code v);
    trailing = λ f m v. number_trailing n f m (code v);
    fixed_length = λ v. length-bytes_low_first 0 n (code v);
    reads_back = λ v m f r. number_back n (code v) m f r;
  })

-- a number that has to be k
pub record ConstantPart (n k : ℕ) (f m : List ℕ) (v : ℕ) : Type 0 where
  pub number : NumberPart n f m v
  pub value : v ≡ k

module _ (n : ℕ) (wide : 0 < n) (kind : ErrorKind) (k : ℕ) where
  pub no_constant : (f m : List ℕ) (e : Error) (v : ℕ) → IsCut n f e ⊎ IsOther n kind (λ j. j ≡ k) f e → ConstantPart n k f m v → IsMemory e
  no_constant f m e v r x = ⊎_elim (λ h. no_number n f m e v h x.number) (λ h. absurd (h.2 (x.number.value ∙ x.value))) r

  abbrev pub constant : Layout ℕ
  constant = plain (record {
    width = n;
    wide = wide;
    part = ConstantPart n k;
    same = λ v w. v ≡ w;
    fixed = little_bytes n;
    readable = λ v. (v ≡ k) × (v < 256 ^ n);
    rejects = λ f m e. IsCut n f e ⊎ IsOther n kind (λ j. j ≡ k) f e;
    room = λ f m v x. x.number.room;
    no_part = no_constant;
    one_part = λ f m v w x y. x.value ∙ sym y.value;
    one_error = λ f m. one_other n kind (λ j. j ≡ k) f;
    prefix = λ f m v x. record { number = number_prefix n f m v x.number; value = x.value };
    trailing = λ f m v x. record { number = number_trailing n f m v x.number; value = x.value };
    fixed_length = length-bytes_low_first 0 n;
    reads_back = λ v m f r. record { number = number_back n v m f r.1; value = r.0 };
  })

-- n octets as they are
pub record OctetsPart (n : ℕ) (f m v : List ℕ) : Type 0 where
  pub room : n ≤ length f
  pub value : v ≡ take n f

pub no_octets : (n : ℕ) (f m : List ℕ) (e : Error) (v : List ℕ) → IsCut n f e → OctetsPart n f m v → IsMemory e
no_octets n f m e v r x = let room = x.room in absurd (omega (arith, r.1))

pub octets_prefix : (n : ℕ) (f m v : List ℕ) → OctetsPart n (take n f) m v → OctetsPart n f m v
octets_prefix n f m v x =
    let room = x.room in
    let long = length-take n f in
    record { room = omega arith; value = x.value ∙ take_all n (take n f) (omega arith) }

pub octets_trailing : (n : ℕ) (f m v : List ℕ) → OctetsPart n f m v → OctetsPart n (take n f) m v
octets_trailing n f m v x =
    let room = x.room in
    let long = length-take n f in
    record { room = omega arith; value = x.value ∙ sym (take_all n (take n f) (omega arith)) }

-- the first n octets of a list that has n
abbrev pub exactly : ℕ → List ℕ → List ℕ
exactly n v = take n (v ++ replicate n 0)

pub exactly_length : (n : ℕ) (v : List ℕ) → length (exactly n v) ≡ n
exactly_length n v =
    let a = length-take n (v ++ replicate n 0) in
    let b = length-append v (replicate n 0) in
    let c : length (replicate {A = ℕ} n 0) ≡ n = length-replicate n 0 in
    omega arith

pub octets_back : (n : ℕ) (v m f : List ℕ) → length v ≡ n → OctetsPart n (exactly n v ++ f) m v
octets_back n v m f e =
    let same : exactly n v ≡ v = take_at v (replicate n 0) n e in
    let long = length-append (exactly n v) f in
    let own = exactly_length n v in
    record { room = omega arith; value = sym same ∙ sym (take_at (exactly n v) f n own) }

abbrev pub octets : (n : ℕ) → 0 < n → Layout (List ℕ)
octets n h = plain (record {
  width = n;
  wide = h;
  part = OctetsPart n;
  same = λ v w. v ≡ w;
  fixed = exactly n;
  readable = λ v. length v ≡ n;
  rejects = λ f m e. IsCut n f e;
  room = λ f m v x. x.room;
  no_part = no_octets n;
  one_part = λ f m v w x y. x.value ∙ sym y.value;
  one_error = λ f m. one_cut n f;
  prefix = octets_prefix n;
  trailing = octets_trailing n;
  fixed_length = exactly_length n;
  reads_back = λ v m f r. octets_back n v m f r;
})
