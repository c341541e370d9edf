-- Which octets are an element.
use Rattle.std.proofs.Common.{◌≡◌, ℕ, suc, ◌+◌, ◌^◌, ◌<◌, ◌≤◌, true, false, eqb, List, [], ◌∷◌, ◌++◌, length, get_or, take, drop, refl, sym, ap, ◌∙◌, append_assoc, arith}
use Rattle.std.proofs.lemmas.Bool.{eqb-true}
use Rattle.std.proofs.lemmas.List.{append-nil, length-append, length-take-le, take-append-drop, drop-drop}
use Rattle.krb_der_core.specs.declared.error.Asn1DerError.{Asn1DerError}
use Rattle.krb_der_core.specs.declared.error.Asn1DerError.TheVariants as errors
use Rattle.krb_der_core.specs.Tlv.{len, tlv}
use Rattle.krb_der_core.specs.Reading.{TakesPrefix, NoPrefix, NoBeginning, RejectsPrefix, Lengths, Elements}
use Rattle.krb_der_core.specs.TlvLaws.{same_heads, same_conses, len_apart}
use Rattle.krb_der_core.specs.LengthLaws.{NoMeet, meet_from_both}

pub nothing_read : (t : ℕ) (input : List ℕ) → eqb (length input) 0 ≡ true → NoPrefix (Elements t) input
unfolding tlv
nothing_read t [] h b rest p e = let f : [] ≡ t ∷ ((len (length p.0) ++ p.0) ++ rest) = e ∙ ap (λ (l : List ℕ). l ++ rest) p.2 in cc
nothing_read t (i ∷ is) h b rest p e = absurd (omega (arith, eqb-true (length (i ∷ is)) 0 h))

pub other_tag : (t : ℕ) (input : List ℕ) → eqb (length input) 0 ≡ false → (get_or input 0 0 ≡ t → ⊥) → NoMeet (Elements t) input
unfolding tlv
other_tag t [] h ne b x y p e = absurd cc
other_tag t (i ∷ is) h ne b x y p e = let f : i ∷ (is ++ x) ≡ t ∷ ((len (length p.0) ++ p.0) ++ y) = e ∙ ap (λ (l : List ℕ). l ++ y) p.2 in ne (same_heads _ _ _ _ f).0

-- what meets an element begins with its tag
pub same_first : (t : ℕ) (input b x y : List ℕ) → eqb (length input) 0 ≡ false → Elements t b → input ++ x ≡ b ++ y → get_or input 0 0 ≡ t
unfolding tlv
same_first t [] b x y ne p e = absurd cc
same_first t (i ∷ is) b x y ne p e = let f : i ∷ (is ++ x) ≡ t ∷ ((len (length p.0) ++ p.0) ++ y) = e ∙ ap (λ (l : List ℕ). l ++ y) p.2 in (same_heads _ _ _ _ f).0

-- the length of an element fits where the element does
content_fits : (t : ℕ) (b : List ℕ) → (p : Elements t b) → length p.0 < 2 ^ 64
unfolding tlv
content_fits t b p = omega (arith, ap length p.2, length-append (len (length p.0)) p.0)

-- what follows the tag
trailing : (t i : ℕ) (is b x y : List ℕ) → (p : Elements t b) → (i ∷ is) ++ x ≡ b ++ y → is ++ x ≡ len (length p.0) ++ (p.0 ++ y)
unfolding tlv
trailing t i is b x y p e =
    let f : i ∷ (is ++ x) ≡ t ∷ ((len (length p.0) ++ p.0) ++ y) = e ∙ ap (λ (l : List ℕ). l ++ y) p.2 in
    (same_heads _ _ _ _ f).1 ∙ append_assoc (len (length p.0)) p.0 y

no_prefix : (t i : ℕ) (is : List ℕ) → NoPrefix Lengths is → NoPrefix (Elements t) (i ∷ is)
no_prefix t i is h b rest p e =
    h (len (length p.0)) (p.0 ++ rest) (length p.0, content_fits t b p, refl) (sym (append-nil is) ∙ trailing t i is b [] rest p (append-nil (i ∷ is) ∙ e))

-- an element which begins with the input, whose tag is there, has a length which begins with the rest or the other way round
no_beginning : (t i : ℕ) (is : List ℕ) → NoMeet Lengths is → NoBeginning (Elements t) (i ∷ is)
no_beginning t i is h b rest p e =
    h (len (length p.0)) rest (p.0 ++ []) (length p.0, content_fits t b p, refl) (trailing t i is b rest [] p (sym e ∙ sym (append-nil b)))

pub bad_length : (e : Asn1DerError) (t : ℕ) (input : List ℕ) → eqb (length input) 0 ≡ false → RejectsPrefix Lengths (drop 1 input) e
    → RejectsPrefix (Elements t) input e
bad_length e t [] h r = absurd cc
bad_length errors.OutOfMemory t (i ∷ is) h r = tt
bad_length errors.TruncatedData t (i ∷ is) h r = no_prefix t i is r
bad_length errors.InvalidData t (i ∷ is) h r = (no_prefix t i is r.0, no_beginning t i is (meet_from_both Lengths is r))
bad_length errors.UnsupportedValue t (i ∷ is) h r = (no_prefix t i is r.0, no_beginning t i is (meet_from_both Lengths is r))
bad_length (errors.Io io) t (i ∷ is) h r = r

-- an element whose length was read
cut : (t i L n : ℕ) (is b rest : List ℕ) → (p : Elements t b) → is ≡ len L ++ drop n is → i ∷ is ≡ b ++ rest → (L ≡ length p.0) × (drop n is ≡ p.0 ++ rest)
cut t i L n is b rest p f e = len_apart L (length p.0) (drop n is) (p.0 ++ rest) (sym f ∙ sym (append-nil is) ∙ trailing t i is b [] rest p (append-nil (i ∷ is) ∙ e))

pub short_content : (t L n : ℕ) (input : List ℕ) → eqb (length input) 0 ≡ false → TakesPrefix (len L) n (drop 1 input)
    → length (drop n (drop 1 input)) < L → NoPrefix (Elements t) input
short_content t L n [] h f lt b rest p e = absurd cc
short_content t L n (i ∷ is) h f lt b rest p e =
    let k = cut t i L n is b rest p f.prefix e in
    omega (arith, k.0, ap length k.1, length-append p.0 rest)

element_is : (t i L n : ℕ) (is : List ℕ) → i ≡ t → TakesPrefix (len L) n is → L ≤ length (drop n is)
    → TakesPrefix (tlv t (take L (drop n is))) (1 + n + L) (i ∷ is)
unfolding tlv
element_is t i L n is same f le =
    let c = take L (drop n is) in
    let k : length c ≡ L = length-take-le L (drop n is) le in
    let d : drop (n + L) is ≡ drop L (drop n is) = sym (drop-drop L n is) in
    let one : 1 + n + L ≡ suc (n + L) = omega arith in
    let whole : is ≡ (len L ++ c) ++ drop (n + L) is = rw d (f.prefix ∙ ap (λ (l : List ℕ). len L ++ l) (sym (take-append-drop L (drop n is))) ∙ sym (append_assoc (len L) c (drop L (drop n is)))) in
    rw (k, one) (record { count = omega (arith, f.count, length-append (len L) c); prefix = same_conses i t is ((len L ++ c) ++ drop (n + L) is) same whole })

pub element_read : (t L n : ℕ) (input : List ℕ) → eqb (length input) 0 ≡ false → get_or input 0 0 ≡ t
    → TakesPrefix (len L) n (drop 1 input) → L ≤ length (drop n (drop 1 input))
    → TakesPrefix (tlv t (take L (drop n (drop 1 input)))) (1 + n + L) input
element_read t L n [] h same f le = absurd cc
element_read t L n (i ∷ is) h same f le = element_is t i L n is same f le
