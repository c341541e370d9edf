-- The first octets of frames.
use Rattle.std.proofs.Common.{◌≡◌, ℕ, ◌<◌, ◌≤◌, Bool, true, false, List, [], ◌∷◌, ◌++◌, length, get_or, take, drop, zero, suc, MatchBool, refl, sym, ap, ◌∙◌, inl, inr, arith}
use Rattle.std.specs.Int.{from_be_bytes, to_be_bytes, w16}
use Rattle.std.proofs.lemmas.Nat.{be_bytes_2}
use Rattle.krb_kdc_proxy.specs.declared.frame.Direction.{Direction}
use Rattle.krb_kdc_proxy.specs.declared.frame.Direction.TheVariants as direction
use Rattle.krb_kdc_proxy.specs.Frames.{BeginsAsFrame, IsVersion}

pair_fits : (p q : ℕ) → p < 256 → q < 256 → (i : ℕ) → get_or (p ∷ q ∷ []) i 0 < 256
pair_fits p q f g zero = f
pair_fits p q f g (suc zero) = g
pair_fits p q f g (suc (suc i)) = omega arith

same_pair : (x y a b : ℕ) (r rest : List ℕ) → x ∷ y ∷ r ≡ a ∷ b ∷ rest → x ∷ y ∷ [] ≡ a ∷ b ∷ []
same_pair x y a b r rest e = ap (take 2) e

version_here : (d : Direction) (version rest : List ℕ) (x y : ℕ) (r : List ℕ) → IsVersion d version → x ∷ y ∷ r ≡ version ++ rest → IsVersion d (x ∷ y ∷ [])
version_here direction.Request version rest x y r (inl is) e = inl (same_pair x y 0 1 r rest (e ∙ ap (λ (l : List ℕ). l ++ rest) is))
version_here direction.Request version rest x y r (inr is) e = inr (same_pair x y 255 128 r rest (e ∙ ap (λ (l : List ℕ). l ++ rest) is))
version_here direction.Reply version rest x y r is e = same_pair x y 0 1 r rest (e ∙ ap (λ (l : List ℕ). l ++ rest) is)

length_here : (p q : ℕ) (octets : List ℕ) (n : ℕ) → p < 256 → q < 256 → n ≡ from_be_bytes w16 (p ∷ q ∷ []) → n ≡ length octets → to_be_bytes w16 (length octets) ≡ p ∷ q ∷ []
length_here p q octets n f g is same = be_bytes_2 (p ∷ q ∷ []) (length octets) refl (pair_fits p q f g) (sym same ∙ is)

pub begins : (d : Direction) (octets : List ℕ) (n : ℕ) (b : Bool) → ((i : ℕ) → get_or octets i 0 < 256) → 4 ≤ length octets
    → n ≡ from_be_bytes w16 (get_or octets 0 0 ∷ get_or octets 1 0 ∷ []) → n ≡ length octets → n < 65536
    → MatchBool b (IsVersion d (get_or octets 2 0 ∷ get_or octets 3 0 ∷ [])) (IsVersion d (get_or octets 2 0 ∷ get_or octets 3 0 ∷ []) → ⊥)
    → MatchBool b (BeginsAsFrame d octets) (BeginsAsFrame d octets → ⊥)
begins d [] n b fits long is same short v = absurd (omega (arith, long))
begins d (p ∷ []) n b fits long is same short v = absurd (omega (arith, long))
begins d (p ∷ q ∷ []) n b fits long is same short v = absurd (omega (arith, long))
begins d (p ∷ q ∷ x ∷ []) n b fits long is same short v = absurd (omega (arith, long))
begins d (p ∷ q ∷ x ∷ y ∷ r) n true fits long is same short v =
    let here = length_here p q (p ∷ q ∷ x ∷ y ∷ r) n (fits 0) (fits 1) is same in
    record {
      version = x ∷ y ∷ [];
      rest = r;
      is_version = v;
      short = omega (arith, same, short);
      whole = ap (λ (l : List ℕ). l ++ (x ∷ y ∷ r)) (sym here);
    }
begins d (p ∷ q ∷ x ∷ y ∷ r) n false fits long is same short v = λ f.
    let here = length_here p q (p ∷ q ∷ x ∷ y ∷ r) n (fits 0) (fits 1) is same in
    let e : p ∷ q ∷ x ∷ y ∷ r ≡ p ∷ q ∷ (f.version ++ f.rest) = f.whole ∙ ap (λ (l : List ℕ). l ++ (f.version ++ f.rest)) here in
    v (version_here d f.version f.rest x y r f.is_version (ap (drop 2) e))
