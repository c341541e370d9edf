-- Octets that begin with a length.
use Rattle.std.proofs.Common.{◌≡◌, ◌⊎◌, ℕ, ◌<◌, ◌≤◌, ◌^◌, List, [], ◌∷◌, ◌++◌, length, get_or, drop, refl, sym, ap, ◌∙◌, inl, inr, zero, suc, lit<, arith}
use Rattle.std.proofs.lemmas.Bool.{cases_lt}
use Rattle.std.proofs.lemmas.Nat.{be_bytes_4}
use Rattle.std.specs.Int.{from_be_bytes, to_be_bytes, w32}
use Rattle.krb_kdc_proxy.specs.Prefixed.{IsPrefixed}
use Rattle.krb_kdc_proxy.specs.Streams.{Announces, MayBe}

abbrev pub four : List ℕ → List ℕ
four octets = get_or octets 0 0 ∷ get_or octets 1 0 ∷ get_or octets 2 0 ∷ get_or octets 3 0 ∷ []

split : (octets : List ℕ) → 4 ≤ length octets → octets ≡ four octets ++ drop 4 octets
split [] h = absurd (omega arith)
split (a ∷ []) h = absurd (omega arith)
split (a ∷ b ∷ []) h = absurd (omega arith)
split (a ∷ b ∷ c ∷ []) h = absurd (omega arith)
split (a ∷ b ∷ c ∷ d ∷ rest) h = refl

small : (a b c d : ℕ) → a < 256 → b < 256 → c < 256 → d < 256 → (i : ℕ) → get_or (a ∷ b ∷ c ∷ d ∷ []) i 0 < 256
small a b c d ha hb hc hd zero = ha
small a b c d ha hb hc hd (suc zero) = hb
small a b c d ha hb hc hd (suc (suc zero)) = hc
small a b c d ha hb hc hd (suc (suc (suc zero))) = hd
small a b c d ha hb hc hd (suc (suc (suc (suc i)))) = lit< tt

pub announced : (octets : List ℕ) (size : ℕ) → 4 ≤ length octets → ((i : ℕ) → get_or octets i 0 < 256) → size < 2 ^ 32 → size ≡ from_be_bytes w32 (four octets)
    → Announces octets size (drop 4 octets)
announced octets size long octet fits is =
    let same = be_bytes_4 (four octets) size refl (small (get_or octets 0 0) (get_or octets 1 0) (get_or octets 2 0) (get_or octets 3 0) (octet 0) (octet 1) (octet 2) (octet 3)) is in
    (fits, split octets long ∙ ap (λ (l : List ℕ). l ++ drop 4 octets) (sym same))

-- the length is too large, or more stands behind it
pub too_much : (limit size behind : ℕ) → (MayBe limit size → behind ≤ size → ⊥) → (MayBe limit size → ⊥) ⊎ (size < behind)
too_much limit size behind f = elim (cases_lt size behind) [ inl less ↦ inr less | inr enough ↦ inl (λ may. f may enough) ]

-- the message is there
pub there : (octets : List ℕ) (limit size : ℕ) → Announces octets size (drop 4 octets) → MayBe limit size → size ≡ length (drop 4 octets)
    → (message : List ℕ) × IsPrefixed octets message × (length message ≤ limit)
there octets limit size a may same =
    (drop 4 octets, (omega (arith, may.1, same), a.1 ∙ ap (λ (n : ℕ). to_be_bytes w32 n ++ drop 4 octets) same), omega (arith, may.0, same))
