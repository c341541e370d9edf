-- What is made is read as what it was made of.
use Rattle.std.proofs.Common.{◌≡◌, ◌⊎◌, ℕ, List, [], ◌++◌, sym, ◌∙◌, subst, inl, inr}
use Rattle.krb_der_core.specs.Tlv.{tlv}
use Rattle.krb_der_core.specs.TlvLaws.{tlv_apart, tlv_same}
use Rattle.krb_c_calls.specs.Places.{StandsBefore}
use Rattle.krb_c_calls.specs.Token.{IsToken, IsTokenAt}

one_token : (octets m i n j : List ℕ) → IsToken octets m i → IsToken octets n j → (m ≡ n) × (i ≡ j)
one_token octets m i n j t u =
    let s = tlv_apart 6 6 m n i j (tlv_same 96 96 (tlv 6 m ++ i) (tlv 6 n ++ j) (sym t.1 ∙ u.1)) in
    (s.content, s.rest)

pub read_again : (mechanism inner octets : List ℕ) (mechanism_offset mechanism_size inner_offset inner_size status : ℕ) → IsToken octets mechanism inner
    → IsTokenAt octets mechanism_offset mechanism_size inner_offset inner_size status
    → (status ≡ 2) ⊎ ((status ≡ 0) × StandsBefore mechanism inner octets mechanism_offset mechanism_size × StandsBefore inner [] octets inner_offset inner_size)
read_again mechanism inner octets mo ms io is status t (inl (m, i, u, done, p, q)) =
    let same = one_token octets m i mechanism inner u t in
    inr (
      done,
      subst (λ (x : List ℕ). StandsBefore x inner octets mo ms) same.0 (subst (λ (y : List ℕ). StandsBefore m y octets mo ms) same.1 p),
      subst (λ (y : List ℕ). StandsBefore y [] octets io is) same.1 q,
    )
read_again mechanism inner octets mo ms io is status t (inr (inl memory, z0, z1, z2, z3)) = inl memory
read_again mechanism inner octets mo ms io is status t (inr (inr why, z0, z1, z2, z3)) = absurd (why.2.0 mechanism inner t)
