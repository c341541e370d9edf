-- Octets have one reading as a record.
use Rattle.std.proofs.Common.{◌≡◌, ℕ, ◌<◌, ◌^◌, List, ◌++◌, Option, Some, None, refl, sym, ap, ◌∙◌}
use Rattle.std.proofs.KnownBytes.{Consumes-trans}
use Rattle.std.proofs.lemmas.Nat.{from_le_bytes-to_le_bytes_4}
use Rattle.std.specs.Int.{from_le_bytes, to_le_bytes, w32}
use Rattle.std.specs.Io.KnownBytes.{Consumes}
use Rattle.krb_der.specs.TlvLaws.{same_prefixes}
use Rattle.krb_types.specs.TokenInfo.{IsTokenInfo, lsap_token_info}
use Rattle.krb_types.specs.declared.lsap.token.LsapTokenInfoIntegrity.{LsapTokenInfoIntegrity}

number_is : (m n : ℕ) → m < 2 ^ 32 → n < 2 ^ 32 → to_le_bytes w32 m ≡ to_le_bytes w32 n → m ≡ n
number_is m n h k e = sym (from_le_bytes-to_le_bytes_4 m h) ∙ ap (from_le_bytes w32) e ∙ from_le_bytes-to_le_bytes_4 n k

record_is : (r s : LsapTokenInfoIntegrity) → r.flags ≡ s.flags → r.token_il ≡ s.token_il → r.machine_id ≡ s.machine_id → r ≡ s
record_is r s e f g =
    let mk : ℕ → ℕ → List ℕ → LsapTokenInfoIntegrity = λ a b c. record { flags = a; token_il = b; machine_id = c } in
    ap (λ (a : ℕ). mk a r.token_il r.machine_id) e ∙ ap (λ (b : ℕ). mk s.flags b r.machine_id) f ∙ ap (λ (c : List ℕ). mk s.flags s.token_il c) g

pub one_record : (r s : LsapTokenInfoIntegrity) (x y : List ℕ) → IsTokenInfo r → IsTokenInfo s → lsap_token_info r ++ x ≡ lsap_token_info s ++ y → (r ≡ s) × (x ≡ y)
one_record r s x y h k e =
    let flags = same_prefixes (to_le_bytes w32 r.flags) (to_le_bytes w32 s.flags) (to_le_bytes w32 r.token_il ++ (r.machine_id ++ x)) (to_le_bytes w32 s.token_il ++ (s.machine_id ++ y)) refl e in
    let level = same_prefixes (to_le_bytes w32 r.token_il) (to_le_bytes w32 s.token_il) (r.machine_id ++ x) (s.machine_id ++ y) refl flags.1 in
    let machine = same_prefixes r.machine_id s.machine_id x y (h.machine_id ∙ sym k.machine_id) level.1 in
    (record_is r s (number_is r.flags s.flags h.flags k.flags flags.0) (number_is r.token_il s.token_il h.token_il k.token_il level.0) machine.0, machine.1)

-- three parts taken in turn
pub taken : (a b c d : Option (List ℕ)) (xs ys zs : List ℕ) → Consumes a b xs → Consumes b c ys → Consumes c d zs → Consumes a d (xs ++ (ys ++ zs))
taken a b c d xs ys zs h k l = Consumes-trans a b d xs (ys ++ zs) h (Consumes-trans b c d ys zs k l)

pub read_so : (r w : LsapTokenInfoIntegrity) (rest : List ℕ) (a d : Option (List ℕ)) → IsTokenInfo r → IsTokenInfo w → Consumes a d (lsap_token_info w) → a ≡ Some (lsap_token_info r ++ rest) → (w ≡ r) × (d ≡ Some rest)
read_so r w rest None d h k c e = absurd cc
read_so r w rest (Some p) None h k c e = absurd c
read_so r w rest (Some p) (Some q) h k c e =
    let same : p ≡ lsap_token_info r ++ rest = cc in
    let one = one_record w r q rest k h (sym c ∙ same) in
    (one.0, ap Some one.1)
