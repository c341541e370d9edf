-- Ciphertext stealing is one to one and onto at each length from 16 on.
use Rattle.std.proofs.Common.{◌≡◌, ℕ, zero, suc, ◌+◌, ◌-◌, ◌*◌, ◌/◌, ◌<◌, ◌≤◌, List, [], ◌∷◌, ◌++◌, length, take, drop, replicate, refl, sym, ap, subst, ◌∙◌, arith}
use Rattle.std.proofs.lemmas.List.{length-append, length-take-le, length-drop, length-replicate, take-append-drop, take-append-le, take_at, drop_at, append-nil, append_assoc, replicate-append-replicate}
use Rattle.std.proofs.Math.Nat.{zero-add, suc-add}
use Rattle.std.specs.List.{concat}
use Rattle.krb_crypto_hash.specs.Xor.{xor_lists}
use Rattle.krb_crypto_block.specs.Modes.{padded, IsOctets, IsBlock, AreInverse, zero_block, first_blocks, padded_blocks, exchanged, CtsFrom, Cts, HasOnePlain}
use Rattle.krb_crypto_block.proofs.Below.{AreBelow-append, AreBelow-drop, AreBelow-take, AreBelow-xor_lists, AreBelow-zeros}
use Rattle.krb_crypto_hash.proofs.XorLists.{length-xor_lists, xor_lists-twice, xor_lists-append, xor_lists-zeros}
use Rattle.krb_crypto_block.proofs.Chains.{chained, chained_from, CbcFrom-chained}

-- p has n whole blocks and then one to 16 octets
pub InBlocks : ℕ → List ℕ → Type 0
InBlocks zero p = length p ≡ 16
InBlocks (suc n) p = (16 * suc n < length p) × (length p ≤ 16 * suc n + 16)

-- one whole block b and then t
abbrev pub two : (List ℕ → List ℕ) → List ℕ → List ℕ → List ℕ → List ℕ
two E v b t = E (xor_lists (padded t) (E (xor_lists b v))) ++ take (length t) (E (xor_lists b v))

abbrev pub untwo : (List ℕ → List ℕ) → List ℕ → List ℕ → List ℕ → List ℕ
untwo D v x y = xor_lists (D (y ++ drop (length y) (D x))) v ++ xor_lists (take (length y) (D x)) y

unfoldable pub stolen : (List ℕ → List ℕ) → ℕ → List ℕ → List ℕ → List ℕ
stolen E zero v p = E (xor_lists p v)
stolen E (suc zero) v p = two E v (take 16 p) (drop 16 p)
stolen E (suc (suc n)) v p = E (xor_lists (take 16 p) v) ++ stolen E (suc n) (E (xor_lists (take 16 p) v)) (drop 16 p)

unfoldable pub unstolen : (List ℕ → List ℕ) → ℕ → List ℕ → List ℕ → List ℕ
unstolen D zero v c = xor_lists (D c) v
unstolen D (suc zero) v c = untwo D v (take 16 c) (drop 16 c)
unstolen D (suc (suc n)) v c = xor_lists (D (take 16 c)) v ++ unstolen D (suc n) (take 16 c) (drop 16 c)

IsBlock-padded : (t : List ℕ) → IsOctets t → length t ≤ 16 → IsBlock 16 (padded t)
IsBlock-padded t h fits = (
  rw (length-append, length-replicate) (omega arith),
  AreBelow-append t (replicate (16 - length t) 0) h (AreBelow-zeros (16 - length t) (omega arith)),
)

IsBlock-xor_lists : (xs ys : List ℕ) → IsBlock 16 xs → IsBlock 16 ys → IsBlock 16 (xor_lists xs ys)
IsBlock-xor_lists xs ys h g = (length-xor_lists xs ys (h.0 ∙ sym g.0) ∙ h.0, AreBelow-xor_lists 8 xs ys h.1 g.1)

IsBlock-take : (p : List ℕ) → IsOctets p → 16 ≤ length p → IsBlock 16 (take 16 p)
IsBlock-take p h long = (length-take-le 16 p long, AreBelow-take 16 p h)

take_beyond : (xs ys : List ℕ) (n : ℕ) → take (length xs + n) (xs ++ ys) ≡ xs ++ take n ys
take_beyond [] ys n = ap (λ (k : ℕ). take k ys) (zero-add n)
take_beyond (x ∷ xs) ys n = rw (suc-add) (ap (λ (k : List ℕ). x ∷ k) (take_beyond xs ys n))

block_count : (n : ℕ) (p : List ℕ) → InBlocks n p → (length p + 15) / 16 ≡ suc n
unfolding InBlocks
block_count zero p h = omega (arith, h)
block_count (suc n) p h = omega (arith, h.0, h.1)

InBlocks-long : (n : ℕ) (p : List ℕ) → InBlocks n p → 16 ≤ length p
unfolding InBlocks
InBlocks-long zero p h = omega (arith, h)
InBlocks-long (suc n) p h = omega (arith, h.0, h.1)

InBlocks-same : (n : ℕ) (c p : List ℕ) → length p ≡ length c → InBlocks n c → InBlocks n p
unfolding InBlocks
InBlocks-same zero c p e h = e ∙ h
InBlocks-same (suc n) c p e h = (omega (arith, e, h.0), omega (arith, e, h.1))

InBlocks_at : (n : ℕ) (p : List ℕ) → 16 ≤ length p → n ≡ (length p - 1) / 16 → InBlocks n p
unfolding InBlocks
InBlocks_at zero p long e = omega arith
InBlocks_at (suc n) p long e = (omega arith, omega arith)

InBlocks-some : (p : List ℕ) → 16 ≤ length p → (n : ℕ) × InBlocks n p
InBlocks-some p long = ((length p - 1) / 16, InBlocks_at ((length p - 1) / 16) p long refl)

module _ (E D : List ℕ → List ℕ) (inv : AreInverse 16 E D) where
  -- what the last block gives back
  last_block : (t c : List ℕ) → IsBlock 16 c → IsOctets t → length t ≤ 16 → D (E (xor_lists (padded t) c)) ≡ xor_lists t (take (length t) c) ++ drop (length t) c
  last_block t c hc ht fits =
      let b : IsBlock 16 (xor_lists (padded t) c) = IsBlock-xor_lists (padded t) c (IsBlock-padded t ht fits) hc in
      let lt : length (take (length t) c) ≡ length t = length-take-le (length t) c (omega (arith, hc.0)) in
      let ld : length (drop (length t) c) ≡ 16 - length t = rw length-drop (omega (arith, hc.0)) in
      let parts : xor_lists (padded t) (take (length t) c ++ drop (length t) c) ≡ xor_lists t (take (length t) c) ++ xor_lists (replicate (16 - length t) 0) (drop (length t) c) =
      xor_lists-append t (take (length t) c) (replicate (16 - length t) 0) (drop (length t) c) (sym lt) in
      let whole : xor_lists (padded t) c ≡ xor_lists t (take (length t) c) ++ drop (length t) c =
      ap (λ (k : List ℕ). xor_lists (padded t) k) (sym (take-append-drop (length t) c)) ∙ parts
      ∙ ap (λ (k : List ℕ). xor_lists t (take (length t) c) ++ k) (xor_lists-zeros (16 - length t) (drop (length t) c) ld) in
      inv.left (xor_lists (padded t) c) b ∙ whole

  two_left : (v b t : List ℕ) → IsBlock 16 v → IsBlock 16 b → IsOctets t → length t ≤ 16
      → untwo D v (E (xor_lists (padded t) (E (xor_lists b v)))) (take (length t) (E (xor_lists b v))) ≡ b ++ t
  two_left v b t hv hb ht fits =
      let c : List ℕ = E (xor_lists b v) in
      let hbv : IsBlock 16 (xor_lists b v) = IsBlock-xor_lists b v hb hv in
      let hc : IsBlock 16 c = inv.encrypted_octets (xor_lists b v) hbv in
      let lt : length (take (length t) c) ≡ length t = length-take-le (length t) c (omega (arith, hc.0)) in
      let u : D (E (xor_lists (padded t) c)) ≡ xor_lists t (take (length t) c) ++ drop (length t) c = last_block t c hc ht fits in
      let lx : length (xor_lists t (take (length t) c)) ≡ length t = length-xor_lists t (take (length t) c) (sym lt) in
      let low : drop (length (take (length t) c)) (D (E (xor_lists (padded t) c))) ≡ drop (length t) c =
      rw (lt, u) (drop_at (xor_lists t (take (length t) c)) (drop (length t) c) (length t) lx) in
      let high : take (length (take (length t) c)) (D (E (xor_lists (padded t) c))) ≡ xor_lists t (take (length t) c) =
      rw (lt, u) (take_at (xor_lists t (take (length t) c)) (drop (length t) c) (length t) lx) in
      let first : take (length t) c ++ drop (length (take (length t) c)) (D (E (xor_lists (padded t) c))) ≡ c =
      ap (λ (k : List ℕ). take (length t) c ++ k) low ∙ take-append-drop (length t) c in
      let one : xor_lists (D (take (length t) c ++ drop (length (take (length t) c)) (D (E (xor_lists (padded t) c))))) v ≡ b =
      ap (λ (k : List ℕ). xor_lists (D k) v) first ∙ ap (λ (k : List ℕ). xor_lists k v) (inv.left (xor_lists b v) hbv) ∙ xor_lists-twice b v (hb.0 ∙ sym hv.0) in
      let other : xor_lists (take (length (take (length t) c)) (D (E (xor_lists (padded t) c)))) (take (length t) c) ≡ t =
      ap (λ (k : List ℕ). xor_lists k (take (length t) c)) high ∙ xor_lists-twice t (take (length t) c) (sym lt) in
      ap (λ (k : List ℕ). k ++ xor_lists (take (length (take (length t) c)) (D (E (xor_lists (padded t) c)))) (take (length t) c)) one ∙ ap (λ (k : List ℕ). b ++ k) other

  -- the other way: from x and y
  two_right : (v x y : List ℕ) → IsBlock 16 v → IsBlock 16 x → IsOctets y → length y ≤ 16
      → two E v (xor_lists (D (y ++ drop (length y) (D x))) v) (xor_lists (take (length y) (D x)) y) ≡ x ++ y
  two_right v x y hv hx hy fits =
      let u : List ℕ = D x in
      let hu : IsBlock 16 u = inv.decrypted x hx in
      let c : List ℕ = y ++ drop (length y) u in
      let lty : length (take (length y) u) ≡ length y = length-take-le (length y) u (omega (arith, hu.0)) in
      let hc : IsBlock 16 c = (rw (length-append, length-drop) (omega (arith, hu.0)), AreBelow-append y (drop (length y) u) hy (AreBelow-drop (length y) u hu.1)) in
      let hdc : IsBlock 16 (D c) = inv.decrypted c hc in
      let first : E (xor_lists (xor_lists (D c) v) v) ≡ c = ap E (xor_lists-twice (D c) v (hdc.0 ∙ sym hv.0)) ∙ inv.right c hc in
      let t : List ℕ = xor_lists (take (length y) u) y in
      let lt : length t ≡ length y = length-xor_lists (take (length y) u) y lty ∙ lty in
      let ld : length (drop (length y) u) ≡ 16 - length y = rw length-drop (omega (arith, hu.0)) in
      let padding : padded t ≡ t ++ replicate (16 - length y) 0 = ap (λ (k : ℕ). t ++ replicate (16 - k) 0) lt in
      let whole : xor_lists (padded t) c ≡ u =
      ap (λ (k : List ℕ). xor_lists k c) padding ∙ xor_lists-append t y (replicate (16 - length y) 0) (drop (length y) u) lt
      ∙ ap (λ (k : List ℕ). k ++ xor_lists (replicate (16 - length y) 0) (drop (length y) u)) (xor_lists-twice (take (length y) u) y lty)
      ∙ ap (λ (k : List ℕ). take (length y) u ++ k) (xor_lists-zeros (16 - length y) (drop (length y) u) ld) ∙ take-append-drop (length y) u in
      let high : E (xor_lists (padded t) (E (xor_lists (xor_lists (D c) v) v))) ≡ x =
      ap (λ (k : List ℕ). E (xor_lists (padded t) k)) first ∙ ap E whole ∙ inv.right x hx in
      let low : take (length t) (E (xor_lists (xor_lists (D c) v) v)) ≡ y =
      ap (λ (k : List ℕ). take (length t) k) first ∙ take_at y (drop (length y) u) (length t) (sym lt) in
      ap (λ (k : List ℕ). k ++ take (length t) (E (xor_lists (xor_lists (D c) v) v))) high ∙ ap (λ (k : List ℕ). x ++ k) low

  IsBlock-first : (v p : List ℕ) → IsBlock 16 v → IsOctets p → 16 ≤ length p → IsBlock 16 (E (xor_lists (take 16 p) v))
  IsBlock-first v p hv hp long = inv.encrypted_octets (xor_lists (take 16 p) v) (IsBlock-xor_lists (take 16 p) v (IsBlock-take p hp long) hv)

  -- the length and the octets of what is encrypted
  two_length : (v b t : List ℕ) → IsBlock 16 v → IsBlock 16 b → IsOctets t → length t ≤ 16 → (length (two E v b t) ≡ 16 + length t) × IsOctets (two E v b t)
  two_length v b t hv hb ht fits =
      let hc : IsBlock 16 (E (xor_lists b v)) = inv.encrypted_octets (xor_lists b v) (IsBlock-xor_lists b v hb hv) in
      let hx : IsBlock 16 (E (xor_lists (padded t) (E (xor_lists b v)))) = inv.encrypted_octets (xor_lists (padded t) (E (xor_lists b v))) (IsBlock-xor_lists (padded t) (E (xor_lists b v)) (IsBlock-padded t ht fits) hc) in
      let lt : length (take (length t) (E (xor_lists b v))) ≡ length t = length-take-le (length t) (E (xor_lists b v)) (omega (arith, hc.0)) in (
        length-append (E (xor_lists (padded t) (E (xor_lists b v)))) (take (length t) (E (xor_lists b v))) ∙ rw (lt, hx.0) refl,
        AreBelow-append (E (xor_lists (padded t) (E (xor_lists b v)))) (take (length t) (E (xor_lists b v))) hx.1 (AreBelow-take (length t) (E (xor_lists b v)) hc.1),
      )

  InBlocks-rest : (n : ℕ) (p : List ℕ) → InBlocks (suc (suc n)) p → InBlocks (suc n) (drop 16 p)
  unfolding InBlocks
  InBlocks-rest n p h = (rw length-drop (omega (arith, h.0)), rw length-drop (omega (arith, h.1)))

  stolen_length : (n : ℕ) (v p : List ℕ) → IsBlock 16 v → IsOctets p → InBlocks n p → (length (stolen E n v p) ≡ length p) × IsOctets (stolen E n v p)
  unfolding InBlocks stolen
  stolen_length zero v p hv hp h =
      let b : IsBlock 16 (E (xor_lists p v)) = inv.encrypted_octets (xor_lists p v) (IsBlock-xor_lists p v (h, hp) hv) in
      (b.0 ∙ sym h, b.1)
  stolen_length (suc zero) v p hv hp h =
      let ld : length (drop 16 p) ≡ length p - 16 = length-drop 16 p in
      let r : (length (two E v (take 16 p) (drop 16 p)) ≡ 16 + length (drop 16 p)) × IsOctets (two E v (take 16 p) (drop 16 p)) =
      two_length v (take 16 p) (drop 16 p) hv (IsBlock-take p hp (omega (arith, h.0))) (AreBelow-drop 16 p hp) (omega (arith, ld, h.1)) in
      (omega (arith, r.0, ld, h.0), r.1)
  stolen_length (suc (suc n)) v p hv hp h =
      let c : IsBlock 16 (E (xor_lists (take 16 p) v)) = IsBlock-first v p hv hp (omega (arith, h.0)) in
      let r : (length (stolen E (suc n) (E (xor_lists (take 16 p) v)) (drop 16 p)) ≡ length (drop 16 p)) × IsOctets (stolen E (suc n) (E (xor_lists (take 16 p) v)) (drop 16 p)) =
      stolen_length (suc n) (E (xor_lists (take 16 p) v)) (drop 16 p) c (AreBelow-drop 16 p hp) (InBlocks-rest n p h) in (
        rw (length-append, r.0, length-drop) (omega (arith, c.0, h.0)),
        AreBelow-append (E (xor_lists (take 16 p) v)) (stolen E (suc n) (E (xor_lists (take 16 p) v)) (drop 16 p)) c.1 r.1,
      )

  unstolen_stolen : (n : ℕ) (v p : List ℕ) → IsBlock 16 v → IsOctets p → InBlocks n p → unstolen D n v (stolen E n v p) ≡ p
  unfolding InBlocks stolen unstolen
  unstolen_stolen zero v p hv hp h =
      ap (λ (k : List ℕ). xor_lists k v) (inv.left (xor_lists p v) (IsBlock-xor_lists p v (h, hp) hv)) ∙ xor_lists-twice p v (h ∙ sym hv.0)
  unstolen_stolen (suc zero) v p hv hp h =
      let t : List ℕ = drop 16 p in
      let ld : length (drop 16 p) ≡ length p - 16 = length-drop 16 p in
      let hb : IsBlock 16 (take 16 p) = IsBlock-take p hp (omega (arith, h.0)) in
      let c : List ℕ = E (xor_lists (take 16 p) v) in
      let hc : IsBlock 16 (E (xor_lists (take 16 p) v)) = IsBlock-first v p hv hp (omega (arith, h.0)) in
      let fits : length (drop 16 p) ≤ 16 = omega (arith, ld, h.1) in
      let x : IsBlock 16 (E (xor_lists (padded t) c)) = inv.encrypted_octets (xor_lists (padded t) c) (IsBlock-xor_lists (padded t) c (IsBlock-padded t (AreBelow-drop 16 p hp) fits) hc) in
      let e1 : take 16 (two E v (take 16 p) t) ≡ E (xor_lists (padded t) c) = take_at (E (xor_lists (padded t) c)) (take (length t) c) 16 x.0 in
      let e2 : drop 16 (two E v (take 16 p) t) ≡ take (length t) c = drop_at (E (xor_lists (padded t) c)) (take (length t) c) 16 x.0 in
      ap (λ (k : List ℕ). untwo D v k (drop 16 (two E v (take 16 p) t))) e1 ∙ ap (λ (k : List ℕ). untwo D v (E (xor_lists (padded t) c)) k) e2
      ∙ two_left v (take 16 p) t hv hb (AreBelow-drop 16 p hp) fits ∙ take-append-drop 16 p
  unstolen_stolen (suc (suc n)) v p hv hp h =
      let hb : IsBlock 16 (take 16 p) = IsBlock-take p hp (omega (arith, h.0)) in
      let c : List ℕ = E (xor_lists (take 16 p) v) in
      let hc : IsBlock 16 (E (xor_lists (take 16 p) v)) = IsBlock-first v p hv hp (omega (arith, h.0)) in
      let rest : List ℕ = stolen E (suc n) c (drop 16 p) in
      let e1 : take 16 (c ++ rest) ≡ c = take_at c rest 16 hc.0 in
      let e2 : drop 16 (c ++ rest) ≡ rest = drop_at c rest 16 hc.0 in
      let back : D c ≡ xor_lists (take 16 p) v = inv.left (xor_lists (take 16 p) v) (IsBlock-xor_lists (take 16 p) v hb hv) in
      let one : xor_lists (D c) v ≡ take 16 p = ap (λ (k : List ℕ). xor_lists k v) back ∙ xor_lists-twice (take 16 p) v (hb.0 ∙ sym hv.0) in
      ap (λ (k : List ℕ). xor_lists (D k) v ++ unstolen D (suc n) k (drop 16 (c ++ rest))) e1
      ∙ ap (λ (k : List ℕ). xor_lists (D c) v ++ unstolen D (suc n) c k) e2
      ∙ ap (λ (k : List ℕ). xor_lists (D c) v ++ k) (unstolen_stolen (suc n) c (drop 16 p) hc (AreBelow-drop 16 p hp) (InBlocks-rest n p h))
      ∙ ap (λ (k : List ℕ). k ++ drop 16 p) one ∙ take-append-drop 16 p

  unstolen_length : (n : ℕ) (v c : List ℕ) → IsBlock 16 v → IsOctets c → InBlocks n c → (length (unstolen D n v c) ≡ length c) × IsOctets (unstolen D n v c)
  unfolding InBlocks unstolen
  unstolen_length zero v c hv hp h =
      let b : IsBlock 16 (xor_lists (D c) v) = IsBlock-xor_lists (D c) v (inv.decrypted c (h, hp)) hv in
      (b.0 ∙ sym h, b.1)
  unstolen_length (suc zero) v c hv hp h =
      let x : List ℕ = take 16 c in
      let y : List ℕ = drop 16 c in
      let hx : IsBlock 16 (take 16 c) = IsBlock-take c hp (omega (arith, h.0)) in
      let hy : IsOctets (drop 16 c) = AreBelow-drop 16 c hp in
      let ly : length (drop 16 c) ≡ length c - 16 = length-drop 16 c in
      let hu : IsBlock 16 (D x) = inv.decrypted x hx in
      let lty : length (take (length y) (D x)) ≡ length y = length-take-le (length y) (D x) (omega (arith, hu.0, ly, h.1)) in
      let hc : IsBlock 16 (y ++ drop (length y) (D x)) = (rw (length-append, length-drop (length y) (D x)) (omega (arith, hu.0, ly, h.1)), AreBelow-append y (drop (length y) (D x)) hy (AreBelow-drop (length y) (D x) hu.1)) in
      let hb : IsBlock 16 (xor_lists (D (y ++ drop (length y) (D x))) v) = IsBlock-xor_lists (D (y ++ drop (length y) (D x))) v (inv.decrypted (y ++ drop (length y) (D x)) hc) hv in
      let lt : length (xor_lists (take (length y) (D x)) y) ≡ length y = length-xor_lists (take (length y) (D x)) y lty ∙ lty in (
        length-append (xor_lists (D (y ++ drop (length y) (D x))) v) (xor_lists (take (length y) (D x)) y) ∙ omega (arith, hb.0, lt, ly, h.0),
        AreBelow-append (xor_lists (D (y ++ drop (length y) (D x))) v) (xor_lists (take (length y) (D x)) y) hb.1 (AreBelow-xor_lists 8 (take (length y) (D x)) y (AreBelow-take (length y) (D x) hu.1) hy),
      )
  unstolen_length (suc (suc n)) v c hv hp h =
      let hx : IsBlock 16 (take 16 c) = IsBlock-take c hp (omega (arith, h.0)) in
      let hb : IsBlock 16 (xor_lists (D (take 16 c)) v) = IsBlock-xor_lists (D (take 16 c)) v (inv.decrypted (take 16 c) hx) hv in
      let r : (length (unstolen D (suc n) (take 16 c) (drop 16 c)) ≡ length (drop 16 c)) × IsOctets (unstolen D (suc n) (take 16 c) (drop 16 c)) =
      unstolen_length (suc n) (take 16 c) (drop 16 c) hx (AreBelow-drop 16 c hp) (InBlocks-rest n c h) in (
        rw (length-append, r.0, length-drop) (omega (arith, hb.0, h.0)),
        AreBelow-append (xor_lists (D (take 16 c)) v) (unstolen D (suc n) (take 16 c) (drop 16 c)) hb.1 r.1,
      )

  stolen_unstolen : (n : ℕ) (v c : List ℕ) → IsBlock 16 v → IsOctets c → InBlocks n c → stolen E n v (unstolen D n v c) ≡ c
  unfolding InBlocks stolen unstolen
  stolen_unstolen zero v c hv hp h =
      let b : IsBlock 16 (D c) = inv.decrypted c (h, hp) in
      ap E (xor_lists-twice (D c) v (b.0 ∙ sym hv.0)) ∙ inv.right c (h, hp)
  stolen_unstolen (suc zero) v c hv hp h =
      let x : List ℕ = take 16 c in
      let y : List ℕ = drop 16 c in
      let hx : IsBlock 16 (take 16 c) = IsBlock-take c hp (omega (arith, h.0)) in
      let hy : IsOctets (drop 16 c) = AreBelow-drop 16 c hp in
      let ly : length (drop 16 c) ≡ length c - 16 = length-drop 16 c in
      let hu : IsBlock 16 (D x) = inv.decrypted x hx in
      let hc : IsBlock 16 (y ++ drop (length y) (D x)) = (rw (length-append, length-drop (length y) (D x)) (omega (arith, hu.0, ly, h.1)), AreBelow-append y (drop (length y) (D x)) hy (AreBelow-drop (length y) (D x) hu.1)) in
      let b : List ℕ = xor_lists (D (y ++ drop (length y) (D x))) v in
      let t : List ℕ = xor_lists (take (length y) (D x)) y in
      let hb : IsBlock 16 b = IsBlock-xor_lists (D (y ++ drop (length y) (D x))) v (inv.decrypted (y ++ drop (length y) (D x)) hc) hv in
      let e1 : take 16 (b ++ t) ≡ b = take_at b t 16 hb.0 in
      let e2 : drop 16 (b ++ t) ≡ t = drop_at b t 16 hb.0 in
      ap (λ (k : List ℕ). two E v k (drop 16 (b ++ t))) e1 ∙ ap (λ (k : List ℕ). two E v b k) e2
      ∙ two_right v x y hv hx hy (omega (arith, ly, h.1)) ∙ take-append-drop 16 c
  stolen_unstolen (suc (suc n)) v c hv hp h =
      let x : List ℕ = take 16 c in
      let hx : IsBlock 16 (take 16 c) = IsBlock-take c hp (omega (arith, h.0)) in
      let hd : IsBlock 16 (D x) = inv.decrypted x hx in
      let b : List ℕ = xor_lists (D x) v in
      let hb : IsBlock 16 b = IsBlock-xor_lists (D x) v hd hv in
      let rest : List ℕ = unstolen D (suc n) x (drop 16 c) in
      let e1 : take 16 (b ++ rest) ≡ b = take_at b rest 16 hb.0 in
      let e2 : drop 16 (b ++ rest) ≡ rest = drop_at b rest 16 hb.0 in
      let first : E (xor_lists b v) ≡ x = ap E (xor_lists-twice (D x) v (hd.0 ∙ sym hv.0)) ∙ inv.right x hx in
      ap (λ (k : List ℕ). E (xor_lists k v) ++ stolen E (suc n) (E (xor_lists k v)) (drop 16 (b ++ rest))) e1
      ∙ ap (λ (k : List ℕ). E (xor_lists b v) ++ stolen E (suc n) (E (xor_lists b v)) k) e2
      ∙ ap (λ (k : List ℕ). k ++ stolen E (suc n) k rest) first
      ∙ ap (λ (k : List ℕ). x ++ k) (stolen_unstolen (suc n) x (drop 16 c) hx (AreBelow-drop 16 c hp) (InBlocks-rest n c h)) ∙ take-append-drop 16 c

  first_whole : (p : List ℕ) → 16 ≤ length p → take 16 (p ++ (zero_block 16)) ≡ take 16 p
  first_whole p long = take-append-le 16 p (zero_block 16) long

  padded_block : (t : List ℕ) → length t ≤ 16 → take 16 (t ++ (zero_block 16)) ≡ padded t
  padded_block t fits =
      let sixteen : 16 ≡ 16 - length t + length t = omega arith in
      let split : (zero_block 16) ≡ replicate (16 - length t) 0 ++ replicate (length t) 0 =
      ap (λ (k : ℕ). replicate k 0) sixteen ∙ sym (replicate-append-replicate (16 - length t) (length t) 0) in
      let len : length (padded t) ≡ 16 = rw (length-append, length-replicate) (omega arith) in
      ap (λ (k : List ℕ). take 16 (t ++ k)) split ∙ ap (λ (k : List ℕ). take 16 k) (sym (append_assoc t (replicate (16 - length t) 0) (replicate (length t) 0))) ∙ take_at (padded t) (replicate (length t) 0) 16 len

  -- the definition's lists come to the function
  stolen_is : (n : ℕ) (v p : List ℕ) → IsBlock 16 v → IsOctets p → InBlocks n p → take (length p) (concat (exchanged (chained E v (first_blocks 16 (suc n) p)))) ≡ stolen E n v p
  unfolding InBlocks stolen exchanged chained first_blocks
  stolen_is zero v p hv hp h =
      let whole : take 16 (p ++ (zero_block 16)) ≡ p = take_at p (zero_block 16) 16 h in
      let hc : IsBlock 16 (E (xor_lists p v)) = inv.encrypted_octets (xor_lists p v) (IsBlock-xor_lists p v (h, hp) hv) in
      ap (λ (k : List ℕ). take (length p) (E (xor_lists k v) ++ [])) whole ∙ take_at (E (xor_lists p v)) [] (length p) (hc.0 ∙ sym h)
  stolen_is (suc zero) v p hv hp h =
      let t : List ℕ = drop 16 p in
      let ld : length (drop 16 p) ≡ length p - 16 = length-drop 16 p in
      let fits : length (drop 16 p) ≤ 16 = omega (arith, ld, h.1) in
      let hb : IsBlock 16 (take 16 p) = IsBlock-take p hp (omega (arith, h.0)) in
      let c : List ℕ = E (xor_lists (take 16 p) v) in
      let hc : IsBlock 16 (E (xor_lists (take 16 p) v)) = IsBlock-first v p hv hp (omega (arith, h.0)) in
      let d : List ℕ = E (xor_lists (padded t) c) in
      let hd : IsBlock 16 (E (xor_lists (padded t) c)) = inv.encrypted_octets (xor_lists (padded t) c) (IsBlock-xor_lists (padded t) c (IsBlock-padded t (AreBelow-drop 16 p hp) fits) hc) in
      let e1 : take 16 (p ++ (zero_block 16)) ≡ take 16 p = first_whole p (omega (arith, h.0)) in
      let e2 : take 16 (t ++ (zero_block 16)) ≡ padded t = padded_block t fits in
      let len : length p ≡ length d + length t = omega (arith, hd.0, ld, h.0) in
      ap (λ (k : List ℕ). take (length p) (E (xor_lists (take 16 (t ++ (zero_block 16))) (E (xor_lists k v))) ++ (E (xor_lists k v) ++ []))) e1
      ∙ ap (λ (k : List ℕ). take (length p) (E (xor_lists k c) ++ (c ++ []))) e2
      ∙ ap (λ (k : List ℕ). take (length p) (d ++ k)) (append-nil c)
      ∙ ap (λ (k : ℕ). take k (d ++ c)) len ∙ take_beyond d c (length t)
  stolen_is (suc (suc n)) v p hv hp h =
      let c : List ℕ = E (xor_lists (take 16 p) v) in
      let hc : IsBlock 16 (E (xor_lists (take 16 p) v)) = IsBlock-first v p hv hp (omega (arith, h.0)) in
      let e1 : take 16 (p ++ (zero_block 16)) ≡ take 16 p = first_whole p (omega (arith, h.0)) in
      let ld : length (drop 16 p) ≡ length p - 16 = length-drop 16 p in
      let len : length p ≡ length c + length (drop 16 p) = omega (arith, hc.0, ld, h.0) in
      let rest : List ℕ = concat (exchanged (chained E c (first_blocks 16 (suc (suc n)) (drop 16 p)))) in
      ap (λ (k : List ℕ). take (length p) (E (xor_lists k v) ++ concat (exchanged (chained E (E (xor_lists k v)) (first_blocks 16 (suc (suc n)) (drop 16 p)))))) e1
      ∙ ap (λ (k : ℕ). take k (c ++ rest)) len ∙ take_beyond c rest (length (drop 16 p))
      ∙ ap (λ (k : List ℕ). c ++ k) (stolen_is (suc n) c (drop 16 p) hc (AreBelow-drop 16 p hp) (InBlocks-rest n p h))

  CtsFrom_is : (n : ℕ) (v p c : List ℕ) → IsBlock 16 v → IsOctets p → InBlocks n p → CtsFrom E v p c → c ≡ stolen E n v p
  CtsFrom_is n v p c hv hp h cts =
      let count : (length p + 15) / 16 ≡ suc n = block_count n p h in
      let cs : cts.1 ≡ chained E v (first_blocks 16 (suc n) p) = chained_from E v (padded_blocks 16 p) cts.1 cts.2 ∙ ap (λ (k : ℕ). chained E v (first_blocks 16 k p)) count in
      cts.3 ∙ ap (λ (k : List (List ℕ)). take (length p) (concat (exchanged k))) cs ∙ stolen_is n v p hv hp h

  CtsFrom-stolen : (n : ℕ) (v p : List ℕ) → IsBlock 16 v → IsOctets p → InBlocks n p → CtsFrom E v p (stolen E n v p)
  CtsFrom-stolen n v p hv hp h =
      let count : (length p + 15) / 16 ≡ suc n = block_count n p h in
      let same : take (length p) (concat (exchanged (chained E v (padded_blocks 16 p)))) ≡ stolen E n v p =
      ap (λ (k : ℕ). take (length p) (concat (exchanged (chained E v (first_blocks 16 k p))))) count ∙ stolen_is n v p hv hp h in
      (InBlocks-long n p h, chained E v (padded_blocks 16 p), CbcFrom-chained E v (padded_blocks 16 p), sym same)

  same_length : (n : ℕ) (v p c : List ℕ) → IsBlock 16 v → IsOctets p → CtsFrom E v p c → InBlocks n c → InBlocks n p
  same_length n v p c hv hp cts h =
      let found : (m : ℕ) × InBlocks m p = InBlocks-some p cts.0 in
      let e : c ≡ stolen E found.0 v p = CtsFrom_is found.0 v p c hv hp found.1 cts in
      let len : length c ≡ length p = ap length e ∙ (stolen_length found.0 v p hv hp found.1).0 in
      InBlocks-same n c p (sym len) h

  zero_is_block : IsBlock 16 (zero_block 16)
  zero_is_block = (refl, AreBelow-zeros 16 (omega arith))

  -- what is encrypted has `Cts`
  pub Cts-stolen : (n : ℕ) (p c : List ℕ) → 16 ≤ length p → IsOctets p → n ≡ (length p - 1) / 16 → c ≡ stolen E n (zero_block 16) p → Cts E p c
  Cts-stolen n p c long hp en ec = subst (λ (k : List ℕ). Cts E p k) (sym ec) (CtsFrom-stolen n (zero_block 16) p zero_is_block hp (InBlocks_at n p long en))

  -- what is decrypted has `Cts`
  pub Cts-unstolen : (n : ℕ) (p c : List ℕ) → 16 ≤ length c → IsOctets c → n ≡ (length c - 1) / 16 → p ≡ unstolen D n (zero_block 16) c → Cts E p c
  Cts-unstolen n p c long hc en ep =
      let h : InBlocks n c = InBlocks_at n c long en in
      let q : List ℕ = unstolen D n (zero_block 16) c in
      let hq : (length q ≡ length c) × IsOctets q = unstolen_length n (zero_block 16) c zero_is_block hc h in
      let back : stolen E n (zero_block 16) q ≡ c = stolen_unstolen n (zero_block 16) c zero_is_block hc h in
      let cts : Cts E q c = subst (λ (k : List ℕ). Cts E q k) back (CtsFrom-stolen n (zero_block 16) q zero_is_block hq.1 (InBlocks-same n c q hq.0 h)) in
      subst (λ (k : List ℕ). Cts E k c) (sym ep) cts

  -- and nothing else has
  pub only-unstolen : (n : ℕ) (p c : List ℕ) → 16 ≤ length c → n ≡ (length c - 1) / 16 → p ≡ unstolen D n (zero_block 16) c → (q : List ℕ) → IsOctets q → Cts E q c → q ≡ p
  only-unstolen n p c long en ep q hq held =
      let h : InBlocks n c = InBlocks_at n c long en in
      let hm : InBlocks n q = same_length n (zero_block 16) q c zero_is_block hq held h in
      let e : c ≡ stolen E n (zero_block 16) q = CtsFrom_is n (zero_block 16) q c zero_is_block hq hm held in
      sym (unstolen_stolen n (zero_block 16) q zero_is_block hq hm) ∙ ap (λ (k : List ℕ). unstolen D n (zero_block 16) k) (sym e) ∙ sym ep

  -- each c of 16 octets or more has exactly one p
  pub has_one_plain : (c : List ℕ) → IsOctets c → 16 ≤ length c → HasOnePlain E c
  has_one_plain c hc long =
      let n : ℕ = (length c - 1) / 16 in
      let hq : (length (unstolen D n (zero_block 16) c) ≡ length c) × IsOctets (unstolen D n (zero_block 16) c) = unstolen_length n (zero_block 16) c zero_is_block hc (InBlocks_at n c long refl) in
      (unstolen D n (zero_block 16) c, hq.1, hq.0, Cts-unstolen n (unstolen D n (zero_block 16) c) c long hc refl refl, only-unstolen n (unstolen D n (zero_block 16) c) c long refl refl)
