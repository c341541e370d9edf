-- Cipher block chaining as a function of octets, over blocks of any size, and what undoes it.
use Rattle.std.proofs.Common.{◌≡◌, ℕ, zero, suc, ◌+◌, ◌-◌, ◌*◌, ◌/◌, ◌%◌, ◌<◌, ◌≤◌, List, [], ◌∷◌, ◌++◌, length, take, drop, refl, sym, ap, ◌∙◌, arith, add-one, add-zero}
use Rattle.std.proofs.lemmas.List.{length-append, length-take-le, length-drop, take-append-drop, take-append-le, take_all, take_at, drop_at, append_assoc, append-nil, drop-drop, length-replicate}
use Rattle.std.proofs.Math.Arith.{digits_div, digits_mod}
use Rattle.std.proofs.Math.Nat.{mul-suc, mul_comm, mul-le-mul_left, div-add-mod'}
use Rattle.std.specs.List.{concat}
use Rattle.krb_crypto_hash.specs.Xor.{xor_lists, padded_to}
use Rattle.krb_crypto_block.specs.Linked.{linked, last_linked, unlinked, last_block}
use Rattle.krb_crypto_block.specs.Modes.{IsOctets, IsBlock, AreInverse, zero_block, first_blocks, padded_blocks, IsCbc}
use Rattle.krb_crypto_block.proofs.Below.{AreBelow-append, AreBelow-drop, AreBelow-take, AreBelow-xor_lists, AreBelow-zeros}
use Rattle.krb_crypto_hash.proofs.XorLists.{length-xor_lists, xor_lists-twice, padded_whole}
use Rattle.krb_crypto_block.proofs.Chains.{chained, chained_from, CbcFrom-chained}

module _ (size : ℕ) where
  -- p has n whole blocks, and nothing after them
  unfoldable pub IsWhole : ℕ → List ℕ → Type 0
  IsWhole zero p = p ≡ []
  IsWhole (suc n) p = (size ≤ length p) × IsWhole n (drop size p)

  -- the definition's lists come to the function
  pub linked_is : (E : List ℕ → List ℕ) (n : ℕ) (v p : List ℕ) → IsWhole n p → concat (chained E v (first_blocks size n p)) ≡ linked size E n v p
  unfolding IsWhole linked chained first_blocks
  linked_is E zero v p h = refl
  linked_is E (suc n) v p h =
      let first : take size (p ++ zero_block size) ≡ take size p = take-append-le size p (zero_block size) h.0 in
      rw first (ap (λ (rest : List ℕ). E (xor_lists (take size p) v) ++ rest) (linked_is E n (E (xor_lists (take size p) v)) (drop size p) h.1))

  module _ (E D : List ℕ → List ℕ) (inv : AreInverse size E D) where
    first_block : (n : ℕ) (p : List ℕ) → IsWhole (suc n) p → IsOctets p → IsBlock size (take size p)
    unfolding IsWhole
    first_block n p h all = (length-take-le size p h.0, AreBelow-take size p all)

    xor_block : (b v : List ℕ) → IsBlock size b → IsBlock size v → IsBlock size (xor_lists b v)
    xor_block b v hb hv = (length-xor_lists b v (hb.0 ∙ sym hv.0) ∙ hb.0, AreBelow-xor_lists 8 b v hb.1 hv.1)

    concatenated_whole : (n : ℕ) (b rest : List ℕ) → length b ≡ size → IsWhole n rest → IsWhole (suc n) (b ++ rest)
    unfolding IsWhole
    concatenated_whole n b rest e h = (omega (arith, length-append b rest, e), rw (drop_at b rest size e) h)

    -- what is chained is of as many whole blocks of octets
    pub linked_whole : (n : ℕ) (v p : List ℕ) → IsBlock size v → IsOctets p → IsWhole n p → IsWhole n (linked size E n v p) × IsOctets (linked size E n v p)
    unfolding IsWhole linked
    linked_whole zero v p hv all h = (refl, λ i. omega arith)
    linked_whole (suc n) v p hv all h =
        let b : List ℕ = take size p in
        let c : List ℕ = E (xor_lists b v) in
        let hc : IsBlock size c = inv.encrypted_octets (xor_lists b v) (xor_block b v (first_block n p h all) hv) in
        let rest = linked_whole n c (drop size p) hc (AreBelow-drop size p all) h.1 in
        (concatenated_whole n c (linked size E n c (drop size p)) hc.0 rest.0, AreBelow-append c (linked size E n c (drop size p)) hc.1 rest.1)

    pub unlinked-linked : (n : ℕ) (v p : List ℕ) → IsBlock size v → IsOctets p → IsWhole n p → unlinked size D n v (linked size E n v p) ≡ p
    unfolding IsWhole linked unlinked
    unlinked-linked zero v p hv all h = sym h
    unlinked-linked (suc n) v p hv all h =
        let b : List ℕ = take size p in
        let hb : IsBlock size b = first_block n p h all in
        let c : List ℕ = E (xor_lists b v) in
        let rest : List ℕ = linked size E n c (drop size p) in
        let hx : IsBlock size (xor_lists b v) = xor_block b v hb hv in
        let hc : IsBlock size c = inv.encrypted_octets (xor_lists b v) hx in
        let plain : xor_lists (D c) v ≡ b = ap (λ (d : List ℕ). xor_lists d v) (inv.left (xor_lists b v) hx) ∙ xor_lists-twice b v (hb.0 ∙ sym hv.0) in
        rw (take_at c rest size hc.0, drop_at c rest size hc.0, plain, unlinked-linked n c (drop size p) hc (AreBelow-drop size p all) h.1) (take-append-drop size p)

    pub linked-unlinked : (n : ℕ) (v c : List ℕ) → IsBlock size v → IsOctets c → IsWhole n c → linked size E n v (unlinked size D n v c) ≡ c
    unfolding IsWhole linked unlinked
    linked-unlinked zero v c hv all h = sym h
    linked-unlinked (suc n) v c hv all h =
        let x : List ℕ = take size c in
        let hx : IsBlock size x = first_block n c h all in
        let hd : IsBlock size (D x) = inv.decrypted x hx in
        let b : List ℕ = xor_lists (D x) v in
        let hb : IsBlock size b = xor_block (D x) v hd hv in
        let rest : List ℕ = unlinked size D n x (drop size c) in
        let sealed : E (xor_lists b v) ≡ x = ap E (xor_lists-twice (D x) v (hd.0 ∙ sym hv.0)) ∙ inv.right x hx in
        rw (take_at b rest size hb.0, drop_at b rest size hb.0, sealed, linked-unlinked n x (drop size c) hx (AreBelow-drop size c all) h.1) (take-append-drop size c)

    -- what is unlinked is of octets
    pub unlinked-octets : (n : ℕ) (v c : List ℕ) → IsBlock size v → IsOctets c → IsWhole n c → IsWhole n (unlinked size D n v c) × IsOctets (unlinked size D n v c)
    unfolding IsWhole unlinked
    unlinked-octets zero v c hv all h = (refl, λ i. omega arith)
    unlinked-octets (suc n) v c hv all h =
        let x : List ℕ = take size c in
        let hx : IsBlock size x = first_block n c h all in
        let hb : IsBlock size (xor_lists (D x) v) = xor_block (D x) v (inv.decrypted x hx) hv in
        let rest = unlinked-octets n x (drop size c) hx (AreBelow-drop size c all) h.1 in
        (concatenated_whole n (xor_lists (D x) v) (unlinked size D n x (drop size c)) hb.0 rest.0, AreBelow-append (xor_lists (D x) v) (unlinked size D n x (drop size c)) hb.1 rest.1)

  pub no_octets : (p : List ℕ) → length p ≡ 0 → p ≡ []
  no_octets [] e = refl
  no_octets (x ∷ p) e = absurd (omega (arith, e))

  pub IsWhole-of_length : (n : ℕ) (p : List ℕ) → length p ≡ size * n → IsWhole n p
  unfolding IsWhole
  IsWhole-of_length zero p e = no_octets p (omega (arith, e))
  IsWhole-of_length (suc n) p e =
      let more : size * suc n ≡ size * n + size = mul-suc size n in
      (omega (arith, e, more), IsWhole-of_length n (drop size p) (length-drop size p ∙ omega (arith, e, more)))

  pub length-of_IsWhole : (n : ℕ) (p : List ℕ) → IsWhole n p → length p ≡ size * n
  unfolding IsWhole
  length-of_IsWhole zero p h = ap length h ∙ omega arith
  length-of_IsWhole (suc n) p h =
      let more : size * suc n ≡ size * n + size = mul-suc size n in
      let rest : length (drop size p) ≡ size * n = length-of_IsWhole n (drop size p) h.1 in
      omega (arith, h.0, more, rest, length-drop size p)

  pub IsBlock-zero_block : IsBlock size (zero_block size)
  IsBlock-zero_block = (length-replicate size 0, AreBelow-zeros size (omega arith))

  -- the relation comes to the function
  pub linked_from : (E : List ℕ → List ℕ) (n : ℕ) (p c : List ℕ) → length p ≡ size * n → (length p + (size - 1)) / size ≡ n → IsCbc size E p c → c ≡ linked size E n (zero_block size) p
  linked_from E n p c len count is =
      is.concatenated ∙ ap concat (chained_from E (zero_block size) (padded_blocks size p) is.blocks is.chained)
      ∙ ap (λ (k : ℕ). concat (chained E (zero_block size) (first_blocks size k p))) count ∙ linked_is E n (zero_block size) p (IsWhole-of_length n p len)

  pub IsCbc-linked : (E : List ℕ → List ℕ) (n : ℕ) (p c : List ℕ) → length p ≡ size * n → (length p + (size - 1)) / size ≡ n → length p % size ≡ 0 → c ≡ linked size E n (zero_block size) p → IsCbc size E p c
  IsCbc-linked E n p c len count whole e = record {
    whole = whole;
    blocks = chained E (zero_block size) (padded_blocks size p);
    chained = CbcFrom-chained E (zero_block size) (padded_blocks size p);
    concatenated = e ∙ sym (linked_is E n (zero_block size) p (IsWhole-of_length n p len)) ∙ ap (λ (k : ℕ). concat (chained E (zero_block size) (first_blocks size k p))) (sym count);
  }

  -- ---- steps of the loops over blocks

  pub part_length : (p : List ℕ) (i : ℕ) → size * i + size ≤ length p → length (take size (drop (size * i) p)) ≡ size
  part_length p i h = length-take-le size (drop (size * i) p) (rw length-drop (omega arith))

  pub next_part : (p : List ℕ) (i : ℕ) → drop size (drop (size * i) p) ≡ drop (size * (i + 1)) p
  next_part p i = let e : size * i + size ≡ size * (i + 1) = rw add-one (sym (mul-suc size i)) in drop-drop size (size * i) p ∙ ap (λ (k : ℕ). drop k p) e

  -- where more whole blocks follow, one is there
  pub part_inside : (p : List ℕ) (i : ℕ) → i < length p / size → size * i + size ≤ length p
  part_inside p i low =
      let up : size * suc i ≤ size * (length p / size) = mul-le-mul_left size (omega arith) in
      let more : size * suc i ≡ size * i + size = mul-suc size i in
      let all : length p / size * size + length p % size ≡ length p = div-add-mod' (length p) size in
      let turned : size * (length p / size) ≡ length p / size * size = mul_comm size (length p / size) in
      omega (arith, up, more, all, turned)

  pub link_step : (E : List ℕ → List ℕ) (count i : ℕ) (v p out out2 c part target : List ℕ) → i < count → size * i + size ≤ length p
      → part ≡ take size (drop (size * i) p) → c ≡ E (xor_lists (padded_to size part) v) → out2 ≡ out ++ c → out ++ linked size E (count - i) v (drop (size * i) p) ≡ target
      → out2 ++ linked size E (count - (i + 1)) c (drop (size * (i + 1)) p) ≡ target
  unfolding linked
  link_step E count i v p out out2 c part target lt long ep ec eo inv =
      let m : count - i ≡ suc (count - (i + 1)) = omega arith in
      let q : List ℕ = drop (size * i) p in
      let k : ℕ = count - (i + 1) in
      let whole : c ≡ E (xor_lists (take size q) v) = ec ∙ ap (λ (j : List ℕ). E (xor_lists (padded_to size j) v)) ep ∙ ap (λ (j : List ℕ). E (xor_lists j v)) (padded_whole size (take size q) (part_length p i long)) in
      let before : out ++ (E (xor_lists (take size q) v) ++ linked size E k (E (xor_lists (take size q) v)) (drop size q)) ≡ target = rw m at inv in
      rw (eo, whole, ← next_part p i) (append_assoc out (E (xor_lists (take size q) v)) (linked size E k (E (xor_lists (take size q) v)) (drop size q)) ∙ before)

  pub unlink_step : (D : List ℕ → List ℕ) (count i : ℕ) (v c out out2 x d b target : List ℕ) → i < count
      → x ≡ take size (drop (size * i) c) → d ≡ D x → length d ≡ size → b ≡ xor_lists (padded_to size d) v → out2 ≡ out ++ b → out ++ unlinked size D (count - i) v (drop (size * i) c) ≡ target
      → out2 ++ unlinked size D (count - (i + 1)) x (drop (size * (i + 1)) c) ≡ target
  unfolding unlinked
  unlink_step D count i v c out out2 x d b target lt ex ed l eb eo inv =
      let m : count - i ≡ suc (count - (i + 1)) = omega arith in
      let q : List ℕ = drop (size * i) c in
      let k : ℕ = count - (i + 1) in
      let whole : b ≡ xor_lists (D x) v = eb ∙ ap (λ (j : List ℕ). xor_lists j v) (padded_whole size d l) ∙ ap (λ (j : List ℕ). xor_lists j v) ed in
      let before : out ++ (xor_lists (D (take size q)) v ++ unlinked size D k (take size q) (drop size q)) ≡ target = rw m at inv in
      rw (eo, whole, ex, ← next_part c i) (append_assoc out (xor_lists (D (take size q)) v) (unlinked size D k (take size q) (drop size q)) ∙ before)

  -- a block written in its place
  pub placed : (o o2 c : List ℕ) (i : ℕ) → length c ≡ size → size * i + size ≤ length o → o2 ≡ take (size * i) o ++ (c ++ drop size (drop (size * i) o))
      → (take (size * (i + 1)) o2 ≡ take (size * i) o ++ c) × (drop (size * (i + 1)) o2 ≡ drop (size * (i + 1)) o)
  placed o o2 c i l fits e =
      let prefix : List ℕ = take (size * i) o in
      let rest : List ℕ = drop size (drop (size * i) o) in
      let more : size * suc i ≡ size * i + size = mul-suc size i in
      let next : size * (i + 1) ≡ size * i + size = ap (λ (k : ℕ). size * k) (add-one i) ∙ more in
      let lf : length prefix ≡ size * i = length-take-le (size * i) o (omega (arith, fits)) in
      let concatenated : o2 ≡ (prefix ++ c) ++ rest = e ∙ sym (append_assoc prefix c rest) in
      let long : length (prefix ++ c) ≡ size * (i + 1) = length-append prefix c ∙ omega (arith, lf, l, next) in
      (ap (take (size * (i + 1))) concatenated ∙ take_at (prefix ++ c) rest (size * (i + 1)) long, ap (drop (size * (i + 1))) concatenated ∙ drop_at (prefix ++ c) rest (size * (i + 1)) long ∙ next_part o i)

  -- the same, of what a call wrote through a borrow of the place
  pub placed_at : (o o2 made c : List ℕ) (i : ℕ) → length c ≡ size → size * i + size ≤ length o → made ≡ c
      → o2 ≡ take (size * i) o ++ (made ++ drop (size * i + size - size * i) (drop (size * i) o))
      → (take (size * (i + 1)) o2 ≡ take (size * i) o ++ c) × (drop (size * (i + 1)) o2 ≡ drop (size * (i + 1)) o)
  placed_at o o2 made c i l fits em e =
      let one : size * i + size - size * i ≡ size = omega arith in
      placed o o2 c i l fits (e ∙ ap (λ (k : List ℕ). take (size * i) o ++ (k ++ drop (size * i + size - size * i) (drop (size * i) o))) em ∙ ap (λ (k : ℕ). take (size * i) o ++ (c ++ drop k (drop (size * i) o))) one)

  -- what stands there is the block, where the rest is as it was
  pub part_at : (p o : List ℕ) (i : ℕ) → drop (size * i) o ≡ drop (size * i) p → take (size * i + size - size * i) (drop (size * i) o) ≡ take size (drop (size * i) p)
  part_at p o i e =
      let one : size * i + size - size * i ≡ size = omega arith in
      ap (λ (k : ℕ). take k (drop (size * i) o)) one ∙ ap (take size) e

  pub drop_more : (o p : List ℕ) (i : ℕ) → drop (size * i) o ≡ drop (size * i) p → drop (size * (i + 1)) o ≡ drop (size * (i + 1)) p
  drop_more o p i e = sym (next_part o i) ∙ ap (drop size) e ∙ next_part p i

  pub last_linked_step : (E : List ℕ → List ℕ) (count i : ℕ) (v p c part target : List ℕ) → i < count → size * i + size ≤ length p
      → part ≡ take size (drop (size * i) p) → c ≡ E (xor_lists (padded_to size part) v) → last_linked size E (count - i) v (drop (size * i) p) ≡ target
      → last_linked size E (count - (i + 1)) c (drop (size * (i + 1)) p) ≡ target
  unfolding last_linked
  last_linked_step E count i v p c part target lt long ep ec inv =
      let m : count - i ≡ suc (count - (i + 1)) = omega arith in
      let q : List ℕ = drop (size * i) p in
      let whole : c ≡ E (xor_lists (take size q) v) = ec ∙ ap (λ (j : List ℕ). E (xor_lists (padded_to size j) v)) ep ∙ ap (λ (j : List ℕ). E (xor_lists j v)) (padded_whole size (take size q) (part_length p i long)) in
      let before : last_linked size E (count - (i + 1)) (E (xor_lists (take size q) v)) (drop size q) ≡ target = rw m at inv in
      rw (whole, ← next_part p i) before

  pub last_block_step : (count i : ℕ) (v c x target : List ℕ) → i < count → x ≡ take size (drop (size * i) c) → last_block size (count - i) v (drop (size * i) c) ≡ target
      → last_block size (count - (i + 1)) x (drop (size * (i + 1)) c) ≡ target
  unfolding last_block
  last_block_step count i v c x target lt ex inv =
      let m : count - i ≡ suc (count - (i + 1)) = omega arith in
      let before : last_block size (count - (i + 1)) (take size (drop (size * i) c)) (drop size (drop (size * i) c)) ≡ target = rw m at inv in
      rw (ex, ← next_part c i) before

  -- no block is left
  pub linked_end : (E : List ℕ → List ℕ) (count i : ℕ) (v rest out target : List ℕ) → count ≤ i → out ++ linked size E (count - i) v rest ≡ target → out ≡ target
  unfolding linked
  linked_end E count i v rest out target done e = let none : count - i ≡ 0 = omega arith in sym (append-nil out) ∙ rw none at e

  pub unlinked_end : (D : List ℕ → List ℕ) (count i : ℕ) (v rest out target : List ℕ) → count ≤ i → out ++ unlinked size D (count - i) v rest ≡ target → out ≡ target
  unfolding unlinked
  unlinked_end D count i v rest out target done e = let none : count - i ≡ 0 = omega arith in sym (append-nil out) ∙ rw none at e

  pub last_linked_end : (E : List ℕ → List ℕ) (count i : ℕ) (v rest target : List ℕ) → count ≤ i → last_linked size E (count - i) v rest ≡ target → v ≡ target
  unfolding last_linked
  last_linked_end E count i v rest target done e = let none : count - i ≡ 0 = omega arith in rw none at e

  pub last_block_end : (count i : ℕ) (v rest target : List ℕ) → count ≤ i → last_block size (count - i) v rest ≡ target → v ≡ target
  unfolding last_block
  last_block_end count i v rest target done e = let none : count - i ≡ 0 = omega arith in rw none at e

  -- ---- what the loops result

  -- whole blocks are as many as their number says, also where the last is counted by rounding up
  pub whole_length : (p : List ℕ) → length p % size ≡ 0 → length p ≡ size * (length p / size)
  whole_length p whole = let all : length p / size * size + length p % size ≡ length p = div-add-mod' (length p) size in sym all ∙ ap (λ (k : ℕ). length p / size * size + k) whole ∙ add-zero (length p / size * size) ∙ mul_comm (length p / size) size

  -- all octets are blocks, and each was written
  pub take_all_blocks : (p o : List ℕ) (i : ℕ) → length p % size ≡ 0 → length p / size ≤ i → length o ≡ length p → take (size * i) o ≡ o
  take_all_blocks p o i whole done len =
      let up : size * (length p / size) ≤ size * i = mul-le-mul_left size done in
      let all : length p ≡ size * (length p / size) = whole_length p whole in
      take_all (size * i) o (omega (arith, up, all, len))

  pub linked_all : (E : List ℕ → List ℕ) (i : ℕ) (v p o target : List ℕ) → length p % size ≡ 0 → length p / size ≤ i → length o ≡ length p
      → take (size * i) o ++ linked size E (length p / size - i) v (drop (size * i) p) ≡ target → o ≡ target
  linked_all E i v p o target whole done len e = sym (take_all_blocks p o i whole done len) ∙ linked_end E (length p / size) i v (drop (size * i) p) (take (size * i) o) target done e

  pub unlinked_all : (D : List ℕ → List ℕ) (i : ℕ) (v c o target : List ℕ) → length c % size ≡ 0 → length c / size ≤ i → length o ≡ length c
      → take (size * i) o ++ unlinked size D (length c / size - i) v (drop (size * i) c) ≡ target → o ≡ target
  unlinked_all D i v c o target whole done len e = sym (take_all_blocks c o i whole done len) ∙ unlinked_end D (length c / size) i v (drop (size * i) c) (take (size * i) o) target done e

  pub rounded_up : 0 < size → (p : List ℕ) (n : ℕ) → length p ≡ size * n → (length p + (size - 1)) / size ≡ n
  rounded_up some p n e =
      let low : size - 1 < size = omega arith in
      let sum : length p + (size - 1) ≡ n * size + (size - 1) = ap (λ (k : ℕ). k + (size - 1)) (e ∙ mul_comm size n) in
      ap (λ (k : ℕ). k / size) sum ∙ digits_div n low

  pub whole_count : 0 < size → (n : ℕ) → (size * n) / size ≡ n
  whole_count some n = ap (λ (k : ℕ). k / size) (mul_comm size n ∙ sym (add-zero (n * size))) ∙ digits_div n some

  pub whole_rest : 0 < size → (n : ℕ) → (size * n) % size ≡ 0
  whole_rest some n = ap (λ (k : ℕ). k % size) (mul_comm size n ∙ sym (add-zero (n * size))) ∙ digits_mod n some

  -- what is linked is what the blocks are chained to
  pub cbc_linked : 0 < size → (E : List ℕ → List ℕ) (p c : List ℕ) → length p % size ≡ 0 → c ≡ linked size E (length p / size) (zero_block size) p → IsCbc size E p c
  cbc_linked some E p c whole e =
      let len : length p ≡ size * (length p / size) = whole_length p whole in
      IsCbc-linked E (length p / size) p c len (rounded_up some p (length p / size) len) whole e

  -- what is unlinked is the one list that is chained to c
  pub cbc_plain : 0 < size → (E D : List ℕ → List ℕ) → AreInverse size E D → (p c : List ℕ) → IsOctets c → length c % size ≡ 0 → p ≡ unlinked size D (length c / size) (zero_block size) c → IsCbc size E p c
  cbc_plain some E D inv p c all whole e =
      let n : ℕ = length c / size in
      let hc : IsWhole n c = IsWhole-of_length n c (whole_length c whole) in
      let hp = unlinked-octets E D inv n (zero_block size) c IsBlock-zero_block all hc in
      let len : length p ≡ size * n = ap length e ∙ length-of_IsWhole n (unlinked size D n (zero_block size) c) hp.0 in
      IsCbc-linked E n p c len (rounded_up some p n len) (ap (λ (k : ℕ). k % size) len ∙ whole_rest some n)
      (sym (linked-unlinked E D inv n (zero_block size) c IsBlock-zero_block all hc) ∙ ap (linked size E n (zero_block size)) (sym e))

  pub cbc_only : 0 < size → (E D : List ℕ → List ℕ) → AreInverse size E D → (p c q : List ℕ) → p ≡ unlinked size D (length c / size) (zero_block size) c → IsOctets q → IsCbc size E q c → q ≡ p
  cbc_only some E D inv p c q e all is =
      let m : ℕ = length q / size in
      let len : length q ≡ size * m = whole_length q is.whole in
      let hq : IsWhole m q = IsWhole-of_length m q len in
      let made : c ≡ linked size E m (zero_block size) q = linked_from E m q c len (rounded_up some q m len) is in
      let long : length c ≡ size * m = ap length made ∙ length-of_IsWhole m (linked size E m (zero_block size) q) (linked_whole E D inv m (zero_block size) q IsBlock-zero_block all hq).0 in
      let same : length c / size ≡ m = ap (λ (k : ℕ). k / size) long ∙ whole_count some m in
      sym (e ∙ ap (λ (k : ℕ). unlinked size D k (zero_block size) c) same ∙ ap (unlinked size D m (zero_block size)) made ∙ unlinked-linked E D inv m (zero_block size) q IsBlock-zero_block all hq)

  -- ---- what callers need

  -- a list is chained to one list
  pub IsCbc-same : (E : List ℕ → List ℕ) (p c d : List ℕ) → IsCbc size E p c → IsCbc size E p d → c ≡ d
  IsCbc-same E p c d h k =
      h.concatenated ∙ ap concat (chained_from E (zero_block size) (padded_blocks size p) h.blocks h.chained ∙ sym (chained_from E (zero_block size) (padded_blocks size p) k.blocks k.chained)) ∙ sym k.concatenated

  -- what is chained is as long as the blocks
  pub IsCbc-length : 0 < size → (E D : List ℕ → List ℕ) → AreInverse size E D → (p c : List ℕ) → IsOctets p → IsCbc size E p c → length c ≡ length p
  IsCbc-length some E D inv p c all is =
      let n : ℕ = length p / size in
      let len : length p ≡ size * n = whole_length p is.whole in
      let hp : IsWhole n p = IsWhole-of_length n p len in
      let made : c ≡ linked size E n (zero_block size) p = linked_from E n p c len (rounded_up some p n len) is in
      ap length made ∙ length-of_IsWhole n (linked size E n (zero_block size) p) (linked_whole E D inv n (zero_block size) p IsBlock-zero_block all hp).0 ∙ sym len
