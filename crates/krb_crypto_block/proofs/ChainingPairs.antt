-- Blocks that are unchained two at a time, over blocks of any size.
use Rattle.std.proofs.Common.{◌≡◌, ℕ, suc, ◌+◌, ◌-◌, ◌*◌, ◌/◌, ◌%◌, ◌<◌, ◌≤◌, List, [], ◌++◌, length, take, drop, refl, sym, ap, ◌∙◌, arith}
use Rattle.std.proofs.lemmas.List.{take_at, drop-take, drop-drop, length-take-le, length-drop, take_all, drop_all, append_assoc, append-nil}
use Rattle.std.proofs.Math.Seq.{take-add}
use Rattle.std.proofs.Math.Nat.{mul-add, mul_comm, mul_assoc, mul-le-mul_right, le_of_mul-le-mul_left, lt_of_mul-lt-mul_left, lt-div-mul-add}
use Rattle.krb_crypto_hash.specs.Xor.{xor_lists}
use Rattle.krb_crypto_block.specs.Linked.{unlinked, last_block}
use Rattle.krb_crypto_block.proofs.Chaining.{part_inside, whole_length}

module _ (size : ℕ) where
  abbrev pub pair : ℕ
  pair = 2 * size

  -- two blocks, each decrypted and combined with the block before it
  abbrev pub unlinked_pair : (List ℕ → List ℕ) → List ℕ → List ℕ → List ℕ
  unlinked_pair D v part = xor_lists (D (take size part)) v ++ xor_lists (D (drop size part)) (take size part)

  -- the blocks of a pair
  first_of_pair : (q part : List ℕ) → 2 * size ≤ length q → part ≡ take pair q → take size part ≡ take size q
  first_of_pair q part long e =
      let twice : pair ≡ size + size = omega arith in
      let l : length (take size q) ≡ size = length-take-le size q (omega (arith, long)) in
      ap (take size) (e ∙ ap (λ (n : ℕ). take n q) twice ∙ take-add size size q) ∙ take_at (take size q) (take size (drop size q)) size l

  second_of_pair : (q part : List ℕ) → part ≡ take pair q → drop size part ≡ take size (drop size q)
  second_of_pair q part e =
      let twice : pair ≡ size + size = omega arith in
      ap (drop size) (e ∙ ap (λ (n : ℕ). take n q) twice) ∙ drop-take size size q

  after_pair : (q : List ℕ) → drop size (drop size q) ≡ drop pair q
  after_pair q = let twice : size + size ≡ pair = omega arith in drop-drop size size q ∙ ap (λ (n : ℕ). drop n q) twice

  blocks_of : (i : ℕ) → size * (2 * i) ≡ pair * i
  blocks_of i = sym (mul_assoc size 2 i) ∙ ap (λ (n : ℕ). n * i) (mul_comm size 2)

  pairs_of : (i : ℕ) → size * (2 * i + 2) ≡ pair * i + pair
  pairs_of i = mul-add size (2 * i) 2 ∙ ap (λ (n : ℕ). n + size * 2) (blocks_of i) ∙ ap (λ (n : ℕ). pair * i + n) (mul_comm size 2)

  -- where two blocks follow, they are there, and as many blocks follow them
  pub pair_counted : 0 < size → (p : List ℕ) (i : ℕ) → length p % size ≡ 0 → i < length p / pair
      → (pair * i + pair ≤ length p) × (length p / size - 2 * i ≡ suc (suc (length p / size - 2 * (i + 1))))
  pair_counted some p i whole low =
      let inside : pair * i + pair ≤ length p = part_inside pair p i low in
      let all : length p ≡ size * (length p / size) = whole_length size p whole in
      let up : size * (2 * i + 2) ≡ pair * i + pair = pairs_of i in
      let fits : 2 * i + 2 ≤ length p / size = le_of_mul-le-mul_left {k = size} (omega (arith, inside, all, up)) some in
      (inside, omega (arith, fits))

  pub unlink_pair : (D : List ℕ → List ℕ) (k : ℕ) (v q part made b out out2 target : List ℕ) → 2 * size ≤ length q → part ≡ take pair q
      → made ≡ unlinked_pair D v part → b ≡ drop size part → out2 ≡ out ++ made → out ++ unlinked size D (suc (suc k)) v q ≡ target
      → out2 ++ unlinked size D k b (drop pair q) ≡ target
  unfolding unlinked
  unlink_pair D k v q part made b out out2 target long ep em eb eo inv =
      let first = first_of_pair q part long ep in
      let second = second_of_pair q part ep in
      let x : List ℕ = xor_lists (D (take size q)) v in
      let y : List ℕ = xor_lists (D (take size (drop size q))) (take size q) in
      let made_is : made ≡ x ++ y = rw (em, first, second) refl in
      let rest : List ℕ = unlinked size D k (take size (drop size q)) (drop size (drop size q)) in
      let before : out ++ (x ++ (y ++ rest)) ≡ target = inv in
      rw (eo, made_is, eb, second, ← after_pair q) (append_assoc out (x ++ y) rest ∙ ap (λ (l : List ℕ). out ++ l) (append_assoc x y rest) ∙ before)

  pub last_of_pair : (k : ℕ) (v q part b target : List ℕ) → 2 * size ≤ length q → part ≡ take pair q → b ≡ drop size part
      → last_block size (suc (suc k)) v q ≡ target → last_block size k b (drop pair q) ≡ target
  unfolding last_block
  last_of_pair k v q part b target long ep eb inv = rw (eb, second_of_pair q part ep, ← after_pair q) inv

  -- after the pairs one block is left, or none
  pub one_left : 0 < size → (p : List ℕ) (i : ℕ) → length p % size ≡ 0 → length p / pair ≤ i → pair * i < length p → (length p / size - 2 * i ≡ 1) × (length p - pair * i ≡ size)
  one_left some p i whole done more =
      let all : length p ≡ size * (length p / size) = whole_length size p whole in
      let from : 2 * i < length p / size = lt_of_mul-lt-mul_left size (omega (arith, all, more, blocks_of i)) in
      let below : length p < length p / pair * pair + pair = lt-div-mul-add (omega arith) in
      let up : length p / pair * pair ≤ i * pair = mul-le-mul_right pair done in
      let turned : i * pair ≡ pair * i = mul_comm i pair in
      let to : length p / size < 2 * i + 2 = lt_of_mul-lt-mul_left size (omega (arith, all, below, up, turned, pairs_of i)) in
      let one : length p / size ≡ 2 * i + 1 = omega (arith, from, to) in
      let long : size * (2 * i + 1) ≡ pair * i + size = mul-add size (2 * i) 1 ∙ ap (λ (n : ℕ). n + size * 1) (blocks_of i) ∙ omega arith in
      (omega (arith, one), omega (arith, all ∙ ap (λ (n : ℕ). size * n) one, long))

  pub none_left : 0 < size → (p : List ℕ) (i : ℕ) → length p % size ≡ 0 → length p ≤ pair * i → length p / size - 2 * i ≡ 0
  none_left some p i whole done =
      let all : length p ≡ size * (length p / size) = whole_length size p whole in
      let to : length p / size ≤ 2 * i = le_of_mul-le-mul_left {k = size} (omega (arith, all, done, blocks_of i)) some in
      omega (arith, to)

  -- what is written last, and nothing after it
  pub written_last : (o made target : List ℕ) (n : ℕ) → n ≤ length o → take n o ++ made ≡ target → take n o ++ (made ++ drop (length o - n) (drop n o)) ≡ target
  written_last o made target n fits e =
      let none : drop (length o - n) (drop n o) ≡ [] = drop_all (length o - n) (drop n o) (rw length-drop (omega arith)) in
      ap (λ (l : List ℕ). take n o ++ (made ++ l)) none ∙ ap (λ (l : List ℕ). take n o ++ l) (append-nil made) ∙ e

  pub unlinked_none : (D : List ℕ → List ℕ) (v rest o target : List ℕ) (n : ℕ) → length o ≤ n → take n o ++ unlinked size D 0 v rest ≡ target → o ≡ target
  unfolding unlinked
  unlinked_none D v rest o target n all e = sym (take_all n o all) ∙ sym (append-nil (take n o)) ∙ e

  pub last_none : (v rest target : List ℕ) → last_block size 0 v rest ≡ target → v ≡ target
  unfolding last_block
  last_none v rest target e = e

  pub unlinked_one : (D : List ℕ → List ℕ) (v q part made out target : List ℕ) → length q ≡ size → part ≡ q → made ≡ xor_lists (D part) v
      → out ++ unlinked size D 1 v q ≡ target → out ++ made ≡ target
  unfolding unlinked
  unlinked_one D v q part made out target l ep em inv =
      let all : take size q ≡ q = take_all size q (omega (arith, l)) in
      rw (em, ep) (ap (λ (b : List ℕ). out ++ b) (sym (append-nil (xor_lists (D q) v)) ∙ ap (λ (b : List ℕ). xor_lists (D b) v ++ unlinked size D 0 b (drop size q)) (sym all)) ∙ inv)

  pub last_one : (v q part target : List ℕ) → length q ≡ size → part ≡ q → last_block size 1 v q ≡ target → part ≡ target
  unfolding last_block
  last_one v q part target l ep inv = ep ∙ sym (take_all size q (omega (arith, l))) ∙ inv
