-- The steps of ciphertext stealing in place.
use Rattle.std.proofs.Common.{◌≡◌, ℕ, zero, suc, ◌+◌, ◌-◌, ◌*◌, ◌/◌, ◌<◌, ◌≤◌, List, [], ◌++◌, length, take, drop, sym, ap, ◌∙◌, arith}
use Rattle.std.proofs.lemmas.List.{length-append, length-take-le, length-drop, append_assoc, append-nil, take-append-drop, take-append-le, drop-append-le, take_at, drop_at, take_all, drop_all, take_rest}
use Rattle.krb_crypto_hash.proofs.XorLists.{length-xor_lists, xor_lists-append}
use Rattle.krb_crypto_block.specs.Linked.{linked, last_linked, unlinked, last_block}
use Rattle.krb_crypto_hash.specs.Xor.{xor_lists}
use Rattle.krb_crypto_block.specs.Modes.{padded, zero_block, IsBlock, IsOctets}
use Rattle.krb_crypto_block.proofs.Below.{AreBelow-take, AreBelow-drop}
use Rattle.krb_crypto_block.proofs.Chaining.{no_octets}
use Rattle.krb_crypto_block.proofs.StealingLaws.{stolen, unstolen, two, untwo}

-- the prefix, and octets after it to the end, both written in their places
pub both_written : (n : ℕ) (x rest y : List ℕ) → length x ≡ n → take n (x ++ rest) ++ (y ++ drop (length (x ++ rest) - n) (drop n (x ++ rest))) ≡ x ++ y
both_written n x rest y e =
    let prefix : take n (x ++ rest) ≡ x = take_at x rest n e in
    let trailing : drop n (x ++ rest) ≡ rest = drop_at x rest n e in
    let none : drop (length (x ++ rest) - n) rest ≡ [] = drop_all (length (x ++ rest) - n) rest (omega (arith, length-append x rest, e)) in
    ap (λ (k : List ℕ). k ++ (y ++ drop (length (x ++ rest) - n) (drop n (x ++ rest)))) prefix
    ∙ ap (λ (k : List ℕ). x ++ (y ++ drop (length (x ++ rest) - n) k)) trailing
    ∙ ap (λ (k : List ℕ). x ++ (y ++ k)) none ∙ ap (λ (k : List ℕ). x ++ k) (append-nil y)

-- what is after the prefix is the rest
rest_trailing : (n : ℕ) (x rest : List ℕ) → length x ≡ n → take (length (x ++ rest) - n) (drop n (x ++ rest)) ≡ rest
rest_trailing n x rest e = take_rest (x ++ rest) n ∙ drop_at x rest n e

-- one block has no other to steal from
pub one_stolen : (E : List ℕ → List ℕ) (p : List ℕ) → length p ≡ 16 → linked 16 E (length p / 16) (zero_block 16) p ≡ stolen E 0 (zero_block 16) p
unfolding linked stolen
one_stolen E p e =
    let one : length p / 16 ≡ 1 = omega (arith, e) in
    let whole : take 16 p ≡ p = take_all 16 p (omega (arith, e)) in
    rw one (append-nil (E (xor_lists (take 16 p) (zero_block 16))) ∙ ap (λ (k : List ℕ). E (xor_lists k (zero_block 16))) whole)

pub one_unstolen : (D : List ℕ → List ℕ) (c : List ℕ) → length c ≡ 16 → unlinked 16 D (length c / 16) (zero_block 16) c ≡ unstolen D 0 (zero_block 16) c
unfolding unlinked unstolen
one_unstolen D c e =
    let one : length c / 16 ≡ 1 = omega (arith, e) in
    let whole : take 16 c ≡ c = take_all 16 c (omega (arith, e)) in
    rw one (append-nil (xor_lists (D (take 16 c)) (zero_block 16)) ∙ ap (λ (k : List ℕ). xor_lists (D k) (zero_block 16)) whole)

-- m blocks before the last two are chained
stolen_prefix : (E : List ℕ → List ℕ) (m : ℕ) (v prefix rest : List ℕ) → length prefix ≡ 16 * m
    → linked 16 E m v prefix ++ two E (last_linked 16 E m v prefix) (take 16 rest) (drop 16 rest) ≡ stolen E (suc m) v (prefix ++ rest)
unfolding linked last_linked stolen
stolen_prefix E zero v prefix rest e = ap (λ (k : List ℕ). two E v (take 16 (k ++ rest)) (drop 16 (k ++ rest))) (sym (no_octets 16 prefix (omega (arith, e))))
stolen_prefix E (suc m) v prefix rest e =
    let long : 16 ≤ length prefix = omega (arith, e) in
    let b : List ℕ = E (xor_lists (take 16 prefix) v) in
    let same : take 16 (prefix ++ rest) ≡ take 16 prefix = take-append-le 16 prefix rest long in
    let next : drop 16 (prefix ++ rest) ≡ drop 16 prefix ++ rest = drop-append-le 16 prefix rest long in
    let more : length (drop 16 prefix) ≡ 16 * m = length-drop 16 prefix ∙ omega (arith, e) in
    append_assoc b (linked 16 E m b (drop 16 prefix)) (two E (last_linked 16 E m b (drop 16 prefix)) (take 16 rest) (drop 16 rest))
    ∙ ap (λ (k : List ℕ). b ++ k) (stolen_prefix E m b (drop 16 prefix) rest more)
    ∙ ap (λ (k : List ℕ). E (xor_lists k v) ++ stolen E (suc m) (E (xor_lists k v)) (drop 16 prefix ++ rest)) (sym same)
    ∙ ap (λ (k : List ℕ). E (xor_lists (take 16 (prefix ++ rest)) v) ++ stolen E (suc m) (E (xor_lists (take 16 (prefix ++ rest)) v)) k) (sym next)

unstolen_prefix : (D : List ℕ → List ℕ) (m : ℕ) (v prefix rest : List ℕ) → length prefix ≡ 16 * m
    → unlinked 16 D m v prefix ++ untwo D (last_block 16 m v prefix) (take 16 rest) (drop 16 rest) ≡ unstolen D (suc m) v (prefix ++ rest)
unfolding unlinked last_block unstolen
unstolen_prefix D zero v prefix rest e = ap (λ (k : List ℕ). untwo D v (take 16 (k ++ rest)) (drop 16 (k ++ rest))) (sym (no_octets 16 prefix (omega (arith, e))))
unstolen_prefix D (suc m) v prefix rest e =
    let long : 16 ≤ length prefix = omega (arith, e) in
    let x : List ℕ = take 16 prefix in
    let same : take 16 (prefix ++ rest) ≡ take 16 prefix = take-append-le 16 prefix rest long in
    let next : drop 16 (prefix ++ rest) ≡ drop 16 prefix ++ rest = drop-append-le 16 prefix rest long in
    let more : length (drop 16 prefix) ≡ 16 * m = length-drop 16 prefix ∙ omega (arith, e) in
    append_assoc (xor_lists (D x) v) (unlinked 16 D m x (drop 16 prefix)) (untwo D (last_block 16 m x (drop 16 prefix)) (take 16 rest) (drop 16 rest))
    ∙ ap (λ (k : List ℕ). xor_lists (D x) v ++ k) (unstolen_prefix D m x (drop 16 prefix) rest more)
    ∙ ap (λ (k : List ℕ). xor_lists (D k) v ++ unstolen D (suc m) k (drop 16 prefix ++ rest)) (sym same)
    ∙ ap (λ (k : List ℕ). xor_lists (D (take 16 (prefix ++ rest))) v ++ unstolen D (suc m) (take 16 (prefix ++ rest)) k) (sym next)

-- what the octets of the stolen block give back
cut_plain : (u y : List ℕ) (n : ℕ) → length u ≡ 16 → length y ≡ n → n ≤ 16 → take n (xor_lists u (y ++ drop n u)) ≡ xor_lists (take n u) y
cut_plain u y n lu ly fits =
    let r : length (take n u) ≡ n = length-take-le n u (omega (arith, lu, fits)) in
    let lx : length (xor_lists (take n u) y) ≡ n = length-xor_lists (take n u) y (r ∙ sym ly) ∙ r in
    let joint : xor_lists u (y ++ drop n u) ≡ xor_lists (take n u) y ++ xor_lists (drop n u) (drop n u) =
    ap (λ (k : List ℕ). xor_lists k (y ++ drop n u)) (sym (take-append-drop n u)) ∙ xor_lists-append (take n u) y (drop n u) (drop n u) (r ∙ sym ly) in
    ap (take n) joint ∙ take_at (xor_lists (take n u) y) (xor_lists (drop n u) (drop n u)) n lx

-- the blocks before the last two are so many
prefix_count : (p : List ℕ) (start : ℕ) → start ≡ 16 * ((length p - 1) / 16 - 1) → start + 16 < length p
    → (length (take start p) ≡ 16 * (length (take start p) / 16)) × (suc (length (take start p) / 16) ≡ (length p - 1) / 16)
prefix_count p start e long =
    let size : length (take start p) ≡ start = length-take-le start p (omega (arith, long)) in
    (omega (arith, size, e), omega (arith, size, e, long))

-- prefix and last two are all
all_stolen : (E : List ℕ → List ℕ) (p prefix last out : List ℕ) (start : ℕ) → start ≡ 16 * ((length p - 1) / 16 - 1) → start + 16 < length p
    → prefix ≡ linked 16 E (length (take start p) / 16) (zero_block 16) (take start p) → last ≡ last_linked 16 E (length (take start p) / 16) (zero_block 16) (take start p)
    → out ≡ prefix ++ (E (xor_lists (padded (drop 16 (drop start p))) (E (xor_lists (take 16 (drop start p)) last))) ++ take (length (drop start p) - 16) (E (xor_lists (take 16 (drop start p)) last)))
    → out ≡ stolen E ((length p - 1) / 16) (zero_block 16) p
all_stolen E p prefix last out start e long ef el eo =
    let rest : List ℕ = drop start p in
    let m : ℕ = length (take start p) / 16 in
    let count = prefix_count p start e long in
    let s : List ℕ = E (xor_lists (take 16 rest) last) in
    let two_is : E (xor_lists (padded (drop 16 rest)) s) ++ take (length rest - 16) s ≡ two E last (take 16 rest) (drop 16 rest) = ap (λ (k : ℕ). E (xor_lists (padded (drop 16 rest)) s) ++ take k s) (sym (length-drop 16 rest)) in
    eo ∙ ap (λ (k : List ℕ). prefix ++ k) two_is
    ∙ ap (λ (k : List ℕ). k ++ two E last (take 16 rest) (drop 16 rest)) ef
    ∙ ap (λ (k : List ℕ). linked 16 E m (zero_block 16) (take start p) ++ two E k (take 16 rest) (drop 16 rest)) el
    ∙ stolen_prefix E m (zero_block 16) (take start p) rest count.0
    ∙ ap (λ (k : ℕ). stolen E k (zero_block 16) (take start p ++ rest)) count.1 ∙ ap (stolen E ((length p - 1) / 16) (zero_block 16)) (take-append-drop start p)

all_unstolen : (D : List ℕ → List ℕ) (c prefix last out : List ℕ) (start : ℕ) → start ≡ 16 * ((length c - 1) / 16 - 1) → start + 16 < length c → length c ≤ start + 32
    → length (D (take 16 (drop start c))) ≡ 16
    → prefix ≡ unlinked 16 D (length (take start c) / 16) (zero_block 16) (take start c) → last ≡ last_block 16 (length (take start c) / 16) (zero_block 16) (take start c)
    → out ≡ prefix ++ (xor_lists (D (drop 16 (drop start c) ++ drop (length (drop start c) - 16) (D (take 16 (drop start c))))) last
    ++ take (length (drop start c) - 16) (xor_lists (D (take 16 (drop start c))) (drop 16 (drop start c) ++ drop (length (drop start c) - 16) (D (take 16 (drop start c))))))
    → out ≡ unstolen D ((length c - 1) / 16) (zero_block 16) c
all_unstolen D c prefix last out start e long short lu ef el eo =
    let rest : List ℕ = drop start c in
    let u : List ℕ = D (take 16 rest) in
    let y : List ℕ = drop 16 rest in
    let n : ℕ = length rest - 16 in
    let m : ℕ = length (take start c) / 16 in
    let count = prefix_count c start e long in
    let ly : length (drop 16 rest) ≡ n = length-drop 16 rest in
    let fits : n ≤ 16 = omega (arith, length-drop start c, short) in
    let cut : take n (xor_lists u (y ++ drop n u)) ≡ xor_lists (take n u) y = cut_plain u y n lu ly fits in
    let untwo_is : xor_lists (D (y ++ drop n u)) last ++ take n (xor_lists u (y ++ drop n u)) ≡ untwo D last (take 16 rest) y =
    ap (λ (k : List ℕ). xor_lists (D (y ++ drop n u)) last ++ k) cut ∙ ap (λ (k : ℕ). xor_lists (D (y ++ drop k u)) last ++ xor_lists (take k u) y) (sym ly) in
    eo ∙ ap (λ (k : List ℕ). prefix ++ k) untwo_is
    ∙ ap (λ (k : List ℕ). k ++ untwo D last (take 16 rest) y) ef
    ∙ ap (λ (k : List ℕ). unlinked 16 D m (zero_block 16) (take start c) ++ untwo D k (take 16 rest) y) el
    ∙ unstolen_prefix D m (zero_block 16) (take start c) rest count.0
    ∙ ap (λ (k : ℕ). unstolen D k (zero_block 16) (take start c ++ rest)) count.1 ∙ ap (unstolen D ((length c - 1) / 16) (zero_block 16)) (take-append-drop start c)

-- what the two last blocks are encrypted to, and decrypted to, as the calls on them result
abbrev ends : (List ℕ → List ℕ) → List ℕ → List ℕ → List ℕ
ends E last r = E (xor_lists (padded (drop 16 r)) (E (xor_lists (take 16 r) last))) ++ take (length r - 16) (E (xor_lists (take 16 r) last))

abbrev undone_ends : (List ℕ → List ℕ) → List ℕ → List ℕ → List ℕ
undone_ends D last r = xor_lists (D (drop 16 r ++ drop (length r - 16) (D (take 16 r)))) last ++ take (length r - 16) (xor_lists (D (take 16 r)) (drop 16 r ++ drop (length r - 16) (D (take 16 r))))

-- prefix and rest, written in their places
abbrev in_place : ℕ → List ℕ → List ℕ → List ℕ → List ℕ
in_place start prefix rest written = take start (prefix ++ rest) ++ (written ++ drop (length (prefix ++ rest) - start) (drop start (prefix ++ rest)))

pub written_stolen : (E : List ℕ → List ℕ) (p prefix last written : List ℕ) (start : ℕ) → start ≡ 16 * ((length p - 1) / 16 - 1) → start + 16 < length p → length prefix ≡ start
    → prefix ≡ linked 16 E (length (take start p) / 16) (zero_block 16) (take start p) → last ≡ last_linked 16 E (length (take start p) / 16) (zero_block 16) (take start p)
    → written ≡ ends E last (take (length (prefix ++ drop start p) - start) (drop start (prefix ++ drop start p)))
    → in_place start prefix (drop start p) written ≡ stolen E ((length p - 1) / 16) (zero_block 16) p
written_stolen E p prefix last written start e long lf ef el ew =
    all_stolen E p prefix last (in_place start prefix (drop start p) written) start e long ef el
    (both_written start prefix (drop start p) written lf ∙ ap (λ (k : List ℕ). prefix ++ k) (ew ∙ ap (ends E last) (rest_trailing start prefix (drop start p) lf)))

pub written_unstolen : (D : List ℕ → List ℕ) (c prefix last written : List ℕ) (start : ℕ) → start ≡ 16 * ((length c - 1) / 16 - 1) → start + 16 < length c → length c ≤ start + 32
    → ((b : List ℕ) → IsBlock 16 b → IsBlock 16 (D b)) → IsOctets c → length prefix ≡ start
    → prefix ≡ unlinked 16 D (length (take start c) / 16) (zero_block 16) (take start c) → last ≡ last_block 16 (length (take start c) / 16) (zero_block 16) (take start c)
    → written ≡ undone_ends D last (take (length (prefix ++ drop start c) - start) (drop start (prefix ++ drop start c)))
    → in_place start prefix (drop start c) written ≡ unstolen D ((length c - 1) / 16) (zero_block 16) c
written_unstolen D c prefix last written start e long short sized octets lf ef el ew =
    let wide : length (take 16 (drop start c)) ≡ 16 = length-take-le 16 (drop start c) (omega (arith, length-drop start c, long)) in
    let whole : length (D (take 16 (drop start c))) ≡ 16 = (sized (take 16 (drop start c)) (wide, AreBelow-take 16 (drop start c) (AreBelow-drop start c octets))).0 in
    all_unstolen D c prefix last (in_place start prefix (drop start c) written) start e long short whole ef el
    (both_written start prefix (drop start c) written lf ∙ ap (λ (k : List ℕ). prefix ++ k) (ew ∙ ap (undone_ends D last) (rest_trailing start prefix (drop start c) lf)))
