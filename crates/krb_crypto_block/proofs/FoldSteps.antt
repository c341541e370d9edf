-- The steps of the loops of `fold_into`.
use Rattle.std.proofs.Common.{◌≡◌, ℕ, zero, suc, ◌+◌, ◌-◌, ◌*◌, ◌/◌, ◌%◌, ◌<◌, ◌≤◌, ◌≢◌, List, length, replicate, refl, sym, ap, ◌∙◌, arith}
use Rattle.std.proofs.Math.Nat.{mod-lt, mod-mod, zero-mul, zero-mod}
use Rattle.krb_crypto_block.specs.Modes.{IsOctets}
use Rattle.krb_crypto_block.specs.Fold.{number, gcd, rot, concatenated, residue, folded_number}
use Rattle.krb_crypto_block.proofs.FoldWorth.{worth, worth-zero, worth-suc, worth_pos, worth_pow, number_lt, number-nil, number-cons}
use Rattle.krb_crypto_block.proofs.FoldTurns.{concatenated_octet, concatenated_lt}
use Rattle.krb_crypto_block.proofs.Folding.{Folding, Folding-start, Folding-step, Folding-end, next_place, next_turn}
use Rattle.krb_crypto_block.proofs.FoldDivisors.{copies, whole_turns}

pub Folding-begin : (s m j n v : ℕ) → v ≡ 0 → Folding s m j (0 * n) v 0
Folding-begin s m j n v e = rw (zero-mul, e) (Folding-start s m j)

pub start_place : (s n : ℕ) → 0 ≡ 0 * n % s
start_place s n = rw (zero-mul, zero-mod) refl

pub worth_top : (s : ℕ) → worth s ≡ worth s - 1 + 1
worth_top s = omega (arith, worth_pos s)

-- one octet
pub octet_step : (s b e count carry x carry2 : ℕ) (bytes sum next : List ℕ) → 0 < s → IsOctets bytes → IsOctets next → length next ≡ s
    → b < count → e < length bytes
    → x ≡ rot (number bytes) (8 * length bytes) (count - 1 - b) / worth e % 256
    → carry2 ≤ 1
    → number next + carry2 * worth ((b * length bytes + e) % s + 1) ≡ number sum + (x + carry) * worth ((b * length bytes + e) % s)
    → Folding s (worth s - 1) (concatenated (number bytes) (8 * length bytes) count) (b * length bytes + e) (number sum) carry
    → Folding s (worth s - 1) (concatenated (number bytes) (8 * length bytes) count) (b * length bytes + (e + 1)) (number next) carry2
octet_step s b e count carry x carry2 bytes sum next pos hd hn en hb he ex ec ev f =
    let n : ℕ = length bytes in
    let some : 0 < length bytes = omega arith in
    let of : suc (count - 1 - b) + b ≡ count = omega arith in
    let octet : concatenated (number bytes) (8 * length bytes) (suc (count - 1 - b) + b) / worth (b * length bytes + e) % 256 ≡ rot (number bytes) (8 * length bytes) (count - 1 - b) / worth e % 256 =
    concatenated_octet (number bytes) (length bytes) (count - 1 - b) b e some (number_lt bytes hd) he in
    let same : x ≡ concatenated (number bytes) (8 * length bytes) count / worth (b * length bytes + e) % 256 =
    ex ∙ sym octet ∙ ap (λ (k : ℕ). concatenated (number bytes) (8 * length bytes) k / worth (b * length bytes + e) % 256) of in
    let fits : number next < worth s = rw (← en) (number_lt next hn) in
    let after : Folding s (worth s - 1) (concatenated (number bytes) (8 * length bytes) count) (b * length bytes + e + 1) (number next) carry2 =
    Folding-step s (worth s - 1) (concatenated (number bytes) (8 * length bytes) count) (b * length bytes + e) (number sum) carry x (number next) carry2 (worth_top s) (mod-lt (b * length bytes + e) pos) f same ev ec fits in
    let at : b * length bytes + e + 1 ≡ b * length bytes + (e + 1) = omega arith in
    rw (← at) after

-- all turns are added
pub turns_end : (s b count carry v : ℕ) (bytes : List ℕ) → 0 < s → 0 < length bytes → IsOctets bytes → count ≡ s / gcd s (length bytes) → b ≡ count
    → Folding s (worth s - 1) (concatenated (number bytes) (8 * length bytes) count) (b * length bytes) v carry
    → v + carry * worth 0 ≡ residue (worth s - 1) (concatenated (number bytes) (8 * length bytes) count)
turns_end s b count carry v bytes pos some hd ec eb f =
    let turns : (b * length bytes) % s ≡ 0 = rw (eb, ec) (whole_turns s (length bytes) pos some) in
    let below : concatenated (number bytes) (8 * length bytes) count < worth (b * length bytes) = rw eb (concatenated_lt (number bytes) (length bytes) count some (number_lt bytes hd)) in
    let ends : (v + carry ≡ residue (worth s - 1) (concatenated (number bytes) (8 * length bytes) count)) × (v + carry < worth s) =
    Folding-end s (worth s - 1) (concatenated (number bytes) (8 * length bytes) count) (b * length bytes) v carry f turns below (worth_top s) in
    rw worth-zero (omega (arith, ends.0))

residue_lt : (m j : ℕ) → 0 < m → residue m j < m + 1
residue_lt m zero pos = omega arith
residue_lt m (suc j) pos = let lt : j % m < m = mod-lt j pos in omega arith

some_worth : (s : ℕ) → 0 < s → 1 < worth s
some_worth zero h = absurd (omega arith)
some_worth (suc s) h = rw worth-suc (omega (arith, worth_pos s))

no_carry : (c v w : ℕ) → v + c * w < w → c ≡ 0
no_carry zero v w h = refl
no_carry (suc c) v w h = absurd (omega arith)

-- the last carry is added
pub fold_end : (s n count carry i v x : ℕ) → 0 < s → 0 < n → count ≡ s / gcd s n → i ≡ s
    → v + carry * worth i ≡ residue (worth s - 1) (concatenated x (8 * n) count) → v ≡ folded_number x (8 * n) (8 * s)
unfolding folded_number
fold_end s n count carry i v x pos some ec ei ev =
    let top : 1 < worth s = some_worth s pos in
    let lt : residue (worth s - 1) (concatenated x (8 * n) count) < worth s = omega (arith, residue_lt (worth s - 1) (concatenated x (8 * n) count) (omega arith)) in
    let whole : v + carry * worth s ≡ residue (worth s - 1) (concatenated x (8 * n) count) = rw ei at ev in
    let none : carry ≡ 0 = no_carry carry v (worth s) (omega arith) in
    let alone : v + carry * worth s ≡ v = rw none (omega arith) in
    rw (← worth_pow, copies s n pos some, ← ec) (sym alone ∙ whole)

pub number_zeros : (n : ℕ) → number (replicate n 0) ≡ 0
number_zeros zero = number-nil
number_zeros (suc n) = rw (number-cons, number_zeros n) (omega arith)

-- the place after an octet, from place a on
pub place_wraps : (s a e p q : ℕ) → 0 < s → p ≡ (a + e) % s → p + 1 ≡ s → q ≡ 0 → q ≡ (a + (e + 1)) % s
place_wraps s a e p q pos ep es eq =
    let at : a + (e + 1) ≡ a + e + 1 = omega arith in
    let turn : (a + e) % s + 1 ≡ s = omega arith in
    rw (at, next_turn s (a + e) pos turn) eq

pub place_moves : (s a e p q : ℕ) → 0 < s → p ≡ (a + e) % s → p + 1 ≢ s → q ≡ p + 1 → q ≡ (a + (e + 1)) % s
place_moves s a e p q pos ep ne eq =
    let at : a + (e + 1) ≡ a + e + 1 = omega arith in
    let lt : (a + e) % s < s = mod-lt (a + e) pos in
    let inside : (a + e) % s + 1 < s = omega arith in
    rw (at, next_place s (a + e) inside, ← ep) eq

-- the place where a turn begins
pub turn_place : (s j p : ℕ) → p ≡ j + j / 8 * 5 + (j % 8) * 5 / 8 → p % s ≡ ((j + 5 * j / 8) % s + 0) % s
turn_place s j p e =
    let same : p ≡ j + 5 * j / 8 = omega arith in
    let none : (j + 5 * j / 8) % s + 0 ≡ (j + 5 * j / 8) % s = omega arith in
    rw (none, mod-mod) (ap (λ (k : ℕ). k % s) same)

-- the octet above the one at place a
pub above_last : (n a high : ℕ) → 0 < n → a % n ≡ n - 1 → high ≡ n - 1 → high ≡ n - 1 - (a + 1) % n
above_last n a high pos ep eh = let z : (a + 1) % n ≡ 0 = next_turn n a pos (omega arith) in omega arith

pub above_inside : (n a high : ℕ) → 0 < n → a % n ≢ n - 1 → high ≡ n - 1 - a % n - 1 → high ≡ n - 1 - (a + 1) % n
above_inside n a high pos ep eh =
    let lt : a % n < n = mod-lt a pos in
    let z : (a + 1) % n ≡ a % n + 1 = next_place n a (omega arith) in
    omega arith
