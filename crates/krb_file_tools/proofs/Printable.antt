-- Times, encryption types and flags are printable.
use Rattle.std.proofs.Common.{◌<◌, ◌/◌, ◌%◌, ◌^◌, ◌-◌, ◌==◌, ℕ, suc, ℤ, pos, negsuc, FitsSigned, List, [], ◌∷◌, ◌++◌, length, take, zero, All, arith, codes}
use Rattle.std.specs.Fmt.{decimal, signed_decimal}
use Rattle.std.specs.Int.{w64}
use Rattle.std.specs.List.{AllByRecursion, flat_map}
use Rattle.std.proofs.lemmas.Grind.{common_steps}
use Rattle.std.proofs.lemmas.List.Elements.{All-contains}
use Rattle.jiff_core.proofs.CalendarLemmas.{days_in_month_bounds}
use Rattle.jiff_core.proofs.SignedLemmas.{signed_arith}
use Rattle.krb_der_core.specs.GeneralizedTime.{Time, IsRealTime}
use Rattle.krb_file_tools.specs.Texts.{first_letters, flag_letters, last_letters, letter_of, letters_set, padded}
use Rattle.krb_registry.specs.declared.kind.Kind.{Kind}
use Rattle.krb_registry.specs.declared.kind.Kind.TheVariants.{EncryptionType}
use Rattle.krb_registry.specs.Names.{IsPlain, IsRow, table}
use Rattle.krb_show.specs.Leaves.{digit, time_word, two}
use Rattle.krb_show_text.specs.Text.{ArePrintable, IsPrintable}
use Rattle.krb_show_text.proofs.Printable.{printable_append, printable_choice, printable_decimal}

-- ---- numbers and times

pub printable_number : (n : ℕ) → n < 2 ^ 32 → ArePrintable (decimal n)
printable_number n small = printable_decimal n (omega arith)

-- pieces, one behind the other
pub printable_flat : {A : Type 0} (f : A → List ℕ) (xs : List A) → AllByRecursion (λ x. ArePrintable (f x)) xs → ArePrintable (flat_map f xs)
printable_flat f [] p = tt
printable_flat f (x ∷ xs) p = printable_append (f x) (flat_map f xs) p.0 (printable_flat f xs p.1)

-- digits in columns
printable_take : (n : ℕ) (xs : List ℕ) → ArePrintable xs → ArePrintable (take n xs)
printable_take zero xs p = tt
printable_take (suc n) [] p = tt
printable_take (suc n) (x ∷ xs) p = (p.0, printable_take n xs p.1)

pub printable_version : (kvno : ℕ) → kvno < 2 ^ 32 → ArePrintable (padded (decimal kvno))
printable_version kvno small =
    printable_append (take (4 - length (decimal kvno)) (codes "    ")) (decimal kvno) (printable_take (4 - length (decimal kvno)) (codes "    ") (grind arith))
    (printable_number kvno small)

printable_digit : (n : ℕ) → n < 10 → IsPrintable (digit n)
printable_digit n small = grind (arith, common_steps)

printable_two : (n : ℕ) → n < 100 → ArePrintable (two n)
printable_two n small = (printable_digit (n / 10) (omega (arith, small)), (printable_digit (n % 10) (omega (arith, small)), tt))

pub small_month : (t : Time) → IsRealTime t → t.month < 100
small_month t real = omega (arith, signed_arith)

pub small_day : (t : Time) → IsRealTime t → t.day < 100
small_day t real = omega (arith, signed_arith, days_in_month_bounds (pos t.year) t.month)

marked_and : (mark n : ℕ) (rest : List ℕ) → IsPrintable mark → n < 100 → ArePrintable rest → ArePrintable (mark ∷ two n ++ rest)
marked_and mark n rest m small p = (m, printable_append (two n) rest (printable_two n small) p)

clock : Time → List ℕ
clock t = 84 ∷ two t.hour ++ 58 ∷ two t.minute ++ 58 ∷ two t.second ++ 90 ∷ []

printable_clock : (t : Time) → IsRealTime t → ArePrintable (clock t)
unfolding clock
printable_clock t real =
    let second : ArePrintable (58 ∷ two t.second ++ 90 ∷ []) = marked_and 58 t.second (90 ∷ []) (omega arith, omega arith) (omega arith) ((omega arith, omega arith), tt) in
    let minute : ArePrintable (58 ∷ two t.minute ++ 58 ∷ two t.second ++ 90 ∷ []) =
    marked_and 58 t.minute (58 ∷ two t.second ++ 90 ∷ []) (omega arith, omega arith) (omega arith) second in
    marked_and 84 t.hour (58 ∷ two t.minute ++ 58 ∷ two t.second ++ 90 ∷ []) (omega arith, omega arith) (omega arith) minute

pub printable_time : (t : Time) → IsRealTime t → ArePrintable (time_word t)
unfolding clock
printable_time t real =
    let day : ArePrintable (45 ∷ two t.day ++ clock t) = marked_and 45 t.day (clock t) (omega arith, omega arith) (small_day t real) (printable_clock t real) in
    let month : ArePrintable (45 ∷ two t.month ++ 45 ∷ two t.day ++ clock t) =
    marked_and 45 t.month (45 ∷ two t.day ++ clock t) (omega arith, omega arith) (small_month t real) day in
    let year : ArePrintable (two (t.year % 100) ++ 45 ∷ two t.month ++ 45 ∷ two t.day ++ clock t) =
    printable_append (two (t.year % 100)) (45 ∷ two t.month ++ 45 ∷ two t.day ++ clock t) (printable_two (t.year % 100) (omega arith)) month in
    printable_append (two (t.year / 100)) (two (t.year % 100) ++ 45 ∷ two t.month ++ 45 ∷ two t.day ++ clock t) (printable_two (t.year / 100) (omega arith)) year

-- ---- encryption types

of_plain : (name : List ℕ) → IsPlain name → ArePrintable name
of_plain [] plain = tt
of_plain (x ∷ xs) plain = ((omega (arith, plain 0 0 (omega arith)), omega (arith, plain 0 0 (omega arith))), of_plain xs (λ k d h. plain (suc k) d (omega (arith, h))))

pub printable_row : ((kind : Kind) → All (λ row. IsPlain row.1) (table kind)) → (number : ℤ) (name : List ℕ) → IsRow EncryptionType number name
    → ArePrintable name
printable_row plain number name row = of_plain name (All-contains (λ (r : ℤ × List ℕ). IsPlain r.1) (table EncryptionType) (number, name) (plain EncryptionType) row)

printable_signed : (z : ℤ) → FitsSigned w64 z → ArePrintable (signed_decimal z)
printable_signed (pos n) fits = printable_decimal n (omega arith)
printable_signed (negsuc n) fits = ((omega arith, omega arith), printable_decimal (suc n) (omega arith))

pub printable_etype : (z : ℤ) → FitsSigned w64 z → ArePrintable (codes "etype " ++ signed_decimal z)
printable_etype z fits = printable_append (codes "etype ") (signed_decimal z) (grind arith) (printable_signed z fits)

-- ---- flags

printable_letter : (flags bit : ℕ) (letter : List ℕ) → ArePrintable letter → ArePrintable (letter_of flags bit letter)
printable_letter flags bit letter p = printable_choice (flags / 2 ^ (31 - bit) % 2 == 1) letter [] (λ _. p) (λ _. tt)

printable_set : (rows : List (ℕ × List ℕ)) (flags : ℕ) → AllByRecursion (λ row. ArePrintable row.1) rows → ArePrintable (letters_set rows flags)
printable_set [] flags p = tt
printable_set (row ∷ rows) flags p =
    printable_append (letter_of flags row.0 row.1) (letters_set rows flags) (printable_letter flags row.0 row.1 p.0) (printable_set rows flags p.1)

first_rows : AllByRecursion (λ row. ArePrintable row.1) first_letters
first_rows = (grind arith, (grind arith, (grind arith, (grind arith, (grind arith, (grind arith, (grind arith, tt)))))))

last_rows : AllByRecursion (λ row. ArePrintable row.1) last_letters
last_rows = (grind arith, (grind arith, (grind arith, (grind arith, (grind arith, (grind arith, (grind arith, tt)))))))

pub printable_letters : (flags : ℕ) → ArePrintable (flag_letters flags)
printable_letters flags =
    printable_append (letters_set first_letters flags) (letters_set last_letters flags) (printable_set first_letters flags first_rows) (printable_set last_letters flags last_rows)
