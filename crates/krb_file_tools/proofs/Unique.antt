-- What is listed has one text.
use Rattle.std.proofs.Common.{◌≡◌, ◌≢◌, ◌∙◌, ◌<◌, ◌≤◌, ap, refl, sym, arith, inl, inr, ℕ, ℤ, pos, ◌<ℤ◌, List, [], ◌∷◌, ◌++◌, codes}
use Rattle.std.specs.Fmt.{decimal}
use Rattle.std.proofs.lemmas.List.Elements.{All-contains}
use Rattle.jiff_core.proofs.SignedLemmas.{signed_arith}
use Rattle.krb_der_core.specs.GeneralizedTime.{Time, IsRealTime}
use Rattle.krb_files.specs.Entry.{Entry}
use Rattle.krb_file_tools.specs.Lines.{AreLinesOf, IsEntryLine, IsKeytabListing, IsListing, keytab_header}
use Rattle.krb_file_tools.specs.Principals.{principal_text}
use Rattle.krb_file_tools.specs.Texts.{IsEtypeText, IsTimeText, padded}
use Rattle.krb_file_tools.proofs.Printable.{small_day, small_month}
use Rattle.krb_registry.specs.declared.kind.Kind.{Kind}
use Rattle.krb_registry.specs.declared.kind.Kind.TheVariants.{EncryptionType}
use Rattle.krb_registry.specs.Names.{IsRow, table}
use Rattle.krb_show.specs.Leaves.{time_word}
use Rattle.krb_show_text.specs.Text.{text_of_lines}
use Rattle.krb_types.proofs.Seconds.{ordered}
use Rattle.krb_types.specs.Times.{clock_number, unix_seconds}

-- ---- times

-- numbers whose order is that of equal ones
not_less : (x y : ℕ) (s t : ℤ) → (x < y → s <ℤ t) → s ≡ t → y ≤ x
not_less x y s t h e = grind (arith, signed_arith, h, e)

both_le : (x y : ℕ) → x ≤ y → y ≤ x → x ≡ y
both_le x y h k = omega (arith, h, k)

same_clock : (a b : Time) → IsRealTime a → IsRealTime b → unix_seconds a ≡ unix_seconds b → clock_number a ≡ clock_number b
same_clock a b p q e =
    let not_before : clock_number b ≤ clock_number a = not_less (clock_number a) (clock_number b) (unix_seconds a) (unix_seconds b) (ordered a b p q).0 e in
    let not_behind : clock_number a ≤ clock_number b = not_less (clock_number b) (clock_number a) (unix_seconds b) (unix_seconds a) (ordered b a q p).0 (sym e) in
    both_le (clock_number a) (clock_number b) not_behind not_before

same_word : (a b : Time) → IsRealTime a → IsRealTime b → clock_number a ≡ clock_number b → time_word a ≡ time_word b
same_word a b p q e =
    let second : a.second ≡ b.second = omega (arith, e) in
    let minute : a.minute ≡ b.minute = omega (arith, e, second) in
    let hour : a.hour ≡ b.hour = omega (arith, e, second, minute) in
    let day : a.day ≡ b.day = omega (arith, e, second, minute, hour, small_day a p, small_day b q) in
    let month : a.month ≡ b.month = omega (arith, e, second, minute, hour, day, small_month a p, small_month b q) in
    let year : a.year ≡ b.year = omega (arith, e, second, minute, hour, day, month) in
    rw (year, month, day, hour, minute, second) refl

pub one_time : (seconds : ℕ) (a b : List ℕ) → IsTimeText seconds a → IsTimeText seconds b → a ≡ b
one_time seconds a b (inl (t, p, e, f)) (inl (u, q, g, h)) = f ∙ same_word t u p q (same_clock t u p q (e ∙ sym g)) ∙ sym h
one_time seconds a b (inl (t, p, e, f)) (inr (none, h)) = absurd (none t p e)
one_time seconds a b (inr (none, f)) (inl (u, q, g, h)) = absurd (none u q g)
one_time seconds a b (inr (none, f)) (inr (never, h)) = f ∙ sym h

-- ---- encryption types

-- no number has two names
abbrev pub HaveOneName : Type 0
HaveOneName = (kind : Kind) (number : ℤ) (a b : List ℕ) → IsRow kind number a → IsRow kind number b → a ≡ b

pub one_etype : HaveOneName → (number : ℤ) (a b : List ℕ) → IsEtypeText number a → IsEtypeText number b → a ≡ b
one_etype names number a b (inl p) (inl q) = names EncryptionType number a b p q
one_etype names number a b (inl p) (inr (none, f)) = absurd (All-contains (λ (row : ℤ × List ℕ). row.0 ≢ number) (table EncryptionType) (number, a) none p refl)
one_etype names number a b (inr (none, f)) (inl q) = absurd (All-contains (λ (row : ℤ × List ℕ). row.0 ≢ number) (table EncryptionType) (number, b) none q refl)
one_etype names number a b (inr (none, f)) (inr (never, g)) = f ∙ sym g

-- ---- lines

module _ {A : Type 0} (is_line : A → List ℕ → Type 0) (one : (x : A) (k l : List ℕ) → is_line x k → is_line x l → k ≡ l) where
  same_lines : (xs : List A) (ks ls : List (List ℕ)) → AreLinesOf is_line xs ks → AreLinesOf is_line xs ls → ks ≡ ls
  same_lines [] [] [] p q = refl
  same_lines [] [] (l ∷ ls) p q = absurd q
  same_lines [] (k ∷ ks) ls p q = absurd p
  same_lines (x ∷ xs) [] ls p q = absurd p
  same_lines (x ∷ xs) (k ∷ ks) [] p q = absurd q
  same_lines (x ∷ xs) (k ∷ ks) (l ∷ ls) p q =
      ap (λ (m : List ℕ). m ∷ ks) (one x k l p.0 q.0) ∙ ap (λ (ms : List (List ℕ)). l ∷ ms) (same_lines xs ks ls p.1 q.1)

  pub one_listing : (heads : List (List ℕ)) (xs : List A) (a b : List ℕ) → IsListing heads is_line xs a → IsListing heads is_line xs b → a ≡ b
  one_listing heads xs a b p q =
      p.is ∙ ap (λ (ls : List (List ℕ)). text_of_lines (heads ++ ls)) (same_lines xs p.lines q.lines p.each q.each) ∙ sym q.is

entry_line : Entry → List ℕ → List ℕ → List ℕ
entry_line e time etype = padded (decimal e.kvno) ++ codes " " ++ time ++ codes " " ++ principal_text e.principal ++ codes " (" ++ etype ++ codes ")"

one_line : HaveOneName → (e : Entry) (k l : List ℕ) → IsEntryLine e k → IsEntryLine e l → k ≡ l
unfolding entry_line
one_line names e k l p q =
    let time : p.time ≡ q.time = one_time e.timestamp p.time q.time p.time_is q.time_is in
    let etype : p.etype ≡ q.etype = one_etype names (pos e.etype) p.etype q.etype p.etype_is q.etype_is in
    let first : k ≡ entry_line e p.time p.etype = p.is in
    let second : l ≡ entry_line e q.time q.etype = q.is in
    first ∙ ap (λ (t : List ℕ). entry_line e t p.etype) time ∙ ap (λ (y : List ℕ). entry_line e q.time y) etype ∙ sym second

pub one_keytab_listing : HaveOneName → (entries : List Entry) (a b : List ℕ) → IsKeytabListing entries a → IsKeytabListing entries b → a ≡ b
one_keytab_listing names entries a b p q = one_listing IsEntryLine (one_line names) (keytab_header ∷ []) entries a b p q
