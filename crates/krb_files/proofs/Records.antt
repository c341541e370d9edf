-- A record that is read, by what is read of the entry in it.
use Rattle.std.proofs.Common.{◌≡◌, ℕ, ◌-◌, ◌^◌, ◌<◌, ◌≤◌, Bool, true, false, cond, ltb, List, ◌++◌, length, take, drop, Option, Some, Result, Ok, Err, refl, sym, ap, subst, ◌∙◌, append_assoc, arith}
use Rattle.std.proofs.lemmas.Bool.{ltb-true, ltb-false, le-ltb, lt-ltb}
use Rattle.std.proofs.lemmas.List.{take_at, drop_at, take-append-drop, length-append, length-take-le}
use Rattle.byteorder.specs.Endian.{big_bytes}
use Rattle.byteorder.specs.Numbers.{length-bytes_high_first}
use Rattle.krb_files.specs.declared.fields.error.FieldError.{FieldError}
use Rattle.krb_files.specs.Alls.{IsSequence}
use Rattle.krb_files.specs.Laws.{IsOctets, IsOctets-take, IsOctets-drop, bind_ok, guard_ok, ok_is, Takes, Takes-then, IsReading, wide1, wide2, wide4, number_reading, counted_reading, counted_some, principal_reading, followed_reading, seen_reading}
use Rattle.krb_files.specs.FieldReading.{◌>>=◌, Principal, number_at, seen_at}
use Rattle.krb_files.specs.FieldWritten.{counted_octets}
use Rattle.krb_files.specs.Entry.{Entry}
use Rattle.krb_files.specs.Keytab.{Fields, Record, live, hole, entry_of, fields_octets, record_octets, FitsFields, FitsRecord}
use Rattle.krb_files.specs.KeytabReading.{fields_from, fields_at, entry_in, in_record, before_record, octets_at, live_at, hole_at, body_at, record_at, live_entry, is_end}
use Rattle.krb_files.specs.declared.keytab.error.KeytabError.{KeytabError}
use Rattle.krb_files.specs.declared.keytab.error.KeytabError.TheVariants.{Truncated}

abbrev seen : Result (Record × List ℕ) KeytabError → Result (Option Entry × List ℕ) KeytabError
seen r = r >>= λ x. Ok (live_entry x.0, x.1)

abbrev pub entry_and : Result Entry KeytabError → List ℕ → Result (Option Entry × List ℕ) KeytabError
entry_and r after = r >>= λ e. Ok (Some e, after)

abbrev live_of : Result (Fields × List ℕ) FieldError → List ℕ → Result (Record × List ℕ) KeytabError
live_of r after = in_record r >>= λ f. Ok (live f.0 f.1, after)

same_entry : (r : Result (Fields × List ℕ) FieldError) (after : List ℕ) → seen (live_of r after) ≡ entry_and (in_record (r >>= λ f. Ok (entry_of f.0 f.1))) after
same_entry (Ok f) after = refl
same_entry (Err e) after = refl

pub record_live : (b : List ℕ) (n : ℕ) (rest body after : List ℕ) → number_at 4 b ≡ Ok (n, rest) → n < 2 ^ 31 → octets_at n rest ≡ Ok (body, after)
    → seen_at live_entry record_at b ≡ entry_and (in_record (entry_in body)) after
unfolding record_at entry_in
record_live b n rest body after h lt e =
    let small : ltb n (2 ^ 31) ≡ true = grind (arith) in
    rw (h, small, e) (same_entry (fields_at body) after)

-- ---- what is read is what is written

abbrev fields_back : Fields → Principal × (ℕ × (ℕ × (ℕ × (ℕ × List ℕ))))
fields_back f = (f.principal, (f.name_type, (f.timestamp, (f.short_kvno, (f.etype, f.key)))))

pub fields_reading : IsReading fields_at fields_octets FitsFields
fields_reading =
    seen_reading fields_from fields_back (λ f. refl) (λ p. refl)
    (followed_reading (principal_reading 2 wide2) (followed_reading (number_reading 4 wide4) (followed_reading (number_reading 4 wide4)
    (followed_reading (number_reading 1 wide1) (followed_reading (number_reading 2 wide2) (counted_reading 2 wide2))))))

pub number_before : {A : Type 0} (r : Result A FieldError) (x : A) → before_record r ≡ Ok x → r ≡ Ok x
number_before (Ok y) x e = cc
number_before (Err f) x e = absurd cc

entry_inside : {A : Type 0} (r : Result A FieldError) (x : A) → in_record r ≡ Ok x → r ≡ Ok x
entry_inside (Ok y) x e = cc
entry_inside (Err f) x e = absurd cc

-- so many octets were there
pub record Splits (n : ℕ) (b body after : List ℕ) : Type 0 where
  pub long : n ≤ length b
  pub body_is : take n b ≡ body
  pub after_is : drop n b ≡ after

splits : (n : ℕ) (b : List ℕ) (x : List ℕ × List ℕ) → octets_at n b ≡ Ok x → Splits n b x.0 x.1
splits n b x e =
    let g = guard_ok (ltb (length b) n) Truncated (Ok (take n b, drop n b)) x e in
    let p = ok_is KeytabError (take n b, drop n b) x g.1 in
    record { long = ltb-false _ _ g.0; body_is = ap (λ (y : List ℕ × List ℕ). y.0) p; after_is = ap (λ (y : List ℕ × List ℕ). y.1) p }

live_takes : (b : List ℕ) (n : ℕ) (c : List ℕ) (x : Record) (rest : List ℕ) → Takes b (big_bytes 4 n) c → n < 2 ^ 31
    → (octets_at n c >>= λ y. live_at y.0 y.1) ≡ Ok (x, rest) → Takes b (record_octets x) rest × FitsRecord x
live_takes b n c x rest t lt e =
    let o = bind_ok (octets_at n c) (λ y. live_at y.0 y.1) (x, rest) e in
    let s = splits n c o.0 o.1 in
    let f = bind_ok (in_record (fields_at o.0.0)) (λ f. Ok (live f.0 f.1, o.0.1)) (x, rest) o.2 in
    let inside : IsOctets o.0.0 = subst IsOctets s.body_is (IsOctets-take n c t.rest_fits) in
    let u = fields_reading.takes o.0.0 f.0.0 f.0.1 inside (entry_inside (fields_at o.0.0) f.0 f.1) in
    let body = fields_octets f.0.0 ++ f.0.1 in
    let whole : take n c ≡ body = s.body_is ∙ u.0.parts in
    let len : length body ≡ n = sym (ap length whole) ∙ length-take-le n c s.long in
    let behind : Takes c body (drop n c) = record { parts = sym (take-append-drop n c) ∙ ap (λ (z : List ℕ). z ++ drop n c) whole; rest_fits = IsOctets-drop n c t.rest_fits } in
    let both : Takes b (big_bytes 4 n ++ body) (drop n c) = Takes-then b (big_bytes 4 n) c body (drop n c) t behind in
    let counted : Takes b (counted_octets 4 body) (drop n c) = subst (λ (k : ℕ). Takes b (big_bytes 4 k ++ body) (drop n c)) (sym len) both in
    let made : Record × List ℕ = (live f.0.0 f.0.1, o.0.1) in
    let there : Takes b (record_octets made.0) made.1 = subst (λ (z : List ℕ). Takes b (counted_octets 4 body) z) s.after_is counted in
    subst (λ (y : Record × List ℕ). Takes b (record_octets y.0) y.1 × FitsRecord y.0) (ok_is KeytabError made (x, rest) f.2) (there, (u.1, omega (arith, len)))

hole_takes : (b : List ℕ) (n : ℕ) (c : List ℕ) (x : Record) (rest : List ℕ) → Takes b (big_bytes 4 n) c → 2 ^ 31 ≤ n → n < 2 ^ 32
    → hole_at (2 ^ 32 - n) c ≡ Ok (x, rest) → Takes b (record_octets x) rest × FitsRecord x
hole_takes b n c x rest t le lt e =
    let m = 2 ^ 32 - n in
    let o = bind_ok (octets_at m c) (λ y. Ok (hole y.0, y.1)) (x, rest) e in
    let s = splits m c o.0 o.1 in
    let body = take m c in
    let len : length body ≡ m = length-take-le m c s.long in
    let back : n ≡ 2 ^ 32 - length body = omega (arith, len) in
    let behind : Takes c body (drop m c) = record { parts = sym (take-append-drop m c); rest_fits = IsOctets-drop m c t.rest_fits } in
    let both : Takes b (big_bytes 4 n ++ body) (drop m c) = Takes-then b (big_bytes 4 n) c body (drop m c) t behind in
    let counted : Takes b (record_octets (hole body)) (drop m c) = subst (λ (k : ℕ). Takes b (big_bytes 4 k ++ body) (drop m c)) back both in
    let made : Record × List ℕ = (hole o.0.0, o.0.1) in
    let there : Takes b (record_octets made.0) made.1 × FitsRecord made.0 =
    subst (λ (z : List ℕ). Takes b (record_octets (hole z)) o.0.1 × FitsRecord (hole z)) s.body_is
    (subst (λ (z : List ℕ). Takes b (record_octets (hole body)) z) s.after_is counted, (omega (arith, len), omega (arith, len))) in
    subst (λ (y : Record × List ℕ). Takes b (record_octets y.0) y.1 × FitsRecord y.0) (ok_is KeytabError made (x, rest) o.2) there

body_takes : (b : List ℕ) (n : ℕ) (c : List ℕ) (x : Record) (rest : List ℕ) → Takes b (big_bytes 4 n) c → n < 2 ^ 32 → (s : Bool) → ltb n (2 ^ 31) ≡ s
    → cond s (octets_at n c >>= λ y. live_at y.0 y.1) (hole_at (2 ^ 32 - n) c) ≡ Ok (x, rest) → Takes b (record_octets x) rest × FitsRecord x
body_takes b n c x rest t lt true h e = live_takes b n c x rest t (ltb-true _ _ h) e
body_takes b n c x rest t lt false h e = hole_takes b n c x rest t (ltb-false _ _ h) lt e

record_takes : (b : List ℕ) (x : Record) (rest : List ℕ) → IsOctets b → record_at b ≡ Ok (x, rest) → Takes b (record_octets x) rest × FitsRecord x
unfolding record_at
record_takes b x rest fits e =
    let a = bind_ok (before_record (number_at 4 b)) (λ n. body_at n.0 n.1) (x, rest) e in
    let t = (number_reading 4 wide4).takes b a.0.0 a.0.1 fits (number_before (number_at 4 b) a.0 a.1) in
    body_takes b a.0.0 a.0.1 x rest t.0 t.1 (ltb a.0.0 (2 ^ 31)) refl a.2

octets_again : (body rest : List ℕ) → octets_at (length body) (body ++ rest) ≡ Ok (body, rest)
octets_again body rest =
    let long : ltb (length (body ++ rest)) (length body) ≡ false = le-ltb _ _ (omega (arith, length-append body rest)) in
    rw (long, take_at body rest (length body) refl, drop_at body rest (length body) refl) refl

record_again : (x : Record) (rest : List ℕ) → FitsRecord x → record_at (record_octets x ++ rest) ≡ Ok (x, rest)
unfolding record_at
record_again (live f r) rest fits =
    let body = fields_octets f ++ r in
    let regrouped : record_octets (live f r) ++ rest ≡ big_bytes 4 (length body) ++ (body ++ rest) = append_assoc (big_bytes 4 (length body)) body rest in
    let number = (number_reading 4 wide4).again (length body) (body ++ rest) (omega (arith, fits.1)) in
    let small : ltb (length body) (2 ^ 31) ≡ true = lt-ltb _ _ fits.1 in
    ap record_at regrouped ∙ rw (number, small, octets_again body rest, fields_reading.again f r fits.0) refl
record_again (hole octets) rest fits =
    let n = 2 ^ 32 - length octets in
    let regrouped : record_octets (hole octets) ++ rest ≡ big_bytes 4 n ++ (octets ++ rest) = append_assoc (big_bytes 4 n) octets rest in
    let number = (number_reading 4 wide4).again n (octets ++ rest) (omega (arith, fits.0)) in
    let large : ltb n (2 ^ 31) ≡ false = le-ltb _ _ (omega (arith, fits.1)) in
    let back : 2 ^ 32 - n ≡ length octets = omega (arith, fits.1) in
    ap record_at regrouped ∙ rw (number, large, back, octets_again octets rest) refl

pub record_reading : IsReading record_at record_octets FitsRecord
record_reading = record { takes = record_takes; again = record_again }

pub record_some : (x : Record) → 0 < length (record_octets x)
record_some (live f r) = counted_some 4 wide4 (fields_octets f ++ r)
record_some (hole octets) = omega (arith, length-bytes_high_first 4 (2 ^ 32 - length octets), length-append (big_bytes 4 (2 ^ 32 - length octets)) octets)

pub records : IsSequence is_end record_at record_octets FitsRecord
records = record { element = record_reading; some = record_some; ends = refl }
