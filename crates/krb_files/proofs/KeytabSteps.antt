-- Records one after the other, as a loop reads them, and the entries that are shown of them.
use Rattle.std.proofs.Common.{◌≡◌, ℕ, ◌<◌, true, false, List, [], ◌∷◌, length, Option, Some, None, Result, Ok, Err, refl, ap, ◌∙◌, arith}
use Rattle.krb_files.specs.Alls.{IsReadTo, reads-more, reads-error, shorter, shows-first, shows-none, shows-error}
use Rattle.krb_files.specs.Laws.{IsOctets, ok_is}
use Rattle.krb_files.specs.FieldReading.{◌>>=◌, seen_at, all_at, shown_all}
use Rattle.krb_files.specs.Entry.{Entry}
use Rattle.krb_files.specs.Keytab.{Record, live, hole, entries_of, record_octets, FitsRecord}
use Rattle.krb_files.specs.KeytabReading.{is_end, live_entry, record_at, shown_entries}
use Rattle.krb_files.specs.declared.keytab.error.KeytabError.{KeytabError}
use Rattle.krb_files.proofs.Records.{record_reading, records}

abbrev pub seen : List ℕ → Result (Option Entry × List ℕ) KeytabError
seen = seen_at live_entry record_at

-- the record that was read
record Found (b : List ℕ) (entry : Option Entry) (after : List ℕ) : Type 0 where
  pub found : Record
  pub read : record_at b ≡ Ok (found, after)
  pub shown : live_entry found ≡ entry

found_of : (b : List ℕ) (r : Result (Record × List ℕ) KeytabError) (entry : Option Entry) (after : List ℕ) → record_at b ≡ r
    → (let s : Result (Option Entry × List ℕ) KeytabError = r >>= λ x. Ok (live_entry x.0, x.1) in s ≡ Ok (entry, after)) → Found b entry after
found_of b (Ok x) entry after e h =
    let p : (live_entry x.0, x.1) ≡ (entry, after) = ok_is KeytabError (live_entry x.0, x.1) (entry, after) h in
    let a : x.1 ≡ after = ap (λ (y : Option Entry × List ℕ). y.1) p in
    record { found = x.0; read = e ∙ ap (λ (l : List ℕ). Ok (x.0, l)) a; shown = ap (λ (y : Option Entry × List ℕ). y.0) p }
found_of b (Err f) entry after e h = absurd cc

found_in : (b : List ℕ) (entry : Option Entry) (after : List ℕ) → seen b ≡ Ok (entry, after) → Found b entry after
found_in b entry after h = found_of b (record_at b) entry after refl h

rejected_of : (b : List ℕ) (r : Result (Record × List ℕ) KeytabError) (e : KeytabError) → record_at b ≡ r
    → (let s : Result (Option Entry × List ℕ) KeytabError = r >>= λ x. Ok (live_entry x.0, x.1) in s ≡ Err e) → record_at b ≡ Err e
rejected_of b (Ok x) e h s = absurd cc
rejected_of b (Err f) e h s = cc

rejected_in : (b : List ℕ) (e : KeytabError) → seen b ≡ Err e → record_at b ≡ Err e
rejected_in b e h = rejected_of b (record_at b) e refl h

some_octets : (b : List ℕ) → is_end b ≡ false → 0 < length b
some_octets [] e = absurd cc
some_octets (x ∷ b) e = omega arith

pub less_left : (rest : List ℕ) (entry : Option Entry) (after : List ℕ) → IsOctets rest → seen rest ≡ Ok (entry, after) → length after < length rest
less_left rest entry after fits h =
    let f = found_in rest entry after h in
    shorter is_end record_at record_octets FitsRecord records rest f.found after fits f.read

pub more_read : (b rest : List ℕ) (entry : Option Entry) (after : List ℕ) → IsOctets rest → is_end rest ≡ false → seen rest ≡ Ok (entry, after)
    → IsReadTo is_end record_at b rest → IsReadTo is_end record_at b after
more_read b rest entry after fits e h so_far =
    let f = found_in rest entry after h in
    reads-more is_end record_at record_octets FitsRecord records b rest f.found after fits e f.read so_far

pub error_read : (b rest : List ℕ) (f : KeytabError) → is_end rest ≡ false → seen rest ≡ Err f → IsReadTo is_end record_at b rest → all_at is_end record_at (length b) b ≡ Err f
error_read b rest f e h so_far = reads-error is_end record_at b rest f (some_octets rest e) e (rejected_in rest f h) so_far

shown_of : (x : Record) (rs : List Record) (entry : Entry) → live_entry x ≡ Some entry → entries_of (x ∷ rs) ≡ entry ∷ entries_of rs
shown_of (live f r) rs entry e = ap (λ z. z ∷ entries_of rs) cc
shown_of (hole octets) rs entry e = absurd cc

hidden_of : (x : Record) (rs : List Record) → live_entry x ≡ None → entries_of (x ∷ rs) ≡ entries_of rs
hidden_of (live f r) rs e = absurd cc
hidden_of (hole octets) rs e = refl

pub shows_entry : (b : List ℕ) (entry : Entry) (after : List ℕ) → IsOctets b → is_end b ≡ false → seen b ≡ Ok (Some entry, after) → shown_entries b ≡ entry ∷ shown_entries after
unfolding shown_entries
shows_entry b entry after fits e h =
    let f = found_in b (Some entry) after h in
    ap entries_of (shows-first is_end record_at record_octets FitsRecord records b f.found after fits e f.read)
    ∙ shown_of f.found (shown_all is_end record_at (length after) after) entry f.shown

pub shows_hole : (b after : List ℕ) → IsOctets b → is_end b ≡ false → seen b ≡ Ok (None, after) → shown_entries b ≡ shown_entries after
unfolding shown_entries
shows_hole b after fits e h =
    let f = found_in b None after h in
    ap entries_of (shows-first is_end record_at record_octets FitsRecord records b f.found after fits e f.read)
    ∙ hidden_of f.found (shown_all is_end record_at (length after) after) f.shown

pub shows_none : (b : List ℕ) → is_end b ≡ true → shown_entries b ≡ []
unfolding shown_entries
shows_none b e = ap entries_of (shows-none is_end record_at b e)

pub shows_error : (b : List ℕ) (f : KeytabError) → is_end b ≡ false → seen b ≡ Err f → shown_entries b ≡ []
unfolding shown_entries
shows_error b f e h = ap entries_of (shows-error is_end record_at b f (some_octets b e) e (rejected_in b f h))

pub octets_left : (rest : List ℕ) (entry : Option Entry) (after : List ℕ) → IsOctets rest → seen rest ≡ Ok (entry, after) → IsOctets after
octets_left rest entry after fits h =
    let f = found_in rest entry after h in
    (record_reading.takes rest f.found after fits f.read).0.rest_fits
