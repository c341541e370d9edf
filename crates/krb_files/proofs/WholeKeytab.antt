-- A whole keytab: what is read is one, and one is read.
use Rattle.std.proofs.Common.{◌≡◌, ℕ, ◌-◌, ◌^◌, ◌<◌, ◌≤◌, inl, inr, Bool, true, false, cond, eqb, ltb, List, [], ◌∷◌, ◌++◌, length, Result, Ok, Err, refl, ap, ◌∙◌, append_assoc, arith}
use Rattle.std.specs.List.{flat_map}
use Rattle.std.proofs.lemmas.Bool.{eqb-true, ltb-false, le-ltb}
use Rattle.std.proofs.lemmas.List.{length-append, nil_from_length}
use Rattle.byteorder.specs.Endian.{big_bytes, big_number}
use Rattle.byteorder.specs.Numbers.{big_number-reads_back, length-bytes_high_first}
use Rattle.krb_files.specs.Alls.{all-takes, all-again}
use Rattle.krb_files.specs.Laws.{IsOctets, bind_ok, ok_is, wide2, number_reading, enough}
use Rattle.std.specs.Prelude.{IfOk}
use Rattle.krb_files.specs.FieldReading.{◌>>=◌, Gives, number_at, all_at}
use Rattle.krb_files.specs.Entry.{Entry}
use Rattle.krb_files.specs.Keytab.{Record, live, hole, entries_of, fields_octets, record_octets, FitsRecord, IsEnd, KeytabIs}
use Rattle.krb_files.specs.KeytabReading.{is_end, before_record, record_at, keytab_of}
use Rattle.krb_files.specs.declared.keytab.error.KeytabError.{KeytabError}
use Rattle.krb_files.specs.declared.keytab.error.KeytabError.TheVariants.{InvalidVersion}
use Rattle.krb_files.proofs.Records.{number_before, records, record_reading, record_some}

-- the test of the end
end_cases : (b : List ℕ) (s t : Bool) → eqb (length b) 0 ≡ s → ltb (length b) 4 ≡ t → cond s true (cond t false (eqb (big_number 4 b) 0)) ≡ true → IsEnd b
end_cases b true t h i e = inl (nil_from_length b (eqb-true _ _ h))
end_cases b false true h i e = absurd cc
end_cases b false false h i e = inr (ltb-false _ _ i, eqb-true _ _ e)

pub ends_there : (b : List ℕ) → is_end b ≡ true → IsEnd b
ends_there b e = end_cases b (eqb (length b) 0) (ltb (length b) 4) refl refl e

pub end_there : (b : List ℕ) → IsEnd b → is_end b ≡ true
end_there b (inl e) = rw e refl
end_there b (inr h) =
    let some : eqb (length b) 0 ≡ false = grind (arith, h.0) in
    let long : ltb (length b) 4 ≡ false = le-ltb _ _ h.0 in
    rw (some, long, h.1) refl

number_goes_on : (n : ℕ) (rest : List ℕ) → 0 < n → n < 2 ^ 32 → is_end (big_bytes 4 n ++ rest) ≡ false
number_goes_on n rest some fits =
    let len = length-bytes_high_first 4 n in
    let total = length-append (big_bytes 4 n) rest in
    let more : eqb (length (big_bytes 4 n ++ rest)) 0 ≡ false = grind (arith, len, total) in
    let long : ltb (length (big_bytes 4 n ++ rest)) 4 ≡ false = le-ltb _ _ (omega (arith, len, total)) in
    let number : big_number 4 (big_bytes 4 n ++ rest) ≡ n = big_number-reads_back 4 n rest (omega arith) in
    let other : eqb n 0 ≡ false = grind (arith) in
    rw (more, long, number, other) refl

goes_on : (x : Record) (rest : List ℕ) → FitsRecord x → is_end (record_octets x ++ rest) ≡ false
goes_on (live f r) rest fits =
    let body = fields_octets f ++ r in
    ap is_end (append_assoc (big_bytes 4 (length body)) body rest) ∙ number_goes_on (length body) (body ++ rest) (omega arith) (omega (arith, fits.1))
goes_on (hole octets) rest fits =
    ap is_end (append_assoc (big_bytes 4 (2 ^ 32 - length octets)) octets rest) ∙ number_goes_on (2 ^ 32 - length octets) (octets ++ rest) (omega (arith, fits.1)) (omega (arith, fits.0))

chosen : {A : Type 0} (b : Bool) (r : Result A KeytabError) (e : KeytabError) (y : A) → cond b r (Err e) ≡ Ok y → (b ≡ true) × (r ≡ Ok y)
chosen true r e y h = (refl, h)
chosen false r e y h = absurd cc

pub keytab_takes : (b : List ℕ) (es : List Entry) → IsOctets b → keytab_of b ≡ Ok es → KeytabIs b es
unfolding keytab_of
keytab_takes b es fits e =
    let all : List ℕ → Result (List Entry) KeytabError = λ c. all_at is_end record_at (length c) c >>= λ rs. Ok (entries_of rs) in
    let a = bind_ok (before_record (number_at 2 b)) (λ v. cond (eqb v.0 0x0502) (all v.1) (Err (InvalidVersion v.0))) es e in
    let t = (number_reading 2 wide2).takes b a.0.0 a.0.1 fits (number_before (number_at 2 b) a.0 a.1) in
    let g = chosen (eqb a.0.0 0x0502) (all a.0.1) (InvalidVersion a.0.0) es a.2 in
    let o = bind_ok (all_at is_end record_at (length a.0.1) a.0.1) (λ rs. Ok (entries_of rs)) es g.1 in
    let u = all-takes is_end record_at record_octets FitsRecord records (length a.0.1) a.0.1 o.0 t.0.rest_fits (omega arith) o.1 in
    let version : big_bytes 2 a.0.0 ≡ 5 ∷ 2 ∷ [] = ap (big_bytes 2) (eqb-true _ _ g.0) in
    let head : b ≡ 5 ∷ 2 ∷ a.0.1 = t.0.parts ∙ ap (λ (z : List ℕ). z ++ a.0.1) version in
    record {
      records = o.0;
      end = u.end;
      octets = head ∙ ap (λ (z : List ℕ). 5 ∷ 2 ∷ z) u.parts;
      ends = ends_there u.end u.stops;
      fits = u.fits;
      shown = ok_is KeytabError (entries_of o.0) es o.2;
    }

pub keytab_again : (b : List ℕ) (es : List Entry) → KeytabIs b es → keytab_of b ≡ Ok es
unfolding keytab_of
keytab_again b es k =
    let tail = flat_map record_octets k.records ++ k.end in
    let head : b ≡ big_bytes 2 0x0502 ++ tail = k.octets in
    let number = (number_reading 2 wide2).again 0x0502 tail (omega arith) in
    let few : length k.records ≤ length tail = omega (arith, enough record_octets record_some k.records, length-append (flat_map record_octets k.records) k.end) in
    let all = all-again is_end record_at record_octets FitsRecord record_reading goes_on (length tail) k.records k.end k.fits (end_there k.end k.ends) few in
    ap keytab_of head ∙ rw (number, all) (ap (λ (l : List Entry). Ok l) k.shown)

pub is_found : (b : List ℕ) (r : Result (List Entry) KeytabError) → IsOctets b → Gives (λ k. k) r (keytab_of b) → IfOk r (KeytabIs b)
is_found b (Ok es) fits given = keytab_takes b es fits given
is_found b (Err e) fits given = tt
