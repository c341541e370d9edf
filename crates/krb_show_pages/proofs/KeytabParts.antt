-- Records of a keytab as they are found in octets.
use Rattle.std.proofs.Common.{◌≡◌, ℕ, ◌+◌, ◌-◌, ◌^◌, ◌<◌, ◌≤◌, true, false, ltb, List, [], ◌∷◌, ◌++◌, length, get_or, take, drop, map, Option, None, Some, Result, Ok, Err, MatchOption, inl, inr, refl, sym, ap, ◌∙◌, subst, append_assoc, length-append, length-drop, arith}
use Rattle.std.specs.List.{AllByRecursion, flat_map}
use Rattle.std.specs.Option.{option_copied}
use Rattle.std.proofs.lemmas.Bool.{cases_lt, lt-ltb, le-ltb, ltb-false}
use Rattle.std.proofs.lemmas.Grind.{flat_map-append}
use Rattle.std.proofs.lemmas.List.Concat.{flat_map-cons}
use Rattle.std.proofs.lemmas.List.{take_at, drop_at, length-take-le, length-map, map_more, append-nil, take-map, get_or-map}
use Rattle.std.proofs.lemmas.List.Folds.{length-flat_map-take}
use Rattle.std.specs.Borrow.{Bor}
use Rattle.byteorder.specs.Endian.{big_bytes, big_number}
use Rattle.byteorder.specs.Numbers.{length-bytes_high_first}
use Rattle.krb_files.specs.FieldReading.{Principal, counted_at, number_at, principal_at}
use Rattle.krb_files.specs.FieldWritten.{FitsCounted, FitsNumber, counted_octets, principal_octets}
use Rattle.krb_files.specs.Keytab.{Fields, FitsFields, FitsRecord, IsEnd, Record, fields_octets, hole, live, record_octets}
use Rattle.krb_files.specs.Laws.{IsOctets, IsOctets-drop, counted_reading, guard_ok, number_reading, ok_is, principal_reading, wide2, wide4}
use Rattle.krb_files.specs.declared.fields.error.FieldError.{FieldError}
use Rattle.krb_files.specs.declared.fields.error.FieldError.TheVariants.{Truncated}
use Rattle.krb_message_fields.specs.declared.places.place.Place.{Place}
use Rattle.krb_show.specs.InnerPlaces.{place_at}
use Rattle.krb_show_pages.specs.KeytabPlaces.{adds_content, component_places, entry_places, parts_places, records_places}
use Rattle.krb_show_pages.specs.KeytabParts.{FitsRecordPart, IsPart, IsPartAt, IsPartsOf, content_of, fits_content, record_size, told_of}
use Rattle.krb_show_pages.specs.declared.files.keytab_places.EntryParts.{EntryParts}
use Rattle.krb_show_pages.specs.declared.files.keytab_places.RecordPart.{RecordPart}

-- what is read of octets that begin with a number of 32 bits
pub number_read : (octets : List ℕ) (x : ℕ) (rest : List ℕ) (y : ℕ) (behind : List ℕ) → FitsNumber 4 x → octets ≡ big_bytes 4 x ++ rest
    → number_at 4 octets ≡ Ok (y, behind) → (y ≡ x) × (behind ≡ rest)
number_read octets x rest y behind fits e g =
    let same : (y, behind) ≡ (x, rest) = ok_is FieldError (y, behind) (x, rest) (sym g ∙ ap (number_at 4) e ∙ (number_reading 4 wide4).again x rest fits) in
    (ap (λ (p : ℕ × List ℕ). p.0) same, ap (λ (p : ℕ × List ℕ). p.1) same)

-- it is four octets
pub number_length : (octets : List ℕ) (y : ℕ) (behind : List ℕ) → number_at 4 octets ≡ Ok (y, behind) → length octets ≡ 4 + length behind
number_length octets y behind g =
    let h = guard_ok (ltb (length octets) 4) Truncated (Ok (big_number 4 octets, drop 4 octets)) (y, behind) g in
    let long : 4 ≤ length octets = ltb-false _ _ h.0 in
    let rest : drop 4 octets ≡ behind = ap (λ (p : ℕ × List ℕ). p.1) (ok_is FieldError (big_number 4 octets, drop 4 octets) (y, behind) h.1) in
    omega (arith, long, ap length rest, length-drop 4 octets)

told_small : (n : ℕ) (b : List ℕ) → n < 2 ^ 31 → told_of n (take (record_size n) b) ≡ Some (take n b)
told_small n b lt =
    let t : ltb n (2 ^ 31) ≡ true = lt-ltb _ _ lt in
    rw t refl

told_large : (n : ℕ) (b : List ℕ) → 2 ^ 31 ≤ n → told_of n b ≡ None
told_large n b le =
    let t : ltb n (2 ^ 31) ≡ false = le-ltb _ _ le in
    rw t refl

size_small : (n : ℕ) → n < 2 ^ 31 → record_size n ≡ n
size_small n lt =
    let t : ltb n (2 ^ 31) ≡ true = lt-ltb _ _ lt in
    rw t refl

size_large : (n : ℕ) → 2 ^ 31 ≤ n → record_size n ≡ 2 ^ 32 - n
size_large n le =
    let t : ltb n (2 ^ 31) ≡ false = le-ltb _ _ le in
    rw t refl

-- what is found behind a number of octets
abbrev IsFound : Option RecordPart → ℕ → List ℕ → Type 0
IsFound o n octets = MatchOption o (length octets < record_size n) (IsPartAt n octets)

live_part : (body tail : List ℕ) (o : Option RecordPart) → length body < 2 ^ 31 → IsFound o (length body) (body ++ tail)
    → MatchOption o ⊥ (λ p. (option_copied p.content ≡ Some body) × (p.behind.now ≡ tail))
live_part body tail None lt m = omega (arith, m, size_small (length body) lt, length-append body tail)
live_part body tail (Some p) lt m = (
  m.content ∙ told_small (length body) (body ++ tail) lt ∙ ap (λ (b : List ℕ). Some b) (take_at body tail (length body) refl),
  m.behind ∙ ap (λ (k : ℕ). drop k (body ++ tail)) (size_small (length body) lt) ∙ drop_at body tail (length body) refl,
)

hole_part : (held tail : List ℕ) (o : Option RecordPart) → 0 < length held → length held ≤ 2 ^ 31 → IsFound o (2 ^ 32 - length held) (held ++ tail)
    → MatchOption o ⊥ (λ p. (option_copied p.content ≡ None) × (p.behind.now ≡ tail))
hole_part held tail None some few m = omega (arith, m, size_large (2 ^ 32 - length held) (omega arith), length-append held tail)
hole_part held tail (Some p) some few m =
    let n = 2 ^ 32 - length held in
    let large : 2 ^ 31 ≤ n = omega arith in
    let size : record_size n ≡ length held = size_large n large ∙ omega arith in (
      m.content ∙ told_large n (take (record_size n) (held ++ tail)) large,
      m.behind ∙ ap (λ (k : ℕ). drop k (held ++ tail)) size ∙ drop_at held tail (length held) refl,
    )

moved : (o : Option RecordPart) (y x : ℕ) (behind rest : List ℕ) → (y ≡ x) × (behind ≡ rest) → IsFound o y behind → IsFound o x rest
moved o y x behind rest h m = subst (λ (k : ℕ). IsFound o k rest) h.0 (subst (λ (b : List ℕ). IsFound o y b) h.1 m)

-- a record that octets begin with is found
pub part_found : (octets : List ℕ) (y : ℕ) (behind : List ℕ) (o : Option RecordPart) (r : Record) (tail : List ℕ) → number_at 4 octets ≡ Ok (y, behind)
    → MatchOption o (length behind < record_size y) (IsPartAt y behind) → FitsRecord r → octets ≡ record_octets r ++ tail
    → MatchOption o ⊥ (λ p. IsPart p r tail)
part_found octets y behind o (live f rest) tail g m fits e =
    let body = fields_octets f ++ rest in
    let h = number_read octets (length body) (body ++ tail) y behind (omega (arith, fits.1)) (e ∙ append_assoc (big_bytes 4 (length body)) body tail) g in
    live_part body tail o fits.1 (moved o y (length body) behind (body ++ tail) h m)
part_found octets y behind o (hole held) tail g m fits e =
    let n = 2 ^ 32 - length held in
    let h = number_read octets n (held ++ tail) y behind (omega (arith, fits.0)) (e ∙ append_assoc (big_bytes 4 n) held tail) g in
    hole_part held tail o fits.0 fits.1 (moved o y n behind (held ++ tail) h m)

fits_told : (y : ℕ) (behind : List ℕ) → record_size y ≤ length behind → fits_content (told_of y (take (record_size y) behind)) (4 + record_size y)
fits_told y behind whole =
    elim (cases_lt y (2 ^ 31)) [
      | inl lt ↦
          let size = size_small y lt in
          let long : length (take y behind) ≡ y = length-take-le y behind (omega (arith, whole, size)) in
          subst (λ (c : Option (List ℕ)). fits_content c (4 + record_size y)) (sym (told_small y behind lt)) (omega (arith, long, size))
      | inr le ↦ subst (λ (c : Option (List ℕ)). fits_content c (4 + record_size y)) (sym (told_large y (take (record_size y) behind) le)) tt
    ]

-- what is found has so many octets
pub part_fits : (octets : List ℕ) (y : ℕ) (behind : List ℕ) (o : Option RecordPart) → number_at 4 octets ≡ Ok (y, behind)
    → MatchOption o (length behind < record_size y) (IsPartAt y behind) → MatchOption o (Unit {0}) (λ p. FitsRecordPart p (length octets))
part_fits octets y behind None g m = tt
part_fits octets y behind (Some p) g m = record {
  record_octets = 4 + record_size y;
  some = omega arith;
  all = omega (arith, number_length octets y behind g, m.whole, ap length m.behind, length-drop (record_size y) behind);
  content = subst (λ (c : Option (List ℕ)). fits_content c (4 + record_size y)) (sym m.content) (fits_told y behind m.whole);
}

-- ---- the parts of an entry

-- the numbers of an entry before its key
unfoldable pub numbers_octets : Fields → List ℕ
numbers_octets f = big_bytes 4 f.name_type ++ (big_bytes 4 f.timestamp ++ (big_bytes 1 f.short_kvno ++ big_bytes 2 f.etype))

numbers_length : (f : Fields) → length (numbers_octets f) ≡ 11
unfolding numbers_octets
numbers_length f =
    omega (
      arith,
      length-bytes_high_first 4 f.name_type,
      length-bytes_high_first 4 f.timestamp,
      length-bytes_high_first 1 f.short_kvno,
      length-bytes_high_first 2 f.etype,
      length-append (big_bytes 4 f.name_type) (big_bytes 4 f.timestamp ++ (big_bytes 1 f.short_kvno ++ big_bytes 2 f.etype)),
      length-append (big_bytes 4 f.timestamp) (big_bytes 1 f.short_kvno ++ big_bytes 2 f.etype),
      length-append (big_bytes 1 f.short_kvno) (big_bytes 2 f.etype),
    )

grouped : (f : Fields) (rest : List ℕ)
    → fields_octets f ++ rest ≡ principal_octets 2 f.principal ++ (numbers_octets f ++ (counted_octets 2 f.key ++ rest))
unfolding numbers_octets
grouped f rest = simp append_assoc

-- what is read of octets that begin with an entry's fields
pub principal_read : (body : List ℕ) (f : Fields) (rest : List ℕ) (p : Principal) (numbers : List ℕ) → FitsFields f → body ≡ fields_octets f ++ rest
    → principal_at 2 body ≡ Ok (p, numbers) → (p ≡ f.principal) × (numbers ≡ numbers_octets f ++ (counted_octets 2 f.key ++ rest))
principal_read body f rest p numbers fits e g =
    let tail = numbers_octets f ++ (counted_octets 2 f.key ++ rest) in
    let same : (p, numbers) ≡ (f.principal, tail) =
    ok_is FieldError (p, numbers) (f.principal, tail)
    (sym g ∙ ap (principal_at 2) (e ∙ grouped f rest) ∙ (principal_reading 2 wide2).again f.principal tail fits.0) in
    (ap (λ (x : Principal × List ℕ). x.0) same, ap (λ (x : Principal × List ℕ). x.1) same)

pub numbers_dropped : (f : Fields) (rest : List ℕ) → drop 11 (numbers_octets f ++ (counted_octets 2 f.key ++ rest)) ≡ counted_octets 2 f.key ++ rest
numbers_dropped f rest = drop_at (numbers_octets f) (counted_octets 2 f.key ++ rest) 11 (numbers_length f)

pub key_read : (behind key rest found after : List ℕ) → FitsCounted 2 key → behind ≡ counted_octets 2 key ++ rest → counted_at 2 behind ≡ Ok (found, after)
    → (found ≡ key) × (after ≡ rest)
key_read behind key rest found after fits e g =
    let same : (found, after) ≡ (key, rest) =
    ok_is FieldError (found, after) (key, rest) (sym g ∙ ap (counted_at 2) e ∙ (counted_reading 2 wide2).again key rest fits) in
    (ap (λ (x : List ℕ × List ℕ). x.0) same, ap (λ (x : List ℕ × List ℕ). x.1) same)

-- how many octets are read
pub principal_length : (body : List ℕ) (p : Principal) (numbers : List ℕ) → IsOctets body → principal_at 2 body ≡ Ok (p, numbers)
    → length body ≡ 4 + length p.realm + length (flat_map (counted_octets 2) p.components) + length numbers
principal_length body p numbers small g =
    let t = (principal_reading 2 wide2).takes body p numbers small g in
    let flat = flat_map (counted_octets 2) p.components in
    omega (
      arith,
      ap length t.0.parts,
      length-append (principal_octets 2 p) numbers,
      length-append (big_bytes 2 (length p.components)) (counted_octets 2 p.realm ++ flat),
      length-append (counted_octets 2 p.realm) flat,
      length-append (big_bytes 2 (length p.realm)) p.realm,
      length-bytes_high_first 2 (length p.components),
      length-bytes_high_first 2 (length p.realm),
    )

pub key_length : (behind found after : List ℕ) → IsOctets behind → counted_at 2 behind ≡ Ok (found, after) → length behind ≡ 2 + length found + length after
key_length behind found after small g =
    let t = (counted_reading 2 wide2).takes behind found after small g in
    omega (
      arith,
      ap length t.0.parts,
      length-append (counted_octets 2 found) after,
      length-append (big_bytes 2 (length found)) found,
      length-bytes_high_first 2 (length found),
    )

-- so many octets has the principal of such fields
pub principal_size : (f : Fields) (body rest numbers : List ℕ) → body ≡ fields_octets f ++ rest → numbers ≡ numbers_octets f ++ (counted_octets 2 f.key ++ rest)
    → length body - length numbers ≡ length (principal_octets 2 f.principal)
principal_size f body rest numbers e h =
    omega (arith, ap length (e ∙ grouped f rest), length-append (principal_octets 2 f.principal) (numbers_octets f ++ (counted_octets 2 f.key ++ rest)), ap length h)

apart : {A : Type 0} (x : A) (d : FieldError) → (let o : Result A FieldError = Ok x in o ≡ Err d) → ⊥
apart x d h = absurd cc

-- all of them are read
pub principal_there : (body : List ℕ) (f : Fields) (rest : List ℕ) (d : FieldError) → FitsFields f → body ≡ fields_octets f ++ rest
    → principal_at 2 body ≡ Err d → ⊥
principal_there body f rest d fits e g =
    let tail = numbers_octets f ++ (counted_octets 2 f.key ++ rest) in
    apart (f.principal, tail) d (sym ((principal_reading 2 wide2).again f.principal tail fits.0) ∙ sym (ap (principal_at 2) (e ∙ grouped f rest)) ∙ g)

pub numbers_there : (f : Fields) (rest numbers : List ℕ) → numbers ≡ numbers_octets f ++ (counted_octets 2 f.key ++ rest) → length numbers < 11 → ⊥
numbers_there f rest numbers e few =
    omega (arith, few, ap length e, numbers_length f, length-append (numbers_octets f) (counted_octets 2 f.key ++ rest))

pub key_there : (behind key rest : List ℕ) (d : FieldError) → FitsCounted 2 key → behind ≡ counted_octets 2 key ++ rest → counted_at 2 behind ≡ Err d → ⊥
key_there behind key rest d fits e g = apart (key, rest) d (sym ((counted_reading 2 wide2).again key rest fits) ∙ sym (ap (counted_at 2) e) ∙ g)

-- how many octets they have
pub parts_fit : (body : List ℕ) (p : Principal) (numbers key rest : List ℕ) → IsOctets body → principal_at 2 body ≡ Ok (p, numbers) → 11 ≤ length numbers
    → counted_at 2 (drop 11 numbers) ≡ Ok (key, rest)
    → (length body - length numbers + 13 + length key + length rest ≡ length body)
    × (4 + length p.realm + length (flat_map (counted_octets 2) p.components) ≡ length body - length numbers)
parts_fit body p numbers key rest small g long h =
    let t = (principal_reading 2 wide2).takes body p numbers small g in
    let all = principal_length body p numbers small g in
    let behind = key_length (drop 11 numbers) key rest (IsOctets-drop 11 numbers t.0.rest_fits) h in
    (omega (arith, all, long, behind, length-drop 11 numbers), omega (arith, all))

-- ---- components

pub component_more : (at : ℕ) (cs : List (List ℕ)) (c : List ℕ)
    → component_places at (cs ++ c ∷ []) ≡ component_places at cs ++ place_at (at + length (flat_map (counted_octets 2) cs) + 2) (length c) ∷ []
component_more at [] c = ap (λ (n : ℕ). place_at n (length c) ∷ []) (omega arith)
component_more at (d ∷ ds) c =
    let counted : length (counted_octets 2 d) ≡ 2 + length d = omega (arith, length-append (big_bytes 2 (length d)) d, length-bytes_high_first 2 (length d)) in
    let all : length (flat_map (counted_octets 2) (d ∷ ds)) ≡ 2 + length d + length (flat_map (counted_octets 2) ds) =
    ap length (flat_map-cons (counted_octets 2) d ds) ∙ omega (arith, counted, length-append (counted_octets 2 d) (flat_map (counted_octets 2) ds)) in
    let same : at + 2 + length d + length (flat_map (counted_octets 2) ds) + 2 ≡ at + length (flat_map (counted_octets 2) (d ∷ ds)) + 2 = omega (arith, all) in
    ap (λ (l : List (Option Place)). place_at (at + 2) (length d) ∷ l)
    (component_more (at + 2 + length d) ds c ∙ ap (λ (n : ℕ). component_places (at + 2 + length d) ds ++ place_at n (length c) ∷ []) same)

pub flat_more : (cs : List (List ℕ)) (c : List ℕ)
    → length (flat_map (counted_octets 2) (cs ++ c ∷ [])) ≡ length (flat_map (counted_octets 2) cs) + 2 + length c
flat_more cs c =
    let one : length (flat_map (counted_octets 2) (c ∷ [])) ≡ 2 + length c =
    ap length (flat_map-cons (counted_octets 2) c [])
    ∙ omega (arith, length-append (counted_octets 2 c) (flat_map (counted_octets 2) []), length-append (big_bytes 2 (length c)) c, length-bytes_high_first 2 (length c)) in
    ap length (flat_map-append (counted_octets 2) cs (c ∷ [])) ∙ omega (arith, one, length-append (flat_map (counted_octets 2) cs) (flat_map (counted_octets 2) (c ∷ [])))

-- octets that are lent, as they are
abbrev pub seen : List (Bor (List ℕ)) → List (List ℕ)
seen xs = map (λ x. x.now) xs

-- the octets of components, with their lengths
abbrev pub counted : List (List ℕ) → List ℕ
counted cs = flat_map (counted_octets 2) cs

one_counted : (c : List ℕ) → length (counted_octets 2 c) ≡ 2 + length c
one_counted c = omega (arith, length-append (big_bytes 2 (length c)) c, length-bytes_high_first 2 (length c))

-- a component more has room
pub component_fits : (xs : List (Bor (List ℕ))) (i : ℕ) (d : Bor (List ℕ)) → i < length xs
    → length (counted (seen (take i xs))) + 2 + length (get_or xs i d).now ≤ length (counted (seen xs))
component_fits xs i d less =
    let f : Bor (List ℕ) → List ℕ = λ x. x.now in
    let room : i < length (seen xs) = omega (arith, less, length-map xs f) in
    let front : take i (seen xs) ≡ seen (take i xs) = take-map f i xs in
    let here : get_or (seen xs) i d.now ≡ (get_or xs i d).now = get_or-map f xs i d d.now less in
    let within : length (counted (take i (seen xs))) + length (counted_octets 2 (get_or (seen xs) i d.now)) ≤ length (counted (seen xs)) =
    length-flat_map-take {X = List ℕ} {Y = ℕ} (counted_octets 2) (seen xs) i d.now room in
    omega (
      arith,
      within,
      ap (λ (l : List (List ℕ)). length (counted l)) front,
      ap (λ (c : List ℕ). length (counted_octets 2 c)) here,
      one_counted (get_or xs i d).now,
    )

-- a component more
pub component_step : (first at i : ℕ) (xs : List (Bor (List ℕ))) (d : Bor (List ℕ)) (old between new : List (Option Place)) → i < length xs
    → between ≡ old ++ component_places first (seen (take i xs)) → at ≡ first + length (counted (seen (take i xs)))
    → new ≡ between ++ place_at (at + 2) (length (get_or xs i d).now) ∷ []
    → (new ≡ old ++ component_places first (seen (take (i + 1) xs)))
    × (at + 2 + length (get_or xs i d).now ≡ first + length (counted (seen (take (i + 1) xs))))
component_step first at i xs d old between new less so_far here more =
    let f : Bor (List ℕ) → List ℕ = λ x. x.now in
    let c = (get_or xs i d).now in
    let front = seen (take i xs) in
    let grown : seen (take (i + 1) xs) ≡ front ++ c ∷ [] = map_more f xs i d less in
    let place : place_at (at + 2) (length c) ≡ place_at (first + length (counted front) + 2) (length c) = ap (λ (n : ℕ). place_at (n + 2) (length c)) here in (
      more ∙ ap (λ (l : List (Option Place)). l ++ place_at (at + 2) (length c) ∷ []) so_far ∙ append_assoc old (component_places first front) (place_at (at + 2) (length c) ∷ [])
          ∙ ap (λ (p : Option Place). old ++ (component_places first front ++ p ∷ [])) place
          ∙ ap (λ (l : List (Option Place)). old ++ l) (sym (component_more first front c) ∙ ap (component_places first) (sym grown)),
      omega (arith, here, flat_more front c, ap (λ (l : List (List ℕ)). length (counted l)) grown),
    )

-- ---- records

-- the places of the parts of such fields
pub entry_told : (at : ℕ) (p : EntryParts) (f : Fields) (rest : List ℕ) → IsPartsOf p f rest
    → parts_places at p.principal_size p.realm.now p.components p.key.now p.rest.now ≡ entry_places at f rest
entry_told at p f rest h = rw (h.size, h.realm, h.components, h.key, h.rest) refl

one_placed : (at : ℕ) (r : Record) (rs : List Record) (cur new : List (Option Place)) → FitsRecord r → adds_content (at + 4) (content_of r) cur new
    → new ++ records_places (at + length (record_octets r)) rs ≡ cur ++ records_places at (r ∷ rs)
one_placed at (live f rest) rs cur new fits told =
    let others = records_places (at + length (record_octets (live f rest))) rs in
    ap (λ (l : List (Option Place)). l ++ others) (told f rest fits.0 refl) ∙ append_assoc cur (entry_places (at + 4) f rest) others
one_placed at (hole octets) rs cur new fits told =
    ap (λ (l : List (Option Place)). l ++ records_places (at + length (record_octets (hole octets))) rs) told

first_of : (rest : List ℕ) (r : Record) (rs : List Record) (end : List ℕ) → rest ≡ flat_map record_octets (r ∷ rs) ++ end
    → rest ≡ record_octets r ++ (flat_map record_octets rs ++ end)
first_of rest r rs end e =
    e ∙ ap (λ (l : List ℕ). l ++ end) (flat_map-cons record_octets r rs) ∙ append_assoc (record_octets r) (flat_map record_octets rs) end

-- a record more, of those that are left
pub records_step : (at : ℕ) (p : RecordPart) (rest : List ℕ) (left : List Record) (end : List ℕ) (cur new target : List (Option Place))
    → (IsEnd rest → ⊥) → ((r : Record) (tail : List ℕ) → FitsRecord r → rest ≡ record_octets r ++ tail → IsPart p r tail)
    → adds_content (at + 4) (option_copied p.content) cur new → AllByRecursion FitsRecord left → IsEnd end → rest ≡ flat_map record_octets left ++ end
    → cur ++ records_places at left ≡ target
    → (x : List Record) × AllByRecursion FitsRecord x × (p.behind.now ≡ flat_map record_octets x ++ end)
    × (new ++ records_places (at + (length rest - length p.behind.now)) x ≡ target)
records_step at p rest [] end cur new target goes found adds fits ends e placed = absurd (goes (subst IsEnd (sym e) ends))
records_step at p rest (r ∷ rs) end cur new target goes found adds fits ends e placed =
    let tail = flat_map record_octets rs ++ end in
    let grouped = first_of rest r rs end e in
    let part = found r tail fits.0 grouped in
    let size : length rest - length p.behind.now ≡ length (record_octets r) =
    omega (arith, ap length grouped, length-append (record_octets r) tail, ap length part.1) in
    let told = subst (λ (o : Option (List ℕ)). adds_content (at + 4) o cur new) part.0 adds in
    (rs, fits.1, part.1, ap (λ (n : ℕ). new ++ records_places (at + n) rs) size ∙ one_placed at r rs cur new fits.0 told ∙ placed)

-- none is left where none is found
pub records_end : (at : ℕ) (rest : List ℕ) (left : List Record) (end : List ℕ) (cur target : List (Option Place))
    → ((r : Record) (tail : List ℕ) → FitsRecord r → rest ≡ record_octets r ++ tail → ⊥) → AllByRecursion FitsRecord left
    → rest ≡ flat_map record_octets left ++ end → cur ++ records_places at left ≡ target → cur ≡ target
records_end at rest [] end cur target none fits e placed = sym (append-nil cur) ∙ placed
records_end at rest (r ∷ rs) end cur target none fits e placed =
    absurd (none r (flat_map record_octets rs ++ end) fits.0 (first_of rest r rs end e))
