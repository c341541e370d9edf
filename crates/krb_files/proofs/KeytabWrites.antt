-- What is written is a keytab of the same entries, and a keytab of plain records is written as it was.
use Rattle.std.proofs.Common.{◌≡◌, ℕ, ◌%◌, ◌^◌, ◌<◌, ◌≤◌, ◌⊎◌, inl, inr, Bool, true, false, cond, eqb, List, [], ◌∷◌, ◌++◌, length, map, take, get_or, refl, sym, ap, subst, ◌∙◌, arith}
use Rattle.std.specs.List.{flat_map, AllByRecursion}
use Rattle.std.proofs.lemmas.Bool.{eqb-true}
use Rattle.std.proofs.lemmas.List.{append-nil, take_all}
use Rattle.std.proofs.lemmas.Grind.{flat_map-append}
use Rattle.std.proofs.lemmas.List.Concat.{flat_map-cons}
use Rattle.std.proofs.lemmas.List.Elements.{All-from_recursion}
use Rattle.byteorder.specs.Endian.{big_number, big_bytes}
use Rattle.byteorder.specs.Numbers.{big_number-reads_back}
use Rattle.krb_files.specs.Entry.{Entry}
use Rattle.krb_files.specs.Keytab.{Fields, Record, live, hole, entry_of, entries_of, kvno_of, record_octets, FitsRecord, KeytabIs}
use Rattle.krb_files.specs.KeytabWritten.{written_fields, written_record, entry_octets, FitsEntry, keytab_octets, IsPlain}

-- the version of 32 bits, whatever that of 8 bits is, where both are of one number
chosen : (k : ℕ) (s : Bool) → eqb k 0 ≡ s → cond s (k % 256) k ≡ k
chosen k true e = let none : k ≡ 0 = eqb-true _ _ e in rw none refl
chosen k false e = refl

kvno_again : (k : ℕ) → k < 2 ^ 32 → kvno_of (k % 256) (big_bytes 4 k) ≡ k
kvno_again k lt =
    let number : big_number 4 (big_bytes 4 k) ≡ k = ap (big_number 4) (sym (append-nil (big_bytes 4 k))) ∙ big_number-reads_back 4 k [] (omega arith) in
    rw number (chosen k (eqb k 0) refl)

entry_again : (e : Entry) → e.kvno < 2 ^ 32 → entry_of (written_fields e) (big_bytes 4 e.kvno) ≡ e
entry_again e lt = ap (λ (k : ℕ). record e { kvno = k }) (kvno_again e.kvno lt)

entries_again : (es : List Entry) → AllByRecursion FitsEntry es → entries_of (map written_record es) ≡ es
entries_again [] fits = refl
entries_again (e ∷ es) fits =
    ap (λ (x : Entry). x ∷ entries_of (map written_record es)) (entry_again e fits.0.1) ∙ ap (λ (l : List Entry). e ∷ l) (entries_again es fits.1)

records_fit : (es : List Entry) → AllByRecursion FitsEntry es → AllByRecursion FitsRecord (map written_record es)
records_fit [] fits = tt
records_fit (e ∷ es) fits = (fits.0.0, records_fit es fits.1)

same_octets : (es : List Entry) → flat_map record_octets (map written_record es) ≡ flat_map entry_octets es
same_octets [] = refl
same_octets (e ∷ es) =
    flat_map-cons record_octets (written_record e) (map written_record es) ∙ ap (λ (l : List ℕ). entry_octets e ++ l) (same_octets es) ∙ sym (flat_map-cons entry_octets e es)

pub written_is : (b : List ℕ) (es : List Entry) → b ≡ keytab_octets es → AllByRecursion FitsEntry es → KeytabIs b es
written_is b es h fits = record {
  records = map written_record es;
  end = [];
  octets = h ∙ ap (λ (l : List ℕ). 5 ∷ 2 ∷ l) (sym (same_octets es) ∙ sym (append-nil (flat_map record_octets (map written_record es))));
  ends = inl refl;
  fits = records_fit es fits;
  shown = entries_again es fits;
}

-- what of the first i is true of all, where there are no more
pub written_all : {X : Type 0} (f : X → Entry) (b : List ℕ) (xs : List X) (i : ℕ) → length xs ≤ i → b ≡ keytab_octets (map f (take i xs)) → AllByRecursion FitsEntry (map f (take i xs))
    → KeytabIs b (map f xs)
written_all f b xs i le h fits =
    let all : take i xs ≡ xs = take_all i xs le in
    subst (λ l. KeytabIs b (map f l)) all (written_is b (map f (take i xs)) h fits)

under : {X Y : Type 0} (P : Y → Type 0) (f : X → Y) (xs : List X) → AllByRecursion P (map f xs) → AllByRecursion (λ x. P (f x)) xs
under P f [] h = tt
under P f (x ∷ xs) h = (h.0, under P f xs h.1)

-- where one is refused, not all fit
pub refused : {X E : Type 0} (f : X → Entry) (xs : List X) (i : ℕ) (d : X) (e m t : E) → i < length xs → (e ≡ m) ⊎ ((e ≡ t) × (FitsEntry (f (get_or xs i d)) → ⊥))
    → (e ≡ m) ⊎ ((e ≡ t) × (AllByRecursion FitsEntry (map f xs) → ⊥))
refused f xs i d e m t lt (inl h) = inl h
refused f xs i d e m t lt (inr h) = inr (h.0, λ all. h.1 (All-from_recursion (λ x. FitsEntry (f x)) xs (under FitsEntry f xs all) i d lt))

-- ---- records as they are written

plain_record : (r : Record) → IsPlain r → record_octets r ≡ flat_map entry_octets (entries_of (r ∷ []))
plain_record (live f rest) p =
    let k = p.0 in
    let version : kvno_of f.short_kvno rest ≡ k = rw (p.2, p.3) (kvno_again k p.1) in
    let fields : f ≡ written_fields (entry_of f rest) = ap (λ (n : ℕ). record f { short_kvno = n }) (p.2 ∙ ap (λ (n : ℕ). n % 256) (sym version)) in
    let behind : rest ≡ big_bytes 4 (kvno_of f.short_kvno rest) = p.3 ∙ ap (big_bytes 4) (sym version) in
    ap (λ (g : Fields). record_octets (live g rest)) fields ∙ ap (λ (l : List ℕ). record_octets (live (written_fields (entry_of f rest)) l)) behind
    ∙ sym (append-nil (entry_octets (entry_of f rest)))
plain_record (hole octets) p = absurd p

plain_records : (rs : List Record) → AllByRecursion IsPlain rs → flat_map entry_octets (entries_of rs) ≡ flat_map record_octets rs
plain_records [] p = refl
plain_records (live f rest ∷ rs) p =
    let one : record_octets (live f rest) ≡ entry_octets (entry_of f rest) = plain_record (live f rest) p.0 ∙ append-nil (entry_octets (entry_of f rest)) in
    flat_map-cons entry_octets (entry_of f rest) (entries_of rs) ∙ ap (λ (l : List ℕ). l ++ flat_map entry_octets (entries_of rs)) (sym one)
    ∙ ap (λ (l : List ℕ). record_octets (live f rest) ++ l) (plain_records rs p.1) ∙ sym (flat_map-cons record_octets (live f rest) rs)
plain_records (hole octets ∷ rs) p = absurd p.0

pub written_back : (b : List ℕ) (es : List Entry) (k : KeytabIs b es) → k.end ≡ [] → AllByRecursion IsPlain k.records → keytab_octets es ≡ b
written_back b es k none plain =
    ap keytab_octets (sym k.shown)
    ∙ ap (λ (l : List ℕ). 5 ∷ 2 ∷ l) (plain_records k.records plain ∙ sym (append-nil (flat_map record_octets k.records)) ∙ ap (λ (l : List ℕ). flat_map record_octets k.records ++ l) (sym none))
    ∙ sym k.octets

-- ---- an entry more

entries_more : (rs : List Record) (e : Entry) → e.kvno < 2 ^ 32 → entries_of (rs ++ written_record e ∷ []) ≡ entries_of rs ++ e ∷ []
entries_more [] e lt = ap (λ (x : Entry). x ∷ []) (entry_again e lt)
entries_more (live f rest ∷ rs) e lt = ap (λ (l : List Entry). entry_of f rest ∷ l) (entries_more rs e lt)
entries_more (hole octets ∷ rs) e lt = entries_more rs e lt

last_fits : (rs : List Record) (r : Record) → AllByRecursion FitsRecord rs → FitsRecord r → AllByRecursion FitsRecord (rs ++ r ∷ [])
last_fits [] r all h = (h, tt)
last_fits (x ∷ rs) r all h = (all.0, last_fits rs r all.1 h)

pub appended : (b : List ℕ) (es : List Entry) (e : Entry) (k : KeytabIs b es) → k.end ≡ [] → FitsEntry e → KeytabIs (b ++ entry_octets e) (es ++ e ∷ [])
appended b es e k none fits =
    let front = flat_map record_octets k.records in
    let all : flat_map record_octets (k.records ++ written_record e ∷ []) ≡ front ++ entry_octets e =
    flat_map-append record_octets k.records (written_record e ∷ []) ∙ ap (λ (l : List ℕ). front ++ l) (append-nil (entry_octets e)) in
    let whole : b ≡ 5 ∷ 2 ∷ front = k.octets ∙ ap (λ (l : List ℕ). 5 ∷ 2 ∷ (front ++ l)) none ∙ ap (λ (l : List ℕ). 5 ∷ 2 ∷ l) (append-nil front) in
    record {
      records = k.records ++ written_record e ∷ [];
      end = [];
      octets =
          ap (λ (l : List ℕ). l ++ entry_octets e) whole
          ∙ ap (λ (l : List ℕ). 5 ∷ 2 ∷ l) (sym all ∙ sym (append-nil (flat_map record_octets (k.records ++ written_record e ∷ []))));
      ends = inl refl;
      fits = last_fits k.records (written_record e) k.fits fits.0;
      shown = entries_more k.records e fits.1 ∙ ap (λ (l : List Entry). l ++ e ∷ []) k.shown;
    }
