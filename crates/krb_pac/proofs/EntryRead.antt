-- An entry out of a reader, field by field.
use Rattle.std.proofs.Common.{◌≡◌, ℕ, List, length, drop, Option, Some, None, IfSome, sym, ap, refl, ◌++◌, ◌∙◌, length-append, length-drop, drop_at, arith}
use lib.Seq.{drop-append-le}
use Rattle.std.specs.Io.KnownBytes.{Consumes}
use Rattle.byteorder.specs.Numbers.{little_from-append}
use Rattle.std.proofs.lemmas.List.{drop-drop}
use Rattle.byteorder.specs.Endian.{little_number, ReadsNumber}
use Rattle.krb_pac.specs.Kind.{code}
use Rattle.krb_pac.specs.Layout.{EntryAt, entry_of_type}
use Rattle.krb_pac.specs.OnePac.{same_entry}
use Rattle.krb_pac.specs.declared.kind.PacBufferType.{PacBufferType}
use Rattle.krb_pac.specs.Entry.{Entry}

pub entry_of : (o1 o2 o3 o4 : Option (List ℕ)) (k : PacBufferType) (n s p : ℕ) → ReadsNumber little_number 4 o1 o2 n → code k ≡ n
    → ReadsNumber little_number 4 o2 o3 s → ReadsNumber little_number 8 o3 o4 p
    → IfSome o1 (λ f. EntryAt f 0 (record { ul_type = k; cb_buffer_size = s; offset = p }) × (o4 ≡ Some (drop 16 f)))
entry_of None o2 o3 o4 k n s p x e y z = tt
entry_of (Some a) None o3 o4 k n s p x e y z = absurd x
entry_of (Some a) (Some b) None o4 k n s p x e y z = absurd y
entry_of (Some a) (Some b) (Some c) None k n s p x e y z = absurd z
entry_of (Some a) (Some b) (Some c) (Some d) k n s p x e y z =
    let two : c ≡ drop 8 a = y.2 ∙ ap (drop 4) x.2 ∙ drop-drop 4 4 a in
    let all : d ≡ drop 16 a = z.2 ∙ ap (drop 8) two ∙ drop-drop 8 8 a in
    let r1 = x.0 in
    let r3 = z.0 in
    let l1 = ap length two in
    let l2 = length-drop 8 a in (
      record {
        room = omega arith;
        kind = sym x.1 ∙ sym e;
        size = ap (little_number 4) (sym x.2) ∙ sym y.1;
        offset = ap (little_number 8) (sym two) ∙ sym z.1;
      },
      ap (λ (w : List ℕ). Some w) all,
    )

-- an entry that was read field by field is the only one
pub only_read : (o1 o2 o3 o4 : Option (List ℕ)) (k : PacBufferType) (n s p : ℕ) (i : Entry) → i ≡ record { ul_type = k; cb_buffer_size = s; offset = p }
    → ReadsNumber little_number 4 o1 o2 n → code k ≡ n → ReadsNumber little_number 4 o2 o3 s → ReadsNumber little_number 8 o3 o4 p
    → IfSome o1 (λ f. (e : Entry) → EntryAt f 0 e → i ≡ e)
only_read None o2 o3 o4 k n s p i same x e y z = tt
only_read (Some f) o2 o3 o4 k n s p i same x e y z = λ j at. same ∙ same_entry f 0 (record { ul_type = k; cb_buffer_size = s; offset = p }) j (entry_of (Some f) o2 o3 o4 k n s p x e y z).0 at

-- a reader that has given four octets more
abbrev pub after_four : Option (List ℕ) → Option (List ℕ)
after_four None = None
after_four (Some xs) = Some (drop 4 xs)

-- twelve octets are a number of four and one of eight
pub size_and_offset : (a b : Option (List ℕ)) (rest : List ℕ) → length rest ≡ 12 → Consumes a b rest
    → ReadsNumber little_number 4 a (after_four a) (little_number 4 rest) × ReadsNumber little_number 8 (after_four a) b (little_number 8 (drop 4 rest))
size_and_offset None b rest long h = (tt, tt)
size_and_offset (Some xs) None rest long h = absurd h
size_and_offset (Some xs) (Some ys) rest long h =
    let total = ap length h ∙ length-append rest ys in
    let left : drop 4 xs ≡ drop 4 rest ++ ys = ap (drop 4) h ∙ drop-append-le 4 rest ys (omega arith) in
    let eight : length (drop 4 rest) ≡ 8 = omega (arith, length-drop 4 rest) in
    let size : little_number 4 xs ≡ little_number 4 rest = ap (little_number 4) h ∙ little_from-append 4 rest ys (omega arith) in
    let offset : little_number 8 (drop 4 xs) ≡ little_number 8 (drop 4 rest) = ap (little_number 8) left ∙ little_from-append 8 (drop 4 rest) ys (omega arith) in
    ((omega arith, sym size, refl), (omega (arith, length-drop 4 xs), sym offset, sym (ap (drop 8) left ∙ drop_at (drop 4 rest) ys 8 eight)))

-- an entry that was read field by field
pub entry_read : (a b c : Option (List ℕ)) (k : PacBufferType) (n : ℕ) (rest : List ℕ) → length rest ≡ 12 → ReadsNumber little_number 4 a b n → code k ≡ n
    → Consumes b c rest → IfSome a (λ f. EntryAt f 0 (entry_of_type k rest) × (c ≡ Some (drop 16 f)))
entry_read a b c k n rest long x e y =
    let both = size_and_offset b c rest long y in
    entry_of a b (after_four b) c k n (little_number 4 rest) (little_number 8 (drop 4 rest)) x e both.0 both.1

known_first : {X : Type 0} (P Q : X → Type 0) (a : Option X) → IfSome a (λ x. P x × Q x) → IfSome a P
known_first P Q None h = tt
known_first P Q (Some x) h = h.0

known_second : {X : Type 0} (P Q : X → Type 0) (a : Option X) → IfSome a (λ x. P x × Q x) → IfSome a Q
known_second P Q None h = tt
known_second P Q (Some x) h = h.1

pub entry_found : (a b c : Option (List ℕ)) (k : PacBufferType) (n : ℕ) (rest : List ℕ) (i : Entry) → i ≡ entry_of_type k rest → length rest ≡ 12
    → ReadsNumber little_number 4 a b n
    → code k ≡ n → Consumes b c rest → IfSome a (λ f. EntryAt f 0 i)
entry_found a b c k n rest i same long x e y =
    rw same (known_first (λ f. EntryAt f 0 (entry_of_type k rest)) (λ f. c ≡ Some (drop 16 f)) a (entry_read a b c k n rest long x e y))

pub entry_passed : (a b c : Option (List ℕ)) (k : PacBufferType) (n : ℕ) (rest : List ℕ) → length rest ≡ 12 → ReadsNumber little_number 4 a b n
    → code k ≡ n → Consumes b c rest → IfSome a (λ f. c ≡ Some (drop 16 f))
entry_passed a b c k n rest long x e y =
    known_second (λ f. EntryAt f 0 (entry_of_type k rest)) (λ f. c ≡ Some (drop 16 f)) a (entry_read a b c k n rest long x e y)

pub only_entry : (a b c : Option (List ℕ)) (k : PacBufferType) (n : ℕ) (rest : List ℕ) (i : Entry) → i ≡ entry_of_type k rest → length rest ≡ 12
    → ReadsNumber little_number 4 a b n
    → code k ≡ n → Consumes b c rest → IfSome a (λ f. (e : Entry) → EntryAt f 0 e → i ≡ e)
only_entry a b c k n rest i same long x e y =
    let both = size_and_offset b c rest long y in
    only_read a b (after_four b) c k n (little_number 4 rest) (little_number 8 (drop 4 rest)) i same x e both.0 both.1
