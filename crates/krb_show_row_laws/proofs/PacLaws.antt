-- A PAC, shown as its buffers, or as its entries and its octets, and octets that are no PAC, tell the octets (MS-PAC, 2.3).
use Rattle.krb_show_row_laws.proofs.SplitLaws.{tail}
use Rattle.std.proofs.Common.{◌≡◌, ℕ, Bool, false, zero, suc, ◌<◌, ◌+◌, ◌*◌, ◌^◌, true, inl, inr, refl, sym, ap, subst, ◌∙◌, List, [], ◌∷◌, ◌++◌, drop, codes, pos, arith}
use Rattle.std.specs.List.{AllByRecursion}
use Rattle.byteorder.specs.Endian.{little_from}
use Rattle.krb_der_core.specs.Encoding.{IsOctets}
use Rattle.krb_registry.specs.declared.kind.Kind.TheVariants.{PacBufferType}
use Rattle.krb_pac.specs.Numbered.{AreNumbered, NumberedBuffer, NumberedPacIs}
use Rattle.krb_pac.specs.declared.numbered.NumberedInfoBuffer.{NumberedInfoBuffer}
use Rattle.krb_show.specs.Leaves.{number_of, octets_of}
use Rattle.krb_show_text.specs.Text.{octets_text}
use Rattle.krb_show_text.specs.Text.{page_lines}
use Rattle.krb_show.specs.Tokens.{Label, Token, of_kind, plain}
use Rattle.krb_show_messages.specs.Pac.{buffer_of, buffers_of, entries_of, entry_of, has_key, held_octets_of, holds_key, other_of, pac_of, plain_octets}
use Rattle.krb_show_row_laws.specs.Telling.{is_name}
use Rattle.krb_show_row_laws.specs.Blocks.{Follow, HasHead, Heads, Tells, TellsValues, IsStruct, IsList, IsLeaf}
use Rattle.krb_show_row_laws.proofs.BlockLaws.{head_blocks}
use Rattle.krb_show_row_laws.proofs.FieldLaws.{◌and◌, one_head, tells_so}
use Rattle.krb_show_row_laws.proofs.LeafLaws.{IsOctetsText, Lines, octets_line, secret_line, tells_leaf, tells_naturals, tells_octets, tells_unsigned}
use Rattle.krb_show_row_laws.proofs.WordLaws.{one_octets}
use Rattle.krb_show_row_laws.proofs.EitherLaws.{IsEither, head_so, list_no_other}
use Rattle.krb_show_row_laws.proofs.FirstLaws.{list_no_leaf, struct_no_leaf}
use Rattle.krb_show_row_laws.proofs.StructLaws.{list_heads, struct_heads, tells_list, tells_struct, tells_structs}
use Rattle.krb_show_row_laws.proofs.ChecksumLaws.{dropped_octets, little_shift, taken_octets}

-- ---- what the parts of a PAC are

no_number : (i n : ℕ) → little_from i n [] ≡ 0
no_number i zero = refl
no_number i (suc n) = let rest = no_number (suc i) n in omega (arith, rest)

some_power : (n : ℕ) → 0 < 256 ^ n
some_power zero = omega arith
some_power (suc n) = omega (arith, some_power n)

nothing_below : (n : ℕ) → little_from 0 n [] < 256 ^ n
nothing_below n = omega (arith, no_number 0 n, some_power n)

little_bound : (n : ℕ) (xs : List ℕ) → IsOctets xs → little_from 0 n xs < 256 ^ n
little_bound zero xs h = omega arith
little_bound (suc n) [] h = nothing_below (suc n)
little_bound (suc n) (x ∷ xs) h = let rest = little_bound n xs (λ i. h (suc i)) in omega (arith, h 0, rest, little_shift 0 n x xs)

abbrev pub IsEntry : NumberedInfoBuffer → Type 0
IsEntry i = i.offset < 2 ^ 64

abbrev pub IsBuffer : NumberedBuffer → Type 0
IsBuffer p = IsEntry p.info × IsOctets p.octets

buffers_are : (octets : List ℕ) (i : ℕ) (pac : List NumberedBuffer) → IsOctets octets → AreNumbered octets i pac → AllByRecursion IsBuffer pac
buffers_are octets i [] h b = tt
buffers_are octets i (p ∷ pac) h b = (
  (
    subst (λ n. n < 2 ^ 64) b.0.entry.offset (little_bound 8 (drop (8 + 16 * i + 8) octets) (dropped_octets (8 + 16 * i + 8) octets h)),
    subst IsOctets (sym b.0.named) (taken_octets p.info.cb_buffer_size (drop p.info.offset octets) (dropped_octets p.info.offset octets h)),
  ),
  buffers_are octets (suc i) pac h b.1,
)

entries_are : (pac : List NumberedBuffer) → AllByRecursion IsBuffer pac → AllByRecursion IsEntry (entries_of pac)
entries_are [] h = tt
entries_are (p ∷ pac) h = (h.0.0, entries_are pac h.1)

-- ---- and that they are told

abbrev entry_from : ℕ → ℕ → ℕ → NumberedInfoBuffer
entry_from k size at = record { ul_type = k; cb_buffer_size = size; offset = at }

same_entry : (i j : NumberedInfoBuffer) → i.ul_type ≡ j.ul_type → i.cb_buffer_size ≡ j.cb_buffer_size → i.offset ≡ j.offset → i ≡ j
same_entry i j k s o =
    ap (λ (x : ℕ). entry_from x i.cb_buffer_size i.offset) k
    ∙ ap (λ (x : ℕ). entry_from j.ul_type x i.offset) s ∙ ap (λ (x : ℕ). entry_from j.ul_type j.cb_buffer_size x) o

abbrev buffer_from : NumberedInfoBuffer → List ℕ → NumberedBuffer
buffer_from i octets = record { info = i; octets = octets }

numbers : TellsValues (λ (n : ℕ). Unit {0}) IsLeaf (λ label n. number_of label (pos n))
numbers = tells_naturals

-- octets that hold a key, and others, have the same text
held_line : (b : Bool) (label : Label) (xs : List ℕ) → Lines label.text (IsOctetsText xs) (held_octets_of b label xs)
held_line true label xs = secret_line label xs
held_line false label xs = octets_line label xs

tells_held : (b c : Bool) (label : Label) (xs ys : List ℕ) → is_name label.text ≡ true → IsOctets xs → IsOctets ys
    → Tells (λ names. label.text ∷ []) (λ names. true) (Unit {0}) (xs ≡ ys) (held_octets_of b label xs) (held_octets_of c label ys)
tells_held b c label xs ys name h k =
    tells_leaf label.text (IsOctetsText xs) (IsOctetsText ys) (held_octets_of b label xs) (held_octets_of c label ys) name
    (λ s e. (octets_text xs, e)) (λ s e. (octets_text ys, e)) (held_line b label xs) (held_line c label ys)
    (λ s e f. one_octets xs ys h k (tail _ _ _ _ (tail _ _ _ _ (sym e ∙ f))))

pub tells_entries : TellsValues IsEntry IsStruct entry_of
tells_entries = tells_structs (λ i j h k.
    numbers.tells (of_kind (codes "ulType") PacBufferType) i.ul_type j.ul_type refl tt tt
    and numbers.tells (plain (codes "cbBufferSize")) i.cb_buffer_size j.cb_buffer_size refl tt tt
    and tells_unsigned.tells (plain (codes "Offset")) i.offset j.offset refl h k)
    refl (λ i j p. same_entry i j p.0.0 p.0.1 p.1)

pub tells_buffers : TellsValues IsBuffer IsStruct buffer_of
tells_buffers = tells_structs (λ p q h k.
    numbers.tells (of_kind (codes "ulType") PacBufferType) p.info.ul_type q.info.ul_type refl tt tt
    and numbers.tells (plain (codes "cbBufferSize")) p.info.cb_buffer_size q.info.cb_buffer_size refl tt tt
    and tells_unsigned.tells (plain (codes "Offset")) p.info.offset q.info.offset refl h.0 k.0
    and tells_held (holds_key p.info.ul_type) (holds_key q.info.ul_type) (of_kind (codes "buffer") PacBufferType) p.octets q.octets refl h.1 k.1)
    refl (λ p q e. ap (λ (i : NumberedInfoBuffer). buffer_from i p.octets) (same_entry p.info q.info e.0.0.0 e.0.0.1 e.0.1)
    ∙ ap (λ (l : List ℕ). buffer_from q.info l) e.1)

tells_other : (label : Label) (octets others : List ℕ) (pac qac : List NumberedBuffer) → is_name label.text ≡ true → IsOctets octets → IsOctets others
    → AllByRecursion IsBuffer pac → AllByRecursion IsBuffer qac
    → Tells (λ names. label.text ∷ []) (λ names. true) (Unit {0}) (octets ≡ others) (other_of label octets pac) (other_of label others qac)
tells_other label octets others pac qac name h k p q =
    tells_so (λ u. u) (λ e. e.1) (tells_struct label name (
    (tells_list tells_entries).tells (plain (codes "buffers")) (entries_of pac) (entries_of qac) refl (entries_are pac p) (entries_are qac q)
    and tells_held (has_key pac) (has_key qac) (plain (codes "octets")) octets others refl h k) refl)

other_heads : (label : Label) (octets : List ℕ) (pac : List NumberedBuffer) → is_name label.text ≡ true → IsOctets octets → AllByRecursion IsBuffer pac
    → Heads label.text IsStruct (other_of label octets pac)
other_heads label octets pac name h p = struct_heads label (
    (tells_list tells_entries).tells (plain (codes "buffers")) (entries_of pac) (entries_of pac) refl (entries_are pac p) (entries_are pac p)
    and tells_held (has_key pac) (has_key pac) (plain (codes "octets")) octets octets refl h h).left

-- ---- octets that are a PAC, or none

abbrev pub IsPacHead : List ℕ → Type 0
IsPacHead = IsEither IsList (IsEither IsStruct IsLeaf)

pac_heads : (label : Label) (octets : List ℕ) → is_name label.text ≡ true → IsOctets octets → Heads label.text IsPacHead (pac_of label octets)
pac_heads label octets name h = record { head = head_of }
  where
    head_of : (old new : List Token) → pac_of label octets old new → HasHead label.text IsPacHead old new
    head_of old new (inl (pac, x, inl (e, a))) = head_so (λ s v. inl v) ((list_heads tells_buffers label name pac (buffers_are octets 0 pac h x.buffers)).head
        old new a)
    head_of old new (inl (pac, x, inr (e, a))) = head_so (λ s v. inr (inl v))
        ((other_heads label octets pac name h (buffers_are octets 0 pac h x.buffers)).head old new a)
    head_of old new (inr (none, a)) = head_so (λ s v. inr (inr v)) ((tells_octets.heads label octets name h).head old new a)

struct_no_list : (s : List ℕ) → IsStruct s → IsList s → ⊥
struct_no_list s e l = list_no_other s l (inl e)

module _ (label : Label) (octets others : List ℕ) (name : is_name label.text ≡ true) (h : IsOctets octets) (k : IsOctets others) where
  are : (pac : List NumberedBuffer) → NumberedPacIs octets pac → AllByRecursion IsBuffer pac
  are pac x = buffers_are octets 0 pac h x.buffers

  are_too : (qac : List NumberedBuffer) → NumberedPacIs others qac → AllByRecursion IsBuffer qac
  are_too qac y = buffers_are others 0 qac k y.buffers

  tell : (old before ts us : List Token) → pac_of label octets old (old ++ ts) → pac_of label others before (before ++ us) → Unit {0}
      → (names : List (List ℕ)) (d : ℕ) (rest following : List (List ℕ)) → true ≡ true → Follow names d rest → Follow names d following
      → page_lines d ts ++ rest ≡ page_lines d us ++ following → (octets ≡ others) × (rest ≡ following)
  tell old before ts us (inl (pac, x, inl (e, a))) (inl (qac, y, inl (f, b))) known names d rest following fit m o same =
      let both = ((tells_list tells_buffers).tells label pac qac name (are pac x) (are_too qac y)).tells old before ts us a b known names d rest following fit m
      o same in
      (e ∙ ap plain_octets both.0 ∙ sym f, both.1)
  tell old before ts us (inl (pac, x, inl (e, a))) (inl (qac, y, inr (f, b))) known names d rest following fit m o same =
      let both = one_head label.text IsList IsStruct (buffers_of label pac) (other_of label others qac) (list_heads tells_buffers label name pac (are pac x))
      (other_heads label others qac name k (are_too qac y)) old before ts us a b d rest following same in absurd (struct_no_list both.0 both.2 both.1)
  tell old before ts us (inl (pac, x, inl (e, a))) (inr (none, b)) known names d rest following fit m o same =
      let both = one_head label.text IsList IsLeaf (buffers_of label pac) (octets_of label others) (list_heads tells_buffers label name pac (are pac x))
      (tells_octets.heads label others name k) old before ts us a b d rest following same in absurd (list_no_leaf both.0 both.1 both.2)
  tell old before ts us (inl (pac, x, inr (e, a))) (inl (qac, y, inl (f, b))) known names d rest following fit m o same =
      let both = one_head label.text IsStruct IsList (other_of label octets pac) (buffers_of label qac) (other_heads label octets pac name h (are pac x))
      (list_heads tells_buffers label name qac (are_too qac y)) old before ts us a b d rest following same in absurd (struct_no_list both.0 both.1 both.2)
  tell old before ts us (inl (pac, x, inr (e, a))) (inl (qac, y, inr (f, b))) known names d rest following fit m o same =
      (tells_other label octets others pac qac name h k (are pac x) (are_too qac y)).tells old before ts us a b known names d rest following fit m o same
  tell old before ts us (inl (pac, x, inr (e, a))) (inr (none, b)) known names d rest following fit m o same =
      let both = one_head label.text IsStruct IsLeaf (other_of label octets pac) (octets_of label others) (other_heads label octets pac name h (are pac x))
      (tells_octets.heads label others name k) old before ts us a b d rest following same in absurd (struct_no_leaf both.0 both.1 both.2)
  tell old before ts us (inr (none, a)) (inl (qac, y, inl (f, b))) known names d rest following fit m o same =
      let both = one_head label.text IsLeaf IsList (octets_of label octets) (buffers_of label qac) (tells_octets.heads label octets name h)
      (list_heads tells_buffers label name qac (are_too qac y)) old before ts us a b d rest following same in absurd (list_no_leaf both.0 both.2 both.1)
  tell old before ts us (inr (none, a)) (inl (qac, y, inr (f, b))) known names d rest following fit m o same =
      let both = one_head label.text IsLeaf IsStruct (octets_of label octets) (other_of label others qac) (tells_octets.heads label octets name h)
      (other_heads label others qac name k (are_too qac y)) old before ts us a b d rest following same in absurd (struct_no_leaf both.0 both.2 both.1)
  tell old before ts us (inr (none, a)) (inr (nothing, b)) known names d rest following fit m o same =
      (tells_octets.tells label octets others name h k).tells old before ts us a b known names d rest following fit m o same

  told : Tells (λ names. label.text ∷ []) (λ names. true) (Unit {0}) (octets ≡ others) (pac_of label octets) (pac_of label others)
  told = record {
    left = head_blocks label.text IsPacHead (pac_of label octets) name (pac_heads label octets name h);
    right = head_blocks label.text IsPacHead (pac_of label others) name (pac_heads label others name k);
    tells = tell;
  }

pub tells_pac : TellsValues IsOctets IsPacHead pac_of
tells_pac = record { heads = pac_heads; tells = told }
