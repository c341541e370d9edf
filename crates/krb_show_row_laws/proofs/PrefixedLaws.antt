-- A message behind its length, shown by its row, and other octets, tell the octets (MS-KKDCP, 2.2.2).
use Rattle.std.proofs.Common.{◌≡◌, ◌⊎◌, ℕ, ◌<◌, ◌≤◌, ◌+◌, ◌*◌, nat_eq, Bool, true, false, ◌&&◌, if◌then◌else◌, inl, inr, refl, sym, ap, subst, ◌∙◌, pos, List, [], ◌∷◌, ◌++◌, length, take, drop, codes, length-drop, arith}
use Rattle.std.specs.Prelude.{Option, None, Some}
use Rattle.std.proofs.lemmas.Grind.{common_steps}
use Rattle.byteorder.specs.Endian.{big_number}
use Rattle.krb_der_core.specs.Encoding.{IsOctets}
use Rattle.krb_schema.specs.declared.item.Item.{Item}
use Rattle.krb_schema.specs.Named.{row_in}
use Rattle.krb_schema.specs.Types.{cases, fields, shapes, types}
use Rattle.krb_show.specs.Leaves.{octets_of}
use Rattle.krb_show.specs.Pages.{struct_of}
use Rattle.krb_show_text.specs.Text.{page_lines}
use Rattle.krb_show.specs.Tokens.{Label, Token, plain}
use Rattle.krb_show_messages.specs.Formats.{no_formats}
use Rattle.krb_show_messages.specs.Prefixed.{IsPrefixed, by_message_row, by_walk, length_and_items, message_row, prefixed_of}
use Rattle.krb_show.specs.Items.{shown, start}
use Rattle.krb_show.specs.RowWalk.{AreItemsOf, IsShownByRow, IsWalkBy}
use Rattle.krb_show.specs.declared.rows.stand.Secrets.TheVariants as secrets
use Rattle.krb_show.specs.declared.rows.walk.Walk.{Walk}
use Rattle.krb_show.specs.declared.rows.walk.Walk.TheVariants as walks
use Rattle.krb_show_row_laws.specs.Telling.{is_name, other_than}
use Rattle.krb_show_row_laws.specs.Blocks.{Blocks, Follow, HasHead, Heads, IsLeaf, IsStruct, Tells, TellsValues, same_octets}
use Rattle.krb_show_row_laws.specs.Firsts.{Firsts, apart_firsts, of_struct, openings}
use Rattle.krb_show_row_laws.specs.Kerberos.{as_octets}
use Rattle.krb_show_row_laws.proofs.SplitLaws.{and_left, and_right}
use Rattle.krb_show_row_laws.proofs.BlockLaws.{head_blocks}
use Rattle.krb_show_row_laws.proofs.FieldLaws.{◌and◌, one_head, tells_so}
use Rattle.krb_show_row_laws.proofs.StructLaws.{struct_heads, tells_struct}
use Rattle.krb_show_row_laws.proofs.LeafLaws.{tells_numbers, tells_octets}
use Rattle.krb_show_row_laws.proofs.FirstLaws.{among_left, firsts_block, firsts_never, struct_no_leaf, tells_from}
use Rattle.krb_show_row_laws.proofs.Blocked.{blocks_among}
use Rattle.krb_show_row_laws.proofs.EitherLaws.{IsEither, head_so}
use Rattle.krb_show_row_laws.proofs.Kerberos.{kerberos_told}
use Rattle.krb_show_row_laws.proofs.TextLaws.{octets_tell}
use Rattle.krb_show_row_laws.proofs.ShownLaws.{IsStructRow, struct_first, struct_row, struct_told, tells_by_row}
use Rattle.krb_show_row_laws.proofs.ChecksumLaws.{by_parts, dropped_octets}

-- ---- the number of the first four octets, the highest first, tells them

four_high : (a b c d e f g h : ℕ) → a < 256 → b < 256 → c < 256 → d < 256 → e < 256 → f < 256 → g < 256 → h < 256
    → a * 16777216 + (b * 65536 + (c * 256 + (d * 1 + 0))) ≡ e * 16777216 + (f * 65536 + (g * 256 + (h * 1 + 0))) → (a ≡ e) × (b ≡ f) × (c ≡ g) × (d ≡ h)
four_high a b c d e f g h p q r s t u v w same =
    let first : a ≡ e = omega arith in
    let second : b ≡ f = omega arith in
    let third : c ≡ g = omega arith in
    (first, second, third, omega arith)

one_big : (xs ys : List ℕ) → IsOctets xs → IsOctets ys → 4 ≤ length xs → 4 ≤ length ys → big_number 4 xs ≡ big_number 4 ys → take 4 xs ≡ take 4 ys
one_big [] ys h k m n e = absurd (omega (arith, m))
one_big (a ∷ []) ys h k m n e = absurd (omega (arith, m))
one_big (a ∷ b ∷ []) ys h k m n e = absurd (omega (arith, m))
one_big (a ∷ b ∷ c ∷ []) ys h k m n e = absurd (omega (arith, m))
one_big (a ∷ b ∷ c ∷ d ∷ xs) [] h k m n e = absurd (omega (arith, n))
one_big (a ∷ b ∷ c ∷ d ∷ xs) (p ∷ []) h k m n e = absurd (omega (arith, n))
one_big (a ∷ b ∷ c ∷ d ∷ xs) (p ∷ q ∷ []) h k m n e = absurd (omega (arith, n))
one_big (a ∷ b ∷ c ∷ d ∷ xs) (p ∷ q ∷ r ∷ []) h k m n e = absurd (omega (arith, n))
one_big (a ∷ b ∷ c ∷ d ∷ xs) (p ∷ q ∷ r ∷ s ∷ ys) h k m n e =
    let one = four_high a b c d p q r s (h 0) (h 1) (h 2) (h 3) (k 0) (k 1) (k 2) (k 3) e in
    let first = one.0 in
    let second = one.1 in
    let third = one.2 in
    let last = one.3 in cc

by_prefix : (xs ys : List ℕ) → IsOctets xs → IsOctets ys → IsPrefixed xs → IsPrefixed ys → drop 4 xs ≡ drop 4 ys → xs ≡ ys
by_prefix xs ys h k p q e =
    let long = ap (λ (l : List ℕ). length l) e in
    let same : big_number 4 xs ≡ big_number 4 ys = omega (arith, p.0, p.1, q.0, q.1, long, length-drop 4 xs, length-drop 4 ys) in
    by_parts 4 xs ys (one_big xs ys h k p.0 q.0 same) e

-- ---- the rows of messages

-- a row of a struct, whose name is one of a line
pub record IsMessageRow (row : List ℕ) : Type 0 where
  pub struct : IsStructRow no_formats as_octets octets_tell kerberos_told row
  pub named : is_name row ≡ true

as_req : IsMessageRow (codes "AS-REQ")
unfolding types shapes fields cases
as_req = record { struct = struct_row no_formats as_octets octets_tell kerberos_told (codes "AS-REQ") 42 refl (λ text. refl) (λ text. refl); named = refl }

as_rep : IsMessageRow (codes "AS-REP")
unfolding types shapes fields cases
as_rep = record { struct = struct_row no_formats as_octets octets_tell kerberos_told (codes "AS-REP") 52 refl (λ text. refl) (λ text. refl); named = refl }

tgs_req : IsMessageRow (codes "TGS-REQ")
unfolding types shapes fields cases
tgs_req = record { struct = struct_row no_formats as_octets octets_tell kerberos_told (codes "TGS-REQ") 43 refl (λ text. refl) (λ text. refl); named = refl }

tgs_rep : IsMessageRow (codes "TGS-REP")
unfolding types shapes fields cases
tgs_rep = record { struct = struct_row no_formats as_octets octets_tell kerberos_told (codes "TGS-REP") 53 refl (λ text. refl) (λ text. refl); named = refl }

krb_error : IsMessageRow (codes "KRB-ERROR")
unfolding types shapes fields cases
krb_error = record {
  struct = struct_row no_formats as_octets octets_tell kerberos_told (codes "KRB-ERROR") 88 refl (λ text. refl) (λ text. refl);
  named =
      refl;
}

same_some : (r s : List ℕ) → Some r ≡ Some s → r ≡ s
same_some r s e = cc

not_some : (s : List ℕ) → None ≡ Some s → ⊥
not_some s e = cc

by_tests : (a b c d e : Bool) (row : List ℕ) → (if a then Some (codes "AS-REQ") else if b then Some (codes "AS-REP") else if c then Some (codes "TGS-REQ")
    else if d then Some (codes "TGS-REP") else if e then Some (codes "KRB-ERROR") else None) ≡ Some row → IsMessageRow row
by_tests true b c d e row f = subst IsMessageRow (same_some (codes "AS-REQ") row f) as_req
by_tests false true c d e row f = subst IsMessageRow (same_some (codes "AS-REP") row f) as_rep
by_tests false false true d e row f = subst IsMessageRow (same_some (codes "TGS-REQ") row f) tgs_req
by_tests false false false true e row f = subst IsMessageRow (same_some (codes "TGS-REP") row f) tgs_rep
by_tests false false false false true row f = subst IsMessageRow (same_some (codes "KRB-ERROR") row f) krb_error
by_tests false false false false false row f = absurd (not_some row f)

row_of_message : (message row : List ℕ) → message_row message ≡ Some row → IsMessageRow row
row_of_message [] row e = absurd (not_some row e)
row_of_message (first ∷ rest) row e = by_tests (nat_eq first 106) (nat_eq first 107) (nat_eq first 108) (nat_eq first 109) (nat_eq first 126) row e

-- ---- the items of two messages

-- octets of one row, with their items
record IsOf (row message : List ℕ) (items : List Item) : Type 0 where
  is : ℕ
  row_is : row_in types row ≡ Some is
  are : AreItemsOf row is message items

abbrev items_of : List ℕ → List Item → List Token → List Token → Type 0
items_of message items = shown no_formats message items (start secrets.Shown)

items_first : (row message : List ℕ) (items : List Item) → IsMessageRow row → IsOf row message items → IsOctets message
    → Firsts (openings (of_struct ∷ []) row) (items_of message items)
items_first row message items m i small = struct_first no_formats as_octets octets_tell kerberos_told row m.struct row m.named i.is i.row_is message items i.are
    small

abbrev two_names : List ℕ → List ℕ → List (List ℕ) → List (List ℕ)
two_names row other names = row ∷ other ∷ []

left_blocks : (row other message : List ℕ) (items : List Item) → IsMessageRow row → IsOf row message items → IsOctets message
    → Blocks (two_names row other) (items_of message items)
left_blocks row other message items m i small =
    blocks_among {f = λ names. row ∷ []} {g = two_names row other} (λ names n a. among_left n (row ∷ []) (other ∷ []) a)
    (firsts_block (items_first row message items m i small))

right_blocks : (row other message : List ℕ) (items : List Item) → IsMessageRow other → IsOf other message items → IsOctets message
    → Blocks (two_names row other) (items_of message items)
right_blocks row other message items m i small =
    blocks_among {f = λ names. other ∷ []} {g = two_names row other} (λ names n a. inr a) (firsts_block (items_first other message items m i small))

nat_same : (x y : ℕ) → nat_eq x y ≡ true → x ≡ y
nat_same x y e = grind (arith, common_steps)

pub octets_same : (xs ys : List ℕ) → same_octets xs ys ≡ true → xs ≡ ys
octets_same [] [] e = refl
octets_same [] (y ∷ ys) e = absurd (cc)
octets_same (x ∷ xs) [] e = absurd (cc)
octets_same (x ∷ xs) (y ∷ ys) e =
    let one = nat_same x y (and_left (nat_eq x y) (same_octets xs ys) e) in
    ap (λ z. z ∷ xs) one ∙ ap (λ (l : List ℕ). y ∷ l) (octets_same xs ys (and_right (nat_eq x y) (same_octets xs ys) e))

-- rows of different names begin otherwise
other_rows : (row other : List ℕ) → same_octets row other ≡ false → apart_firsts (openings (of_struct ∷ []) row) (openings (of_struct ∷ []) other) ≡ true
other_rows row other e = ap (λ (b : Bool). (other_than b && true) && true) e

items_told : (row other message another : List ℕ) (items others : List Item) → IsMessageRow row → IsMessageRow other → IsOf row message items
    → IsOf other another others
    → IsOctets message → IsOctets another → Tells (two_names row other) (λ names. true) (Unit {0}) (message ≡ another) (items_of message items)
    (items_of another others)
items_told row other message another items others m n i j small little = by_names (same_octets row other) refl
  where
    by_names : (b : Bool) → same_octets row other ≡ b → Tells (two_names row other) (λ names. true) (Unit {0}) (message ≡ another) (items_of message items)
        (items_of another others)
    by_names true e =
        let same = octets_same row other e in
        let k = subst (λ (r : List ℕ). IsOf r another others) (sym same) j in
        tells_from (left_blocks row other message items m i small) (right_blocks row other another others n j little)
        (struct_told no_formats as_octets octets_tell kerberos_told row m.struct row m.named i.is k.is i.row_is k.row_is message another items others i.are
        k.are small little)
    by_names false e = record {
      left = left_blocks row other message items m i small;
      right = right_blocks row other another others n j little;
      tells = λ old before ts us a b known names d rest following fit f g lines.
          absurd ((firsts_never (other_rows row other e) (items_first row message items m i small) (items_first other another others n j little)).never old
          before ts us a b names d rest following f g lines);
    }

-- ---- a message behind its length, or octets

record IsMessage (label : Label) (octets : List ℕ) (old new : List Token) : Type 0 where
  prefixed : IsPrefixed octets
  row : List ℕ
  message : IsMessageRow row
  items : List Item
  is_of : IsOf row (drop 4 octets) items
  here : struct_of label (length_and_items no_formats (drop 4 octets) items) old new

by_message : (label : Label) (octets : List ℕ) (old new : List Token) → prefixed_of no_formats label octets old new → IsMessage label octets old new
    ⊎ octets_of label octets old new
by_message label octets old new (inr (lacks, h)) = inr h
by_message label octets old new (inl (prefixed, h)) = by_row (message_row (drop 4 octets)) refl h
  where
    by_items : (row : List ℕ) → IsMessageRow row → (w : Walk) → IsWalkBy row row (drop 4 octets) w → by_walk no_formats label octets w old new
        → IsMessage label octets old new ⊎ octets_of label octets old new
    by_items row m walks.NoRow is k = inr k
    by_items row m (walks.Items items) (is, row_is, are) k =
        inl (record { prefixed = prefixed; row = row; message = m; items = items.items; is_of = record { is = is; row_is = row_is; are = are }; here = k })
    by_items row m (walks.Fault fault) is k = inr k

    by_row : (o : Option (List ℕ)) → message_row (drop 4 octets) ≡ o → by_message_row no_formats o label octets old new → IsMessage label octets old new
        ⊎ octets_of label octets old new
    by_row None e k = inr k
    by_row (Some row) e (walk, is, k) = by_items row (row_of_message (drop 4 octets) row e) walk is k

-- what stands in two structs
fields_told : (octets others : List ℕ) {label : Label} {old new before after : List Token} → IsOctets octets → IsOctets others
    → (i : IsMessage label octets old new) (j : IsMessage label others before after)
    → Tells (λ names. codes "length" ∷ []) (λ names. true) (Unit {0}) (octets ≡ others) (length_and_items no_formats (drop 4 octets) i.items)
    (length_and_items no_formats (drop 4 others) j.items)
fields_told octets others small little i j =
    tells_so (λ u. u) (λ p. by_prefix octets others small little i.prefixed j.prefixed p.1)
    (tells_numbers.tells (plain (codes "length")) (pos (length (drop 4 octets))) (pos (length (drop 4 others))) refl tt tt
    and items_told i.row j.row (drop 4 octets) (drop 4 others) i.items j.items i.message j.message i.is_of j.is_of (dropped_octets 4 octets small)
    (dropped_octets 4 others little))

message_heads : (octets : List ℕ) {label : Label} {old new : List Token} → IsOctets octets → (i : IsMessage label octets old new)
    → Heads label.text IsStruct (struct_of label (length_and_items no_formats (drop 4 octets) i.items))
message_heads octets {label} small i = struct_heads label (fields_told octets octets small small i i).left

prefixed_heads : (label : Label) (octets : List ℕ) → is_name label.text ≡ true → IsOctets octets
    → Heads label.text (IsEither IsStruct IsLeaf) (prefixed_of no_formats label octets)
prefixed_heads label octets named small = record { head = λ old new h. either old new (by_message label octets old new h) }
  where
    either : (old new : List Token) → IsMessage label octets old new ⊎ octets_of label octets old new → HasHead label.text (IsEither IsStruct IsLeaf) old new
    either old new (inl i) = head_so (λ s v. inl v) ((message_heads octets small i).head old new i.here)
    either old new (inr h) = head_so (λ s v. inr v) ((tells_octets.heads label octets named small).head old new h)

pub tells_prefixed : TellsValues IsOctets (IsEither IsStruct IsLeaf) (prefixed_of no_formats)
tells_prefixed = record {
  heads = prefixed_heads;
  tells = λ label octets others named small little. record {
    left = head_blocks label.text (IsEither IsStruct IsLeaf) (prefixed_of no_formats label octets) named (prefixed_heads label octets named small);
    right = head_blocks label.text (IsEither IsStruct IsLeaf) (prefixed_of no_formats label others) named (prefixed_heads label others named little);
    tells = λ old before ts us a b known names d rest following fit m n same.
        both label octets others named small little old before ts us names d rest following m n same (by_message label octets old (old ++ ts) a)
        (by_message label others before (before ++ us) b);
  };
}
  where
    both : (label : Label) (octets others : List ℕ) → is_name label.text ≡ true → IsOctets octets → IsOctets others → (old before ts us : List Token)
        → (names : List (List ℕ)) (d : ℕ) (rest following : List (List ℕ)) → Follow names d rest → Follow names d following
        → page_lines d ts ++ rest ≡ page_lines d us ++ following
        → IsMessage label octets old (old ++ ts) ⊎ octets_of label octets old (old ++ ts) → IsMessage label others before (before ++ us)
        ⊎ octets_of label others before (before ++ us)
        → (octets ≡ others) × (rest ≡ following)
    both label octets others named small little old before ts us names d rest following m n same (inl i) (inl j) =
        (tells_struct label named (fields_told octets others small little i j) refl).tells old before ts us i.here j.here tt names d rest following refl m n
        same
    both label octets others named small little old before ts us names d rest following m n same (inl i) (inr k) =
        let one = one_head label.text IsStruct IsLeaf (struct_of label (length_and_items no_formats (drop 4 octets) i.items)) (octets_of label others)
        (message_heads octets small i)
        (tells_octets.heads label others named little) old before ts us i.here k d rest following same in absurd (struct_no_leaf one.0 one.1 one.2)
    both label octets others named small little old before ts us names d rest following m n same (inr h) (inl j) =
        let one = one_head label.text IsLeaf IsStruct (octets_of label octets) (struct_of label (length_and_items no_formats (drop 4 others) j.items))
        (tells_octets.heads label octets named small) (message_heads others little j) old before ts us h j.here d rest following same in
        absurd (struct_no_leaf one.0 one.2 one.1)
    both label octets others named small little old before ts us names d rest following m n same (inr h) (inr k) =
        (tells_octets.tells label octets others named small little).tells old before ts us h k tt names d rest following refl m n same

-- what is delegated in a checksum of the GSS-API
krb_cred : IsStructRow no_formats as_octets octets_tell kerberos_told (codes "KRB-CRED")
unfolding types shapes fields cases
krb_cred = struct_row no_formats as_octets octets_tell kerberos_told (codes "KRB-CRED") 80 refl (λ text. refl) (λ text. refl)

pub tells_deleg : TellsValues IsOctets (IsEither IsStruct IsLeaf) (λ label octets. IsShownByRow no_formats (codes "KRB-CRED") label.text octets)
tells_deleg = tells_by_row no_formats as_octets octets_tell kerberos_told (codes "KRB-CRED") krb_cred
