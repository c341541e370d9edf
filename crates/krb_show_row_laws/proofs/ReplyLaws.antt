-- The page of a PA-PK-AS-REP tells it (RFC 4556, 3.2.3): the names of its alternatives are told apart.
use Rattle.std.proofs.Common.{◌≡◌, ◌⊎◌, ℕ, Bool, true, false, inl, inr, refl, sym, ap, subst, ◌∙◌, List, [], ◌∷◌, ◌++◌, codes}
use Rattle.std.specs.Prelude.{None, Some, slice_get}
use Rattle.std.proofs.lemmas.List.{append-nil}
use Rattle.krb_der_core.specs.Encoding.{IsOctets}
use Rattle.krb_der_core.specs.Tlv.{tlv}
use Rattle.krb_schema.specs.declared.item.Item.{Item}
use Rattle.krb_schema.specs.declared.shape.Leaf.TheVariants as leaves
use Rattle.krb_schema.specs.declared.shape.Shape.{Shape}
use Rattle.krb_schema.specs.declared.shape.Shape.TheVariants as shape
use Rattle.krb_schema.specs.Forests.{leaf, none}
use Rattle.krb_schema.specs.Named.{row_in}
use Rattle.krb_schema.specs.Shapes.{IsElement, IsNone}
use Rattle.krb_schema.specs.Types.{cases, fields, shapes, types}
use Rattle.krb_show_text.specs.Text.{page_lines}
use Rattle.krb_show.specs.Tokens.{Token, plain}
use Rattle.krb_show_pages.specs.Choices.{alternative, alternative_of, is_pack}
use Rattle.krb_show_messages.specs.Formats.{formats_of}
use Rattle.krb_show_messages.specs.Shown.{row_shown}
use Rattle.krb_show.specs.Items.{shown, start}
use Rattle.krb_show.specs.RowWalk.{AreItemsOf, IsWalkBy, walk_shown}
use Rattle.krb_show.specs.declared.rows.stand.Secrets.TheVariants as secrets
use Rattle.krb_show.specs.declared.rows.walk.Walk.{Walk}
use Rattle.krb_show.specs.declared.rows.walk.Walk.TheVariants as walks
use Rattle.krb_show_row_laws.specs.Blocks.{Adds, Among, Blocks, Follow, IsLeaf, IsStruct, Tells, TellsValues}
use Rattle.krb_show_row_laws.specs.Firsts.{First, Firsts, of_leaf, of_struct, openings}
use Rattle.krb_show_row_laws.specs.KerberosFormats.{kerberos_kinds}
use Rattle.krb_show_row_laws.specs.Laws.{IsReply, ReplyTextTells}
use Rattle.krb_show_row_laws.proofs.LineLaws.{one_lines}
use Rattle.krb_show_row_laws.proofs.StructLaws.{tells_struct}
use Rattle.krb_show_row_laws.proofs.FirstLaws.{firsts_block, firsts_never}
use Rattle.krb_show_row_laws.proofs.Blocked.{blocks_among}
use Rattle.krb_show_row_laws.proofs.EitherLaws.{IsEither, struct_or_leaf}
use Rattle.krb_show_row_laws.proofs.Kerberos.{formats_told}
use Rattle.krb_show_row_laws.proofs.ShownLaws.{ByItems, IsStructRow, by_row, first_lines, items_first, items_told, one_row, struct_row, tells_by_row}
use Rattle.krb_show_row_laws.proofs.FormatLaws.{kerberos_formats}
use Rattle.krb_show_row_laws.proofs.NamedLaws.{row_fits}

abbrev pack_name : List ℕ
pack_name = codes "PA-PK-AS-REP (encKeyPack)"

abbrev info_name : List ℕ
info_name = codes "PA-PK-AS-REP (dhInfo)"

-- ---- dhInfo: a struct, or octets

info_row : IsStructRow formats_of kerberos_kinds kerberos_formats formats_told info_name
unfolding types shapes fields cases
info_row = struct_row formats_of kerberos_kinds kerberos_formats formats_told info_name 113 refl (λ text. refl) (λ text. refl)

info_told : TellsValues IsOctets (IsEither IsStruct IsLeaf) (by_row formats_of kerberos_kinds kerberos_formats formats_told info_name info_row)
info_told = tells_by_row formats_of kerberos_kinds kerberos_formats formats_told info_name info_row

info_first : (octets : List ℕ) → IsOctets octets → Firsts (openings (of_struct ∷ of_leaf ∷ []) (codes "dhInfo")) (row_shown info_name (codes "dhInfo") octets)
info_first octets small = struct_or_leaf refl (info_told.heads (plain (codes "dhInfo")) octets refl small)

-- ---- encKeyPack: a leaf

pack_is : row_in types pack_name ≡ Some 114
unfolding types
pack_is = refl

pack_lines : first_lines formats_of kerberos_kinds kerberos_formats formats_told 114 (codes "encKeyPack") ≡ openings (of_leaf ∷ []) (codes "encKeyPack")
unfolding shapes fields cases
pack_lines = refl

abbrev IsPack : List ℕ → List Token → List Token → Type 0
IsPack octets old new = ByItems formats_of pack_name (codes "encKeyPack") octets old new

row_114 : slice_get shapes 114 ≡ Some (shape.Leaf 129 leaves.Octets)
unfolding shapes
row_114 = refl

no_row : (n : ℕ) → None ≡ Some n → ⊥
no_row n e = cc

-- an encKeyPack is an element of its row
pack_items : (octets content : List ℕ) → octets ≡ tlv 129 content → (old new : List Token) → row_shown pack_name (codes "encKeyPack") octets old new
    → IsPack octets old new
pack_items octets content whole old new s = by_walk s.walk s.is_walk s.shown
  where
    by_walk : (w : Walk) → IsWalkBy pack_name (codes "encKeyPack") octets w → walk_shown formats_of (codes "encKeyPack") octets w old new
        → IsPack octets old new
    by_walk walks.NoRow lacks h = absurd (no_row 114 (sym lacks ∙ pack_is))
    by_walk (walks.Items items) (is, row, are) h = record { is = is; row = row; items = items.items; are = are; here = h }
    by_walk (walks.Fault fault) (is, row, first) h =
        let same : is ≡ 114 = one_row is 114 (sym row ∙ pack_is) in
        let lacks = subst (λ (k : ℕ). IsNone (IsElement 64 first.schema k first.name []) octets) same first.none in
        let shape_is = ap (λ (l : List Shape). slice_get l 114) first.table.rows.rows ∙ row_114 in
        absurd (lacks (leaf leaves.Octets first.name 129 content none) (shape.Leaf 129 leaves.Octets, shape_is, (content, tt, refl))
        (whole ∙ sym (append-nil (tlv 129 content))))

at_114 : {octets : List ℕ} {old new : List Token} → (i : IsPack octets old new) → AreItemsOf (codes "encKeyPack") 114 octets i.items
at_114 {octets} i = subst (λ (k : ℕ). AreItemsOf (codes "encKeyPack") k octets i.items) (one_row i.is 114 (sym i.row ∙ pack_is)) i.are

abbrev items_of : List ℕ → List Item → List Token → List Token → Type 0
items_of octets items = shown formats_of octets items (start secrets.Shown)

pack_first : (octets : List ℕ) {old new : List Token} → IsOctets octets → (i : IsPack octets old new)
    → Firsts (openings (of_leaf ∷ []) (codes "encKeyPack")) (items_of octets i.items)
pack_first octets small i =
    subst (λ (fs : List First). Firsts fs (items_of octets i.items)) pack_lines
    (items_first formats_of kerberos_kinds kerberos_formats formats_told (codes "encKeyPack") refl 114 (row_fits pack_name (codes "encKeyPack") 114 pack_is)
    octets i.items (at_114 i) small)

-- ---- the one or the other

abbrev both_names : List (List ℕ) → List (List ℕ)
both_names names = codes "encKeyPack" ∷ codes "dhInfo" ∷ []

by_alternative : (octets : List ℕ) → IsReply octets → (old new : List Token) → alternative_of octets old new → IsPack octets old new
    ⊎ row_shown info_name (codes "dhInfo") octets old new
by_alternative octets reply old new h = by_test (is_pack octets) refl h
  where
    by_test : (b : Bool) → is_pack octets ≡ b → alternative b octets old new
        → IsPack octets old new ⊎ row_shown info_name (codes "dhInfo") octets old new
    by_test true e k = let is = reply e in inl (pack_items octets is.0 is.1 old new k)
    by_test false e k = inr k

alternative_blocks : (octets : List ℕ) → IsOctets octets → IsReply octets → Blocks both_names (alternative_of octets)
alternative_blocks octets small reply = record { block = λ old new h. either old new (by_alternative octets reply old new h) }
  where
    either : (old new : List Token) → IsPack octets old new ⊎ row_shown info_name (codes "dhInfo") octets old new → Adds both_names old new
    either old new (inl i) =
        (blocks_among {f = λ names. codes "encKeyPack" ∷ []} {g = both_names} (λ names n a. first_among n a) (firsts_block (pack_first octets small i))).block
        old new i.here
      where
        first_among : (n : List ℕ) → Among n (codes "encKeyPack" ∷ []) → Among n (codes "encKeyPack" ∷ codes "dhInfo" ∷ [])
        first_among n (inl e) = inl e
        first_among n (inr e) = absurd e
    either old new (inr k) =
        (blocks_among {f = λ names. codes "dhInfo" ∷ codes "dhInfo" ∷ []} {g = both_names} (λ names n a. second_among n a)
        (firsts_block (info_first octets small))).block old new k
      where
        second_among : (n : List ℕ) → Among n (codes "dhInfo" ∷ codes "dhInfo" ∷ []) → Among n (codes "encKeyPack" ∷ codes "dhInfo" ∷ [])
        second_among n (inl e) = inr (inl e)
        second_among n (inr e) = inr e

alternatives_told : (octets other : List ℕ) → IsOctets octets → IsOctets other → IsReply octets → IsReply other
    → Tells both_names (λ names. true) (Unit {0}) (octets ≡ other) (alternative_of octets) (alternative_of other)
alternatives_told octets other small little p q = record {
  left = alternative_blocks octets small p;
  right = alternative_blocks other little q;
  tells = λ old before ts us a b known names d rest following fit m n same.
      both old before ts us names d rest following m n same (by_alternative octets p old (old ++ ts) a) (by_alternative other q before (before ++ us) b);
}
  where
    both : (old before ts us : List Token) (names : List (List ℕ)) (d : ℕ) (rest following : List (List ℕ)) → Follow names d rest → Follow names d following
        → page_lines d ts ++ rest ≡ page_lines d us ++ following
        → IsPack octets old (old ++ ts) ⊎ row_shown info_name (codes "dhInfo") octets old (old ++ ts)
        → IsPack other before (before ++ us) ⊎ row_shown info_name (codes "dhInfo") other before (before ++ us) → (octets ≡ other) × (rest ≡ following)
    both old before ts us names d rest following m n same (inl i) (inl j) =
        (items_told formats_of kerberos_kinds kerberos_formats formats_told (codes "encKeyPack") refl 114 (row_fits pack_name (codes "encKeyPack") 114 pack_is)
        octets other i.items j.items
        (at_114 i) (at_114 j) small little).tells old before ts us i.here j.here tt names d rest following refl m n same
    both old before ts us names d rest following m n same (inl i) (inr k) =
        absurd ((firsts_never refl (pack_first octets small i) (info_first other little)).never old before ts us i.here k names d rest following m n same)
    both old before ts us names d rest following m n same (inr h) (inl j) =
        absurd ((firsts_never refl (info_first octets small) (pack_first other little j)).never old before ts us h j.here names d rest following m n same)
    both old before ts us names d rest following m n same (inr h) (inr k) =
        (info_told.tells (plain (codes "dhInfo")) octets other refl small little).tells old before ts us h k tt names d rest following refl m n same

pub replies_tell : ReplyTextTells
replies_tell label named octets other page another small little p q h k some more same =
    let lines = one_lines (page_lines 0 page) (page_lines 0 another) some more same in
    ((tells_struct label named (alternatives_told octets other small little p q) refl).tells [] [] page another h k tt [] 0 [] [] refl tt tt
    (append-nil (page_lines 0 page) ∙ lines ∙ sym (append-nil (page_lines 0 another)))).0

-- ---- encodings of values

no_pack : (rest : List ℕ) → is_pack (tlv 160 rest) ≡ true → ⊥
unfolding tlv
no_pack rest e = cc

pub info_is_reply : (rest : List ℕ) → IsReply (tlv 160 rest)
info_is_reply rest e = absurd (no_pack rest e)

pub pack_is_reply : (content : List ℕ) → IsReply (tlv 129 content)
pack_is_reply content e = (content, refl)
