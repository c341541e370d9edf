-- Elements without elements are told by their lines.
use Rattle.std.proofs.Common.{◌≡◌, ◌⊎◌, ℕ, ◌<◌, ◌^◌, Bool, true, inl, inr, refl, sym, ap, ◌∙◌, ℤ, pos, List, [], ◌∷◌, ◌++◌, arith, slice_index, suc}
use Rattle.std.specs.Fmt.{decimal}
use Rattle.std.specs.Int.{w64}
use Rattle.std.proofs.lemmas.Fmt.{decimal_injective}
use Rattle.std.proofs.lemmas.Int.{fits_signed_from_abs}
use Rattle.krb_registry.specs.declared.kind.Kind.{Kind}
use Rattle.std.specs.Prelude.{Option, None, Some}
use Rattle.krb_der_core.specs.BitString.{Bits, IsBits, bits_content}
use Rattle.krb_der_core.specs.Encoding.{IsOctets}
use Rattle.krb_der_core.specs.GeneralizedTime.{IsRealTime, Time, time_content}
use Rattle.krb_der_core.specs.Integer.{shortest}
use Rattle.krb_der_core.specs.Primitive.{bool_content}
use Rattle.krb_der_core.specs.Tlv.{tlv}
use Rattle.krb_der_core.specs.TlvLaws.{tlv_apart, tlv_same}
use Rattle.krb_der_x509.specs.ObjectIdentifier.{IsArcs, arcs_content, dots_before, dotted}
use Rattle.krb_schema.specs.declared.shape.Leaf.{Leaf}
use Rattle.krb_schema.specs.declared.shape.Leaf.TheVariants as leaves
use Rattle.krb_schema.specs.declared.shape.Name.{Name}
use Rattle.krb_schema.specs.declared.shape.Role.{Role}
use Rattle.krb_schema.specs.declared.shape.Role.TheVariants as roles
use Rattle.krb_schema.specs.Leaves.{IsLeaf as IsContent, IsOf}
use Rattle.krb_show.specs.Leaves.{identifier_of}
use Rattle.krb_show_text.specs.Text.{octets_text, page_lines}
use Rattle.krb_show.specs.Tokens.{Label, Token}
use Rattle.krb_show.specs.Items.{octets_as}
use Rattle.krb_show.specs.RowLeaves.{IsNamed, any_of, leaf_as}
use Rattle.krb_show_row_laws.specs.Telling.{Stops, all_of, is_digit, is_name, is_word_octet}
use Rattle.krb_show_row_laws.specs.Blocks.{Follow, HasHead, Heads, IsLeaf, Tells, TellsValues}
use Rattle.krb_show_row_laws.specs.Firsts.{Firsts, Kinds, names_of}
use Rattle.krb_show_row_laws.specs.Formats.{FormatsTell}
use Rattle.krb_show_row_laws.specs.Pages.{label_in, leaf_shown}
use Rattle.krb_show_row_laws.specs.Tests.{leaf_firsts, octets_firsts}
use Rattle.krb_show_row_laws.proofs.SplitLaws.{all_append, split, tail}
use Rattle.krb_show_row_laws.proofs.WordLaws.{decimal_digits, decimal_word, one_octets, word_or_octets}
use Rattle.krb_show_row_laws.proofs.BlockLaws.{head_blocks}
use Rattle.krb_show_row_laws.proofs.FieldLaws.{tells_so}
use Rattle.krb_show_row_laws.proofs.LeafLaws.{IsNumberText, IsOctetsText, Lines, OneLine, leaf_heads, number_leaf, number_line, octets_line, one_number, tells_by, tells_ciphers, tells_flags, tells_identifiers, tells_leaf, tells_naturals, tells_numbers, tells_octets, tells_secrets, tells_texts, tells_times, tells_truths}
use Rattle.krb_show_row_laws.proofs.FirstLaws.{firsts_block, one_first, tells_from}
use Rattle.krb_show_row_laws.proofs.ForestLaws.{octets_within}

-- ---- object identifiers

dots_words : (arcs : List ℕ) → all_of is_word_octet (dots_before arcs) ≡ true
dots_words [] = refl
dots_words (a ∷ arcs) = all_append is_word_octet (46 ∷ decimal a) (dots_before arcs) (decimal_word a) (dots_words arcs)

dotted_word : (arcs : List ℕ) → all_of is_word_octet (dotted arcs) ≡ true
dotted_word [] = refl
dotted_word (a ∷ arcs) = all_append is_word_octet (decimal a) (dots_before arcs) (decimal_word a) (dots_words arcs)

dots_stop : (arcs : List ℕ) → Stops is_digit (dots_before arcs)
dots_stop [] = tt
dots_stop (a ∷ arcs) = refl

one_dots : (as_ bs : List ℕ) → ((i : ℕ) → slice_index as_ i < 2 ^ 64) → ((i : ℕ) → slice_index bs i < 2 ^ 64) → dots_before as_ ≡ dots_before bs → as_ ≡ bs
one_dots [] [] h k e = refl
one_dots [] (b ∷ bs) h k e = absurd (cc)
one_dots (a ∷ as_) [] h k e = absurd (cc)
one_dots (a ∷ as_) (b ∷ bs) h k e =
    let parts = split is_digit (decimal a) (decimal b) (dots_before as_) (dots_before bs) (decimal_digits a) (decimal_digits b) (dots_stop as_) (dots_stop bs)
    (tail _ _ _ _ e) in
    ap (λ z. z ∷ as_) (decimal_injective a b (h 0) (k 0) parts.0) ∙ ap (λ (l : List ℕ). b ∷ l) (one_dots as_ bs (λ i. h (suc i)) (λ i. k (suc i)) parts.1)

one_dotted : (as_ bs : List ℕ) → IsArcs as_ → IsArcs bs → dotted as_ ≡ dotted bs → as_ ≡ bs
one_dotted [] bs h k e = absurd (omega (arith, h.some))
one_dotted (a ∷ as_) [] h k e = absurd (omega (arith, k.some))
one_dotted (a ∷ as_) (b ∷ bs) h k e =
    let parts = split is_digit (decimal a) (decimal b) (dots_before as_) (dots_before bs) (decimal_digits a) (decimal_digits b) (dots_stop as_) (dots_stop bs)
    e in
    ap (λ z. z ∷ as_) (decimal_injective a b (h.each 0) (k.each 0) parts.0)
    ∙ ap (λ (l : List ℕ). b ∷ l) (one_dots as_ bs (λ i. h.each (suc i)) (λ i. k.each (suc i)) parts.1)

tells_arcs : TellsValues IsArcs IsLeaf (λ label v. identifier_of label (dotted v))
tells_arcs = tells_by IsArcs dotted (λ v h. dotted_word v) one_dotted tells_identifiers

-- ---- values by their contents

value_heads : {A : Type 0} {is_value : A → Type 0} {shows : Label → A → List Token → List Token → Type 0} (enc : A → List ℕ) (t : ℕ)
    → TellsValues is_value IsLeaf shows
    → (label : Label) (content : List ℕ) → is_name label.text ≡ true → IsOf is_value enc t content
    → Heads label.text IsLeaf (leaf_as is_value enc shows t label content)
value_heads {A} {is_value} {shows} enc t told label content name (w, h, e) = record { head = head_of }
  where
    head_of : (old new : List Token) → leaf_as is_value enc shows t label content old new → HasHead label.text IsLeaf old new
    head_of old new (inl (v, i, f, s)) = (told.heads label v name i).head old new s
    head_of old new (inr (lacks, s)) = absurd (lacks w h e)

value_told : {A : Type 0} {is_value : A → Type 0} {shows : Label → A → List Token → List Token → Type 0} (enc : A → List ℕ) (t : ℕ)
    → TellsValues is_value IsLeaf shows
    → (label : Label) (content other : List ℕ) → is_name label.text ≡ true → IsOf is_value enc t content → IsOf is_value enc t other
    → Tells (λ names. label.text ∷ []) (λ names. true) (Unit {0}) (content ≡ other) (leaf_as is_value enc shows t label content)
    (leaf_as is_value enc shows t label other)
value_told {A} {is_value} {shows} enc t told label content other name h k = record {
  left = head_blocks label.text IsLeaf (leaf_as is_value enc shows t label content) name (value_heads enc t told label content name h);
  right = head_blocks label.text IsLeaf (leaf_as is_value enc shows t label other) name (value_heads enc t told label other name k);
  tells = λ old before ts us a b known names d rest following fit m o same. by_value old before ts us a b names d rest following m o same h k;
}
  where
    by_value : (old before ts us : List Token) → leaf_as is_value enc shows t label content old (old ++ ts)
        → leaf_as is_value enc shows t label other before (before ++ us)
        → (names : List (List ℕ)) (d : ℕ) (rest following : List (List ℕ)) → Follow names d rest → Follow names d following
        → page_lines d ts ++ rest ≡ page_lines d us ++ following → IsOf is_value enc t content → IsOf is_value enc t other → (content ≡ other)
        × (rest ≡ following)
    by_value old before ts us (inl (v, i, f, a)) (inl (w, j, g, b)) names d rest following m o same h k =
        let one = (told.tells label v w name i j).tells old before ts us a b tt names d rest following refl m o same in
        (tlv_same t t content other (f ∙ ap enc one.0 ∙ sym g), one.1)
    by_value old before ts us (inr (lacks, a)) b names d rest following m o same h k = absurd (lacks h.0 h.1 h.2)
    by_value old before ts us (inl a) (inr (lacks, b)) names d rest following m o same h k = absurd (lacks k.0 k.1 k.2)

-- ---- any element

abbrev IsAnyText : Option Kind → ℕ → List ℕ → List ℕ → Type 0
IsAnyText kind tag content s = ((number : ℕ) × IsNamed kind tag content number × IsNumberText (pos number) s) ⊎ IsOctetsText (tlv tag content) s

any_leaf : (kind : Option Kind) (tag : ℕ) (content s : List ℕ) → IsAnyText kind tag content s → IsLeaf s
any_leaf kind tag content s (inl (number, named, h)) = number_leaf (pos number) s h
any_leaf kind tag content s (inr e) = (octets_text (tlv tag content), e)

pub line_so : {n : List ℕ} {V W : List ℕ → Type 0} {old new : List Token} → ((s : List ℕ) → V s → W s) → OneLine n V old new → OneLine n W old new
line_so f l = record { token = l.token; added = l.added; named = l.named; value = f _ l.value; lines = l.lines; level = l.level }

any_line : (label : Label) (tag : ℕ) (content : List ℕ) → Lines label.text (IsAnyText label.kind tag content) (any_of tag label content)
any_line label tag content = record { line_of = line_of }
  where
    line_of : (old new : List Token) → any_of tag label content old new → OneLine label.text (IsAnyText label.kind tag content) old new
    line_of old new (inl (number, named, s)) = line_so (λ t h. inl (number, named, h)) ((number_line label (pos number) tt).line_of old new s)
    line_of old new (inr (lacks, s)) = line_so (λ t h. inr h) ((octets_line label (tlv tag content)).line_of old new s)

number_or_octets : (n : ℕ) (xs s : List ℕ) → n < 128 → IsNumberText (pos n) s → IsOctetsText xs s → ⊥
number_or_octets n xs s small (inl (fits, (r, b, e))) o = word_or_octets (decimal n) r xs (decimal_word n) b (tail _ _ _ _ (tail _ _ _ _ (sym e ∙ o)))
number_or_octets n xs s small (inr (lacks, e)) o = absurd (lacks (fits_signed_from_abs w64 (pos n) (omega arith)))

-- the number of which a named element is
named_number : (kind : Option Kind) (tag : ℕ) (content : List ℕ) (number : ℕ) → IsNamed kind tag content number → (tag ≡ 10) × (number < 128)
    × (content ≡ number ∷ [])
named_number None tag content number h = absurd h
named_number (Some kind) tag content number h = h

one_any : (kind : Option Kind) (t u : ℕ) (c d s : List ℕ) → IsOctets (tlv t c) → IsOctets (tlv u d) → IsAnyText kind t c s → IsAnyText kind u d s → (t ≡ u)
    × (c ≡ d)
one_any kind t u c d s h k (inl (m, named, a)) (inl (n, called, b)) =
    let p = named_number kind t c m named in
    let q = named_number kind u d n called in
    let same : pos m ≡ pos n = one_number (pos m) (pos n) s tt tt a b in
    let numbers : m ≡ n = cc in
    (p.0 ∙ sym q.0, p.2 ∙ ap (λ (x : ℕ). x ∷ []) numbers ∙ sym q.2)
one_any kind t u c d s h k (inl (m, named, a)) (inr e) = absurd (number_or_octets m (tlv u d) s (named_number kind t c m named).1 a e)
one_any kind t u c d s h k (inr e) (inl (n, called, b)) = absurd (number_or_octets n (tlv t c) s (named_number kind u d n called).1 b e)
one_any kind t u c d s h k (inr e) (inr f) =
    let same = one_octets (tlv t c) (tlv u d) h k (tail _ _ _ _ (tail _ _ _ _ (sym e ∙ f))) in
    let parts = tlv_apart t u c d [] [] (ap (λ (l : List ℕ). l ++ []) same) in
    (parts.tag, parts.content)

pub any_heads : (label : Label) (tag : ℕ) (content : List ℕ) → Heads label.text IsLeaf (any_of tag label content)
any_heads label tag content = leaf_heads label.text (IsAnyText label.kind tag content) (any_of tag label content) (any_leaf label.kind tag content)
    (any_line label tag content)

pub any_told : (label : Label) (t u : ℕ) (c d : List ℕ) → is_name label.text ≡ true → IsOctets (tlv t c) → IsOctets (tlv u d)
    → Tells (λ names. label.text ∷ []) (λ names. true) (Unit {0}) ((t ≡ u) × (c ≡ d)) (any_of t label c) (any_of u label d)
any_told label t u c d name h k =
    tells_leaf label.text (IsAnyText label.kind t c) (IsAnyText label.kind u d) (any_of t label c) (any_of u label d) name (any_leaf label.kind t c)
    (any_leaf label.kind u d)
    (any_line label t c) (any_line label u d) (λ s a b. one_any label.kind t u c d s h k a b)

-- ---- leaves of a row

module _ (tells : Role → List ℕ → Label → List ℕ → List Token → List Token → Type 0) (kinds : Kinds) (formats : FormatsTell kinds tells) where
  -- octets behind any number, and behind this one
  pub octets_first : (role : Role) (number : List ℕ) (label : Label) (content : List ℕ) → is_name label.text ≡ true → IsOctets content
      → Firsts (octets_firsts kinds None label.text role) (octets_as tells role number label content)
  octets_first roles.None number label content name small = one_first name (tells_octets.heads label content name small)
  octets_first roles.AuthorizationData number label content name small = formats.first roles.AuthorizationData number label content name small
  octets_first roles.Checksum number label content name small = formats.first roles.Checksum number label content name small
  octets_first roles.PrefixedMessage number label content name small = formats.first roles.PrefixedMessage number label content name small
  octets_first roles.MechanismToken number label content name small = formats.first roles.MechanismToken number label content name small
  octets_first roles.MechanismListMic number label content name small = formats.first roles.MechanismListMic number label content name small
  octets_first roles.Key number label content name small = formats.first roles.Key number label content name small
  octets_first roles.EncTicketPart number label content name small = formats.first roles.EncTicketPart number label content name small
  octets_first roles.EncAsRepPart number label content name small = formats.first roles.EncAsRepPart number label content name small
  octets_first roles.EncTgsRepPart number label content name small = formats.first roles.EncTgsRepPart number label content name small
  octets_first roles.Authenticator number label content name small = formats.first roles.Authenticator number label content name small
  octets_first roles.RequestAuthorizationData number label content name small = formats.first roles.RequestAuthorizationData number label content name small
  octets_first roles.EncApRepPart number label content name small = formats.first roles.EncApRepPart number label content name small
  octets_first roles.EncKrbPrivPart number label content name small = formats.first roles.EncKrbPrivPart number label content name small
  octets_first roles.EncKrbCredPart number label content name small = formats.first roles.EncKrbCredPart number label content name small
  octets_first roles.PaEncTsEnc number label content name small = formats.first roles.PaEncTsEnc number label content name small
  octets_first roles.Salt number label content name small = formats.first roles.Salt number label content name small
  octets_first roles.ClientRealm number label content name small = formats.first roles.ClientRealm number label content name small
  octets_first roles.ClientName number label content name small = formats.first roles.ClientName number label content name small
  octets_first roles.ServerRealm number label content name small = formats.first roles.ServerRealm number label content name small
  octets_first roles.ServerName number label content name small = formats.first roles.ServerName number label content name small

  pub octets_behind : (role : Role) (number : List ℕ) (label : Label) (content : List ℕ) → is_name label.text ≡ true → IsOctets content
      → Firsts (octets_firsts kinds (Some number) label.text role) (octets_as tells role number label content)
  octets_behind roles.None number label content name small = one_first name (tells_octets.heads label content name small)
  octets_behind roles.AuthorizationData number label content name small = formats.behind roles.AuthorizationData number label content name small
  octets_behind roles.Checksum number label content name small = formats.behind roles.Checksum number label content name small
  octets_behind roles.PrefixedMessage number label content name small = formats.behind roles.PrefixedMessage number label content name small
  octets_behind roles.MechanismToken number label content name small = formats.behind roles.MechanismToken number label content name small
  octets_behind roles.MechanismListMic number label content name small = formats.behind roles.MechanismListMic number label content name small
  octets_behind roles.Key number label content name small = formats.behind roles.Key number label content name small
  octets_behind roles.EncTicketPart number label content name small = formats.behind roles.EncTicketPart number label content name small
  octets_behind roles.EncAsRepPart number label content name small = formats.behind roles.EncAsRepPart number label content name small
  octets_behind roles.EncTgsRepPart number label content name small = formats.behind roles.EncTgsRepPart number label content name small
  octets_behind roles.Authenticator number label content name small = formats.behind roles.Authenticator number label content name small
  octets_behind roles.RequestAuthorizationData number label content name small = formats.behind roles.RequestAuthorizationData number label content name small
  octets_behind roles.EncApRepPart number label content name small = formats.behind roles.EncApRepPart number label content name small
  octets_behind roles.EncKrbPrivPart number label content name small = formats.behind roles.EncKrbPrivPart number label content name small
  octets_behind roles.EncKrbCredPart number label content name small = formats.behind roles.EncKrbCredPart number label content name small
  octets_behind roles.PaEncTsEnc number label content name small = formats.behind roles.PaEncTsEnc number label content name small
  octets_behind roles.Salt number label content name small = formats.behind roles.Salt number label content name small
  octets_behind roles.ClientRealm number label content name small = formats.behind roles.ClientRealm number label content name small
  octets_behind roles.ClientName number label content name small = formats.behind roles.ClientName number label content name small
  octets_behind roles.ServerRealm number label content name small = formats.behind roles.ServerRealm number label content name small
  octets_behind roles.ServerName number label content name small = formats.behind roles.ServerName number label content name small

  octets_told : (role : Role) (number another : List ℕ) (label : Label) (content other : List ℕ) → is_name label.text ≡ true → IsOctets content → IsOctets other
      → Tells (λ names. label.text ∷ []) (λ names. true) (number ≡ another) (content ≡ other) (octets_as tells role number label content)
      (octets_as tells role another label other)
  octets_told roles.None number another label content other name h k = tells_so (λ e. tt) (λ e. e) (tells_octets.tells label content other name h k)
  octets_told roles.AuthorizationData number another label content other name h k =
      formats.told roles.AuthorizationData number another label content other name h k
  octets_told roles.Checksum number another label content other name h k = formats.told roles.Checksum number another label content other name h k
  octets_told roles.PrefixedMessage number another label content other name h k = formats.told roles.PrefixedMessage number another label content other name h k
  octets_told roles.MechanismToken number another label content other name h k = formats.told roles.MechanismToken number another label content other name h k
  octets_told roles.MechanismListMic number another label content other name h k =
      formats.told roles.MechanismListMic number another label content other name h k
  octets_told roles.Key number another label content other name h k = formats.told roles.Key number another label content other name h k
  octets_told roles.EncTicketPart number another label content other name h k = formats.told roles.EncTicketPart number another label content other name h k
  octets_told roles.EncAsRepPart number another label content other name h k = formats.told roles.EncAsRepPart number another label content other name h k
  octets_told roles.EncTgsRepPart number another label content other name h k = formats.told roles.EncTgsRepPart number another label content other name h k
  octets_told roles.Authenticator number another label content other name h k = formats.told roles.Authenticator number another label content other name h k
  octets_told roles.RequestAuthorizationData number another label content other name h k =
      formats.told roles.RequestAuthorizationData number another label content other name h k
  octets_told roles.EncApRepPart number another label content other name h k = formats.told roles.EncApRepPart number another label content other name h k
  octets_told roles.EncKrbPrivPart number another label content other name h k = formats.told roles.EncKrbPrivPart number another label content other name h k
  octets_told roles.EncKrbCredPart number another label content other name h k = formats.told roles.EncKrbCredPart number another label content other name h k
  octets_told roles.PaEncTsEnc number another label content other name h k = formats.told roles.PaEncTsEnc number another label content other name h k
  octets_told roles.Salt number another label content other name h k = formats.told roles.Salt number another label content other name h k
  octets_told roles.ClientRealm number another label content other name h k = formats.told roles.ClientRealm number another label content other name h k
  octets_told roles.ClientName number another label content other name h k = formats.told roles.ClientName number another label content other name h k
  octets_told roles.ServerRealm number another label content other name h k = formats.told roles.ServerRealm number another label content other name h k
  octets_told roles.ServerName number another label content other name h k = formats.told roles.ServerName number another label content other name h k

  pub leaf_first : (kind : Leaf) (name : Name) (tag : ℕ) (content : List ℕ) → is_name name.text.now ≡ true → IsContent kind content → IsOctets (tlv tag content)
      → (in_list : Bool) (number : List ℕ) → Firsts (leaf_firsts kinds kind name.text.now name.role) (leaf_shown tells kind name tag content in_list number)
  leaf_first leaves.Integer name tag content named is small in_list number =
      one_first named (value_heads {A = ℤ} {is_value = λ v. Unit {0}} (λ v. tlv 2 (shortest v)) 2 tells_numbers (label_in in_list name) content named is)
  leaf_first leaves.Unsigned name tag content named is small in_list number =
      one_first named (value_heads {A = ℕ} {is_value = λ v. v < 2 ^ 32} (λ v. tlv 2 (shortest (pos v))) 2 tells_naturals (label_in in_list name) content named
      is)
  leaf_first (leaves.Number n) name tag content named is small in_list number =
      one_first named (value_heads {A = ℤ} {is_value = λ v. Unit {0}} (λ v. tlv 2 (shortest v)) 2 tells_numbers (label_in in_list name) content named is)
  leaf_first leaves.Microseconds name tag content named is small in_list number =
      one_first named (value_heads {A = ℤ} {is_value = λ v. Unit {0}} (λ v. tlv 2 (shortest v)) 2 tells_numbers (label_in in_list name) content named is)
  leaf_first leaves.Flags name tag content named is small in_list number =
      one_first named (value_heads {A = Bits} {is_value = IsBits} (λ v. tlv 3 (bits_content v)) 3 tells_flags (label_in in_list name) content named is)
  leaf_first leaves.Bits name tag content named is small in_list number =
      one_first named (value_heads {A = Bits} {is_value = IsBits} (λ v. tlv 3 (bits_content v)) 3 tells_flags (label_in in_list name) content named is)
  leaf_first leaves.Text name tag content named is small in_list number =
      one_first named (tells_texts.heads (label_in in_list name) content named (octets_within tag content small))
  leaf_first leaves.Component name tag content named is small in_list number =
      one_first named (tells_texts.heads (label_in in_list name) content named (octets_within tag content small))
  leaf_first leaves.Time name tag content named is small in_list number =
      one_first named (value_heads {A = Time} {is_value = IsRealTime} (λ v. tlv 24 (time_content v)) 24 tells_times (label_in in_list name) content named is)
  leaf_first leaves.Octets name tag content named is small in_list number =
      octets_first name.role number (label_in in_list name) content named (octets_within tag content small)
  leaf_first leaves.Secret name tag content named is small in_list number =
      one_first named (tells_secrets.heads (label_in in_list name) content named (octets_within tag content small))
  leaf_first leaves.Cipher name tag content named is small in_list number =
      one_first named (tells_ciphers.heads (label_in in_list name) content named (octets_within tag content small))
  leaf_first leaves.Truth name tag content named is small in_list number =
      one_first named (value_heads {A = Bool} {is_value = λ v. Unit {0}} (λ v. tlv 1 (bool_content v)) 1 tells_truths (label_in in_list name) content named is)
  leaf_first leaves.Identifier name tag content named is small in_list number =
      one_first named (value_heads {A = List ℕ} {is_value = IsArcs} (λ v. tlv 6 (arcs_content v)) 6 tells_arcs (label_in in_list name) content named is)
  leaf_first leaves.Any name tag content named is small in_list number = one_first named (any_heads (label_in in_list name) tag content)

  pub leaf_told : (kind : Leaf) (name : Name) (tag : ℕ) (content other : List ℕ) → is_name name.text.now ≡ true → IsContent kind content → IsContent kind other
      → IsOctets (tlv tag content) → IsOctets (tlv tag other) → (in_list : Bool) (number another : List ℕ)
      → Tells (λ names. names_of (leaf_firsts kinds kind name.text.now name.role)) (λ names. true) (number ≡ another) (content ≡ other)
      (leaf_shown tells kind name tag content in_list number) (leaf_shown tells kind name tag other in_list another)
  leaf_told leaves.Integer name tag content other named is are small little in_list number another =
      tells_so (λ e. tt) (λ e. e) (value_told {A = ℤ} {is_value = λ v. Unit {0}} (λ v. tlv 2 (shortest v)) 2 tells_numbers (label_in in_list name) content other
      named is are)
  leaf_told leaves.Unsigned name tag content other named is are small little in_list number another =
      tells_so (λ e. tt) (λ e. e) (value_told {A = ℕ} {is_value = λ v. v < 2 ^ 32} (λ v. tlv 2 (shortest (pos v))) 2 tells_naturals (label_in in_list name)
      content other named is are)
  leaf_told (leaves.Number n) name tag content other named is are small little in_list number another =
      tells_so (λ e. tt) (λ e. e) (value_told {A = ℤ} {is_value = λ v. Unit {0}} (λ v. tlv 2 (shortest v)) 2 tells_numbers (label_in in_list name) content other
      named is are)
  leaf_told leaves.Microseconds name tag content other named is are small little in_list number another =
      tells_so (λ e. tt) (λ e. e) (value_told {A = ℤ} {is_value = λ v. Unit {0}} (λ v. tlv 2 (shortest v)) 2 tells_numbers (label_in in_list name) content other
      named is are)
  leaf_told leaves.Flags name tag content other named is are small little in_list number another =
      tells_so (λ e. tt) (λ e. e) (value_told {A = Bits} {is_value = IsBits} (λ v. tlv 3 (bits_content v)) 3 tells_flags (label_in in_list name) content other
      named is are)
  leaf_told leaves.Bits name tag content other named is are small little in_list number another =
      tells_so (λ e. tt) (λ e. e) (value_told {A = Bits} {is_value = IsBits} (λ v. tlv 3 (bits_content v)) 3 tells_flags (label_in in_list name) content other
      named is are)
  leaf_told leaves.Text name tag content other named is are small little in_list number another =
      tells_so (λ e. tt) (λ e. e) (tells_texts.tells (label_in in_list name) content other named (octets_within tag content small)
      (octets_within tag other little))
  leaf_told leaves.Component name tag content other named is are small little in_list number another =
      tells_so (λ e. tt) (λ e. e) (tells_texts.tells (label_in in_list name) content other named (octets_within tag content small)
      (octets_within tag other little))
  leaf_told leaves.Time name tag content other named is are small little in_list number another =
      tells_so (λ e. tt) (λ e. e) (value_told {A = Time} {is_value = IsRealTime} (λ v. tlv 24 (time_content v)) 24 tells_times (label_in in_list name) content
      other named is are)
  leaf_told leaves.Octets name tag content other named is are small little in_list number another =
      tells_from (firsts_block (octets_first name.role number (label_in in_list name) content named (octets_within tag content small)))
      (firsts_block (octets_first name.role another (label_in in_list name) other named (octets_within tag other little)))
      (octets_told name.role number another (label_in in_list name) content other named (octets_within tag content small) (octets_within tag other little))
  leaf_told leaves.Secret name tag content other named is are small little in_list number another =
      tells_so (λ e. tt) (λ e. e) (tells_secrets.tells (label_in in_list name) content other named (octets_within tag content small)
      (octets_within tag other little))
  leaf_told leaves.Cipher name tag content other named is are small little in_list number another =
      tells_so (λ e. tt) (λ e. e) (tells_ciphers.tells (label_in in_list name) content other named (octets_within tag content small)
      (octets_within tag other little))
  leaf_told leaves.Truth name tag content other named is are small little in_list number another =
      tells_so (λ e. tt) (λ e. e) (value_told {A = Bool} {is_value = λ v. Unit {0}} (λ v. tlv 1 (bool_content v)) 1 tells_truths (label_in in_list name) content
      other named is are)
  leaf_told leaves.Identifier name tag content other named is are small little in_list number another =
      tells_so (λ e. tt) (λ e. e) (value_told {A = List ℕ} {is_value = IsArcs} (λ v. tlv 6 (arcs_content v)) 6 tells_arcs (label_in in_list name) content other
      named is are)
  leaf_told leaves.Any name tag content other named is are small little in_list number another =
      tells_so (λ e. tt) (λ e. e.1) (any_told (label_in in_list name) tag tag content other named small little)
