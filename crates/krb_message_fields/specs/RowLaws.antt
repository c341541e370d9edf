-- Elements in a row have one reading: what is found among them is one.
use Rattle.std.proofs.Common.{◌≡◌, ◌≢◌, ℕ, suc, ◌+◌, ◌<◌, ◌≤◌, List, [], ◌∷◌, ◌++◌, length, take, drop, refl, sym, ap, ◌∙◌, append_assoc, length-append, arith}
use Rattle.std.proofs.lemmas.List.{take_at, drop_at}
use Rattle.krb_der_core.specs.Tlv.{len, header, tlv}
use Rattle.krb_der_core.specs.TlvLaws.{tlv_apart}
use Rattle.krb_message_fields.specs.Rows.{Element, IsField, IsItem, NoField, NoFront, NoItem, NoneHas, octets_of, row}

-- an element is its header and its content
pub tlv_parts : (t : ℕ) (c : List ℕ) → tlv t c ≡ header t (length c) ++ c
unfolding tlv
tlv_parts t c = refl

pub tlv_length : (t : ℕ) (c : List ℕ) → length (tlv t c) ≡ length (header t (length c)) + length c
tlv_length t c = rw (tlv_parts t c) (length-append (header t (length c)) c)

pub tlv_some : (t : ℕ) (c : List ℕ) → 0 < length (tlv t c)
unfolding tlv
tlv_some t c = omega arith

pub nothing_in_front : NoFront []
unfolding tlv
nothing_in_front element after e = let f : [] ≡ element.tag ∷ ((len (length element.content) ++ element.content) ++ after) = e in cc

-- octets in the middle of others
middle : (p c after : List ℕ) → take (length c) (drop (length p) (p ++ c ++ after)) ≡ c
middle p c after = rw (append_assoc p c after, drop_at p (c ++ after) (length p) refl) (take_at c after (length c) refl)

middle_inside : (p c after : List ℕ) → length p + length c ≤ length (p ++ c ++ after)
middle_inside p c after = omega (arith, length-append (p ++ c) after, length-append p c)

-- The content stands in the octets, behind so many.
pub record Stands (octets : List ℕ) (start : ℕ) (content : List ℕ) : Type 0 where
  pub before : List ℕ
  pub after : List ℕ
  pub whole : octets ≡ before ++ content ++ after
  pub begins : start ≡ length before

pub stands_at : (octets : List ℕ) (start : ℕ) (content : List ℕ) → Stands octets start content → take (length content) (drop start octets) ≡ content
stands_at octets start content s = rw (s.whole, s.begins) (middle s.before content s.after)

pub stands_inside : (octets : List ℕ) (start : ℕ) (content : List ℕ) → Stands octets start content → start + length content ≤ length octets
stands_inside octets start content s = rw (s.whole, s.begins) (middle_inside s.before content s.after)

-- what stands in what stands there stands there
pub stands_deeper : (octets within content : List ℕ) (outer inner : ℕ) → Stands octets outer within → Stands within inner content → Stands octets (outer + inner) content
stands_deeper octets within content outer inner f g = record {
  before = f.before ++ g.before;
  after = g.after ++ f.after;
  whole = f.whole ∙ ap (λ (l : List ℕ). f.before ++ l ++ f.after) g.whole ∙ simp append_assoc;
  begins = omega (arith, f.begins, g.begins, length-append f.before g.before);
}

-- ---- the first element with a tag

pub field_stands : (tag : ℕ) (octets : List ℕ) (start : ℕ) (content : List ℕ) → IsField tag octets start content → Stands octets start content
field_stands tag octets start content f =
    let h = header tag (length content) in
    record {
      before = row f.before ++ h;
      after = f.after;
      whole = f.whole ∙ ap (λ (l : List ℕ). row f.before ++ l ++ f.after) (tlv_parts tag content) ∙ ap (λ (l : List ℕ). l ++ f.after) (sym (append_assoc (row f.before) h content));
      begins = f.begins ∙ sym (length-append (row f.before) h);
    }

pub item_stands : (index : ℕ) (octets : List ℕ) (start : ℕ) (item : List ℕ) → IsItem index octets start item → Stands octets start item
item_stands index octets start item f = record { before = row f.before; after = f.after; whole = f.whole; begins = f.begins }

pub field_here : (tag : ℕ) (content after octets : List ℕ) (start : ℕ) → octets ≡ tlv tag content ++ after → start ≡ length (header tag (length content)) → IsField tag octets start content
field_here tag content after octets start e f = record { before = []; after = after; others = tt; whole = e; begins = omega (arith, f) }

pub field_after : (tag : ℕ) (element : Element) (rest octets : List ℕ) (start : ℕ) (content : List ℕ) → element.tag ≢ tag → octets ≡ octets_of element ++ rest
    → IsField tag rest start content → IsField tag octets (length (octets_of element) + start) content
field_after tag element rest octets start content other e f = record {
  before = element ∷ f.before;
  after = f.after;
  others = (other, f.others);
  whole = e ∙ ap (λ (l : List ℕ). octets_of element ++ l) f.whole ∙ simp append_assoc;
  begins = omega (arith, f.begins, length-append (octets_of element) (row f.before));
}

regroup : (a b c d : List ℕ) → (a ++ b) ++ c ++ d ≡ a ++ (b ++ c ++ d)
regroup a b c d = simp append_assoc

-- what is found among elements is not before the first of them
not_after : (tag : ℕ) (element : Element) (rest content : List ℕ) → element.tag ≢ tag → ((before : List Element) (after : List ℕ) → NoneHas tag before → rest ≡ row before ++ tlv tag content ++ after → ⊥)
    → (before : List Element) (after : List ℕ) → NoneHas tag before → octets_of element ++ rest ≡ row before ++ tlv tag content ++ after → ⊥
not_after tag element rest content other none [] after others e = other (tlv_apart element.tag tag element.content content rest after e).tag
not_after tag element rest content other none (first ∷ before) after others e =
    let f = e ∙ regroup (octets_of first) (row before) (tlv tag content) after in
    none before after others.1 (tlv_apart element.tag first.tag element.content first.content rest (row before ++ tlv tag content ++ after) f).rest

pub no_field_after : (tag : ℕ) (element : Element) (rest octets : List ℕ) → element.tag ≢ tag → octets ≡ octets_of element ++ rest → NoField tag rest → NoField tag octets
no_field_after tag element rest octets other e none start content f =
    not_after tag element rest content other
    (λ before after others g. none (length (row before) + length (header tag (length content))) content (record { before = before; after = after; others = others; whole = g; begins = refl }))
    f.before f.after f.others (sym e ∙ f.whole)

never : (tag : ℕ) (octets content : List ℕ) → NoFront octets → (before : List Element) (after : List ℕ) → octets ≡ row before ++ tlv tag content ++ after → ⊥
never tag octets content none [] after e = none (record { tag = tag; content = content }) after e
never tag octets content none (first ∷ before) after e = none first (row before ++ tlv tag content ++ after) (e ∙ regroup (octets_of first) (row before) (tlv tag content) after)

pub no_field_there : (tag : ℕ) (octets : List ℕ) → NoFront octets → NoField tag octets
no_field_there tag octets none start content f = never tag octets content none f.before f.after f.whole

same_rows : (tag : ℕ) (content other x y : List ℕ) (before former : List Element) → NoneHas tag before → NoneHas tag former
    → row before ++ tlv tag content ++ x ≡ row former ++ tlv tag other ++ y → (row before ≡ row former) × (content ≡ other)
same_rows tag content other x y [] [] h k e = (refl, (tlv_apart tag tag content other x y e).content)
same_rows tag content other x y [] (b ∷ former) h k e =
    absurd (k.0 (sym (tlv_apart tag b.tag content b.content x (row former ++ tlv tag other ++ y) (e ∙ regroup (octets_of b) (row former) (tlv tag other) y)).tag))
same_rows tag content other x y (a ∷ before) [] h k e =
    absurd (h.0 (tlv_apart a.tag tag a.content other (row before ++ tlv tag content ++ x) y (sym (regroup (octets_of a) (row before) (tlv tag content) x) ∙ e)).tag)
same_rows tag content other x y (a ∷ before) (b ∷ former) h k e =
    let s = tlv_apart a.tag b.tag a.content b.content (row before ++ tlv tag content ++ x) (row former ++ tlv tag other ++ y)
    (sym (regroup (octets_of a) (row before) (tlv tag content) x) ∙ e ∙ regroup (octets_of b) (row former) (tlv tag other) y) in
    let r = same_rows tag content other x y before former h.1 k.1 s.rest in
    let t = s.tag in
    let c = s.content in
    let rows = r.0 in
    (cc, r.1)

-- the first element with a tag is one
pub one_field : (tag : ℕ) (octets : List ℕ) (start begin : ℕ) (content other : List ℕ) → IsField tag octets start content → IsField tag octets begin other → (start ≡ begin) × (content ≡ other)
one_field tag octets start begin content other f g =
    let s = same_rows tag content other f.after g.after f.before g.before f.others g.others (sym f.whole ∙ g.whole) in
    (f.begins ∙ ap (λ (l : List ℕ). length l + length (header tag (length content))) s.0 ∙ ap (λ (l : List ℕ). length (row g.before) + length (header tag (length l))) s.1 ∙ sym g.begins, s.1)

-- ---- the element before which so many others stand

pub item_here : (element : Element) (after octets : List ℕ) → octets ≡ octets_of element ++ after → IsItem 0 octets 0 (octets_of element)
item_here element after octets e = record { before = []; element = element; after = after; counted = refl; is_element = refl; whole = e; begins = refl }

pub item_after : (index : ℕ) (element : Element) (rest octets : List ℕ) (start : ℕ) (item : List ℕ) → octets ≡ octets_of element ++ rest
    → IsItem index rest start item → IsItem (suc index) octets (length (octets_of element) + start) item
item_after index element rest octets start item e f = record {
  before = element ∷ f.before;
  element = f.element;
  after = f.after;
  counted = ap suc f.counted;
  is_element = f.is_element;
  whole = e ∙ ap (λ (l : List ℕ). octets_of element ++ l) f.whole ∙ simp append_assoc;
  begins = omega (arith, f.begins, length-append (octets_of element) (row f.before));
}

no_item_of : (index : ℕ) (element last : Element) (rest after : List ℕ) → NoItem index rest → (before : List Element) → length before ≡ suc index
    → octets_of element ++ rest ≡ row before ++ octets_of last ++ after → ⊥
no_item_of index element last rest after none [] h e = absurd (cc)
no_item_of index element last rest after none (first ∷ before) h e =
    let f = e ∙ regroup (octets_of first) (row before) (octets_of last) after in
    let s = tlv_apart element.tag first.tag element.content first.content rest (row before ++ octets_of last ++ after) f in
    none (length (row before)) (octets_of last) (record { before = before; element = last; after = after; counted = (cc); is_element = refl; whole = s.rest; begins = refl })

pub no_item_after : (index : ℕ) (element : Element) (rest octets : List ℕ) → octets ≡ octets_of element ++ rest → NoItem index rest → NoItem (suc index) octets
no_item_after index element rest octets e none start item f =
    no_item_of index element f.element rest f.after none f.before f.counted (sym e ∙ f.whole ∙ ap (λ (l : List ℕ). row f.before ++ l ++ f.after) f.is_element)

pub no_item_there : (index : ℕ) (octets : List ℕ) → NoFront octets → NoItem index octets
no_item_there index octets none start item f =
    never f.element.tag octets f.element.content none f.before f.after (f.whole ∙ ap (λ (l : List ℕ). row f.before ++ l ++ f.after) f.is_element)

same_items : (a b : Element) (x y : List ℕ) (before former : List Element) → length before ≡ length former
    → row before ++ octets_of a ++ x ≡ row former ++ octets_of b ++ y → (row before ≡ row former) × (octets_of a ≡ octets_of b)
same_items a b x y [] [] h e =
    let s = tlv_apart a.tag b.tag a.content b.content x y e in
    let t = s.tag in
    let c = s.content in
    (refl, cc)
same_items a b x y [] (d ∷ former) h e = absurd (cc)
same_items a b x y (d ∷ before) [] h e = absurd (cc)
same_items a b x y (c ∷ before) (d ∷ former) h e =
    let s = tlv_apart c.tag d.tag c.content d.content (row before ++ octets_of a ++ x) (row former ++ octets_of b ++ y)
    (sym (regroup (octets_of c) (row before) (octets_of a) x) ∙ e ∙ regroup (octets_of d) (row former) (octets_of b) y) in
    let r = same_items a b x y before former (cc) s.rest in
    let t = s.tag in
    let k = s.content in
    let rows = r.0 in
    (cc, r.1)

-- it is one
pub one_item : (index : ℕ) (octets : List ℕ) (start begin : ℕ) (item other : List ℕ) → IsItem index octets start item → IsItem index octets begin other → (start ≡ begin) × (item ≡ other)
one_item index octets start begin item other f g =
    let p = ap (λ (l : List ℕ). row f.before ++ l ++ f.after) f.is_element in
    let q = ap (λ (l : List ℕ). row g.before ++ l ++ g.after) g.is_element in
    let s = same_items f.element g.element f.after g.after f.before g.before (f.counted ∙ sym g.counted) (sym p ∙ sym f.whole ∙ g.whole ∙ q) in
    (f.begins ∙ ap length s.0 ∙ sym g.begins, f.is_element ∙ s.1 ∙ sym g.is_element)
