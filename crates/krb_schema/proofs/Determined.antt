-- Items and the contents of their leaves determine the octets, whatever the schema.
use Rattle.std.proofs.Common.{◌≡◌, ℕ, ◌+◌, refl, sym, ap, ◌∙◌, subst, List, [], ◌∷◌, ◌++◌, length, take, drop, arith}
use Rattle.std.proofs.lemmas.List.{append-nil, append_assoc, length-append, take_at, drop_at}
use Rattle.krb_der_core.specs.Tlv.{header, tlv}
use Rattle.krb_schema.specs.declared.shape.Leaf.{Leaf}
use Rattle.krb_schema.specs.declared.item.Node.{Node}
use Rattle.krb_schema.specs.declared.item.Form.{Form}
use Rattle.krb_schema.specs.declared.item.Form.TheVariants as form
use Rattle.krb_schema.specs.declared.item.Item.{Item}
use Rattle.krb_schema.specs.Forests.{Forest, none, leaf, node, enc, item, items_at}
use Rattle.krb_schema.specs.Laws.{contents, content_at, contents_at}
use Rattle.krb_schema.specs.Walks.{Walked}

-- nothing, or an end
abbrev ends_form : Form → Type 0
ends_form (form.Leaf kind) = ⊥
ends_form (form.Begin kind) = ⊥
ends_form (form.End kind) = Unit {0}

abbrev Ends : List Item → Type 0
Ends [] = Unit {0}
Ends (i ∷ items) = ends_form i.form

abbrev first_form : Form → List Item → Form
first_form f [] = f
first_form f (i ∷ items) = i.form

abbrev first_tag : List Item → ℕ
first_tag [] = 0
first_tag (i ∷ items) = i.tag

abbrev behind : List Item → List Item
behind [] = []
behind (i ∷ items) = items

record Same (f g : Forest) (r s : List Item) (k l : List (List ℕ)) : Type 0 where
  octets : enc f ≡ enc g
  items : r ≡ s
  rest : k ≡ l

ends_at : (r : List Item) (i : Item) (items : List Item) → r ≡ i ∷ items → Ends r → ends_form i.form
ends_at r i items e h = subst Ends e h

abbrev head_of : List ℕ → List (List ℕ) → List ℕ
head_of d [] = d
head_of d (c ∷ cs) = c

abbrev tail_of : List (List ℕ) → List (List ℕ)
tail_of [] = []
tail_of (c ∷ cs) = cs

abbrev is_leaf : Form → Type 0
is_leaf (form.Leaf kind) = Unit {0}
is_leaf (form.Begin kind) = ⊥
is_leaf (form.End kind) = ⊥

leaf_is_no_begin : (kind : Leaf) (other : Node) → form.Leaf kind ≡ form.Begin other → ⊥
leaf_is_no_begin kind other e = subst is_leaf e tt

same : (f g : Forest) (depth at place : ℕ) (r s : List Item) (k l : List (List ℕ)) → Ends r → Ends s
    → items_at depth at f ++ r ≡ items_at depth place g ++ s → contents f ++ k ≡ contents g ++ l → Same f g r s k l
same none none depth at place r s k l hr hs e c = record { octets = refl; items = e; rest = c }
same none (leaf kind name tag content rest) depth at place r s k l hr hs e c = absurd (ends_at r _ _ e hr)
same none (node kind name tag inside rest) depth at place r s k l hr hs e c = absurd (ends_at r _ _ e hr)
same (leaf kind name tag content rest) none depth at place r s k l hr hs e c = absurd (ends_at s _ _ (sym e) hs)
same (node kind name tag inside rest) none depth at place r s k l hr hs e c = absurd (ends_at s _ _ (sym e) hs)
same (leaf kind name tag content rest) (node kind' name' tag' inside' rest') depth at place r s k l hr hs e c =
    absurd (leaf_is_no_begin kind kind' (ap (first_form (form.Leaf kind)) e))
same (node kind name tag inside rest) (leaf kind' name' tag' content' rest') depth at place r s k l hr hs e c =
    absurd (leaf_is_no_begin kind' kind (ap (first_form (form.Leaf kind')) (sym e)))
same (leaf kind name tag content rest) (leaf kind' name' tag' content' rest') depth at place r s k l hr hs e c =
    let t : tag ≡ tag' = ap first_tag e in
    let d : content ≡ content' = ap (head_of []) c in
    let w = same rest rest' depth (at + length (tlv tag content)) (place + length (tlv tag' content')) r s k l hr hs (ap behind e) (ap tail_of c) in
    record {
      octets = ap (λ (n : ℕ). tlv n content ++ enc rest) t ∙ ap (λ (o : List ℕ). tlv tag' o ++ enc rest) d ∙ ap (λ (o : List ℕ). tlv tag' content' ++ o) w.octets;
      items = w.items;
      rest = w.rest;
    }
same (node kind name tag inside rest) (node kind' name' tag' inside' rest') depth at place r s k l hr hs e c =
    let t : tag ≡ tag' = ap first_tag e in
    let within = items_at (depth + 1) (at + length (header tag (length (enc inside)))) inside in
    let within' = items_at (depth + 1) (place + length (header tag' (length (enc inside')))) inside' in
    let end = item (form.End kind) name depth tag at (length (enc inside)) in
    let end' = item (form.End kind') name' depth tag' place (length (enc inside')) in
    let last = items_at depth (at + length (tlv tag (enc inside))) rest in
    let last' = items_at depth (place + length (tlv tag' (enc inside'))) rest' in
    let inner : within ++ ((end ∷ last) ++ r) ≡ within' ++ ((end' ∷ last') ++ s) = sym (append_assoc within (end ∷ last) r) ∙ ap behind e ∙ append_assoc within' (end' ∷ last') s in
    let held : contents inside ++ (contents rest ++ k) ≡ contents inside' ++ (contents rest' ++ l) =
    sym (append_assoc (contents inside) (contents rest) k) ∙ c ∙ append_assoc (contents inside') (contents rest') l in
    let v = same inside inside' (depth + 1) (at + length (header tag (length (enc inside)))) (place + length (header tag' (length (enc inside'))))
    ((end ∷ last) ++ r) ((end' ∷ last') ++ s) (contents rest ++ k) (contents rest' ++ l) tt tt inner held in
    let w = same rest rest' depth (at + length (tlv tag (enc inside))) (place + length (tlv tag' (enc inside'))) r s k l hr hs (ap behind v.items) v.rest in
    record {
      octets = ap (λ (n : ℕ). tlv n (enc inside) ++ enc rest) t ∙ ap (λ (o : List ℕ). tlv tag' o ++ enc rest) v.octets ∙ ap (λ (o : List ℕ). tlv tag' (enc inside') ++ o) w.octets;
      items = w.items;
      rest = w.rest;
    }

-- ---- what stands at the places of leaves

inside_tlv : (tag : ℕ) (content : List ℕ) → tlv tag content ≡ header tag (length content) ++ content
unfolding tlv
inside_tlv tag content = refl

at_place : (before content after : List ℕ) (n : ℕ) → n ≡ length before → take (length content) (drop n (before ++ (content ++ after))) ≡ content
at_place before content after n e = rw (drop_at before (content ++ after) n (sym e)) (take_at content after (length content) refl)

contents_beside : (octets : List ℕ) (xs ys : List Item) → contents_at octets (xs ++ ys) ≡ contents_at octets xs ++ contents_at octets ys
contents_beside octets [] ys = refl
contents_beside octets (i ∷ xs) ys = ap (λ l. content_at octets i.form i ++ l) (contents_beside octets xs ys) ∙ sym (append_assoc (content_at octets i.form i) (contents_at octets xs) (contents_at octets ys))

placed : (f : Forest) (depth at : ℕ) (octets before after : List ℕ) → octets ≡ before ++ (enc f ++ after) → at ≡ length before
    → contents_at octets (items_at depth at f) ≡ contents f
placed none depth at octets before after e p = refl
placed (leaf kind name tag content rest) depth at octets before after e p =
    let h = header tag (length content) in
    let whole : octets ≡ (before ++ h) ++ (content ++ (enc rest ++ after)) =
    e ∙ ap (λ (o : List ℕ). before ++ ((o ++ enc rest) ++ after)) (inside_tlv tag content) ∙ simp append_assoc in
    let here : take (length content) (drop (at + length h) octets) ≡ content =
    rw whole (at_place (before ++ h) content (enc rest ++ after) (at + length h) (omega (arith, p, length-append before h))) in
    let further = placed rest depth (at + length (tlv tag content)) octets (before ++ tlv tag content) after
    (e ∙ simp append_assoc) (omega (arith, p, length-append before (tlv tag content))) in
    ap (λ (c : List ℕ). c ∷ contents_at octets (items_at depth (at + length (tlv tag content)) rest)) here ∙ ap (λ (l : List (List ℕ)). content ∷ l) further
placed (node kind name tag inside rest) depth at octets before after e p =
    let h = header tag (length (enc inside)) in
    let within = items_at (depth + 1) (at + length h) inside in
    let end = item (form.End kind) name depth tag at (length (enc inside)) in
    let last = items_at depth (at + length (tlv tag (enc inside))) rest in
    let whole : octets ≡ (before ++ h) ++ (enc inside ++ (enc rest ++ after)) =
    e ∙ ap (λ (o : List ℕ). before ++ ((o ++ enc rest) ++ after)) (inside_tlv tag (enc inside)) ∙ simp append_assoc in
    let v = placed inside (depth + 1) (at + length h) octets (before ++ h) (enc rest ++ after) whole (omega (arith, p, length-append before h)) in
    let w = placed rest depth (at + length (tlv tag (enc inside))) octets (before ++ tlv tag (enc inside)) after
    (e ∙ simp append_assoc) (omega (arith, p, length-append before (tlv tag (enc inside)))) in
    contents_beside octets within (end ∷ last) ∙ ap (λ (l : List (List ℕ)). l ++ contents_at octets last) v ∙ ap (λ (l : List (List ℕ)). contents inside ++ l) w

-- ---- the law

pub one_octets : (R S : Forest → Type 0) (octets other : List ℕ) (items : List Item) → Walked R octets 0 0 [] items → Walked S other 0 0 [] items
    → contents_at octets items ≡ contents_at other items → octets ≡ other
one_octets R S octets other items v w e =
    let f = v.0 in
    let g = w.0 in
    let of_f : contents_at octets items ≡ contents f =
    ap (contents_at octets) v.3 ∙ placed f 0 0 octets [] [] (v.2 ∙ sym (append-nil (enc f))) refl in
    let of_g : contents_at other items ≡ contents g =
    ap (contents_at other) w.3 ∙ placed g 0 0 other [] [] (w.2 ∙ sym (append-nil (enc g))) refl in
    let c : contents f ≡ contents g = sym of_f ∙ e ∙ of_g in
    let i : items_at 0 0 f ≡ items_at 0 0 g = sym v.3 ∙ w.3 in
    let s = same f g 0 0 0 [] [] [] [] tt tt (ap (λ (l : List Item). l ++ []) i) (ap (λ (l : List (List ℕ)). l ++ []) c) in
    v.2 ∙ s.octets ∙ sym w.2
