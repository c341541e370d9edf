-- Where items stand, and how many elements a list has.
use Rattle.std.proofs.Common.{◌≡◌, ℕ, suc, ◌+◌, ◌-◌, ◌<◌, nat_eq, nat_lt, Bool, true, false, ◌&&◌, refl, ap, ◌∙◌, List, [], ◌∷◌, ◌++◌, length, take, arith}
use Rattle.std.specs.Prelude.{Some}
use Rattle.std.specs.List.{slice_get}
use Rattle.std.proofs.lemmas.Grind.{common_steps}
use Rattle.std.proofs.lemmas.List.{append_assoc}
use Rattle.krb_der_core.specs.Tlv.{header, tlv}
use Rattle.krb_schema.specs.declared.item.Form.TheVariants as form
use Rattle.krb_schema.specs.declared.item.Item.{Item}
use Rattle.krb_schema.specs.declared.item.Node.{Node}
use Rattle.krb_schema.specs.declared.shape.Name.{Name}
use Rattle.krb_schema.specs.Forests.{Forest, none, leaf, node, enc, item, items_at}
use Rattle.krb_show.specs.Items.{begins_name, elements, is_begun}
use Rattle.krb_show_row_laws.specs.Pages.{count, is_of_name}
use Rattle.krb_show_row_laws.proofs.WordLaws.{chosen, other}

-- ---- what stands innermost

last_at : {A : Type 0} (all : List A) (x : A) → slice_get (all ++ x ∷ []) (length all) ≡ Some x
last_at [] x = refl
last_at (y ∷ all) x = last_at all x

front_of : {A : Type 0} (all : List A) (x : A) → take (length all) (all ++ x ∷ []) ≡ all
front_of [] x = refl
front_of {A} (y ∷ all) x = ap (λ (l : List A). y ∷ l) (front_of all x)

length_more : {A : Type 0} (all : List A) (x : A) → length (all ++ x ∷ []) ≡ suc (length all)
length_more [] x = refl
length_more (y ∷ all) x = ap (λ (n : ℕ). suc n) (length_more all x)

length_less : {A : Type 0} (all : List A) (x : A) → length (all ++ x ∷ []) - 1 ≡ length all
length_less all x = let e = length_more all x in omega arith

-- the last of a list with one more
pub last_of : {A : Type 0} (all : List A) (x : A) → slice_get (all ++ x ∷ []) (length (all ++ x ∷ []) - 1) ≡ Some x
last_of {A} all x = ap (λ (n : ℕ). slice_get (all ++ x ∷ []) n) (length_less all x) ∙ last_at all x

pub without_last : {A : Type 0} (all : List A) (x : A) → take (length (all ++ x ∷ []) - 1) (all ++ x ∷ []) ≡ all
without_last all x = ap (λ (n : ℕ). take n (all ++ x ∷ [])) (length_less all x) ∙ front_of all x

-- ---- elements of a list

pub first_name : (f : Forest) (depth at : ℕ) (kind : Node) (name : Name) (d t a n : ℕ) (more : List Item)
    → begins_name (items_at depth at f ++ item (form.End kind) name d t a n ∷ more) ≡ is_of_name f
first_name none depth at kind name d t a n more = refl
first_name (leaf k called tag content rest) depth at kind name d t a n more = refl
first_name (node k called tag inside rest) depth at kind name d t a n more = refl

not_less : (m n : ℕ) → (m < n → ⊥) → nat_lt m n ≡ false
not_less m n h = grind (arith, common_steps)

less : (m n : ℕ) → m < n → nat_lt m n ≡ true
less m n h = grind (arith, common_steps)

not_same : (m n : ℕ) (b : Bool) → n < m → nat_eq m n && b ≡ false
not_same m n b h = grind (arith, common_steps)

same : (n : ℕ) → nat_eq n n ≡ true
same n = grind (arith, common_steps)

not_begun : (b : Bool) → b && false ≡ false
not_begun true = refl
not_begun false = refl

pass : (d : ℕ) (i : Item) (items : List Item) → (i.depth < d → ⊥) → nat_eq i.depth d && is_begun i.form ≡ false → elements d (i ∷ items) ≡ elements d items
pass d i items h e = other (nat_lt i.depth d) _ _ (not_less i.depth d h) ∙ other (nat_eq i.depth d && is_begun i.form) _ _ e

one : (d : ℕ) (i : Item) (items : List Item) → (i.depth < d → ⊥) → nat_eq i.depth d && is_begun i.form ≡ true → elements d (i ∷ items) ≡ suc (elements d items)
one d i items h e = other (nat_lt i.depth d) _ _ (not_less i.depth d h) ∙ chosen (nat_eq i.depth d && is_begun i.form) _ _ e

deeper : (d e : ℕ) → d < e → e < d → ⊥
deeper d e h k = omega arith

itself : (d : ℕ) → d < d → ⊥
itself d h = omega arith

-- deeper elements do not count
pub skipped : (f : Forest) (d e at : ℕ) → d < e → (more : List Item) → elements d (items_at e at f ++ more) ≡ elements d more
skipped none d e at h more = refl
skipped (leaf kind name tag content rest) d e at h more =
    pass d (item (form.Leaf kind) name e tag at (length content)) (items_at e (at + length (tlv tag content)) rest ++ more) (deeper d e h) (not_same e d true h)
    ∙ skipped rest d e (at + length (tlv tag content)) h more
skipped (node kind name tag inside rest) d e at h more =
    let size = length (enc inside) in
    let end = item (form.End kind) name e tag at size in
    let last = items_at e (at + length (tlv tag (enc inside))) rest in
    let within = items_at (e + 1) (at + length (header tag size)) inside in
    pass d (item (form.Begin kind) name e tag at size) ((within ++ end ∷ last) ++ more) (deeper d e h) (not_same e d true h)
    ∙ ap (elements d) (append_assoc within (end ∷ last) more)
    ∙ skipped inside d (e + 1) (at + length (header tag size)) (omega arith) (end ∷ (last ++ more))
    ∙ pass d end (last ++ more) (deeper d e h) (not_same e d false h)
    ∙ skipped rest d e (at + length (tlv tag (enc inside))) h more

counted : (f : Forest) (d at : ℕ) (more : List Item) → elements d (items_at d at f ++ more) ≡ count f + elements d more
counted none d at more = omega arith
counted (leaf kind name tag content rest) d at more =
    one d (item (form.Leaf kind) name d tag at (length content)) (items_at d (at + length (tlv tag content)) rest ++ more) (itself d)
    (ap (λ (b : Bool). b && true) (same d))
    ∙ omega (arith, counted rest d (at + length (tlv tag content)) more)
counted (node kind name tag inside rest) d at more =
    let size = length (enc inside) in
    let end = item (form.End kind) name d tag at size in
    let last = items_at d (at + length (tlv tag (enc inside))) rest in
    let within = items_at (d + 1) (at + length (header tag size)) inside in
    let behind : elements d ((within ++ end ∷ last) ++ more) ≡ count rest + elements d more =
    ap (elements d) (append_assoc within (end ∷ last) more)
    ∙ skipped inside d (d + 1) (at + length (header tag size)) (omega arith) (end ∷ (last ++ more))
    ∙ pass d end (last ++ more) (itself d) (not_begun (nat_eq d d))
    ∙ counted rest d (at + length (tlv tag (enc inside))) more in
    one d (item (form.Begin kind) name d tag at size) ((within ++ end ∷ last) ++ more) (itself d) (ap (λ (b : Bool). b && true) (same d))
    ∙ omega (arith, behind)

-- those of a list, up to its end
pub counted_list : (f : Forest) (depth at : ℕ) (kind : Node) (name : Name) (t a n : ℕ) (more : List Item)
    → elements (suc depth) (items_at (depth + 1) at f ++ item (form.End kind) name depth t a n ∷ more) ≡ count f
counted_list f depth at kind name t a n more =
    let end = item (form.End kind) name depth t a n in
    let ends : elements (depth + 1) (end ∷ more) ≡ 0 = chosen (nat_lt depth (depth + 1)) _ _ (less depth (depth + 1) (omega arith)) in
    let step : suc depth ≡ depth + 1 = omega arith in
    ap (λ (d : ℕ). elements d (items_at (depth + 1) at f ++ end ∷ more)) step ∙ counted f (depth + 1) at (end ∷ more) ∙ omega (arith, ends)
