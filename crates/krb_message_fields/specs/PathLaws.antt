-- A path leads to one place.
use Rattle.std.proofs.Common.{◌≡◌, ℕ, List, [], ◌∷◌, length, sym, subst, ◌∙◌, arith}
use Rattle.std.proofs.lemmas.List.{append-nil}
use Rattle.krb_message_fields.specs.declared.places.place.Step.{Step}
use Rattle.krb_message_fields.specs.declared.places.place.Step.TheVariants.{Tag, Item}
use Rattle.krb_message_fields.specs.Paths.{IsPlace, IsStep, Leads}
use Rattle.krb_message_fields.specs.RowLaws.{Stands, stands_at, stands_deeper, stands_inside, field_stands, item_stands, one_field, one_item}

pub step_stands : (step : Step) (octets : List ℕ) (start : ℕ) (within : List ℕ) → IsStep step octets start within → Stands octets start within
step_stands (Tag tag) octets start within f = field_stands tag octets start within f
step_stands (Item index) octets start within f = item_stands index octets start within f

pub leads_stands : (path : List Step) (octets : List ℕ) (start : ℕ) (end : List ℕ) → Leads path octets start end → Stands octets start end
leads_stands [] octets start end f = record { before = []; after = []; whole = sym f.1 ∙ sym (append-nil end); begins = f.0 }
leads_stands (step ∷ path) octets start end f =
    subst (λ (n : ℕ). Stands octets n end) (sym f.5) (stands_deeper octets f.1 end f.0 f.2 (step_stands step octets f.0 f.1 f.3) (leads_stands path f.1 f.2 end f.4))

pub one_step : (step : Step) (octets : List ℕ) (start begin : ℕ) (within other : List ℕ) → IsStep step octets start within → IsStep step octets begin other → (start ≡ begin) × (within ≡ other)
one_step (Tag tag) octets start begin within other f g = one_field tag octets start begin within other f g
one_step (Item index) octets start begin within other f g = one_item index octets start begin within other f g

pub one_end : (path : List Step) (octets : List ℕ) (start begin : ℕ) (end other : List ℕ) → Leads path octets start end → Leads path octets begin other → (start ≡ begin) × (end ≡ other)
one_end [] octets start begin end other f g = (f.0 ∙ sym g.0, f.1 ∙ sym g.1)
one_end (step ∷ path) octets start begin end other f g =
    let s = one_step step octets f.0 g.0 f.1 g.1 f.3 g.3 in
    let k = subst (λ (l : List ℕ). Leads path l f.2 end) s.1 f.4 in
    let r = one_end path g.1 f.2 g.2 end other k g.4 in
    (omega (arith, f.5, g.5, s.0, r.0), r.1)

-- the place at the end of a path, from its end
pub place_found : (path : List Step) (octets : List ℕ) (start : ℕ) (end : List ℕ) → Leads path octets start end → IsPlace path octets (record { offset = start; size = length end })
place_found path octets start end f =
    let s = leads_stands path octets start end f in
    record { leads = subst (λ (l : List ℕ). Leads path octets start l) (sym (stands_at octets start end s)) f; inside = stands_inside octets start end s }
