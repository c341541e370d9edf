use Rattle.std.proofs.Common.{ap, arith, ◌++◌, ◌∷◌, [], ◌∙◌, Option}
use Rattle.krb_message_fields.specs.declared.places.place.Place.{Place}
use Rattle.krb_show_pages.proofs.KeytabParts.{component_fits, component_step}
use Rattle.krb_show_pages.proofs.files.keytab_places.push_components.Goals as goal

pub overflow_add-start : goal.overflow_add-start
overflow_add-start c =
    omega (arith, c.requires, c.components.invariant.1, component_fits c.args.components.now c.components.component-index (record { ref_ptr = (0, 0); now = [] }) c.components-test.true)

pub overflow_add-at : goal.overflow_add-at
overflow_add-at c =
    omega (arith, c.requires, c.components.invariant.1, component_fits c.args.components.now c.components.component-index (record { ref_ptr = (0, 0); now = [] }) c.components-test.true)

pub components-preserved : goal.components-preserved
components-preserved c =
    component_step c.args.at c.components.at c.components.component-index c.args.components.now _ c.args.places.now.items c.components.places.items
    c.push.new.self.items c.components-test.true c.components.invariant.0 c.components.invariant.1
    (c.in_ok-push.ensures.items ∙ ap (λ (p : Option Place). c.components.places.items ++ p ∷ []) c.place_at.ensures)
