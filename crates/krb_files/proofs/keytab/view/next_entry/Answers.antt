use Rattle.std.proofs.Common.{Ok, refl, sym, ap, ◌∙◌, arith}
use Rattle.krb_files.proofs.KeytabSteps.{shows_entry, shows_hole, shows_none, shows_error, less_left, octets_left}
use Rattle.krb_files.proofs.keytab.view.next_entry.Goals as goal

pub records-init : goal.records-init
records-init c = (refl, λ i. omega (arith, c.type_inv.octets i))

pub returns-in_default : goal.returns-in_default
returns-in_default c = c.records.invariant.0 ∙ shows_error c.records.rest.now c.in_default.field-0 (sym c.records-test.ensures) c.in_default.ensures

pub returns-in-Some : goal.returns-in-Some
returns-in-Some c =
    c.records.invariant.0 ∙ shows_entry c.records.rest.now c.in-Some.entry c.in-Ok.after.now c.records.invariant.1 (sym c.records-test.ensures) (c.in-Ok.ensures ∙ ap (λ o. Ok (o, c.in-Ok.after.now)) c.in-Some.is)

pub records-smaller : goal.records-smaller
records-smaller c = less_left c.records.rest.now c.in-Ok.entry c.in-Ok.after.now c.records.invariant.1 c.in-Ok.ensures

pub records-preserved : goal.records-preserved
records-preserved c = (
  c.records.invariant.0 ∙ shows_hole c.records.rest.now c.in-Ok.after.now c.records.invariant.1 (sym c.records-test.ensures) (c.in-Ok.ensures ∙ ap (λ o. Ok (o, c.in-Ok.after.now)) c.in_default-entry.is),
  octets_left c.records.rest.now c.in-Ok.entry c.in-Ok.after.now c.records.invariant.1 c.in-Ok.ensures,
)

pub returns : goal.returns
returns c = c.records.invariant.0 ∙ shows_none c.records.rest.now (sym c.records-test.ensures)
