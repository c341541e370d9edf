use Rattle.std.proofs.Common.{◌≡◌, ◌<◌, true, length, get_or, refl, sym, ◌∙◌, arith}
use Rattle.std.proofs.lemmas.Bool.{eqb-true, false≢true}
use Rattle.krb_der.proofs.FieldSteps.{none_read, some_read}
use Rattle.krb_der.proofs.fields.OptionalOptionFields.read_fields.Goals as goal
use Rattle.krb_der.proofs.fields.OptionalOptionFields.read_fields.Goals.{then-is_empty-via-then-is_empty, then-is_empty-via-else-is_empty+then-not-starts}

pub returns-then-is_empty-clause-reads : goal.returns-then-is_empty-clause-reads
returns-then-is_empty-clause-reads g c = λ follow is_apart w y h hy q.
    let input = c.args.input.now in
    let other : 0 < length input → g.T.DerEncode.first (get_or input 0 0) ≡ true → ⊥ =
    elim c.then-is_empty.branch [
      | then-is_empty-via-then-is_empty w ↦ λ lt k. omega (arith, eqb-true (length input) 0 (sym w.if-is_empty.ensures))
      | then-is_empty-via-else-is_empty+then-not-starts w ↦ λ lt k. false≢true (w.if-not-starts.ensures ∙ k)
    ] in
    none_read g.T.DerEncode.enc g.T.DerEncode.is_value g.T.DerEncode.first g.T.DerEncode.is_element input other _ w y refl h q

pub returns-clause-reads : goal.returns-clause-reads
returns-clause-reads g c = λ follow is_apart w y h hy q.
    some_read g.T.DerEncode.enc g.T.DerEncode.is_value g.T.DerEncode.first g.T.DerEncode.is_element g.T.DerEncode.one_value follow is_apart c.in_ok-value.value c.in_ok-value.taken c.args.input.now _ w y c.in_ok-value.ensures.valid c.in_ok-value.ensures.found refl h hy q
