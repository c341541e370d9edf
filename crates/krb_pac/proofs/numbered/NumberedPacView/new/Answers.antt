use Rattle.std.proofs.Common.{◌<◌, arith, rules}
use Rattle.std.proofs.lemmas.Result.{err_from_is_err_and}
use Rattle.krb_pac.specs.Numbered.{all_numbered}
use Rattle.krb_pac.proofs.Numbering.{computed_pac, no_pac, one_more, one_pac, rejected_after}
use Rattle.krb_pac.proofs.numbered.NumberedPacView.new.Goals as goal

pub entries-preserved : goal.entries-preserved
entries-preserved c = one_more c.args.octets.now c.entries.n c.in_ok-buffer_at.field-0 c.entries.invariant c.in_ok-buffer_at.ensures.found

pub returns-in_err-buffer_at-clause-rejected : goal.returns-in_err-buffer_at-clause-rejected
returns-in_err-buffer_at-clause-rejected c =
    let p = err_from_is_err_and c.from_residual-in_err-buffer_at.result c.from_residual-in_err-buffer_at.ensures.1 in
    rw (p.1, p.2) (rejected_after c.args.octets.now c.in_ok-count.count c.in_ok-version.version c.entries.n c.in_err-buffer_at.field-0.0 c.in_ok-count.ensures.ok c.in_ok-version.ensures.ok
    c.if-version-ne0.false c.entries-test.true c.entries.invariant c.in_err-buffer_at.ensures.rejected)

pub returns-in_err-buffer_at-clause-only : goal.returns-in_err-buffer_at-clause-only
returns-in_err-buffer_at-clause-only c = λ pac h.
    let p = err_from_is_err_and c.from_residual-in_err-buffer_at.result c.from_residual-in_err-buffer_at.ensures.1 in
    rw (p.1) (no_pac c.args.octets.now pac c.in_err-buffer_at.field-0.0 h (rejected_after c.args.octets.now c.in_ok-count.count c.in_ok-version.version c.entries.n
    c.in_err-buffer_at.field-0.0 c.in_ok-count.ensures.ok c.in_ok-version.ensures.ok c.if-version-ne0.false c.entries-test.true c.entries.invariant c.in_err-buffer_at.ensures.rejected) c.in_err-buffer_at.ensures.memory)

pub returns-clause-found : goal.returns-clause-found
returns-clause-found c = computed_pac c.args.octets.now c.in_ok-count.count c.in_ok-version.version c.in_ok-count.ensures.ok c.in_ok-version.ensures.ok c.if-version-ne0.false
    (λ k h. let below : k < c.entries.n = omega arith in c.entries.invariant k below)

pub returns-clause-only : goal.returns-clause-only
returns-clause-only c = λ pac h.
    one_pac c.args.octets.now (all_numbered c.args.octets.now c.in_ok-count.count) pac (computed_pac c.args.octets.now c.in_ok-count.count c.in_ok-version.version c.in_ok-count.ensures.ok
    c.in_ok-version.ensures.ok c.if-version-ne0.false (λ k i. let below : k < c.entries.n = omega arith in c.entries.invariant k below)) h

pub invariant_of-result : goal.invariant_of-result
invariant_of-result c = (search rules, λ k h. let below : k < c.entries.n = omega arith in c.entries.invariant k below)
