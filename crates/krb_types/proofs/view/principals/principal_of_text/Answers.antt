use Rattle.std.proofs.lemmas.Result.{err_from_is_err_and}
use Rattle.krb_types.proofs.Quoting.{memory_or, no_component, no_realm, more_unread, all_read}
use Rattle.krb_types.proofs.view.principals.principal_of_text.Goals as goal

pub returns-in_err-component-clause-rejected : goal.returns-in_err-component-clause-rejected
returns-in_err-component-clause-rejected c =
    let p = err_from_is_err_and c.from_residual.result c.from_residual.ensures.1 in
    let read = more_unread (λ b. b.now) c.args.text.now c.loop-unread.components.items c.loop-unread.rest.now c.loop-unread.unread c.in-Some.next c.in-Some.is c.loop-unread.invariant.1 in
    rw (p.1, p.2) (memory_or _ _ _ c.in_err-component.ensures.rejected (no_component c.args.text.now c.loop-unread.components.items c.in-Some.next.now read))

pub returns-in_err-realm-clause-rejected : goal.returns-in_err-realm-clause-rejected
returns-in_err-realm-clause-rejected c =
    let p = err_from_is_err_and c.from_residual-in_err-realm.result c.from_residual-in_err-realm.ensures.1 in
    let read = all_read (λ b. b.now) c.args.text.now c.loop-unread.components.items c.loop-unread.rest.now c.loop-unread.unread c.in_default.is c.loop-unread.invariant.1 in
    rw (p.1, p.2) (memory_or _ _ _ c.in_err-realm.ensures.rejected (no_realm c.args.text.now c.loop-unread.components.items c.loop-unread.rest.now read.1 read.2 read.3))
