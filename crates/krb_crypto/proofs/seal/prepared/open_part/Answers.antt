use Rattle.std.proofs.Common.{inl, inr, ap, ◌∙◌}
use Rattle.std.proofs.lemmas.Result.{err_from_is_err_and}
use Rattle.krb_crypto.specs.BySuite.{padding_octets_of}
use Rattle.krb_crypto.proofs.Parts.{memory_alone, given_from_prefix, prefix_from_given, trailing_from_given}
use Rattle.krb_crypto.proofs.seal.prepared.open_part.Goals as goal

pub returns-in_err-padded-clause-only : goal.returns-in_err-padded-clause-only
returns-in_err-padded-clause-only g c = λ base usage prepared v is given.
    let why = c.in_err-padded.ensures.rejected base usage prepared in
    let p = err_from_is_err_and c.from_residual.result c.from_residual.ensures.1 in
    rw (p.1, p.2) (memory_alone _ _ _ why given)

pub returns-in_err-padded-clause-trailing : goal.returns-in_err-padded-clause-trailing
returns-in_err-padded-clause-trailing g c = λ base usage prepared v rest is given more.
    let why = c.in_err-padded.ensures.rejected base usage prepared in
    let p = err_from_is_err_and c.from_residual.result c.from_residual.ensures.1 in
    rw (p.1, p.2) (inl (memory_alone _ _ _ why given))

pub returns-in_err-padded-clause-crypto : goal.returns-in_err-padded-clause-crypto
returns-in_err-padded-clause-crypto g c = λ base usage prepared.
    let why = c.in_err-padded.ensures.rejected base usage prepared in
    let p = err_from_is_err_and c.from_residual.result c.from_residual.ensures.1 in
    rw (p.1, p.2) why

pub returns-in_err-read_padded-clause-only : goal.returns-in_err-read_padded-clause-only
returns-in_err-read_padded-clause-only g c = λ base usage prepared v is given.
    let opens = c.in_ok-padded.ensures.opened base usage prepared in
    let size = c.fill_size.ensures.value ∙ ap padding_octets_of c.suite.ensures in
    let prefix = prefix_from_given _ _ _ _ opens given in
    let p = err_from_is_err_and c.from_residual-in_err-read_padded.result c.from_residual-in_err-read_padded.ensures.1 in
    rw (p.1, p.2)
    (c.in_err-read_padded.ensures.only v prefix.0 is (c.deref.ensures.value ∙ prefix.1) (rw size prefix.2))

pub returns-in_err-read_padded-clause-trailing : goal.returns-in_err-read_padded-clause-trailing
returns-in_err-read_padded-clause-trailing g c = λ base usage prepared v rest is given more.
    let opens = c.in_ok-padded.ensures.opened base usage prepared in
    let size = c.fill_size.ensures.value ∙ ap padding_octets_of c.suite.ensures in
    let trailing = trailing_from_given _ _ _ _ _ opens given more in
    let p = err_from_is_err_and c.from_residual-in_err-read_padded.result c.from_residual-in_err-read_padded.ensures.1 in
    rw (p.1, p.2)
    (elim (c.in_err-read_padded.ensures.trailing v trailing.0 is (c.deref.ensures.value ∙ trailing.1) (rw size trailing.2))
    [ inl invalid ↦ inr (rw invalid) | inr memory ↦ inl memory ])

pub returns-in_err-read_padded-clause-der : goal.returns-in_err-read_padded-clause-der
returns-in_err-read_padded-clause-der g c = λ base usage prepared.
    let opens = c.in_ok-padded.ensures.opened base usage prepared in
    let size = c.fill_size.ensures.value ∙ ap padding_octets_of c.suite.ensures in
    let p = err_from_is_err_and c.from_residual-in_err-read_padded.result c.from_residual-in_err-read_padded.ensures.1 in
    rw (p.1, p.2) (_, opens, rw (← c.deref.ensures.value, ← size) c.in_err-read_padded.ensures.rejected)

pub returns-in_err-read_padded-clause-first_error : goal.returns-in_err-read_padded-clause-first_error
returns-in_err-read_padded-clause-first_error g c = λ base usage prepared.
    let opens = c.in_ok-padded.ensures.opened base usage prepared in
    let size = c.fill_size.ensures.value ∙ ap padding_octets_of c.suite.ensures in
    let p = err_from_is_err_and c.from_residual-in_err-read_padded.result c.from_residual-in_err-read_padded.ensures.1 in
    rw (p.1, p.2)
    (_, opens, rw (← c.deref.ensures.value, ← size) c.in_err-read_padded.ensures.rejected, rw (← c.deref.ensures.value, ← size) c.in_err-read_padded.ensures.first_error)

pub returns-clause-opened : goal.returns-clause-opened
returns-clause-opened g c = λ base usage prepared.
    let opens = c.in_ok-padded.ensures.opened base usage prepared in
    let size = c.fill_size.ensures.value ∙ ap padding_octets_of c.suite.ensures in
    let found = c.in_ok-read_padded.ensures.found in
    given_from_prefix _ _ _ _ found.0 opens (rw (← c.deref.ensures.value) found.1) (rw (← size) found.2)

pub returns-clause-only : goal.returns-clause-only
returns-clause-only g c = λ base usage prepared v is given.
    let opens = c.in_ok-padded.ensures.opened base usage prepared in
    let size = c.fill_size.ensures.value ∙ ap padding_octets_of c.suite.ensures in
    let prefix = prefix_from_given _ _ _ _ opens given in
    c.in_ok-read_padded.ensures.only v prefix.0 is (c.deref.ensures.value ∙ prefix.1) (rw size prefix.2)

pub returns-clause-trailing : goal.returns-clause-trailing
returns-clause-trailing g c = λ base usage prepared v rest is given more.
    let opens = c.in_ok-padded.ensures.opened base usage prepared in
    let size = c.fill_size.ensures.value ∙ ap padding_octets_of c.suite.ensures in
    let trailing = trailing_from_given _ _ _ _ _ opens given more in
    c.in_ok-read_padded.ensures.trailing v trailing.0 is (c.deref.ensures.value ∙ trailing.1) (rw size trailing.2)
