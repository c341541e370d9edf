use Rattle.std.specs.Prelude.{◌==◌}
use Rattle.std.proofs.Common.{◌≡◌, length, take, drop, ◌-◌, sym}
use Rattle.std.proofs.lemmas.Bool.{eq-eqb, ne_eqb}
use Rattle.std.proofs.lemmas.Result.{err_from_is_err_and}
use Rattle.std.proofs.lemmas.List.{take_rest}
use Rattle.krb_der_core.specs.Reading.{Elements}
use Rattle.krb_der_core.specs.LengthLaws.{rejected_from_meet}
use Rattle.krb_der_core.proofs.Elements.{nothing_read, other_tag, bad_length, short_content, element_read}
use Rattle.krb_der_core.proofs.FirstErrors.{tag_missing, tag_wrong, length_wrong, content_cut}
use Rattle.krb_der_core.proofs.tlv.read_tlv.Goals as goal

pub returns-then-is_empty-clause-rejected : goal.returns-then-is_empty-clause-rejected
returns-then-is_empty-clause-rejected c = nothing_read c.args.tag c.args.input.now (sym c.if-is_empty.ensures)

pub returns-then-input-tag-clause-rejected : goal.returns-then-input-tag-clause-rejected
returns-then-input-tag-clause-rejected c = rejected_from_meet (Elements c.args.tag) c.args.input.now (other_tag c.args.tag c.args.input.now (sym c.if-is_empty.ensures) c.if-input-tag.true)

pub returns-in_err-length-clause-rejected : goal.returns-in_err-length-clause-rejected
returns-in_err-length-clause-rejected c =
    let p = err_from_is_err_and c.from_residual.result c.from_residual.ensures.1 in
    let trailing : take (length c.args.input.now - 1) (drop 1 c.args.input.now) ≡ drop 1 c.args.input.now = take_rest c.args.input.now 1 in
    rw (p.1, p.2) (bad_length c.in_err-length.field-0.0 c.args.tag c.args.input.now (sym c.if-is_empty.ensures) (rw trailing at c.in_err-length.ensures.rejected))

pub returns-then-rest-length-clause-rejected : goal.returns-then-rest-length-clause-rejected
returns-then-rest-length-clause-rejected c =
    let input = c.args.input.now in
    let trailing : take (length input - 1) (drop 1 input) ≡ drop 1 input = take_rest input 1 in
    let rest : take (length (take (length input - 1) (drop 1 input)) - c.in_ok-length.taken) (drop c.in_ok-length.taken (take (length input - 1) (drop 1 input))) ≡ drop c.in_ok-length.taken (drop 1 input) = rw trailing (take_rest (drop 1 input) c.in_ok-length.taken) in
    short_content c.args.tag c.in_ok-length.length c.in_ok-length.taken input (sym c.if-is_empty.ensures) (rw trailing at c.in_ok-length.ensures.found) (rw rest at c.if-rest-length.true)

pub returns-clause-found : goal.returns-clause-found
returns-clause-found c =
    let input = c.args.input.now in
    let trailing : take (length input - 1) (drop 1 input) ≡ drop 1 input = take_rest input 1 in
    let rest : take (length (take (length input - 1) (drop 1 input)) - c.in_ok-length.taken) (drop c.in_ok-length.taken (take (length input - 1) (drop 1 input))) ≡ drop c.in_ok-length.taken (drop 1 input) = rw trailing (take_rest (drop 1 input) c.in_ok-length.taken) in
    rw rest (element_read c.args.tag c.in_ok-length.length c.in_ok-length.taken input (sym c.if-is_empty.ensures) c.if-input-tag.false (rw trailing at c.in_ok-length.ensures.found) (rw rest at c.if-rest-length.false))

pub returns-then-is_empty-clause-first_error : goal.returns-then-is_empty-clause-first_error
returns-then-is_empty-clause-first_error c = tag_missing (λ t. t == c.args.tag) (λ t content e. ⊥) c.args.input.now (sym c.if-is_empty.ensures)

pub returns-then-input-tag-clause-first_error : goal.returns-then-input-tag-clause-first_error
returns-then-input-tag-clause-first_error c = tag_wrong (λ t. t == c.args.tag) (λ t content e. ⊥) c.args.input.now (sym c.if-is_empty.ensures) (ne_eqb _ _ c.if-input-tag.true)

pub returns-in_err-length-clause-first_error : goal.returns-in_err-length-clause-first_error
returns-in_err-length-clause-first_error c =
    let p = err_from_is_err_and c.from_residual.result c.from_residual.ensures.1 in
    let trailing : take (length c.args.input.now - 1) (drop 1 c.args.input.now) ≡ drop 1 c.args.input.now = take_rest c.args.input.now 1 in
    rw (p.1, p.2) (length_wrong (λ t. t == c.args.tag) (λ t content e. ⊥) c.args.input.now c.in_err-length.field-0.0 (sym c.if-is_empty.ensures) (eq-eqb _ _ c.if-input-tag.false) (rw trailing at c.in_err-length.ensures.first_error))

pub returns-then-rest-length-clause-first_error : goal.returns-then-rest-length-clause-first_error
returns-then-rest-length-clause-first_error c =
    let input = c.args.input.now in
    let trailing : take (length input - 1) (drop 1 input) ≡ drop 1 input = take_rest input 1 in
    let rest : take (length (take (length input - 1) (drop 1 input)) - c.in_ok-length.taken) (drop c.in_ok-length.taken (take (length input - 1) (drop 1 input))) ≡ drop c.in_ok-length.taken (drop 1 input) = rw trailing (take_rest (drop 1 input) c.in_ok-length.taken) in
    content_cut (λ t. t == c.args.tag) (λ t content e. ⊥) input c.in_ok-length.length c.in_ok-length.taken (sym c.if-is_empty.ensures) (eq-eqb _ _ c.if-input-tag.false) (rw trailing at c.in_ok-length.ensures.found) c.in_ok-length.ensures.fits (rw rest at c.if-rest-length.true)
