use Rattle.std.proofs.Common.{◌≡◌, ◌+◌, ◌*◌, ◌<◌, ◌++◌, length, inl, inr, ⊎_elim, sym, ap, ◌∙◌, subst, arith, rules}
use Rattle.std.proofs.lemmas.Result.{err_from_is_err_and}
use Rattle.krb_negoex.specs.Parts.{AllLaid, fixeds, total}
use Rattle.krb_negoex.proofs.Steps.{parts_are, vector_laid, all_laid}
use Rattle.krb_negoex.proofs.vector.VecLay.lay.Goals as goal

pub returns-in_err-end-clause-rejected : goal.returns-in_err-end-clause-rejected
returns-in_err-end-clause-rejected g c =
    let T = g.T.Lay.layout in
    let p = err_from_is_err_and c.from_residual-in_err-end.result c.from_residual-in_err-end.ensures.1 in
    let items = c.args.self.now.items in
    let first = c.in-Some-checked_add.first in
    let d : c.deref.result.now ≡ items = c.deref.ensures.value in
    let n : c.in-Some.fixed_parts ≡ T.width * length items = parts_are c.in-Some.fixed_parts c.len-2.result c.fixed_len.result T.width (length items) c.in-Some.ensures.1 (search rules) c.fixed_len.ensures in
    let f : first ≡ c.args.offset + c.in-Some.fixed_parts = c.in-Some-checked_add.ensures.1 in
    let some : 0 < length items = search rules in
    rw (p.1, p.2) (⊎_elim (λ m. inl m) (λ r. inr (
      r.0,
      λ l. r.1 (subst (λ z. AllLaid T.laid T.payload_size first z) (sym d) (subst (λ k. AllLaid T.laid T.payload_size k items) (sym f)
          (all_laid T.fixed T.payload T.payload_size T.laid T.width c.args.offset c.in-Some.fixed_parts items n some l))),
    )) c.in_err-end.ensures.rejected)

pub returns-clause-laid : goal.returns-clause-laid
returns-clause-laid g c =
    let T = g.T.Lay.layout in
    let items = c.args.self.now.items in
    let first = c.in-Some-checked_add.first in
    let d : c.deref.result.now ≡ items = c.deref.ensures.value in
    let n : c.in-Some.fixed_parts ≡ T.width * length items = parts_are c.in-Some.fixed_parts c.len-2.result c.fixed_len.result T.width (length items) c.in-Some.ensures.1 (search rules) c.fixed_len.ensures in
    let f : first ≡ c.args.offset + c.in-Some.fixed_parts = c.in-Some-checked_add.ensures.1 in
    vector_laid T.fixed T.payload T.payload_size T.laid T.width c.args.offset c.in-Some.fixed_parts items (omega arith) (omega (arith, c.len.ensures)) n
    (subst (λ k. AllLaid T.laid T.payload_size k items) f (subst (λ z. AllLaid T.laid T.payload_size first z) d c.in_ok-end.ensures.laid))

pub returns-clause-end : goal.returns-clause-end
returns-clause-end g c =
    let T = g.T.Lay.layout in
    let items = c.args.self.now.items in
    let d : c.deref.result.now ≡ items = c.deref.ensures.value in
    let n : c.in-Some.fixed_parts ≡ T.width * length items = parts_are c.in-Some.fixed_parts c.len-2.result c.fixed_len.result T.width (length items) c.in-Some.ensures.1 (search rules) c.fixed_len.ensures in
    let f : c.in-Some-checked_add.first ≡ c.args.offset + c.in-Some.fixed_parts = c.in-Some-checked_add.ensures.1 in
    let e = c.in_ok-end.ensures.end in
    let sized = ap (total T.payload_size) d in
    omega arith

pub returns-clause-payload : goal.returns-clause-payload
returns-clause-payload g c =
    let T = g.T.Lay.layout in
    let items = c.args.self.now.items in
    let old = c.args.payload_part.now.items in
    let d : c.deref.result.now ≡ items = c.deref.ensures.value in
    let n : c.in-Some.fixed_parts ≡ T.width * length items = parts_are c.in-Some.fixed_parts c.len-2.result c.fixed_len.result T.width (length items) c.in-Some.ensures.1 (search rules) c.fixed_len.ensures in
    let f : c.in-Some-checked_add.first ≡ c.args.offset + T.width * length items = c.in-Some-checked_add.ensures.1 ∙ ap (λ k. c.args.offset + k) n in
    c.in_ok-end.ensures.appended ∙ ap (λ z. old ++ (fixeds T.fixed T.payload_size c.in-Some-checked_add.first z ++ fixeds T.payload T.payload_size c.in-Some-checked_add.first z)) d
    ∙ ap (λ k. old ++ (fixeds T.fixed T.payload_size k items ++ fixeds T.payload T.payload_size k items)) f
