use Rattle.std.proofs.Common.{◌≡◌, inl, inr, subst, rules}
use Rattle.std.proofs.KnownBytes.{Keeps-refl}
use Rattle.std.proofs.lemmas.Result.{err_from_is_err_and}
use Rattle.krb_io.specs.Transfer.{IsPrefixWritten}
use Rattle.krb_negoex.proofs.traits.NegoexDataType.encode_with_payload.Goals as goal

pub returns-in_err-write_all-clause-rejected : goal.returns-in_err-write_all-clause-rejected
returns-in_err-write_all-clause-rejected g c =
    let p = err_from_is_err_and c.from_residual-in_err-write_all.result c.from_residual-in_err-write_all.ensures.1 in
    let fixed : c.deref.result.now ≡ g.Self.Lay.layout.fixed c.args.offset c.args.self.now = search rules in
    let error = c.in_err-write_all.ensures in
    rw p.1 (c.in_err-write_all.field-0.0, p.2, inr (c.in_ok-lay.ensures.laid, error.lasting, inl (subst (λ z. IsPrefixWritten z (g.W.Write.contents c.args.to.now) (g.W.Write.contents c.write_all.new.writer)) fixed error.prefix, Keeps-refl _)))
