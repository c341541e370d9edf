use Rattle.std.proofs.Common.{take}
use Rattle.std.specs.List.{flat_map}
use Rattle.std.proofs.lemmas.Result.{err_from_is_err_and}
use Rattle.krb_der_x509.specs.ObjectIdentifier.{sub_identifier}
use Rattle.krb_der_x509.proofs.ObjectIdentifiers.{cut}
use Rattle.krb_der_x509.proofs.object_identifier.push_sub_identifiers.Goals as goal

pub returns-in_err-push_sub_identifier-clause-err : goal.returns-in_err-push_sub_identifier-clause-err
returns-in_err-push_sub_identifier-clause-err c =
    let p = err_from_is_err_and c.from_residual.result c.from_residual.ensures.1 in
    rw p.1 (cut c.args.out.now.items c.loop-n.out.items c.push_sub_identifier.new.out.items (flat_map sub_identifier (take c.loop-n.n-index c.args.numbers.now)) c.loop-n.invariant c.in_err-push_sub_identifier.ensures.err)
