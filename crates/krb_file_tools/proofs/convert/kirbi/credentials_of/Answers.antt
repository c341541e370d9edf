use Rattle.std.proofs.Common.{◌<◌, length, arith}
use Rattle.std.proofs.lemmas.Result.{err_from_is_err_and}
use Rattle.krb_enc_parts.specs.declared.data_types.credentials.KrbCredInfo.{KrbCredInfo}
use Rattle.krb_file_tools.specs.Kirbi.{credential_from}
use Rattle.krb_file_tools.proofs.Lists.{pair_broken, pair_more}
use Rattle.krb_file_tools.proofs.convert.kirbi.credentials_of.Goals as goal

pub returns-in_err-credential : goal.returns-in_err-credential
returns-in_err-credential g c =
    let less : c.loop-index.index < length c.args.infos.now = omega arith in
    let p = err_from_is_err_and c.from_residual.result c.from_residual.ensures.1 in
    rw (p.1, p.2)
    (pair_broken (λ (t : g.row.T.Denot) (i : KrbCredInfo). credential_from (g.T.DerEncode.enc t) (g.T.Tagged.value t) i) c.args.tickets.now c.args.infos.now c.loop-index.index
    c.index-tickets-index.result c.index-infos-index.result c.in_err-credential.field-0.0 c.loop-index.credentials.items c.loop-index-test.true less c.index-tickets-index.is
    c.index-infos-index.is c.in_err-credential.ensures c.loop-index.invariant)

pub loop-index-preserved : goal.loop-index-preserved
loop-index-preserved g c =
    let less : c.loop-index.index < length c.args.infos.now = omega arith in
    rw c.in_ok-append.ensures
    (pair_more (λ (t : g.row.T.Denot) (i : KrbCredInfo). credential_from (g.T.DerEncode.enc t) (g.T.Tagged.value t) i) c.args.tickets.now c.args.infos.now c.loop-index.index
    c.index-tickets-index.result c.index-infos-index.result c.in_ok-credential.credential c.loop-index.credentials.items c.loop-index-test.true less c.index-tickets-index.is c.index-infos-index.is
    c.in_ok-credential.ensures c.loop-index.invariant)
