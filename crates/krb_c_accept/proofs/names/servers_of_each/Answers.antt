use Rattle.krb_c_accept.proofs.Each.{each_more, refused_so}
use Rattle.krb_c_accept.proofs.names.servers_of_each.Goals as goal

pub returns-in_err-server_of-clause-refused : goal.returns-in_err-server_of-clause-refused
returns-in_err-server_of-clause-refused c =
    refused_so _ c.args.texts.now c.texts.text-index _ c.in_err-server_of.field-0.0 c.from_residual.result c.texts-test.true c.in_err-server_of.ensures.refused
    c.from_residual.ensures.1

pub texts-preserved : goal.texts-preserved
texts-preserved c =
    each_more _ c.args.texts.now c.texts.names.items c.put.new.list.items c.texts.text-index _ c.in_ok-server_of.field-0 c.texts-test.true c.texts.invariant
    c.in_ok-server_of.ensures.found c.in_ok-put.ensures
