use Rattle.krb_c_accept.proofs.Agreeing.{by_since}
use Rattle.krb_c_accept.proofs.options.are_options.Goals as goal

pub returns : goal.returns
returns c =
    by_since c.args.acceptor.now c.args.bindings.now c.args.address.now c.is_since.result c.if-options-ge-END.false c.if-not-agree_on_pacs.ensures
    c.if-not-agree_on_bindings.ensures c.if-not-agree_on_address.ensures c.is_since.ensures
