use Rattle.std.proofs.Common.{rules}
use Rattle.krbtool_engine.proofs.Parsing.{seal_rejected}
use Rattle.krbtool_engine.proofs.parse.parse_seal.Goals as goal

pub returns-in_err-key-clause-rejected : goal.returns-in_err-key-clause-rejected
returns-in_err-key-clause-rejected c =
    let rejected = seal_rejected c.args.etype.now c.args.key.now c.args.usage.now c.args.confounder.now c.in_err-key.field-0.0 c.in_err-key.ensures.rejected in
    search (rules, rejected)
