use Rattle.std.proofs.Common.{rules}
use Rattle.krbtool_engine.proofs.Parsing.{etype_rejected}
use Rattle.krbtool_engine.proofs.parse.parse_key.Goals as goal

pub returns-in_err-suite-clause-rejected : goal.returns-in_err-suite-clause-rejected
returns-in_err-suite-clause-rejected c =
    let rejected = etype_rejected c.args.etype.now c.args.key.now c.args.usage.now c.in_err-suite.field-0.0 c.in_err-suite.ensures.rejected in
    search (rules, rejected)
