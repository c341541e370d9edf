use Rattle.krb_show_negoex.proofs.Told.{cut_header, no_message}
use Rattle.krb_show_negoex.proofs.header_error.Goals as goal

pub unreachable-requires : goal.unreachable-requires
unreachable-requires c = no_message c.args.octets.now c.in-Ok._view c.requires c.in-Ok.ensures.found

pub returns : goal.returns
returns c = cut_header c.args.octets.now c.in-Err.error c.requires c.in-Err.ensures.rejected
