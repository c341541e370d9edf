use Rattle.std.proofs.Common.{◌∙◌}
use Rattle.krb_show_pac.proofs.Rows.{names_of_rows}
use Rattle.krb_show_pac.proofs.flags.names_of.Goals as goal

pub returns : goal.returns
returns c = c.in_ok-push_names.ensures ∙ names_of_rows c.new-note.result.items c.rows.result.now _ c.args.number c.new-note.ensures.items c.rows.ensures
