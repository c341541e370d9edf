use Rattle.std.proofs.Common.{◌∙◌, sym}
use Rattle.jolmurig_command.proofs.arguments.check_by.Goals as goal

pub returns : goal.returns
returns c = rw (sym c.split.ensures.name, sym c.split.ensures.value, sym c.is_word.ensures ∙ c.if-not-is_word.false) c.check_as.ensures
