use Rattle.std.proofs.Common.{◌∙◌, ap, codes, map, sym}
use Rattle.std.specs.String.{string_bytes}
use Rattle.jolmurig_command.specs.Arguments.{of_operand}
use Rattle.jolmurig_command.specs.Words.{is_help, is_word}
use Rattle.jolmurig_command.specs.declared.command.Command.TheVariants as command
use Rattle.jolmurig_command.specs.declared.command.Topic.TheVariants as topic
use Rattle.jolmurig_command.proofs.Steps.{as_two}
use Rattle.jolmurig_command.proofs.arguments.check_of.Goals as goal

pub returns-in-Some-split_first : goal.returns-in-Some-split_first
returns-in-Some-split_first c =
    c.check_as.ensures
    ∙ ap (λ o. of_operand topic.Check (command.Check o) (map string_bytes c.in-Some-split_first.behind.now)) c.as_str-in-Some-split_first.ensures.value
    ∙ sym (as_two string_bytes c.args.words.now _ _ _ _ c.in-Some.ensures.cases.0 c.in-Some-split_first.ensures.cases.0
    (ap is_help (sym c.as_str.ensures.value) ∙ sym c.is_help.ensures ∙ c.if-is_help.false)
    (ap (λ o. is_word o (codes "--as")) (sym c.as_str-2.ensures.value) ∙ sym c.is_word.ensures ∙ c.if-not-is_word.false))
