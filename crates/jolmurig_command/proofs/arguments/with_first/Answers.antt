use Rattle.std.proofs.Common.{ap, arith, sym, ◌∙◌, map}
use Rattle.std.specs.String.{string_bytes}
use Rattle.jolmurig_command.specs.Arguments.{with_value}
use Rattle.jolmurig_command.proofs.Steps.{behind_one, behind_value, fewer}
use Rattle.jolmurig_command.proofs.arguments.with_first.Goals as goal

pub returns-in-Ok : goal.returns-in-Ok
returns-in-Ok c = (
  behind_one c.args.show c.in-Ok.show c.args.word.now (map string_bytes c.args.rest.now) c.requires.no_help c.requires.no_end
      (sym c.is_valued.ensures ∙ c.if-not-is_valued.true) (sym c.in_ok-show.ensures ∙ c.in-Ok.is),
  omega arith,
)

pub returns-in-Ok-2 : goal.returns-in-Ok-2
returns-in-Ok-2 c = (
  behind_value string_bytes c.args.show c.in-Ok-2.show c.args.word.now c.args.rest.now c.in-Some.behind.now _
      c.in-Some.ensures.cases.0 c.requires.no_help c.requires.no_end (sym c.is_valued.ensures ∙ c.if-not-is_valued.false)
      (sym (ap (λ o. with_value c.args.word.now o c.args.show) c.as_str.ensures.value) ∙ sym c.in_ok-show-2.ensures ∙ c.in-Ok-2.is),
  fewer _ _ _ c.in-Some.ensures.cases.0,
)
