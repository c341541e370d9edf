use Rattle.std.proofs.Common.{ap, arith, sym, ◌∙◌, map}
use Rattle.std.specs.String.{string_bytes}
use Rattle.jolmurig_command.specs.AcceptArguments.{accept_value}
use Rattle.jolmurig_command.proofs.Steps.{behind_accept_one, behind_accept_value, fewer}
use Rattle.jolmurig_command.proofs.parse_accept.accept_first.Goals as goal

pub returns-in-Ok : goal.returns-in-Ok
returns-in-Ok c = (
  behind_accept_one c.args.asked c.in-Ok.asked c.args.word.now (map string_bytes c.args.rest.now) c.requires.no_help c.requires.no_end
      (sym c.accept_valued.ensures ∙ c.if-not-accept_valued.true) (sym c.in_ok-asked.ensures ∙ c.in-Ok.is),
  omega arith,
)

pub returns-in-Ok-2 : goal.returns-in-Ok-2
returns-in-Ok-2 c = (
  behind_accept_value string_bytes c.args.asked c.in-Ok-2.asked c.args.word.now c.args.rest.now c.in-Some.behind.now _
      c.in-Some.ensures.cases.0 c.requires.no_help c.requires.no_end (sym c.accept_valued.ensures ∙ c.if-not-accept_valued.false)
      (sym (ap (λ o. accept_value c.args.word.now o c.args.asked) c.as_str.ensures.value) ∙ sym c.in_ok-asked-2.ensures ∙ c.in-Ok-2.is),
  fewer _ _ _ c.in-Some.ensures.cases.0,
)
