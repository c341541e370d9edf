use Rattle.std.proofs.Common.{◌-◌, ◌∙◌, ap, take, length, [], ◌∷◌, ◌++◌}
use Rattle.krb_show_text.specs.Text.{page_lines, page_text}
use Rattle.jolmurig.proofs.Fronts.{front_lines}
use Rattle.jolmurig.proofs.answer.type_line.Goals as goal

pub returns-clause-printable : goal.returns-clause-printable
returns-clause-printable c =
    let first = c.first_of.result.now in
    let lines = front_lines (page_lines 0 first) (length (page_text first) - 2) c.in_ok-text.ensures.lines in
    (lines.0, c.in_ok-cut.ensures ∙ ap (λ t. take (length t - 2) t ++ 10 ∷ []) c.in_ok-text.ensures.text ∙ lines.1, lines.2)
