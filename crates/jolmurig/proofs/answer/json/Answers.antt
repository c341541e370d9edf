use Rattle.std.proofs.Common.{◌∙◌, sym, [], ◌∷◌, ◌++◌}
use Rattle.std.proofs.lemmas.List.{append-nil}
use Rattle.krb_show_text.specs.Json.{json_line}
use Rattle.jolmurig.proofs.answer.json.Goals as goal

pub returns-clause-printable : goal.returns-clause-printable
returns-clause-printable c =
    let line = json_line c.args.page.now in
    (line ∷ [], c.octets_of.ensures ∙ c.in_ok-json_of_page.ensures.json ∙ sym (append-nil (line ++ 10 ∷ [])), (c.in_ok-json_of_page.ensures.printable, tt))
