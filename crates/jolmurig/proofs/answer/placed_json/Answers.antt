use Rattle.std.proofs.Common.{◌∙◌, sym, [], ◌∷◌, ◌++◌}
use Rattle.std.proofs.lemmas.List.{append-nil}
use Rattle.krb_show_any.specs.Paired.{paired_line}
use Rattle.jolmurig.proofs.answer.placed_json.Goals as goal

pub returns-clause-printable : goal.returns-clause-printable
returns-clause-printable c =
    let line = paired_line c.args.page.now in
    (line ∷ [], c.octets_of.ensures ∙ c.in_ok-json_with_places.ensures.json ∙ sym (append-nil (line ++ 10 ∷ [])), (c.in_ok-json_with_places.ensures.printable, tt))
