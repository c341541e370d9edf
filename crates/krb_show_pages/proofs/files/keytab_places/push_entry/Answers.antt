use Rattle.std.proofs.Common.{List, Option, ap, ◌++◌, ◌∙◌}
use Rattle.krb_message_fields.specs.declared.places.place.Place.{Place}
use Rattle.krb_show_pages.proofs.KeytabParts.{entry_told}
use Rattle.std.proofs.lemmas.Result.{on_ok_weaker}
use Rattle.krb_show_pages.proofs.files.keytab_places.push_entry.Goals as goal

pub returns-in-Some : goal.returns-in-Some
returns-in-Some c =
    on_ok_weaker c.push_parts.result
    (λ x f rest fits e. x
    ∙ ap (λ (l : List (Option Place)). c.args.places.now.items ++ l) (entry_told c.args.at c.in-Some.parts f rest (c.in-Some.ensures.found f rest fits e)))
    c.push_parts.ensures

pub returns-in-None : goal.returns-in-None
returns-in-None c = λ f rest fits e. absurd (c.in-None.ensures.found f rest fits e)
