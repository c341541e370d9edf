use Rattle.std.proofs.Common.{◌++◌, sym, ap, ◌∙◌, map-id}
use Rattle.std.specs.List.{flat_map}
use Rattle.std.proofs.lemmas.Iterator.{YieldsList-from_chars}
use Rattle.std.proofs.lemmas.Iterator.Consumers.{YieldsList-end}
use Rattle.krb_show_text.specs.Json.{json_character}
use Rattle.krb_show_text.proofs.characters.push_characters.Goals as goal

pub returns : goal.returns
returns c =
    let end = YieldsList-end (YieldsList-from_chars c.args.text.now c.utf8.text cc) c.loop-character.yielded _ c.loop-character.yielded_by _ _ c.in-None.is c.next.ensures.steps in
    c.loop-character.invariant ∙ ap (λ cs. c.args.out.now.items ++ flat_map json_character cs) (sym (map-id c.loop-character.yielded) ∙ end.0)
