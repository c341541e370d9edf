use Rattle.std.proofs.Common.{◌≡◌, ◌++◌, take, true}
use Rattle.krb_show_text.specs.JsonWithPlaces.{json_tokens_with_places}
use Rattle.krb_show_text.proofs.PrintableJson.{first_behind}
use Rattle.krb_show_text.specs.Text.{ArePrintable}
use Rattle.krb_show_text.proofs.json_with_places.push_tokens_with_places.Given as goal

abbrev pub invariant-loop-token : goal.invariant-loop-token
invariant-loop-token l =
    (l.out.items ≡ l.fn.out.items ++ json_tokens_with_places true (take l.token-index l.page)) × ArePrintable (json_tokens_with_places true (take l.token-index l.page))
    × (l.first ≡ first_behind true (take l.token-index l.page))
