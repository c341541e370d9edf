use Rattle.std.proofs.Common.{◌≡◌, ◌++◌, take, true}
use Rattle.krb_show_text.specs.Json.{json_tokens}
use Rattle.krb_show_text.proofs.PrintableJson.{first_behind}
use Rattle.krb_show_text.specs.Text.{ArePrintable}
use Rattle.krb_show_text.proofs.json.push_tokens.Given as goal

abbrev pub invariant-loop-token : goal.invariant-loop-token
invariant-loop-token l =
    (l.out.items ≡ l.fn.out.items ++ json_tokens true (take l.token-index l.page)) × ArePrintable (json_tokens true (take l.token-index l.page))
    × (l.first ≡ first_behind true (take l.token-index l.page))
