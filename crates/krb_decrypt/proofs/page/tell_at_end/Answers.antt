use Rattle.std.proofs.Common.{◌≡◌, ℕ, sym, ap, subst, ◌∙◌, List, Option, Some, OnOk}
use Rattle.std.specs.Option.{option_copied}
use Rattle.krb_decrypt.specs.Pages.{cipher_at, told_at}
use Rattle.krb_decrypt.proofs.page.tell_at_end.Goals as goal

pub returns-clause-ok : goal.returns-clause-ok
returns-clause-ok g c =
    let same : c.in-Some.cipher.now ≡ c.deref-2.result.now = sym c.in_ok-cipher.ensures.items ∙ sym c.deref-2.ensures.value in
    let found : Some c.in-Some.cipher.now ≡ cipher_at c.args.page.now.items =
    sym (ap option_copied c.in-Some.is) ∙ c.cipher_at.ensures ∙ ap cipher_at c.deref.ensures.value in
    let is : Some c.deref-2.result.now ≡ cipher_at c.args.page.now.items = ap (λ (o : List ℕ). Some o) (sym same) ∙ found in
    subst (λ (o : Option (List ℕ)). OnOk c.tell_at.result (told_at g.F.ShowsFormats.tells g.F.ShowsFormats.places (g.B.TellsBehind.tells c.args.behind.now) c.args.most c.args.preceding o
    c.args.keys.now.items c.args.page.now.items c.tell_at.new.keys.items c.tell_at.new.page.items)) is c.tell_at.ensures.ok
