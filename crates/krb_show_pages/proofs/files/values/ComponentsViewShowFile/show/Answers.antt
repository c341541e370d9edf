use Rattle.std.proofs.Common.{◌≡◌, ◌∙◌, ℕ, List, Bor, ap, map, subst}
use Rattle.std.proofs.lemmas.Result.{on_ok_weaker}
use Rattle.krb_show.specs.Leaves.{text_of}
use Rattle.krb_show.specs.Pages.{list_of}
use Rattle.krb_show_pages.proofs.Texts.{list_mapped}
use Rattle.krb_show_pages.proofs.files.values.ComponentsViewShowFile.show.Goals as goal

pub returns-clause-ok : goal.returns-clause-ok
returns-clause-ok c =
    let seen : map (λ (x : Bor (List ℕ)). x.now) c.deref.result.now ≡ c.args.self.now =
    ap (map (λ (x : Bor (List ℕ)). x.now)) c.deref.ensures.value ∙ c.in_ok-components.ensures ∙ c.again.ensures in
    on_ok_weaker c.show_list.result
    (λ shown. subst (λ (items : List (List ℕ)). list_of text_of c.args.label.now items c.args.page.now.items c.show_list.new.page.items) seen
    (list_mapped (λ (x : Bor (List ℕ)). x.now) text_of c.args.label.now c.deref.result.now c.args.page.now.items c.show_list.new.page.items shown))
    c.show_list.ensures.ok
