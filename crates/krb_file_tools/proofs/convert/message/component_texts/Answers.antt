use Rattle.std.proofs.Common.{◌≡◌, ◌∙◌, ℕ, List, Bor, ap, map, subst, Result}
use Rattle.krb_file_tools.specs.Answers.{Answers}
use Rattle.krb_file_tools.specs.Kirbi.{each_of}
use Rattle.krb_file_tools.specs.Message.{text_from}
use Rattle.krb_file_tools.specs.declared.convert.error.ConvertError.{ConvertError}
use Rattle.krb_file_tools.proofs.Lists.{each_mapped}
use Rattle.krb_file_tools.proofs.convert.message.component_texts.Goals as goal

pub returns : goal.returns
returns c =
    let seen : map (λ (x : Bor (List ℕ)). x.now) c.deref.result.now ≡ c.args.components =
    ap (map (λ (x : Bor (List ℕ)). x.now)) c.deref.ensures.value ∙ c.in_ok-components.ensures in
    let same : each_of (λ (x : Bor (List ℕ)). text_from x.now) c.deref.result.now ≡ each_of text_from c.args.components =
    each_mapped text_from (λ (x : Bor (List ℕ)). x.now) c.deref.result.now ∙ ap (each_of text_from) seen in
    subst (λ (w : Result (List (List ℕ)) ConvertError). Answers (λ v. v.items) c.texts_of.result w) same c.texts_of.ensures
