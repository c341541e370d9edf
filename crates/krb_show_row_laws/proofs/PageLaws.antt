-- Whole pages.
use Rattle.std.proofs.Common.{◌≡◌, ℕ, true, refl, sym, ◌∙◌, List, []}
use Rattle.std.proofs.lemmas.List.{append-nil}
use Rattle.krb_show_text.specs.Text.{page_lines}
use Rattle.krb_show.specs.Tokens.{Label, Token}
use Rattle.krb_show_row_laws.specs.Telling.{is_name}
use Rattle.krb_show_row_laws.specs.Blocks.{TellsValues}
use Rattle.krb_show_row_laws.specs.Texts.{OneText}
use Rattle.krb_show_row_laws.proofs.LineLaws.{one_lines}

-- values of a way of showing that tells them have one text only if they are one
pub one_page : {A : Type 0} {is_value : A → Type 0} {V : List ℕ → Type 0} {shows : Label → A → List Token → List Token → Type 0} → TellsValues is_value V shows
    → (label : Label) → is_name label.text ≡ true → OneText is_value (shows label)
one_page {A} {is_value} {V} {shows} t label name v w page other h k p q r s e =
    let lines = one_lines (page_lines 0 page) (page_lines 0 other) r s e in
    ((t.tells label v w name h k).tells [] [] page other p q tt [] 0 [] [] refl tt tt
    (append-nil (page_lines 0 page) ∙ lines ∙ sym (append-nil (page_lines 0 other)))).0
