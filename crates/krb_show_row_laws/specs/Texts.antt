-- What the text of a page tells of the value that the page is of.
use Rattle.std.specs.Prelude.{◌≡◌, true, List, []}
use Rattle.krb_der_core.specs.declared.der.DerEncode.{Ghosts as EncodingOf}
use Rattle.krb_show.specs.declared.show.Show.{Ghosts as ShowingOf}
use Rattle.krb_show_text.specs.Text.{AreLines, page_lines, page_text}
use Rattle.krb_show.specs.Tokens.{Label, Token}
use Rattle.krb_show_row_laws.specs.Telling.{is_name}

-- two values whose pages have one text are equal
abbrev pub OneText : {A : Type 0} → (A → Type 0) → (A → List Token → List Token → Type 0) → Type 0
OneText {A} is_value shows = (v w : A) (page other : List Token) → is_value v → is_value w → shows v [] page → shows w [] other
    → AreLines (page_lines 0 page) → AreLines (page_lines 0 other) → page_text page ≡ page_text other → v ≡ w

-- the same of values of a type and a way of showing it, under whatever name
abbrev pub TextTells : {K A : Type 0} → EncodingOf A → ShowingOf A K → Type 0
TextTells encoding showing = (label : Label) → is_name label.text ≡ true → OneText encoding.is_value (showing.shows label)
