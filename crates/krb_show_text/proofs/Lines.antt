-- The lines of a page with one more token.
use Rattle.std.proofs.Common.{◌≡◌, ℕ, ◌+◌, ◌≤◌, refl, sym, ap, ◌∙◌, List, [], ◌∷◌, ◌++◌, length, arith}
use Rattle.std.proofs.lemmas.List.{append_assoc, append-nil}
use Rattle.std.proofs.lemmas.Grind.{flat_map-append}
use Rattle.krb_show.specs.declared.token.Form.{Form}
use Rattle.krb_show.specs.declared.token.Form.TheVariants as form
use Rattle.krb_show.specs.Tokens.{Token}
use Rattle.krb_show_text.specs.Text.{lines_of, depth_after, page_lines, text_of_lines, page_text, AreLines}

-- how far in what follows a page is
abbrev pub depth_behind : ℕ → List Token → ℕ
depth_behind depth [] = depth
depth_behind depth (t ∷ ts) = depth_behind (depth_after depth t.form) ts

pub lines_more : (depth : ℕ) (page : List Token) (t : Token) → page_lines depth (page ++ t ∷ []) ≡ page_lines depth page ++ lines_of (depth_behind depth page) t.form t
lines_more depth [] t = append-nil (lines_of depth t.form t)
lines_more depth (u ∷ us) t =
    ap (λ ls. lines_of depth u.form u ++ ls) (lines_more (depth_after depth u.form) us t)
    ∙ sym (append_assoc (lines_of depth u.form u) (page_lines (depth_after depth u.form) us) (lines_of (depth_behind (depth_after depth u.form) us) t.form t))

pub depth_more : (depth : ℕ) (page : List Token) (t : Token) → depth_behind depth (page ++ t ∷ []) ≡ depth_after (depth_behind depth page) t.form
depth_more depth [] t = refl
depth_more depth (u ∷ us) t = depth_more (depth_after depth u.form) us t

depth_step : (depth : ℕ) (f : Form) → depth_after depth f ≤ depth + 1
depth_step depth form.Struct = omega arith
depth_step depth form.StructEnd = omega arith
depth_step depth form.List = omega arith
depth_step depth form.ListEnd = omega arith
depth_step depth form.Number = omega arith
depth_step depth form.Flags = omega arith
depth_step depth form.Word = omega arith
depth_step depth form.Identifier = omega arith
depth_step depth form.Text = omega arith
depth_step depth form.Octets = omega arith
depth_step depth form.Secret = omega arith
depth_step depth form.Cipher = omega arith

-- no page is further in behind it than it has tokens
pub depth_small : (depth : ℕ) (page : List Token) → depth_behind depth page ≤ depth + length page
depth_small depth [] = omega arith
depth_small depth (t ∷ ts) = omega (arith, depth_small (depth_after depth t.form) ts, depth_step depth t.form)

pub are_lines_append : (a b : List (List ℕ)) → AreLines a → AreLines b → AreLines (a ++ b)
are_lines_append [] b p q = q
are_lines_append (x ∷ xs) b p q = (p.0, are_lines_append xs b p.1 q)

pub text_more : (page : List Token) (t : Token) → page_text (page ++ t ∷ []) ≡ page_text page ++ text_of_lines (lines_of (depth_behind 0 page) t.form t)
text_more page t = ap text_of_lines (lines_more 0 page t) ∙ flat_map-append _ (page_lines 0 page) (lines_of (depth_behind 0 page) t.form t)
