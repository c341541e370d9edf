-- What places are written as is printable, and pages with places grow.
use Rattle.std.proofs.Common.{◌≡◌, ℕ, ◌<◌, ◌^◌, sym, ap, ◌∙◌, Bool, true, List, [], ◌∷◌, ◌++◌, codes, Option, None, Some, arith}
use Rattle.std.specs.Fmt.{decimal}
use Rattle.std.specs.Str.{IsUtf8}
use Rattle.std.proofs.lemmas.List.{append_assoc, append-nil}
use Rattle.std.proofs.lemmas.Grind.{flat_map-append}
use Rattle.krb_message_fields.specs.declared.places.place.Place.{Place}
use Rattle.krb_show_text.specs.Json.{begins, json_before, json_value}
use Rattle.krb_show_text.specs.JsonWithPlaces.{before_value, behind_value, json_line_with_places, json_token_with_place, json_tokens_with_places, place_begin, place_end}
use Rattle.krb_show_text.specs.Text.{ArePrintable, depth_after, text_of_lines}
use Rattle.krb_show_text.specs.TextWithPlaces.{at_text, lines_with_place, page_lines_with_places, page_text_with_places}
use Rattle.krb_show.specs.Tokens.{Token}
use Rattle.krb_show_text.proofs.Lines.{depth_behind}
use Rattle.krb_show_text.proofs.Printable.{IsOctetsToken, line_is_utf8, printable_append, printable_choice, printable_decimal}
use Rattle.krb_show_text.proofs.PrintableJson.{before_printable, first_behind, value_printable}

-- ---- places

-- two numbers among words
two_numbers : (a b c d e : List ℕ) → ArePrintable a → ArePrintable b → ArePrintable c → ArePrintable d → ArePrintable e → ArePrintable (a ++ b ++ c ++ d ++ e)
two_numbers a b c d e p q r s t =
    printable_append (a ++ b ++ c ++ d) e (printable_append (a ++ b ++ c) d (printable_append (a ++ b) c (printable_append a b p q) r) s) t

pub printable_at : (place : Place) → place.offset < 2 ^ 64 → place.size < 2 ^ 64 → ArePrintable (at_text place)
printable_at place o s =
    printable_append (codes " @" ++ decimal place.offset ++ codes "+") (decimal place.size)
    (printable_append (codes " @" ++ decimal place.offset) (codes "+")
    (printable_append (codes " @") (decimal place.offset) (grind arith) (printable_decimal place.offset o)) (grind arith))
    (printable_decimal place.size s)

pub printable_begin : (place : Place) → place.offset < 2 ^ 64 → place.size < 2 ^ 64 → ArePrintable (place_begin (Some place))
printable_begin place o s =
    two_numbers (codes "{\"offset\":") (decimal place.offset) (codes ",\"size\":") (decimal place.size) (codes ",\"value\":") (grind arith)
    (printable_decimal place.offset o) (grind arith) (printable_decimal place.size s) (grind arith)

printable_end : (place : Option Place) → ArePrintable (place_end place)
printable_end None = tt
printable_end (Some place) = grind arith

pub printable_token : (first : Bool) (t : Token) → IsOctetsToken t → ArePrintable (before_value t) → ArePrintable (json_token_with_place first t)
printable_token first t h before =
    printable_append (json_before first t ++ before_value t ++ json_value t.form t) (behind_value t)
    (printable_append (json_before first t ++ before_value t) (json_value t.form t)
    (printable_append (json_before first t) (before_value t) (before_printable first t h) before) (value_printable t.form t h))
    (printable_choice (begins t.form) [] (place_end t.place) (λ e. tt) (λ e. printable_end t.place))

pub printable_whole : (page : List Token) → ArePrintable (json_tokens_with_places true page) → ArePrintable (json_line_with_places page)
printable_whole page p = printable_append (123 ∷ json_tokens_with_places true page) (125 ∷ []) (grind arith, p) (grind arith)

pub whole_is_utf8 : (page : List Token) → ArePrintable (json_line_with_places page) → IsUtf8 (json_line_with_places page ++ 10 ∷ [])
whole_is_utf8 page p = line_is_utf8 (json_line_with_places page) p

-- ---- pages with one more token

pub placed_lines_more : (depth : ℕ) (page : List Token) (t : Token)
    → page_lines_with_places depth (page ++ t ∷ []) ≡ page_lines_with_places depth page ++ lines_with_place (depth_behind depth page) t.form t
placed_lines_more depth [] t = append-nil (lines_with_place depth t.form t)
placed_lines_more depth (u ∷ us) t =
    ap (λ ls. lines_with_place depth u.form u ++ ls) (placed_lines_more (depth_after depth u.form) us t)
    ∙ sym (append_assoc (lines_with_place depth u.form u) (page_lines_with_places (depth_after depth u.form) us)
    (lines_with_place (depth_behind (depth_after depth u.form) us) t.form t))

pub placed_text_more : (page : List Token) (t : Token)
    → page_text_with_places (page ++ t ∷ []) ≡ page_text_with_places page ++ text_of_lines (lines_with_place (depth_behind 0 page) t.form t)
placed_text_more page t =
    ap text_of_lines (placed_lines_more 0 page t) ∙ flat_map-append _ (page_lines_with_places 0 page) (lines_with_place (depth_behind 0 page) t.form t)

pub placed_json_more : (first : Bool) (page : List Token) (t : Token)
    → json_tokens_with_places first (page ++ t ∷ []) ≡ json_tokens_with_places first page ++ json_token_with_place (first_behind first page) t
placed_json_more first [] t = append-nil (json_token_with_place first t)
placed_json_more first (u ∷ us) t =
    ap (λ rest. json_token_with_place first u ++ rest) (placed_json_more (begins u.form) us t)
    ∙ sym (append_assoc (json_token_with_place first u) (json_tokens_with_places (begins u.form) us) (json_token_with_place (first_behind (begins u.form) us) t))
