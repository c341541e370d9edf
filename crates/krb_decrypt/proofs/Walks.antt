-- One token more.
use Rattle.std.proofs.Common.{ap, refl, sym, ◌∙◌, ◌≡◌, if◌then◌else◌, Bool, true, false, List, [], ◌∷◌, ◌++◌}
use Rattle.std.proofs.lemmas.List.{append-nil, append_assoc}
use Rattle.std.proofs.lemmas.List.Elements.{filter-append}
use Rattle.std.specs.List.{filter}
use Rattle.krb_show.specs.Tokens.{Token}
use Rattle.krb_show.specs.declared.token.Form.TheVariants as form
use Rattle.krb_decrypt.specs.Hidden.{NoneIsSecret, hidden, hidden_from, hidden_page, hiding, is_clear_behind, is_etype, is_secret, is_zero, last_is_zero}

hidden_behind : (before ts : List Token) (t : Token)
    → hidden_from before (ts ++ t ∷ []) ≡ hidden_from before ts ++ hidden (is_clear_behind (before ++ ts)) t ∷ []
hidden_behind before [] t = ap (λ b. hidden (is_clear_behind b) t ∷ []) (sym (append-nil before))
hidden_behind before (s ∷ ts) t =
    let later = ap (λ b. hidden_from (before ++ s ∷ []) ts ++ hidden (is_clear_behind b) t ∷ []) (append_assoc before (s ∷ []) ts) in
    ap (λ made. hidden (is_clear_behind before) s ∷ made) (hidden_behind (before ++ s ∷ []) ts t ∙ later)

pub hidden_more : (ts : List Token) (t : Token) → hidden_page (ts ++ t ∷ []) ≡ hidden_page ts ++ hidden (is_clear_behind ts) t ∷ []
hidden_more ts t = hidden_behind [] ts t

last_of_more : (ts : List Token) (t : Token) → last_is_zero (ts ++ t ∷ []) ≡ is_zero t
last_of_more [] t = refl
last_of_more (s ∷ []) t = refl
last_of_more (s ∷ u ∷ ts) t = last_of_more (u ∷ ts) t

clear_by : (b : Bool) (before : List Token) (t : Token) → is_etype t ≡ b
    → is_clear_behind (before ++ t ∷ []) ≡ (if b then is_zero t else is_clear_behind before)
clear_by true before t p = ap last_is_zero (filter-append is_etype before (t ∷ [])) ∙ rw p (last_of_more (filter is_etype before) t)
clear_by false before t p = ap last_is_zero (filter-append is_etype before (t ∷ [])) ∙ rw p (ap last_is_zero (append-nil (filter is_etype before)))

pub clear_more : (before : List Token) (t : Token)
    → is_clear_behind (before ++ t ∷ []) ≡ (if is_etype t then is_zero t else is_clear_behind before)
clear_more before t = clear_by (is_etype t) before t refl

-- ---- what is hidden

not_secret : (c b : Bool) (t : Token) → is_secret c t.form ≡ b → (if b then hiding t else t).form ≡ form.Secret → ⊥
not_secret c true t e h = cc
not_secret c false t e h = let s : is_secret c form.Secret ≡ false = rw h at e in cc

none_from : (before ts : List Token) → NoneIsSecret (hidden_from before ts)
none_from before [] = tt
none_from before (t ∷ ts) =
    (not_secret (is_clear_behind before) (is_secret (is_clear_behind before) t.form) t refl, none_from (before ++ t ∷ []) ts)

pub none_is_secret : (ts : List Token) → NoneIsSecret (hidden_page ts)
none_is_secret ts = none_from [] ts
