-- A text is that of one principal at most.
use Rattle.std.proofs.Common.{◌≡◌, ◌≢◌, ℕ, suc, ◌+◌, inl, inr, refl, sym, ap, subst, ◌∙◌, arith, Option, None, Some, List, [], ◌∷◌, ◌++◌, get_or, drop, take, length, length-drop, length-append, MatchOption, ◌-◌, ◌<◌, ◌≤◌}
use Rattle.std.specs.List.{AllByRecursion}
use Rattle.std.specs.Option.{IfSome}
use Rattle.std.proofs.lemmas.List.{append_assoc, append-nil, take-append-drop, take_all}
use Rattle.std.specs.Str.{IsAscii}
use Rattle.std.proofs.lemmas.Grind.{common_steps, flat_map-append}
use Rattle.std.proofs.lemmas.Str.{IsAscii-append}
use Rattle.std.proofs.lemmas.Str.Ascii.{IsAscii-nil, IsAscii-cons}
use Rattle.std.proofs.Math.Seq.{take-add}
use Rattle.krb_types.specs.Principals.{quotation, marked, quoted_octet, quoted, after_slashes, realm_text, principal_text, IsEnd, IsNotFirst, IsTextOf, IsMemoryOr, HasNoPart}
use Rattle.krb_types.specs.declared.view.principals.PrincipalError.{PrincipalError}

-- what is written as itself ends nothing and marks nothing
plain : (x : ℕ) → quotation x ≡ None → (x ≢ 47) × (x ≢ 64) × (x ≢ 92)
plain x e = (λ h. grind (arith, common_steps), λ h. grind (arith, common_steps), λ h. grind (arith, common_steps))

-- two octets that the same follows a `\` for are one
same_letter : (x y k : ℕ) → quotation x ≡ Some k → quotation y ≡ Some k → x ≡ y
same_letter x y k p q = grind (arith, common_steps)

-- lists of one first element and one rest
head : (x y : ℕ) (a b : List ℕ) → x ∷ a ≡ y ∷ b → x ≡ y
head x y a b e = ap (λ l. get_or l 0 0) e

tail : (x y : ℕ) (a b : List ℕ) → x ∷ a ≡ y ∷ b → a ≡ b
tail x y a b e = ap (λ (l : List ℕ). drop 1 l) e

one_marked : (x y : ℕ) (p q : Option ℕ) (a b : List ℕ) → quotation x ≡ p → quotation y ≡ q → marked x p ++ a ≡ marked y q ++ b → (x ≡ y) × (a ≡ b)
one_marked x y None None a b f g e = (head _ _ _ _ e, tail _ _ _ _ e)
one_marked x y None (Some l) a b f g e = absurd ((plain x f).2 (head _ _ _ _ e))
one_marked x y (Some k) None a b f g e = absurd ((plain y g).2 (sym (head _ _ _ _ e)))
one_marked x y (Some k) (Some l) a b f g e =
    (same_letter x y k f (g ∙ ap Some (sym (head k l a b (tail _ _ _ _ e)))), tail k l a b (tail _ _ _ _ e))

-- what is written of an octet tells it, whatever follows
pub one_octet : (x y : ℕ) (a b : List ℕ) → quoted_octet x ++ a ≡ quoted_octet y ++ b → (x ≡ y) × (a ≡ b)
one_octet x y a b e = one_marked x y (quotation x) (quotation y) a b refl refl e

-- and it is not the end
marked_goes_on : (x : ℕ) (p : Option ℕ) (a : List ℕ) → quotation x ≡ p → IsEnd (marked x p ++ a) → ⊥
marked_goes_on x None a f (inl e) = (plain x f).0 e
marked_goes_on x None a f (inr e) = (plain x f).1 e
marked_goes_on x (Some k) a f (inl e) = omega (arith, e)
marked_goes_on x (Some k) a f (inr e) = omega (arith, e)

goes_on : (x : ℕ) (a : List ℕ) → IsEnd (quoted_octet x ++ a) → ⊥
goes_on x a h = marked_goes_on x (quotation x) a refl h

-- what is written of a part tells it, where an end follows
pub one_part : (p q a b : List ℕ) → quoted p ++ a ≡ quoted q ++ b → IsEnd a → IsEnd b → (p ≡ q) × (a ≡ b)
one_part [] [] a b e g h = (refl, e)
one_part [] (y ∷ q) a b e g h = absurd (goes_on y (quoted q ++ b) (subst IsEnd (e ∙ append_assoc (quoted_octet y) (quoted q) b) g))
one_part (x ∷ p) [] a b e g h = absurd (goes_on x (quoted p ++ a) (subst IsEnd (sym e ∙ append_assoc (quoted_octet x) (quoted p) a) h))
one_part (x ∷ p) (y ∷ q) a b e g h =
    let first = one_octet x y (quoted p ++ a) (quoted q ++ b) (sym (append_assoc (quoted_octet x) (quoted p) a) ∙ e ∙ append_assoc (quoted_octet y) (quoted q) b) in
    let rest = one_part p q a b first.1 g h in
    (rw (first.0, rest.0) refl, rest.1)

-- where no octet and no end follows a part that was read, no part is there
pub part_goes_on : (p q a b : List ℕ) → quoted p ++ a ≡ quoted q ++ b → IsEnd b → (IsEnd a → ⊥) → (o : ℕ) × (q' : List ℕ) × (a ≡ quoted_octet o ++ (quoted q' ++ b)) × (q ≡ p ++ o ∷ q')
part_goes_on [] [] a b e h n = absurd (n (subst IsEnd (sym e) h))
part_goes_on [] (y ∷ q) a b e h n = (y, q, e ∙ append_assoc (quoted_octet y) (quoted q) b, refl)
part_goes_on (x ∷ p) [] a b e h n = absurd (goes_on x (quoted p ++ a) (subst IsEnd (sym e ∙ append_assoc (quoted_octet x) (quoted p) a) h))
part_goes_on (x ∷ p) (y ∷ q) a b e h n =
    let first = one_octet x y (quoted p ++ a) (quoted q ++ b) (sym (append_assoc (quoted_octet x) (quoted p) a) ∙ e ∙ append_assoc (quoted_octet y) (quoted q) b) in
    let rest = part_goes_on p q a b first.1 h n in
    (rest.0, rest.1, rest.2, ap (λ z. z ∷ q) (sym first.0) ∙ ap (λ (l : List ℕ). x ∷ l) rest.3)

-- ---- whole texts

end_of_slashes : (components : List (List ℕ)) (a : List ℕ) → IsEnd a → IsEnd (after_slashes components ++ a)
end_of_slashes [] a h = h
end_of_slashes (c ∷ cs) a h = inl refl

-- a text of a principal, after a slash
with_slash : (cs : List (List ℕ)) (r : Option (List ℕ)) (text : List ℕ) → IsTextOf cs r text → 47 ∷ text ≡ after_slashes cs ++ realm_text r
with_slash [] r text h = absurd (h.0 refl)
with_slash (c ∷ cs) r text h = ap (λ (l : List ℕ). 47 ∷ l) h.3

slashes_end : (components : List (List ℕ)) (realm : Option (List ℕ)) → IsEnd (after_slashes components ++ realm_text realm)
slashes_end [] None = tt
slashes_end [] (Some realm) = inr refl
slashes_end (c ∷ cs) realm = inl refl

slash_end : (components : List (List ℕ)) (rest : List ℕ) → IsEnd (after_slashes components ++ 47 ∷ rest)
slash_end [] rest = inl refl
slash_end (c ∷ cs) rest = inl refl

-- what follows components has no slash
slashes_stop : (cs ds : List (List ℕ)) (a b : List ℕ) → after_slashes cs ++ a ≡ after_slashes ds ++ b → IsEnd a → IsEnd b → IsNotFirst 47 a → IsNotFirst 47 b → (cs ≡ ds) × (a ≡ b)
slashes_stop [] [] a b e f g p q = (refl, e)
slashes_stop [] (d ∷ ds) a b e f g p q = absurd (subst (IsNotFirst 47) e p refl)
slashes_stop (c ∷ cs) [] a b e f g p q = absurd (subst (IsNotFirst 47) (sym e) q refl)
slashes_stop (c ∷ cs) (d ∷ ds) a b e f g p q =
    let parts = one_part c d (after_slashes cs ++ a) (after_slashes ds ++ b)
    (sym (append_assoc (quoted c) (after_slashes cs) a) ∙ tail _ _ _ _ e ∙ append_assoc (quoted d) (after_slashes ds) b)
    (end_of_slashes cs a f) (end_of_slashes ds b g) in
    let rest = slashes_stop cs ds a b parts.1 f g p q in
    (ap (λ x. x ∷ cs) parts.0 ∙ ap (λ (l : List (List ℕ)). d ∷ l) rest.0, rest.1)

realm_end : (r : Option (List ℕ)) → IsEnd (realm_text r)
realm_end None = tt
realm_end (Some r) = inr refl

realm_no_slash : (r : Option (List ℕ)) → IsNotFirst 47 (realm_text r)
realm_no_slash None = tt
realm_no_slash (Some r) = λ e. omega (arith, e)

one_realm : (r s : Option (List ℕ)) → realm_text r ≡ realm_text s → r ≡ s
one_realm None None e = refl
one_realm None (Some s) e = absurd (omega (arith, ap length e))
one_realm (Some r) None e = absurd (omega (arith, ap length e))
one_realm (Some r) (Some s) e = ap Some (one_part r s [] [] (append-nil _ ∙ tail _ _ _ _ e ∙ sym (append-nil _)) tt tt).0

-- a text is that of one principal
pub one_principal : (cs ds : List (List ℕ)) (r s : Option (List ℕ)) (text : List ℕ) → IsTextOf cs r text → IsTextOf ds s text → (cs ≡ ds) × (r ≡ s)
one_principal cs ds r s text p q =
    let same = slashes_stop cs ds (realm_text r) (realm_text s) (sym (with_slash cs r text p) ∙ with_slash ds s text q) (realm_end r) (realm_end s) (realm_no_slash r) (realm_no_slash s) in
    (same.0, one_realm r s same.1)

-- what was read, and what is left of a text of components and a realm
pub text_goes_on : (cs ds : List (List ℕ)) (rest : List ℕ) (s : Option (List ℕ)) → after_slashes cs ++ 47 ∷ rest ≡ after_slashes ds ++ realm_text s
    → (d : List ℕ) × (ds' : List (List ℕ)) × (rest ≡ quoted d ++ (after_slashes ds' ++ realm_text s)) × (ds ≡ cs ++ d ∷ ds')
text_goes_on [] [] rest None e = absurd (omega (arith, ap length e))
text_goes_on [] [] rest (Some s) e = absurd (omega (arith, head _ _ _ _ e))
text_goes_on [] (d ∷ ds) rest s e = (d, ds, tail _ _ _ _ e ∙ append_assoc (quoted d) (after_slashes ds) (realm_text s), refl)
text_goes_on (c ∷ cs) [] rest None e = absurd (omega (arith, ap length e))
text_goes_on (c ∷ cs) [] rest (Some s) e = absurd (omega (arith, head _ _ _ _ e))
text_goes_on (c ∷ cs) (d ∷ ds) rest s e =
    let parts = one_part c d (after_slashes cs ++ 47 ∷ rest) (after_slashes ds ++ realm_text s)
    (sym (append_assoc (quoted c) (after_slashes cs) (47 ∷ rest)) ∙ tail _ _ _ _ e ∙ append_assoc (quoted d) (after_slashes ds) (realm_text s))
    (slash_end cs rest) (slashes_end ds s) in
    let more = text_goes_on cs ds rest s parts.1 in
    (more.0, more.1, more.2, ap (λ x. x ∷ ds) (sym parts.0) ∙ ap (λ (l : List (List ℕ)). c ∷ l) more.3)

-- ---- reading

-- an octet within ASCII
last_is_ascii : (p : List ℕ) (o : ℕ) (q : List ℕ) → IsAscii (p ++ o ∷ q) → o < 128
last_is_ascii [] o q h = h 0
last_is_ascii (x ∷ p) o q h = last_is_ascii p o q (λ i. h (suc i))

-- after a part that was read, where neither an octet nor an end is, there is no part
pub no_part : (text part : List ℕ) (taken : ℕ) → take taken text ≡ quoted part → (IsEnd (drop taken text) → ⊥)
    → ((o : ℕ) (rest : List ℕ) → o < 128 → drop taken text ≢ quoted_octet o ++ rest) → HasNoPart text
no_part text part taken read no_end no_octet q b ascii end e =
    let more = part_goes_on part q (drop taken text) b (ap (λ x. x ++ drop taken text) (sym read) ∙ take-append-drop taken text ∙ e) end no_end in
    no_octet more.0 (quoted more.1 ++ b) (last_is_ascii part more.0 more.1 (subst IsAscii more.3 ascii)) more.2

-- an octet more of the part
pub one_more : (text part : List ℕ) (taken count o : ℕ) → take taken text ≡ quoted part → IsAscii part → o < 128 → take count (drop taken text) ≡ quoted_octet o
    → (take (taken + count) text ≡ quoted (part ++ o ∷ [])) × IsAscii (part ++ o ∷ [])
one_more text part taken count o read ascii small octet = (
  take-add taken count text ∙ ap (λ x. x ++ take count (drop taken text)) read ∙ ap (λ (x : List ℕ). quoted part ++ x) (octet ∙ sym (append-nil (quoted_octet o)))
      ∙ sym (flat_map-append quoted_octet part (o ∷ [])),
  IsAscii-append part (o ∷ []) ascii (IsAscii-cons o [] small IsAscii-nil),
)

-- what is left of a text as a slice of it
pub rest_of : (text : List ℕ) (n : ℕ) → take (length text - n) (drop n text) ≡ drop n text
rest_of text n = take_all (length text - n) (drop n text) (omega (arith, length-drop n text))

last_of_ascii : (cs : List (List ℕ)) (d : List ℕ) (ds : List (List ℕ)) → AllByRecursion IsAscii (cs ++ d ∷ ds) → IsAscii d
last_of_ascii [] d ds h = h.0
last_of_ascii (c ∷ cs) d ds h = last_of_ascii cs d ds h.1

-- where components were read and no part follows the slash, the text is of no principal
pub no_component : (text : List ℕ) (cs : List (List ℕ)) (rest : List ℕ) → 47 ∷ text ≡ after_slashes cs ++ 47 ∷ rest → HasNoPart rest
    → (ds : List (List ℕ)) (s : Option (List ℕ)) → ¬ IsTextOf ds s text
no_component text cs rest read none ds s h =
    let more = text_goes_on cs ds rest s (sym read ∙ with_slash ds s text h) in
    none more.0 (after_slashes more.1 ++ realm_text s) (last_of_ascii cs more.0 more.1 (subst (AllByRecursion IsAscii) more.3 h.1)) (slashes_end more.1 s) more.2

-- where components were read and no realm follows, the text is of no principal
pub no_realm : (text : List ℕ) (cs : List (List ℕ)) (rest : List ℕ) → 47 ∷ text ≡ after_slashes cs ++ rest → IsEnd rest → IsNotFirst 47 rest
    → ((r : Option (List ℕ)) → IfSome r IsAscii → rest ≢ realm_text r) → (ds : List (List ℕ)) (s : Option (List ℕ)) → ¬ IsTextOf ds s text
no_realm text cs rest read end slash none ds s h =
    none s h.2 (slashes_stop cs ds rest (realm_text s) (sym read ∙ with_slash ds s text h) end (realm_end s) slash (realm_no_slash s)).1

-- and where one does, it is of these
pub whole_text : (text : List ℕ) (cs : List (List ℕ)) (r : Option (List ℕ)) → cs ≢ [] → 47 ∷ text ≡ after_slashes cs ++ realm_text r → text ≡ principal_text cs r
whole_text text [] r some e = absurd (some refl)
whole_text text (c ∷ cs) r some e = tail _ _ _ _ e

-- a component more
pub one_component : (text : List ℕ) (cs : List (List ℕ)) (c rest : List ℕ) (taken : ℕ) → 47 ∷ text ≡ after_slashes cs ++ 47 ∷ rest → take taken rest ≡ quoted c
    → 47 ∷ text ≡ after_slashes (cs ++ c ∷ []) ++ drop taken rest
one_component text cs c rest taken read part =
    read ∙ ap (λ (l : List ℕ). after_slashes cs ++ 47 ∷ l) (sym (take-append-drop taken rest) ∙ ap (λ x. x ++ drop taken rest) part)
    ∙ sym (append_assoc (after_slashes cs) (47 ∷ quoted c) (drop taken rest))
    ∙ ap (λ (l : List ℕ). (after_slashes cs ++ l) ++ drop taken rest) (sym (append-nil (47 ∷ quoted c)))
    ∙ ap (λ x. x ++ drop taken rest) (sym (flat_map-append (λ x. 47 ∷ quoted x) cs (c ∷ [])))

-- a reason for another
pub memory_or : (e : PrincipalError) (p q : Type 0) → IsMemoryOr e p → (p → q) → IsMemoryOr e q
memory_or e p q (inl memory) f = inl memory
memory_or e p q (inr why) f = inr (why.0, f why.1)

-- no realm is written where no part follows the `@`
pub no_realm_part : (rest : List ℕ) → HasNoPart rest → (r : Option (List ℕ)) → IfSome r IsAscii → 64 ∷ rest ≢ realm_text r
no_realm_part rest none None ascii e = omega (arith, ap length e)
no_realm_part rest none (Some r) ascii e = none r [] ascii tt (tail _ _ _ _ e ∙ sym (append-nil (quoted r)))

-- nor where more follows the part
pub no_long_realm : (rest part : List ℕ) (taken : ℕ) → take taken rest ≡ quoted part → IsEnd (drop taken rest) → taken < length rest
    → (r : Option (List ℕ)) → IfSome r IsAscii → 64 ∷ rest ≢ realm_text r
no_long_realm rest part taken read end long None ascii e = omega (arith, ap length e)
no_long_realm rest part taken read end long (Some r) ascii e =
    let same = one_part part r (drop taken rest) [] (ap (λ x. x ++ drop taken rest) (sym read) ∙ take-append-drop taken rest ∙ tail _ _ _ _ e ∙ sym (append-nil (quoted r))) end tt in
    omega (arith, long, length-drop taken rest, ap length same.1)

-- nor where another octet is first
pub no_other_mark : (text : List ℕ) → IsNotFirst 64 text → text ≢ [] → (r : Option (List ℕ)) → IfSome r IsAscii → text ≢ realm_text r
no_other_mark text other some None ascii e = some e
no_other_mark text other some (Some r) ascii e = subst (IsNotFirst 64) e other refl

-- where nothing follows, the realm is whole
pub whole_realm : (rest part : List ℕ) (taken : ℕ) → take taken rest ≡ quoted part → length rest ≤ taken → 64 ∷ rest ≡ realm_text (Some part)
whole_realm rest part taken read all = ap (λ (l : List ℕ). 64 ∷ l) (sym (take_all taken rest all) ∙ read)

-- ---- the loop over components

-- what is left after a slash, and whether there is one
abbrev pub octets_left : {A : Type 0} → (A → List ℕ) → Option A → ℕ
octets_left now None = 0
octets_left now (Some next) = suc (length (now next))

-- all components of a text were read
abbrev pub AreRead : List ℕ → List (List ℕ) → List ℕ → Type 0
AreRead text cs rest = (cs ≢ []) × (47 ∷ text ≡ after_slashes cs ++ rest) × IsEnd rest × IsNotFirst 47 rest

-- some were, and more are after a slash, or all were
abbrev pub IsBetween : {A : Type 0} → (A → List ℕ) → List ℕ → List (List ℕ) → List ℕ → Option A → Type 0
IsBetween now text cs rest None = AreRead text cs rest
IsBetween now text cs rest (Some next) = 47 ∷ text ≡ after_slashes cs ++ 47 ∷ now next

not_empty : (cs : List (List ℕ)) (c : List ℕ) → cs ++ c ∷ [] ≢ []
not_empty cs c e = omega (arith, ap length e, length-append cs (c ∷ []))

pub next_component : {A : Type 0} (now : A → List ℕ) (text : List ℕ) (cs : List (List ℕ)) (c rest : List ℕ) (taken : ℕ) (more : Option A)
    → 47 ∷ text ≡ after_slashes cs ++ 47 ∷ rest → take taken rest ≡ quoted c → IsEnd (drop taken rest)
    → MatchOption more (IsNotFirst 47 (drop taken rest)) (λ next. drop taken rest ≡ 47 ∷ now next)
    → IsBetween now text (cs ++ c ∷ []) (drop taken rest) more
next_component now text cs c rest taken None read part end slash = (not_empty cs c, one_component text cs c rest taken read part, end, slash)
next_component now text cs c rest taken (Some next) read part end slash =
    one_component text cs c rest taken read part ∙ ap (λ (l : List ℕ). after_slashes (cs ++ c ∷ []) ++ l) slash

-- and fewer octets are left
pub fewer_left : {A : Type 0} (now : A → List ℕ) (rest : List ℕ) (taken : ℕ) (more : Option A)
    → MatchOption more (IsNotFirst 47 (drop taken rest)) (λ next. drop taken rest ≡ 47 ∷ now next) → octets_left now more < suc (length rest)
fewer_left now rest taken None slash = omega arith
fewer_left now rest taken (Some next) slash = omega (arith, ap length slash, length-drop taken rest)

pub all_ascii : (cs : List (List ℕ)) (c : List ℕ) → AllByRecursion IsAscii cs → IsAscii c → AllByRecursion IsAscii (cs ++ c ∷ [])
all_ascii [] c h k = (k, tt)
all_ascii (x ∷ cs) c h k = (h.0, all_ascii cs c h.1 k)

pub more_unread : {A : Type 0} (now : A → List ℕ) (text : List ℕ) (cs : List (List ℕ)) (rest : List ℕ) (more : Option A) (next : A)
    → more ≡ Some next → IsBetween now text cs rest more → 47 ∷ text ≡ after_slashes cs ++ 47 ∷ now next
more_unread now text cs rest more next e h = subst (IsBetween now text cs rest) e h

pub all_read : {A : Type 0} (now : A → List ℕ) (text : List ℕ) (cs : List (List ℕ)) (rest : List ℕ) (more : Option A)
    → more ≡ None → IsBetween now text cs rest more → AreRead text cs rest
all_read now text cs rest more e h = subst (IsBetween now text cs rest) e h
