-- Elements at the start of octets, and trees that grow.
use Rattle.std.proofs.Common.{◌≡◌, ℕ, zero, suc, ◌+◌, ◌-◌, ◌%◌, ◌<◌, ◌==◌, refl, sym, ap, ◌∙◌, subst, List, [], ◌∷◌, ◌++◌, length, take, drop, true, false, arith, sub-one, Result, Ok, Err, slice_index_or}
use Rattle.std.specs.Prelude.{OnOk}
use Rattle.std.proofs.lemmas.Grind.{common_steps}
use Rattle.std.proofs.lemmas.List.{append-nil, append_assoc, length-append, length-drop, take_all}
use Rattle.krb_der_core.specs.Errors.{HeaderError, PrefixError, no_tag, wrong_tag, wrong_length, cut_content, wrong_content}
use Rattle.krb_der_core.specs.Tlv.{header, tlv, len}
use Rattle.krb_der_core.specs.declared.error.Asn1DerError.{Asn1DerError}
use Rattle.krb_der_core.specs.declared.error.Asn1DerError.TheVariants as errors
use Rattle.krb_show.specs.Tokens.{Token}
use Rattle.krb_show.specs.declared.token.Form.TheVariants as form
use Rattle.krb_show.specs.Tree.{IsElementShown, IsNoElement, IsTree, heading_of, is_constructed, is_opened, is_short, rest_of, nothing, shut, opened, no_element, alone, with_content}

pub on_ok : {A E : Type 0} (r : Result A E) (P Q : Type 0) → (P → Q) → OnOk r P → OnOk r Q
on_ok (Ok v) P Q f h = f h
on_ok (Err e) P Q f h = tt

pub all_behind : (octets : List ℕ) (n : ℕ) → take (length octets - n) (drop n octets) ≡ drop n octets
all_behind octets n = take_all (length octets - n) (drop n octets) (omega (arith, length-drop n octets))

-- ---- what is at the start

long_is_not_short : (t : ℕ) → t % 32 ≡ 31 → is_short t ≡ false
long_is_not_short t e = rw e refl

pub long_tag : (octets : List ℕ) → 0 < length octets → slice_index_or octets 0 0 % 32 ≡ 31 → IsNoElement octets errors.InvalidData
long_tag [] some e = absurd (omega (arith, some))
long_tag (t ∷ rest) some e = (some, wrong_tag t rest refl (long_is_not_short t e))

at_start : (octets rest : List ℕ) (t : ℕ) → octets ≡ t ∷ rest → slice_index_or octets 0 0 ≡ t
at_start octets rest t e = ap (λ o. slice_index_or o 0 0) e

short_there : (octets rest : List ℕ) (t : ℕ) → is_short (slice_index_or octets 0 0) ≡ true → octets ≡ t ∷ rest → is_short t ≡ true
short_there octets rest t short e = subst (λ n. is_short n ≡ true) (at_start octets rest t e) short

same_is_same : (m n : ℕ) → m ≡ n → m == n ≡ false → ⊥
same_is_same m n e f = grind (arith, common_steps)

short_error : (octets : List ℕ) (why : Asn1DerError) → is_short (slice_index_or octets 0 0) ≡ true → HeaderError (slice_index_or octets 0 0) octets why
    → PrefixError is_short (λ tag content e. ⊥) octets why
short_error octets why short (no_tag p) = no_tag p
short_error octets why short (wrong_tag t rest p w) = absurd (same_is_same t (slice_index_or octets 0 0) (sym (at_start octets rest t p)) w)
short_error octets why short (wrong_length t rest e p w f) = wrong_length t rest e p (short_there octets rest t short p) f
short_error octets why short (cut_content t n rest p w less cut) = cut_content t n rest p (short_there octets (len n ++ rest) t short p) less cut
short_error octets why short (wrong_content t content rest e p w less f) = absurd f

short_by_number : (t : ℕ) → (t % 32 ≡ 31 → ⊥) → is_short t ≡ true
short_by_number t h = grind (arith, common_steps)

pub rejected : (octets : List ℕ) (why : Asn1DerError) → 0 < length octets → (slice_index_or octets 0 0 % 32 ≡ 31 → ⊥)
    → HeaderError (slice_index_or octets 0 0) octets why → IsNoElement octets why
rejected octets why some short h = (some, short_error octets why (short_by_number (slice_index_or octets 0 0) short) h)

-- ---- trees

none_left : (tag : ℕ) → is_opened zero tag ≡ true → ⊥
none_left tag is = grind (arith, common_steps)

open_is_constructed : (levels tag : ℕ) → is_opened levels tag ≡ true → is_constructed tag ≡ true
open_is_constructed levels tag is = grind (arith, common_steps)

pub opened_shown : (levels at head tag : ℕ) (content : List ℕ) (inside : List Token) → is_opened levels tag ≡ true → IsTree (levels - 1) (at + head) content inside
    → IsElementShown levels at head tag content (heading_of form.Struct at tag content ∷ (inside ++ heading_of form.StructEnd at tag content ∷ []))
opened_shown zero at head tag content inside is tree = absurd (none_left tag is)
opened_shown (suc levels) at head tag content inside is tree = with_content levels at head tag content inside (open_is_constructed (suc levels) tag is) (subst (λ n. IsTree n (at + head) content inside) (sub-one (suc levels)) tree)

-- how many octets an element has before its content
pub header_size : (tag taken : ℕ) (content : List ℕ) → taken ≡ length (tlv tag content) → taken ≡ length (header tag (length content)) + length content
unfolding tlv
header_size tag taken content e = e ∙ length-append (tag ∷ len (length content)) content

whole_size : (tag head : ℕ) (content : List ℕ) → head ≡ length (header tag (length content)) → head + length content ≡ length (tlv tag content)
whole_size tag head content e = ap (λ n. n + length content) e ∙ sym (header_size tag (length (tlv tag content)) content refl)

-- an element is shown, and then what is behind it
pub tree_more : (levels at head tag : ℕ) (content rest octets : List ℕ) (tokens more : List Token) → octets ≡ tlv tag content ++ rest → is_short tag ≡ true
    → head ≡ length (header tag (length content)) → IsElementShown levels at head tag content tokens
    → IsTree levels (at + (head + length content)) rest more → IsTree levels at octets (tokens ++ more)
tree_more levels at head tag content rest octets tokens more is short h (alone l a k u c not_open) tree =
    let t = whole_size tag head content h in
    shut levels at tag content rest octets more is short not_open (subst (λ n. IsTree levels (at + n) rest more) t tree)
tree_more (suc levels) at head tag content rest octets tokens more is short h (with_content l a k u c inside made within) tree =
    let t = whole_size tag head content h in
    let heading = heading_of form.Struct at tag content in
    let ending = heading_of form.StructEnd at tag content in
    let whole = opened levels at tag content rest octets inside more is short made (subst (λ n. IsTree levels (at + n) content inside) h within)
    (subst (λ n. IsTree (suc levels) (at + n) rest more) t tree) in
    subst (λ ts. IsTree (suc levels) at octets ts) (ap (λ ts. heading ∷ ts) (sym (append_assoc inside (ending ∷ []) more))) whole

-- the tokens of an element whose content is shown within it, appended one after another
pub element_shown : (levels at head tag : ℕ) (content : List ℕ) (inside before begun within ended : List Token) → is_opened levels tag ≡ true
    → IsTree (levels - 1) (at + head) content inside → begun ≡ before ++ heading_of form.Struct at tag content ∷ [] → within ≡ begun ++ inside
    → ended ≡ within ++ heading_of form.StructEnd at tag content ∷ []
    → (tokens : List Token) × IsElementShown levels at head tag content tokens × (ended ≡ before ++ tokens)
element_shown levels at head tag content inside before begun within ended is tree e f g =
    let heading = heading_of form.Struct at tag content in
    let ending = heading_of form.StructEnd at tag content in
    let whole : ended ≡ before ++ (heading ∷ (inside ++ ending ∷ [])) =
    g ∙ ap (λ p. p ++ ending ∷ []) (f ∙ ap (λ p. p ++ inside) e) ∙ append_assoc (before ++ heading ∷ []) inside (ending ∷ [])
    ∙ append_assoc before (heading ∷ []) (inside ++ ending ∷ []) in
    (heading ∷ (inside ++ ending ∷ []), opened_shown levels at head tag content inside is tree, whole)

-- the rest is shown: no octets, or octets that are no element
pub tree_ended : (levels at start : ℕ) (rest octets : List ℕ) (done before now : List Token) → length rest ≡ 0 → now ≡ before ++ done
    → ((more : List Token) → IsTree levels at rest more → IsTree levels start octets (done ++ more))
    → (tokens : List Token) × IsTree levels start octets tokens × (now ≡ before ++ tokens)
tree_ended levels at start [] octets done before now none e f =
    (done, subst (λ ts. IsTree levels start octets ts) (append-nil done) (f [] (nothing levels at)), e)
tree_ended levels at start (x ∷ rest) octets done before now none e f = absurd (omega (arith, none))

pub tree_stopped : (levels at start : ℕ) (rest octets : List ℕ) (why : Asn1DerError) (done before now after : List Token) → IsNoElement rest why → now ≡ before ++ done
    → ((more : List Token) → IsTree levels at rest more → IsTree levels start octets (done ++ more)) → after ≡ now ++ rest_of at why rest ∷ []
    → (tokens : List Token) × IsTree levels start octets tokens × (after ≡ before ++ tokens)
tree_stopped levels at start rest octets why done before now after none e f g =
    let last = rest_of at why rest ∷ [] in
    (done ++ last, f last (no_element levels at rest why none), g ∙ ap (λ p. p ++ last) e ∙ append_assoc before done last)

-- one more element is shown
pub tree_longer : (levels at head start tag : ℕ) (content rest behind octets : List ℕ) (done tokens before now after : List Token) → rest ≡ tlv tag content ++ behind
    → is_short tag ≡ true → head ≡ length (header tag (length content)) → IsElementShown levels at head tag content tokens → now ≡ before ++ done
    → ((more : List Token) → IsTree levels at rest more → IsTree levels start octets (done ++ more)) → after ≡ now ++ tokens
    → (shown : List Token) × (after ≡ before ++ shown) × ((more : List Token) → IsTree levels (at + (head + length content)) behind more → IsTree levels start octets (shown ++ more))
tree_longer levels at head start tag content rest behind octets done tokens before now after is short h shown e f g = (
  done ++ tokens,
  g ∙ ap (λ p. p ++ tokens) e ∙ append_assoc before done tokens,
  λ more tree. subst (λ ts. IsTree levels start octets ts) (sym (append_assoc done tokens more))
      (f (tokens ++ more) (tree_more levels at head tag content behind rest tokens more is short h shown tree)),
)
