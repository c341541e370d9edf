-- What octets hold, element after element, by tags and lengths alone (X.690, 8.1).
use Rattle.std.specs.Prelude.{◌≡◌, ℕ, suc, ◌+◌, ◌<◌, ◌/◌, ◌%◌, nat_eq, nat_lt, not, ◌&&◌, if◌then◌else◌, Bool, true, false, List, [], ◌∷◌, ◌++◌, codes, length}
use Rattle.std.specs.Fmt.{decimal}
use Rattle.krb_der_core.specs.Tlv.{header, tlv}
use Rattle.krb_der_core.specs.Errors.{PrefixError}
use Rattle.krb_der_core.specs.declared.error.Asn1DerError.{Asn1DerError}
use Rattle.krb_der_core.specs.declared.error.Asn1DerError.TheVariants as errors
use Rattle.krb_show.specs.declared.token.Form.{Form}
use Rattle.krb_show.specs.declared.token.Form.TheVariants as form
use Rattle.krb_show.specs.Tokens.{Label, Token, leaf, mark, plain}
use Rattle.krb_show.specs.Names.{is_text, tag_name}

-- ---- tags

-- whether a tag has one octet (8.1.2.2 and 8.1.2.4)
abbrev pub is_short : ℕ → Bool
is_short tag = not (nat_eq (tag % 32) 31)

-- whether the content is elements: bit 6 of the tag (8.1.2.5)
abbrev pub is_constructed : ℕ → Bool
is_constructed tag = nat_eq (tag / 32 % 2) 1

-- whether the content is shown as elements, where so many levels may still be opened
abbrev pub is_opened : ℕ → ℕ → Bool
is_opened levels tag = nat_lt 0 levels && is_constructed tag

-- The octets do not begin with an element whose tag has one octet, and this is the first error: the tag has more, the length is none of
-- DER (8.1.3 and 10.1), or the content is cut.
abbrev pub IsNoElement : List ℕ → Asn1DerError → Type 0
IsNoElement octets e = (0 < length octets) × PrefixError is_short (λ tag content why. ⊥) octets e

-- ---- tokens

-- NAME@PLACE+COUNT: where what is shown begins, and how many octets it has, of an element those of its content
unfoldable pub label_of : List ℕ → ℕ → ℕ → Label
label_of name at count = plain (name ++ 64 ∷ decimal at ++ 43 ∷ decimal count)

abbrev pub error_name : Asn1DerError → List ℕ
error_name errors.InvalidData = codes "InvalidData"
error_name errors.TruncatedData = codes "TruncatedData"
error_name errors.UnsupportedValue = codes "UnsupportedValue"
error_name e = codes "error"

-- an element whose content is shown beside it, as a text where its tag is that of one
abbrev pub leaf_of : ℕ → ℕ → List ℕ → Token
leaf_of at tag content = leaf (if is_text tag then form.Text else form.Octets) (label_of (tag_name tag) at (length content)) content

-- octets that are no element: the error in place of a tag
abbrev pub rest_of : ℕ → Asn1DerError → List ℕ → Token
rest_of at why octets = leaf form.Octets (label_of (error_name why) at (length octets)) octets

-- an element whose content is shown within it
abbrev pub heading_of : Form → ℕ → ℕ → List ℕ → Token
heading_of begin at tag content = mark begin (label_of (tag_name tag) at (length content))

-- ---- trees

-- The tokens of octets, which begin at a place; elements are opened so many levels deep, and no deeper.
pub data IsTree : ℕ → ℕ → List ℕ → List Token → Type 0 where
  nothing : (levels at : ℕ) → IsTree levels at [] []
  shut : (levels at tag : ℕ) (content rest octets : List ℕ) (behind : List Token)
      → octets ≡ tlv tag content ++ rest → is_short tag ≡ true → is_opened levels tag ≡ false
      → IsTree levels (at + length (tlv tag content)) rest behind
      → IsTree levels at octets (leaf_of at tag content ∷ behind)
  opened : (levels at tag : ℕ) (content rest octets : List ℕ) (inside behind : List Token)
      → octets ≡ tlv tag content ++ rest → is_short tag ≡ true → is_constructed tag ≡ true
      → IsTree levels (at + length (header tag (length content))) content inside
      → IsTree (suc levels) (at + length (tlv tag content)) rest behind
      → IsTree (suc levels) at octets (heading_of form.Struct at tag content ∷ (inside ++ heading_of form.StructEnd at tag content ∷ behind))
  no_element : (levels at : ℕ) (octets : List ℕ) (why : Asn1DerError)
      → IsNoElement octets why → IsTree levels at octets (rest_of at why octets ∷ [])

-- the tokens of one element, whose content begins so many octets behind its place
pub data IsElementShown : ℕ → ℕ → ℕ → ℕ → List ℕ → List Token → Type 0 where
  alone : (levels at head tag : ℕ) (content : List ℕ) → is_opened levels tag ≡ false
      → IsElementShown levels at head tag content (leaf_of at tag content ∷ [])
  with_content : (levels at head tag : ℕ) (content : List ℕ) (inside : List Token) → is_constructed tag ≡ true
      → IsTree levels (at + head) content inside
      → IsElementShown (suc levels) at head tag content (heading_of form.Struct at tag content ∷ (inside ++ heading_of form.StructEnd at tag content ∷ []))

-- how many levels are opened
abbrev pub levels_of_trees : ℕ
levels_of_trees = 64

-- the page of octets as a tree of elements
abbrev pub IsTreePage : List ℕ → List Token → Type 0
IsTreePage octets page = IsTree levels_of_trees 0 octets page
