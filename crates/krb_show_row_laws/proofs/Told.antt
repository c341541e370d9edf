-- Elements that are told by their lines.
use Rattle.std.proofs.Common.{◌≡◌, ℕ, Bool, true, false, nat_lt, if◌then◌else◌, refl, ap, ◌∙◌, List, [], ◌∷◌, ◌++◌}
use Rattle.krb_der_core.specs.Tlv.{len, tlv}
use Rattle.krb_der_core.specs.TlvLaws.{tlv_apart}
use Rattle.krb_schema.specs.declared.shape.Leaf.TheVariants as leaves
use Rattle.krb_schema.specs.declared.shape.Name.{Name}
use Rattle.krb_schema.specs.declared.shape.Role.{Role}
use Rattle.krb_schema.specs.Forests.{Forest, none, leaf, beside, enc}
use Rattle.krb_schema.specs.Shapes.{AreElements, number_octets, no_elements, one_more}
use Rattle.krb_show.specs.Tokens.{Label, Token}
use Rattle.krb_show_row_laws.specs.Blocks.{Blocks, Tells}
use Rattle.krb_show_row_laws.specs.Firsts.{First, Firsts, are_apart, names_of}
use Rattle.krb_show_row_laws.specs.Pages.{behind, forest_shown}
use Rattle.krb_show_row_laws.specs.Tests.{number_content}
use Rattle.krb_show_row_laws.proofs.FieldLaws.{both_blocks, tells_so, then_by}
use Rattle.krb_show_row_laws.proofs.FirstLaws.{among_left, among_right, firsts_block, firsts_so, tells_from, tells_via}
use Rattle.krb_show_row_laws.proofs.ForestLaws.{AreSmall, shown_beside, small_beside}
use Rattle.krb_show_row_laws.proofs.Blocked.{blocks_among, blocks_so, firsts_then, left_alone, nothing_blocks, nothing_tells, right_alone}

-- what is known before elements are shown: what stands before them, and the INTEGER that stands last
abbrev pub Known : List ℕ → List ℕ → List ℕ → List ℕ → Type 0
Known before other number another = (before ≡ other) × (number ≡ another)

-- the INTEGER before, if it is that of a number below 256, is the one that stands last
abbrev pub Links : Bool → List ℕ → List ℕ → Type 0
Links false before number = Unit {0}
Links true before number = (n : ℕ) → before ≡ number_octets n → number ≡ number_content n

pub no_octets : (b : Bool) (n : ℕ) → [] ≡ (if b then 2 ∷ 1 ∷ n ∷ [] else 2 ∷ 2 ∷ 0 ∷ n ∷ []) → ⊥
no_octets true n e = cc
no_octets false n e = cc

-- nothing stands before the first
pub links_first : (linked : Bool) (number : List ℕ) → Links linked [] number
links_first false number = tt
links_first true number = λ n e. absurd (no_octets (nat_lt n 128) n e)

one_content : (tag : ℕ) (content : List ℕ) (b : Bool) (n : ℕ) → tlv tag content ++ [] ≡ (if b then 2 ∷ 1 ∷ n ∷ [] else 2 ∷ 2 ∷ 0 ∷ n ∷ [])
    → content ≡ (if b then n ∷ [] else 0 ∷ n ∷ [])
unfolding tlv len
one_content tag content true n e = (tlv_apart tag 2 content (n ∷ []) [] [] e).content
one_content tag content false n e = (tlv_apart tag 2 content (0 ∷ n ∷ []) [] [] e).content

-- behind an INTEGER
pub links_integer : (name : Name) (tag : ℕ) (content : List ℕ) → Links true (enc (leaf leaves.Integer name tag content none)) content
links_integer name tag content = λ n e. one_content tag content (nat_lt n 128) n e

pub both : (f g x y : Forest) → f ≡ g → x ≡ y → beside f x ≡ beside g y
both f g x y p q = ap (λ (h : Forest). beside h x) p ∙ ap (λ (h : Forest). beside g h) q

pub one_behind : (f g : Forest) (number another : List ℕ) → f ≡ g → number ≡ another → behind f number ≡ behind g another
one_behind f g number another p q = ap (λ (h : Forest). behind h number) p ∙ ap (λ (n : List ℕ). behind g n) q

module _ (tells : Role → List ℕ → Label → List ℕ → List Token → List Token → Type 0) where
  -- right elements begin so, and are told by their lines
  pub record Told (linked : Bool) (fs : List First) (IsRight : List ℕ → Forest → Type 0) : Type 0 where
    pub first : (before : List ℕ) (f : Forest) → IsRight before f → AreSmall f → (in_list : Bool) (number : List ℕ) → Links linked before number
        → Firsts fs (forest_shown tells in_list number f)
    pub told : (before other : List ℕ) (f g : Forest) → IsRight before f → IsRight other g → AreSmall f → AreSmall g
        → (in_list : Bool) (number another : List ℕ)
        → Links linked before number → Links linked other another
        → Tells (λ names. names_of fs) (λ names. true) (Known before other number another) (f ≡ g) (forest_shown tells in_list number f)
        (forest_shown tells in_list another g)

  pub told_so : {linked : Bool} {fs : List First} {R S : List ℕ → Forest → Type 0} → ((before : List ℕ) (f : Forest) → R before f → S before f)
      → Told linked fs S → Told linked fs R
  told_so w t = record {
    first = λ before f r. t.first before f (w before f r);
    told = λ before other f g r s. t.told before other f g (w before f r) (w other g s);
  }

  -- ---- any number of elements

  module _ {fs : List First} {R : List ℕ → Forest → Type 0} (row : Told true fs R) where
    abbrev opens : List (List ℕ) → List (List ℕ)
    opens names = names_of fs ++ names

    more_blocks : (element others : Forest) (number : List ℕ) → Firsts fs (forest_shown tells true number element)
        → Blocks opens (forest_shown tells true (behind element number) others)
        → Blocks opens (forest_shown tells true number (beside element others))
    more_blocks element others number h k =
        blocks_so (shown_beside tells true number element others)
        (blocks_among {f = λ names. names_of fs} {g = opens} (λ names n a. among_left n (names_of fs) names a) (both_blocks (firsts_block h) k))

    pub elements_blocks : (f : Forest) → AreElements (R []) f → AreSmall f → (number : List ℕ) → Blocks opens (forest_shown tells true number f)
    elements_blocks f no_elements small number = nothing_blocks opens (λ names n a. among_right n (names_of fs) names a)
    elements_blocks f (one_more element others r rs) small number =
        let s = small_beside element others small in
        more_blocks element others number (row.first [] element r s.0 true number (links_first true number))
        (elements_blocks others rs s.1 (behind element number))

    more_firsts : (element others : Forest) → R [] element → AreElements (R []) others → AreSmall (beside element others) → (number : List ℕ)
        → Firsts fs (forest_shown tells true number (beside element others))
    more_firsts element others r rs small number =
        let s = small_beside element others small in
        firsts_so (shown_beside tells true number element others)
        (firsts_then (row.first [] element r s.0 true number (links_first true number)) (elements_blocks others rs s.1 (behind element number)))

    pub elements_told : (f g : Forest) → AreElements (R []) f → AreElements (R []) g → AreSmall f → AreSmall g → (number another : List ℕ)
        → Tells opens (λ names. are_apart (names_of fs) names) (number ≡ another) (f ≡ g) (forest_shown tells true number f) (forest_shown tells true another g)
    elements_told f g no_elements no_elements small little number another =
        nothing_tells opens (λ names. are_apart (names_of fs) names) (λ names n a. among_right n (names_of fs) names a) refl
    elements_told f g no_elements (one_more b bs w ws) small little number another =
        right_alone {g = λ names. names} (elements_blocks none no_elements small number) (elements_blocks (beside b bs) (one_more b bs w ws) little another)
        (nothing_blocks (λ names. names) (λ names n a. a)) (more_firsts b bs w ws little another) (λ names fit. fit)
    elements_told f g (one_more a as_ r rs) no_elements small little number another =
        left_alone {g = λ names. names} (elements_blocks (beside a as_) (one_more a as_ r rs) small number) (elements_blocks none no_elements little another)
        (more_firsts a as_ r rs small number) (nothing_blocks (λ names. names) (λ names n a. a)) (λ names fit. fit)
    elements_told f g (one_more a as_ r rs) (one_more b bs w ws) small little number another =
        let s = small_beside a as_ small in
        let t = small_beside b bs little in
        let one = tells_so (λ e. (refl, e)) (λ e. e) (row.told [] [] a b r w s.0 t.0 true number another (links_first true number)
        (links_first true another)) in
        let rest = elements_told as_ bs rs ws s.1 t.1 (behind a number) (behind b another) in
        tells_from (elements_blocks (beside a as_) (one_more a as_ r rs) small number) (elements_blocks (beside b bs) (one_more b bs w ws) little another)
        (tells_via (shown_beside tells true number a as_) (shown_beside tells true another b bs)
        (tells_so (λ e. e) (λ p. both a b as_ bs p.0 p.1) (then_by (λ e p. one_behind a b number another p e) one rest)))
