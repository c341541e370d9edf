-- What elements in a row add.
use Rattle.std.proofs.Common.{◌≡◌, ℕ, Bool, refl, sym, subst, zero, suc, List, [], ◌∷◌, ◌++◌, length, arith}
use Rattle.krb_der_core.specs.Encoding.{IsOctets}
use Rattle.krb_der_core.specs.Tlv.{len, tlv}
use Rattle.krb_schema.specs.declared.item.Node.TheVariants as nodes
use Rattle.krb_schema.specs.declared.shape.Role.{Role}
use Rattle.krb_schema.specs.Forests.{Forest, none, leaf, node, beside, enc}
use Rattle.krb_show.specs.Pages.{◌then◌}
use Rattle.krb_show.specs.Tokens.{Label, Token}
use Rattle.krb_show_row_laws.specs.Pages.{behind, behind_leaf, forest_shown}

-- ---- one after the other

pub then_nothing : (a : List Token → List Token → Type 0) (old new : List Token) → (a then (λ (from to : List Token). to ≡ from)) old new → a old new
then_nothing a old new (between, h, e) = subst (a old) (sym e) h

module _ (tells : Role → List ℕ → Label → List ℕ → List Token → List Token → Type 0) where
  pub shown_beside : (in_list : Bool) (number : List ℕ) (f g : Forest) (old new : List Token) → forest_shown tells in_list number (beside f g) old new
      → (forest_shown tells in_list number f then forest_shown tells in_list (behind f number) g) old new
  shown_beside in_list number none g old new h = (old, refl, h)
  shown_beside in_list number (leaf kind name tag content rest) g old new (between, h, k) =
      let r = shown_beside in_list (behind_leaf kind content number) rest g between new k in (r.0, (between, h, r.1), r.2)
  shown_beside in_list number (node nodes.Wrap name tag inside rest) g old new (between, h, k) =
      let r = shown_beside in_list (behind inside number) rest g between new k in (r.0, (between, h, r.1), r.2)
  shown_beside in_list number (node nodes.Struct name tag inside rest) g old new (between, h, k) =
      let r = shown_beside in_list (behind inside number) rest g between new k in (r.0, (between, h, r.1), r.2)
  shown_beside in_list number (node nodes.List name tag inside rest) g old new (between, h, k) =
      let r = shown_beside in_list (behind inside number) rest g between new k in (r.0, (between, h, r.1), r.2)
  shown_beside in_list number (node nodes.FilledList name tag inside rest) g old new (between, h, k) =
      let r = shown_beside in_list (behind inside number) rest g between new k in (r.0, (between, h, r.1), r.2)

-- ---- each number is an octet

pub octets_left : (a b : List ℕ) → IsOctets (a ++ b) → IsOctets a
octets_left [] b h zero = omega arith
octets_left [] b h (suc i) = omega arith
octets_left (x ∷ a) b h zero = h 0
octets_left (x ∷ a) b h (suc i) = octets_left a b (λ j. h (suc j)) i

pub octets_right : (a b : List ℕ) → IsOctets (a ++ b) → IsOctets b
octets_right [] b h = h
octets_right (x ∷ a) b h = octets_right a b (λ j. h (suc j))

pub octets_within : (tag : ℕ) (content : List ℕ) → IsOctets (tlv tag content) → IsOctets content
unfolding tlv
octets_within tag content h = octets_right (tag ∷ len (length content)) content h

-- of the elements of leaves
abbrev pub AreSmall : Forest → Type 0
AreSmall none = Unit {0}
AreSmall (leaf kind name tag content rest) = IsOctets (tlv tag content) × AreSmall rest
AreSmall (node kind name tag inside rest) = AreSmall inside × AreSmall rest

pub are_small : (f : Forest) → IsOctets (enc f) → AreSmall f
are_small none h = tt
are_small (leaf kind name tag content rest) h = (octets_left (tlv tag content) (enc rest) h, are_small rest (octets_right (tlv tag content) (enc rest) h))
are_small (node kind name tag inside rest) h = (
  are_small inside (octets_within tag (enc inside) (octets_left (tlv tag (enc inside)) (enc rest) h)),
  are_small rest
      (octets_right (tlv tag (enc inside)) (enc rest) h),
)

pub small_beside : (f g : Forest) → AreSmall (beside f g) → AreSmall f × AreSmall g
small_beside none g h = (tt, h)
small_beside (leaf kind name tag content rest) g h = let r = small_beside rest g h.1 in ((h.0, r.0), r.1)
small_beside (node kind name tag inside rest) g h = let r = small_beside rest g h.1 in ((h.0, r.0), r.1)
