-- When comparisons are true.
use Rattle.std.proofs.Common.{◌≡◌, ◌↔◌, Bool, true, false, ◌&&◌, IsTrue, nat_eq, sym, ap, ◌∙◌}
use Rattle.std.proofs.lemmas.Bool.{eqb-true}
use Rattle.std.proofs.Common.{eq-eqb}
use Rattle.std.specs.Cmp.{first_so, second_so}
use Rattle.std.specs.Cmp.Lexicographic.{pointwise, pointwise_decides, bytes_decides}
use Rattle.krb_pac.specs.Kind.{code, named, named_code}
use Rattle.krb_pac.specs.Layout.{same_buffer}
use Rattle.krb_pac.specs.declared.kind.PacBufferType.{PacBufferType}

-- the test returns true for equal values and for no others
abbrev pub DecidesEqual : {A : Type 0} → (A → A → Bool) → Type 0
DecidesEqual {A} eq = (a b : A) → IsTrue (eq a b) ↔ (a ≡ b)

and_both : (b c : Bool) → b ≡ true → c ≡ true → (b && c) ≡ true
and_both true c e f = f
and_both false c e f = e

pub numbers_decide : DecidesEqual nat_eq
numbers_decide a b = (eqb-true a b, eq-eqb a b)

octets_decide : DecidesEqual (pointwise nat_eq)
octets_decide a b = bytes_decides a b

same_both : {A B : Type 0} (v w : A × B) → v.0 ≡ w.0 → v.1 ≡ w.1 → v ≡ w
same_both {A} {B} v w d e = ap (λ (a : A). (a, v.1)) d ∙ ap (λ (b : B). (w.0, b)) e

pub pair_decides : {A B : Type 0} {e : A → A → Bool} {f : B → B → Bool} → DecidesEqual e → DecidesEqual f → DecidesEqual (λ (v w : A × B). e v.0 w.0 && f v.1 w.1)
pair_decides {A} {B} {e} {f} g h v w = (
  λ k. same_both v w ((g v.0 w.0).0 (first_so (e v.0 w.0) (f v.1 w.1) k)) ((h v.1 w.1).0 (second_so (e v.0 w.0) (f v.1 w.1) k)),
  λ k. and_both (e v.0 w.0) (f v.1 w.1) ((g v.0 w.0).1 (ap (λ (p : A × B). p.0) k)) ((h v.1 w.1).1 (ap (λ (p : A × B). p.1) k)),
)

-- what is taken apart to its parts, and made of them again
pub parts_decide : {A B : Type 0} {e : B → B → Bool} (parts : A → B) (made : B → A) → ((v : A) → made (parts v) ≡ v) → DecidesEqual e → DecidesEqual (λ (v w : A). e (parts v) (parts w))
parts_decide parts made same h v w = (
  λ k. sym (same v) ∙ ap made ((h (parts v) (parts w)).0 k) ∙ same w,
  λ k. (h (parts v) (parts w)).1 (ap parts k),
)

pub buffers_decide : DecidesEqual same_buffer
buffers_decide = parts_decide (λ v. (code v.info.ul_type, (v.info.cb_buffer_size, (v.info.offset, v.octets))))
    (λ p. record { info = record { ul_type = named p.0; cb_buffer_size = p.1.0; offset = p.1.1.0 }; octets = p.1.1.1 })
    (λ v. ap (λ (k : PacBufferType). record { info = record { ul_type = k; cb_buffer_size = v.info.cb_buffer_size; offset = v.info.offset }; octets = v.octets }) (named_code v.info.ul_type))
    (pair_decides numbers_decide (pair_decides numbers_decide (pair_decides numbers_decide octets_decide)))

pub pacs_decide : DecidesEqual (pointwise same_buffer)
pacs_decide = pointwise_decides buffers_decide

-- a clone is the value again
abbrev pub ClonesValue : {A : Type 0} → (A → A → Type 0) → Type 0
ClonesValue {A} is_clone = (a b : A) → is_clone a b → b ≡ a
