-- Comparisons that are true of equal values alone, and what is made of them.
use Rattle.std.proofs.Common.{◌≡◌, ℤ, Bool, true, false, ◌&&◌, nat_eq, Option, Some, None, refl, sym, ap, ◌∙◌}
use Rattle.std.proofs.lemmas.Bool.{eqb-true, false≢true}
use Rattle.std.proofs.Common.{eq-eqb}
use Rattle.std.specs.Cmp.{first_so, second_so}
use Rattle.std.specs.Option.{option_eq}
use Rattle.std.specs.Cmp.Lexicographic.{pointwise, pointwise_decides, bytes_decides}
use Rattle.krb_der_core.specs.Integer.{shortest}
use Rattle.krb_der_core.specs.IntegerLaws.{integer_one_content}
use Rattle.krb_der_core.specs.BitString.{Bits}
use Rattle.krb_der_core.specs.GeneralizedTime.{Time, time}
use Rattle.krb_der.specs.declared.optional.Optional.{Optional}
use Rattle.krb_der.specs.FieldLaws.{same_optional, same_both}
use Rattle.krb_der.specs.Equality.{DecidesEqual}

and_both : (b c : Bool) → b ≡ true → c ≡ true → (b && c) ≡ true
and_both true c e f = f
and_both false c e f = e

-- ---- primitive types

pub numbers_decide : DecidesEqual nat_eq
numbers_decide a b = (eqb-true a b, eq-eqb a b)

pub octets_decide : DecidesEqual (pointwise nat_eq)
octets_decide a b = bytes_decides a b

pub integers_decide : DecidesEqual (λ (a b : ℤ). pointwise nat_eq (shortest a) (shortest b))
integers_decide a b =
    let is_apart = bytes_decides (shortest a) (shortest b) in
    (λ e. integer_one_content a b tt tt (is_apart.0 e), λ e. is_apart.1 (ap shortest e))

-- ---- what is made of them

-- a pair
pub pair_decides : {A B : Type 0} {e : A → A → Bool} {f : B → B → Bool} → DecidesEqual e → DecidesEqual f → DecidesEqual (λ (v w : A × B). e v.0 w.0 && f v.1 w.1)
pair_decides {A} {B} {e} {f} g h v w = (
  λ k. same_both v w ((g v.0 w.0).0 (first_so (e v.0 w.0) (f v.1 w.1) k)) ((h v.1 w.1).0 (second_so (e v.0 w.0) (f v.1 w.1) k)),
  λ k. and_both (e v.0 w.0) (f v.1 w.1) ((g v.0 w.0).1 (ap (λ (p : A × B). p.0) k)) ((h v.1 w.1).1 (ap (λ (p : A × B). p.1) k)),
)

-- what is made of its parts, and taken apart to them
pub parts_decide : {A B : Type 0} {e : B → B → Bool} (parts : A → B) (made : B → A) → ((v : A) → made (parts v) ≡ v) → DecidesEqual e
    → DecidesEqual (λ (v w : A). e (parts v) (parts w))
parts_decide parts made same h v w = (
  λ k. sym (same v) ∙ ap made ((h (parts v) (parts w)).0 k) ∙ same w,
  λ k. (h (parts v) (parts w)).1 (ap parts k),
)

-- a value under an explicit tag
pub tag_decides : {A : Type 0} {e : A → A → Bool} → DecidesEqual e → DecidesEqual (λ (v w : A). e v w && true)
tag_decides {A} {e} h v w = (λ k. (h v w).0 (first_so (e v w) true k), λ k. and_both (e v w) true ((h v w).1 k) refl)

options_decide : {A : Type 0} (e : A → A → Bool) → DecidesEqual e → DecidesEqual (option_eq e)
options_decide e h None None = (λ k. refl, λ k. refl)
options_decide e h None (Some w) = (λ k. absurd (false≢true k), λ k. absurd cc)
options_decide e h (Some v) None = (λ k. absurd (false≢true k), λ k. absurd cc)
options_decide e h (Some v) (Some w) = (λ k. ap Some ((h v w).0 k), λ k. (h v w).1 (let j : v ≡ w = cc in j))

-- a value that may be absent
pub optional_decides : {A : Type 0} {e : A → A → Bool} → DecidesEqual e → DecidesEqual (λ (v w : Optional (Option A)). option_eq e v.0 w.0)
optional_decides {A} {e} h v w = (
  λ k. same_optional v w ((options_decide e h v.0 w.0).0 k),
  λ k. (options_decide e h v.0 w.0).1 (ap (λ (o : Optional (Option A)). o.0) k),
)

-- a list
pub list_decides : {A : Type 0} {e : A → A → Bool} → DecidesEqual e → DecidesEqual (pointwise e)
list_decides h = pointwise_decides h

-- ---- primitive types of several numbers

pub bits_decide : DecidesEqual (λ (v w : Bits). nat_eq v.spare w.spare && pointwise nat_eq v.octets w.octets)
bits_decide = parts_decide (λ v. (v.spare, v.octets)) (λ p. record { spare = p.0; octets = p.1 }) (λ v. refl) (pair_decides numbers_decide octets_decide)

pub times_decide : DecidesEqual (λ (v w : Time). nat_eq v.year w.year && (nat_eq v.month w.month && (nat_eq v.day w.day && (nat_eq v.hour w.hour && (nat_eq v.minute w.minute && nat_eq v.second w.second)))))
times_decide =
    parts_decide (λ v. (v.year, (v.month, (v.day, (v.hour, (v.minute, v.second)))))) (λ p. time p.0 p.1.0 p.1.1.0 p.1.1.1.0 p.1.1.1.1.0 p.1.1.1.1.1) (λ v. refl)
    (pair_decides numbers_decide (pair_decides numbers_decide (pair_decides numbers_decide (pair_decides numbers_decide (pair_decides numbers_decide numbers_decide)))))
