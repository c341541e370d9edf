-- A time's text, and its element of DER.
use Rattle.std.proofs.Common.{◌≡◌, ap, ◌∙◌, ℕ, List, ◌∷◌, length}
use Rattle.krb_der_core.specs.GeneralizedTime.{IsRealTime, Time, time_content}
use Rattle.krb_der_core.specs.Tlv.{len, tlv}
use Rattle.krb_accept_report.specs.Texts.{IsNoText, digits_of, time_text}

-- it is that of the time whose text it is
pub element : (text : List ℕ) (t : Time) → text ≡ time_text t → 24 ∷ 15 ∷ digits_of text ≡ tlv 24 (time_content t)
unfolding tlv len
element text t is = ap (λ x. 24 ∷ 15 ∷ digits_of x) is

pub no_length : (text : List ℕ) → (length text ≡ 20 → ⊥) → IsNoText text
no_length text not t real is = not (ap length is)

pub no_element : (text : List ℕ) → ((t : Time) → IsRealTime t × (24 ∷ 15 ∷ digits_of text ≡ tlv 24 (time_content t)) → ⊥) → IsNoText text
no_element text none t real is = none t (real, element text t is)

pub other_element : (text : List ℕ) (time : Time)
    → ((t : Time) → IsRealTime t × (24 ∷ 15 ∷ digits_of text ≡ tlv 24 (time_content t)) → t ≡ time) → (text ≡ time_text time → ⊥) → IsNoText text
other_element text time only not t real is = not (is ∙ ap time_text (only t (real, element text t is)))
