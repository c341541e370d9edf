-- Messages that were made.
use Rattle.std.proofs.Common.{◌≡◌, ℕ, List, [], ◌++◌, take, drop, refl, sym, subst, ap, ◌∙◌, Option, None, Result, Ok, Err, MatchResult, inr}
use Rattle.krb_der_core.specs.declared.der.DerEncode.{Ghosts as EncodingOf}
use Rattle.krb_der_core.specs.Tlv.{tlv}
use Rattle.krb_gss_tokens.specs.TokenLaws.{token_is}
use Rattle.krb_c_calls.specs.MessageRules.{RefusesReading}
use Rattle.krb_c_calls.specs.Statuses.{refusal_status}
use Rattle.krb_c_calls.specs.declared.call_error.CallError.{CallError}
use Rattle.krb_c_calls.specs.Making.{IsMade, IsMadeAnswer, IsStateNumber, RefusesAnswer, made_answer, made_init, present, spnego}
use Rattle.krb_c_calls.specs.Negotiation.{field}

pub init_made : (a b made fields octets m t i : List ℕ) → a ≡ [] ++ tlv 6 spnego → b ≡ a ++ octets → octets ≡ fields
    → fields ≡ tlv 160 (tlv 48 (field 160 48 (present m) ++ field 161 3 None ++ field 162 4 (present t) ++ field 163 4 (present i)))
    → made ≡ take 0 b ++ tlv 96 (drop 0 b) → made ≡ made_init m t i
init_made a b made fields octets m t i first second same whole last =
    let inner = tlv 160 (tlv 48 (field 160 48 (present m) ++ field 161 3 None ++ field 162 4 (present t) ++ field 163 4 (present i))) in
    let content = tlv 6 spnego ++ inner in
    last ∙ ap (tlv 96) (second ∙ ap (λ (l : List ℕ). l ++ octets) first ∙ ap (λ (l : List ℕ). tlv 6 spnego ++ l) (same ∙ whole)) ∙ sym (token_is (tlv 48 content) content refl)

pub answer_made : {A V : Type 0} (t : EncodingOf A) (state : ℕ) (n : Option ℕ) (mechanism token mic octets : List ℕ) (made : Result V CallError) (items : V → List ℕ)
    → IsStateNumber state n → octets ≡ made_answer n mechanism token mic
    → MatchResult made (λ v. IsMade t octets (items v)) (λ e. RefusesReading t octets (refusal_status e))
    → MatchResult made (λ v. IsMadeAnswer t state mechanism token mic (items v)) (λ e. RefusesAnswer t state mechanism token mic (refusal_status e))
answer_made t state n mechanism token mic octets (Ok v) items is same right = (n, is, subst (λ (l : List ℕ). IsMade t l (items v)) same right)
answer_made t state n mechanism token mic octets (Err e) items is same refused =
    inr (n, is, subst (λ (l : List ℕ). RefusesReading t l (refusal_status e)) same refused)
