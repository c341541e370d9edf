-- Messages that are made of the contents of their fields.
use Rattle.std.specs.Prelude.{◌≡◌, ◌⊎◌, ◌<◌, ℕ, List, [], ◌∷◌, Option, Some, None}
use Rattle.krb_der_core.specs.declared.der.DerEncode.{Ghosts as EncodingOf}
use Rattle.krb_der_core.specs.Tlv.{tlv}
use Rattle.krb_c_calls.specs.MessageRules.{IsEncoding, RefusesReading}
use Rattle.krb_c_calls.specs.Negotiation.{answer_octets, contents, init_octets}

-- a field of no octets is left out
abbrev pub present : List ℕ → Option (List ℕ)
present [] = None
present (x ∷ xs) = Some (x ∷ xs)

-- These octets are made, and they are the one encoding of a value of the type.
abbrev pub IsMade : {A : Type 0} → EncodingOf A → List ℕ → List ℕ → Type 0
IsMade t octets made = IsEncoding t made × (made ≡ octets)

-- the content of SPNEGO's OBJECT IDENTIFIER, 1.3.6.1.5.5.2 (RFC 4178, 3.1)
abbrev pub spnego : List ℕ
spnego = 43 ∷ 6 ∷ 1 ∷ 5 ∷ 5 ∷ 2 ∷ []

-- the token that begins a negotiation, of these mechanisms, this token and this MIC; reqFlags are left out
abbrev pub made_init : List ℕ → List ℕ → List ℕ → List ℕ
made_init mechanisms token mic = init_octets spnego (present mechanisms) None (present token) (present mic)

-- negState (RFC 4178, 4.2.2) as a number: 0 to 3, or 256 where it is absent
abbrev pub IsStateNumber : ℕ → Option ℕ → Type 0
IsStateNumber state None = state ≡ 256
IsStateNumber state (Some n) = (state ≡ n) × (n < 4)

abbrev pub NoStateNumber : ℕ → Type 0
NoStateNumber state = (n : Option ℕ) → IsStateNumber state n → ⊥

-- a later message of this negState, an ENUMERATED, and of this mechanism, token and MIC
abbrev pub made_answer : Option ℕ → List ℕ → List ℕ → List ℕ → List ℕ
made_answer state mechanism token mic = answer_octets (contents (λ n. tlv 10 (n ∷ [])) state) (present mechanism) (present token) (present mic)

-- These octets are made of the negState of this number and of these contents.
abbrev pub IsMadeAnswer : {A : Type 0} → EncodingOf A → ℕ → List ℕ → List ℕ → List ℕ → List ℕ → Type 0
IsMadeAnswer t state mechanism token mic made = (n : Option ℕ) × IsStateNumber state n × IsMade t (made_answer n mechanism token mic) made

-- The number is of no negState (3), or the message is refused as its octets are.
abbrev pub RefusesAnswer : {A : Type 0} → EncodingOf A → ℕ → List ℕ → List ℕ → List ℕ → ℕ → Type 0
RefusesAnswer t state mechanism token mic status =
    (NoStateNumber state × (status ≡ 3)) ⊎ ((n : Option ℕ) × IsStateNumber state n × RefusesReading t (made_answer n mechanism token mic) status)
