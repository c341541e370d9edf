-- Why a token is refused, in words, with what was seen (RFC 4120, 3.2.3).
use Rattle.std.specs.Prelude.{◌≡◌, ◌⊎◌, ◌-ℤ◌, ◌≤ℤ◌, ◌<ℤ◌, nat_eq, if◌then◌else◌, ℕ, ℤ, pos, Option, None, Some, List, [], ◌∷◌, ◌++◌, codes}
use Rattle.std.specs.Fmt.{decimal}
use Rattle.std.specs.List.{starts_with}
use Rattle.krb_accept.specs.declared.token_refusal.TokenRefusal.{TokenRefusal}
use Rattle.krb_accept.specs.declared.token_refusal.TokenRefusal.TheVariants as refusal
use Rattle.krb_accept.specs.TokenRefusals.{token_text}
use Rattle.krb_accept_rules.specs.Refusals.{rule_text}
use Rattle.krb_accept_rules.specs.declared.key.ServiceKey.{ServiceKey}
use Rattle.krb_accept_rules.specs.declared.opening.Opening.{Ghosts as OpeningOf}
use Rattle.krb_accept_rules.specs.declared.refusal.Rule.{Rule}
use Rattle.krb_accept_rules.specs.declared.refusal.Rule.TheVariants as Rules
use Rattle.krb_accept_report.specs.Requests.{IsKeyReasonOf}
use Rattle.krb_accept_report.specs.Texts.{IsMoment}

-- by how many seconds the client's time differs from the clock, and to which side
abbrev pub IsDistance : ℤ → ℤ → ℕ → List ℕ → Type 0
IsDistance clock time seconds side =
    ((time <ℤ clock) × (pos seconds ≡ clock -ℤ time) × (side ≡ codes " s behind"))
    ⊎ ((clock ≤ℤ time) × (pos seconds ≡ time -ℤ clock) × (side ≡ codes " s ahead"))

-- the client's time, by how much it differs, and the skew
abbrev pub IsSkewReason : ℤ → ℕ → Option ℤ → List ℕ → Type 0
IsSkewReason clock skew None text = text ≡ rule_text Rules.Skew
IsSkewReason clock skew (Some time) text =
    (moment : List ℕ) × (seconds : ℕ) × (side : List ℕ) × IsMoment time moment × IsDistance clock time seconds side
    × (text ≡ rule_text Rules.Skew ++ codes ": the client's time " ++ moment ++ codes " is " ++ decimal seconds ++ side ++ codes " (limit " ++ decimal skew ++ codes ")")

-- a rule's text, and the time that was seen
abbrev pub IsTimeReason : Rule → List ℕ → Option ℤ → List ℕ → Type 0
IsTimeReason rule words None text = text ≡ rule_text rule
IsTimeReason rule words (Some time) text = (moment : List ℕ) × IsMoment time moment × (text ≡ rule_text rule ++ words ++ moment)

-- What a token is that is not one of Kerberos: a message of NTLM begins with `NTLMSSP` and a NUL (MS-NLMP, 2.2.1), an AP-REQ with 6e (RFC 4120, 5.5.1).
abbrev pub frame_text : List ℕ → List ℕ
frame_text token =
    if starts_with nat_eq token (codes "NTLMSSP\0") then codes "a token of NTLM, not of Kerberos"
    else if starts_with nat_eq token (110 ∷ []) then codes "not a token of Kerberos: it begins as an AP-REQ with no frame around it"
    else token_text refusal.Frame

-- How rules break: by a clock, and for a token with these keys.
module _ {O : Type 0} (o : OpeningOf O) (keys : List ServiceKey) (clock : ℤ) (skew : ℕ) (token : List ℕ) where
  abbrev pub IsRuleReason : Rule → Option ℤ → List ℕ → Type 0
  IsRuleReason Rules.NotUs seen text = IsKeyReasonOf o keys token Rules.NotUs (rule_text Rules.NotUs) text
  IsRuleReason Rules.NoKey seen text = IsKeyReasonOf o keys token Rules.NoKey (rule_text Rules.NoKey) text
  IsRuleReason Rules.KeyVersion seen text = IsKeyReasonOf o keys token Rules.KeyVersion (rule_text Rules.KeyVersion) text
  IsRuleReason Rules.Ticket seen text = IsKeyReasonOf o keys token Rules.Ticket (rule_text Rules.Ticket) text
  IsRuleReason Rules.Skew seen text = IsSkewReason clock skew seen text
  IsRuleReason Rules.NotYetValid seen text = IsTimeReason Rules.NotYetValid (codes ": it begins at ") seen text
  IsRuleReason Rules.Expired seen text = IsTimeReason Rules.Expired (codes ": it ended at ") seen text
  IsRuleReason other seen text = text ≡ rule_text other

  abbrev pub IsReason : TokenRefusal → List ℕ → Type 0
  IsReason refusal.Frame text = text ≡ frame_text token
  IsReason (refusal.Request r) text = IsRuleReason r.rule r.seen text
  IsReason other text = text ≡ token_text other
