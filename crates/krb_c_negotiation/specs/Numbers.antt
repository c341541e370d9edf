-- The numbers of krb.h, and what they are numbers of: sides, their stages (RFC 4178, 3.2), and the rules that messages break (4.2 and 5).
use Rattle.std.specs.Prelude.{ℕ, nat_eq, not, Bool, true, false, List, [], ◌∷◌, Result, Ok, Err, if◌then◌else◌}
use Rattle.krb_c_calls.specs.declared.call_error.CallError.{CallError}
use Rattle.krb_c_calls.specs.declared.call_error.CallError.TheVariants as calls
use Rattle.krb_spnego_rules.specs.declared.message.Refusal.{Refusal}
use Rattle.krb_spnego_rules.specs.declared.message.Refusal.TheVariants as refusals
use Rattle.krb_spnego_rules.specs.declared.words.Role.{Role}
use Rattle.krb_spnego_rules.specs.declared.words.Role.TheVariants as roles
use Rattle.krb_spnego_rules.specs.declared.words.Rule.{Rule}
use Rattle.krb_spnego_rules.specs.declared.words.Rule.TheVariants as rules
use Rattle.krb_c_negotiation.specs.declared.numbers.Stage.{Stage}
use Rattle.krb_c_negotiation.specs.declared.numbers.Stage.TheVariants as stages

-- what has this number, of these; 3 of a number that none has
abbrev pub numbered : {A : Type 0} → List (ℕ × A) → ℕ → Result A CallError
numbered [] number = Err calls.Number
numbered (row ∷ rows) number = if nat_eq number row.0 then Ok row.1 else numbered rows number

-- ---- flags: each number but 0 is set, and 1 is written

abbrev pub is_set : ℕ → Bool
is_set number = not (nat_eq number 0)

abbrev pub flag : Bool → ℕ
flag true = 1
flag false = 0

-- ---- sides (RFC 4178, 3.2)

abbrev pub role_in : ℕ → Result Role CallError
role_in number = numbered ((0, roles.Initiator) ∷ (1, roles.Acceptor) ∷ []) number

abbrev pub stage_in : ℕ → Result Stage CallError
stage_in number =
    numbered
    ((0, stages.Begins) ∷ (1, stages.Waits) ∷ (2, stages.Offered) ∷ (3, stages.Complete) ∷ (4, stages.Failed) ∷ (5, stages.Bare) ∷ [])
    number

-- ---- rules, by their places, from 1 on

abbrev pub rule_number : Rule → ℕ
rule_number rules.NoState = 1
rule_number rules.Rejected = 2
rule_number rules.NoMechanism = 3
rule_number rules.SecondMechanism = 4
rule_number rules.UnknownMechanism = 5
rule_number rules.Unprotected = 6
rule_number rules.LateRequest = 7
rule_number rules.NoToken = 8
rule_number rules.UnexpectedToken = 9
rule_number rules.MechanismFailed = 10
rule_number rules.EarlyMic = 11
rule_number rules.WrongMic = 12
rule_number rules.NoMic = 13
rule_number rules.EarlyCompletion = 14
rule_number rules.Finished = 15

-- octets that are no message for which the side waits are 256; want of memory ends no negotiation
abbrev pub refusal_number : Refusal → ℕ
refusal_number refusals.OutOfMemory = 0
refusal_number refusals.Unread = 256
refusal_number (refusals.Broken rule) = rule_number rule

abbrev pub refusal_in : ℕ → Result Refusal CallError
refusal_in number =
    numbered
    ((1, refusals.Broken rules.NoState)
    ∷ (2, refusals.Broken rules.Rejected)
    ∷ (3, refusals.Broken rules.NoMechanism)
    ∷ (4, refusals.Broken rules.SecondMechanism)
    ∷ (5, refusals.Broken rules.UnknownMechanism)
    ∷ (6, refusals.Broken rules.Unprotected)
    ∷ (7, refusals.Broken rules.LateRequest)
    ∷ (8, refusals.Broken rules.NoToken)
    ∷ (9, refusals.Broken rules.UnexpectedToken)
    ∷ (10, refusals.Broken rules.MechanismFailed)
    ∷ (11, refusals.Broken rules.EarlyMic)
    ∷ (12, refusals.Broken rules.WrongMic)
    ∷ (13, refusals.Broken rules.NoMic)
    ∷ (14, refusals.Broken rules.EarlyCompletion)
    ∷ (15, refusals.Broken rules.Finished)
    ∷ (256, refusals.Unread)
    ∷ [])
    number
