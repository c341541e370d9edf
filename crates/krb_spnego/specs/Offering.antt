-- An initiator's beginning (RFC 4178, 4.2.1): its offer, and why there is none.
use Rattle.std.specs.Prelude.{◌≡◌, ◌⊎◌, ℕ, List, ◌∷◌, Any, None, Option, Vec, map}
use Rattle.std.specs.declared.alloc.Global.{Global}
use Rattle.krb_der_core.specs.declared.der.DerEncode.{Ghosts as EncodingOf}
use Rattle.krb_der_x509.specs.ObjectIdentifier.{IsArcs}
use Rattle.krb_gss_tokens.specs.declared.spnego.GssApiNegInit.{GssApiNegInit}
use Rattle.krb_spnego_rules.specs.Fields.{items_in}
use Rattle.krb_spnego_rules.specs.InitiatorSteps.{Begins}
use Rattle.krb_spnego_rules.specs.Meaning.{Meaning}
use Rattle.krb_spnego_rules.specs.declared.initiator.Initiator.{Initiator}
use Rattle.krb_spnego.specs.Reading.{IsOffered}
use Rattle.krb_spnego.specs.declared.error.BeginError.{BeginError}
use Rattle.krb_spnego.specs.declared.error.BeginError.TheVariants.{OutOfMemory, NoIdentifier, MechanismFailed}

-- the object identifiers of the mechanisms, the preferred one first
abbrev pub identifiers : {M : Type 0} → Meaning M → M → List M → List (List ℕ)
identifiers meaning first others = meaning.oid first ∷ map meaning.oid others

-- the preferred mechanism has begun, and the octets are the one encoding of an offer of all of them with its first token; the side keeps the encoding of the
-- list as it is sent
abbrev pub BeginsWith : {M : Type 0} → EncodingOf GssApiNegInit → EncodingOf (List (List ℕ)) → Meaning M → M → Vec M Global
    → Initiator M × Vec ℕ Global → Type 0
BeginsWith o l meaning first others out =
    (list : Vec ℕ Global) × ((list.items ≡ l.enc (identifiers meaning first others.items))
    × ((token : Option (Vec ℕ Global)) × (Begins meaning first others list (out.0, token)
    × IsOffered o (identifiers meaning first others.items) (items_in token) out.1.items)))

-- the arcs of a mechanism are no object identifier
abbrev pub LacksIdentifier : {M : Type 0} → Meaning M → M → List M → Type 0
LacksIdentifier meaning first others = (IsArcs (meaning.oid first) → ⊥) ⊎ Any (λ m. IsArcs (meaning.oid m) → ⊥) others

-- memory was wanting, a mechanism has no object identifier, or the preferred one does not begin
abbrev pub BeginsNot : {M : Type 0} → Meaning M → M → List M → BeginError → Type 0
BeginsNot meaning first others e =
    (e ≡ OutOfMemory)
    ⊎ ((LacksIdentifier meaning first others × (e ≡ NoIdentifier))
    ⊎ (meaning.refuses first None × (e ≡ MechanismFailed)))
