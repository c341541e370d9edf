-- Why Kerberos refuses a token.
use Rattle.std.proofs.Common.{◌≡◌, ℕ, List, Option, Some, Result, Ok, Err, IfOk, IfErr}
use Rattle.std.specs.Prelude.{None}
use Rattle.krb_accept_rules.specs.declared.opening.Opening.{Ghosts as OpeningOf}
use Rattle.krb_der_core.specs.declared.der.DerEncode.{Ghosts as EncodingOf}
use Rattle.krb_enc_parts.specs.declared.data_types.credentials.EncKrbCredPartInner.{EncKrbCredPartInner}
use Rattle.krb_messages.specs.declared.messages.credentials.KrbCredInner.{KrbCredInner}
use Rattle.krb_types.specs.declared.data_types.authorization_data.AuthorizationDataInner.{AuthorizationDataInner}
use Rattle.krb_spnego.specs.KerberosMeaning.{IsClientOf, IsNoTurnFor, IsRefusedBy, KerberosRefusesBy, NoStep}
use Rattle.krb_spnego.specs.declared.kerberos.Client.{Client}
use Rattle.krb_spnego.specs.declared.kerberos.KerberosAcceptor.{KerberosAcceptor}
use Rattle.krb_spnego.specs.declared.refusal.KerberosRefusal.TheVariants as refusals
use Rattle.krb_spnego.specs.declared.refusal.StepError.{StepError}
use Rattle.krb_spnego.specs.declared.refusal.StepError.TheVariants as steps

-- what holds of a result's value, or of its error, holds of what follows from it
pub ok_map : {A E : Type 0} {P Q : A → Type 0} (r : Result A E) → ((x : A) → P x → Q x) → IfOk r P → IfOk r Q
ok_map (Ok x) leads h = leads x h
ok_map (Err e) leads h = h

pub err_map : {A E : Type 0} {P Q : E → Type 0} (r : Result A E) → ((e : E) → P e → Q e) → IfErr r P → IfErr r Q
err_map (Ok x) leads h = h
err_map (Err e) leads h = leads e h

module _ (cred : EncodingOf KrbCredInner) (part : EncodingOf EncKrbCredPartInner) (elements : EncodingOf (List AuthorizationDataInner)) {O : Type 0}
    (o : OpeningOf O) where
  -- a client that has no turn
  pub without_turn : (k : KerberosAcceptor) (token : List ℕ) (client : Client) (e : StepError) → IsClientOf cred part elements o k.service token client
      → NoStep (IsNoTurnFor client k.confounder.items) e → NoStep (IsRefusedBy cred part elements o k token) e
  without_turn k token client steps.OutOfMemory is none = tt
  without_turn k token client (steps.Refused refusals.Established) is none = none
  without_turn k token client (steps.Refused refusals.NoToken) is none = none
  without_turn k token client (steps.Refused (refusals.Token e)) is none = absurd none
  without_turn k token client (steps.Refused refusals.DceStyle) is none = absurd none
  without_turn k token client (steps.Refused refusals.NoTokenKey) is none = (client, is, none)
  without_turn k token client (steps.Refused (refusals.NoReply e)) is none = (client, is, none)

  -- a first token
  pub of_token : (k : KerberosAcceptor) (token : Option (List ℕ)) (octets : List ℕ) (e : StepError) → k.client ≡ None → token ≡ Some octets
      → NoStep (IsRefusedBy cred part elements o k octets) e → NoStep (KerberosRefusesBy cred part elements o k token) e
  of_token k token octets steps.OutOfMemory first is why = tt
  of_token k token octets (steps.Refused refusals.Established) first is why = absurd why
  of_token k token octets (steps.Refused refusals.NoToken) first is why = absurd why
  of_token k token octets (steps.Refused (refusals.Token e)) first is why = (first, (octets, is, why))
  of_token k token octets (steps.Refused refusals.DceStyle) first is why = (first, (octets, is, why))
  of_token k token octets (steps.Refused refusals.NoTokenKey) first is why = (first, (octets, is, why))
  of_token k token octets (steps.Refused (refusals.NoReply e)) first is why = (first, (octets, is, why))
