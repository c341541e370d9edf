-- The session key of a client that is let in: the authenticator was decrypted with it.
use Rattle.std.proofs.Common.{◌∙◌, ℕ, List, ap, sym, subst}
use Rattle.krb_accept.specs.Kerberos.{HasLength}
use Rattle.krb_accept_rules.specs.declared.accepted.Accepted.{Accepted}
use Rattle.krb_accept_rules.specs.declared.fields.AuthenticatorFields.{AuthenticatorFields}
use Rattle.krb_accept_rules.specs.declared.fields.RequestFields.{RequestFields}
use Rattle.krb_accept_rules.specs.declared.opening.Opening.{Ghosts as OpeningOf}
use Rattle.krb_der_core.specs.declared.der.DerEncode.{Ghosts as EncodingOf}
use Rattle.krb_enc_parts.specs.declared.data_types.credentials.EncKrbCredPartInner.{EncKrbCredPartInner}
use Rattle.krb_messages.specs.declared.messages.credentials.KrbCredInner.{KrbCredInner}
use Rattle.krb_types.specs.declared.data_types.authorization_data.AuthorizationDataInner.{AuthorizationDataInner}
use Rattle.krb_types.specs.declared.data_types.encryption.EncryptionKey.{EncryptionKey}
use Rattle.krb_c_accept.specs.Decision.{IsLetIn}
use Rattle.krb_c_accept.specs.declared.decision.LetIn.{LetIn}
use Rattle.krb_c_accept.specs.declared.prepared.Prepared.{Prepared}

pub of_its_length : (cred : EncodingOf KrbCredInner) (part : EncodingOf EncKrbCredPartInner) (elements : EncodingOf (List AuthorizationDataInner)) {O : Type 0} (o : OpeningOf O)
    (p : Prepared) (token : List ℕ) (l : LetIn) → ((key : EncryptionKey) (r : RequestFields) (u : AuthenticatorFields) → o.opens_authenticator key r u → HasLength key)
    → IsLetIn cred part elements o p token l → HasLength l.context.accepted.ticket.key
of_its_length cred part elements o p token l opens is =
    let what = is.is_presented.presented in
    subst (λ (k : EncryptionKey). HasLength k)
    (sym (ap (λ (a : Accepted). a.ticket.key) (is.told.accepted ∙ is.is_presented.handed_out.told_is) ∙ ap (λ (a : Accepted). a.ticket.key) what.tells))
    (opens what.ticket.key what.request what.authenticator what.is_authenticator.holds)
