-- What is told and handed out of a client that is let in.
use Rattle.std.specs.Prelude.{◌≡◌, ℕ, List, []}
use Rattle.krb_der_core.specs.declared.der.DerEncode.{Ghosts as EncodingOf}
use Rattle.krb_enc_parts.specs.declared.data_types.authenticators.EncApRepPartInner.{EncApRepPartInner}
use Rattle.krb_messages.specs.declared.messages.application.ApRepInner.{ApRepInner}
use Rattle.krb_types.specs.declared.data_types.authorization_data.AuthorizationDataInner.{AuthorizationDataInner}
use Rattle.krb_c_accept.specs.Parts.{ArePartsOf, joined, places_behind}
use Rattle.krb_c_accept.specs.Replies.{IsReplyTo}
use Rattle.krb_c_accept.specs.Told.{HasNoRule, HasNumbers, HasPlaces, HasTimes}
use Rattle.krb_c_accept.specs.declared.answer.Answer.{Answer}
use Rattle.krb_c_accept.specs.declared.decision.LetIn.{LetIn}
use Rattle.krb_c_accept.specs.declared.parts.Parts.{Parts}
use Rattle.krb_c_accept.specs.declared.records.AcceptorRecord.{AcceptorRecord}
use Rattle.krb_c_accept.specs.declared.reply.Reply.{Reply}

-- The parts of a client and of the reply, one behind the other; their places, and the numbers.
pub record IsAnswerWith (elements : EncodingOf (List AuthorizationDataInner)) (l : LetIn) (reply : Reply) (a : Answer) : Type 0 where
  pub parts : Parts
  pub are_parts : ArePartsOf elements l reply parts
  pub octets_are : a.octets.items ≡ joined [] parts
  pub places : HasPlaces (places_behind [] parts) a.record
  pub times : HasTimes l.context.accepted.ticket a.record
  pub numbers : HasNumbers l.context a.record
  pub no_rule : HasNoRule a.record

-- with the reply to the client
abbrev pub IsAnswer : EncodingOf EncApRepPartInner → EncodingOf ApRepInner → EncodingOf (List AuthorizationDataInner) → AcceptorRecord → List ℕ → List ℕ
    → LetIn → Answer → Type 0
IsAnswer part ap_rep elements acceptor random token l a =
    (reply : Reply) × IsReplyTo part ap_rep acceptor random token l.context reply × IsAnswerWith elements l reply a
