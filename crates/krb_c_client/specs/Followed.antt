-- What follows on a message, as it is told and handed out.
use Rattle.std.specs.Prelude.{◌≡◌, ℕ, List, [], ◌++◌, length}
use Rattle.krb_client.specs.declared.initial.InitialStep.{InitialStep}
use Rattle.krb_client.specs.declared.initial.InitialStep.TheVariants as first
use Rattle.krb_client.specs.declared.service.ServiceStep.{ServiceStep}
use Rattle.krb_client.specs.declared.service.ServiceStep.TheVariants as further
use Rattle.krb_client.specs.declared.replies.granted.Granted.{Granted}
use Rattle.krb_der_core.specs.declared.der.DerEncode.{Ghosts as EncodingOf}
use Rattle.krb_messages.specs.declared.messages.replies.EncKdcRepPart.{EncKdcRepPart}
use Rattle.krb_types.specs.declared.data_types.tickets.TicketInner.{TicketInner}
use Rattle.krb_c_client.specs.Records.{grants, sends, waits}
use Rattle.krb_c_client.specs.declared.records.FollowedRecord.{FollowedRecord}

-- the encodings of a ticket (RFC 4120, 5.3) and of the part that came with it (5.4.2), one behind the other
pub record IsTold (tickets : EncodingOf TicketInner) (parts : EncodingOf EncKdcRepPart) (g : Granted) (told : FollowedRecord) (octets : List ℕ) : Type 0 where
  pub octets_are : octets ≡ tickets.enc g.ticket ++ parts.enc g.part
  pub told_is : told ≡ grants (length (tickets.enc g.ticket)) (length (parts.enc g.part))

module _ (tickets : EncodingOf TicketInner) (parts : EncodingOf EncKdcRepPart) where
  -- a request goes to the KDC; or a ticket is granted; or the next message is waited for
  abbrev pub TellsFirst : InitialStep → FollowedRecord → List ℕ → Type 0
  TellsFirst (first.Send request) told octets = (told ≡ sends) × (octets ≡ request.items)
  TellsFirst (first.Granted g) told octets = IsTold tickets parts g told octets
  TellsFirst first.Wait told octets = (told ≡ waits) × (octets ≡ [])

  abbrev pub TellsFurther : ServiceStep → FollowedRecord → List ℕ → Type 0
  TellsFurther (further.Send request) told octets = (told ≡ sends) × (octets ≡ request.items)
  TellsFurther (further.Granted g) told octets = IsTold tickets parts g told octets
  TellsFurther further.Wait told octets = (told ≡ waits) × (octets ≡ [])
