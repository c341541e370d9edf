-- What is handed out of a client (MS-PAC, 2.1): what its ticket and authenticator say, without the elements in which a PAC stands.
use Rattle.std.specs.Prelude.{◌≡◌, Option, List}
use Rattle.krb_accept_rules.specs.declared.accepted.Accepted.{Accepted}
use Rattle.krb_der_core.specs.declared.der.DerEncode.{Ghosts as EncodingOf}
use Rattle.krb_types.specs.declared.data_types.authorization_data.AuthorizationDataInner.{AuthorizationDataInner}
use Rattle.krb_accept.specs.PacPlaces.{IsWithoutPac}

-- the client with this authorization data of the ticket, and this of the authenticator
abbrev pub with_data : Accepted → Option (List AuthorizationDataInner) → Option (List AuthorizationDataInner) → Accepted
with_data a of_ticket of_authenticator =
    record a { ticket = record a.ticket { authorization_data = of_ticket }; authorization_data = of_authenticator }

-- what was found of a client, and what is handed out of it
pub record IsHandedOut (t : EncodingOf (List AuthorizationDataInner)) (found told : Accepted) : Type 0 where
  pub of_ticket : Option (List AuthorizationDataInner)
  pub of_authenticator : Option (List AuthorizationDataInner)
  pub ticket_without : IsWithoutPac t found.ticket.authorization_data of_ticket
  pub authenticator_without : IsWithoutPac t found.authorization_data of_authenticator
  pub told_is : told ≡ with_data found of_ticket of_authenticator
