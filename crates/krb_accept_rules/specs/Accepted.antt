-- What is remembered and told of a client.
use Rattle.std.specs.Prelude.{◌≡◌, ℕ}
use Rattle.krb_types.specs.Times.{unix_seconds}
use Rattle.krb_accept_rules.specs.declared.cache.Entry.{Entry}
use Rattle.krb_accept_rules.specs.declared.fields.AuthenticatorFields.{AuthenticatorFields}
use Rattle.krb_accept_rules.specs.declared.fields.RequestFields.{RequestFields}
use Rattle.krb_accept_rules.specs.declared.fields.TicketFields.{TicketFields}
use Rattle.krb_accept_rules.specs.declared.accepted.Accepted.{Accepted}

-- what is remembered of an authenticator: for whom it is, of whom, and when (3.2.3)
abbrev pub entry_of : RequestFields → AuthenticatorFields → ℕ → Entry
entry_of request authenticator microseconds = record {
  server_realm = request.realm;
  server = request.server.name_string;
  client_realm = authenticator.realm;
  client = authenticator.client.name_string;
  seconds = unix_seconds authenticator.ctime;
  microseconds = microseconds;
}

-- what is told of a client that is let in
abbrev pub accepted_of : RequestFields → TicketFields → AuthenticatorFields → Accepted
accepted_of request ticket authenticator = record {
  ticket = ticket;
  server_realm = request.realm;
  server = request.server;
  options = request.options;
  checksum = authenticator.checksum;
  ctime = authenticator.ctime;
  cusec = authenticator.cusec;
  subkey = authenticator.subkey;
  sequence_number = authenticator.sequence_number;
  authorization_data = authenticator.authorization_data;
}

-- what was accepted has the same entry: it is for the same server, of the same client and of the same time
pub record HasSameEntry (a b : Accepted) : Type 0 where
  pub server_realm : a.server_realm ≡ b.server_realm
  pub server : a.server.name_string ≡ b.server.name_string
  pub client_realm : a.ticket.realm ≡ b.ticket.realm
  pub client : a.ticket.client.name_string ≡ b.ticket.client.name_string
  pub seconds : unix_seconds a.ctime ≡ unix_seconds b.ctime
  pub microseconds : a.cusec ≡ b.cusec
