-- What a call of the acceptor is asked.
use Rattle.std.specs.Prelude.{ℕ, List}
use Rattle.krb_c_accept.specs.declared.prepared.Asked.{Asked}
use Rattle.krb_c_accept.specs.declared.records.AcceptorRecord.{AcceptorRecord}

-- what the service asks of tokens; its keytab and that of its own ticket-granting tickets, names of servers and of realms, the hash of its channel bindings and the client's address, each of
-- which but the first may have no octets; random octets, and what the client sent
pub record Inputs : Type 0 where
  pub acceptor : AcceptorRecord
  pub keytab : List ℕ
  pub session_keys : List ℕ
  pub servers : List ℕ
  pub realms : List ℕ
  pub bindings : List ℕ
  pub address : List ℕ
  pub random : List ℕ
  pub token : List ℕ

abbrev pub inputs_of : Asked → Inputs
inputs_of a = record {
  acceptor = a.acceptor;
  keytab = a.keytab.now;
  session_keys = a.session_keys.now;
  servers = a.servers.now;
  realms = a.realms.now;
  bindings = a.bindings.now;
  address = a.address.now;
  random = a.random.now;
  token = a.token.now;
}

-- the same of its parts
abbrev pub inputs : AcceptorRecord → List ℕ → List ℕ → List ℕ → List ℕ → List ℕ → List ℕ → List ℕ → List ℕ → Inputs
inputs acceptor keytab session_keys servers realms bindings address random token = record {
  acceptor = acceptor;
  keytab = keytab;
  session_keys = session_keys;
  servers = servers;
  realms = realms;
  bindings = bindings;
  address = address;
  random = random;
  token = token;
}
