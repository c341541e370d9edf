-- By what a further ticket is asked for (RFC 4120, 3.3.1).
use Rattle.std.specs.Prelude.{◌≡◌, ◌⊎◌, ℕ, ℤ, List}
use Rattle.krb_client.specs.declared.terms.ByTicket.{ByTicket}
use Rattle.krb_client_rules.specs.declared.key.Key.{Key}
use Rattle.krb_crypto.specs.declared.cipher_suite.CipherSuite.{CipherSuite}
use Rattle.krb_der.specs.Whole.{Encodes, IsNotRead}
use Rattle.krb_der_core.specs.declared.der.DerEncode.{Ghosts as EncodingOf}
use Rattle.krb_der_core.specs.declared.error.Asn1DerError.{Asn1DerError}
use Rattle.krb_der_core.specs.declared.error.Asn1DerError.TheVariants as der
use Rattle.krb_types.specs.declared.data_types.tickets.TicketInner.{TicketInner}
use Rattle.krb_c_calls.specs.Numbers.{etype_number}
use Rattle.krb_c_calls.specs.Statuses.{der_refusal}
use Rattle.krb_c_calls.specs.declared.call_error.CallError.{CallError}
use Rattle.krb_c_client.specs.Suites.{IsNoSuite}
use Rattle.krb_c_client.specs.declared.further.ByRecord.{ByRecord}

-- the encoding of the ticket for the KDC; the encryption type of its session key and of the subkey; their octets
pub record Lent : Type 0 where
  pub ticket : List ℕ
  pub session_etype : ℤ
  pub session_key : List ℕ
  pub subkey : List ℕ

abbrev pub lent : List ℕ → ℤ → List ℕ → List ℕ → Lent
lent ticket session_etype session_key subkey = record { ticket = ticket; session_etype = session_etype; session_key = session_key; subkey = subkey }

abbrev pub means_of : ByRecord → Lent
means_of b = lent b.ticket.now b.session_etype b.session_key.now b.subkey.now

-- the ticket of this encoding; the suite of this encryption type; the subkey of it
pub record AreMeans (tickets : EncodingOf TicketInner) (l : Lent) (ticket : TicketInner) (suite : CipherSuite) (subkey : Key) : Type 0 where
  pub ticket_is : Encodes tickets l.ticket ticket
  pub suite_is : etype_number suite ≡ l.session_etype
  pub subkey_suite : etype_number subkey.suite ≡ l.session_etype
  pub subkey_octets : subkey.octets.items ≡ l.subkey

-- the octets are no encoding of a ticket
abbrev pub IsNoTicket : EncodingOf TicketInner → List ℕ → CallError → Type 0
IsNoTicket tickets octets e = (why : Asn1DerError) × (e ≡ der_refusal why) × ((why ≡ der.OutOfMemory) ⊎ IsNotRead tickets octets why)

-- an allocation failed; there is no ticket; or there is one, and no suite
pub data AreNoMeans (tickets : EncodingOf TicketInner) (l : Lent) (e : CallError) : Type 0 where
  no_ticket : IsNoTicket tickets l.ticket e → AreNoMeans tickets l e
  no_suite : (ticket : TicketInner) → Encodes tickets l.ticket ticket → IsNoSuite l.session_etype e → AreNoMeans tickets l e

-- ---- lent to the engine

pub record IsByOf (ticket : TicketInner) (suite : CipherSuite) (octets : List ℕ) (by : ByTicket) : Type 0 where
  pub ticket_is : by.ticket.now ≡ ticket
  pub suite_is : by.session.suite.now ≡ suite
  pub octets_are : by.session.octets.now ≡ octets
