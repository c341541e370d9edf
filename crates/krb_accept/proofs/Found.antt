-- Fields of the one value that was read or opened are the only ones.
use Rattle.std.proofs.Common.{◌≡◌, ◌==◌, ℕ, pos, Bool, true, false, List, length, refl, sym, subst, ap, ◌∙◌, MatchBool}
use Rattle.std.proofs.lemmas.Bool.{eqb-false, eqb-true}
use Rattle.krb_crypto.specs.BySuite.{key_octets_of}
use Rattle.krb_crypto.specs.Suites.{etype}
use Rattle.krb_crypto.specs.declared.cipher_suite.CipherSuite.{CipherSuite}
use Rattle.krb_der_core.specs.declared.der.DerEncode.{Ghosts as EncodingOf}
use Rattle.krb_messages.specs.declared.messages.application.ApReqInner.{ApReqInner}
use Rattle.krb_enc_parts.specs.declared.data_types.authenticators.AuthenticatorInner.{AuthenticatorInner}
use Rattle.krb_enc_parts.specs.declared.data_types.ticket_part.EncTicketPartInner.{EncTicketPartInner}
use Rattle.krb_types.specs.declared.data_types.encryption.EncryptionKey.{EncryptionKey}
use Rattle.krb_accept_rules.specs.Values.{HasNone, IsTheValue}
use Rattle.krb_accept_rules.specs.declared.fields.AuthenticatorFields.{AuthenticatorFields}
use Rattle.krb_accept_rules.specs.declared.fields.RequestFields.{RequestFields}
use Rattle.krb_accept_rules.specs.declared.fields.TicketFields.{TicketFields}
use Rattle.krb_accept_rules.specs.declared.key.ServiceKey.{ServiceKey}
use Rattle.krb_accept.specs.Fields.{authenticator_of, request_of, ticket_of}
use Rattle.krb_accept.specs.Kerberos.{HasLength, IsAuthenticator, IsRequest, IsTicket}
use Rattle.krb_accept.specs.Opening.{Encodes, SealsValue}
use Rattle.krb_accept.proofs.Suites.{one_suite}

pub the_request : (t : EncodingOf ApReqInner) (octets : List ℕ) (v : ApReqInner) → IsTheValue (Encodes t octets) v → IsTheValue (IsRequest t octets) (request_of v)
the_request t octets v h = record {
  holds = record { message = v; encodes = h.holds; fields = refl };
  only = λ w p. p.fields ∙ ap request_of (h.only p.message p.encodes);
}

pub no_request : (t : EncodingOf ApReqInner) (octets : List ℕ) → HasNone (Encodes t octets) → HasNone (IsRequest t octets)
no_request t octets none = λ w p. none p.message p.encodes

pub the_ticket : (t : EncodingOf EncTicketPartInner) (k : ServiceKey) (r : RequestFields) (s : CipherSuite) (v : EncTicketPartInner) → r.ticket.etype ≡ pos (etype s)
    → IsTheValue (SealsValue t s k.octets (pos 2) r.ticket.cipher) v → IsTheValue (IsTicket t k r) (ticket_of v)
the_ticket t k r s v e h = record {
  holds = record { suite = s; part = v; of_suite = e; seals = h.holds; fields = refl };
  only = λ w p. p.fields ∙ ap ticket_of (h.only p.part
      (subst (λ (x : CipherSuite). SealsValue t x k.octets (pos 2) r.ticket.cipher p.part) (one_suite p.suite s (sym p.of_suite ∙ e)) p.seals));
}

pub no_ticket : (t : EncodingOf EncTicketPartInner) (k : ServiceKey) (r : RequestFields) (s : CipherSuite) → r.ticket.etype ≡ pos (etype s)
    → HasNone (SealsValue t s k.octets (pos 2) r.ticket.cipher) → HasNone (IsTicket t k r)
no_ticket t k r s e none = λ w p. none p.part
    (subst (λ (x : CipherSuite). SealsValue t x k.octets (pos 2) r.ticket.cipher p.part) (one_suite p.suite s (sym p.of_suite ∙ e)) p.seals)

pub no_ticket_suite : (t : EncodingOf EncTicketPartInner) (k : ServiceKey) (r : RequestFields) → ((s : CipherSuite) → r.ticket.etype ≡ pos (etype s) → ⊥) → HasNone (IsTicket t k r)
no_ticket_suite t k r none = λ w p. none p.suite p.of_suite

pub the_authenticator : (t : EncodingOf AuthenticatorInner) (k : EncryptionKey) (r : RequestFields) (s : CipherSuite) (v : AuthenticatorInner) → k.key_type ≡ pos (etype s)
    → IsTheValue (SealsValue t s k.key_value (pos 11) r.authenticator.cipher) v → IsTheValue (IsAuthenticator t k r) (authenticator_of v)
the_authenticator t k r s v e h = record {
  holds = record { suite = s; value = v; of_suite = e; seals = h.holds; fields = refl };
  only = λ w p. p.fields ∙ ap authenticator_of (h.only p.value
      (subst (λ (x : CipherSuite). SealsValue t x k.key_value (pos 11) r.authenticator.cipher p.value) (one_suite p.suite s (sym p.of_suite ∙ e)) p.seals));
}

pub no_authenticator : (t : EncodingOf AuthenticatorInner) (k : EncryptionKey) (r : RequestFields) (s : CipherSuite) → k.key_type ≡ pos (etype s)
    → HasNone (SealsValue t s k.key_value (pos 11) r.authenticator.cipher) → HasNone (IsAuthenticator t k r)
no_authenticator t k r s e none = λ w p. none p.value
    (subst (λ (x : CipherSuite). SealsValue t x k.key_value (pos 11) r.authenticator.cipher p.value) (one_suite p.suite s (sym p.of_suite ∙ e)) p.seals)

pub no_authenticator_suite : (t : EncodingOf AuthenticatorInner) (k : EncryptionKey) (r : RequestFields) → ((s : CipherSuite) → k.key_type ≡ pos (etype s) → ⊥) → HasNone (IsAuthenticator t k r)
no_authenticator_suite t k r none = λ w p. none p.suite p.of_suite

-- ---- the same, of what was read

pub ticket_found : (t : EncodingOf EncTicketPartInner) (k : ServiceKey) (r : RequestFields) (s : CipherSuite) (v : EncTicketPartInner) (key cipher : List ℕ) (fields : TicketFields)
    → key ≡ k.octets → cipher ≡ r.ticket.cipher → r.ticket.etype ≡ pos (etype s) → IsTheValue (SealsValue t s key (pos 2) cipher) v → fields ≡ ticket_of v → IsTheValue (IsTicket t k r) fields
ticket_found t k r s v key cipher fields is_key is_cipher e h same =
    subst (IsTheValue (IsTicket t k r)) (sym same) (the_ticket t k r s v e
    (subst (λ (x : List ℕ). IsTheValue (SealsValue t s k.octets (pos 2) x) v) is_cipher (subst (λ (x : List ℕ). IsTheValue (SealsValue t s x (pos 2) cipher) v) is_key h)))

pub ticket_lost : (t : EncodingOf EncTicketPartInner) (k : ServiceKey) (r : RequestFields) (s : CipherSuite) (key cipher : List ℕ)
    → key ≡ k.octets → cipher ≡ r.ticket.cipher → r.ticket.etype ≡ pos (etype s) → HasNone (SealsValue t s key (pos 2) cipher) → HasNone (IsTicket t k r)
ticket_lost t k r s key cipher is_key is_cipher e none =
    no_ticket t k r s e
    (subst (λ (x : List ℕ). HasNone (SealsValue t s k.octets (pos 2) x)) is_cipher (subst (λ (x : List ℕ). HasNone (SealsValue t s x (pos 2) cipher)) is_key none))

pub authenticator_found : (t : EncodingOf AuthenticatorInner) (k : EncryptionKey) (r : RequestFields) (s : CipherSuite) (v : AuthenticatorInner) (key cipher : List ℕ) (fields : AuthenticatorFields)
    → key ≡ k.key_value → cipher ≡ r.authenticator.cipher → k.key_type ≡ pos (etype s) → IsTheValue (SealsValue t s key (pos 11) cipher) v → fields ≡ authenticator_of v
    → IsTheValue (IsAuthenticator t k r) fields
authenticator_found t k r s v key cipher fields is_key is_cipher e h same =
    subst (IsTheValue (IsAuthenticator t k r)) (sym same) (the_authenticator t k r s v e
    (subst (λ (x : List ℕ). IsTheValue (SealsValue t s k.key_value (pos 11) x) v) is_cipher (subst (λ (x : List ℕ). IsTheValue (SealsValue t s x (pos 11) cipher) v) is_key h)))

pub authenticator_lost : (t : EncodingOf AuthenticatorInner) (k : EncryptionKey) (r : RequestFields) (s : CipherSuite) (key cipher : List ℕ)
    → key ≡ k.key_value → cipher ≡ r.authenticator.cipher → k.key_type ≡ pos (etype s) → HasNone (SealsValue t s key (pos 11) cipher) → HasNone (IsAuthenticator t k r)
authenticator_lost t k r s key cipher is_key is_cipher e none =
    no_authenticator t k r s e
    (subst (λ (x : List ℕ). HasNone (SealsValue t s k.key_value (pos 11) x)) is_cipher (subst (λ (x : List ℕ). HasNone (SealsValue t s x (pos 11) cipher)) is_key none))

-- ---- lengths of keys

pub length_decides : (k : EncryptionKey) (s : CipherSuite) (n m : ℕ) (r : Bool) → k.key_type ≡ pos (etype s) → n ≡ length k.key_value → m ≡ key_octets_of s → r ≡ (n == m)
    → MatchBool r (HasLength k) (HasLength k → ⊥)
length_decides k s n m true e p q h = record { suite = s; of_suite = e; size = sym p ∙ eqb-true n m (sym h) ∙ q }
length_decides k s n m false e p q h = λ l. eqb-false n m (sym h) (p ∙ l.size ∙ ap key_octets_of (one_suite l.suite s (sym l.of_suite ∙ e)) ∙ sym q)
