-- The requests of an exchange (RFC 4120, 3.1.1 and 3.3.1).
use Rattle.std.specs.Prelude.{◌≡◌, ◌⊎◌, ℕ, ℤ, List, Bool, true, false, Option, Some, None, map}
use Rattle.krb_client.specs.Bodies.{IsNoBody, Wanted, number_of}
use Rattle.krb_client.specs.RequestChecksums.{marked}
use Rattle.krb_client.specs.KdcRequests.{IsAsRequest, IsNoTgsRequest, IsTgsRequest}
use Rattle.krb_client.specs.Sealed.{SuiteKey, key_of}
use Rattle.krb_client.specs.Timestamps.{IsNoTimestamp, IsTimestamp}
use Rattle.krb_client.specs.declared.requests.authenticator.Sender.{Sender}
use Rattle.krb_client.specs.declared.requests.error.RequestError.{RequestError}
use Rattle.krb_client.specs.declared.requests.key.LentKey.{LentKey}
use Rattle.krb_client_rules.specs.declared.asked.Asked.{Asked}
use Rattle.krb_client_rules.specs.declared.key.Key.{Key}
use Rattle.krb_types.specs.declared.data_types.pre_authentication.PaData.{PaData}
use Rattle.krb_client.specs.Moments.{confounder_of, kdc_time}
use Rattle.krb_client.specs.Types.{InitialTypes, ServiceTypes}
use Rattle.krb_client.specs.declared.moment.Moment.{Moment}
use Rattle.krb_client.specs.declared.terms.ByTicket.{ByTicket}
use Rattle.krb_client.specs.declared.terms.Terms.{Terms}

-- what is wanted of the KDC is what is asked, under the nonce of the moment (5.4.1)
abbrev pub wanted_of : Terms → Asked → ℕ → Wanted
wanted_of terms a nonce = record {
  realm = a.realm;
  sname = a.sname;
  options = terms.options.now;
  from = a.from;
  till = a.till;
  rtime = a.rtime;
  nonce = nonce;
  etypes = map number_of a.etypes.items;
}

abbrev pub suite_key : Key → SuiteKey
suite_key k = record { suite = k.suite; octets = k.octets.items }

-- ---- AS-REQ

-- PA-ENC-TIMESTAMP of the KDC's time under this key (5.2.7.2)
abbrev pub IsStamp : InitialTypes → Key → Option ℤ → Moment → List PaData → Type 0
IsStamp t key offset m list =
    IsTimestamp t.stamps t.encrypted (suite_key key) (kdc_time offset m.seconds) m.microseconds (confounder_of key.suite m.random) list

abbrev pub IsNoStamp : Key → Option ℤ → Moment → RequestError → Type 0
IsNoStamp key offset m e =
    IsNoTimestamp (suite_key key) (kdc_time offset m.seconds) m.microseconds (confounder_of key.suite m.random) e

-- the data of pre-authentication: none where the key is not known yet
abbrev pub IsAuthenticated : InitialTypes → Option Key → Option ℤ → Moment → Option (List PaData) → Type 0
IsAuthenticated t None offset m padata = padata ≡ None
IsAuthenticated t (Some key) offset m padata = (list : List PaData) × (padata ≡ Some list) × IsStamp t key offset m list

abbrev pub IsUnauthenticated : Option Key → Option ℤ → Moment → RequestError → Type 0
IsUnauthenticated None offset m e = ⊥
IsUnauthenticated (Some key) offset m e = IsNoStamp key offset m e

-- with PA-REQ-ENC-PA-REP behind them, where it is asked for (RFC 6806, 11)
abbrev pub marked_if : Bool → Option (List PaData) → Option (List PaData)
marked_if false padata = padata
marked_if true padata = Some (marked padata)

-- The octets are the one AS-REQ for what is asked, under the nonce of the moment, with the time under this key, if there is one.
pub record IsInitialRequest (t : InitialTypes) (terms : Terms) (a : Asked) (key : Option Key) (offset : Option ℤ) (m : Moment) (octets : List ℕ) : Type 0 where
  pub padata : Option (List PaData)
  pub authenticated : IsAuthenticated t key offset m padata
  pub is_request : IsAsRequest t.as_req (wanted_of terms a m.nonce) a.cname (marked_if terms.canonicalize padata) octets

-- why there is none: no time is sealed; else there is no body
abbrev pub IsNoInitialRequest : InitialTypes → Terms → Asked → Option Key → Option ℤ → Moment → RequestError → Type 0
IsNoInitialRequest t terms a key offset m e =
    IsUnauthenticated key offset m e
    ⊎ (((padata : Option (List PaData)) × IsAuthenticated t key offset m padata) × IsNoBody (wanted_of terms a m.nonce) e)

-- ---- TGS-REQ

-- the client that was asked for sends it at the KDC's time, with a key of its own (5.5.1)
pub record IsSenderOf (a : Asked) (subkey : Key) (offset : Option ℤ) (m : Moment) (s : Sender) : Type 0 where
  pub crealm : s.crealm.now ≡ a.crealm
  pub cname : s.cname.now ≡ a.cname
  pub seconds : s.seconds ≡ kdc_time offset m.seconds
  pub microseconds : s.microseconds ≡ m.microseconds
  pub lent : LentKey
  pub subkey_is : s.subkey ≡ Some lent
  pub lent_is : key_of lent ≡ suite_key subkey
  pub no_number : s.seq_number ≡ None

-- The octets are the one TGS-REQ for what is asked, under the nonce of the moment, by this ticket, with this subkey in the authenticator.
pub record IsServiceRequest (t : ServiceTypes) (terms : Terms) (by : ByTicket) (a : Asked) (subkey : Key) (offset : Option ℤ) (m : Moment)
    (octets : List ℕ) : Type 0 where
  pub sender : Sender
  pub is_sender : IsSenderOf a subkey offset m sender
  pub is_request : IsTgsRequest t.tgs_req t.bodies t.applications t.authenticators (wanted_of terms a m.nonce) by.ticket.now (key_of by.session) sender
      (confounder_of by.session.suite.now m.random) octets

-- why there is none
abbrev pub IsNoServiceRequest : Terms → ByTicket → Asked → Key → Option ℤ → Moment → RequestError → Type 0
IsNoServiceRequest terms by a subkey offset m e =
    (s : Sender) × IsSenderOf a subkey offset m s
    × IsNoTgsRequest (wanted_of terms a m.nonce) (key_of by.session) s (confounder_of by.session.suite.now m.random) e
