-- What is asked of a KDC, as the engine takes it (RFC 4120, 5.4.1).
use Rattle.std.specs.Prelude.{◌≡◌, ◌≢◌, ℕ, length, map}
use Rattle.krb_client.specs.declared.moment.Moment.{Moment}
use Rattle.krb_client.specs.declared.terms.Terms.{Terms}
use Rattle.krb_client_rules.specs.declared.asked.Asked.{Asked}
use Rattle.krb_c_calls.specs.Numbers.{etype_number}
use Rattle.krb_c_calls.specs.declared.call_error.CallError.{CallError}
use Rattle.krb_c_calls.specs.declared.call_error.CallError.TheVariants as refusals
use Rattle.krb_c_client.specs.Inputs.{Inputs}
use Rattle.krb_c_client.specs.Names.{HasName, IsNamed, IsNoName}
use Rattle.krb_c_client.specs.Settings.{has_setting, optional}
use Rattle.krb_c_client.specs.Suites.{AreNoSuites}

-- the options, the skew, the limits of iterations, whether requests ask for their checksum in the reply (KRB_CLIENT_CANONICALIZE), and whether the transport may
-- deliver replies to other requests (KRB_CLIENT_DATAGRAMS)
pub record AreTerms (i : Inputs) (terms : Terms) : Type 0 where
  pub options : terms.options.now ≡ i.options
  pub skew : terms.skew ≡ i.terms.skew
  pub least : terms.limits.least ≡ i.terms.least
  pub most : terms.limits.most ≡ i.terms.most
  pub canonicalize : terms.canonicalize ≡ has_setting i.terms.settings 8
  pub datagrams : terms.datagrams ≡ has_setting i.terms.settings 4

-- the clock, the nonce and 16 random octets
pub record IsMoment (i : Inputs) (m : Moment) : Type 0 where
  pub seconds : m.seconds ≡ i.terms.seconds
  pub microseconds : m.microseconds ≡ i.terms.microseconds
  pub nonce : m.nonce ≡ i.terms.nonce
  pub random : m.random ≡ i.random
  pub sixteen : length i.random ≡ 16

-- the client and the server by their texts; times where the settings are there (KRB_CLIENT_FROM, KRB_CLIENT_RTIME); flags, suites
pub record IsAsked (i : Inputs) (nonce : ℕ) (a : Asked) : Type 0 where
  pub client : IsNamed i.client i.terms.client_type a.crealm a.cname
  pub server : IsNamed i.server i.terms.server_type a.realm a.sname
  pub from : a.from ≡ optional i.terms.settings 1 i.terms.from
  pub till : a.till ≡ i.terms.till
  pub rtime : a.rtime ≡ optional i.terms.settings 2 i.terms.rtime
  pub nonce_is : a.nonce ≡ nonce
  pub flags : a.flags.items ≡ i.flags
  pub etypes : map etype_number a.etypes.items ≡ i.etypes

-- An allocation failed; or the first of these that is not so: the client has a name, the server has one, each encryption type has a suite.
pub data IsNotAsked (i : Inputs) (e : CallError) : Type 0 where
  no_memory : e ≡ refusals.Memory → IsNotAsked i e
  no_client : IsNoName i.client e → IsNotAsked i e
  no_server : HasName i.client i.terms.client_type → IsNoName i.server e → IsNotAsked i e
  no_suites : HasName i.client i.terms.client_type → HasName i.server i.terms.server_type → AreNoSuites i.etypes e → IsNotAsked i e

-- ---- all of it

pub record IsPrepared (i : Inputs) (nonce : ℕ) (a : Asked) (m : Moment) : Type 0 where
  pub is_asked : IsAsked i nonce a
  pub is_moment : IsMoment i m

pub data IsNotPrepared (i : Inputs) (e : CallError) : Type 0 where
  no_random : e ≡ refusals.SeedSize → length i.random ≢ 16 → IsNotPrepared i e
  not_asked : length i.random ≡ 16 → IsNotAsked i e → IsNotPrepared i e
