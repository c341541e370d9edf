-- Requests to a KDC, field by field (RFC 4120, 5.4.1).
use Rattle.std.specs.Prelude.{◌≡◌, ◌⊎◌, ℕ, ◌<◌, ◌≤◌, ◌^◌, ℤ, pos, List, Option, Some, None, Any, map}
use Rattle.krb_crypto.specs.Suites.{etype}
use Rattle.krb_crypto.specs.declared.cipher_suite.CipherSuite.{CipherSuite}
use Rattle.krb_der_core.specs.BitString.{Bits}
use Rattle.krb_der_core.specs.GeneralizedTime.{Time}
use Rattle.krb_build.specs.Flags.{AreFlags}
use Rattle.krb_build.specs.Times.{IsNoTime, IsTime}
use Rattle.krb_messages.specs.declared.messages.requests.KdcReq.{KdcReq}
use Rattle.krb_messages.specs.declared.messages.requests.KdcReqBody.{KdcReqBody}
use Rattle.krb_types.specs.declared.data_types.names.PrincipalName.{PrincipalName}
use Rattle.krb_types.specs.declared.data_types.pre_authentication.PaData.{PaData}
use Rattle.krb_client.specs.declared.requests.body.Copies.{Copies}
use Rattle.krb_client.specs.declared.requests.body.Fields.{Fields}
use Rattle.krb_client.specs.declared.requests.body.Times.{Times}
use Rattle.krb_client.specs.declared.requests.body.Want.{Want}
use Rattle.krb_client.specs.declared.requests.error.RequestError.{RequestError}
use Rattle.krb_client.specs.declared.requests.error.RequestError.TheVariants as errors

-- what a client wants: of which realm, for which server, with which options, from when and until when, renewable until when, under which
-- number, with which encryption types
pub record Wanted : Type 0 where
  pub realm : List ℕ
  pub sname : PrincipalName
  pub options : List ℕ
  pub from : Option ℤ
  pub till : ℤ
  pub rtime : Option ℤ
  pub nonce : ℕ
  pub etypes : List ℤ

-- the number of a suite's encryption type
abbrev pub number_of : CipherSuite → ℤ
number_of suite = pos (etype suite)

abbrev pub wanted : Want → Wanted
wanted w = record {
  realm = w.realm.now;
  sname = w.sname.now;
  options = w.options.now;
  from = w.from;
  till = w.till;
  rtime = w.rtime;
  nonce = w.nonce;
  etypes = map number_of w.etypes.now;
}

-- the time at these seconds, where there are any, and none else
abbrev pub IsTimeOption : Option ℤ → Option Time → Type 0
IsTimeOption None None = Unit {0}
IsTimeOption None (Some time) = ⊥
IsTimeOption (Some seconds) None = ⊥
IsTimeOption (Some seconds) (Some time) = IsTime seconds time

-- there are seconds, and no time is at them
abbrev pub IsNoTimeOption : Option ℤ → Type 0
IsNoTimeOption None = ⊥
IsNoTimeOption (Some seconds) = IsNoTime seconds

-- KDC-REQ-BODY of these fields: no addresses, no authorization data, no further tickets
abbrev pub body_of : Bits → Option PrincipalName → List ℕ → PrincipalName → Option Time → Time → Option Time → ℤ → List ℤ → KdcReqBody
body_of options cname realm sname from till rtime nonce etypes = record {
  kdc_options = options;
  cname = record { 0 = cname };
  realm = realm;
  sname = record { 0 = Some sname };
  from = record { 0 = from };
  till = till;
  rtime = record { 0 = rtime };
  nonce = nonce;
  etype = etypes;
  addresses = record { 0 = None };
  enc_authorization_data = record { 0 = None };
  additional_tickets = record { 0 = None };
}

-- KDC-REQ
abbrev pub request_of : ℤ → ℤ → Option (List PaData) → KdcReqBody → KdcReq
request_of pvno msg_type padata body = record { pvno = pvno; msg_type = msg_type; padata = record { 0 = padata }; req_body = body }

-- the times that are wanted
pub record AreTimes (w : Wanted) (t : Times) : Type 0 where
  pub is_from : IsTimeOption w.from t.from
  pub is_till : IsTime w.till t.till
  pub is_rtime : IsTimeOption w.rtime t.rtime

-- the names and the encryption types that are wanted
pub record AreCopies (w : Wanted) (c : Copies) : Type 0 where
  pub realm_is : c.realm ≡ w.realm
  pub sname_is : c.sname ≡ w.sname
  pub etypes_are : c.etypes.items ≡ w.etypes

-- the nonce is below 2^31, and the fields are those that are wanted
pub record AreFields (w : Wanted) (f : Fields) : Type 0 where
  pub small : w.nonce < 2 ^ 31
  pub are_options : AreFlags w.options f.options
  pub are_times : AreTimes w f.times
  pub are_copies : AreCopies w f.copies

-- The body asks for what is wanted and for nothing else; it names this client, or none.
pub record IsBody (w : Wanted) (cname : Option PrincipalName) (b : KdcReqBody) : Type 0 where
  pub small : w.nonce < 2 ^ 31
  pub options : Bits
  pub are_options : AreFlags w.options options
  pub from : Option Time
  pub is_from : IsTimeOption w.from from
  pub till : Time
  pub is_till : IsTime w.till till
  pub rtime : Option Time
  pub is_rtime : IsTimeOption w.rtime rtime
  pub is_body : b ≡ body_of options cname w.realm w.sname from till rtime (pos w.nonce) w.etypes

-- the first of `from`, `till` and `rtime` that is wanted is no time
abbrev pub HasNoTime : Wanted → Type 0
HasNoTime w =
    IsNoTimeOption w.from
    ⊎ (((from : Option Time) × IsTimeOption w.from from)
    × (IsNoTime w.till ⊎ (((till : Time) × IsTime w.till till) × IsNoTimeOption w.rtime)))

-- Why there is no body: the nonce is 2^31 or more; else an option has no number of 0 to 31; else there is no time.
abbrev pub IsNoBody : Wanted → RequestError → Type 0
IsNoBody w e =
    ((e ≡ errors.Nonce) × (2 ^ 31 ≤ w.nonce))
    ⊎ ((w.nonce < 2 ^ 31)
    × (((e ≡ errors.OptionNumber) × Any (λ n. 32 ≤ n) w.options)
    ⊎ (((options : Bits) × AreFlags w.options options) × (e ≡ errors.Time) × HasNoTime w)))
