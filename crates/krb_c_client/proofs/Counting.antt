-- How many requests calls hand out.
use Rattle.std.proofs.Common.{◌≡◌, ◌≢◌, ◌∙◌, ◌⊎◌, ◌+◌, ◌<◌, ◌≤◌, ℕ, ℤ, Bool, true, false, ◌==◌, ◌&&◌, nat_abs, List, Option, Some, None, Ok, Err, if◌then◌else◌, refl, ap, sym, subst, inl, inr, arith}
use Rattle.std.proofs.lemmas.Bool.{ne_eqb}
use Rattle.krb_client.proofs.Running.{unset}
use Rattle.krb_client_rules.specs.declared.key.Key.{Key}
use Rattle.krb_crypto.specs.declared.cipher_suite.CipherSuite.{CipherSuite}
use Rattle.krb_crypto.specs.declared.cipher_suite.CipherSuite.TheVariants as suites
use Rattle.krb_c_calls.specs.Numbers.{etype_number}
use Rattle.krb_c_calls.specs.Handing.{IsPut}
use Rattle.krb_c_client.specs.CallRuns.{Answered, requests_in, requests_told}
use Rattle.krb_c_client.specs.Exchanges.{IsKeyIn, etype_or_zero, offset_in, taken_number, written}
use Rattle.krb_c_client.specs.Records.{nothing}
use Rattle.krb_c_client.specs.Telling.{Tells}
use Rattle.krb_c_client.specs.Turns.{HasBegun}
use Rattle.krb_c_client.specs.declared.records.ExchangeRecord.{ExchangeRecord}
use Rattle.krb_c_client.specs.declared.records.FollowedRecord.{FollowedRecord}
use Rattle.krb_c_client.specs.declared.refusal.Refusal.{Refusal}
use Rattle.krb_c_client.specs.declared.refusal.Refusal.TheVariants as refusals
use Rattle.krb_c_client.specs.declared.tell.Followed.{Followed}

-- ---- what is left

abbrev pub one_if : Bool → ℕ
one_if true = 1
one_if false = 0

pub one_most : (b : Bool) → one_if b ≤ 1
one_most true = omega arith
one_most false = omega arith

-- one for the first request, where none was made
abbrev pub unbegun : ExchangeRecord → ℕ
unbegun r = one_if (r.begun == 0)

-- one for the KDC's time, where it was not taken
abbrev pub timeless : ExchangeRecord → ℕ
timeless r = one_if (r.has_offset == 0)

-- one for the key, where there is none
abbrev pub keyless : ExchangeRecord → ℕ
keyless r = one_if (nat_abs r.etype == 0)

pub begun_none : (n : ℕ) → n ≢ 0 → one_if (n == 0) ≡ 0
begun_none n there = ap (λ (b : Bool). one_if b) (ne_eqb n 0 there)

unset_if : (b : Bool) (x : ℤ) → unset (if b then None else Some x) ≡ one_if b
unset_if true x = refl
unset_if false x = refl

pub timeless_read : (r : ExchangeRecord) → unset (offset_in r) ≡ timeless r
timeless_read r = unset_if (r.has_offset == 0) r.offset

pub timeless_written : (offset : Option ℤ) → one_if (taken_number offset == 0) ≡ unset offset
timeless_written None = refl
timeless_written (Some offset) = refl

keyed : (suite : CipherSuite) → one_if (nat_abs (etype_number suite) == 0) ≡ 0
keyed suites.Des3CbcSha1Kd = refl
keyed suites.Aes128CtsHmacSha196 = refl
keyed suites.Aes128CtsHmacSha256128 = refl
keyed suites.Aes256CtsHmacSha196 = refl
keyed suites.Aes256CtsHmacSha384192 = refl

pub keyless_read : (r : ExchangeRecord) (key : Option Key) → IsKeyIn r key → keyless r ≡ unset key
keyless_read r None is = ap (λ (e : ℤ). one_if (nat_abs e == 0)) is
keyless_read r (Some key) is = ap (λ (e : ℤ). one_if (nat_abs e == 0)) (sym is.1) ∙ keyed key.suite

pub keyless_written : (key : Option Key) → one_if (nat_abs (etype_or_zero key) == 0) ≡ unset key
keyless_written None = refl
keyless_written (Some key) = keyed key.suite

pub written_begun : (offset : Option ℤ) (nonce : ℕ) (key : Option Key) → HasBegun (written offset nonce key)
written_begun offset nonce key = λ none. omega (arith, none)

-- ---- what is told

pub no_request : (status : ℕ) (told : FollowedRecord) → status ≢ 0 → requests_told status told ≡ 0
no_request status told other = ap (λ (b : Bool). if b && told.follows == 1 then 1 else 0) (ne_eqb status 0 other)

done_request : (a : Answered) (r : FollowedRecord) → a.status ≡ 0 → a.told ≡ r → requests_in a ≡ requests_told 0 r
done_request a r done is = ap (λ (n : ℕ). requests_told n a.told) done ∙ ap (λ (t : FollowedRecord). requests_told 0 t) is

pub other_than : (n m : ℕ) → n ≡ m → 0 < m → n ≢ 0
other_than n m is more none = omega (arith, is, more, none)

put_or_not : (octets before after : List ℕ) (size status : ℕ) → IsPut octets before after size status → (status ≡ 0) ⊎ (status ≡ 1)
put_or_not octets before after size status (counted, inl done) = inl done.0
put_or_not octets before after size status (counted, inr short) = inr short.0

module _ (left : ExchangeRecord → ℕ) (before after : ExchangeRecord) (a : Answered) where
  put_count : (f : Followed) → requests_told 0 f.told.record + left f.exchange ≡ left before → (a.status ≡ 0) ⊎ (a.status ≡ 1)
      → (a.status ≡ 0 → (after ≡ f.exchange) × (a.told ≡ f.told.record)) → (a.status ≡ 1 → (after ≡ before) × (a.told ≡ nothing)) → requests_in a + left after ≡ left before
  put_count f one (inl done) whole again =
      let kept = whole done in
      let requests : requests_in a ≡ requests_told 0 f.told.record = done_request a f.told.record done kept.1 in
      let same : left after ≡ left f.exchange = ap left kept.0 in
      omega (arith, one, requests, same)
  put_count f one (inr short) whole again =
      let none : requests_in a ≡ 0 = no_request a.status a.told (other_than a.status 1 short (omega arith)) in
      let same : left after ≡ left before = ap left (again short).0 in
      omega (arith, none, same)

  -- a call that is done hands out as many requests as are used up
  pub done_count : (f : Followed) → requests_told 0 f.told.record + left f.exchange ≡ left before
      → Tells (Ok f) before after a.told a.out_before a.out_after a.size a.status → requests_in a + left after ≡ left before
  done_count f one tells = put_count f one (put_or_not f.told.octets.items a.out_before a.out_after a.size a.status tells.0) tells.1 tells.2

  -- one that is refused hands out none
  pub refused_count : (r : Refusal) → Tells (Err r) before after a.told a.out_before a.out_after a.size a.status → requests_in a + left after ≡ left before
  refused_count (refusals.Rule rule code) tells =
      let none : requests_in a ≡ 0 = no_request a.status a.told (other_than a.status 42 tells.0 (omega arith)) in
      let same : left after ≡ left before = ap left tells.2 in
      omega (arith, none, same)
  refused_count (refusals.Failed e) tells =
      let none : requests_in a ≡ 0 = no_request a.status a.told (λ is. omega (arith, is, tells.1)) in
      let same : left after ≡ left before = ap left tells.3 in
      omega (arith, none, same)

module _ (before after : ExchangeRecord) (a : Answered) where
  -- an exchange that was kept has begun
  pub done_begun : (f : Followed) → HasBegun f.exchange → Tells (Ok f) before after a.told a.out_before a.out_after a.size a.status → a.status ≡ 0
      → HasBegun after
  done_begun f begun tells done = subst (λ (x : ExchangeRecord). HasBegun x) (sym (tells.1 done).0) begun

  pub refused_begun : (r : Refusal) → Tells (Err r) before after a.told a.out_before a.out_after a.size a.status → a.status ≡ 0 → HasBegun after
  refused_begun (refusals.Rule rule code) tells done = absurd (other_than a.status 42 tells.0 (omega arith) done)
  refused_begun (refusals.Failed e) tells done = absurd (omega (arith, done, tells.1))
