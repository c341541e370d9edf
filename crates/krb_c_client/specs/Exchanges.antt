-- An exchange, as the caller keeps it between two messages (krb_exchange of krb.h).
use Rattle.std.specs.Prelude.{◌≡◌, ◌≢◌, ℕ, ℤ, pos, List, ◌++◌, length, take, drop, replicate, if◌then◌else◌, ◌==◌, Option, Some, None}
use Rattle.krb_client_rules.specs.declared.key.Key.{Key}
use Rattle.krb_crypto.specs.BySuite.{key_octets_of}
use Rattle.krb_c_calls.specs.Numbers.{etype_number}
use Rattle.krb_c_calls.specs.declared.call_error.CallError.{CallError}
use Rattle.krb_c_client.specs.Suites.{IsNoSuite}
use Rattle.krb_c_client.specs.declared.records.ExchangeRecord.{ExchangeRecord}

-- ---- read

-- what the KDC's time is ahead of the client's, where it was taken
abbrev pub offset_in : ExchangeRecord → Option ℤ
offset_in r = if r.has_offset == 0 then None else Some r.offset

-- no key where the encryption type is 0; else the key of its suite, by as many of the octets as such a key has
abbrev pub IsKeyIn : ExchangeRecord → Option Key → Type 0
IsKeyIn r None = r.etype ≡ pos 0
IsKeyIn r (Some k) = (r.etype ≢ pos 0) × (etype_number k.suite ≡ r.etype) × (k.octets.items ≡ take (key_octets_of k.suite) r.key)

abbrev pub IsNoKeyIn : ExchangeRecord → CallError → Type 0
IsNoKeyIn r e = IsNoSuite r.etype e

-- ---- written

abbrev pub offset_or_zero : Option ℤ → ℤ
offset_or_zero None = pos 0
offset_or_zero (Some offset) = offset

abbrev pub taken_number : Option ℤ → ℕ
taken_number None = 0
taken_number (Some offset) = 1

abbrev pub etype_or_zero : Option Key → ℤ
etype_or_zero None = pos 0
etype_or_zero (Some k) = etype_number k.suite

-- the first 32 octets, and zeros up to 32
abbrev pub padded : List ℕ → List ℕ
padded octets = take 32 octets ++ drop (length (take 32 octets)) (replicate 32 0)

abbrev pub key_or_zeros : Option Key → List ℕ
key_or_zeros None = replicate 32 0
key_or_zeros (Some k) = padded k.octets.items

-- an exchange that has begun
abbrev pub written : Option ℤ → ℕ → Option Key → ExchangeRecord
written offset nonce key = record {
  offset = offset_or_zero offset;
  has_offset = taken_number offset;
  nonce = nonce;
  etype = etype_or_zero key;
  begun = 1;
  key = key_or_zeros key;
}
