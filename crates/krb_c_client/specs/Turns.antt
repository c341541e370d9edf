-- When a message comes to an exchange (krb_exchange of krb.h).
use Rattle.std.specs.Prelude.{◌≡◌, ◌≢◌, ◌⊎◌, ℕ, pos, List, [], replicate}
use Rattle.krb_c_client.specs.declared.records.ExchangeRecord.{ExchangeRecord}

-- all is 0 but perhaps what the KDC's time is ahead, as an exchange before this one took it
abbrev pub IsUnbegun : ExchangeRecord → Type 0
IsUnbegun r = (r.nonce ≡ 0) × (r.etype ≡ pos 0) × (r.begun ≡ 0) × (r.key ≡ replicate 32 0)

abbrev pub AreZeros : ExchangeRecord → Type 0
AreZeros r = (r.offset ≡ pos 0) × (r.has_offset ≡ 0) × IsUnbegun r

-- a request was made
abbrev pub HasBegun : ExchangeRecord → Type 0
HasBegun r = r.begun ≢ 0

-- no octets begin an exchange where it may begin, and octets are for one that has begun
abbrev pub IsTurn : Type 0 → ExchangeRecord → List ℕ → Type 0
IsTurn may_begin r message = ((message ≡ []) × may_begin) ⊎ ((message ≢ []) × HasBegun r)

-- an exchange for a first ticket begins where it is all zeros; one for a further ticket may have the KDC's time
abbrev pub IsFirstTurn : ExchangeRecord → List ℕ → Type 0
IsFirstTurn r message = IsTurn (AreZeros r) r message

abbrev pub IsFurtherTurn : ExchangeRecord → List ℕ → Type 0
IsFurtherTurn r message = IsTurn (IsUnbegun r) r message
