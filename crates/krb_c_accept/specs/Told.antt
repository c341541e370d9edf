-- The numbers that are told of a client that is let in.
use Rattle.std.specs.Prelude.{◌≡◌, ◌⊎◌, ℕ, ℤ, pos, neg_ℤ, ◌<◌, ◌^◌, nat_lt, if◌then◌else◌, List, [], ◌∷◌, length, slice_index, Option, None, Some}
use Rattle.std.specs.Int.{from_be_bytes, w32}
use Rattle.krb_accept.specs.declared.token.Context.{Context}
use Rattle.krb_accept_rules.specs.declared.fields.TicketFields.{TicketFields}
use Rattle.krb_der_core.specs.GeneralizedTime.{Time}
use Rattle.krb_types.specs.Times.{unix_seconds}
use Rattle.krb_types.specs.declared.data_types.encryption.EncryptionKey.{EncryptionKey}
use Rattle.krb_c_accept.specs.declared.parts.Places.{Places}
use Rattle.krb_c_accept.specs.declared.records.AcceptedRecord.{AcceptedRecord}

-- the first 32 flags, flag 0 highest (RFC 4120, 5.2.8); 0 of fewer
abbrev pub flags_number : List ℕ → ℕ
flags_number octets =
    if nat_lt (length octets) 4 then 0
    else from_be_bytes w32 (slice_index octets 0 ∷ slice_index octets 1 ∷ slice_index octets 2 ∷ slice_index octets 3 ∷ [])

-- no number of 32 bits is it
abbrev pub IsPast32 : ℤ → Type 0
IsPast32 z = (n : ℕ) → n < 2 ^ 32 → z ≡ pos n → ⊥

-- the number, or 0 where 32 bits do not hold it
abbrev pub IsNumberOrZero : ℤ → ℕ → Type 0
IsNumberOrZero z n = (z ≡ pos n) ⊎ (IsPast32 z × (n ≡ 0))

-- the encryption type of a key (RFC 4120, 5.2.9), or 0 of none
abbrev pub IsEtypeOrZero : Option EncryptionKey → ℕ → Type 0
IsEtypeOrZero None n = n ≡ 0
IsEtypeOrZero (Some key) n = IsNumberOrZero key.key_type n

-- the number of a first message (RFC 4120, 5.5.1), or -1 of none
abbrev pub IsSequenceOf : Option ℤ → ℤ → Type 0
IsSequenceOf None told = told ≡ neg_ℤ (pos 1)
IsSequenceOf (Some z) told = ((n : ℕ) × (z ≡ pos n) × (told ≡ pos n)) ⊎ (IsPast32 z × (told ≡ neg_ℤ (pos 1)))

-- a time in seconds, or another where there is none (RFC 4120, 5.3: authtime in place of starttime)
abbrev pub seconds_or : Option Time → Time → ℤ
seconds_or None other = unix_seconds other
seconds_or (Some time) other = unix_seconds time

-- ---- what is told

pub record HasPlaces (p : Places) (r : AcceptedRecord) : Type 0 where
  pub entry : r.entry ≡ p.entry
  pub session_key : r.session_key ≡ p.session_key
  pub subkey : r.subkey ≡ p.subkey
  pub own_subkey : r.own_subkey ≡ p.own_subkey
  pub pac : r.pac ≡ p.pac
  pub transited : r.transited ≡ p.transited
  pub authorization_data : r.authorization_data ≡ p.authorization_data
  pub restrictions : r.restrictions ≡ p.restrictions
  pub delegated : r.delegated ≡ p.delegated
  pub reply : r.reply ≡ p.reply

pub record HasTimes (t : TicketFields) (r : AcceptedRecord) : Type 0 where
  pub auth_time : r.auth_time ≡ unix_seconds t.auth_time
  pub start_time : r.start_time ≡ seconds_or t.start_time t.auth_time
  pub end_time : r.end_time ≡ unix_seconds t.end_time

pub record HasNumbers (c : Context) (r : AcceptedRecord) : Type 0 where
  pub sequence_number : IsSequenceOf c.accepted.sequence_number r.sequence_number
  pub flags : r.flags ≡ c.flags
  pub ticket_flags : r.ticket_flags ≡ flags_number c.accepted.ticket.flags.octets
  pub session_etype : IsNumberOrZero c.accepted.ticket.key.key_type r.session_etype
  pub subkey_etype : IsEtypeOrZero c.accepted.subkey r.subkey_etype
  pub transited_type : IsNumberOrZero c.accepted.ticket.transited.tr_type r.transited_type

-- no rule is broken
pub record HasNoRule (r : AcceptedRecord) : Type 0 where
  pub rule : r.rule ≡ 0
  pub code : r.code ≡ 0
  pub seen : (r.has_seen ≡ 0) × (r.seen ≡ pos 0)
