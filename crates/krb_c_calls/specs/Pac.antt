-- What is asked of a PAC: how many buffers it has, and each of them (MS-PAC 2.3 and 2.4).
use Rattle.std.specs.Prelude.{◌≡◌, ◌⊎◌, ℕ, ◌≤◌, List, length, map, Some, slice_get}
use Rattle.krb_pac.specs.declared.error.PacError.{PacError}
use Rattle.krb_pac.specs.Entry.{Entry}
use Rattle.krb_pac.specs.Kind.{code}
use Rattle.krb_pac.specs.Layout.{Buffer, PacIs}
use Rattle.krb_pac.specs.Rejected.{IsNotMemory, PacRejected}
use Rattle.krb_c_calls.specs.Handing.{ArePut}
use Rattle.krb_c_calls.specs.Places.{StandsAt}
use Rattle.krb_c_calls.specs.FrameStatuses.{pac_status}
use Rattle.krb_c_calls.specs.declared.frames.pac.PlaceRecord.{PlaceRecord}

-- The octets are no PAC, and the status is that of their first error, which is never want of memory.
pub record IsNoPac (octets : List ℕ) (status : ℕ) : Type 0 where
  pub why : PacError
  pub none : (pac : List Buffer) → PacIs octets pac → ⊥
  pub first_error : PacRejected octets why
  pub heapless : IsNotMemory why
  pub named : status ≡ pac_status why

-- The octets are the PAC of so many buffers (0), or no PAC.
abbrev pub IsPacCount : List ℕ → ℕ → ℕ → Type 0
IsPacCount octets count status =
    ((pac : List Buffer) × PacIs octets pac × (status ≡ 0) × (count ≡ length pac))
    ⊎ (IsNoPac octets status × (count ≡ 0))

-- This is buffer n, of this type, and its octets stand where its entry says (0).
pub record IsBufferAt (octets : List ℕ) (pac : List Buffer) (n ul_type offset size status : ℕ) : Type 0 where
  pub buffer : Buffer
  pub there : slice_get pac n ≡ Some buffer
  pub done : status ≡ 0
  pub kind : ul_type ≡ code buffer.info.ul_type
  pub before : offset ≡ buffer.info.offset
  pub count : size ≡ buffer.info.cb_buffer_size
  pub place : StandsAt buffer.octets octets offset size

-- nothing is told
abbrev pub NoBuffer : ℕ → ℕ → ℕ → Type 0
NoBuffer ul_type offset size = (ul_type ≡ 0) × (offset ≡ 0) × (size ≡ 0)

-- The octets are a PAC, and that is its buffer n, or it has not so many (20); or they are no PAC.
abbrev pub IsPacBuffer : List ℕ → ℕ → ℕ → ℕ → ℕ → ℕ → Type 0
IsPacBuffer octets n ul_type offset size status =
    ((pac : List Buffer) × PacIs octets pac
    × (IsBufferAt octets pac n ul_type offset size status ⊎ ((length pac ≤ n) × (status ≡ 20) × NoBuffer ul_type offset size)))
    ⊎ (IsNoPac octets status × NoBuffer ul_type offset size)

-- ---- all buffers

-- what an entry says
abbrev pub place_record : Entry → PlaceRecord
place_record e = record { offset = e.offset; size = e.cb_buffer_size; ul_type = code e.ul_type }

-- the octets of each buffer stand where its entry says
abbrev pub AllStand : List ℕ → List Buffer → Type 0
AllStand octets pac = (n : ℕ) (b : Buffer) → slice_get pac n ≡ Some b → StandsAt b.octets octets b.info.offset b.info.cb_buffer_size

-- The octets are a PAC, and what the entry of each buffer says is counted and, where all fit, put at the front of the caller's (0), else nothing is
-- (1); or they are no PAC, and nothing is put.
abbrev pub IsPacBuffers : List ℕ → List PlaceRecord → List PlaceRecord → ℕ → ℕ → Type 0
IsPacBuffers octets before after count status =
    ((pac : List Buffer) × PacIs octets pac × AllStand octets pac × ArePut (map (λ b. place_record b.info) pac) before after count status)
    ⊎ (IsNoPac octets status × (count ≡ 0) × (after ≡ before))
