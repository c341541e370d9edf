-- A PAC whose buffers have the types that stand there as numbers, listed or not (MS-PAC 2.3 and 2.4).
use Rattle.std.specs.IoError.{error_kind}
use Rattle.std.specs.List.{find, range_with_len}
use Rattle.std.specs.Prelude.{◌≡◌, nat_eq, ℕ, suc, ◌+◌, ◌*◌, ◌<◌, ◌≤◌, ◌⊎◌, List, [], ◌∷◌, length, map, take, drop, Option}
use Rattle.std.specs.declared.io.ErrorKind.TheVariants.{UnexpectedEof}
use Rattle.byteorder.specs.Endian.{little_number}
use Rattle.krb_pac.specs.Kind.{code}
use Rattle.krb_pac.specs.Layout.{Buffer}
use Rattle.krb_pac.specs.declared.error.PacError.{PacError}
use Rattle.krb_pac.specs.declared.error.PacError.TheVariants as errors
use Rattle.krb_pac.specs.declared.numbered.NumberedInfoBuffer.{NumberedInfoBuffer}

-- the 16 octets from `at` on are this entry (MS-PAC 2.4, PAC_INFO_BUFFER)
pub record NumberedAt (b : List ℕ) (at : ℕ) (e : NumberedInfoBuffer) : Type 0 where
  pub room : at + 16 ≤ length b
  pub kind : little_number 4 (drop at b) ≡ e.ul_type
  pub size : little_number 4 (drop (at + 4) b) ≡ e.cb_buffer_size
  pub offset : little_number 8 (drop (at + 8) b) ≡ e.offset

-- an entry and the octets that it names
pub record NumberedBuffer : Type 0 where
  pub info : NumberedInfoBuffer
  pub octets : List ℕ

-- the entry at `at` is this buffer's, and the slice that it names lies in b and is the buffer's octets
pub record NumberedBufferAt (b : List ℕ) (at : ℕ) (p : NumberedBuffer) : Type 0 where
  pub entry : NumberedAt b at p.info
  pub inside : p.info.offset + p.info.cb_buffer_size ≤ length b
  pub named : p.octets ≡ take p.info.cb_buffer_size (drop p.info.offset b)

-- these are the buffers of the entries from entry i on
abbrev pub AreNumbered : List ℕ → ℕ → List NumberedBuffer → Type 0
AreNumbered b i [] = Unit {0}
AreNumbered b i (p ∷ ps) = NumberedBufferAt b (8 + 16 * i) p × AreNumbered b (suc i) ps

-- the octets are the PAC of these buffers (MS-PAC 2.3, PACTYPE): count and version 0, and the entries after them
pub record NumberedPacIs (b : List ℕ) (pac : List NumberedBuffer) : Type 0 where
  pub room : 8 ≤ length b
  pub count : little_number 4 b ≡ length pac
  pub version : little_number 4 (drop 4 b) ≡ 0
  pub buffers : AreNumbered b 0 pac

-- ---- what octets are none, each by its first error

-- the first error of the entry at `at` and of the slice that it names: the entry is cut short, or the slice is not within b
abbrev pub NumberedBufferRejected : List ℕ → ℕ → PacError → Type 0
NumberedBufferRejected b at (errors.IoError x) = (error_kind x ≡ UnexpectedEof) × (length b < at + 16)
NumberedBufferRejected b at errors.InvalidRange = (i : NumberedInfoBuffer) × NumberedAt b at i × (length b < i.offset + i.cb_buffer_size)
NumberedBufferRejected b at e = ⊥

-- what is before the first rejected buffer
pub record NumberedBefore (b : List ℕ) (ps : List NumberedBuffer) : Type 0 where
  pub room : 8 ≤ length b
  pub version : little_number 4 (drop 4 b) ≡ 0
  pub buffers : AreNumbered b 0 ps
  pub more : length ps < little_number 4 b

-- it is the first error of a buffer, after these
abbrev pub IsOfBuffer : List ℕ → PacError → Type 0
IsOfBuffer b e = (ps : List NumberedBuffer) × NumberedBefore b ps × NumberedBufferRejected b (8 + 16 * length ps) e

-- the first error of the octets: count and version are cut short, the version is not 0, or that of a buffer; a number of a type is none.
-- An allocation failure is of no octets.
abbrev pub NumberedPacRejected : List ℕ → PacError → Type 0
NumberedPacRejected b (errors.InvalidVersion n) = (8 ≤ length b) × (0 < n) × (n ≡ little_number 4 (drop 4 b))
NumberedPacRejected b (errors.IoError x) = ((error_kind x ≡ UnexpectedEof) × (length b < 8)) ⊎ IsOfBuffer b (errors.IoError x)
NumberedPacRejected b errors.InvalidRange = IsOfBuffer b errors.InvalidRange
NumberedPacRejected b errors.OutOfMemory = Unit {0}
NumberedPacRejected b e = ⊥

-- ---- computed from the octets

abbrev pub entry_at : List ℕ → ℕ → NumberedInfoBuffer
entry_at b at = record { ul_type = little_number 4 (drop at b); cb_buffer_size = little_number 4 (drop (at + 4) b); offset = little_number 8 (drop (at + 8) b) }

abbrev named_by : List ℕ → NumberedInfoBuffer → NumberedBuffer
named_by b i = record { info = i; octets = take i.cb_buffer_size (drop i.offset b) }

-- the buffer of entry k
unfoldable pub numbered : List ℕ → ℕ → NumberedBuffer
numbered b k = named_by b (entry_at b (8 + 16 * k))

-- the buffers of n entries
abbrev pub all_numbered : List ℕ → ℕ → List NumberedBuffer
all_numbered b n = map (numbered b) (range_with_len 0 n)

-- the first of the buffers whose type has this number
abbrev pub first_numbered : ℕ → List NumberedBuffer → Option NumberedBuffer
first_numbered n ps = find (λ (p : NumberedBuffer). nat_eq p.info.ul_type n) ps

-- ---- beside PACs whose types are all listed

-- a buffer of a listed type, with the number of that type
abbrev pub with_number : Buffer → NumberedBuffer
with_number p = record { info = record { ul_type = code p.info.ul_type; cb_buffer_size = p.info.cb_buffer_size; offset = p.info.offset }; octets = p.octets }

-- it is that of a number that no type has, or an allocation failure
abbrev pub IsOfNumber : PacError → Type 0
IsOfNumber (errors.PacBufferType n) = Unit {0}
IsOfNumber errors.OutOfMemory = Unit {0}
IsOfNumber e = ⊥
