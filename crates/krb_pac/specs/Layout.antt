-- Where the parts of a PAC are in its octets (MS-PAC 2.3 and 2.4).
use Rattle.std.specs.Cmp.Lexicographic.{pointwise}
use Rattle.std.specs.Ordering.{on, eq_of_both}
use Rattle.std.specs.Prelude.{◌≡◌, Bool, nat_eq, ℕ, suc, ◌+◌, ◌*◌, ◌≤◌, List, [], ◌∷◌, length, take, drop}
use Rattle.byteorder.specs.Endian.{little_number}
use Rattle.krb_pac.specs.Kind.{code}
use Rattle.krb_pac.specs.Entry.{Entry}
use Rattle.krb_pac.specs.declared.kind.PacBufferType.{PacBufferType}

-- the 16 octets from `at` on are this entry (MS-PAC 2.4, PAC_INFO_BUFFER)
pub record EntryAt (b : List ℕ) (at : ℕ) (e : Entry) : Type 0 where
  pub room : at + 16 ≤ length b
  pub kind : little_number 4 (drop at b) ≡ code e.ul_type
  pub size : little_number 4 (drop (at + 4) b) ≡ e.cb_buffer_size
  pub offset : little_number 8 (drop (at + 8) b) ≡ e.offset

-- the entry of this type, whose size and offset the octets after its type begin with (MS-PAC 2.4, PAC_INFO_BUFFER)
abbrev pub entry_of_type : PacBufferType → List ℕ → Entry
entry_of_type kind rest = record { ul_type = kind; cb_buffer_size = little_number 4 rest; offset = little_number 8 (drop 4 rest) }

-- an entry and the octets that it names
pub record Buffer : Type 0 where
  pub info : Entry
  pub octets : List ℕ

-- the entry at `at` is this buffer's, and the slice that it names lies in b and is the buffer's octets
pub record BufferAt (b : List ℕ) (at : ℕ) (p : Buffer) : Type 0 where
  pub entry : EntryAt b at p.info
  pub inside : p.info.offset + p.info.cb_buffer_size ≤ length b
  pub named : p.octets ≡ take p.info.cb_buffer_size (drop p.info.offset b)

-- these are the buffers of the entries from entry i on
abbrev pub Buffers : List ℕ → ℕ → List Buffer → Type 0
Buffers b i [] = Unit {0}
Buffers b i (p ∷ ps) = BufferAt b (8 + 16 * i) p × Buffers b (suc i) ps

-- the octets are the PAC of these buffers (MS-PAC 2.3, PACTYPE): count and version 0, and the entries after them
pub record PacIs (b : List ℕ) (pac : List Buffer) : Type 0 where
  pub room : 8 ≤ length b
  pub count : little_number 4 b ≡ length pac
  pub version : little_number 4 (drop 4 b) ≡ 0
  pub buffers : Buffers b 0 pac

-- whether two buffers are equal
abbrev pub same_buffer : Buffer → Buffer → Bool
same_buffer = eq_of_both (on (λ (p : Buffer). code p.info.ul_type) nat_eq)
    (eq_of_both (on (λ (p : Buffer). p.info.cb_buffer_size) nat_eq) (eq_of_both (on (λ (p : Buffer). p.info.offset) nat_eq) (on (λ (p : Buffer). p.octets) (pointwise nat_eq))))
