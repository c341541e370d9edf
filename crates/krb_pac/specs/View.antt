-- The buffers of a PAC, computed from its octets (MS-PAC 2.3 and 2.4).
use Rattle.std.specs.List.{find}
use Rattle.std.specs.Prelude.{nat_eq, ℕ, zero, suc, ◌+◌, ◌*◌, List, [], ◌∷◌, take, drop, Option}
use Rattle.byteorder.specs.Endian.{little_number}
use Rattle.krb_pac.specs.Entry.{Entry}
use Rattle.krb_pac.specs.Kind.{code, named}
use Rattle.krb_pac.specs.Layout.{Buffer}
use Rattle.krb_pac.specs.declared.kind.PacBufferType.{PacBufferType}

-- the entry in the 16 octets from `at` on (MS-PAC 2.4, PAC_INFO_BUFFER)
abbrev pub entry_of : List ℕ → ℕ → Entry
entry_of b at = record { ul_type = named (little_number 4 (drop at b)); cb_buffer_size = little_number 4 (drop (at + 4) b); offset = little_number 8 (drop (at + 8) b) }

-- this entry with the octets that it names
abbrev pub named_by : List ℕ → Entry → Buffer
named_by b i = record { info = i; octets = take i.cb_buffer_size (drop i.offset b) }

-- the buffer whose entry is at `at`
unfoldable pub buffer_of : List ℕ → ℕ → Buffer
buffer_of b at = named_by b (entry_of b at)

-- the buffers of n entries from entry i on
unfoldable pub buffers_of : List ℕ → ℕ → ℕ → List Buffer
buffers_of b i zero = []
buffers_of b i (suc n) = buffer_of b (8 + 16 * i) ∷ buffers_of b (suc i) n

-- the first of the buffers that is of this type
abbrev pub first_of : PacBufferType → List Buffer → Option Buffer
first_of kind ps = find (λ p. nat_eq (code p.info.ul_type) (code kind)) ps
