-- The octets that a PAC is written as (MS-PAC 2.3).
use Rattle.std.specs.Prelude.{◌≡◌, ℕ, ◌+◌, ◌*◌, ◌^◌, ◌/◌, ◌<◌, ◌≤◌, ◌⊎◌, List, [], ◌∷◌, ◌++◌, length, slice_index, sum_by}
use Rattle.byteorder.specs.Endian.{little_bytes}
use Rattle.krb_pac.specs.Kind.{code}
use Rattle.krb_pac.specs.Layout.{Buffer, BufferAt, PacIs}
use Rattle.krb_pac.specs.Stands.{Stands, KeepsOutside}
use Rattle.krb_pac.specs.Entry.{Entry}

-- the octets of an entry (MS-PAC 2.4)
abbrev pub entry_octets : Entry → List ℕ
entry_octets i = little_bytes 4 (code i.ul_type) ++ little_bytes 4 i.cb_buffer_size ++ little_bytes 8 i.offset

-- the numbers fit their fields
abbrev pub FitsEntry : Entry → Type 0
FitsEntry i = (code i.ul_type < 256) × (i.cb_buffer_size < 2 ^ 32) × (i.offset < 2 ^ 64)

-- the sizes, each rounded up to 8
abbrev pub padded : List Buffer → ℕ
padded ps = sum_by (λ (p : Buffer). (p.info.cb_buffer_size + 7) / 8 * 8) ps

-- the octets before the buffers: count, version and entries
abbrev pub head : List Buffer → ℕ
head ps = 8 + 16 * length ps

-- P holds of each element
abbrev pub AllOf : {A : Type 0} → (A → Type 0) → List A → Type 0
AllOf P [] = Unit {0}
AllOf P (v ∷ vs) = P v × AllOf P vs

-- an empty range, or one from h on
abbrev pub IsTrailing : ℕ → Buffer → Type 0
IsTrailing h p = (p.info.cb_buffer_size ≡ 0) ⊎ (h ≤ p.info.offset)

-- the ranges share no octet
abbrev pub AreApart : Buffer → Buffer → Type 0
AreApart p q = ((p.info.cb_buffer_size ≡ 0) ⊎ (q.info.cb_buffer_size ≡ 0)) ⊎ ((p.info.offset + p.info.cb_buffer_size ≤ q.info.offset) ⊎ (q.info.offset + q.info.cb_buffer_size ≤ p.info.offset))

-- no two ranges share an octet
abbrev pub AllApart : List Buffer → Type 0
AllApart [] = Unit {0}
AllApart (p ∷ ps) = AllOf (AreApart p) ps × AllApart ps

-- octet k is outside p's range
abbrev pub IsOutside : ℕ → Buffer → Type 0
IsOutside k p = (k < p.info.offset) ⊎ (p.info.offset + p.info.cb_buffer_size ≤ k)

-- octet k is in no range of these
abbrev pub IsFree : ℕ → List Buffer → Type 0
IsFree k ps = AllOf (IsOutside k) ps

-- the octets are the PAC, of the length that it is written with, no range but an empty one meets the octets before the buffers or
-- another range, and the octets outside all of these are zero
pub record PacPut (pac : List Buffer) (b : List ℕ) : Type 0 where
  pub is : PacIs b pac
  pub size : length b ≡ head pac + padded pac
  pub trailing : AllOf (IsTrailing (head pac)) pac
  pub apart : AllApart pac
  pub zero_else : (k : ℕ) → head pac ≤ k → IsFree k pac → slice_index b k ≡ 0

-- an entry and then its range were put over what was there
pub record PutTwice (at : ℕ) (old new : List ℕ) (p : Buffer) : Type 0 where
  pub between : List ℕ
  pub sized : length p.octets ≡ p.info.cb_buffer_size
  pub fits : FitsEntry p.info
  pub entry_len : length between ≡ length old
  pub entry : Stands between at (entry_octets p.info)
  pub entry_kept : KeepsOutside at 16 old between
  pub range_len : length new ≡ length between
  pub range : Stands new p.info.offset p.octets
  pub range_kept : KeepsOutside p.info.offset p.info.cb_buffer_size between new

-- one buffer has a place in n octets, its entry at `at`: both lie within, and share no octet
pub record HasRoom (at n : ℕ) (p : Buffer) : Type 0 where
  pub room : at + 16 ≤ n
  pub inside : p.info.offset + p.info.cb_buffer_size ≤ n
  pub apart : (p.info.cb_buffer_size ≡ 0) ⊎ ((p.info.offset + p.info.cb_buffer_size ≤ at) ⊎ (at + 16 ≤ p.info.offset))

-- one buffer was written into octets, its entry at `at`, and nothing else
pub record BufferPut (at : ℕ) (old new : List ℕ) (p : Buffer) : Type 0 where
  pub is : BufferAt new at p
  pub size : length new ≡ length old
  pub kept : (k : ℕ) → (k < at) ⊎ (at + 16 ≤ k) → IsOutside k p → slice_index new k ≡ slice_index old k
