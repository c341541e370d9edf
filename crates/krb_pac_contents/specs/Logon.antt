-- The logon information (MS-PAC 2.5, KERB_VALIDATION_INFO): which octets are it, and their first error.
use Rattle.std.specs.Prelude.{ℕ, ◌+◌, ◌-◌, ◌*◌, ◌/◌, ◌&&◌, not, ◌==◌, nat_lt, List, [], ◌∷◌, length, take, drop, slice_index, Result, Ok}
use Rattle.krb_pac_contents.specs.Fixed.{Checked, pointers_of}
use Rattle.krb_pac_contents.specs.Numbers.{short_at, long_at}
use Rattle.krb_pac_contents.specs.Referents.{string_at, array_at, ExtraSids, extra_sids_at, MaybeSid, resource_sid_at}
use Rattle.krb_pac_contents.specs.Sid.{sid_of}
use Rattle.krb_pac_contents.specs.Steps.{Read, first_fault, ◌>>=◌}
use Rattle.krb_pac_contents.specs.declared.error.LogonError.{LogonError}
use Rattle.krb_pac_contents.specs.declared.error.LogonError.TheVariants as errors

-- the six strings from EffectiveName on, and the octets after them
pub record Names : Type 0 where
  pub effective_name : List ℕ
  pub full_name : List ℕ
  pub logon_script : List ℕ
  pub profile_path : List ℕ
  pub home_directory : List ℕ
  pub home_directory_drive : List ℕ
  pub rest : List ℕ

-- GroupIds, LogonServer, LogonDomainName, LogonDomainId, and the octets after them
pub record Domain : Type 0 where
  pub groups : List ℕ
  pub logon_server : List ℕ
  pub logon_domain_name : List ℕ
  pub logon_domain_id : List ℕ
  pub rest : List ℕ

-- the 216 octets of the structure, and what its pointers point to
pub record Logon : Type 0 where
  pub fixed : List ℕ
  pub names : Names
  pub domain : Domain
  pub extra : ExtraSids
  pub resource : MaybeSid
  pub resource_groups : Read

-- the headers of type serialization version 1 (MS-RPCE 2.2.6.1 and 2.2.6.2), and the pointer that the object begins with: version 1,
-- little endian, 8 octets of header, a filler, how many octets follow, a filler, and the referent id
unfoldable pub header_of : List ℕ → Checked
header_of b = first_fault
    ((nat_lt (length b) 16, errors.Truncated)
    ∷ (not (slice_index b 0 == 1), errors.Version)
    ∷ (not (slice_index b 1 == 0x10), errors.Endianness)
    ∷ (not (short_at 2 b == 8), errors.HeaderLength)
    ∷ (not (16 + long_at 8 b == length b), errors.ObjectLength)
    ∷ (nat_lt (length b) 236, errors.Truncated)
    ∷ (long_at 16 b == 0, errors.NullPointer) ∷ []) tt

unfoldable pub names_of : List ℕ → List ℕ → Result Names LogonError
names_of f b = do
  a ← string_at f 48 b
  c ← string_at f 56 a.rest
  d ← string_at f 64 c.rest
  e ← string_at f 72 d.rest
  g ← string_at f 80 e.rest
  h ← string_at f 88 g.rest
  Ok (record { effective_name = a.octets; full_name = c.octets; logon_script = d.octets; profile_path = e.octets; home_directory = g.octets; home_directory_drive = h.octets; rest = h.rest })

unfoldable pub domain_of : List ℕ → List ℕ → Result Domain LogonError
domain_of f b = do
  a ← array_at f 108 b
  c ← string_at f 136 a.rest
  d ← string_at f 144 c.rest
  e ← sid_of d.rest
  Ok (record { groups = a.octets; logon_server = c.octets; logon_domain_name = d.octets; logon_domain_id = e.octets; rest = e.rest })

-- a length, made a multiple of 8
abbrev pub padded : ℕ → ℕ
padded len = (len + 7) / 8 * 8

-- Of all octets, those after the last that was read are the padding alone, whose length the private
-- header's ObjectBufferLength includes (MS-RPCE 2.2.6.2), or none: not all writers pad, and what
-- pointers point to tells the end.
unfoldable pub end_of : List ℕ → Read → Result Read LogonError
end_of b last = first_fault
    ((not (length last.rest == 0) && nat_lt (length b) (padded (length b - length last.rest)), errors.Padding)
    ∷ (nat_lt (padded (length b - length last.rest)) (length b), errors.TrailingOctets) ∷ [])
    last

-- the structure itself, after the headers and the pointer to it
abbrev pub fixed_of : List ℕ → List ℕ
fixed_of b = take 216 (drop 20 b)

unfoldable pub logon_of : List ℕ → Result Logon LogonError
logon_of b = do
  p ← header_of b
  q ← pointers_of (fixed_of b)
  n ← names_of (fixed_of b) (drop 236 b)
  d ← domain_of (fixed_of b) n.rest
  x ← extra_sids_at (fixed_of b) d.rest
  r ← resource_sid_at (fixed_of b) x.rest
  g ← array_at (fixed_of b) 208 r.rest
  h ← end_of b g
  Ok (record { fixed = fixed_of b; names = n; domain = d; extra = x; resource = r; resource_groups = h })
