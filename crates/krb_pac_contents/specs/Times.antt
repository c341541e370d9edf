-- Times as Windows counts them (MS-DTYP 2.3.3, FILETIME).
use Rattle.std.specs.Prelude.{◌≡◌, ◌≢◌, ℕ, ◌<◌, ℤ, pos, ◌+ℤ◌, ◌*ℤ◌}
use Rattle.krb_der_core.specs.GeneralizedTime.{Time, IsRealTime}
use Rattle.krb_types.specs.Times.{unix_seconds}
use Rattle.krb_pac_contents.specs.declared.text.times.FileTime.{FileTime}
use Rattle.krb_pac_contents.specs.declared.text.times.FileTime.TheVariants as variants

-- the number that stands for a time that never comes (MS-PAC 2.5)
abbrev pub never : ℕ
never = 0x7fff_ffff_ffff_ffff

-- The units of 100 ns from 1601-01-01 on, of a second and of those past it. 1970-01-01 is 11,644,473,600 seconds after 1601-01-01.
abbrev pub units_since_1601 : Time → ℕ → ℤ
units_since_1601 t units = (pos 10_000_000 *ℤ (unix_seconds t +ℤ pos 11_644_473_600)) +ℤ pos units

-- the second and the units past it are the time of this number
abbrev pub IsTimeOf : ℕ → Time → ℕ → Type 0
IsTimeOf n t units = IsRealTime t × (units < 10_000_000) × (units_since_1601 t units ≡ pos n)

-- what a number is
abbrev pub FileTimeIs : ℕ → FileTime → Type 0
FileTimeIs n variants.Never = n ≡ never
FileTimeIs n (variants.Time t units) = (n ≢ never) × IsTimeOf n t units
FileTimeIs n variants.Unrepresentable = (n ≢ never) × ((t : Time) (units : ℕ) → IsTimeOf n t units → ⊥)
