-- What stands on the lines of a listing: times, encryption types, flags and digits in columns.
use Rattle.std.specs.Prelude.{◌≡◌, ◌≢◌, ℕ, ◌-◌, ◌/◌, ◌%◌, ◌^◌, ◌==◌, if◌then◌else◌, ◌⊎◌, ℤ, pos, FitsSigned, List, [], ◌∷◌, ◌++◌, length, take, All, codes}
use Rattle.std.specs.Fmt.{decimal, signed_decimal}
use Rattle.std.specs.Int.{w64}
use Rattle.std.specs.List.{flat_map}
use Rattle.krb_der_core.specs.GeneralizedTime.{Time, IsRealTime}
use Rattle.krb_registry.specs.declared.kind.Kind.TheVariants.{EncryptionType}
use Rattle.krb_registry.specs.Names.{table, IsRow}
use Rattle.krb_show.specs.Leaves.{time_word}
use Rattle.krb_show.specs.Opened.{IsNone, IsOf}
use Rattle.krb_types.specs.Times.{unix_seconds}

-- ---- times

-- no time with a year of 0 to 9999 is so many seconds since 1970
abbrev pub IsNoTime : ℕ → Type 0
IsNoTime seconds = (t : Time) → IsRealTime t → unix_seconds t ≢ pos seconds

-- a time of 32 bits, in seconds since 1970 ("Keytab file format", timestamp; "Credential cache file format", "Credential format", authtime and those
-- behind it): YYYY-MM-DDTHH:MM:SSZ (ISO 8601), or the number where there is no such time
abbrev pub IsTimeText : ℕ → List ℕ → Type 0
IsTimeText seconds text =
    ((t : Time) × IsRealTime t × (unix_seconds t ≡ pos seconds) × (text ≡ time_word t)) ⊎ (IsNoTime seconds × (text ≡ decimal seconds))

-- ---- encryption types (RFC 3961, 8)

-- the name, or `etype` and the number where none has a name
abbrev pub IsEtypeText : ℤ → List ℕ → Type 0
IsEtypeText number text =
    IsRow EncryptionType number text ⊎ (All (λ row. row.0 ≢ number) (table EncryptionType) × (text ≡ codes "etype " ++ signed_decimal number))

-- the same of a number of any length; `unreadable` where it does not fit 64 bits
abbrev pub IsAnyEtypeText : ℤ → List ℕ → Type 0
IsAnyEtypeText number text =
    (FitsSigned w64 number × IsEtypeText number text) ⊎ ((FitsSigned w64 number → ⊥) × (text ≡ codes "unreadable"))

-- that of the value whose encoding the octets are; `unreadable` where they are of none
abbrev pub IsEncodedEtypeText : {A : Type 0} → (A → Type 0) → (A → List ℕ) → (A → ℤ) → List ℕ → List ℕ → Type 0
IsEncodedEtypeText {A} is_value enc etype octets text =
    ((v : A) × IsOf is_value enc octets v × IsAnyEtypeText (etype v) text) ⊎ (IsNone is_value enc octets × (text ≡ codes "unreadable"))

-- ---- flags (RFC 4120, 5.3), by the letters of klist

-- the letter of a bit, where it is set; bit 0 is the most significant of 32
abbrev pub letter_of : ℕ → ℕ → List ℕ → List ℕ
letter_of flags bit letter = if flags / 2 ^ (31 - bit) % 2 == 1 then letter else []

-- bits and their letters: forwardable, forwarded, proxiable, proxy, may-postdate, postdated, invalid
abbrev pub first_letters : List (ℕ × List ℕ)
first_letters = (1, codes "F") ∷ (2, codes "f") ∷ (3, codes "P") ∷ (4, codes "p") ∷ (5, codes "D") ∷ (6, codes "d") ∷ (7, codes "i") ∷ []

-- renewable, initial, hw-authent, pre-authent, transited-policy-checked, ok-as-delegate, anonymous (RFC 8062, 3)
abbrev pub last_letters : List (ℕ × List ℕ)
last_letters = (8, codes "R") ∷ (9, codes "I") ∷ (11, codes "H") ∷ (10, codes "A") ∷ (12, codes "T") ∷ (13, codes "O") ∷ (16, codes "a") ∷ []

-- those of the bits that are set, in this order
abbrev pub letters_set : List (ℕ × List ℕ) → ℕ → List ℕ
letters_set rows flags = flat_map (λ row. letter_of flags row.0 row.1) rows

abbrev pub flag_letters : ℕ → List ℕ
flag_letters flags = letters_set first_letters flags ++ letters_set last_letters flags

-- ---- columns

-- four columns, or more where the digits are more
abbrev pub padded : List ℕ → List ℕ
padded digits = take (4 - length digits) (codes "    ") ++ digits
