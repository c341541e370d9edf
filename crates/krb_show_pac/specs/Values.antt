-- Times, names and identifiers of a PAC as tokens.
use Rattle.std.specs.Prelude.{◌≡◌, ◌≢◌, ℕ, List, ◌⊎◌, None, Some, codes}
use Rattle.krb_der_core.specs.GeneralizedTime.{Time}
use Rattle.krb_pac_contents.specs.Names.{name_of}
use Rattle.krb_pac_contents.specs.Sids.{sid_text_of}
use Rattle.krb_pac_contents.specs.Times.{IsTimeOf, never}
use Rattle.krb_show.specs.Leaves.{octets_of, text_of, time_of, unsigned_of, word_of}
use Rattle.krb_show.specs.Tokens.{Label, Token}

-- no time with a year of 0 to 9999 is this number
abbrev pub IsNoTime : ℕ → Type 0
IsNoTime n = (t : Time) (units : ℕ) → IsTimeOf n t units → ⊥

-- A time (MS-DTYP 2.3.3, FILETIME): the second that it is in; `never` where the number says so (MS-PAC 2.5); and the number where there is no
-- such time.
abbrev pub filetime_of : Label → ℕ → List Token → List Token → Type 0
filetime_of label n old new =
    ((n ≡ never) × word_of label (codes "never") old new)
    ⊎ (((n ≢ never) × (t : Time) × (units : ℕ) × IsTimeOf n t units × time_of label t old new)
    ⊎ ((n ≢ never) × IsNoTime n × unsigned_of label n old new))

-- A name (MS-DTYP 2.3.10): the text that the octets are in UTF-16, and the octets where they are none.
abbrev pub name_or_octets_of : Label → List ℕ → List Token → List Token → Type 0
name_or_octets_of label octets old new =
    ((text : List ℕ) × (name_of octets ≡ Some text) × text_of label text old new) ⊎ ((name_of octets ≡ None) × octets_of label octets old new)

-- a security identifier (MS-DTYP 2.4.2.1), as `S-1-5-21-..`
abbrev pub identifier_of : Label → List ℕ → List Token → List Token → Type 0
identifier_of label sid = word_of label (sid_text_of sid)
