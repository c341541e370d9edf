-- The service that `accept` is asked about.
use Rattle.std.specs.Prelude.{◌≡◌, ◌≢◌, ◌⊎◌, ℕ, ℤ, Option, Some, None, Ok, List, FitsSigned, length, slice_index, unwrap_or}
use Rattle.std.specs.Int.{w64}
use Rattle.std.specs.Str.Parse.{IsNumeral, without_leading_sign, signed_digits_value}
use Rattle.hex.specs.Hex.{decode_of}
use Rattle.krb_accept.specs.declared.settings.PacCheck.TheVariants as pacs
use Rattle.krb_accept.specs.declared.settings.Settings.{Settings}
use Rattle.krb_accept_rules.specs.declared.terms.Terms.{Terms}
use Rattle.krb_accept_report.specs.Texts.{IsTimeOf}
use Rattle.krb_accept_report.specs.declared.report.ReportError.{ReportError}
use Rattle.krb_accept_report.specs.declared.report.ReportError.TheVariants as errors
use Rattle.jolmurig_command.specs.Accepts.{Accept}
use Rattle.jolmurig_command.specs.declared.fault.Fault.TheVariants as fault
use Rattle.jolmurig.specs.Failures.{IsUnread}
use Rattle.jolmurig.specs.Files.{Gives}
use Rattle.jolmurig.specs.declared.files.Purpose.TheVariants as purpose
use Rattle.jolmurig.specs.Terms.{AreNoTerms, AreTerms}
use Rattle.jolmurig.specs.declared.failure.Failure.{Failure}
use Rattle.jolmurig.specs.declared.failure.Failure.TheVariants as failure
use Rattle.jolmurig.specs.declared.failure.Undecided.TheVariants as undecided

-- what a clock may tell: the seconds since 1970, or nothing where it cannot be read
abbrev pub Ticks : Type 1
Ticks = Option ℤ → Type 0

-- ---- the time

-- a text is these seconds in decimal digits, with or without a minus, and 64 bits hold them
pub record IsSeconds (text : List ℕ) (seconds : ℤ) : Type 0 where
  pub no_plus : slice_index text 0 ≢ 43
  pub digits : IsNumeral 10 (without_leading_sign text)
  pub fits : FitsSigned w64 (signed_digits_value 10 text)
  pub value : seconds ≡ signed_digits_value 10 text

-- a text names this time: by its seconds since 1970, or as YYYY-MM-DDTHH:MM:SSZ
abbrev pub IsMoment : List ℕ → ℤ → Type 0
IsMoment text seconds = IsSeconds text seconds ⊎ IsTimeOf text seconds

-- the time that is named, or that of the clock
abbrev pub IsClock : Ticks → Option (List ℕ) → ℤ → Type 0
IsClock ticks None seconds = ticks (Some seconds)
IsClock ticks (Some text) seconds = IsMoment text seconds

abbrev pub IsNoClock : Ticks → Option (List ℕ) → Failure → Type 0
IsNoClock ticks None e = (e ≡ failure.Undecided undecided.Clock) × ticks None
IsNoClock ticks (Some text) e = (e ≡ failure.Time) × ((seconds : ℤ) → IsMoment text seconds → ⊥)

-- ---- what the service asks of tokens

-- a text is these 16 octets in hexadecimal digits
abbrev pub HasBindings : List ℕ → List ℕ → Type 0
HasBindings text octets = (decode_of text ≡ Ok octets) × (length octets ≡ 16)

abbrev pub HasNoBindings : List ℕ → Type 0
HasNoBindings text = (octets : List ℕ) → HasBindings text octets → ⊥

abbrev pub AreBindings : Option (List ℕ) → Option (List ℕ) → Type 0
AreBindings None found = found ≡ None
AreBindings (Some text) found = (octets : List ℕ) × HasBindings text octets × (found ≡ Some octets)

abbrev pub AreNoBindings : Option (List ℕ) → Failure → Type 0
AreNoBindings None e = ⊥
AreNoBindings (Some text) e = (e ≡ failure.Bindings) × HasNoBindings text

-- the settings of the options; a PAC is checked where there is one, unless an option says otherwise
pub record AreSettings (a : Accept) (s : Settings) : Type 0 where
  pub bindings : AreBindings a.bindings s.bindings
  pub bare : s.bare_request ≡ a.is_bare
  pub other : s.other_checksum ≡ a.takes_other
  pub pac : s.pac ≡ unwrap_or a.pac pacs.Checked

-- ---- the keytab, and all of it

-- What files give by their names.
module _ (gives : Gives) where
  -- the octets of the keytab that is named
  abbrev pub IsKeytab : Option (List ℕ) → List ℕ → Type 0
  IsKeytab None octets = ⊥
  IsKeytab (Some name) octets = gives name (Ok octets)

  -- it is not read
  abbrev pub IsNoKeytab : Option (List ℕ) → Failure → Type 0
  IsNoKeytab None e = e ≡ failure.Arguments fault.NoKeytab
  IsNoKeytab (Some name) e = IsUnread gives purpose.Keytab name e

-- What files give by their names, and a clock tells.
module _ (gives : Gives) (ticks : Ticks) where
  -- what it asks of tokens, the time, and the keytab
  pub record AreMeans (a : Accept) (settings : Settings) (clock : ℤ) (keytab : List ℕ) : Type 0 where
    pub are_settings : AreSettings a settings
    pub is_clock : IsClock ticks a.time clock
    pub is_keytab : IsKeytab gives a.keytab keytab

  -- there are settings, and no time; and these, and no keytab
  abbrev pub HasNoClock : Accept → Failure → Type 0
  HasNoClock a e = (settings : Settings) × AreSettings a settings × IsNoClock ticks a.time e

  abbrev pub HasNoKeytab : Accept → Failure → Type 0
  HasNoKeytab a e = (settings : Settings) × (clock : ℤ) × AreSettings a settings × IsClock ticks a.time clock × IsNoKeytab gives a.keytab e

  -- the first option that has no value, or whose file or clock cannot be read
  abbrev pub AreNoMeans : Accept → Failure → Type 0
  AreNoMeans a e = AreNoBindings a.bindings e ⊎ HasNoClock a e ⊎ HasNoKeytab a e

  pub record IsService (a : Accept) (terms : Terms) (settings : Settings) (clock : ℤ) (keytab : List ℕ) : Type 0 where
    pub are_terms : AreTerms a terms
    pub are_means : AreMeans a settings clock keytab

  -- why there is no service: there are no terms; or there are, and the rest is wanting
  abbrev pub IsNoService : Accept → Failure → Type 0
  IsNoService a e = AreNoTerms a e ⊎ ((terms : Terms) × AreTerms a terms × AreNoMeans a e)

-- ---- failures

-- the failure that an error of a report is
abbrev pub failure_of_report : ReportError → Failure
failure_of_report (errors.Keytab why) = failure.Undecided (undecided.Keytab why)
failure_of_report errors.OutOfMemory = failure.Memory

-- a failure of before the decision
abbrev pub undecided_of : Failure → Failure
undecided_of failure.Memory = failure.Undecided undecided.Memory
undecided_of failure.NotBase64 = failure.Undecided undecided.NotBase64
undecided_of failure.Read = failure.Undecided undecided.Read
undecided_of failure.Write = failure.Undecided undecided.Write
undecided_of (failure.NoFile f) = failure.Undecided (undecided.NoFile f)
undecided_of other = other
