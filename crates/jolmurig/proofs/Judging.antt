-- A service that is not there, and one that is, and what it says.
use Rattle.std.proofs.Common.{◌≡◌, ◌⊎◌, ℕ, ℤ, List, Option, None, Some, Bool, Result, Ok, Err, inl, inr, refl, subst}
use Rattle.std.specs.Prelude.{IfErr, IfOk}
use Rattle.std.specs.Io.KnownBytes.{Keeps}
use Rattle.jolmurig_command.specs.Accepts.{Accept}
use Rattle.krb_accept.specs.declared.settings.Settings.{Settings}
use Rattle.krb_accept_report.specs.declared.report.ReportError.{ReportError}
use Rattle.krb_accept_rules.specs.declared.terms.Terms.{Terms}
use Rattle.jolmurig.specs.Files.{Gives}
use Rattle.jolmurig.specs.Judgements.{AreNoMeans, IsNoService, IsService, Ticks, failure_of_report}
use Rattle.jolmurig.specs.Terms.{AreTerms}
use Rattle.jolmurig.specs.Outcome.{AreNotRead, AreRead, IsJudged, IsNotJudged, Judges, Misjudges, question_of}
use Rattle.jolmurig.specs.declared.failure.Failure.{Failure}
use Rattle.jolmurig.specs.declared.failure.Failure.TheVariants as failure

-- what is not read is left as it was
pub untouched : (left : Option (List ℕ)) → Keeps left left
untouched None = tt
untouched (Some octets) = refl

pub no_service : (gives : Gives) (ticks : Ticks) (misjudges : Misjudges) (a : Accept) (left : Option (List ℕ)) (e : Failure)
    → (e ≡ failure.Memory) ⊎ IsNoService gives ticks a e → IsNotJudged gives ticks misjudges a left left e
no_service gives ticks misjudges a left e (inl memory) = inl memory
no_service gives ticks misjudges a left e (inr none) = inr (inl (untouched left, none))

-- there are terms, and the rest is wanting
pub wanting : (gives : Gives) (ticks : Ticks) (a : Accept) (terms : Terms) (e : Failure) → AreTerms a terms → (e ≡ failure.Memory) ⊎ AreNoMeans gives ticks a e
    → (e ≡ failure.Memory) ⊎ IsNoService gives ticks a e
wanting gives ticks a terms e are (inl memory) = inl memory
wanting gives ticks a terms e are (inr none) = inr (inr (terms, are, none))

module _ {A : Type 0} (r : Result A Failure) (gives : Gives) (ticks : Ticks) (a : Accept) (file left : Option (List ℕ)) (terms : Terms) (settings : Settings) (clock : ℤ)
    (keytab : List ℕ) (same : file ≡ a.file) (is : IsService gives ticks a terms settings clock keytab) where
  abbrev pub Said : (judges : Judges) → Bool → List ℕ → Option (List ℕ) → Type 0
  Said judges accepts line f = (octets : List ℕ) × AreRead gives f left octets × judges (question_of keytab octets clock terms settings) accepts line

  abbrev pub Unsaid : (misjudges : Misjudges) → Failure → Option (List ℕ) → Type 0
  Unsaid misjudges e f =
      AreNotRead gives f left e ⊎ ((octets : List ℕ) × AreRead gives f left octets
      × ((why : ReportError) × misjudges (question_of keytab octets clock terms settings) why × (e ≡ failure_of_report why)))

  said : (judges : Judges) (accepts : Bool) (line : List ℕ) → Said judges accepts line file → IsJudged gives ticks judges a left accepts line
  said judges accepts line h =
      let s = subst (Said judges accepts line) same h in
      record { terms = terms; settings = settings; clock = clock; keytab = keytab; is_service = is; octets = s.0; are_read = s.1; said = s.2 }

  unsaid : (misjudges : Misjudges) (rest : Option (List ℕ)) (e : Failure) → Unsaid misjudges e file → IsNotJudged gives ticks misjudges a left rest e
  unsaid misjudges rest e h =
      inr (inr (record { terms = terms; settings = settings; clock = clock; keytab = keytab; is_service = is; none = subst (Unsaid misjudges e) same h }))

  -- what the service says is said
  pub said_so : (judges : Judges) (accepts : A → Bool) (line : A → List ℕ) → IfOk r (λ x. Said judges (accepts x) (line x) file)
      → IfOk r (λ x. IsJudged gives ticks judges a left (accepts x) (line x))
  said_so judges accepts line h =
      elim r as (λ q. IfOk q (λ x. Said judges (accepts x) (line x) file) → IfOk q (λ x. IsJudged gives ticks judges a left (accepts x) (line x))) [
        | Ok x ↦ λ s. said judges (accepts x) (line x) s
        | Err e ↦ λ s. tt
      ] h

  -- and where it says nothing, nothing is
  pub unsaid_so : (misjudges : Misjudges) (rest : Option (List ℕ)) → IfErr r (λ e. Unsaid misjudges e file) → IfErr r (IsNotJudged gives ticks misjudges a left rest)
  unsaid_so misjudges rest h =
      elim r as (λ q. IfErr q (λ e. Unsaid misjudges e file) → IfErr q (IsNotJudged gives ticks misjudges a left rest)) [
        | Ok x ↦ λ s. tt
        | Err e ↦ λ s. unsaid misjudges rest e s
      ] h
