-- A MIC that was verified.
use Rattle.std.proofs.Common.{◌≡◌, ◌∙◌, ℕ, List, Bool, true, false, Option, Some, subst, sym}
use Rattle.std.specs.Prelude.{MatchBool}
use Rattle.krb_spnego.specs.Told.{IsOf, ToldHolds}
use Rattle.krb_spnego.specs.declared.told.Told.{Told}
use Rattle.krb_spnego.specs.declared.told.Verified.{Verified}

same : (v w : Verified) → let a : Option Verified = Some v in a ≡ Some w → v ≡ w
same v w e = cc

pub holds_by : (m : Told) (v : Verified) (text mic : List ℕ) (held : Bool) → m.verified ≡ Some v
    → MatchBool held (IsOf v text mic) (IsOf v text mic → ⊥) → MatchBool held (ToldHolds m text mic) (ToldHolds m text mic → ⊥)
holds_by m v text mic true is h = (v, (is, h))
holds_by m v text mic false is none =
    λ h. none (subst (λ x. IsOf x text mic) (same h.0 v (sym h.1.0 ∙ is)) h.1.1)
