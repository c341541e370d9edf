-- Parts of payloads with zeros behind them.
use Rattle.std.proofs.Common.{◌≡◌, ℕ, ◌+◌, subst, List, [], ◌∷◌, ◌++◌, Result, Ok, Err}
use Rattle.std.specs.Prelude.{IfOk, Option, None, Some}
use Rattle.krb_decrypt.specs.Keys.{HasZeros}
use Rattle.krb_decrypt.specs.Outcomes.{IsNoPart, IsPartFor}
use Rattle.krb_decrypt.specs.declared.outcome.Part.{Part}
use Rattle.krb_decrypt.specs.declared.usage.Usage.{Usage}
use Rattle.krb_decrypt.proofs.Zeros.{Each, each_of_more, one_zero_more}

pub on_ok : {T E : Type 0} {P Q : T → Type 0} (r : Result T E) → ((x : T) → P x → Q x) → IfOk r P → IfOk r Q
on_ok (Ok x) f p = f x p
on_ok (Err e) f p = p

-- what is the part of the octets before a zero, is that of the octets with it, which are no part themselves
pub more_zeros : (u : Usage) (most less : ℕ) (octets front : List ℕ) → less + 1 ≡ most → octets ≡ front ++ 0 ∷ [] → IsNoPart u octets
    → (found : Option Part) → IsPartFor u less front found → IsPartFor u most octets found
more_zeros u most less octets front e whole none None each =
    subst (λ (n : ℕ). Each (IsNoPart u) n octets) e (each_of_more (IsNoPart u) less octets front whole none each)
more_zeros u most less octets front e whole none (Some p) h =
    (subst (λ (n : ℕ). HasZeros n p.octets.items octets) e (one_zero_more less p.octets.items octets front whole h.0), h.1)
