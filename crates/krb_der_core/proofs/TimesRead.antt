-- What is read of a GeneralizedTime, against what is written.
use Rattle.std.proofs.Common.{◌≡◌, ℕ, Bool, true, not, nat_eq, List, ap, sym, subst, ◌∙◌}
use Rattle.std.proofs.lemmas.Bool.{true≢false}
use Rattle.std.specs.Cmp.Lexicographic.{pointwise, bytes_decides}
use Rattle.krb_der_core.specs.GeneralizedTime.{Time, IsRealTime, time_content, time_read}
use Rattle.krb_der_core.specs.GeneralizedTimeLaws.{time_read-time_content}

-- octets that are the content of a real time are read as that time
time_read_of_content : (content : List ℕ) (v : Time) → IsRealTime v → content ≡ time_content v → time_read content ≡ v
time_read_of_content content v real same = ap time_read same ∙ time_read-time_content v real

-- what is read as no real time is the content of none
pub none_reported : (content : List ℕ) → (IsRealTime (time_read content) → ⊥) → (v : Time) → IsRealTime v → content ≡ time_content v → ⊥
none_reported content unreal v real same =
    unreal (subst (λ (t : Time). IsRealTime t) (sym (time_read_of_content content v real same)) real)

-- what is written otherwise than it was read is the content of no real time
pub none_written : (content written : List ℕ) (t : Time) (differs : Bool) → t ≡ time_read content → written ≡ time_content t
    → differs ≡ not (pointwise nat_eq written content) → differs ≡ true
    → (v : Time) → IsRealTime v → content ≡ time_content v → ⊥
none_written content written t differs reported octets tested found v real same =
    let again : written ≡ content = octets ∙ ap time_content (reported ∙ time_read_of_content content v real same) ∙ sym same in
    true≢false (sym found ∙ tested ∙ ap not ((bytes_decides written content).1 again))
