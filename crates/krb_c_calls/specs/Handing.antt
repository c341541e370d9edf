-- What a call from C leaves in the caller's octets, and in other arrays of the caller's.
use Rattle.std.specs.Prelude.{◌≡◌, ◌⊎◌, ℕ, ◌<◌, ◌≤◌, List, ◌++◌, length, drop}
use Rattle.krb_c_calls.specs.Statuses.{refusal_status}
use Rattle.krb_c_calls.specs.declared.call_error.CallError.{CallError}

-- They are counted and, where they fit, put at the front of the caller's, of which those behind are as they were (0); else all are (1).
abbrev pub ArePut : {A : Type 0} → List A → List A → List A → ℕ → ℕ → Type 0
ArePut those before after count status =
    (count ≡ length those)
    × (((status ≡ 0) × (length those ≤ length before) × (after ≡ those ++ drop (length those) before))
    ⊎ ((status ≡ 1) × (length before < length those) × (after ≡ before)))

-- So are octets.
abbrev pub IsPut : List ℕ → List ℕ → List ℕ → ℕ → ℕ → Type 0
IsPut octets before after size status = ArePut octets before after size status

-- Nothing is put, and 0 is the size.
abbrev pub IsKept : List ℕ → List ℕ → ℕ → Type 0
IsKept before after size = (size ≡ 0) × (after ≡ before)

-- Nothing is put, and the status is that of this refusal.
abbrev pub IsRefused : CallError → List ℕ → List ℕ → ℕ → ℕ → Type 0
IsRefused refusal before after size status = (status ≡ refusal_status refusal) × (1 < status) × IsKept before after size

-- Either some octets that are right are put; or none are, for a reason that the status names.
abbrev pub IsAnswered : (List ℕ → Type 0) → (ℕ → Type 0) → List ℕ → List ℕ → ℕ → ℕ → Type 0
IsAnswered is_right refuses before after size status =
    ((octets : List ℕ) × is_right octets × IsPut octets before after size status)
    ⊎ ((1 < status) × refuses status × IsKept before after size)

-- Octets are put, or none are, whatever they are and for whatever reason.
abbrev pub IsHandedOut : List ℕ → List ℕ → ℕ → ℕ → Type 0
IsHandedOut before after size status = IsAnswered (λ octets. Unit {0}) (λ reason. Unit {0}) before after size status
