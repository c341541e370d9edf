-- What is known of octets whose frame says that it holds this.
use Rattle.std.specs.Prelude.{◌≡◌, ℕ, List}
use Rattle.krb_show_tokens.specs.declared.heads.Head.{Head}
use Rattle.krb_show_tokens.specs.declared.heads.Head.TheVariants as heads
use Rattle.krb_show_tokens.specs.Frames.{HasId, HasNone, IsNegotiation}

-- the frame says nothing else
abbrev pub IsHead : List ℕ → Head → Type 0
IsHead octets heads.Negotiation = ((first second : ℕ) → HasId first second octets → ⊥) × (HasNone octets → ⊥)
IsHead octets (heads.Kerberos first second) =
    (IsNegotiation octets → ⊥) × ((a b : ℕ) → HasId a b octets → (first ≡ a) × (second ≡ b)) × (HasNone octets → ⊥)
IsHead octets heads.Unknown = (IsNegotiation octets → ⊥) × ((first second : ℕ) → HasId first second octets → ⊥)
