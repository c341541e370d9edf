-- The MIC token (RFC 4121, 4.2.6.1).
use Rattle.std.specs.Prelude.{◌≡◌, Bool, nat_eq, ℕ, List, ◌++◌, Option, None}
use Rattle.std.specs.Cmp.Lexicographic.{pointwise}
use Rattle.std.specs.Option.{option_eq}
use Rattle.std.specs.Ordering.{on, eq_of_both}
use Rattle.krb_gss_tokens.specs.Layout.{mic_header}

-- what a contract sees of a token: its vectors as the lists of their octets
pub record Mic : Type 0 where
  pub flags : ℕ
  pub seq_num : ℕ
  pub payload : Option (List ℕ)
  pub checksum : List ℕ

-- the octets of a token: its header, and after it the checksum (RFC 4121, 4.2.6.1). The payload is no part of them.
abbrev pub mic : Mic → List ℕ
mic t = mic_header t.flags t.seq_num ++ t.checksum

-- the octets are this token: they are its encoding, and its payload is not known from them
abbrev pub MicIs : List ℕ → Mic → Type 0
MicIs octets t = (octets ≡ mic t) × (t.payload ≡ None)

-- whether two tokens are equal, field by field
abbrev pub same_mic : Mic → Mic → Bool
same_mic = eq_of_both (on (λ (t : Mic). t.flags) nat_eq)
    (eq_of_both (on (λ (t : Mic). t.seq_num) nat_eq)
    (eq_of_both (on (λ (t : Mic). t.payload) (option_eq (pointwise nat_eq))) (on (λ (t : Mic). t.checksum) (pointwise nat_eq))))
