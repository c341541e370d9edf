-- The Wrap token (RFC 4121, 4.2.6.2).
use Rattle.std.specs.Prelude.{◌≡◌, Bool, nat_eq, ℕ, ◌<◌, ◌^◌, List, ◌++◌, Option, None}
use Rattle.std.specs.Cmp.Lexicographic.{pointwise}
use Rattle.std.specs.Option.{option_eq}
use Rattle.std.specs.Ordering.{on, eq_of_both}
use Rattle.krb_gss_tokens.specs.Layout.{wrap_header}

-- what a contract sees of a token: its vectors as the lists of their octets
pub record Wrap : Type 0 where
  pub flags : ℕ
  pub ec : ℕ
  pub rrc : ℕ
  pub seq_num : ℕ
  pub payload : Option (List ℕ)
  pub checksum : List ℕ

-- the octets of a token: its header, and after it the data (RFC 4121, 4.2.6.2). The payload is no part of them.
abbrev pub wrap : Wrap → List ℕ
wrap t = wrap_header t.flags t.ec t.rrc t.seq_num ++ t.checksum

-- the octets are this token: they are its encoding, and its payload is not known from them
abbrev pub WrapIs : List ℕ → Wrap → Type 0
WrapIs octets t = (octets ≡ wrap t) × (t.payload ≡ None)

-- the numbers of a token fit their fields
abbrev pub FitsWrap : Wrap → Type 0
FitsWrap t = (t.ec < 2 ^ 16) × (t.rrc < 2 ^ 16) × (t.seq_num < 2 ^ 64)

-- whether two tokens are equal, field by field
abbrev pub same_wrap : Wrap → Wrap → Bool
same_wrap = eq_of_both (on (λ (t : Wrap). t.flags) nat_eq)
    (eq_of_both (eq_of_both (on (λ (t : Wrap). t.ec) nat_eq) (on (λ (t : Wrap). t.rrc) nat_eq))
    (eq_of_both (on (λ (t : Wrap). t.seq_num) nat_eq)
    (eq_of_both (on (λ (t : Wrap). t.payload) (option_eq (pointwise nat_eq))) (on (λ (t : Wrap). t.checksum) (pointwise nat_eq)))))
