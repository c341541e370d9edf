-- What octets begin as: their tag (RFC 4120, 5.10; X.690, 8.1.2).
use Rattle.std.specs.Prelude.{◌≡◌, ℕ, List, [], ◌∷◌}
use Rattle.krb_client.specs.declared.kind.Kind.{Kind}
use Rattle.krb_client.specs.declared.kind.Kind.TheVariants as kinds

-- the first octet is this one
abbrev pub BeginsWith : ℕ → List ℕ → Type 0
BeginsWith tag [] = ⊥
BeginsWith tag (octet ∷ rest) = octet ≡ tag

-- AS-REP is application 11, TGS-REP 13 and KRB-ERROR 30, all constructed
abbrev pub as_rep_tag : ℕ
as_rep_tag = 0x6b

abbrev pub tgs_rep_tag : ℕ
tgs_rep_tag = 0x6d

abbrev pub krb_error_tag : ℕ
krb_error_tag = 0x7e

-- the octets begin as the reply, else as a KRB-ERROR, else as neither
abbrev pub IsKind : List ℕ → ℕ → Kind → Type 0
IsKind octets reply kinds.Reply = BeginsWith reply octets
IsKind octets reply kinds.Error = (BeginsWith reply octets → ⊥) × BeginsWith krb_error_tag octets
IsKind octets reply kinds.Other = (BeginsWith reply octets → ⊥) × (BeginsWith krb_error_tag octets → ⊥)
