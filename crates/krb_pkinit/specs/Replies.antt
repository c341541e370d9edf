-- The choice in the reply of a KDC to a client with a certificate (RFC 4556, 3.2.3).
use Rattle.std.proofs.Common.{arith, inl, inr}
use Rattle.std.specs.Prelude.{◌≡◌, List, ℕ, ◌⊎◌}
use Rattle.krb_pkinit.specs.declared.pkinit.replies.DhRepInfo.{DhRepInfo}
use Rattle.krb_pkinit.specs.declared.pkinit.answers.PaPkAsRep.{PaPkAsRep}
use Rattle.krb_pkinit.specs.declared.pkinit.answers.PaPkAsRep.TheVariants.{DhInfo, EncKeyPack}

-- what it holds: the public key of the KDC, or the octets of an encrypted key
abbrev pub held : PaPkAsRep → DhRepInfo ⊎ List ℕ
held (DhInfo v) = inl v
held (EncKeyPack v) = inr v

-- which decides it
pub held_decides : (v w : PaPkAsRep) → held v ≡ held w → v ≡ w
held_decides (DhInfo v) (DhInfo w) e = cc
held_decides (DhInfo v) (EncKeyPack w) e = absurd cc
held_decides (EncKeyPack v) (DhInfo w) e = absurd cc
held_decides (EncKeyPack v) (EncKeyPack w) e = cc

-- its first octets differ
pub tags_apart : ◌≡◌ {A = ℕ} 160 129 → ⊥
tags_apart e = omega (arith, e)
