-- Texts of ASCII.
use Rattle.std.proofs.Common.{◌≡◌, ℕ, zero, suc, Bool, true, false, ◌&&◌, nat_lt, List, [], ◌∷◌, refl, arith}
use Rattle.std.proofs.lemmas.Bool.{ltb-true}
use Rattle.std.specs.Str.{IsAscii}
use Rattle.krb_accept.specs.Keytab.{is_text}

both : (a b : Bool) → (a && b) ≡ true → (a ≡ true) × (b ≡ true)
both true true h = (refl, refl)
both true false h = absurd cc
both false b h = absurd cc

pub ascii : (octets : List ℕ) → is_text octets ≡ true → IsAscii octets
ascii [] h i = omega arith
ascii (x ∷ xs) h zero = ltb-true x 128 (both (nat_lt x 128) (is_text xs) h).0
ascii (x ∷ xs) h (suc i) = ascii xs (both (nat_lt x 128) (is_text xs) h).1 i
