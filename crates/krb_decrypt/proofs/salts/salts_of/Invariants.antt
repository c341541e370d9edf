use Rattle.std.proofs.Common.{◌≡◌, ◌≤◌, ◌++◌, length, map, take}
use Rattle.krb_decrypt.specs.Salts.{salts_in, salts_of}
use Rattle.krb_decrypt.proofs.salts.salts_of.Given as goal

abbrev pub invariant-tokens : goal.invariant-tokens
invariant-tokens l = (take 16 (map (λ s. s.items) l.salts.items ++ salts_in l.rest) ≡ salts_of l.page) × (length l.salts.items ≤ 16)

abbrev pub decreases-tokens : goal.decreases-tokens
decreases-tokens l = length l.rest
