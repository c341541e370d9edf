use Rattle.std.proofs.Common.{refl, ℕ}
use Rattle.krb_build.specs.Flags.{octet}
use Rattle.krb_build.proofs.flags.octet.Goals as goal

pub returns : goal.returns
unfolding octet
returns c = rw (c.bit.ensures, c.bit-2.ensures, c.bit-3.ensures, c.bit-4.ensures, c.bit-5.ensures, c.bit-6.ensures, c.bit-7.ensures, c.bit-8.ensures) (refl {A = ℕ})
