use Rattle.krb_crypto_aes_tables.proofs.InverseKeys.{AreUnmixed}
use Rattle.krb_crypto_aes_tables.proofs.key_expansion.invert.Given as goal

abbrev pub invariant-unmix : goal.invariant-unmix
invariant-unmix l = AreUnmixed l.words l.inverted l.i
