use Rattle.std.proofs.Common.{◌∙◌}
use Rattle.krb_crypto_block.specs.AesLanes.{linear_of, inverse_linear}
use Rattle.krb_crypto_block.specs.declared.aes.tables.TheConstants.{INVERSE_LINEAR_LOW, INVERSE_LINEAR_HIGH}
use Rattle.krb_crypto_block.proofs.AesVectors.{map_same}
use Rattle.krb_crypto_block.proofs.AesInverseForm.{inverse_linear_table}
use Rattle.krb_crypto_block.proofs.aes.inverse_rounds.to_inverse_linear.Goals as goal

pub returns : goal.returns
returns c = c.linear.ensures ∙ map_same (linear_of INVERSE_LINEAR_LOW INVERSE_LINEAR_HIGH) inverse_linear c.args.x c.fits-x.1 inverse_linear_table
