use Rattle.std.proofs.Common.{◌∙◌}
use Rattle.krb_crypto_block.specs.AesLanes.{linear_of, tower}
use Rattle.krb_crypto_block.specs.declared.aes.tables.TheConstants.{TO_LOW, TO_HIGH}
use Rattle.krb_crypto_block.proofs.AesVectors.{map_same}
use Rattle.krb_crypto_block.proofs.AesTower.{tower_table}
use Rattle.krb_crypto_block.proofs.aes.rounds.to_tower.Goals as goal

pub returns : goal.returns
returns c = c.linear.ensures ∙ map_same (linear_of TO_LOW TO_HIGH) tower c.args.x c.fits-x.1 tower_table
