use Rattle.krb_crypto_block.proofs.DesPlaces.{first_exchanges}
use Rattle.krb_crypto_block.proofs.des.permutation.permute_first.Goals as goal

pub returns : goal.returns
returns c =
    first_exchanges c.args.block c.exchange-fours.result c.exchange-halves.result c.exchange-twos.result c.exchange-octets.result c.exchange.result
    c.exchange-fours.ensures c.exchange-halves.ensures c.exchange-twos.ensures c.exchange-octets.ensures c.exchange.ensures
