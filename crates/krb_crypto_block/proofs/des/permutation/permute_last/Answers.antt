use Rattle.krb_crypto_block.proofs.DesPlaces.{last_exchanges}
use Rattle.krb_crypto_block.proofs.des.permutation.permute_last.Goals as goal

pub returns : goal.returns
returns c =
    last_exchanges c.args.block c.exchange-ones.result c.exchange-octets.result c.exchange-twos.result c.exchange-halves.result c.exchange.result
    c.exchange-ones.ensures c.exchange-octets.ensures c.exchange-twos.ensures c.exchange-halves.ensures c.exchange.ensures
