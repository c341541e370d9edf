use Rattle.std.proofs.Common.{◌∙◌, ap}
use Rattle.std.proofs.lemmas.List.{append-nil}
use Rattle.krb_crypto_hash.specs.Hmac.{hmac_over}
use Rattle.krb_crypto_hash.proofs.hmac.digest_of.Goals as goal

pub returns : goal.returns
returns g c = c.mac.ensures c.args.key.now c.keyed-inner.ensures ∙ ap (hmac_over g.H.HashFunction.hash g.row.BLOCK c.args.key.now) (append-nil c.args.payload.now)
