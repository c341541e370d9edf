use Rattle.std.proofs.Common.{List, ℕ, slice_index}
use Rattle.krb_crypto_message.specs.RandomToKey.{stretched}
use Rattle.krb_crypto_message.proofs.DesParts.{upper_bits-low_octet}
use Rattle.krb_crypto_message.proofs.des.key_of_seed.stretched.Goals as goal

pub returns : goal.returns
unfolding stretched
returns c =
    let x : List ℕ = c.args.octets.now in
    let low = upper_bits-low_octet (slice_index x 0) (slice_index x 1) (slice_index x 2) (slice_index x 3) (slice_index x 4) (slice_index x 5) (slice_index x 6) in
    cc
