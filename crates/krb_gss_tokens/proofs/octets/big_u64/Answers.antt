use Rattle.std.proofs.Common.{◌≡◌, ℕ, ◌<◌, length, slice_index, rules}
use Rattle.std.proofs.lemmas.Nat.{be_bytes_8}
use Rattle.krb_gss_tokens.proofs.octets.big_u64.Goals as goal

pub returns : goal.returns
returns c =
    let eight : length c.args.octets ≡ 8 = search rules in
    let octets : (i : ℕ) → slice_index c.args.octets i < 256 = search rules in
    be_bytes_8 c.args.octets c.from_be_bytes.result eight octets c.from_be_bytes.ensures
