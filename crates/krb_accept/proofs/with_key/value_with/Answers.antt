use Rattle.std.proofs.Common.{◌≡◌, pos, rules, to_z-of_z}
use Rattle.krb_crypto.specs.Suites.{etype}
use Rattle.krb_accept.proofs.WithKeys.{found_with}
use Rattle.krb_accept.proofs.with_key.value_with.Goals as goal

pub returns : goal.returns
returns g c =
    let fits = c.ranges.usage in
    let found = simp to_z-of_z at c.value_under.ensures in
    let same : c.args.sealed.now.etype ≡ c.args.key.now.key_type = search rules in
    let of_suite : c.args.key.now.key_type ≡ pos (etype c.in-Some.suite) = search rules in
    let is_key : c.octets_of-octets.result.now ≡ c.args.key.now.key_value = search rules in
    let is_cipher : c.octets_of-cipher.result.now ≡ c.args.sealed.now.cipher = search rules in
    found_with g.T.DerEncode c.args.key.now c.args.usage c.args.sealed.now c.in-Some.suite same of_suite c.octets_of-octets.result.now c.octets_of-cipher.result.now
    c.value_under.result is_key is_cipher found
