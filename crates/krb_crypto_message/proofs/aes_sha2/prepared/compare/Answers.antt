use Rattle.std.proofs.Common.{◌≡◌, ◌++◌, ◌-◌, ℕ, List, length, take, drop, ap, sym, replicate, ◌∙◌}
use Rattle.std.proofs.lemmas.Result.{IfOk-weaker}
use Rattle.krb_crypto_message.specs.AesSha2.{sha2_mac, sha2_checksum_octets}
use Rattle.krb_crypto_message.specs.KeyedHash.{size_of, key_of}
use Rattle.krb_crypto_message.proofs.aes_sha2.prepared.compare.Goals as goal

pub returns-clause-alike : goal.returns-clause-alike
returns-clause-alike c =
    let octets : List ℕ = c.args.cipher_data.now in
    let size = size_of c.args.ki.now in
    let ki : List ℕ = key_of c.args.ki.now in
    let cut : c.checksum_size.result ≡ sha2_checksum_octets size = c.checksum_size.ensures ∙ ap sha2_checksum_octets c.size.ensures in
    let back : c.split_at.result.1.now ≡ drop (length octets - sha2_checksum_octets size) octets = rw cut at c.split_at.ensures.back in
    let front : c.split_at.result.0.now ≡ take (length octets - sha2_checksum_octets size) octets = rw cut at c.split_at.ensures.front in
    IfOk-weaker c.compared.result _ _ (λ x same. sym back ∙ same ∙ c.as_slice.ensures ∙ c.mac.ensures.mac ∙ ap (λ (f : List ℕ). sha2_mac size ki (replicate 16 0 ++ f)) front) c.compared.ensures.equal
