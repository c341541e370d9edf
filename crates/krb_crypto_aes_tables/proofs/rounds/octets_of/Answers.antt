use Rattle.krb_crypto_block.proofs.AesStates.{state_by_octets}
use Rattle.krb_crypto_block.proofs.AesWords.{state_bytes}
use Rattle.krb_crypto_aes_tables.proofs.rounds.octets_of.Goals as goal

pub returns : goal.returns
returns c = λ st held.
    let b = state_bytes c.args.s st _ _ _ _ held c.to_be_bytes.ensures c.to_be_bytes-2.ensures c.to_be_bytes-3.ensures c.to_be_bytes-4.ensures in
    rw (b.0, b.1, b.2, b.3) (state_by_octets st held.0.0)
