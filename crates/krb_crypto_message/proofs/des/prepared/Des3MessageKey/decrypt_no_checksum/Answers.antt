use Rattle.std.proofs.Common.{inl, inr}
use Rattle.std.proofs.lemmas.Result.{err_from_is_err_and, IfOk-weaker}
use Rattle.krb_crypto_message.proofs.Opening.{splits, none_split}
use Rattle.krb_crypto_message.proofs.Messages.{des3_scheme, des3_unshaped}
use Rattle.krb_crypto_message.proofs.des.prepared.Des3MessageKey.decrypt_no_checksum.Goals as goal

pub returns-in_err-padded-clause-rejected : goal.returns-in_err-padded-clause-rejected
returns-in_err-padded-clause-rejected c =
    let k = c.args.self.now in
    let bytes = c.args.cipher_data.now in
    let p = err_from_is_err_and c.from_residual.result c.from_residual.ensures.1 in
    rw (p.1, p.2)
    (elim c.in_err-padded.ensures.exact [
      | inl memory ↦ inl memory
      | inr other ↦ inr (none_split (des3_scheme k.ke k.ki) bytes (des3_unshaped bytes _ other))
    ])

pub returns-clause-opened : goal.returns-clause-opened
returns-clause-opened c =
    let k = c.args.self.now in
    let bytes = c.args.cipher_data.now in
    IfOk-weaker c.unchecked.result _ _ (λ split is. splits (des3_scheme k.ke k.ki) bytes c.in_ok-padded.padded.items k.ki split.confounder.items split.plaintext.items split.checksum.items c.in_ok-padded.ensures.decrypted is) c.unchecked.ensures.parts
