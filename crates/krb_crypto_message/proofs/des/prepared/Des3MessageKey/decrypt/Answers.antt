use Rattle.std.proofs.Common.{◌≡◌, ap, sym, ◌∙◌, inl, inr}
use Rattle.std.proofs.lemmas.Result.{err_from_is_err_and, IfOk-weaker, IfErr-weaker}
use Rattle.krb_crypto_message.proofs.Opening.{seal_opens, none_sealed, none_shaped}
use Rattle.krb_crypto_message.proofs.Messages.{des3_scheme, des3_unshaped, des3_checked}
use Rattle.krb_crypto_message.proofs.des.prepared.Des3MessageKey.decrypt.Goals as goal

pub returns-in_err-padded-clause-rejected : goal.returns-in_err-padded-clause-rejected
returns-in_err-padded-clause-rejected c =
    let k = c.args.self.now in
    let bytes = c.args.cipher_data.now in
    let p = err_from_is_err_and c.from_residual.result c.from_residual.ensures.1 in
    rw (p.1, p.2)
    (elim c.in_err-padded.ensures.exact [
      | inl memory ↦ inl memory
      | inr other ↦ inr (none_shaped (des3_scheme k.ke k.ki) bytes (des3_unshaped bytes _ other))
    ])

pub returns-clause-opened : goal.returns-clause-opened
returns-clause-opened c =
    let k = c.args.self.now in
    let bytes = c.args.cipher_data.now in
    let padded = c.in_ok-padded.padded.items in
    let ki : c.self.inside.ki ≡ k.ki = ap (λ v. v.ki) c.self.view_is in
    IfOk-weaker c.checked.result _ _ (λ payload is. rw is.1 (seal_opens (des3_scheme k.ke k.ki) bytes padded k.ki c.in_ok-padded.ensures.decrypted (rw ki at is.0))) c.checked.ensures.payload

pub returns-clause-rejected : goal.returns-clause-rejected
returns-clause-rejected c =
    let k = c.args.self.now in
    let bytes = c.args.cipher_data.now in
    let padded = c.in_ok-padded.padded.items in
    let ki : c.self.inside.ki ≡ k.ki = ap (λ v. v.ki) c.self.view_is in
    IfErr-weaker c.checked.result _ _ (λ e why. inr (none_sealed (des3_scheme k.ke k.ki) bytes padded k.ki c.in_ok-padded.ensures.decrypted (rw ki at why.0))) c.checked.ensures.rejected

pub returns-clause-exact : goal.returns-clause-exact
returns-clause-exact c =
    let k = c.args.self.now in
    let bytes = c.args.cipher_data.now in
    IfErr-weaker c.checked.result _ _ (λ e why. inr (why.1 ∙ sym (des3_checked k.ke k.ki bytes c.in_ok-padded.padded.items c.in_ok-padded.ensures.decrypted))) c.checked.ensures.rejected
