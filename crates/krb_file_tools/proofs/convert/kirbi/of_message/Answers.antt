use Rattle.std.proofs.Common.{◌∙◌, ap}
use Rattle.std.proofs.lemmas.Result.{IfErr-weaker, IfOk-weaker, err_from_is_err_and}
use Rattle.krb_types.specs.declared.data_types.encryption.EncryptedData.{EncryptedData}
use Rattle.krb_file_tools.proofs.Refusals.{AreNumbersOf, cache_broken, cache_found, clear_broken}
use Rattle.krb_file_tools.proofs.convert.kirbi.of_message.Goals as goal

pub returns-in_err-part-clause-rejected : goal.returns-in_err-part-clause-rejected
returns-in_err-part-clause-rejected c =
    let n : AreNumbersOf c.args.message.now c.get-pvno.result.now c.get-msg_type.result.now c.get-etype.result.now c.cipher_of-cipher.result.now = record {
      pvno_is = c.get-pvno.ensures;
      kind_is = c.get-msg_type.ensures;
      etype_is = c.get-etype.ensures ∙ ap (λ (x : EncryptedData). x.etype) c.get-sealed.ensures;
      cipher_is = c.cipher_of-cipher.ensures ∙ ap (λ (x : EncryptedData). x.cipher) c.get-sealed.ensures;
    } in
    let p = err_from_is_err_and c.from_residual.result c.from_residual.ensures.1 in
    rw (p.1, p.2) (clear_broken _ _ c.args.message.now c.get-pvno.result.now c.get-msg_type.result.now c.get-etype.result.now c.cipher_of-cipher.result.now c.in_err-part.field-0.0 n
    c.in_err-part.ensures.rejected)

pub returns-clause-found : goal.returns-clause-found
returns-clause-found c =
    let n : AreNumbersOf c.args.message.now c.get-pvno.result.now c.get-msg_type.result.now c.get-etype.result.now c.cipher_of-cipher.result.now = record {
      pvno_is = c.get-pvno.ensures;
      kind_is = c.get-msg_type.ensures;
      etype_is = c.get-etype.ensures ∙ ap (λ (x : EncryptedData). x.etype) c.get-sealed.ensures;
      cipher_is = c.cipher_of-cipher.ensures ∙ ap (λ (x : EncryptedData). x.cipher) c.get-sealed.ensures;
    } in
    IfOk-weaker c.of_part-converted.result _ _
    (λ x h. cache_found _ _ c.args.message.now c.get-pvno.result.now c.get-msg_type.result.now c.get-etype.result.now c.cipher_of-cipher.result.now c.in_ok-part.part c.get.result.now
    x.octets.items x.left_out.items n c.get.ensures c.in_ok-part.ensures.found h)
    c.of_part-converted.ensures.found

pub returns-clause-rejected : goal.returns-clause-rejected
returns-clause-rejected c =
    let n : AreNumbersOf c.args.message.now c.get-pvno.result.now c.get-msg_type.result.now c.get-etype.result.now c.cipher_of-cipher.result.now = record {
      pvno_is = c.get-pvno.ensures;
      kind_is = c.get-msg_type.ensures;
      etype_is = c.get-etype.ensures ∙ ap (λ (x : EncryptedData). x.etype) c.get-sealed.ensures;
      cipher_is = c.cipher_of-cipher.ensures ∙ ap (λ (x : EncryptedData). x.cipher) c.get-sealed.ensures;
    } in
    IfErr-weaker c.of_part-converted.result _ _
    (λ e h. cache_broken _ _ c.args.message.now c.get-pvno.result.now c.get-msg_type.result.now c.get-etype.result.now c.cipher_of-cipher.result.now c.in_ok-part.part c.get.result.now
    e n c.get.ensures c.in_ok-part.ensures.found h)
    c.of_part-converted.ensures.rejected
