use Rattle.std.proofs.Common.{◌∙◌, ap, subst}
use Rattle.std.proofs.lemmas.Result.{err_from_is_err_and}
use Rattle.krb_files.specs.declared.ccache.credential.Times.{Times}
use Rattle.krb_der_core.specs.BitString.{Bits}
use Rattle.std.specs.Prelude.{Some}
use Rattle.krb_types.specs.declared.data_types.encryption.EncryptionKey.{EncryptionKey}
use Rattle.krb_file_tools.specs.Message.{AreTimesOf}
use Rattle.krb_file_tools.proofs.Infos.{names_broken, times_broken}
use Rattle.krb_file_tools.proofs.convert.message.info_of.Goals as goal

pub returns-in_err-names-clause-rejected : goal.returns-in_err-names-clause-rejected
returns-in_err-names-clause-rejected c =
    let p = err_from_is_err_and c.from_residual.result c.from_residual.ensures.1 in
    rw (p.1, p.2) (names_broken c.args.credential.now c.in_err-names.field-0.0 c.in_err-names.ensures)

pub returns-in-Err-clause-rejected : goal.returns-in-Err-clause-rejected
returns-in-Err-clause-rejected c =
    times_broken c.args.credential.now (c.in_ok-names.names.client, c.in_ok-names.names.server) c.times.result c.in-Err.error c.times.ensures c.in_ok-names.ensures c.in-Err.ensures.rejected

pub returns-in-Ok-times_of-clause-found : goal.returns-in-Ok-times_of-clause-found
returns-in-Ok-times_of-clause-found c = record {
  names = (c.in_ok-names.names.client, c.in_ok-names.names.server);
  named = c.in_ok-names.ensures;
  prealm = c.field.ensures;
  pname = c.field-in-Ok-times_of.ensures;
  srealm = c.field-in-Ok-times_of-3.ensures;
  sname = c.field-in-Ok-times_of-4.ensures;
  keytype = ap (λ (k : EncryptionKey). k.key_type) c.from.ensures ∙ c.in-Ok.ensures.keytype;
  keyvalue = ap (λ (k : EncryptionKey). k.key_value) c.from.ensures ∙ c.in-Ok.ensures.keyvalue;
  flags = c.field-in-Ok-times_of-2.ensures ∙ ap (λ (b : Bits). Some b) c.in-Ok.ensures.flags;
  times = subst (λ (t : Times). AreTimesOf t c.in-Ok-times_of.times.auth_time.0 c.in-Ok-times_of.times.start_time.0 c.in-Ok-times_of.times.end_time.0 c.in-Ok-times_of.times.renew_till.0)
      c.times.ensures c.in-Ok-times_of.ensures.found;
  caddr = c.field-in-Ok-times_of-5.ensures ∙ c.in-Ok.ensures.caddr;
}
