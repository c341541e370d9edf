use Rattle.std.proofs.Common.{◌∙◌, ℕ, ap, subst, rules}
use Rattle.krb_files.specs.Ccache.{TypedPrincipal}
use Rattle.krb_files.specs.declared.ccache.credential.Times.{Times}
use Rattle.krb_files.specs.FieldReading.{Principal}
use Rattle.krb_file_tools.specs.Lines.{IsRenewPart, client_part, flags_part}
use Rattle.krb_file_tools.specs.Principals.{principal_text}
use Rattle.krb_file_tools.specs.Texts.{flag_letters}
use Rattle.krb_file_tools.proofs.Pieces.{added_pieces}
use Rattle.krb_file_tools.proofs.list.ccache.added_part.Goals as goal

pub returns-clause-part : goal.returns-clause-part
returns-clause-part g c = record {
  renewal = c.in_ok-renewal.renewal.items;
  etypes = c.in_ok-etypes.etypes.items;
  renewal_is = subst (λ (t : Times). IsRenewPart t.renew_till c.in_ok-renewal.renewal.items) c.times.ensures c.in_ok-renewal.ensures.part;
  etypes_is = search rules;
  is = added_pieces c.in_ok-part.part.items c.as_slice.result.now c.as_slice-2.result.now c.as_slice-3.result.now c.as_slice-4.result.now
      (client_part c.args.own.now (principal_text c.args.credential.now.client.principal)) c.in_ok-renewal.renewal.items (flags_part (flag_letters c.args.credential.now.flags))
      c.in_ok-etypes.etypes.items c.in_ok-part.ensures
      (c.as_slice.ensures.value ∙ c.in_ok-client.ensures.part
      ∙ ap (λ (p : Principal). client_part c.args.own.now (principal_text p)) (c.principal.ensures ∙ ap (λ (p : TypedPrincipal). p.principal) c.client.ensures))
      c.as_slice-2.ensures.value
      (c.as_slice-3.ensures.value ∙ c.in_ok-flags.ensures.part ∙ ap (λ (n : ℕ). flags_part (flag_letters n)) c.flags.ensures)
      c.as_slice-4.ensures.value;
}
