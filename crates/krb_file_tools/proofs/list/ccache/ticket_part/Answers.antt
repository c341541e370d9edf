use Rattle.std.proofs.Common.{◌∙◌, ℕ, ap, subst, codes}
use Rattle.krb_files.specs.Ccache.{TypedPrincipal}
use Rattle.krb_files.specs.declared.ccache.credential.Times.{Times}
use Rattle.krb_files.specs.FieldReading.{Principal}
use Rattle.krb_file_tools.specs.Lines.{start_of}
use Rattle.krb_file_tools.specs.Principals.{principal_text}
use Rattle.krb_file_tools.specs.Texts.{IsTimeText}
use Rattle.krb_file_tools.proofs.Pieces.{ticket_pieces}
use Rattle.krb_file_tools.proofs.list.ccache.ticket_part.Goals as goal

pub returns-clause-part : goal.returns-clause-part
returns-clause-part c = record {
  start = c.in_ok-start.start.items;
  expiry = c.in_ok-expiry.expiry.items;
  start_is = subst (λ (n : ℕ). IsTimeText n c.in_ok-start.start.items) (c.start_of.ensures ∙ ap (λ (t : Times). start_of t) c.times-times.ensures) c.in_ok-start.ensures.text;
  expiry_is = subst (λ (t : Times). IsTimeText t.endtime c.in_ok-expiry.expiry.items) c.times-times.ensures c.in_ok-expiry.ensures.text;
  is = ticket_pieces c.in_ok-part.part.items c.as_slice.result.now (codes "  ") c.as_slice-2.result.now (codes "  ") c.as_slice-3.result.now
      c.in_ok-start.start.items c.in_ok-expiry.expiry.items (principal_text c.args.credential.now.server.principal) c.in_ok-part.ensures
      c.as_slice.ensures.value c.as_slice-2.ensures.value
      (c.as_slice-3.ensures.value ∙ c.in_ok-server.ensures.text ∙ ap (λ (p : Principal). principal_text p) (c.principal.ensures ∙ ap (λ (p : TypedPrincipal). p.principal) c.server.ensures));
}
