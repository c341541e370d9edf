use Rattle.std.proofs.Common.{◌∙◌, ℕ, ap, codes, rules}
use Rattle.std.specs.Fmt.{decimal}
use Rattle.krb_files.specs.FieldReading.{Principal}
use Rattle.krb_file_tools.specs.Principals.{principal_text}
use Rattle.krb_file_tools.specs.Texts.{padded}
use Rattle.krb_file_tools.proofs.Pieces.{entry_pieces}
use Rattle.krb_file_tools.proofs.list.keytab.line_of_entry.Goals as goal

pub returns-clause-line : goal.returns-clause-line
returns-clause-line c = record {
  time = c.in_ok-time.time.items;
  etype = c.in_ok-etype.etype.items;
  time_is = search rules;
  etype_is = search rules;
  is = entry_pieces c.in_ok-line.line.items c.as_slice.result.now (codes " ") c.as_slice-2.result.now (codes " ") c.as_slice-3.result.now (codes " (")
      c.as_slice-4.result.now (codes ")") (padded (decimal c.args.entry.now.kvno)) c.in_ok-time.time.items (principal_text c.args.entry.now.principal)
      c.in_ok-etype.etype.items c.in_ok-line.ensures
      (c.as_slice.ensures.value ∙ c.in_ok-version.ensures.text ∙ ap (λ (n : ℕ). padded (decimal n)) c.kvno.ensures) c.as_slice-2.ensures.value
      (c.as_slice-3.ensures.value ∙ c.in_ok-principal.ensures.text ∙ ap (λ (p : Principal). principal_text p) c.principal.ensures) c.as_slice-4.ensures.value;
}
