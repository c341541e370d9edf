use Rattle.std.proofs.lemmas.Result.{err_from_is_err_and}
use Rattle.krb_negoex.specs.GuidLayout.{guid}
use Rattle.krb_negoex.specs.Layouts.{followed}
use Rattle.krb_negoex.specs.View.{checksum_view_layout}
use Rattle.krb_negoex.specs.Wire.{header_layout}
use Rattle.krb_negoex.proofs.Viewed.{then_rejected}
use Rattle.krb_negoex.proofs.view.VerifyView.new.Goals as goal

pub returns-in_err-checksum-clause-rejected : goal.returns-in_err-checksum-clause-rejected
returns-in_err-checksum-clause-rejected c =
    let p = err_from_is_err_and c.from_residual.result c.from_residual.ensures.1 in
    let m = c.args.octets.now in
    rw (p.1, p.2) (then_rejected header_layout (followed guid checksum_view_layout) m c.in-Ok.read.1.now m c.in-Ok.read.0 c.in_err-checksum.field-0.0 c.in-Ok.ensures.found c.in-Ok.ensures.trailing
    (then_rejected guid checksum_view_layout c.in-Ok.read.1.now c.in-Ok-fixed_prefix.read.1.now m c.in-Ok-fixed_prefix.read.0 c.in_err-checksum.field-0.0 c.in-Ok-fixed_prefix.ensures.found
    c.in-Ok-fixed_prefix.ensures.trailing c.in_err-checksum.ensures.rejected))
