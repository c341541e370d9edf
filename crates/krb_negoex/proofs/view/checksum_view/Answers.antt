use Rattle.std.proofs.lemmas.Result.{err_from_is_err_and}
use Rattle.krb_negoex.specs.Layouts.{followed}
use Rattle.krb_negoex.specs.Wire.{byte_vector, four_octets, scheme_layout}
use Rattle.krb_negoex.proofs.Viewed.{then_rejected}
use Rattle.krb_negoex.proofs.view.checksum_view.Goals as goal

pub returns-in_err-checksum_value-clause-rejected : goal.returns-in_err-checksum_value-clause-rejected
returns-in_err-checksum_value-clause-rejected c =
    let p = err_from_is_err_and c.from_residual-in_err-checksum_value.result c.from_residual-in_err-checksum_value.ensures.1 in
    let m = c.args.message.now in
    rw (p.1, p.2) (then_rejected four_octets (followed scheme_layout (followed four_octets byte_vector)) c.args.octets.now c.in_ok-header_len.trailing.now m c.in_ok-header_len.header_len c.in_err-checksum_value.field-0.0
    (record { room = c.in_ok-header_len.ensures.number.0; value = c.in_ok-header_len.ensures.number.1 }) c.in_ok-header_len.ensures.trailing
    (then_rejected scheme_layout (followed four_octets byte_vector) c.in_ok-header_len.trailing.now c.in-Ok.read.1.now m c.in-Ok.read.0.0 c.in_err-checksum_value.field-0.0 c.in-Ok.ensures.found c.in-Ok.ensures.trailing
    (then_rejected four_octets byte_vector c.in-Ok.read.1.now c.in_ok-checksum_type.trailing.now m c.in_ok-checksum_type.checksum_type c.in_err-checksum_value.field-0.0
    (record { room = c.in_ok-checksum_type.ensures.number.0; value = c.in_ok-checksum_type.ensures.number.1 }) c.in_ok-checksum_type.ensures.trailing c.in_err-checksum_value.ensures.rejected)))
