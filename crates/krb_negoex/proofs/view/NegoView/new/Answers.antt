use Rattle.std.proofs.Common.{inl}
use Rattle.std.proofs.lemmas.Result.{err_from_is_err_and}
use Rattle.krb_negoex.specs.GuidLayout.{guid}
use Rattle.krb_negoex.specs.Layouts.{followed, vector}
use Rattle.krb_negoex.specs.View.{extension_view_layout}
use Rattle.krb_negoex.specs.Wire.{header_layout, random_layout, eight_octets}
use Rattle.krb_negoex.proofs.Viewed.{then_rejected}
use Rattle.krb_negoex.proofs.view.NegoView.new.Goals as goal

pub returns-in_err-auth_schemes-clause-rejected : goal.returns-in_err-auth_schemes-clause-rejected
returns-in_err-auth_schemes-clause-rejected c =
    let p = err_from_is_err_and c.from_residual-in_err-auth_schemes.result c.from_residual-in_err-auth_schemes.ensures.1 in
    let m = c.args.octets.now in
    rw (p.1, p.2) (then_rejected header_layout (followed random_layout (followed eight_octets (followed (vector guid) (vector extension_view_layout)))) m c.in-Ok.read.1.now m c.in-Ok.read.0
    c.in_err-auth_schemes.field-0.0 c.in-Ok.ensures.found c.in-Ok.ensures.trailing
    (then_rejected random_layout (followed eight_octets (followed (vector guid) (vector extension_view_layout))) c.in-Ok.read.1.now c.in-Ok-fixed_prefix.read.1.now m c.in-Ok-fixed_prefix.read.0
    c.in_err-auth_schemes.field-0.0 c.in-Ok-fixed_prefix.ensures.found c.in-Ok-fixed_prefix.ensures.trailing
    (then_rejected eight_octets (followed (vector guid) (vector extension_view_layout)) c.in-Ok-fixed_prefix.read.1.now c.in_ok-protocol_version.trailing.now m c.in_ok-protocol_version.protocol_version
    c.in_err-auth_schemes.field-0.0 (record { room = c.in_ok-protocol_version.ensures.number.0; value = c.in_ok-protocol_version.ensures.number.1 }) c.in_ok-protocol_version.ensures.trailing
    (inl c.in_err-auth_schemes.ensures.rejected))))

pub returns-in_err-extensions-clause-rejected : goal.returns-in_err-extensions-clause-rejected
returns-in_err-extensions-clause-rejected c =
    let p = err_from_is_err_and c.from_residual-in_err-extensions.result c.from_residual-in_err-extensions.ensures.1 in
    let m = c.args.octets.now in
    rw (p.1, p.2) (then_rejected header_layout (followed random_layout (followed eight_octets (followed (vector guid) (vector extension_view_layout)))) m c.in-Ok.read.1.now m c.in-Ok.read.0
    c.in_err-extensions.field-0.0 c.in-Ok.ensures.found c.in-Ok.ensures.trailing
    (then_rejected random_layout (followed eight_octets (followed (vector guid) (vector extension_view_layout))) c.in-Ok.read.1.now c.in-Ok-fixed_prefix.read.1.now m c.in-Ok-fixed_prefix.read.0
    c.in_err-extensions.field-0.0 c.in-Ok-fixed_prefix.ensures.found c.in-Ok-fixed_prefix.ensures.trailing
    (then_rejected eight_octets (followed (vector guid) (vector extension_view_layout)) c.in-Ok-fixed_prefix.read.1.now c.in_ok-protocol_version.trailing.now m c.in_ok-protocol_version.protocol_version
    c.in_err-extensions.field-0.0 (record { room = c.in_ok-protocol_version.ensures.number.0; value = c.in_ok-protocol_version.ensures.number.1 }) c.in_ok-protocol_version.ensures.trailing
    (then_rejected (vector guid) (vector extension_view_layout) c.in_ok-protocol_version.trailing.now c.octets_from.result.now m c.in_ok-auth_schemes.auth_schemes c.in_err-extensions.field-0.0
    c.in_ok-auth_schemes.ensures.found c.octets_from.ensures c.in_err-extensions.ensures.rejected))))
