use Rattle.std.proofs.Common.{◌≡◌, ◌+◌, [], length, refl, ap, lit<, arith, rules}
use Rattle.krb_negoex.specs.Whole.{one_reading, written_length}
use Rattle.krb_negoex.specs.Wire.{nego_layout, schemes_layout, extensions_layout}
use Rattle.krb_negoex.specs.declared.header.MessageHeader.{MessageHeader}
use Rattle.krb_negoex.specs.declared.nego.Nego.{Nego}
use Rattle.krb_negoex.proofs.nego.Nego.new.Goals as goal

pub returns-clause-one : goal.returns-clause-one
returns-clause-one c =
    let h = c.in_ok-header.ensures.ok in
    let v : Nego = record { header = c.in_ok-header.header; random = c.args.random; protocol_version = 0; auth_schemes = c.args.auth_schemes; extensions = c.args.extensions } in
    let random : length c.args.random ≡ 32 = search rules in
    one_reading nego_layout 96 [] v (h.2, (random, (lit< tt, (c.size.ensures.known, c.size-2.ensures.known)))) (nego_layout.fits 96 v (omega (arith, h.1))) refl

pub returns-clause-length : goal.returns-clause-length
returns-clause-length c =
    let h = c.in_ok-header.ensures.ok in
    let v : Nego = record { header = c.in_ok-header.header; random = c.args.random; protocol_version = 0; auth_schemes = c.args.auth_schemes; extensions = c.args.extensions } in
    let e = written_length nego_layout 96 [] v refl in
    let m : c.in_ok-header.header.message_len ≡ c.saturating_add-size.result = ap (λ (x : MessageHeader). x.message_len) h.0 in
    let size : c.saturating_add-size.result ≡ 96 + (schemes_layout.payload_size c.args.auth_schemes + extensions_layout.payload_size c.args.extensions) = omega (arith, h.1) in
    omega arith
