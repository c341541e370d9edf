use Rattle.std.proofs.Common.{◌≡◌, ◌+◌, [], length, refl, ap, arith}
use Rattle.std.proofs.lemmas.Result.{err_from_is_err_and}
use Rattle.krb_negoex.specs.Whole.{one_reading, written_length}
use Rattle.krb_negoex.specs.Wire.{exchange_layout}
use Rattle.krb_negoex.specs.declared.header.MessageHeader.{MessageHeader}
use Rattle.krb_negoex.specs.declared.exchange.Exchange.{Exchange}
use Rattle.krb_negoex.proofs.Steps.{octets_size}
use Rattle.krb_negoex.proofs.exchange.Exchange.new.Goals as goal

pub returns-in_err-header-clause-err : goal.returns-in_err-header-clause-err
returns-in_err-header-clause-err c =
    let p = err_from_is_err_and c.from_residual.result c.from_residual.ensures.1 in
    let long = octets_size c.args.exchange.items in
    rw (p.1, p.2) (c.in_err-header.ensures.err.0, omega (arith, c.in_err-header.ensures.err.1))

pub returns-clause-ok : goal.returns-clause-ok
returns-clause-ok c =
    let h = c.in_ok-header.ensures.ok in
    let long = octets_size c.args.exchange.items in
    let size : c.saturating_add-size.result ≡ 64 + length c.args.exchange.items = omega (arith, h.1) in
    rw (h.0, size)

pub returns-clause-one : goal.returns-clause-one
returns-clause-one c =
    let h = c.in_ok-header.ensures.ok in
    let v : Exchange = record { header = c.in_ok-header.header; auth_scheme = c.args.auth_scheme; exchange = c.args.exchange } in
    one_reading exchange_layout 64 [] v (h.2, (c.size-known.ensures.known, c.size.ensures.known)) (exchange_layout.fits 64 v (omega (arith, h.1))) refl

pub returns-clause-length : goal.returns-clause-length
returns-clause-length c =
    let h = c.in_ok-header.ensures.ok in
    let long = octets_size c.args.exchange.items in
    let v : Exchange = record { header = c.in_ok-header.header; auth_scheme = c.args.auth_scheme; exchange = c.args.exchange } in
    let e = written_length exchange_layout 64 [] v refl in
    let m : c.in_ok-header.header.message_len ≡ c.saturating_add-size.result = ap (λ (x : MessageHeader). x.message_len) h.0 in
    let size : c.saturating_add-size.result ≡ 64 + length c.args.exchange.items = omega (arith, h.1) in
    omega arith
