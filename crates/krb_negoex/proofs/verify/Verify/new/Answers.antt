use Rattle.std.proofs.Common.{◌≡◌, ◌+◌, length, refl, ap, lit<, arith}
use Rattle.std.proofs.lemmas.Result.{err_from_is_err_and}
use Rattle.krb_negoex.specs.Whole.{four_zeros, one_reading, written_length}
use Rattle.krb_negoex.specs.Wire.{verify_layout}
use Rattle.krb_negoex.specs.declared.header.MessageHeader.{MessageHeader}
use Rattle.krb_negoex.specs.declared.verify.Verify.{Verify}
use Rattle.krb_negoex.proofs.Steps.{octets_size}
use Rattle.krb_negoex.proofs.verify.Verify.new.Goals as goal

pub returns-in_err-header-clause-err : goal.returns-in_err-header-clause-err
returns-in_err-header-clause-err c =
    let p = err_from_is_err_and c.from_residual.result c.from_residual.ensures.1 in
    let long = octets_size c.args.checksum_value.items in
    rw (p.1, p.2) (c.in_err-header.ensures.err.0, omega (arith, c.in_err-header.ensures.err.1))

pub returns-clause-ok : goal.returns-clause-ok
returns-clause-ok c =
    let h = c.in_ok-header.ensures.ok in
    let long = octets_size c.args.checksum_value.items in
    let size : c.saturating_add-size.result ≡ 80 + length c.args.checksum_value.items = omega (arith, h.1) in
    rw (h.0, size)

pub returns-clause-one : goal.returns-clause-one
returns-clause-one c =
    let h = c.in_ok-header.ensures.ok in
    let v : Verify = record {
      header = c.in_ok-header.header;
      auth_scheme = c.args.auth_scheme;
      checksum = record { header_len = 20; checksum_scheme = 1; checksum_type = c.args.checksum_type; checksum_value = c.args.checksum_value };
    } in
    one_reading verify_layout 80 four_zeros v (h.2, (c.size-known.ensures.known, (lit< tt, ((refl, lit< tt), (omega arith, c.size.ensures.known))))) (verify_layout.fits 80 v (omega (arith, h.1))) refl

pub returns-clause-length : goal.returns-clause-length
returns-clause-length c =
    let h = c.in_ok-header.ensures.ok in
    let long = octets_size c.args.checksum_value.items in
    let v : Verify = record {
      header = c.in_ok-header.header;
      auth_scheme = c.args.auth_scheme;
      checksum = record { header_len = 20; checksum_scheme = 1; checksum_type = c.args.checksum_type; checksum_value = c.args.checksum_value };
    } in
    let e = written_length verify_layout 80 four_zeros v refl in
    let m : c.in_ok-header.header.message_len ≡ c.saturating_add-size.result = ap (λ (x : MessageHeader). x.message_len) h.0 in
    let size : c.saturating_add-size.result ≡ 80 + length c.args.checksum_value.items = omega (arith, h.1) in
    omega arith
