use Rattle.std.proofs.Common.{◌≡◌, length, rules}
use Rattle.std.proofs.lemmas.Result.{err_from_is_err_and}
use Rattle.krb_gss_tokens.specs.Layout.{mic_id, mic_filler}
use Rattle.krb_gss_tokens.proofs.Mic.{mic_filler_read, mic_header_read, mic_read, mic_rest_rejected}
use Rattle.krb_gss_tokens.proofs.Streams.{one_octet}
use Rattle.krb_gss_tokens.proofs.mic_token.read_fields.Goals as goal

pub returns-then-ne-2-clause-rejected : goal.returns-then-ne-2-clause-rejected
returns-then-ne-2-clause-rejected g c =
    let id : c.read_exact.new.buf ≡ mic_id = search rules in
    let one : length c.read_exact-2.new.buf ≡ 1 = search rules in
    let five : length c.read_exact-3.new.buf ≡ 5 = search rules in
    let other : c.read_exact-3.new.buf ≡ mic_filler → ⊥ = search rules in
    (other, five, mic_filler_read _ _ _ _ _ _ _ _ id (one_octet c.read_exact-2.new.buf one) c.in_ok-read_exact.ensures.bytes c.in_ok-read_exact-2.ensures.bytes c.in_ok-read_exact-3.ensures.bytes)

pub returns-in_err-checksum-clause-rejected : goal.returns-in_err-checksum-clause-rejected
returns-in_err-checksum-clause-rejected g c =
    let p = err_from_is_err_and c.from_residual-in_err-checksum.result c.from_residual-in_err-checksum.ensures.1 in
    let id : c.read_exact.new.buf ≡ mic_id = search rules in
    let one : length c.read_exact-2.new.buf ≡ 1 = search rules in
    let filler : c.read_exact-3.new.buf ≡ mic_filler = search rules in
    let header = mic_header_read _ _ _ _ _ _ _ _ _ _ id (one_octet c.read_exact-2.new.buf one) filler c.in_ok-read_exact.ensures.bytes c.in_ok-read_exact-2.ensures.bytes c.in_ok-read_exact-3.ensures.bytes c.in_ok-seq_num.ensures.ok in
    rw (p.1, p.2) (mic_rest_rejected _ _ _ _ _ header c.in_err-checksum.ensures.error)

pub returns-clause-found : goal.returns-clause-found
returns-clause-found g c =
    let id : c.read_exact.new.buf ≡ mic_id = search rules in
    let one : length c.read_exact-2.new.buf ≡ 1 = search rules in
    let filler : c.read_exact-3.new.buf ≡ mic_filler = search rules in
    mic_read _ _ _ _ _ (mic_header_read _ _ _ _ _ _ _ _ _ _ id (one_octet c.read_exact-2.new.buf one) filler c.in_ok-read_exact.ensures.bytes c.in_ok-read_exact-2.ensures.bytes c.in_ok-read_exact-3.ensures.bytes c.in_ok-seq_num.ensures.ok)
    c.in_ok-checksum.ensures.all
