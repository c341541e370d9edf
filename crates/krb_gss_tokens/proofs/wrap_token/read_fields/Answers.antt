use Rattle.std.proofs.Common.{◌≡◌, ℕ, [], ◌∷◌, ◌∙◌, ap, length, slice_index_or, rules}
use Rattle.std.proofs.lemmas.Result.{err_from_is_err_and}
use Rattle.krb_gss_tokens.specs.Layout.{wrap_id}
use Rattle.krb_gss_tokens.proofs.Wrap.{wrap_filler_read, wrap_header_read, wrap_read, wrap_rest_rejected}
use Rattle.krb_gss_tokens.proofs.Streams.{two_octets}
use Rattle.krb_gss_tokens.proofs.wrap_token.read_fields.Goals as goal

pub returns-then-filler-clause-rejected : goal.returns-then-filler-clause-rejected
returns-then-filler-clause-rejected g c =
    let id : c.read_exact.new.buf ≡ wrap_id = search rules in
    let two : length c.read_exact-2.new.buf ≡ 2 = search rules in
    (c.if-filler.true, wrap_filler_read _ _ _ _ _ _ _ id (two_octets c.read_exact-2.new.buf two) c.in_ok-read_exact.ensures.bytes c.in_ok-read_exact-2.ensures.bytes)

pub returns-in_err-checksum-clause-rejected : goal.returns-in_err-checksum-clause-rejected
returns-in_err-checksum-clause-rejected g c =
    let p = err_from_is_err_and c.from_residual-in_err-checksum.result c.from_residual-in_err-checksum.ensures.1 in
    let id : c.read_exact.new.buf ≡ wrap_id = search rules in
    let two : length c.read_exact-2.new.buf ≡ 2 = search rules in
    let marks : c.read_exact-2.new.buf ≡ slice_index_or c.read_exact-2.new.buf 0 0 ∷ 255 ∷ [] = two_octets c.read_exact-2.new.buf two ∙ ap (λ (x : ℕ). slice_index_or c.read_exact-2.new.buf 0 0 ∷ x ∷ []) c.if-filler.false in
    let header = wrap_header_read _ _ _ _ _ _ _ _ _ _ _ _ id marks c.in_ok-read_exact.ensures.bytes c.in_ok-read_exact-2.ensures.bytes c.in_ok-ec.ensures.ok c.in_ok-rrc.ensures.ok c.in_ok-seq_num.ensures.ok in
    rw (p.1, p.2) (wrap_rest_rejected _ _ _ _ _ _ _ header c.in_err-checksum.ensures.error)

pub returns-clause-found : goal.returns-clause-found
returns-clause-found g c =
    let id : c.read_exact.new.buf ≡ wrap_id = search rules in
    let two : length c.read_exact-2.new.buf ≡ 2 = search rules in
    let marks : c.read_exact-2.new.buf ≡ slice_index_or c.read_exact-2.new.buf 0 0 ∷ 255 ∷ [] = two_octets c.read_exact-2.new.buf two ∙ ap (λ (x : ℕ). slice_index_or c.read_exact-2.new.buf 0 0 ∷ x ∷ []) c.if-filler.false in
    wrap_read _ _ _ _ _ _ _
    (wrap_header_read _ _ _ _ _ _ _ _ _ _ _ _ id marks c.in_ok-read_exact.ensures.bytes c.in_ok-read_exact-2.ensures.bytes c.in_ok-ec.ensures.ok c.in_ok-rrc.ensures.ok c.in_ok-seq_num.ensures.ok)
    c.in_ok-checksum.ensures.all
