use Rattle.std.proofs.Common.{◌≡◌, get_or, sym, ap, subst, ◌∙◌}
use Rattle.std.proofs.lemmas.Result.{err_from_is_err_and, IfErr-weaker, IfOk-weaker}
use Rattle.std.specs.Io.KnownBytes.{Consumes}
use Rattle.krb_der.proofs.Streams.{tag_read, reader_none, reader_wrong, reader_length, reader_content, reader_element, element_taken}
use Rattle.krb_der.proofs.ReaderErrors.{none_left, other_first, length_in_error, content_short, content_in_error, gathered_fits}
use Rattle.krb_der.proofs.stream.read_prefix.Goals as goal

pub returns-in_err-gather-clause-rejected : goal.returns-in_err-gather-clause-rejected
returns-in_err-gather-clause-rejected g c =
    let p = err_from_is_err_and c.from_residual.result c.from_residual.ensures.1 in
    rw (p.1, p.2) (reader_none g.T.DerEncode.is_value g.T.DerEncode.enc g.T.DerEncode.first g.T.DerEncode.is_element (g.R.Read.remaining c.args.reader.now) c.in_err-gather.field-0.0 c.in_err-gather.ensures.err)

pub returns-then-not-starts-clause-rejected : goal.returns-then-not-starts-clause-rejected
returns-then-not-starts-clause-rejected g c =
    let first = rw c.new-first.ensures.items at c.in_ok-gather.ensures.ok in
    let tag : c.index-tag.result.now ≡ get_or c.gather.new.out.items 0 0 = tag_read _ _ first.1 first.2 c.index-tag.ensures in
    reader_wrong g.T.DerEncode.is_value g.T.DerEncode.enc g.T.DerEncode.first g.T.DerEncode.is_element (g.R.Read.remaining c.args.reader.now) (g.R.Read.remaining c.gather.new.reader) c.gather.new.out.items first (ap g.T.DerEncode.first (sym tag) ∙ sym c.if-not-starts.ensures)

pub returns-in_err-length-clause-rejected : goal.returns-in_err-length-clause-rejected
returns-in_err-length-clause-rejected g c =
    let p = err_from_is_err_and c.from_residual-in_err-length.result c.from_residual-in_err-length.ensures.1 in
    let first = rw c.new-first.ensures.items at c.in_ok-gather.ensures.ok in
    rw (p.1, p.2) (reader_length g.T.DerEncode.is_value g.T.DerEncode.enc g.T.DerEncode.first g.T.DerEncode.is_element (g.R.Read.remaining c.args.reader.now) (g.R.Read.remaining c.gather.new.reader) c.gather.new.out.items c.in_err-length.field-0.0 first c.in_err-length.ensures.err)

pub returns-in_err-gather-2-clause-rejected : goal.returns-in_err-gather-2-clause-rejected
returns-in_err-gather-2-clause-rejected g c =
    let p = err_from_is_err_and c.from_residual-in_err-gather-2.result c.from_residual-in_err-gather-2.ensures.1 in
    let first = rw c.new-first.ensures.items at c.in_ok-gather.ensures.ok in
    rw (p.1, p.2) (reader_content g.T.DerEncode.is_value g.T.DerEncode.enc g.T.DerEncode.first g.T.DerEncode.is_element (g.R.Read.remaining c.args.reader.now) (g.R.Read.remaining c.gather.new.reader) (g.R.Read.remaining c.gather_length.new.reader) c.gather.new.out.items c.in_ok-length.length c.in_err-gather-2.field-0.0 first c.in_ok-length.ensures.ok c.in_err-gather-2.ensures.err)

pub returns-clause-found : goal.returns-clause-found
returns-clause-found g c =
    let first = rw c.new-first.ensures.items at c.in_ok-gather.ensures.ok in
    let tag : c.index-tag.result.now ≡ get_or c.gather.new.out.items 0 0 = tag_read _ _ first.1 first.2 c.index-tag.ensures in
    let content = rw c.new-content.ensures.items at c.in_ok-gather-2.ensures.ok in
    let taken = element_taken (g.R.Read.remaining c.args.reader.now) (g.R.Read.remaining c.gather.new.reader) (g.R.Read.remaining c.gather_length.new.reader) (g.R.Read.remaining c.gather-2.new.reader) c.gather.new.out.items c.gather-2.new.out.items c.in_ok-length.length first c.in_ok-length.ensures.ok content in
    IfOk-weaker c.read_element.result _ _ (λ v k. subst (Consumes (g.R.Read.remaining c.args.reader.now) (g.R.Read.remaining c.gather-2.new.reader)) (rw (tag, c.deref.ensures.value) at k) taken) c.read_element.ensures.found

pub returns-clause-rejected : goal.returns-clause-rejected
returns-clause-rejected g c =
    let first = rw c.new-first.ensures.items at c.in_ok-gather.ensures.ok in
    let tag : c.index-tag.result.now ≡ get_or c.gather.new.out.items 0 0 = tag_read _ _ first.1 first.2 c.index-tag.ensures in
    let content = rw c.new-content.ensures.items at c.in_ok-gather-2.ensures.ok in
    let taken = element_taken (g.R.Read.remaining c.args.reader.now) (g.R.Read.remaining c.gather.new.reader) (g.R.Read.remaining c.gather_length.new.reader) (g.R.Read.remaining c.gather-2.new.reader) c.gather.new.out.items c.gather-2.new.out.items c.in_ok-length.length first c.in_ok-length.ensures.ok content in
    IfErr-weaker c.read_element.result _ _ (λ e r. reader_element g.T.DerEncode.is_value g.T.DerEncode.enc g.T.DerEncode.first g.T.DerEncode.is_element (g.R.Read.remaining c.args.reader.now) (g.R.Read.remaining c.gather-2.new.reader) (get_or c.gather.new.out.items 0 0) c.gather-2.new.out.items e taken (rw (tag, c.deref.ensures.value) at r)) c.read_element.ensures.rejected

pub returns-in_err-gather-clause-first_error : goal.returns-in_err-gather-clause-first_error
returns-in_err-gather-clause-first_error g c =
    let p = err_from_is_err_and c.from_residual.result c.from_residual.ensures.1 in
    rw (p.1, p.2) (none_left g.T.DerEncode.first g.T.DerEncode.error (g.R.Read.remaining c.args.reader.now) c.in_err-gather.field-0.0 c.in_err-gather.ensures.err)

pub returns-then-not-starts-clause-first_error : goal.returns-then-not-starts-clause-first_error
returns-then-not-starts-clause-first_error g c =
    let first = rw c.new-first.ensures.items at c.in_ok-gather.ensures.ok in
    let tag : c.index-tag.result.now ≡ get_or c.gather.new.out.items 0 0 = tag_read _ _ first.1 first.2 c.index-tag.ensures in
    other_first g.T.DerEncode.first g.T.DerEncode.error (g.R.Read.remaining c.args.reader.now) (g.R.Read.remaining c.gather.new.reader) c.gather.new.out.items first (ap g.T.DerEncode.first (sym tag) ∙ sym c.if-not-starts.ensures)

pub returns-in_err-length-clause-first_error : goal.returns-in_err-length-clause-first_error
returns-in_err-length-clause-first_error g c =
    let p = err_from_is_err_and c.from_residual-in_err-length.result c.from_residual-in_err-length.ensures.1 in
    let first = rw c.new-first.ensures.items at c.in_ok-gather.ensures.ok in
    let tag : c.index-tag.result.now ≡ get_or c.gather.new.out.items 0 0 = tag_read _ _ first.1 first.2 c.index-tag.ensures in
    rw (p.1, p.2) (length_in_error g.T.DerEncode.first g.T.DerEncode.error (g.R.Read.remaining c.args.reader.now) (g.R.Read.remaining c.gather.new.reader) c.gather.new.out.items c.in_err-length.field-0.0 first (ap g.T.DerEncode.first (sym tag) ∙ sym c.if-not-starts.ensures) c.in_err-length.ensures.first_error)

pub returns-in_err-gather-2-clause-first_error : goal.returns-in_err-gather-2-clause-first_error
returns-in_err-gather-2-clause-first_error g c =
    let p = err_from_is_err_and c.from_residual-in_err-gather-2.result c.from_residual-in_err-gather-2.ensures.1 in
    let first = rw c.new-first.ensures.items at c.in_ok-gather.ensures.ok in
    let tag : c.index-tag.result.now ≡ get_or c.gather.new.out.items 0 0 = tag_read _ _ first.1 first.2 c.index-tag.ensures in
    rw (p.1, p.2) (content_short g.T.DerEncode.first g.T.DerEncode.error (g.R.Read.remaining c.args.reader.now) (g.R.Read.remaining c.gather.new.reader) (g.R.Read.remaining c.gather_length.new.reader) c.gather.new.out.items c.in_ok-length.length c.in_err-gather-2.field-0.0 first (ap g.T.DerEncode.first (sym tag) ∙ sym c.if-not-starts.ensures) c.in_ok-length.ensures.ok c.in_ok-length.ensures.fits c.in_err-gather-2.ensures.err)

pub returns-clause-first_error : goal.returns-clause-first_error
returns-clause-first_error g c =
    let first = rw c.new-first.ensures.items at c.in_ok-gather.ensures.ok in
    let tag : c.index-tag.result.now ≡ get_or c.gather.new.out.items 0 0 = tag_read _ _ first.1 first.2 c.index-tag.ensures in
    let content = rw c.new-content.ensures.items at c.in_ok-gather-2.ensures.ok in
    let taken = element_taken (g.R.Read.remaining c.args.reader.now) (g.R.Read.remaining c.gather.new.reader) (g.R.Read.remaining c.gather_length.new.reader) (g.R.Read.remaining c.gather-2.new.reader) c.gather.new.out.items c.gather-2.new.out.items c.in_ok-length.length first c.in_ok-length.ensures.ok content in
    let fits = gathered_fits c.in_ok-length.length c.gather-2.new.out.items _ _ content c.in_ok-length.ensures.fits in
    IfErr-weaker c.read_element.result _ _ (λ e r. content_in_error g.T.DerEncode.first g.T.DerEncode.error (g.R.Read.remaining c.args.reader.now) (g.R.Read.remaining c.gather-2.new.reader) (get_or c.gather.new.out.items 0 0) c.gather-2.new.out.items e taken (ap g.T.DerEncode.first (sym tag) ∙ sym c.if-not-starts.ensures) fits (rw (tag, c.deref.ensures.value) at r)) c.read_element.ensures.first_error
