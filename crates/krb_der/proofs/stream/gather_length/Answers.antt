use Rattle.std.proofs.Common.{◌≡◌, get_or}
use Rattle.std.proofs.lemmas.Result.{err_from_is_err_and}
use Rattle.krb_der.proofs.Streams.{tag_read, length_none, length_cut, length_read, length_rejected}
use Rattle.krb_der.proofs.ReaderErrors.{no_octet, octets_cut, octets_wrong}
use Rattle.krb_der.proofs.stream.gather_length.Goals as goal

pub returns-in_err-gather-clause-err : goal.returns-in_err-gather-clause-err
returns-in_err-gather-clause-err g c =
    let p = err_from_is_err_and c.from_residual.result c.from_residual.ensures.1 in
    rw (p.1, p.2) (length_none (g.R.Read.remaining c.args.reader.now) c.in_err-gather.field-0.0 c.in_err-gather.ensures.err)

pub returns-in_err-gather-2-clause-err : goal.returns-in_err-gather-2-clause-err
returns-in_err-gather-2-clause-err g c =
    let p = err_from_is_err_and c.from_residual-in_err-gather-2.result c.from_residual-in_err-gather-2.ensures.1 in
    let one = rw c.new-octets.ensures.items at c.in_ok-gather.ensures.ok in
    let first : c.index-first.result.now ≡ get_or c.gather.new.out.items 0 0 = tag_read _ _ one.1 one.2 c.index-first.ensures in
    rw (p.1, p.2) (length_cut _ _ c.gather.new.out.items c.count_trailing-trailing.result c.in_err-gather-2.field-0.0 one (rw first at c.count_trailing-trailing.ensures.short, rw first at c.count_trailing-trailing.ensures.long) c.in_err-gather-2.ensures.err)

pub returns-in_err-length-clause-err : goal.returns-in_err-length-clause-err
returns-in_err-length-clause-err g c =
    let p = err_from_is_err_and c.from_residual-in_err-length.result c.from_residual-in_err-length.ensures.1 in
    let one = rw c.new-octets.ensures.items at c.in_ok-gather.ensures.ok in
    let first : c.index-first.result.now ≡ get_or c.gather.new.out.items 0 0 = tag_read _ _ one.1 one.2 c.index-first.ensures in
    rw (p.1, p.2) (length_rejected _ _ _ c.gather.new.out.items c.gather-2.new.out.items c.count_trailing-trailing.result c.in_err-length.field-0.0 one (rw first at c.count_trailing-trailing.ensures.short, rw first at c.count_trailing-trailing.ensures.long) c.in_ok-gather-2.ensures.ok (rw c.deref.ensures.value at c.in_err-length.ensures.rejected) (rw c.deref.ensures.value at c.in_err-length.ensures.missing))

pub returns-clause-ok : goal.returns-clause-ok
returns-clause-ok g c =
    let one = rw c.new-octets.ensures.items at c.in_ok-gather.ensures.ok in
    let first : c.index-first.result.now ≡ get_or c.gather.new.out.items 0 0 = tag_read _ _ one.1 one.2 c.index-first.ensures in
    length_read _ _ _ c.gather.new.out.items c.gather-2.new.out.items c.count_trailing-trailing.result _ c.in_ok-length.length one (rw first at c.count_trailing-trailing.ensures.short, rw first at c.count_trailing-trailing.ensures.long) c.in_ok-gather-2.ensures.ok c.in_ok-length.ensures.fits (rw c.deref.ensures.value at c.in_ok-length.ensures.found)

pub returns-in_err-gather-clause-first_error : goal.returns-in_err-gather-clause-first_error
returns-in_err-gather-clause-first_error g c =
    let p = err_from_is_err_and c.from_residual.result c.from_residual.ensures.1 in
    rw (p.1, p.2) (no_octet (g.R.Read.remaining c.args.reader.now) c.in_err-gather.field-0.0 c.in_err-gather.ensures.err)

pub returns-in_err-gather-2-clause-first_error : goal.returns-in_err-gather-2-clause-first_error
returns-in_err-gather-2-clause-first_error g c =
    let p = err_from_is_err_and c.from_residual-in_err-gather-2.result c.from_residual-in_err-gather-2.ensures.1 in
    let one = rw c.new-octets.ensures.items at c.in_ok-gather.ensures.ok in
    let first : c.index-first.result.now ≡ get_or c.gather.new.out.items 0 0 = tag_read _ _ one.1 one.2 c.index-first.ensures in
    rw (p.1, p.2) (octets_cut _ _ c.gather.new.out.items c.count_trailing-trailing.result c.in_err-gather-2.field-0.0 one (rw first at c.count_trailing-trailing.ensures.short, rw first at c.count_trailing-trailing.ensures.long) (rw first at c.count_trailing-trailing.ensures.other) c.in_err-gather-2.ensures.err)

pub returns-in_err-length-clause-first_error : goal.returns-in_err-length-clause-first_error
returns-in_err-length-clause-first_error g c =
    let p = err_from_is_err_and c.from_residual-in_err-length.result c.from_residual-in_err-length.ensures.1 in
    let one = rw c.new-octets.ensures.items at c.in_ok-gather.ensures.ok in
    let first : c.index-first.result.now ≡ get_or c.gather.new.out.items 0 0 = tag_read _ _ one.1 one.2 c.index-first.ensures in
    rw (p.1, p.2) (octets_wrong _ _ _ c.gather.new.out.items c.gather-2.new.out.items c.count_trailing-trailing.result c.in_err-length.field-0.0 one (rw first at c.count_trailing-trailing.ensures.short, rw first at c.count_trailing-trailing.ensures.long) c.in_ok-gather-2.ensures.ok (rw c.deref.ensures.value at c.in_err-length.ensures.rejected) (rw c.deref.ensures.value at c.in_err-length.ensures.first_error))
