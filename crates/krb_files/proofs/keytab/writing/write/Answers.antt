use Rattle.std.proofs.lemmas.Result.{err_from_is_err_and}
use Rattle.krb_files.specs.KeytabWritten.{entry_from}
use Rattle.krb_files.specs.declared.keytab.error.KeytabWriteError.TheVariants as errors
use Rattle.krb_files.proofs.KeytabWrites.{refused, written_all}
use Rattle.krb_files.proofs.keytab.writing.write.Goals as goal

pub returns-in_err-push_entry-clause-err : goal.returns-in_err-push_entry-clause-err
returns-in_err-push_entry-clause-err c =
    let p = err_from_is_err_and c.from_residual-in_err-push_entry.result c.from_residual-in_err-push_entry.ensures.1 in
    rw (p.1, p.2) (refused entry_from c.args.entries.now c.entries.entry-index _ c.in_err-push_entry.field-0.0 errors.OutOfMemory errors.TooLong c.entries-test.true c.in_err-push_entry.ensures.err)

pub returns-clause-read_back : goal.returns-clause-read_back
returns-clause-read_back c = written_all entry_from c.entries.out.items c.args.entries.now c.entries.entry-index c.entries-test.false c.entries.invariant.0 c.entries.invariant.1
