use Rattle.std.proofs.lemmas.Result.{err_from_is_err_and}
use Rattle.krb_files.specs.Ccache.{credential_octets, FitsCredential}
use Rattle.krb_files.specs.CcacheWritten.{ccache_from, credential_from, head_octets}
use Rattle.krb_files.proofs.CcacheWrites.{more_octets, more_fit, written_octets, written_is, refused}
use Rattle.krb_files.proofs.ccache.writing.write.Goals as goal

pub returns-in_err-push_credential-clause-err : goal.returns-in_err-push_credential-clause-err
returns-in_err-push_credential-clause-err c =
    let p = err_from_is_err_and c.from_residual-in_err-push_credential.result c.from_residual-in_err-push_credential.ensures.1 in
    rw (p.1, p.2) (refused (ccache_from c.args.cache.now) credential_from c.args.cache.now.credentials.now c.credentials.credential-index c.credential-item.result c.in_err-push_credential.field-0.0
    c.credentials-test.true c.credential-item.is c.in_ok-out.ensures.header c.in_err-push_credential.ensures.err)

pub credentials-preserved : goal.credentials-preserved
credentials-preserved c = (
  more_octets (credential_octets c.args.cache.now.version) credential_from c.args.cache.now.credentials.now c.credentials.credential-index c.credential-item.result
      (head_octets (ccache_from c.args.cache.now)) c.credentials.out.items c.push_credential.new.out.items c.credentials-test.true c.credential-item.is c.credentials.invariant.0 c.in_ok-push_credential.ensures.ok,
  more_fit FitsCredential credential_from c.args.cache.now.credentials.now c.credentials.credential-index c.credential-item.result c.credentials-test.true c.credential-item.is c.in_ok-push_credential.ensures.fits c.credentials.invariant.1,
)

pub returns-clause-ok : goal.returns-clause-ok
returns-clause-ok c =
    written_octets (ccache_from c.args.cache.now) credential_from c.args.cache.now.credentials.now c.credentials.credential-index c.credentials.out.items c.credentials-test.false c.credentials.invariant.0

pub returns-clause-read_back : goal.returns-clause-read_back
returns-clause-read_back c =
    written_is (ccache_from c.args.cache.now) credential_from c.args.cache.now.credentials.now c.credentials.credential-index c.credentials.out.items c.credentials-test.false c.credentials.invariant.0 c.credentials.invariant.1
    c.in_ok-out.ensures.header c.in_ok-out.ensures.principal
