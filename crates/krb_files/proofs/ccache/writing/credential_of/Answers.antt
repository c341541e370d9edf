use Rattle.krb_files.specs.CcacheWritten.{credential_from}
use Rattle.krb_files.proofs.CcacheWrites.{credential_joined}
use Rattle.krb_files.proofs.ccache.writing.credential_of.Goals as goal

pub returns-clause-ok : goal.returns-clause-ok
returns-clause-ok c =
    credential_joined c.args.version (credential_from c.args.credential.now) _ _ _ c.new-octets.ensures.items c.in_ok-push_front.ensures c.in_ok-push_back.ensures
