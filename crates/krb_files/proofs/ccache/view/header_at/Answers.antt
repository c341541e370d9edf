use Rattle.krb_files.proofs.CcacheSteps.{no_header}
use Rattle.krb_files.proofs.ccache.view.header_at.Goals as goal

pub returns-in-Three : goal.returns-in-Three
returns-in-Three c = no_header c.args.version c.args.octets.now c.split_at.result.0.now c.split_at.result.1.now c.in-Three.is c.split_at.ensures.front c.split_at.ensures.back
