use Rattle.krb_build.proofs.Known.{all_integers}
use Rattle.krb_build.proofs.messages.known.known_integers.Goals as goal

pub returns : goal.returns
returns c = all_integers c.args.integers.now
