use Rattle.std.proofs.Common.{sym, [], refl, inr}
use Rattle.std.proofs.lemmas.List.{append-nil}
use Rattle.krb_decrypt.proofs.keys.push_key.Goals as goal

pub returns-in_default : goal.returns-in_default
returns-in_default c = ([], inr (rw c.in_default.is at c.in_ok-octets.ensures, refl), sym (append-nil c.args.keys.now.items))
