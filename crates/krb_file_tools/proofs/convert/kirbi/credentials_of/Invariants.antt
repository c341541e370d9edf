use Rattle.std.proofs.Common.{◌≡◌, drop}
use Rattle.krb_file_tools.specs.Kirbi.{credential_from, each_pair_of}
use Rattle.krb_file_tools.proofs.Lists.{after}
use Rattle.krb_file_tools.proofs.convert.kirbi.credentials_of.Given as goal

-- the credentials so far, before what is still to be done
abbrev pub invariant-loop-index : goal.invariant-loop-index
invariant-loop-index g l =
    after l.credentials.items (each_pair_of (λ t i. credential_from (g.T.DerEncode.enc t) (g.T.Tagged.value t) i) (drop l.index l.tickets) (drop l.index l.infos))
    ≡ each_pair_of (λ t i. credential_from (g.T.DerEncode.enc t) (g.T.Tagged.value t) i) l.tickets l.infos
