use Rattle.std.proofs.Common.{◌+◌}
use Rattle.krb_spnego_rules.proofs.Honest.{simulate}
use Rattle.krb_spnego_rules.proofs.HonestRuns.{honest_runs_end}
use Rattle.krb_spnego_rules.proofs.HonestStart.{begins_with, some_left, start}
use Rattle.krb_spnego_rules.proofs.laws.honest_engines.Goals as goal

pub returns-clause-begun : goal.returns-clause-begun
returns-clause-begun g c = λ tokens first others list offered token y b at.
    begins_with g.X.Mechanism.meaning g.Y.Mechanism.meaning g.X.Paired.at_mine g.X.Paired.at_theirs g.met.X.Paired.pair tokens first others list offered
    token y b at

pub returns-clause-ends : goal.returns-clause-ends
returns-clause-ends g c = λ preferred tokens offered fresh proposal x y name h.
    start (tokens + 4) g.row.X.Denot g.row.Y.Denot g.X.Mechanism.meaning g.Y.Mechanism.meaning g.X.Paired.at_mine g.X.Paired.at_theirs g.met.X.Paired.pair
    preferred (tokens + 1) offered fresh proposal x y name (honest_runs_end preferred fresh.asks tokens).0 (honest_runs_end preferred fresh.asks tokens).1 (some_left tokens) h

pub returns-clause-later : goal.returns-clause-later
returns-clause-later g c = λ role most left x y done side state token own list name n e meets.
    simulate most g.row.X.Denot g.row.Y.Denot g.X.Mechanism.meaning g.Y.Mechanism.meaning g.X.Paired.at_mine g.X.Paired.at_theirs g.met.X.Paired.pair role x y
    left done side state token own list name n e meets
