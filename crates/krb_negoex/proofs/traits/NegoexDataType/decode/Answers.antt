use Rattle.std.proofs.Common.{subst}
use Rattle.krb_negoex.proofs.Decoded.{read_again}
use Rattle.krb_negoex.proofs.traits.NegoexDataType.decode.Goals as goal

pub returns-clause-only : goal.returns-clause-only
returns-clause-only g c =
    let T = g.Self.Lay.layout in
    read_again T.part T.same T.width c.fixed_len.result T.one_part T.trailing (g.R.Read.remaining c.args.from.now) (g.R.Read.remaining c.read_prefix.new.from) c.in_ok-octets.octets.items c.args.message.now
    c.in_ok-value.value c.fixed_len.ensures c.in_ok-octets.ensures.ok
    (subst (λ z. T.part z c.args.message.now c.in_ok-value.value) c.deref.ensures.value c.in_ok-value.ensures.found)
