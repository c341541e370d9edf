use Rattle.std.proofs.Common.{ap, sym}
use Rattle.std.specs.Option.{option_copied}
use Rattle.krb_spnego.proofs.ContextMics.{nobody}
use Rattle.krb_spnego.proofs.Refusals.{err_map, of_token, ok_map}
use Rattle.krb_spnego.proofs.kerberos.stepped.Goals as goal

pub returns-in-Some-clause-taken : goal.returns-in-Some-clause-taken
returns-in-Some-clause-taken c =
    ok_map c.taken.result
    (λ r is. (nobody c.args.acceptor.now.client (sym c.if-is_some.ensures), (c.in-Some.token.now, ap option_copied c.in-Some.is, is))) c.taken.ensures.taken

pub returns-in-Some-clause-refused : goal.returns-in-Some-clause-refused
returns-in-Some-clause-refused c =
    err_map c.taken.result
    (λ e why. of_token _ _ _ _ c.args.acceptor.now (option_copied c.args.token) c.in-Some.token.now e
    (nobody c.args.acceptor.now.client (sym c.if-is_some.ensures)) (ap option_copied c.in-Some.is) why) c.taken.ensures.refused
