use Rattle.std.proofs.Common.{refl, inl, inr}
use Rattle.krb_client_rules.proofs.part.answers.Goals as goal

pub returns-then-not-are_allowed-clause-rejected : goal.returns-then-not-are_allowed-clause-rejected
returns-then-not-are_allowed-clause-rejected g c =
    let other = rw (c.deref.ensures.value, c.flags.ensures) at c.if-not-are_allowed.ensures in
    let identity = c.in_ok-_identity.ensures.kept in
    let times = c.in_ok-_times.ensures.kept in
    inr (
      identity.0,
      inr (
        identity.1.0,
        inr (
          identity.1.1.0,
          inr (
            identity.1.1.1.0,
            inr (
              identity.1.1.1.1.0,
              inr (times.0, inr (times.1.0, inr (times.1.1.0, inl (refl, other)))),
            ),
          ),
        ),
      ),
    )
