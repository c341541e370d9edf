use Rattle.std.proofs.Common.{ℕ, inr, refl, subst, sym}
use Rattle.std.proofs.lemmas.Int.{to_z-of_z}
use Rattle.krb_c_calls.specs.Mics.{RefusesVerifying}
use Rattle.krb_c_calls.proofs.tokens.mics.verify_mic.Goals as goal

pub returns-in-Err : goal.returns-in-Err
returns-in-Err c =
    let etype = c.ranges.etype in
    let told = simp to_z-of_z at c.in-Err.ensures in
    inr (
      subst (λ (s : ℕ). RefusesVerifying c.args.etype c.args.key.now c.args.sent_by_acceptor c.args.acceptor_subkey c.args.message.now c.args.token.now s) (sym c.status.ensures.number) told,
      c.status.ensures.refusal,
      refl,
    )
