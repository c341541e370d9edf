use Rattle.std.proofs.Common.{ℕ, inr, refl, subst, sym}
use Rattle.krb_c_calls.specs.Items.{RefusesFinding}
use Rattle.krb_c_calls.proofs.items.calls.find.Goals as goal

pub returns-in-Err : goal.returns-in-Err
returns-in-Err c =
    inr (
      subst (λ (s : ℕ). RefusesFinding c.args.type_name.now c.args.path.now c.args.octets.now s) (sym c.status.ensures.number) c.in-Err.ensures,
      refl,
    )
