use Rattle.std.proofs.Common.{List, ℕ, refl, subst, sym, inl, inr}
use Rattle.krb_c_calls.specs.ContentNumbers.{IsContentNumber}
use Rattle.krb_c_calls.specs.Items.{RefusesFinding}
use Rattle.krb_c_calls.proofs.items.calls.find_number.Goals as goal

pub returns : goal.returns
returns c =
    let told = subst (λ (l : List ℕ). IsContentNumber l c.content_number.new.number c.content_number.result) c.content_of.ensures c.content_number.ensures in
    inl (c.in-Ok.item, c.in-Ok.ensures, inl (c.if-not-holds_number.ensures, told))

pub returns-in-Err : goal.returns-in-Err
returns-in-Err c =
    inr (
      subst (λ (s : ℕ). RefusesFinding c.args.type_name.now c.args.path.now c.args.octets.now s) (sym c.status.ensures.number) c.in-Err.ensures,
      refl,
    )
