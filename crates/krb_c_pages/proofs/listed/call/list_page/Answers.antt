use Rattle.std.proofs.Common.{ℕ, refl, subst, sym, inr}
use Rattle.krb_c_pages.specs.Pages.{RefusesPage}
use Rattle.krb_c_pages.proofs.listed.call.list_page.Goals as goal

pub returns-in-Err : goal.returns-in-Err
returns-in-Err g c =
    let P : ℕ → Type 0 = λ status. RefusesPage g.S.Pages.tells c.args.name.now c.args.octets.now c.args.keytab.now status in
    inr (subst P (sym c.status.ensures.number) c.in-Err.ensures, refl, refl)
