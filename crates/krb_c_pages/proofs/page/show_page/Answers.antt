use Rattle.krb_c_calls.proofs.Answered.{answered}
use Rattle.krb_c_pages.specs.Pages.{IsPageText, RefusesPage}
use Rattle.krb_c_pages.proofs.page.show_page.Goals as goal

pub returns : goal.returns
returns g c =
    answered c.text_shown.result (λ made. made.items)
    (IsPageText g.S.Pages.tells g.O.Opens.opens c.args.style c.args.shows_keys c.args.name.now c.args.octets.now c.args.keytab.now)
    (RefusesPage g.S.Pages.tells c.args.name.now c.args.octets.now c.args.keytab.now) _ _ _ _ c.text_shown.ensures c.hand_out.ensures
