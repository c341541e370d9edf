use Rattle.krb_decrypt.proofs.Filled.{on_ok}
use Rattle.krb_decrypt.proofs.page.page_with_decrypted.Goals as goal

pub returns : goal.returns
returns g c =
    on_ok c.page_with.result (λ made walked. (c.page_with.new.inserting, rw c.start.ensures at walked)) c.page_with.ensures
