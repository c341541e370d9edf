use Rattle.krb_decrypt.proofs.KeyLists.{five_more}
use Rattle.krb_decrypt.proofs.keys.push_keys.Goals as goal

pub returns : goal.returns
returns c =
    five_more _ _ _ _ _ _ _ _ c.in_ok-push_key.ensures c.in_ok-push_key-2.ensures c.in_ok-push_key-3.ensures c.in_ok-push_key-4.ensures
    c.in_ok-push_key-5.ensures
