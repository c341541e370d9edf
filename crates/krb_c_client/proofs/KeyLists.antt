-- Keys of a keytab, walked from their front.
use Rattle.std.proofs.Common.{◌≡◌, ◌∙◌, ◌+◌, ◌<◌, ℕ, List, [], ◌∷◌, ◌++◌, length, take, ap, sym, subst, get_or}
use Rattle.krb_accept_rules.specs.declared.key.ServiceKey.{ServiceKey}
use Rattle.krb_client_rules.specs.declared.asked.Asked.{Asked}
use Rattle.krb_client_rules.specs.declared.key.Key.{Key}
use Rattle.krb_c_client.specs.Keys.{AreKeysOf, IsPushed, more}
use Rattle.krb_c_client.proofs.SuiteLists.{taken}

pub one_key : (a : Asked) (keys : List ServiceKey) (i : ℕ) (k : ServiceKey) (before after : List Key) → i < length keys → k ≡ get_or keys i k
    → AreKeysOf a (take i keys) before → IsPushed a k before after → AreKeysOf a (take (i + 1) keys) after
one_key a keys i k before after within is so_far pushed =
    subst (λ (x : List ServiceKey). AreKeysOf a x after) (sym (taken keys i k within ∙ ap (λ (x : ServiceKey). take i keys ++ x ∷ []) (sym is)))
    (more (take i keys) k before after so_far pushed)
