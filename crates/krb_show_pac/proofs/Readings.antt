-- What is read is shown.
use Rattle.std.proofs.Common.{◌≡◌, List, ℕ, Result, Ok, OnOk, inl}
use Rattle.std.proofs.lemmas.Result.{on_ok_weaker}
use Rattle.krb_show.specs.Tokens.{Token}
use Rattle.krb_show_pac.specs.Unread.{read_or_unread}

pub read_shown : {T F A E : Type 0} (result : Result T F) (read : Result A E) (shows : A → List Token → List Token → Type 0) (words : E → List ℕ) (v : A)
    (old new : List Token) → read ≡ Ok v → OnOk result (shows v old new) → OnOk result (read_or_unread read shows words old new)
read_shown result read shows words v old new e h = on_ok_weaker result (λ (shown : shows v old new). inl (v, e, shown)) h
