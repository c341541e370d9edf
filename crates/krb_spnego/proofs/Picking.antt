-- The mechanism that a first reply names.
use Rattle.std.proofs.Common.{◌≡◌, ℕ, Option, Some, false, ap}
use Rattle.std.specs.Prelude.{Vec, find}
use Rattle.std.specs.declared.alloc.Global.{Global}
use Rattle.krb_spnego.specs.Asking.{pick_in, pick_other}
use Rattle.krb_spnego.specs.Told.{is_told_name}
use Rattle.krb_spnego.specs.declared.told.Told.{Told}
use Rattle.krb_spnego_rules.specs.Fields.{items_in}
use Rattle.krb_spnego_rules.specs.declared.initiator.Offered.{Offered}

pub picks_other : (offered : Offered Told) (named : Option (Vec ℕ Global)) (name : Vec ℕ Global) (found : Option Told) → named ≡ Some name
    → is_told_name offered.first name.items ≡ false → found ≡ find (λ m. is_told_name m name.items) offered.others.items
    → pick_other found ≡ pick_in offered (items_in named)
picks_other offered named name found is other f = rw (is, other) (ap pick_other f)
