-- The options of a call (KRB_ACCEPT_.. of krb.h): powers of two, added.
use Rattle.std.specs.Prelude.{◌≡◌, ◌≢◌, ◌⊎◌, ℕ, ℤ, pos, ◌/◌, ◌%◌, ◌==◌, ◌<◌, ◌<ℤ◌, Bool, true, List, []}
use Rattle.krb_c_accept.specs.declared.records.AcceptorRecord.{AcceptorRecord}

abbrev pub has_option : ℕ → ℕ → Bool
has_option options option = options / option % 2 == 1

-- the option is among those that were added
abbrev pub HasOption : ℕ → ℕ → Type 0
HasOption options option = has_option options option ≡ true

-- a PAC is not both ignored (KRB_ACCEPT_PAC_IGNORED, 4) and required (KRB_ACCEPT_PAC_REQUIRED, 8)
abbrev pub AgreeOnPacs : ℕ → Type 0
AgreeOnPacs options = HasOption options 4 → HasOption options 8 → ⊥

-- the hash of channel bindings is given exactly if it is asked for (KRB_ACCEPT_BOUND, 512)
abbrev pub AgreeOnBindings : ℕ → List ℕ → Type 0
AgreeOnBindings options bindings = (HasOption options 512 → bindings ≢ []) × (bindings ≢ [] → HasOption options 512)

-- the client's address is given, if a ticket has to name it (KRB_ACCEPT_ADDRESSES_REQUIRED, 32)
abbrev pub AgreeOnAddress : ℕ → List ℕ → Type 0
AgreeOnAddress options address = HasOption options 32 → address ≢ []

-- it is said since when the replay cache is whole: since ever (KRB_ACCEPT_WHOLE_EVER, 128), with no time; or since a time
abbrev pub IsSince : ℕ → ℤ → Type 0
IsSince options since = (HasOption options 128 × (since ≡ pos 0)) ⊎ ((HasOption options 128 → ⊥) × (pos 0 <ℤ since))

-- There are no others than those of krb.h, from 1 to 1024; no two contradict each other; and each has what it asks for.
pub record AreOptions (a : AcceptorRecord) (bindings address : List ℕ) : Type 0 where
  pub known : a.options < 2048
  pub pacs : AgreeOnPacs a.options
  pub bindings_agree : AgreeOnBindings a.options bindings
  pub address_agrees : AgreeOnAddress a.options address
  pub since : IsSince a.options a.whole_since
