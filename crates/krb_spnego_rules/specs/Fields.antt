-- What a message has in it.
use Rattle.std.specs.Prelude.{ℕ, List, Option, Some, None, Vec, is_some}
use Rattle.std.specs.declared.alloc.Global.{Global}
use Rattle.krb_spnego_rules.specs.declared.words.Choice.{Choice}
use Rattle.krb_spnego_rules.specs.declared.words.Choice.TheVariants.{Absent, Unknown}
use Rattle.krb_spnego_rules.specs.declared.words.Reply.{Reply}
use Rattle.krb_spnego_rules.specs.declared.message.Message.{Message}

-- the octets, or arcs, of a field, if it is there
abbrev pub items_in : Option (Vec ℕ Global) → Option (List ℕ)
items_in None = None
items_in (Some field) = Some field.items

-- any mechanism that a later message names is one too many
abbrev pub choice_in : {A : Type 0} → Option A → Choice
choice_in None = Absent
choice_in (Some arcs) = Unknown

-- what a later message says to the rules
abbrev pub reply_in : Message → Reply
reply_in message = record { state = message.state; choice = choice_in message.mechanism; token = is_some message.token }
