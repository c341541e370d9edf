-- A mechanism's turn.
use Rattle.std.specs.Prelude.{ℕ, Option, Some, None, Vec}
use Rattle.std.specs.declared.alloc.Global.{Global}
use Rattle.krb_spnego_rules.specs.declared.words.Progress.{Progress}
use Rattle.krb_spnego_rules.specs.declared.words.Progress.TheVariants as progress
use Rattle.krb_spnego_rules.specs.declared.mechanism.Turn.{Turn}
use Rattle.krb_spnego_rules.specs.declared.mechanism.Turn.TheVariants.{Continues, EndsWithToken, Ends}

-- how the context stands after a turn, and the token that is to be sent
abbrev pub progress_in : Turn → Progress
progress_in (Continues token) = progress.Continues
progress_in (EndsWithToken token) = progress.EndsWithToken
progress_in Ends = progress.Ends

abbrev pub token_in : Turn → Option (Vec ℕ Global)
token_in (Continues token) = Some token
token_in (EndsWithToken token) = Some token
token_in Ends = None
