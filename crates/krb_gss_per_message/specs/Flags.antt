-- Which flags are refused first (RFC 4121, 4.2.2).
use Rattle.std.specs.Prelude.{ℕ}
use Rattle.krb_gss_per_message.specs.Keys.{Key, IsSentBy, IsUnderSubkeyOf}
use Rattle.krb_gss_per_message.specs.declared.error.ProtectionError.{ProtectionError}
use Rattle.krb_gss_per_message.specs.declared.error.ProtectionError.TheVariants as errors

-- The other side sent the token; else it is under another key.
abbrev pub RefusesFlags : Key → ℕ → ProtectionError → Type 0
RefusesFlags key flags errors.Direction = ¬ IsSentBy key flags
RefusesFlags key flags errors.Subkey = IsSentBy key flags × ¬ IsUnderSubkeyOf key flags
RefusesFlags key flags errors.OutOfMemory = ⊥
RefusesFlags key flags (errors.Token e) = ⊥
RefusesFlags key flags errors.Sealed = ⊥
RefusesFlags key flags errors.Checksum = ⊥
RefusesFlags key flags (errors.Opening e) = ⊥
RefusesFlags key flags errors.SealedHeader = ⊥
