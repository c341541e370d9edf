-- Whether a client waits for an AP-REP (RFC 4121, 4.1.1.1; RFC 4120, 5.5.1).
use Rattle.std.specs.Prelude.{◌≡◌, ◌⊎◌, ℕ, ◌/◌, ◌%◌, true, List}
use Rattle.krb_types.specs.Flags.{is_set}
use Rattle.krb_accept_rules.specs.declared.accepted.Accepted.{Accepted}
use Rattle.krb_accept.specs.Said.{HasChecksum, HasNoChecksum}

-- With a checksum of the GSS-API, by the flag of mutual authentication (2) alone: ap-options are under no key, and are not looked at. Without
-- one there are no flags, and mutual-required of ap-options says it.
abbrev pub WantsReply : Accepted → ℕ → Type 0
WantsReply a flags =
    ((octets : List ℕ) × HasChecksum a.checksum octets × (flags / 2 % 2 ≡ 1))
    ⊎ (HasNoChecksum a.checksum × (is_set a.options.octets 2 ≡ true))
