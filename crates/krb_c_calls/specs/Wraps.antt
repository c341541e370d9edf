-- Wrap tokens (RFC 4121, 4.2.4 to 4.2.6.2).
use Rattle.std.specs.Prelude.{◌≡◌, ◌≢◌, ◌⊎◌, ◌<◌, ℕ, ℤ, Bool, false, List, length}
use Rattle.krb_c_calls.specs.Handing.{IsPut, IsKept}
use Rattle.krb_gss_per_message.specs.Keys.{Key}
use Rattle.krb_gss_per_message.specs.Wrap.{IsWrapped, IsWrappedInClear}
use Rattle.krb_gss_per_message.specs.Unwrap.{IsUnwrapped, RefusesUnwrap}
use Rattle.krb_gss_per_message.specs.declared.error.ProtectionError.{ProtectionError}
use Rattle.krb_c_calls.specs.Mics.{RefusesMaking}
use Rattle.krb_c_calls.specs.TokenKeys.{IsKeyOf, RefusesKey}
use Rattle.krb_c_calls.specs.TokenStatuses.{protection_status}

-- The token is the message's, sealed under a confounder of 16 octets and rotated.
abbrev pub IsSealedWrap : ℤ → List ℕ → Bool → Bool → ℕ → ℕ → List ℕ → List ℕ → List ℕ → Type 0
IsSealedWrap number octets sent_by_acceptor acceptor_subkey sequence_number rotation confounder message token =
    (key : Key) × IsKeyOf number octets sent_by_acceptor acceptor_subkey key × (length confounder ≡ 16)
    × IsWrapped key sequence_number rotation confounder message token

-- The confounder has another length (4); else there is no such key (3, 5); else memory was wanting (2).
abbrev pub RefusesSealing : ℤ → List ℕ → List ℕ → ℕ → Type 0
RefusesSealing number octets confounder status =
    ((length confounder ≢ 16) × (status ≡ 4))
    ⊎ ((length confounder ≡ 16) × RefusesMaking number octets status)

-- The token is the message's with its checksum, rotated.
abbrev pub IsClearWrap : ℤ → List ℕ → Bool → Bool → ℕ → ℕ → List ℕ → List ℕ → Type 0
IsClearWrap number octets sent_by_acceptor acceptor_subkey sequence_number rotation message token =
    (key : Key) × IsKeyOf number octets sent_by_acceptor acceptor_subkey key × IsWrappedInClear key sequence_number rotation message token

-- The token holds this message under this sequence number, sealed or not.
abbrev pub IsHeldBy : ℤ → List ℕ → Bool → Bool → List ℕ → Bool → ℕ → List ℕ → Type 0
IsHeldBy number octets sent_by_acceptor acceptor_subkey token sealed sequence_number message =
    (key : Key) × IsKeyOf number octets sent_by_acceptor acceptor_subkey key × IsUnwrapped key token sealed sequence_number message

-- There is no such key (3, 5); else the token holds no message, or memory was wanting.
abbrev pub RefusesUnwrapping : ℤ → List ℕ → Bool → Bool → List ℕ → ℕ → Type 0
RefusesUnwrapping number octets sent_by_acceptor acceptor_subkey token status =
    RefusesKey number octets status
    ⊎ ((key : Key) × (e : ProtectionError) × IsKeyOf number octets sent_by_acceptor acceptor_subkey key × RefusesUnwrap key token e
    × (status ≡ protection_status e))

-- The token holds a message, which is put, and its number and whether it was sealed are told; or it holds none, for a reason that the status
-- names: then nothing is put, and 0 and false are told.
abbrev pub IsUnwrapping : ℤ → List ℕ → Bool → Bool → List ℕ → ℕ → Bool → List ℕ → List ℕ → ℕ → ℕ → Type 0
IsUnwrapping number octets sent_by_acceptor acceptor_subkey token told sealed before after size status =
    ((message : List ℕ) × IsHeldBy number octets sent_by_acceptor acceptor_subkey token sealed told message × IsPut message before after size status)
    ⊎ (RefusesUnwrapping number octets sent_by_acceptor acceptor_subkey token status × (1 < status) × IsKept before after size × (told ≡ 0)
    × (sealed ≡ false))
