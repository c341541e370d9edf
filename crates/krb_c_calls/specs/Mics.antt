-- MIC tokens (RFC 4121, 4.2.4 and 4.2.6.1).
use Rattle.std.specs.Prelude.{◌≡◌, ◌⊎◌, ◌<◌, ℕ, ℤ, Bool, List}
use Rattle.krb_gss_per_message.specs.Keys.{Key}
use Rattle.krb_gss_per_message.specs.Mic.{IsMic, IsMicOf, RefusesMic}
use Rattle.krb_gss_per_message.specs.declared.error.ProtectionError.{ProtectionError}
use Rattle.krb_c_calls.specs.TokenKeys.{IsKeyOf, RefusesKey}
use Rattle.krb_c_calls.specs.TokenStatuses.{protection_status}

-- The token is the one that the key's owner makes.
abbrev pub IsMicMade : ℤ → List ℕ → Bool → Bool → ℕ → List ℕ → List ℕ → Type 0
IsMicMade number octets sent_by_acceptor acceptor_subkey sequence_number message token =
    (key : Key) × IsKeyOf number octets sent_by_acceptor acceptor_subkey key × IsMic key sequence_number message token

-- There is no such key (3, 5); else memory was wanting (2).
abbrev pub RefusesMaking : ℤ → List ℕ → ℕ → Type 0
RefusesMaking number octets status = RefusesKey number octets status ⊎ (status ≡ 2)

-- The token holds of the message, with this sequence number.
abbrev pub HoldsAsMic : ℤ → List ℕ → Bool → Bool → List ℕ → List ℕ → ℕ → Type 0
HoldsAsMic number octets sent_by_acceptor acceptor_subkey message token sequence_number =
    (key : Key) × IsKeyOf number octets sent_by_acceptor acceptor_subkey key × IsMicOf key message token sequence_number

-- There is no such key (3, 5); else the token does not hold, or memory was wanting.
abbrev pub RefusesVerifying : ℤ → List ℕ → Bool → Bool → List ℕ → List ℕ → ℕ → Type 0
RefusesVerifying number octets sent_by_acceptor acceptor_subkey message token status =
    RefusesKey number octets status
    ⊎ ((key : Key) × (e : ProtectionError) × IsKeyOf number octets sent_by_acceptor acceptor_subkey key × RefusesMic key message token e
    × (status ≡ protection_status e))

-- The token holds, and its number is told (0); or it does not, for a reason that the status names, and 0 is told.
abbrev pub IsMicVerification : ℤ → List ℕ → Bool → Bool → List ℕ → List ℕ → ℕ → ℕ → Type 0
IsMicVerification number octets sent_by_acceptor acceptor_subkey message token told status =
    (HoldsAsMic number octets sent_by_acceptor acceptor_subkey message token told × (status ≡ 0))
    ⊎ (RefusesVerifying number octets sent_by_acceptor acceptor_subkey message token status × (1 < status) × (told ≡ 0))
