-- Wrap tokens (RFC 4121, 4.2.4, 4.2.5 and 4.2.6.2).
use Rattle.std.specs.Prelude.{◌≡◌, ℕ, true, false, List, ◌++◌, length}
use Rattle.krb_crypto_message.specs.Sealing.{IsTheOne}
use Rattle.krb_crypto.specs.BySuite.{IsSealed, checksum_suite_of, sum_of}
use Rattle.krb_gss_tokens.specs.Layout.{wrap_header}
use Rattle.krb_gss_per_message.specs.Keys.{Key, seal_usage_of, flags_of}
use Rattle.krb_gss_per_message.specs.Rotation.{rotated_right}

-- the header before it is rotated: RRC is 0
abbrev pub unrotated_header : ℕ → ℕ → ℕ → List ℕ
unrotated_header flags extra number = wrap_header flags extra 0 number

-- Under the key for Wrap tokens of its sender, and this confounder, the plaintext becomes these octets.
abbrev pub IsSealedUnder : Key → List ℕ → List ℕ → List ℕ → Type 0
IsSealedUnder key confounder plaintext octets = IsSealed key.suite key.octets (seal_usage_of key.sender) confounder plaintext octets

-- With confidentiality (RFC 4121, 4.2.4): the message and then the header, in which RRC is 0, are sealed; there is no filler, so EC is 0.
-- The token is the header, with the rotation as RRC, and the sealed octets, rotated.
abbrev pub IsWrapped : Key → ℕ → ℕ → List ℕ → List ℕ → List ℕ → Type 0
IsWrapped key number rotation confounder message token =
    (sealed : List ℕ) × IsTheOne (IsSealedUnder key confounder (message ++ unrotated_header (flags_of key true) 0 number)) sealed
    × (token ≡ wrap_header (flags_of key true) 0 rotation number ++ rotated_right rotation sealed)

-- the checksum of the message and then this header (RFC 4121, 4.2.4)
abbrev pub clear_sum : Key → List ℕ → List ℕ → List ℕ
clear_sum key header message = sum_of (checksum_suite_of key.suite) key.octets (seal_usage_of key.sender) (message ++ header)

-- Without confidentiality (RFC 4121, 4.2.4): the checksum is that of the message and then the header, in which EC and RRC are 0. The token is the
-- header, with the checksum's octets as EC and the rotation as RRC, and the message and then the checksum, rotated.
abbrev pub IsWrappedInClear : Key → ℕ → ℕ → List ℕ → List ℕ → Type 0
IsWrappedInClear key number rotation message token =
    let sum = clear_sum key (unrotated_header (flags_of key false) 0 number) message in
    token ≡ wrap_header (flags_of key false) (length sum) rotation number ++ rotated_right rotation (message ++ sum)
