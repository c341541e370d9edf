-- A message is no longer than what holds it.
use Rattle.std.proofs.Common.{ℕ, ◌≤◌, List, ◌∷◌, ◌++◌, length, arith}
use Rattle.std.proofs.lemmas.List.{length-append}
use Rattle.krb_der_core.specs.Tlv.{len, tlv}
use Rattle.krb_kdc_proxy.specs.Prefixed.{prefixed}

content_fits : (t : ℕ) (c : List ℕ) → length c ≤ length (tlv t c)
unfolding tlv
content_fits t c = omega (arith, length-append (t ∷ len (length c)) c)

pub message_fits : (message domain hint : List ℕ) → length message ≤ length (tlv 48 (tlv 160 (tlv 4 (prefixed message)) ++ domain ++ hint))
message_fits message domain hint =
    let field = tlv 160 (tlv 4 (prefixed message)) in
    omega (
      arith,
      content_fits 48 (field ++ domain ++ hint),
      length-append (field ++ domain) hint,
      length-append field domain,
      content_fits 160 (tlv 4 (prefixed message)),
      content_fits 4 (prefixed message),
    )
