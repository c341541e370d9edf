-- The KDC's checksum where both signatures are there.
use Rattle.std.proofs.Common.{◌≡◌, ℕ, List, Option, Some, None, ap, ◌∙◌, subst}
use Rattle.std.specs.Option.{option_map}
use Rattle.krb_pac_signatures.specs.Signature.{signature_type, signature}
use Rattle.krb_pac_signatures.specs.Signatures.{Placed}
use Rattle.krb_pac_signatures.specs.Verdict.{IsVerdict, IsKdcVerdict}
use Rattle.krb_pac_signatures.specs.declared.verdict.Verdict.{Verdict}

abbrev pub octets_of : Option Placed → Option (List ℕ)
octets_of o = option_map (λ (p : Placed). p.octets) o

pub both_there : (kdc server : Option Placed) (s k key m : List ℕ) (v : Verdict) → Some s ≡ octets_of server → Some k ≡ octets_of kdc → m ≡ signature s
    → IsVerdict (signature_type k) (signature k) key m v → IsKdcVerdict kdc server key v
both_there None server s k key m v e f g h = absurd cc
both_there (Some p) None s k key m v e f g h = absurd cc
both_there (Some p) (Some q) s k key m v e f g h =
    let same_server : s ≡ q.octets = cc in
    let same_kdc : k ≡ p.octets = cc in
    subst (λ (x : List ℕ). IsVerdict (signature_type x) (signature x) key (signature q.octets) v) same_kdc
    (subst (λ (y : List ℕ). IsVerdict (signature_type k) (signature k) key y v) (g ∙ ap signature same_server) h)
