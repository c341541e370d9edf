-- The frame at the start of octets has one size.
use Rattle.std.proofs.Common.{◌≡◌, ℕ, List, ◌++◌, length, drop, ap, sym, ◌∙◌}
use Rattle.krb_der_core.specs.Reading.{TakesPrefix}
use Rattle.krb_der_core.specs.Tlv.{tlv}
use Rattle.krb_der_core.specs.TlvLaws.{tlv_apart}

pub one_size : (octets found content trailing : List ℕ) (taken : ℕ) → TakesPrefix (tlv 96 found) taken octets → octets ≡ tlv 96 content ++ trailing
    → length (tlv 96 content) ≡ taken
one_size octets found content trailing taken p e =
    let s = tlv_apart 96 96 found content (drop taken octets) trailing (sym p.prefix ∙ e) in
    ap (λ (c : List ℕ). length (tlv 96 c)) (sym s.content) ∙ sym p.count
