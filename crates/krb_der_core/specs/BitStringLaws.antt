-- Each bit string has one content.
use Rattle.std.proofs.Common.{◌≡◌, ℕ, List, ap, ◌∙◌}
use Rattle.krb_der_core.specs.TlvLaws.{same_heads}
use Rattle.krb_der_core.specs.Encoding.{OneValue}
use Rattle.krb_der_core.specs.BitString.{Bits, IsBits, bits_content}

same_bits : (v w : Bits) → v.spare ≡ w.spare → v.octets ≡ w.octets → v ≡ w
same_bits v w p q = let mk : List ℕ → ℕ → Bits = λ o s. record { octets = o; spare = s } in ap (λ (o : List ℕ). mk o v.spare) q ∙ ap (λ (s : ℕ). mk w.octets s) p

pub bits_one_content : OneValue IsBits bits_content
bits_one_content v w hv hw e = let h = same_heads v.spare w.spare v.octets w.octets e in same_bits v w h.0 h.1
