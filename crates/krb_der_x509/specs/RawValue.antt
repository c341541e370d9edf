-- One value of any type, in the octets of its encoding.
use Rattle.std.proofs.Common.{◌≡◌, ℕ, Bool, false, not, ◌&&◌, ◌%◌, List, [], ◌++◌, sym, ap, ◌∙◌}
use Rattle.std.specs.Prelude.{◌==◌}
use Rattle.krb_der_core.specs.declared.error.Asn1DerError.{Asn1DerError}
use Rattle.krb_der_core.specs.declared.error.Asn1DerError.TheVariants as errors
use Rattle.krb_der_core.specs.Encoding.{IsElement}
use Rattle.krb_der_core.specs.ErrorLaws.{clash}
use Rattle.krb_der_core.specs.Errors.{ErrorLaws}
use Rattle.krb_der_core.specs.TlvLaws.{tlv_apart}

-- a value may begin with this octet: it is not 00, and the tag is in one octet (X.690, 8.1.2.4)
abbrev pub is_raw_first : ℕ → Bool
is_raw_first t = not (t == 0) && not (t % 32 == 31)

-- the error of an element of this tag: no value begins with it
abbrev pub RawError : ℕ → List ℕ → Asn1DerError → Type 0
RawError t content e = (e ≡ errors.InvalidData) × (is_raw_first t ≡ false)

pub raw_laws : ErrorLaws (IsElement is_raw_first) (λ v. v) RawError
raw_laws = record {
  no_value = λ t content e lt f v hv q. clash (is_raw_first t) (ap is_raw_first (tlv_apart t hv.tag content hv.content [] [] (ap (λ (l : List ℕ). l ++ []) (q ∙ hv.whole))).tag ∙ hv.begins) f.1;
  one_error = λ t content e d lt f g. f.0 ∙ sym g.0;
}
