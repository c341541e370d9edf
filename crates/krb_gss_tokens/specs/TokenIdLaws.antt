-- Two octets among the fields of a sequence.
use Rattle.std.proofs.Common.{ℕ, true, List, [], ◌∷◌, ◌++◌, length, refl, sym, ap, ◌∙◌, arith, length-append}
use Rattle.krb_der_core.specs.Encoding.{BeginsWith}
use Rattle.krb_der_core.specs.Errors.{PrefixLaws}
use Rattle.krb_der_core.specs.TlvLaws.{same_prefixes}
use Rattle.krb_der.specs.Grouping.{BeginSo, OneReading}
use Rattle.krb_gss_tokens.specs.Token.{IdError, IsTokenId}

begins_anyhow : (x : List ℕ) → BeginsWith (λ t. true) x
begins_anyhow [] = tt
begins_anyhow (i ∷ x) = refl

pub id_begins : BeginSo IsTokenId (λ v. v) (λ follow t. true)
id_begins follow v x h hx = begins_anyhow (v ++ x)

pub id_one_reading : OneReading (λ follow. Unit {0}) IsTokenId (λ v. v)
id_one_reading follow reported v w x y hv hw hx hy e = same_prefixes v w x y (hv.two ∙ sym hw.two) e

pub id_error_laws : PrefixLaws IsTokenId (λ v. v) (λ v rest. Unit {0}) IdError
id_error_laws = record {
  no_value = λ octets e lt f v rest hv q u. omega (arith, f.1, ap length q, length-append v rest, hv.two);
  one_error = λ octets e d lt f g. f.0 ∙ sym g.0;
  one_rest = λ v w x y hv hw u z e. (same_prefixes v w x y (hv.two ∙ sym hw.two) e).1;
}
