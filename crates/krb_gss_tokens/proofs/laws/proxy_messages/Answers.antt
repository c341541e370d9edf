use Rattle.std.proofs.Common.{refl}
use Rattle.krb_der_core.specs.Tlv.{tlv}
use Rattle.krb_gss_tokens.specs.TokenLaws.{token_is}
use Rattle.krb_gss_tokens.proofs.laws.proxy_messages.Goals as goal

pub returns : goal.returns
returns g c = record { written = λ m hm. (_, token_is (tlv 48 _) _ refl, record { octets = _; reads = c.header_readings.ensures.written m.header hm.0; fields = refl }) }
