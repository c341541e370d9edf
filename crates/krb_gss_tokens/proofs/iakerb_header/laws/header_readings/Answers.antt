use Rattle.std.proofs.Common.{refl, sym, ◌∙◌}
use Rattle.krb_der_core.specs.TlvLaws.{tlv_same}
use Rattle.krb_gss_tokens.proofs.Readings.{content_decides, content_written}
use Rattle.krb_gss_tokens.proofs.iakerb_header.laws.header_readings.Goals as goal

pub returns-clause-one_reading : goal.returns-clause-one_reading
returns-clause-one_reading c = λ b v w hv hw r s. content_decides r.0 s.0 v w hv.1 hw.1 hv.2 hw.2 r.2 s.2 (tlv_same 48 48 r.0 s.0 (sym r.1 ∙ s.1))

pub returns-clause-written : goal.returns-clause-written
returns-clause-written c = λ h hv. (_, refl, content_written h)

pub returns-clause-read_back : goal.returns-clause-read_back
returns-clause-read_back c = λ h w hv hw r. content_decides r.0 _ w h hw.1 hv.1 hw.2 hv.2 r.2 (content_written h) (tlv_same 48 48 r.0 _ (sym r.1))
