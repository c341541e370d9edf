use Rattle.std.proofs.Common.{◌≡◌, ◌++◌, ◌∙◌}
use Rattle.krb_der.specs.Asn1.{sequence}
use Rattle.krb_gss_tokens.specs.Header.{cookie, flags, realm}
use Rattle.krb_gss_tokens.proofs.Readings.{content_written}
use Rattle.krb_gss_tokens.proofs.iakerb_header.messages.header.IAKerbHeader.clone.Goals as goal

pub returns : goal.returns
returns c =
    let h = c.args.self.now in
    let written : c.deref.result.now ≡ sequence (realm h ++ cookie h ++ flags h) = c.deref.ensures.value ∙ c.in_ok-octets.ensures.ok in
    c.from_bytes.ensures.reads h c.in_ok-octets.ensures.valid (_, written, content_written h)
