use Rattle.std.proofs.Common.{length, append_assoc}
use Rattle.krb_der_core.specs.Tlv.{header, tlv}
use Rattle.krb_der_core.proofs.tlv.write_tlv.Goals as goal

pub returns-clause-ok : goal.returns-clause-ok
unfolding tlv
returns-clause-ok c = rw (c.in_default.ensures.items, c.in_ok-append_header.ensures.ok) (append_assoc c.args.out.now.items (header c.args.tag (length c.args.content.now)) c.args.content.now)
