use Rattle.std.proofs.Common.{true, ◌∙◌}
use Rattle.krb_gss_per_message.specs.Keys.{flags_of, seal_usage_of}
use Rattle.krb_gss_per_message.proofs.Making.{sealed_as, wrap_made}
use Rattle.krb_gss_per_message.proofs.wrapping.wrap.Goals as goal

pub returns-clause-made : goal.returns-clause-made
returns-clause-made c =
    let key = c.args.key.now in
    let one = c.in-Ok.ensures.sealed key.octets (seal_usage_of key.sender) c.sealing_key.ensures.prepared in (
      c.in-Ok.sealed.items,
      sealed_as key c.sealing_key.result.suite c.args.confounder.now c.deref.result.now c.args.message.now c.header_of-header.result c.in-Ok.sealed.items c.flags-flags.result (flags_of key true) 0 c.args.sequence_number
          c.sealing_key.ensures.suite (c.deref.ensures.value ∙ c.in_ok-plaintext.ensures.joined) c.header_of-header.ensures c.flags-flags.ensures one,
      wrap_made c.in_ok-to_vec.field-0.items c.rotate.new.octets.items c.in-Ok.sealed.items c.flags-flags.result (flags_of key true) 0 c.args.rotation c.args.sequence_number
          c.in_ok-to_vec.ensures.ok c.flags-flags.ensures c.rotate.ensures,
    )
