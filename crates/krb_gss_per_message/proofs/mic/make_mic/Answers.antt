use Rattle.std.proofs.Common.{◌≡◌, ℕ, false, ap, ◌∙◌}
use Rattle.krb_gss_tokens.specs.Layout.{mic_header}
use Rattle.krb_gss_tokens.specs.Mic.{mic}
use Rattle.krb_gss_per_message.specs.Keys.{flags_of, sign_usage_of}
use Rattle.krb_gss_per_message.specs.Mic.{mic_sum}
use Rattle.krb_gss_per_message.proofs.Mics.{mic_made, mic_sum_as}
use Rattle.krb_gss_per_message.proofs.mic.make_mic.Goals as goal

pub returns-clause-made : goal.returns-clause-made
returns-clause-made c =
    let key = c.args.key.now in
    let number : ℕ = c.args.sequence_number in
    let flags : ℕ = flags_of key false in
    let header : c.header.result ≡ mic_header flags number = c.header.ensures ∙ ap (λ (x : ℕ). mic_header x number) c.flags.ensures in
    let sum : c.in_ok-checksum.checksum.items ≡ mic_sum key flags number c.args.message.now =
    c.in_ok-checksum.ensures.checksum key.octets (sign_usage_of key.sender) c.mic_key.ensures.prepared
    ∙ mic_sum_as key c.mic_key.result.suite c.header.result c.args.message.now flags number c.mic_key.ensures.suite header in
    mic_made key c.args.message.now c.in_ok-to_vec.field-0.items c.in_ok-checksum.checksum.items c.flags.result flags number (c.in_ok-to_vec.ensures.ok ∙ ap mic c.set_checksum.ensures) c.flags.ensures sum
