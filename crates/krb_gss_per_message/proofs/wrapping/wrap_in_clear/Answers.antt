use Rattle.std.proofs.Common.{◌≡◌, ◌<◌, ◌^◌, ℕ, false, length, ap, ◌++◌, ◌∙◌, arith, rules}
use Rattle.krb_gss_per_message.specs.Keys.{flags_of, seal_usage_of}
use Rattle.krb_gss_per_message.specs.Wrap.{clear_sum, unrotated_header}
use Rattle.krb_gss_per_message.proofs.Making.{clear_made, clear_sum_as}
use Rattle.krb_gss_per_message.proofs.ShortSums.{sum_short}
use Rattle.krb_gss_per_message.proofs.wrapping.wrap_in_clear.Goals as goal

pub overflow_cast-token : goal.overflow_cast-token
overflow_cast-token c =
    let key = c.args.key.now in
    let made = c.in_ok-checksum.ensures.checksum key.octets (seal_usage_of key.sender) c.clear_key.ensures.prepared in
    let short = sum_short c.clear_key.result.suite key.octets (seal_usage_of key.sender) (c.args.message.now ++ c.header_of-header.result) in
    let size = ap length made in
    let fits : c.len.result < 2 ^ 16 = omega arith in
    search rules

pub returns-clause-made : goal.returns-clause-made
returns-clause-made c =
    let key = c.args.key.now in
    let header : c.header_of-header.result ≡ unrotated_header (flags_of key false) 0 c.args.sequence_number =
    c.header_of-header.ensures ∙ ap (λ (x : ℕ). unrotated_header x 0 c.args.sequence_number) c.flags-flags.ensures in
    let sum : c.in_ok-checksum.checksum.items ≡ clear_sum key (unrotated_header (flags_of key false) 0 c.args.sequence_number) c.args.message.now =
    c.in_ok-checksum.ensures.checksum key.octets (seal_usage_of key.sender) c.clear_key.ensures.prepared
    ∙ clear_sum_as key c.clear_key.result.suite c.header_of-header.result (unrotated_header (flags_of key false) 0 c.args.sequence_number) c.args.message.now c.clear_key.ensures.suite header in
    let octets = c.in_ok-data.ensures.joined ∙ ap (λ xs. c.args.message.now ++ xs) c.deref.ensures.value in
    clear_made key c.args.message.now c.in_ok-to_vec.field-0.items c.in_ok-checksum.checksum.items c.in_ok-data.data.items c.rotate.new.octets.items
    c.flags-flags.result c.len.result c.args.rotation c.args.sequence_number
    sum c.flags-flags.ensures (c.len.ensures ∙ search rules) octets c.rotate.ensures c.in_ok-to_vec.ensures.ok
