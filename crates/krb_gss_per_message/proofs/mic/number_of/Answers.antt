use Rattle.std.proofs.Common.{◌≡◌, false, sym, ap, subst, ◌∙◌}
use Rattle.krb_gss_tokens.specs.Mic.{Mic}
use Rattle.krb_gss_per_message.specs.Keys.{AreFlagsOf, IsSealedFlag, sign_usage_of}
use Rattle.krb_gss_per_message.specs.Mic.{IsMicOf, mic_sum}
use Rattle.krb_gss_per_message.proofs.Mics.{mic_holds, mic_sum_as}
use Rattle.krb_gss_per_message.proofs.mic.number_of.Goals as goal

pub returns-then-holds-clause-verified : goal.returns-then-holds-clause-verified
returns-then-holds-clause-verified c =
    let key = c.args.key.now in
    let t : Mic = c.in_ok-token.token in
    let flags : c.token.inside.flags ≡ t.flags = ap (λ (m : Mic). m.flags) c.token.view_is in
    let number : c.token.inside.seq_num ≡ t.seq_num = ap (λ (m : Mic). m.seq_num) c.token.view_is in
    let octets : c.token.inside.checksum.items ≡ t.checksum = ap (λ (m : Mic). m.checksum) c.token.view_is in
    let sealed : IsSealedFlag false c.token.inside.flags = subst (λ b. IsSealedFlag b c.token.inside.flags) c.if-is_sealed.false c.is_sealed.ensures in
    let are : AreFlagsOf key false t.flags = subst (AreFlagsOf key false) flags (record { sender = c.in_ok-check_flags.ensures.sender; sealed_is = sealed; subkey = c.in_ok-check_flags.ensures.subkey }) in
    let equal = (c.in_ok-holds.ensures.equal key.octets (sign_usage_of key.sender) c.mic_key.ensures.prepared).0 c.if-holds.true in
    let sum : t.checksum ≡ mic_sum key t.flags t.seq_num c.args.message.now =
    sym octets ∙ sym c.deref.ensures.value ∙ equal ∙ mic_sum_as key c.mic_key.result.suite c.header-header.result c.args.message.now t.flags t.seq_num c.mic_key.ensures.suite c.header-header.ensures in
    subst (λ n. IsMicOf key c.args.message.now c.args.token.now n) (sym number) (mic_holds key c.args.message.now c.args.token.now t c.in_ok-token.ensures.found c.in_ok-token.ensures.fits are sum)

pub returns-clause-refused : goal.returns-clause-refused
returns-clause-refused c =
    let key = c.args.key.now in
    let t : Mic = c.in_ok-token.token in
    let flags : c.token.inside.flags ≡ t.flags = ap (λ (m : Mic). m.flags) c.token.view_is in
    let octets : c.token.inside.checksum.items ≡ t.checksum = ap (λ (m : Mic). m.checksum) c.token.view_is in
    let sealed : IsSealedFlag false c.token.inside.flags = subst (λ b. IsSealedFlag b c.token.inside.flags) c.if-is_sealed.false c.is_sealed.ensures in
    let are : AreFlagsOf key false t.flags = subst (AreFlagsOf key false) flags (record { sender = c.in_ok-check_flags.ensures.sender; sealed_is = sealed; subkey = c.in_ok-check_flags.ensures.subkey }) in
    let equal = c.in_ok-holds.ensures.equal key.octets (sign_usage_of key.sender) c.mic_key.ensures.prepared in (
      t.flags,
      t.seq_num,
      t.checksum,
      c.in_ok-token.ensures.found.0,
      are,
      λ e.
          let sum : c.deref.result.now ≡ mic_sum key t.flags t.seq_num c.args.message.now = c.deref.ensures.value ∙ octets ∙ e in
          let holds = equal.1 (sum ∙ sym (mic_sum_as key c.mic_key.result.suite c.header-header.result c.args.message.now t.flags t.seq_num c.mic_key.ensures.suite c.header-header.ensures)) in
          let other = c.if-holds.false in
          cc,
    )
