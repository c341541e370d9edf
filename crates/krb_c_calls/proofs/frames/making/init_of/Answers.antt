use Rattle.std.proofs.Common.{ap, ◌∙◌, ◌++◌, List, ℕ}
use Rattle.krb_der_core.specs.Tlv.{tlv}
use Rattle.krb_c_calls.specs.Making.{spnego}
use Rattle.krb_c_calls.proofs.Made.{init_made}
use Rattle.krb_c_calls.proofs.frames.making.init_of.Goals as goal

pub returns : goal.returns
returns c =
    let first = c.in_ok-write_tlv.ensures.ok ∙ ap (λ (l : List ℕ). l ++ tlv 6 spnego) c.new-made.ensures.items in
    init_made c.write_tlv.new.out.items c.extend_from_slice.new.self.items c.close_tlv.new.out.items c.in_ok-fields.fields.items c.deref.result.now c.args.mechanisms.now c.args.token.now c.args.mic.now first
    c.in_ok-extend_from_slice.ensures.items c.deref.ensures.value c.in_ok-fields.ensures c.in_ok-close_tlv.ensures.ok
