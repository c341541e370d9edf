use Rattle.std.proofs.Common.{length, ap, ◌∙◌, arith, slice_set}
use Rattle.krb_der_x509.proofs.Retagging.{retagged_room}
use Rattle.krb_gss_tokens.proofs.Retagging.{token_written}
use Rattle.krb_gss_tokens.proofs.application_tag_0.ApplicationTag0DerEncode.write.Goals as goal

pub index_mut-requires : goal.index_mut-requires
index_mut-requires g c =
    let s = g.met.T.DerSequence.is_sequence c.self.inside.0 in
    let room = retagged_room c.args.out.now.items (g.T.DerEncode.enc c.self.inside.0) s.0 c.len-start.result 48 (c.len-start.ensures ∙ c.args.out.now.ok.0) s.1 in
    omega (arith, room, ap length c.in_ok-write.ensures.ok, c.write.new.out.ok.0)

pub returns-clause-ok : goal.returns-clause-ok
returns-clause-ok g c = rw (← c.self.view_is) (token_written c.args.out.now.items (g.T.DerEncode.enc c.self.inside.0) _ c.len-start.result (c.len-start.ensures ∙ c.args.out.now.ok.0) (g.met.T.DerSequence.is_sequence c.self.inside.0)
    (ap (λ l. slice_set l c.len-start.result 96) c.in_ok-write.ensures.ok))
