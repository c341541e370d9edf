use Rattle.std.proofs.Common.{◌+◌, length, ap, ◌∙◌, arith, slice_set}
use Rattle.krb_der_x509.proofs.Retagging.{retagged, retagged_room}
use Rattle.krb_der_x509.proofs.implicit.ImplicitContextTagDerEncode.write.Goals as goal

pub index_mut-requires : goal.index_mut-requires
index_mut-requires g c =
    let room = retagged_room c.args.out.now.items (g.T.DerEncode.enc c.self.inside.0) (g.T.DerPrimitive.inner c.self.inside.0) c.len-start.result g.T.DerPrimitive.tag (c.len-start.ensures ∙ c.args.out.now.ok.0) (g.met.T.DerPrimitive.is_primitive c.self.inside.0) in
    omega (arith, room, ap length c.in_ok-write.ensures.ok, c.write.new.out.ok.0)

pub returns-clause-ok : goal.returns-clause-ok
returns-clause-ok g c = rw (← c.self.view_is, c.get.ensures.value) (retagged c.args.out.now.items (g.T.DerEncode.enc c.self.inside.0) (g.T.DerPrimitive.inner c.self.inside.0) _ c.len-start.result (128 + g.N.TagNumber.number) g.T.DerPrimitive.tag (c.len-start.ensures ∙ c.args.out.now.ok.0) (g.met.T.DerPrimitive.is_primitive c.self.inside.0)
    (ap (λ l. slice_set l c.len-start.result (128 + g.N.TagNumber.number)) c.in_ok-write.ensures.ok))
