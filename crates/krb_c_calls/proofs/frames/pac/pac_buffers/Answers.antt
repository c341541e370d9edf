use Rattle.std.proofs.Common.{inl}
use Rattle.krb_c_calls.proofs.Buffers.{all_stand}
use Rattle.krb_c_calls.proofs.frames.pac.pac_buffers.Goals as goal

pub returns-in-Ok : goal.returns-in-Ok
returns-in-Ok c = inl (c.in-Ok.view, c.in-Ok.ensures.found, all_stand c.args.pac.now c.in-Ok.view c.in-Ok.ensures.found, c.put_places.ensures)
