use Rattle.krb_show_tokens.specs.Frame.{frame_of}
use Rattle.krb_show_tokens.proofs.kpasswd.frame.show_messages.Goals as goal

pub returns-in-ApReq : goal.returns-in-ApReq
unfolding frame_of
returns-in-ApReq c = rw (c.in-ApReq.is) c.show_with.ensures

pub returns-in-ApRep : goal.returns-in-ApRep
unfolding frame_of
returns-in-ApRep c = rw (c.in-ApRep.is) c.show_with-in-ApRep.ensures
