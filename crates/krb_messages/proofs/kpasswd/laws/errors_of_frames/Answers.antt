use Rattle.krb_messages.proofs.Frames.{frame_errorless, one_error}
use Rattle.krb_messages.proofs.kpasswd.laws.errors_of_frames.Goals as goal

pub returns-clause-one : goal.returns-clause-one
returns-clause-one g c = one_error g.A.DerEncode g.B.DerEncode

pub returns-clause-frame : goal.returns-clause-frame
returns-clause-frame g c = frame_errorless g.A.DerEncode g.B.DerEncode
