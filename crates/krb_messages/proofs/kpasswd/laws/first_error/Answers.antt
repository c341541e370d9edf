use Rattle.krb_messages.proofs.kpasswd.laws.first_error.Goals as goal

pub returns-clause-one : goal.returns-clause-one
returns-clause-one c = c.errors_of_frames.ensures.one

pub returns-clause-frame : goal.returns-clause-frame
returns-clause-frame c = λ m x rest e lt i f g. c.errors_of_frames.ensures.frame m.ap_message m.krb_priv x rest e i.0 i.1 lt f g
