use Rattle.krb_spnego.proofs.Agrees.{first_reply_agrees, later_agrees, offer_agrees}
use Rattle.krb_spnego.proofs.laws.questions.Goals as goal

pub returns-clause-later : goal.returns-clause-later
returns-clause-later c = later_agrees

pub returns-clause-offer : goal.returns-clause-offer
returns-clause-offer c = offer_agrees

pub returns-clause-first_reply : goal.returns-clause-first_reply
returns-clause-first_reply c = first_reply_agrees
