use Rattle.krb_show_tokens.proofs.tokens.page_of_framed.Goals as goal

pub returns-in-Negotiation : goal.returns-in-Negotiation
returns-in-Negotiation c = rw (c.in-Negotiation.is) c.page_as.ensures

pub returns-in-ApReq : goal.returns-in-ApReq
returns-in-ApReq c = rw (c.in-ApReq.is) c.page_of_message.ensures

pub returns-in-ApRep : goal.returns-in-ApRep
returns-in-ApRep c = rw (c.in-ApRep.is) c.page_of_message-in-ApRep.ensures

pub returns-in-KrbError : goal.returns-in-KrbError
returns-in-KrbError c = rw (c.in-KrbError.is) c.page_of_message-in-KrbError.ensures

pub returns-in-TgtReq : goal.returns-in-TgtReq
returns-in-TgtReq c = rw (c.in-TgtReq.is) c.page_of_message-in-TgtReq.ensures

pub returns-in-TgtRep : goal.returns-in-TgtRep
returns-in-TgtRep c = rw (c.in-TgtRep.is) c.page_of_message-in-TgtRep.ensures

pub returns-in-AsReq : goal.returns-in-AsReq
returns-in-AsReq c = rw (c.in-AsReq.is) c.page_of_message-in-AsReq.ensures

pub returns-in-AsRep : goal.returns-in-AsRep
returns-in-AsRep c = rw (c.in-AsRep.is) c.page_of_message-in-AsRep.ensures

pub returns-in-Proxy : goal.returns-in-Proxy
returns-in-Proxy c = rw (c.in-Proxy.is) c.page_of.ensures
