use Rattle.krb_show_tokens.proofs.proxies.page_of_proxied.Goals as goal

pub returns-in-AsReq : goal.returns-in-AsReq
returns-in-AsReq c = rw (c.in-AsReq.is) c.page_of.ensures

pub returns-in-AsRep : goal.returns-in-AsRep
returns-in-AsRep c = rw (c.in-AsRep.is) c.page_of-in-AsRep.ensures

pub returns-in-TgsReq : goal.returns-in-TgsReq
returns-in-TgsReq c = rw (c.in-TgsReq.is) c.page_of-in-TgsReq.ensures

pub returns-in-TgsRep : goal.returns-in-TgsRep
returns-in-TgsRep c = rw (c.in-TgsRep.is) c.page_of-in-TgsRep.ensures

pub returns-in-ApReq : goal.returns-in-ApReq
returns-in-ApReq c = rw (c.in-ApReq.is) c.page_of-in-ApReq.ensures

pub returns-in-ApRep : goal.returns-in-ApRep
returns-in-ApRep c = rw (c.in-ApRep.is) c.page_of-in-ApRep.ensures

pub returns-in-KrbError : goal.returns-in-KrbError
returns-in-KrbError c = rw (c.in-KrbError.is) c.page_of-in-KrbError.ensures
