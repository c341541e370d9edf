use Rattle.krb_show_tokens.proofs.tokens.page_of_kind.Goals as goal

pub returns-in-Mic : goal.returns-in-Mic
returns-in-Mic c = rw (c.in-Mic.is) c.page_of_mic.ensures

pub returns-in-Wrap : goal.returns-in-Wrap
returns-in-Wrap c = rw (c.in-Wrap.is) c.page_of_wrap.ensures

pub returns-in-Framed : goal.returns-in-Framed
returns-in-Framed c = rw (c.in-Framed.is) c.page_of_frame.ensures

pub returns-in-NegTokenInit : goal.returns-in-NegTokenInit
returns-in-NegTokenInit c = rw (c.in-NegTokenInit.is) c.page_as.ensures

pub returns-in-NegTokenResp : goal.returns-in-NegTokenResp
returns-in-NegTokenResp c = rw (c.in-NegTokenResp.is) c.page_as-in-NegTokenResp.ensures
