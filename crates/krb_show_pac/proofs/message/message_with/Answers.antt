use Rattle.krb_show_pac.proofs.message.message_with.Goals as goal

pub returns : goal.returns
returns c = rw (c.with_elements.ensures, c.in_ok-elements.ensures, c.in_ok-same.ensures) at c.encoding_of.ensures
