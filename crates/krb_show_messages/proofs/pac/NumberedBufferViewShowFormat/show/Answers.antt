use Rattle.krb_show_messages.proofs.pac.NumberedBufferViewShowFormat.show.Goals as goal

pub returns-clause-ok : goal.returns-clause-ok
returns-clause-ok c = rw (c.octets.ensures.octets, c.holds_key.ensures, c.info_buffer-info.ensures) at c.show_struct.ensures.ok
