use Rattle.krb_show_pac.proofs.pac_checksums.tell_pac.Goals as goal

pub returns-clause-ok : goal.returns-clause-ok
returns-clause-ok c = rw c.new-label.ensures at c.tell_struct.ensures.ok
