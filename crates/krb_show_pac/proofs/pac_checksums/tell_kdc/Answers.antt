use Rattle.krb_show_pac.proofs.pac_checksums.tell_kdc.Goals as goal

pub returns-clause-ok : goal.returns-clause-ok
returns-clause-ok c = rw (c.new-label.ensures, c.new-key_label.ensures, c.in_ok-checksum.ensures) at c.tell_under_keys.ensures.ok
