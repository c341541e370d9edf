use Rattle.krb_show_negoex.proofs.ChecksumViewShowFormat.show.Goals as goal

pub returns-clause-ok : goal.returns-clause-ok
returns-clause-ok c = rw (c.header_len.ensures, c.checksum_scheme.ensures, c.checksum_type.ensures, c.checksum_value.ensures) at c.show_struct.ensures.ok
