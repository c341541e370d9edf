use Rattle.krb_file_tools.proofs.Unique.{one_etype, one_keytab_listing, one_time}
use Rattle.krb_file_tools.proofs.list.laws.one_list.Goals as goal

pub returns-clause-time : goal.returns-clause-time
returns-clause-time c = one_time

pub returns-clause-etype : goal.returns-clause-etype
returns-clause-etype c = one_etype c.numbers_and_names.ensures.one_name

pub returns-clause-keytab : goal.returns-clause-keytab
returns-clause-keytab c = one_keytab_listing c.numbers_and_names.ensures.one_name
