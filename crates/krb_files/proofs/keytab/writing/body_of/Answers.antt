use Rattle.krb_files.proofs.Joined.{seven}
use Rattle.krb_files.proofs.keytab.writing.body_of.Goals as goal

pub returns-clause-octets : goal.returns-clause-octets
returns-clause-octets c =
    seven _ _ _ _ _ _ _ _ _ _ _ _ _ _ _ c.new-body.ensures.items c.in_ok-push_principal.ensures.ok c.in_ok-push_number.ensures.ok c.in_ok-push_number-2.ensures.ok c.in_ok-push_octet.ensures.ok c.in_ok-push_number-3.ensures.ok
    c.in_ok-push_counted.ensures.ok c.in_ok-push_number-4.ensures.ok
