use Rattle.krb_registry.proofs.Distinct.{mechanisms_are_plain}
use Rattle.krb_registry.proofs.name_laws.names_are_plain.Goals as goal

pub returns-clause-mechanisms : goal.returns-clause-mechanisms
returns-clause-mechanisms c = mechanisms_are_plain
