use Rattle.krb_registry.proofs.Distinct.{number_has_one_name, name_has_one_number}
use Rattle.krb_registry.proofs.name_laws.numbers_and_names.Goals as goal

pub returns-clause-one_name : goal.returns-clause-one_name
returns-clause-one_name c = number_has_one_name

pub returns-clause-one_number : goal.returns-clause-one_number
returns-clause-one_number c = name_has_one_number
