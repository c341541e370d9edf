use Rattle.krb_registry.proofs.Distinct.{identifier_has_one_name, mechanism_has_one_identifier}
use Rattle.krb_registry.proofs.name_laws.identifiers_and_names.Goals as goal

pub returns-clause-one_name : goal.returns-clause-one_name
returns-clause-one_name c = identifier_has_one_name

pub returns-clause-one_identifier : goal.returns-clause-one_identifier
returns-clause-one_identifier c = mechanism_has_one_identifier
