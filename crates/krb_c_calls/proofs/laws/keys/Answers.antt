use Rattle.std.proofs.Common.{◌∙◌}
use Rattle.krb_crypto.specs.BySuite.{key_octets_of}
use Rattle.krb_c_calls.specs.Keys.{seed_octets_of}
use Rattle.krb_c_calls.proofs.Lengths.{password_length, seed_length, etype_size}
use Rattle.krb_c_calls.proofs.laws.keys.Goals as goal

pub returns-clause-of_password : goal.returns-clause-of_password
returns-clause-of_password c = password_length

pub returns-clause-of_seed : goal.returns-clause-of_seed
returns-clause-of_seed c = seed_length

pub returns-clause-password_key_size : goal.returns-clause-password_key_size
returns-clause-password_key_size c = λ number password salt key size is says. is.2.0 ∙ etype_size key_octets_of number is.0 size is.1 says

pub returns-clause-seed_key_size : goal.returns-clause-seed_key_size
returns-clause-seed_key_size c = λ number seed key size is says. is.2.1 ∙ etype_size key_octets_of number is.0 size is.1 says

pub returns-clause-seed_size : goal.returns-clause-seed_size
returns-clause-seed_size c = λ number seed key size is says. is.2.0 ∙ etype_size seed_octets_of number is.0 size is.1 says
