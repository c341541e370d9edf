use Rattle.std.proofs.Common.{length, sym, subst, ◌∙◌}
use Rattle.krb_crypto.specs.BySuite.{key_octets_of, confounder_octets_of}
use Rattle.krb_c_calls.specs.Sizes.{IsWord}
use Rattle.krb_c_calls.proofs.Lengths.{encrypted_length, encrypted_size, etype_size}
use Rattle.krb_c_calls.proofs.laws.encrypted.Goals as goal

pub returns-clause-by_suite : goal.returns-clause-by_suite
returns-clause-by_suite c = λ suite key usage confounder payload octets is. encrypted_length suite key usage confounder payload octets is.0 is.2.holds

pub returns-clause-size : goal.returns-clause-size
returns-clause-size c = λ number key usage confounder payload octets size is says.
    subst (λ n. IsWord n size) (sym (encrypted_length is.0 key usage confounder payload octets is.2.0 is.2.2.holds))
    (encrypted_size number is.0 (length payload) size is.1 says)

pub returns-clause-confounder_size : goal.returns-clause-confounder_size
returns-clause-confounder_size c = λ number key usage confounder payload octets size is says. is.2.0 ∙ etype_size confounder_octets_of number is.0 size is.1 says

pub returns-clause-key_size : goal.returns-clause-key_size
returns-clause-key_size c = λ number key usage confounder payload octets size is says. is.2.1 ∙ etype_size key_octets_of number is.0 size is.1 says
