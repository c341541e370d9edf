use Rattle.std.proofs.Common.{length, ap, ◌∙◌}
use Rattle.krb_crypto.specs.BySuite.{checksum_key_octets_of}
use Rattle.krb_c_calls.specs.Sizes.{sum_octets_of}
use Rattle.krb_c_calls.proofs.Lengths.{sum_length, checksum_size}
use Rattle.krb_c_calls.proofs.laws.checksum.Goals as goal

pub returns-clause-by_suite : goal.returns-clause-by_suite
returns-clause-by_suite c = λ suite key usage message octets is. ap length is.1 ∙ sum_length suite key usage message

pub returns-clause-size : goal.returns-clause-size
returns-clause-size c = λ number key usage message octets size is says.
    ap length is.2.1 ∙ sum_length is.0 key usage message ∙ checksum_size sum_octets_of number is.0 size is.1 says

pub returns-clause-key_size : goal.returns-clause-key_size
returns-clause-key_size c = λ number key usage message octets size is says. is.2.0 ∙ checksum_size checksum_key_octets_of number is.0 size is.1 says
