use Rattle.std.proofs.Common.{◌≡◌, ◌∙◌, ap, sym}
use Rattle.krb_accept.proofs.Suites.{one_suite}
use Rattle.krb_crypto.specs.BySuite.{key_octets_of}
use Rattle.krb_c_client.proofs.Counting.{written_begun}
use Rattle.krb_c_client.proofs.Keeping.{fits, octets_read}
use Rattle.krb_c_client.proofs.laws.what_is_kept_is_read.Goals as goal

pub returns-clause-key : goal.returns-clause-key
returns-clause-key c = λ offset nonce key read size is.
    let same : read.suite ≡ key.suite = one_suite read.suite key.suite is.1 in
    (same, is.2 ∙ octets_read key.octets.items (key_octets_of read.suite) (fits read.suite) (size ∙ ap key_octets_of (sym same)))

pub returns-clause-begun : goal.returns-clause-begun
returns-clause-begun c = written_begun

pub returns-clause-not_unbegun : goal.returns-clause-not_unbegun
returns-clause-not_unbegun c = λ offset nonce key blank. written_begun offset nonce key blank.2
