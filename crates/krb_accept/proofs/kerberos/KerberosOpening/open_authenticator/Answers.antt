use Rattle.std.proofs.Common.{◌≡◌, pos, ap, ◌∙◌, rules}
use Rattle.krb_crypto.specs.Suites.{etype}
use Rattle.krb_accept.specs.Fields.{authenticator_of}
use Rattle.krb_accept.proofs.Found.{authenticator_found, authenticator_lost}
use Rattle.krb_accept.proofs.kerberos.KerberosOpening.open_authenticator.Goals as goal

pub returns-in-Some-2 : goal.returns-in-Some-2
returns-in-Some-2 c =
    let is_key : c.octets_of-octets.result.now ≡ c.args.key.now.key_value = search rules in
    let is_cipher : c.octets_of-cipher.result.now ≡ c.args.request.now.authenticator.cipher = search rules in
    let of_suite : c.args.key.now.key_type ≡ pos (etype c.in-Some.suite) = search rules in
    authenticator_found _ c.args.key.now c.args.request.now c.in-Some.suite c.in-Some-2.value c.octets_of-octets.result.now c.octets_of-cipher.result.now c.authenticator_of.result
    is_key is_cipher of_suite (rw c.in-Some-2.is at c.in_ok-value.ensures) (c.authenticator_of.ensures ∙ ap authenticator_of c.value.view_is)

pub returns-in-None : goal.returns-in-None
returns-in-None c =
    let is_key : c.octets_of-octets.result.now ≡ c.args.key.now.key_value = search rules in
    let is_cipher : c.octets_of-cipher.result.now ≡ c.args.request.now.authenticator.cipher = search rules in
    let of_suite : c.args.key.now.key_type ≡ pos (etype c.in-Some.suite) = search rules in
    authenticator_lost _ c.args.key.now c.args.request.now c.in-Some.suite c.octets_of-octets.result.now c.octets_of-cipher.result.now
    is_key is_cipher of_suite (rw c.in-None.is at c.in_ok-value.ensures)
