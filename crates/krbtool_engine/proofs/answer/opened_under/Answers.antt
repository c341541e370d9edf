use Rattle.std.proofs.Common.{◌∙◌, sym, ap, subst}
use Rattle.krb_crypto_message.specs.Sealing.{IsGiven}
use Rattle.krb_crypto.specs.BySuite.{IsSealed, key_octets_of, confounder_octets_of}
use Rattle.krb_crypto.specs.declared.cipher_suite.CipherSuite.{CipherSuite}
use Rattle.krbtool_engine.proofs.Borrowed.{borrowed_suite}
use Rattle.krbtool_engine.proofs.answer.opened_under.Goals as goal

pub returns-clause-only : goal.returns-clause-only
returns-clause-only g c answer is =
    let key = c.args.key.now in
    rw is.2 (c.opened.ensures.only is.0 is.1 (is.3 ∙ sym (ap key_octets_of (borrowed_suite _ _ _ _)))
    (subst (λ (suite : CipherSuite). IsGiven (IsSealed suite key.octets.items key.usage) (confounder_octets_of suite) c.args.input.now (g.T.DerEncode.enc is.0)) (sym (borrowed_suite _ _ _ _)) is.4))
