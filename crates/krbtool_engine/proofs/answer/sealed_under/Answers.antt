use Rattle.std.proofs.Common.{◌∙◌, sym, ap, subst}
use Rattle.krb_crypto.specs.BySuite.{IsSealed, key_octets_of}
use Rattle.krb_crypto.specs.declared.cipher_suite.CipherSuite.{CipherSuite}
use Rattle.krbtool_engine.proofs.Borrowed.{borrowed_suite}
use Rattle.krbtool_engine.proofs.answer.sealed_under.Goals as goal

pub returns-clause-only : goal.returns-clause-only
returns-clause-only g c answer is =
    let key = c.args.key.now in
    c.sealed.ensures.only is.0 answer is.1 is.2 (is.3 ∙ sym (ap key_octets_of (borrowed_suite _ _ _ _)))
    (subst (λ (suite : CipherSuite). IsSealed suite key.octets.items key.usage c.args.confounder.now (g.T.DerEncode.enc is.0) answer) (sym (borrowed_suite _ _ _ _)) is.4)
