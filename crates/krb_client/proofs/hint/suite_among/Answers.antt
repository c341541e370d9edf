use Rattle.std.proofs.Common.{suc, take, drop}
use Rattle.std.proofs.Math.Seq.{split_at}
use Rattle.krb_crypto.specs.declared.cipher_suite.CipherSuite.TheVariants.{Aes128CtsHmacSha196}
use Rattle.krb_client.proofs.hint.suite_among.Goals as goal

pub returns-then-is_number_of : goal.returns-then-is_number_of
returns-then-is_number_of c = record {
  front = take c.loop-suite.suite-index c.args.suites.now;
  back = drop (suc c.loop-suite.suite-index) c.args.suites.now;
  among = split_at c.args.suites.now c.loop-suite.suite-index Aes128CtsHmacSha196 c.loop-suite-test.true;
  none_before = c.loop-suite.invariant;
  has = rw c.if-is_number_of.true at c.is_number_of.ensures;
}
