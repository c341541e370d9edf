use Rattle.std.proofs.Common.{suc, take, drop}
use Rattle.std.proofs.Math.Seq.{split_at}
use Rattle.krb_crypto.specs.declared.cipher_suite.CipherSuite.TheVariants.{Aes128CtsHmacSha196}
use Rattle.krb_client.specs.KeyHints.{HasEntry}
use Rattle.krb_client.proofs.Firsts.{none_has, none_next}
use Rattle.krb_client.proofs.keys.hint.hint_among.Goals as goal

pub returns-in-Some : goal.returns-in-Some
returns-in-Some c = record {
  is_suite = record {
    front = take c.loop-suite.suite-index c.args.suites.now;
    back = drop (suc c.loop-suite.suite-index) c.args.suites.now;
    among = split_at c.args.suites.now c.loop-suite.suite-index Aes128CtsHmacSha196 c.loop-suite-test.true;
    none_before = c.loop-suite.invariant;
    has = (c.in-Some.entry.now, c.in-Some.ensures);
  };
  is_entry = c.in-Some.ensures;
}

pub loop-suite-preserved : goal.loop-suite-preserved
loop-suite-preserved c =
    none_next (HasEntry c.args.entries.now) c.args.suites.now c.loop-suite.suite-index Aes128CtsHmacSha196 c.loop-suite-test.true c.loop-suite.invariant
    (none_has c.args.entries.now _ c.in_default.ensures)
