use Rattle.std.proofs.Common.{ap, arith, length}
use Rattle.krb_c_accept.proofs.Seeds.{seed_suffices}
use Rattle.krb_c_accept.proofs.own_subkey.subkey_of.Goals as goal

pub random_to_key-requires : goal.random_to_key-requires
random_to_key-requires c =
    omega (arith, seed_suffices c.args.suite.now c.args.random.now c.requires, ap length c.seed_in.ensures, c.in_ok-seed.ensures.len)
