use Rattle.std.proofs.Common.{◌≡◌, ◌*◌, ◌-◌, ◌^◌, ◌%◌, arith}
use Rattle.std.proofs.lemmas.Nat.{one_shl}
use Rattle.krb_crypto_block.proofs.DesRounds.{turned_is}
use Rattle.krb_crypto_block.proofs.des.key_schedule.turn_left.Goals as goal

pub returns-clause-value : goal.returns-clause-value
returns-clause-value c =
    let low : 1 * 2 ^ (28 - c.args.places) % 2 ^ 64 ≡ 2 ^ (28 - c.args.places) = one_shl (28 - c.args.places) 64 (omega arith) in
    let up : 1 * 2 ^ c.args.places % 2 ^ 64 ≡ 2 ^ c.args.places = one_shl c.args.places 64 (omega arith) in
    rw (low, up) (turned_is 28 c.args.half c.args.places (28 - c.args.places) (omega arith) c.requires.half).0

pub returns-clause-small : goal.returns-clause-small
returns-clause-small c =
    let low : 1 * 2 ^ (28 - c.args.places) % 2 ^ 64 ≡ 2 ^ (28 - c.args.places) = one_shl (28 - c.args.places) 64 (omega arith) in
    let up : 1 * 2 ^ c.args.places % 2 ^ 64 ≡ 2 ^ c.args.places = one_shl c.args.places 64 (omega arith) in
    rw (low, up) (turned_is 28 c.args.half c.args.places (28 - c.args.places) (omega arith) c.requires.half).1
