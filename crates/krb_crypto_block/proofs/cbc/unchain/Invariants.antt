use Rattle.std.proofs.Common.{◌≡◌, ◌-◌, ◌*◌, ◌/◌, ◌++◌, take, drop, length}
use Rattle.krb_crypto_block.specs.Linked.{unlinked, last_block}
use Rattle.krb_crypto_block.proofs.cbc.unchain.Given as goal

abbrev pub invariant-loop-i : goal.invariant-loop-i
invariant-loop-i g l =
    (take (2 * g.row.SIZE * l.i) l.octets ++ unlinked g.row.SIZE (g.C.BlockDecrypt.decrypts l.cipher) (length l.fn.octets / g.row.SIZE - 2 * l.i) l.before (drop (2 * g.row.SIZE * l.i) l.fn.octets)
    ≡ unlinked g.row.SIZE (g.C.BlockDecrypt.decrypts l.cipher) (length l.fn.octets / g.row.SIZE) l.first l.fn.octets)
    × (drop (2 * g.row.SIZE * l.i) l.octets ≡ drop (2 * g.row.SIZE * l.i) l.fn.octets)
    × (last_block g.row.SIZE (length l.fn.octets / g.row.SIZE - 2 * l.i) l.before (drop (2 * g.row.SIZE * l.i) l.fn.octets)
    ≡ last_block g.row.SIZE (length l.fn.octets / g.row.SIZE) l.first l.fn.octets)
