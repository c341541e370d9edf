use Rattle.std.proofs.Common.{◌≡◌, ◌-◌, ◌*◌, ◌/◌, ◌++◌, take, drop, length}
use Rattle.krb_crypto_block.specs.Linked.{linked, last_linked}
use Rattle.krb_crypto_block.proofs.cbc.chain.Given as goal

abbrev pub invariant-loop-i : goal.invariant-loop-i
invariant-loop-i g l =
    (take (g.row.SIZE * l.i) l.octets ++ linked g.row.SIZE (g.C.BlockEncrypt.encrypts l.cipher) (length l.fn.octets / g.row.SIZE - l.i) l.before (drop (g.row.SIZE * l.i) l.fn.octets)
    ≡ linked g.row.SIZE (g.C.BlockEncrypt.encrypts l.cipher) (length l.fn.octets / g.row.SIZE) l.first l.fn.octets)
    × (drop (g.row.SIZE * l.i) l.octets ≡ drop (g.row.SIZE * l.i) l.fn.octets)
    × (last_linked g.row.SIZE (g.C.BlockEncrypt.encrypts l.cipher) (length l.fn.octets / g.row.SIZE - l.i) l.before (drop (g.row.SIZE * l.i) l.fn.octets)
    ≡ last_linked g.row.SIZE (g.C.BlockEncrypt.encrypts l.cipher) (length l.fn.octets / g.row.SIZE) l.first l.fn.octets)
