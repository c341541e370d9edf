use Rattle.std.proofs.Common.{◌≡◌, ◌+◌, ◌-◌, ◌*◌, ◌^◌, ◌<◌, min, length, drop, take}
use Rattle.krb_negoex.specs.Parts.{AllOf, total}
use Rattle.krb_negoex.proofs.vector.VecNegoexDataType.size.Given as goal

abbrev pub invariant-sizes : goal.invariant-sizes
invariant-sizes g l =
    let T = g.T.Lay.layout in
    let rest = drop l.element-index l.self.items in
    (l.size < 2 ^ 64) × (min (l.size + (T.width * length rest + total T.payload_size rest)) (2 ^ 64 - 1) ≡ min (8 + (T.width * length l.self.items + total T.payload_size l.self.items)) (2 ^ 64 - 1))
    × AllOf g.T.NegoexDataType.known (take l.element-index l.self.items)
