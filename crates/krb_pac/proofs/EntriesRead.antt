-- What the loop over the entries keeps.
use Rattle.std.proofs.Common.{◌≡◌, ℕ, ◌+◌, ◌*◌, List, length}
use Rattle.krb_pac.specs.Layout.{Buffer, Buffers}

pub record EntriesRead (b : List ℕ) (position i : ℕ) (ps : List Buffer) : Type 0 where
  pub place : position ≡ 8 + 16 * length ps
  pub count : length ps ≡ i
  pub buffers : Buffers b 0 ps
