use Rattle.std.proofs.Common.{◌≡◌, ◌+◌, ◌-◌, ◌*◌, ◌/◌, ◌%◌, ◌≤◌, length}
use Rattle.krb_crypto_block.specs.Fold.{number, concatenated, residue}
use Rattle.krb_crypto_block.proofs.FoldWorth.{worth}
use Rattle.krb_crypto_block.proofs.Folding.{Folding}
use Rattle.krb_crypto_block.proofs.nfold.fold_into.Given as goal

abbrev pub invariant-turns : goal.invariant-turns
invariant-turns l = record {
  at : l.place ≡ (l.back * length l.input) % l.size;
  folding : Folding l.size (worth l.size - 1) (concatenated (number l.input) (8 * length l.input) l.count) (l.back * length l.input) (number l.sum) l.carry;
}

abbrev pub invariant-octets : goal.invariant-octets
invariant-octets l = record {
  from : l.from ≡ ((l.turn + 5 * l.turn / 8) % length l.input + l.e) % length l.input;
  at : l.place ≡ (l.back * length l.input + l.e) % l.size;
  folding : Folding l.size (worth l.size - 1) (concatenated (number l.input) (8 * length l.input) l.count) (l.back * length l.input + l.e) (number l.sum) l.carry;
}

abbrev pub invariant-last : goal.invariant-last
invariant-last l = record {
  one : l.carry ≤ 1;
  value : number l.sum + l.carry * worth l.i ≡ residue (worth l.size - 1) (concatenated (number l.input) (8 * length l.input) l.count);
}
