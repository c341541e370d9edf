use Rattle.std.proofs.Common.{◌≡◌, ◌+◌, length}
use Rattle.krb_c_pages.specs.Decoding.{Decoding, decoded}
use Rattle.krb_c_pages.proofs.decoded.decoding.tell_each.Given as goal

abbrev pub invariant-items : goal.invariant-items
invariant-items l = record {
  goes_on : (end : Decoding) → decoded l.most l.octets l.index l.rest l.decoding end → decoded l.most l.octets 0 l.items l.fn.decoding end;
  within : l.index + length l.rest ≡ length l.items;
}

abbrev pub decreases-items : goal.decreases-items
decreases-items l = length l.rest
