use Rattle.std.proofs.Common.{◌≡◌, ◌-◌, ◌*◌, ◌≤◌, length}
use Rattle.krb_pac_contents.specs.Referents.{element_pointers_of}
use Rattle.krb_pac_contents.proofs.referents.element_pointers.Given as goal

abbrev pub invariant-elements : goal.invariant-elements
invariant-elements l = record {
  room : 8 * (l.count - l.n) ≤ length l.rest;
  same : element_pointers_of l.fn.count l.fn.octets ≡ element_pointers_of (l.count - l.n) l.rest;
}
