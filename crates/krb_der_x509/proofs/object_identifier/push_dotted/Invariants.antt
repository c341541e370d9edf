use Rattle.std.proofs.Common.{◌≡◌, ◌++◌, take}
use Rattle.krb_der_x509.specs.ObjectIdentifier.{dots_before}
use Rattle.krb_der_x509.proofs.object_identifier.push_dotted.Given as goal

-- the arcs so far are written
abbrev pub invariant-loop-arc : goal.invariant-loop-arc
invariant-loop-arc l = l.text.bytes.items ≡ l.initial.text.bytes.items ++ dots_before (take l.arc-index l.arcs)
