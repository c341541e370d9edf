use Rattle.std.proofs.Common.{[]}
use Rattle.krb_schema.specs.Shapes.{IsElement}
use Rattle.krb_schema.proofs.Determined.{one_octets}
use Rattle.krb_schema.proofs.laws.items_determine_octets.Goals as goal

pub returns : goal.returns
returns c s t is are name called octets other items v w e =
    one_octets (IsElement 64 s is name []) (IsElement 64 t are called []) octets other items v w e
