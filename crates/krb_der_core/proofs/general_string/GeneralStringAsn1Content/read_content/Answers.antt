use Rattle.std.proofs.Common.{arith}
use Rattle.std.proofs.lemmas.Str.{IsUtf8-from_ascii}
use Rattle.krb_der_core.proofs.general_string.GeneralStringAsn1Content.read_content.Goals as goal
use Rattle.krb_der_core.proofs.general_string.GeneralStringAsn1Content.read_content.Goals.{in_default-via-in-Ok+else-is_ascii, in_default-via-in_default}

pub returns-in_default-clause-rejected : goal.returns-in_default-clause-rejected
returns-in_default-clause-rejected c = λ v ascii same.
    elim c.in_default.branch [
      | in_default-via-in-Ok+else-is_ascii w ↦ grind arith
      | in_default-via-in_default w ↦ grind (arith, IsUtf8-from_ascii v ascii)
    ]
