use Rattle.std.proofs.Common.{take}
use Rattle.std.specs.List.{AllByRecursion}
use Rattle.krb_der_core.specs.Encoding.{IsOctets}
use Rattle.krb_types.specs.declared.data_types.pre_authentication.PaData.{PaData}
use Rattle.krb_build.proofs.messages.known.known_elements.Given as goal

-- the elements so far are values
abbrev pub invariant-loop-element : goal.invariant-loop-element
invariant-loop-element l = AllByRecursion (λ (v : PaData). Unit {0} × IsOctets v.padata_data) (take l.element-index l.elements)
