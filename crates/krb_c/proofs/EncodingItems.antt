-- Octets that are the encoding of a type's value have items by its row: only memory may be wanting.
use Rattle.std.proofs.Common.{◌≡◌, ℕ, List, [], Some, None, sym, subst, ◌∙◌, inl, inr, arith}
use Rattle.std.proofs.lemmas.Grind.{common_steps}
use Rattle.krb_der_core.specs.declared.der.DerEncode.{Ghosts as EncodingOf}
use Rattle.krb_schema.specs.declared.item.Fault.{Fault}
use Rattle.krb_schema.specs.declared.item.Fault.TheVariants as faults
use Rattle.krb_schema.specs.declared.shape.Name.{Name}
use Rattle.krb_schema.specs.declared.shape.Schema.{Schema}
use Rattle.krb_schema.specs.Shapes.{IsElement, IsNone}
use Rattle.krb_show_row_laws.specs.Ties.{HasItsRow, IsEncoding}
use Rattle.krb_c_calls.specs.Items.{IsFaultOf, IsType, RefusesItems, fault_status}

pub same_row : (a b : ℕ) → Some a ≡ Some b → a ≡ b
same_row a b e = grind (arith, common_steps)

no_row : (a : ℕ) → None ≡ Some a → ⊥
no_row a e = grind (arith, common_steps)

module _ {A : Type 0} (t : EncodingOf A) (type_name octets : List ℕ) (has : HasItsRow t type_name) (is : IsEncoding t octets) where
  none_refused : (schema : Schema) (row : ℕ) (name : Name) → IsType type_name schema row name → IsNone (IsElement 64 schema row name []) octets → ⊥
  none_refused schema row name type none =
      let same = same_row row has.0 (sym type.row_is ∙ has.1) in
      let P : ℕ → Type 0 = λ r. IsNone (IsElement 64 schema r name []) octets in
      (has.2 schema name type.table).read octets is (subst P same none)

  by_fault : (fault : Fault) (status : ℕ) → IsFaultOf type_name octets fault → status ≡ fault_status fault → status ≡ 2
  by_fault faults.OutOfMemory status of is_status = is_status
  by_fault faults.NoRow status (schema, row, name, type, first, none) is_status = absurd (none_refused schema row name type (none (λ e. grind (arith, common_steps))))
  by_fault (faults.TooDeep at) status (schema, row, name, type, first, none) is_status = absurd (none_refused schema row name type (none (λ e. grind (arith, common_steps))))
  by_fault (faults.Refused why at) status (schema, row, name, type, first, none) is_status = absurd (none_refused schema row name type (none (λ e. grind (arith, common_steps))))

  by_refusal : (status offset : ℕ) → RefusesItems type_name octets status offset → status ≡ 2
  by_refusal status offset (inl absent) = absurd (no_row has.0 (sym absent.0 ∙ has.1))
  by_refusal status offset (inr (fault, of, is_status, at)) = by_fault fault status of is_status

pub memory_alone : {A : Type 0} (t : EncodingOf A) (type_name octets : List ℕ) (status offset : ℕ) → HasItsRow t type_name → IsEncoding t octets
    → RefusesItems type_name octets status offset → status ≡ 2
memory_alone t type_name octets status offset has is refuses = by_refusal t type_name octets has is status offset refuses
