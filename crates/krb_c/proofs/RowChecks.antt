-- What is read by the row of a type is read as the type.
use Rattle.std.proofs.Common.{◌≡◌, ◌⊎◌, inl, inr, ℕ, ◌<◌, ◌^◌, ap, sym, subst, ◌∙◌, List, length}
use Rattle.krb_der_core.specs.Encoding.{IsOctets}
use Rattle.krb_der_core.specs.declared.der.DerEncode.{Ghosts as EncodingOf}
use Rattle.krb_schema.specs.declared.item.Fault.{Fault}
use Rattle.krb_schema.specs.declared.shape.Name.{Name}
use Rattle.krb_schema.specs.declared.shape.Schema.{Schema}
use Rattle.krb_c_calls.specs.Items.{fault_status}
use Rattle.krb_c_calls.specs.MessageRules.{IsReading}
use Rattle.krb_c_calls.specs.RowReadings.{IsElementOf, IsFaulty, IsRowReading}
use Rattle.krb_show_row_laws.specs.Ties.{HasItsRow, IsRowOf}
use Rattle.krb_c.proofs.EncodingItems.{same_row}

module _ (octets : List ℕ) (small : IsOctets octets) (less : length octets < 2 ^ 64) where
  read_as : {A : Type 0} (t : EncodingOf A) (schema : Schema) (row : ℕ) (name : Name) (status : ℕ) → IsRowOf t schema row name
      → ((status ≡ 0) × IsElementOf schema row name octets) ⊎ ((fault : Fault) × IsFaulty schema row name octets fault × (status ≡ fault_status fault))
      → IsReading t octets status
  read_as t schema row name status law (inl (done, f)) = inl (done, law.walked octets small f.0 f.1 f.2)
  read_as t schema row name status law (inr (fault, faulty, is)) =
      let w = law.refused octets fault small less faulty.first in
      inr (inr (w.0, is ∙ ap fault_status w.2, w.3.not_read, w.3.no_device))

  pub reading : {A : Type 0} (t : EncodingOf A) (row_name : List ℕ) (status : ℕ) → HasItsRow t row_name → IsRowReading row_name octets status
      → IsReading t octets status
  reading t row_name status has (schema, row, name, type, r) =
      let same = same_row has.0 row (sym has.1 ∙ type.row_is) in
      read_as t schema row name status (subst (λ (n : ℕ). IsRowOf t schema n name) same (has.2 schema name type.table)) r
