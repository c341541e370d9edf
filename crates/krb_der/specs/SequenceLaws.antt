-- What a struct keeps that is made of the fields of a sequence, by the ghost members of its `Sequence` and of the `Fields`
-- that these are.
use Rattle.std.specs.Prelude.{◌≡◌}
use Rattle.krb_der_core.specs.Tlv.{tlv}
use Rattle.krb_der_core.specs.Encoding.{OneValue}
use Rattle.krb_der.specs.declared.sequence.Sequence.{Ghosts as SequenceOf}
use Rattle.krb_der.specs.declared.sequence.Fields.{Ghosts as FieldsOf}
use Rattle.krb_der.specs.Composite.{nothing}
use Rattle.krb_der.specs.FieldLaws.{sequence_one_value}

-- Holds of a struct each of whose fields is a value of its type.
abbrev pub values_of : {A F : Type 0} → SequenceOf A F → FieldsOf F → A → Type 0
values_of s f v = f.are_values (s.fields v)

-- A sequence decides the struct, where the struct is made of its fields and each optional field is distinguished from what follows.
pub one_value_of : {A F : Type 0} (s : SequenceOf A F) (f : FieldsOf F) → ((v : A) → s.with_fields (s.fields v) ≡ v) → f.distinguished nothing
    → OneValue (λ v. f.are_values (s.fields v)) (λ v. tlv 48 (f.octets (s.fields v)))
one_value_of s f same is_apart = sequence_one_value s.fields s.with_fields same f.distinguished f.are_values f.octets f.one_reading is_apart
