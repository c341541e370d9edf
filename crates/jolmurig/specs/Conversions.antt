-- The input in another format, and why there is none.
use Rattle.std.specs.Prelude.{◌≡◌, ℕ, List, [], ◌∷◌, ◌++◌, None, codes}
use Rattle.std.specs.List.{flat_map}
use Rattle.krb_file_tools.specs.Fields.{name_of}
use Rattle.krb_file_tools.specs.declared.convert.error.ConvertError.{ConvertError}
use Rattle.krb_file_tools.specs.declared.convert.error.ConvertError.TheVariants as errors
use Rattle.krb_file_tools.specs.declared.convert.field.Field.{Field}
use Rattle.krb_show_any.specs.declared.error.PageError.TheVariants as page
use Rattle.krb_show_any.specs.declared.kind.Kind.TheVariants as kind
use Rattle.jolmurig.specs.Calls.{Converts, Refuses}
use Rattle.jolmurig_command.specs.declared.command.Format.{Format}
use Rattle.jolmurig.specs.declared.failure.Failure.{Failure}
use Rattle.jolmurig.specs.declared.failure.Failure.TheVariants as failure

-- the failure that an error of a conversion is: a KRB-CRED begins with 76, its part with 7d, a ticket with 61 (RFC 4120, 5.10)
abbrev pub failure_of_conversion : ConvertError → Failure
failure_of_conversion (errors.Kirbi why) = failure.Octets (kind.Application 0x76) (page.Der why) None
failure_of_conversion (errors.Part why) = failure.Octets (kind.Application 0x7d) (page.Der why) None
failure_of_conversion (errors.Ticket why) = failure.Octets (kind.Application 0x61) (page.Der why) None
failure_of_conversion (errors.Ccache why) = failure.Octets kind.Ccache (page.Ccache why) None
failure_of_conversion errors.OutOfMemory = failure.Memory
failure_of_conversion rule = failure.Convert rule

-- the line of what is left out
abbrev pub note_of : Field → List ℕ
note_of f = codes "jolmurig: left out: " ++ name_of f ++ 10 ∷ []

-- the octets in the format, and a line for each thing that is left out
abbrev pub IsConverted : Converts → Format → List ℕ → List ℕ → List ℕ → Type 0
IsConverted converts to octets made notes = (left_out : List Field) × converts to octets made left_out × (notes ≡ flat_map note_of left_out)

-- the first rule that the octets break
abbrev pub IsUnconverted : Refuses → Format → List ℕ → Failure → Type 0
IsUnconverted refuses to octets e = (why : ConvertError) × refuses to octets why × (e ≡ failure_of_conversion why)
