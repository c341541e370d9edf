-- What is asked of a message's octets by the row of its type in the table of `krb_schema` (RFC 4120, 5.10).
use Rattle.std.specs.Prelude.{◌≡◌, ◌⊎◌, ℕ, ℤ, List, [], codes}
use Rattle.krb_schema.specs.declared.item.Fault.{Fault}
use Rattle.krb_schema.specs.declared.shape.Name.{Name}
use Rattle.krb_schema.specs.declared.shape.Schema.{Schema}
use Rattle.krb_schema.specs.Faults.{IsFault, IsWholeFault}
use Rattle.krb_schema.specs.Forests.{Forest, enc}
use Rattle.krb_schema.specs.Shapes.{IsElement, IsNone}
use Rattle.krb_c_calls.specs.Items.{IsType, fault_status}
use Rattle.krb_c_calls.specs.Kinds.{IsNoKind, number_of}
use Rattle.krb_c_calls.specs.declared.parts.kind.MessageKind.{MessageKind}
use Rattle.krb_c_calls.specs.declared.parts.kind.MessageKind.TheVariants as kind

-- what its standard calls it
abbrev pub type_name : MessageKind → List ℕ
type_name kind.Ticket = codes "Ticket"
type_name kind.Authenticator = codes "Authenticator"
type_name kind.EncTicketPart = codes "EncTicketPart"
type_name kind.AsReq = codes "AS-REQ"
type_name kind.AsRep = codes "AS-REP"
type_name kind.TgsReq = codes "TGS-REQ"
type_name kind.TgsRep = codes "TGS-REP"
type_name kind.ApReq = codes "AP-REQ"
type_name kind.ApRep = codes "AP-REP"
type_name kind.KrbPriv = codes "KRB-PRIV"
type_name kind.KrbCred = codes "KRB-CRED"
type_name kind.EncAsRepPart = codes "EncASRepPart"
type_name kind.EncTgsRepPart = codes "EncTGSRepPart"
type_name kind.EncApRepPart = codes "EncAPRepPart"
type_name kind.EncKrbPrivPart = codes "EncKrbPrivPart"
type_name kind.EncKrbCredPart = codes "EncKrbCredPart"
type_name kind.KrbError = codes "KRB-ERROR"

-- the octets are one element of this row, all of them
abbrev pub IsElementOf : Schema → ℕ → Name → List ℕ → Type 0
IsElementOf schema row name octets = (f : Forest) × IsElement 64 schema row name [] f × (octets ≡ enc f)

-- they are none, and this is their first fault
pub record IsFaulty (schema : Schema) (row : ℕ) (name : Name) (octets : List ℕ) (fault : Fault) : Type 0 where
  pub none : IsNone (IsElement 64 schema row name []) octets
  pub first : IsWholeFault (IsElement 64 schema row name []) (IsFault 64 schema row name []) 0 octets fault

-- the octets are one element of the row of this name (0), or else the status is that of their first fault
abbrev pub IsRowReading : List ℕ → List ℕ → ℕ → Type 0
IsRowReading row_name octets status = (schema : Schema) × (row : ℕ) × (name : Name) × IsType row_name schema row name
    × (((status ≡ 0) × IsElementOf schema row name octets)
    ⊎ ((fault : Fault) × IsFaulty schema row name octets fault × (status ≡ fault_status fault)))

-- the octets are read by the row of the type of this number; no type has it (3)
abbrev pub IsRowChecked : ℤ → List ℕ → ℕ → Type 0
IsRowChecked number octets status =
    ((kind : MessageKind) × (number_of kind ≡ number) × IsRowReading (type_name kind) octets status)
    ⊎ (IsNoKind number × (status ≡ 3))
