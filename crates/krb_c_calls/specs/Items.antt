-- Items as C has them, and what is answered of octets by the types of the standards.
use Rattle.std.specs.Prelude.{◌≡◌, ◌⊎◌, ℕ, ℤ, pos, negsuc, min, List, [], Option, Some, None, map, All}
use Rattle.std.specs.List.{slice_get}
use Rattle.krb_registry.specs.declared.kind.Kind.{Kind}
use Rattle.krb_registry.specs.declared.kind.Kind.TheVariants as kinds
use Rattle.krb_registry.specs.Names.{IsRow, table}
use Rattle.krb_schema.specs.declared.item.Fault.{Fault}
use Rattle.krb_schema.specs.declared.item.Fault.TheVariants as faults
use Rattle.krb_schema.specs.declared.item.Form.{Form}
use Rattle.krb_schema.specs.declared.item.Form.TheVariants as form
use Rattle.krb_schema.specs.declared.item.Item.{Item}
use Rattle.krb_schema.specs.declared.item.Node.{Node}
use Rattle.krb_schema.specs.declared.item.Node.TheVariants as nodes
use Rattle.krb_schema.specs.declared.path.PathError.TheVariants as why
use Rattle.krb_schema.specs.declared.shape.Leaf.{Leaf}
use Rattle.krb_schema.specs.declared.shape.Leaf.TheVariants as leaves
use Rattle.krb_schema.specs.declared.shape.Name.{Name}
use Rattle.krb_schema.specs.declared.shape.Role.{Role}
use Rattle.krb_schema.specs.declared.shape.Role.TheVariants as roles
use Rattle.krb_schema.specs.declared.shape.Schema.{Schema}
use Rattle.krb_schema.specs.Faults.{IsFault, IsWholeFault, OrMemory}
use Rattle.krb_schema.specs.Named.{IsKerberos, row_in}
use Rattle.krb_schema.specs.Names.{number_from}
use Rattle.krb_schema.specs.NameTable.{name_table}
use Rattle.krb_schema.specs.Paths.{IsFound, RefusesPath}
use Rattle.krb_schema.specs.Rules.{content_of}
use Rattle.krb_schema.specs.Shapes.{IsElement, IsNone}
use Rattle.krb_schema.specs.Types.{types}
use Rattle.krb_schema.specs.Walks.{Walked}
use Rattle.krb_c_calls.specs.Statuses.{der_refusal, refusal_status}
use Rattle.krb_c_calls.specs.ContentNumbers.{IsContentNumber}
use Rattle.krb_c_calls.specs.Handing.{ArePut}
use Rattle.krb_c_calls.specs.declared.items.record.ItemRecord.{ItemRecord}
use Rattle.krb_c_calls.specs.declared.call_error.CallError.{CallError}
use Rattle.krb_c_calls.specs.declared.call_error.CallError.TheVariants as refusals

-- ---- an item

abbrev pub leaf_number : Leaf → ℕ
leaf_number leaves.Integer = 1
leaf_number leaves.Unsigned = 2
leaf_number (leaves.Number n) = 3
leaf_number leaves.Microseconds = 4
leaf_number leaves.Flags = 5
leaf_number leaves.Bits = 6
leaf_number leaves.Text = 7
leaf_number leaves.Component = 8
leaf_number leaves.Time = 9
leaf_number leaves.Octets = 10
leaf_number leaves.Secret = 11
leaf_number leaves.Cipher = 12
leaf_number leaves.Truth = 13
leaf_number leaves.Identifier = 14
leaf_number leaves.Any = 15

abbrev pub node_number : Node → ℕ
node_number nodes.Struct = 1
node_number nodes.List = 2
node_number nodes.FilledList = 3
node_number nodes.Wrap = 4

abbrev pub form_number : Form → ℕ
form_number (form.Leaf leaf) = 1
form_number (form.Begin node) = 2
form_number (form.End node) = 3

abbrev pub kind_number : Form → ℕ
kind_number (form.Leaf leaf) = leaf_number leaf
kind_number (form.Begin node) = node_number node
kind_number (form.End node) = node_number node

abbrev pub registry_number : Option Kind → ℤ
registry_number None = negsuc 0
registry_number (Some kinds.EncryptionType) = pos 0
registry_number (Some kinds.ChecksumType) = pos 1
registry_number (Some kinds.NameType) = pos 2
registry_number (Some kinds.MessageType) = pos 3
registry_number (Some kinds.ErrorCode) = pos 4
registry_number (Some kinds.PaDataType) = pos 5
registry_number (Some kinds.AuthorizationDataType) = pos 6
registry_number (Some kinds.AddressType) = pos 7
registry_number (Some kinds.TransitedEncodingType) = pos 8
registry_number (Some kinds.LastRequestType) = pos 9
registry_number (Some kinds.TicketFlag) = pos 10
registry_number (Some kinds.KdcOption) = pos 11
registry_number (Some kinds.ApOption) = pos 12
registry_number (Some kinds.KeyUsage) = pos 13
registry_number (Some kinds.PacBufferType) = pos 14
registry_number (Some kinds.GssFlag) = pos 15
registry_number (Some kinds.NegotiationState) = pos 16
registry_number (Some kinds.ContextFlag) = pos 17
registry_number (Some kinds.TokenFlag) = pos 18

-- what programs do with an element
abbrev pub role_number : Role → ℕ
role_number roles.None = 0
role_number roles.AuthorizationData = 1
role_number roles.Checksum = 2
role_number roles.PrefixedMessage = 3
role_number roles.MechanismToken = 4
role_number roles.MechanismListMic = 5
role_number roles.Key = 6
role_number roles.EncTicketPart = 7
role_number roles.EncAsRepPart = 8
role_number roles.EncTgsRepPart = 9
role_number roles.Authenticator = 10
role_number roles.RequestAuthorizationData = 11
role_number roles.EncApRepPart = 12
role_number roles.EncKrbPrivPart = 13
role_number roles.EncKrbCredPart = 14
role_number roles.PaEncTsEnc = 15
role_number roles.Salt = 16
role_number roles.ClientRealm = 17
role_number roles.ClientName = 18
role_number roles.ServerRealm = 19
role_number roles.ServerName = 20

-- the number of a name, or 4294967295 of none
abbrev pub numbered : Option ℕ → ℕ
numbered None = 4294967295
numbered (Some n) = min n 4294967295

abbrev pub name_number : List ℕ → ℕ
name_number name = numbered (number_from 0 name_table name)

abbrev pub record_of : Item → ItemRecord
record_of i = record {
  offset = i.offset;
  size = i.size;
  form = form_number i.form;
  kind = kind_number i.form;
  name = name_number i.name.text.now;
  registry = registry_number i.name.registry;
  depth = i.depth;
  tag = i.tag;
  role = role_number i.name.role;
  reserved = 0;
}

-- nothing is told
abbrev pub no_item : ItemRecord
no_item = record { offset = 0; size = 0; form = 0; kind = 0; name = 0; registry = pos 0; depth = 0; tag = 0; role = 0; reserved = 0 }

-- ---- names of numbers

-- the registry of this number has this name for a number
abbrev pub IsNumberName : ℤ → ℤ → List ℕ → Type 0
IsNumberName registry number name = (kind : Kind) × (registry ≡ registry_number (Some kind)) × IsRow kind number name

-- no registry has the number, or the registry has no name for it
abbrev pub HasNoNumberName : ℤ → ℤ → Type 0
HasNoNumberName registry number = (kind : Kind) → registry ≡ registry_number (Some kind) → All (λ row. ¬ row.0 ≡ number) (table kind)

abbrev pub RefusesNumberName : ℤ → ℤ → ℕ → Type 0
RefusesNumberName registry number status = (status ≡ 3) × HasNoNumberName registry number

-- ---- the walk

-- the type of this name in the table of the standards' types, as items are called that are of it
pub record IsType (type_name : List ℕ) (schema : Schema) (row : ℕ) (name : Name) : Type 0 where
  pub table : IsKerberos schema
  pub row_is : row_in types type_name ≡ Some row
  pub text : name.text.now ≡ type_name
  pub registry : name.registry ≡ None

-- the items of the octets, which are an element of the type of this name
abbrev pub AreItems : List ℕ → List ℕ → List Item → Type 0
AreItems type_name octets items = (schema : Schema) × (row : ℕ) × (name : Name) × IsType type_name schema row name
    × Walked (IsElement 64 schema row name []) octets 0 0 [] items

-- which refusal it is
abbrev pub fault_refusal : Fault → CallError
fault_refusal faults.OutOfMemory = refusals.Memory
fault_refusal faults.NoRow = refusals.Never
fault_refusal (faults.TooDeep offset) = refusals.TooDeep
fault_refusal (faults.Refused why offset) = der_refusal why

-- 2 out of memory; 22 of elements too deep in one another; 12 of what no call meets; else that of the octets' error
abbrev pub fault_status : Fault → ℕ
fault_status fault = refusal_status (fault_refusal fault)

-- how many octets stand before the first error
abbrev pub fault_offset : Fault → ℕ
fault_offset faults.OutOfMemory = 0
fault_offset faults.NoRow = 0
fault_offset (faults.TooDeep offset) = offset
fault_offset (faults.Refused why offset) = offset

-- the first fault of octets as an element of the type of this name, which they are then not, or that memory was wanting
abbrev pub IsFaultOf : List ℕ → List ℕ → Fault → Type 0
IsFaultOf type_name octets fault = (schema : Schema) × (row : ℕ) × (name : Name) × IsType type_name schema row name
    × OrMemory (IsWholeFault (IsElement 64 schema row name []) (IsFault 64 schema row name []) 0 octets) fault
    × ((fault ≡ faults.OutOfMemory → ⊥) → IsNone (IsElement 64 schema row name []) octets)

-- Why there are no items, and where: no type has the name (3); else the first fault.
abbrev pub RefusesItems : List ℕ → List ℕ → ℕ → ℕ → Type 0
RefusesItems type_name octets status offset =
    ((row_in types type_name ≡ None) × (status ≡ 3) × (offset ≡ 0))
    ⊎ ((fault : Fault) × IsFaultOf type_name octets fault × (status ≡ fault_status fault) × (offset ≡ fault_offset fault))

-- ---- all items

abbrev pub IsItemsAnswer : List ℕ → List ℕ → List ItemRecord → List ItemRecord → ℕ → ℕ → ℕ → Type 0
IsItemsAnswer type_name octets before after count offset status =
    ((items : List Item) × AreItems type_name octets items × ArePut (map record_of items) before after count status × (offset ≡ 0))
    ⊎ (RefusesItems type_name octets status offset × (count ≡ 0) × (after ≡ before))

-- ---- names

abbrev pub IsNameOf : ℕ → List ℕ → Type 0
IsNameOf number name = slice_get name_table number ≡ Some name

abbrev pub RefusesName : ℕ → ℕ → Type 0
RefusesName number status = (slice_get name_table number ≡ None) × (status ≡ 3)

-- ---- one item

-- the path leads to this item of the octets
abbrev pub LeadsTo : List ℕ → List ℕ → List ℕ → Item → Type 0
LeadsTo type_name path octets i = (items : List Item) × AreItems type_name octets items × IsFound path items i

-- Why it leads to none: the octets are refused; it is no path (3); there is no such field or element (20).
abbrev pub RefusesFinding : List ℕ → List ℕ → List ℕ → ℕ → Type 0
RefusesFinding type_name path octets status =
    ((offset : ℕ) × RefusesItems type_name octets status offset)
    ⊎ ((items : List Item) × AreItems type_name octets items
    × (((status ≡ 3) × RefusesPath path items why.NoPath) ⊎ ((status ≡ 20) × RefusesPath path items why.Absent)))

abbrev pub IsItemAnswer : List ℕ → List ℕ → List ℕ → ItemRecord → ℕ → Type 0
IsItemAnswer type_name path octets told status =
    ((status ≡ 0) × ((i : Item) × LeadsTo type_name path octets i × (told ≡ record_of i)))
    ⊎ (RefusesFinding type_name path octets status × (told ≡ no_item))

-- ---- its number

-- an element that is an INTEGER
abbrev pub IsInteger : Leaf → Type 0
IsInteger leaves.Integer = Unit {0}
IsInteger leaves.Unsigned = Unit {0}
IsInteger (leaves.Number n) = Unit {0}
IsInteger leaves.Microseconds = Unit {0}
IsInteger leaf = ⊥

abbrev pub HoldsNumber : Form → Type 0
HoldsNumber (form.Leaf leaf) = IsInteger leaf
HoldsNumber (form.Begin node) = ⊥
HoldsNumber (form.End node) = ⊥

-- The number of the item to which the path leads; that is no INTEGER (3); or the path leads to none.
abbrev pub IsItemNumber : List ℕ → List ℕ → List ℕ → ℤ → ℕ → Type 0
IsItemNumber type_name path octets number status =
    ((i : Item) × LeadsTo type_name path octets i
    × ((HoldsNumber i.form × IsContentNumber (content_of octets i) number status) ⊎ ((HoldsNumber i.form → ⊥) × (status ≡ 3) × (number ≡ pos 0))))
    ⊎ (RefusesFinding type_name path octets status × (number ≡ pos 0))
