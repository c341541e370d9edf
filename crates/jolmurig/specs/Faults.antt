-- What is wrong with arguments, as text.
use Rattle.std.specs.Prelude.{ℕ, List, ◌++◌, codes}
use Rattle.krb_show_text.specs.Text.{escaped}
use Rattle.krb_show_text.specs.declared.escape.Style.TheVariants as style
use Rattle.jolmurig_command.specs.declared.fault.Fault.{Fault}
use Rattle.jolmurig_command.specs.declared.fault.Fault.TheVariants as fault

-- an octet of an argument that is not printable ASCII is `\xNN`
abbrev pub fault_text : Fault → List ℕ
fault_text fault.NoCommand = codes "a command is missing"
fault_text (fault.UnknownCommand word) = codes "unknown command " ++ escaped style.Plain word
fault_text (fault.UnknownOption word) = codes "unknown option " ++ escaped style.Plain word
fault_text fault.Empty = codes "an argument is empty"
fault_text (fault.Unexpected word) = codes "unexpected argument " ++ escaped style.Plain word
fault_text (fault.NoValue word) = escaped style.Plain word ++ codes " needs a value"
fault_text (fault.Twice word) = escaped style.Plain word ++ codes " is given twice"
fault_text fault.TypeAndTree = codes "--as and --tree exclude each other"
fault_text fault.JsonAndType = codes "--json and --type exclude each other"
fault_text fault.NoType = codes "check needs --as TYPE"
fault_text fault.NoFormat = codes "convert needs kirbi or ccache"
fault_text fault.NoDirection = codes "proxy needs request or reply"
fault_text fault.NoKeytab = codes "accept needs --keytab FILE"
fault_text fault.OtherPac = codes "--pac needs required or ignored"
