-- What the arguments after the program's name ask for.
use Rattle.std.specs.Prelude.{ℕ, Bool, true, false, ◌||◌, if◌then◌else◌, Option, Some, None, Result, Ok, Err, List, [], ◌∷◌, ◌++◌, codes}
use Rattle.jolmurig_command.specs.AcceptArguments.{accept_options}
use Rattle.jolmurig_command.specs.Accepts.{no_option}
use Rattle.jolmurig_command.specs.Faults.{and_then, stray, unexpected, unknown_command}
use Rattle.jolmurig_command.specs.Shows.{Show, nothing_asked}
use Rattle.jolmurig_command.specs.Words.{ends_options, is_help, is_word, name_of, named, named_behind, value_of}
use Rattle.jolmurig_command.specs.declared.fault.Fault.{Fault}
use Rattle.jolmurig_command.specs.declared.fault.Fault.TheVariants as fault
use Rattle.jolmurig_command.specs.declared.command.Command.{Command}
use Rattle.jolmurig_command.specs.declared.command.Command.TheVariants as command
use Rattle.jolmurig_command.specs.declared.command.Direction.{Direction}
use Rattle.jolmurig_command.specs.declared.command.Direction.TheVariants as direction
use Rattle.jolmurig_command.specs.declared.command.Format.{Format}
use Rattle.jolmurig_command.specs.declared.command.Format.TheVariants as format
use Rattle.jolmurig_command.specs.declared.command.Output.{Output}
use Rattle.jolmurig_command.specs.declared.command.Output.TheVariants as output
use Rattle.jolmurig_command.specs.declared.command.SourceKind.{SourceKind}
use Rattle.jolmurig_command.specs.declared.command.SourceKind.TheVariants as source
use Rattle.jolmurig_command.specs.declared.command.Topic.{Topic}
use Rattle.jolmurig_command.specs.declared.command.Topic.TheVariants as topic

-- ---- options of `show` without a value; a tree once, and one output

abbrev pub with_tree : Show → Result Show Fault
with_tree s = kind_free s.type_name s.is_tree
  where
    kind_free : Option (List ℕ) → Bool → Result Show Fault
    kind_free None false = Ok (record s { is_tree = true })
    kind_free None true = Err (fault.Twice (codes "--tree"))
    kind_free (Some name) is_tree = Err fault.TypeAndTree

-- an output is asked for, and this one was before
abbrev pub output_fault : Output → Output → Fault
output_fault output.Json output.Json = fault.Twice (codes "--json")
output_fault output.Type output.Type = fault.Twice (codes "--type")
output_fault form other = fault.JsonAndType

abbrev pub with_output : Output → Show → Result Show Fault
with_output form s = output_free s.output
  where
    output_free : Option Output → Result Show Fault
    output_free None = Ok (record s { output = Some form })
    output_free (Some other) = Err (output_fault form other)

abbrev pub with_places : Show → Result Show Fault
with_places s = Ok (record s { shows_places = true })

abbrev pub with_keys_shown : Bool → Show → Result Show Fault
with_keys_shown shown s = Ok (record s { shows_keys = shown })

abbrev pub with_all_tried : Show → Result Show Fault
with_all_tried s = Ok (record s { tries_all = true })

-- one file at most: of what an argument names, or else what is wrong with it
abbrev pub with_input : Option (Option (List ℕ)) → Fault → Show → Result Show Fault
with_input named wrong s = of named s.is_named
  where
    of : Option (Option (List ℕ)) → Bool → Result Show Fault
    of (Some file) false = Ok (record s { file = file; is_named = true })
    of found is_named = Err wrong

abbrev pub with_file : List ℕ → Show → Result Show Fault
with_file argument s = with_input (named argument) (stray argument) s

abbrev pub with_flag : List ℕ → Show → Result Show Fault
with_flag w s =
    if is_word w (codes "--tree") then with_tree s
    else if is_word w (codes "--json") then with_output output.Json s
    else if is_word w (codes "--type") then with_output output.Type s
    else if is_word w (codes "--places") then with_places s
    else if is_word w (codes "--show-keys") then with_keys_shown true s
    else if is_word w (codes "--no-keys") then with_keys_shown false s
    else if is_word w (codes "--all-found-keys") then with_all_tried s
    else with_file w s

-- ---- options of `show` with a value

-- --as TYPE, once, and not beside --tree
abbrev pub with_type : List ℕ → Show → Result Show Fault
with_type name s = kind_free s.type_name s.is_tree
  where
    kind_free : Option (List ℕ) → Bool → Result Show Fault
    kind_free None false = Ok (record s { type_name = Some name })
    kind_free None true = Err fault.TypeAndTree
    kind_free (Some other) is_tree = Err (fault.Twice (codes "--as"))

-- which keys an option with this name gives
abbrev pub source_kind : List ℕ → Option SourceKind
source_kind w =
    if is_word w (codes "--key") then Some source.Key
    else if is_word w (codes "--key-file") then Some source.KeyFile
    else if is_word w (codes "--keytab") then Some source.Keytab
    else None

-- --key ETYPE:HEX, --key-file FILE and --keytab FILE, as often as wanted
abbrev pub with_source : SourceKind → List ℕ → Show → Result Show Fault
with_source kind text s = Ok (record s { sources = s.sources ++ record { kind = kind; text = text } ∷ [] })

-- --password-file FILE, as often as wanted
abbrev pub with_password_file : List ℕ → Show → Result Show Fault
with_password_file name s = Ok (record s { password_files = s.password_files ++ name ∷ [] })

abbrev pub is_valued : List ℕ → Bool
is_valued w =
    is_word w (codes "--as") || is_word w (codes "--key") || is_word w (codes "--key-file") || is_word w (codes "--keytab")
    || is_word w (codes "--password-file")

abbrev pub with_value : List ℕ → List ℕ → Show → Result Show Fault
with_value option value s =
    if is_word option (codes "--as") then with_type value s
    else if is_word option (codes "--password-file") then with_password_file value s
    else by (source_kind option)
  where
    by : Option SourceKind → Result Show Fault
    by None = Err (stray option)
    by (Some kind) = with_source kind value s

-- ---- the whole

-- what is asked for with what stands behind the end of the options: one file at most
abbrev pub behind_end : Show → List (List ℕ) → Result Command Fault
behind_end s [] = Ok (command.Show s)
behind_end s (w ∷ []) = and_then (λ next. Ok (command.Show next)) (with_input (named_behind w) (unexpected w) s)
behind_end s (w ∷ other ∷ rest) = and_then (λ next. Err (unexpected other)) (with_input (named_behind w) (unexpected w) s)

-- an option and its value in one argument, an option without a value, or a file
abbrev pub with_one : List ℕ → Show → Result Show Fault
with_one w s = if is_valued (name_of w) then with_value (name_of w) (value_of w) s else with_flag w s

-- what options and the name of a file ask for, behind those that asked for this; or the first thing that is wrong. Help is asked for by the first of
-- its options that no refused option stands before, and that is no option's value and no file.
abbrev pub options_of : Show → List (List ℕ) → Result Command Fault
options_of s [] = Ok (command.Show s)
options_of s (w ∷ []) =
    if is_help w then Ok (command.Help topic.Show)
    else if ends_options w then behind_end s []
    else if is_valued w then Err (fault.NoValue w)
    else and_then (λ next. options_of next []) (with_one w s)
options_of s (w ∷ value ∷ rest) =
    if is_help w then Ok (command.Help topic.Show)
    else if ends_options w then behind_end s (value ∷ rest)
    else if is_valued w then and_then (λ next. options_of next rest) (with_value w value s)
    else and_then (λ next. options_of next (value ∷ rest)) (with_one w s)

-- whether help is asked for first
abbrev pub begins_with_help : List (List ℕ) → Bool
begins_with_help [] = false
begins_with_help (w ∷ rest) = is_help w

-- of what one argument names, or else what is wrong with it; or what is wrong with the first of those behind it
abbrev pub only : Option (Option (List ℕ)) → Fault → (List ℕ → Fault) → List (List ℕ) → Result (Option (List ℕ)) Fault
only None wrong other rest = Err wrong
only (Some file) wrong other [] = Ok file
only (Some file) wrong other (next ∷ rest) = Err (other next)

-- the file behind the end of the options, or none: standard input
abbrev pub last_operand : List (List ℕ) → Result (Option (List ℕ)) Fault
last_operand [] = Ok None
last_operand (w ∷ rest) = only (named_behind w) (unexpected w) unexpected rest

-- the file that is named, or none: standard input
abbrev pub operand_of : List (List ℕ) → Result (Option (List ℕ)) Fault
operand_of [] = Ok None
operand_of (w ∷ rest) = if ends_options w then last_operand rest else only (named w) (stray w) stray rest

-- what a command without options asks for: this page of the help, or what the file makes
abbrev pub of_operand : Topic → (Option (List ℕ) → Command) → List (List ℕ) → Result Command Fault
of_operand page made words = if begins_with_help words then Ok (command.Help page) else and_then (λ file. Ok (made file)) (operand_of words)

-- `check --as=TYPE` in one argument, with the file behind it
abbrev pub check_by : List ℕ → List (List ℕ) → Result Command Fault
check_by w rest = if is_word (name_of w) (codes "--as") then of_operand topic.Check (command.Check (value_of w)) rest else Err fault.NoType

-- `check --as TYPE`, with the file
abbrev pub check_of : List (List ℕ) → Result Command Fault
check_of [] = Err fault.NoType
check_of (w ∷ []) = if is_help w then Ok (command.Help topic.Check) else if is_word w (codes "--as") then Err (fault.NoValue w) else check_by w []
check_of (w ∷ name ∷ rest) =
    if is_help w then Ok (command.Help topic.Check) else if is_word w (codes "--as") then of_operand topic.Check (command.Check name) rest else check_by w (name ∷ rest)

-- the format of this name
abbrev pub format_of : List ℕ → Option Format
format_of w = if is_word w (codes "kirbi") then Some format.Kirbi else if is_word w (codes "ccache") then Some format.Ccache else None

-- `convert FORMAT`, with the file
abbrev pub conversion_of : List (List ℕ) → Result Command Fault
conversion_of [] = Err fault.NoFormat
conversion_of (w ∷ rest) = if is_help w then Ok (command.Help topic.Convert) else by (format_of w)
  where
    by : Option Format → Result Command Fault
    by None = Err fault.NoFormat
    by (Some to) = of_operand topic.Convert (command.Convert to) rest

-- the direction of this name
abbrev pub direction_of : List ℕ → Option Direction
direction_of w = if is_word w (codes "request") then Some direction.Request else if is_word w (codes "reply") then Some direction.Reply else None

-- `proxy DIRECTION`, with the file
abbrev pub proxy_of : List (List ℕ) → Result Command Fault
proxy_of [] = Err fault.NoDirection
proxy_of (w ∷ rest) = if is_help w then Ok (command.Help topic.Proxy) else by (direction_of w)
  where
    by : Option Direction → Result Command Fault
    by None = Err fault.NoDirection
    by (Some way) = of_operand topic.Proxy (command.Proxy way) rest

-- what a command's name and the arguments behind it ask for
abbrev pub command_of : List ℕ → List (List ℕ) → Result Command Fault
command_of name rest =
    if is_word name (codes "show") then options_of nothing_asked rest
    else if is_word name (codes "check") then check_of rest
    else if is_word name (codes "list") then of_operand topic.List command.List rest
    else if is_word name (codes "convert") then conversion_of rest
    else if is_word name (codes "proxy") then proxy_of rest
    else if is_word name (codes "accept") then accept_options no_option rest
    else Err (unknown_command name)

-- the arguments ask for this; or the first thing from the left that is wrong with them
abbrev pub asked_by : List (List ℕ) → Result Command Fault
asked_by [] = Err fault.NoCommand
asked_by (name ∷ rest) =
    if is_help name then Ok (command.Help topic.Program)
    else if is_word name (codes "--version") then Ok command.Version
    else command_of name rest
