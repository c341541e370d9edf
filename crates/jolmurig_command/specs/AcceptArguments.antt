-- What the arguments of `accept` ask for.
use Rattle.std.specs.Prelude.{ℕ, Bool, true, false, ◌||◌, if◌then◌else◌, Option, Some, None, Result, Ok, Err, List, [], ◌∷◌, ◌++◌, codes}
use Rattle.krb_accept.specs.declared.settings.PacCheck.{PacCheck}
use Rattle.krb_accept.specs.declared.settings.PacCheck.TheVariants as pacs
use Rattle.jolmurig_command.specs.Accepts.{Accept}
use Rattle.jolmurig_command.specs.Faults.{and_then, stray, unexpected}
use Rattle.jolmurig_command.specs.Words.{ends_options, is_help, is_word, name_of, named, named_behind, value_of}
use Rattle.jolmurig_command.specs.declared.fault.Fault.{Fault}
use Rattle.jolmurig_command.specs.declared.fault.Fault.TheVariants as fault
use Rattle.jolmurig_command.specs.declared.command.Command.{Command}
use Rattle.jolmurig_command.specs.declared.command.Command.TheVariants as command
use Rattle.jolmurig_command.specs.declared.command.Topic.TheVariants as topic

-- what is asked for then, if this option was not given before
abbrev pub once : {A : Type 0} → List ℕ → Option A → Accept → Result Accept Fault
once option None next = Ok next
once option (Some other) next = Err (fault.Twice option)

-- ---- options without a value, and the file

-- one file at most: of what an argument names, or else what is wrong with it
abbrev pub accept_input : Option (Option (List ℕ)) → Fault → Accept → Result Accept Fault
accept_input named wrong a = of named a.is_named
  where
    of : Option (Option (List ℕ)) → Bool → Result Accept Fault
    of (Some file) false = Ok (record a { file = file; is_named = true })
    of found is_named = Err wrong

abbrev pub accept_file : List ℕ → Accept → Result Accept Fault
accept_file argument a = accept_input (named argument) (stray argument) a

abbrev pub accept_flag : List ℕ → Accept → Result Accept Fault
accept_flag w a =
    if is_word w (codes "--bare") then Ok (record a { is_bare = true })
    else if is_word w (codes "--other-checksum") then Ok (record a { takes_other = true })
    else accept_file w a

-- ---- options with a value, each once, but for --server NAME and --realm REALM, which are given as often as wanted

-- what is done with the PAC, by this name
abbrev pub pac_of : List ℕ → Option PacCheck
pac_of w = if is_word w (codes "required") then Some pacs.Required else if is_word w (codes "ignored") then Some pacs.Ignored else None

abbrev pub accept_pac : List ℕ → Accept → Result Accept Fault
accept_pac w a = by (pac_of w)
  where
    by : Option PacCheck → Result Accept Fault
    by None = Err fault.OtherPac
    by (Some check) = once (codes "--pac") a.pac (record a { pac = Some check })

abbrev pub with_server : List ℕ → Accept → Result Accept Fault
with_server name a = Ok (record a { servers = a.servers ++ name ∷ [] })

abbrev pub with_realm : List ℕ → Accept → Result Accept Fault
with_realm name a = Ok (record a { realms = a.realms ++ name ∷ [] })

abbrev pub accept_valued : List ℕ → Bool
accept_valued w =
    is_word w (codes "--keytab") || is_word w (codes "--time") || is_word w (codes "--skew") || is_word w (codes "--server")
    || is_word w (codes "--realm") || is_word w (codes "--bindings") || is_word w (codes "--pac")

abbrev pub accept_value : List ℕ → List ℕ → Accept → Result Accept Fault
accept_value option value a =
    if is_word option (codes "--keytab") then once option a.keytab (record a { keytab = Some value })
    else if is_word option (codes "--time") then once option a.time (record a { time = Some value })
    else if is_word option (codes "--skew") then once option a.skew (record a { skew = Some value })
    else if is_word option (codes "--server") then with_server value a
    else if is_word option (codes "--realm") then with_realm value a
    else if is_word option (codes "--bindings") then once option a.bindings (record a { bindings = Some value })
    else if is_word option (codes "--pac") then accept_pac value a
    else Err (stray option)

-- ---- the whole

-- a keytab has to be named
abbrev pub accept_asked : Accept → Result Command Fault
accept_asked a = by_keytab a.keytab
  where
    by_keytab : Option (List ℕ) → Result Command Fault
    by_keytab None = Err fault.NoKeytab
    by_keytab (Some name) = Ok (command.Accept a)

-- what is asked for with what stands behind the end of the options: one file at most
abbrev pub accept_end : Accept → List (List ℕ) → Result Command Fault
accept_end a [] = accept_asked a
accept_end a (w ∷ []) = and_then accept_asked (accept_input (named_behind w) (unexpected w) a)
accept_end a (w ∷ other ∷ rest) = and_then (λ next. Err (unexpected other)) (accept_input (named_behind w) (unexpected w) a)

-- an option and its value in one argument, an option without a value, or a file
abbrev pub accept_one : List ℕ → Accept → Result Accept Fault
accept_one w a = if accept_valued (name_of w) then accept_value (name_of w) (value_of w) a else accept_flag w a

-- what options and the name of a file ask for, behind those that asked for this; as for `show`
abbrev pub accept_options : Accept → List (List ℕ) → Result Command Fault
accept_options a [] = accept_asked a
accept_options a (w ∷ []) =
    if is_help w then Ok (command.Help topic.Accept)
    else if ends_options w then accept_end a []
    else if accept_valued w then Err (fault.NoValue w)
    else and_then (λ next. accept_options next []) (accept_one w a)
accept_options a (w ∷ value ∷ rest) =
    if is_help w then Ok (command.Help topic.Accept)
    else if ends_options w then accept_end a (value ∷ rest)
    else if accept_valued w then and_then (λ next. accept_options next rest) (accept_value w value a)
    else and_then (λ next. accept_options next (value ∷ rest)) (accept_one w a)
