-- What is wrong with arguments.
use Rattle.std.specs.Prelude.{ℕ, if◌then◌else◌, Result, Ok, Err, List, [], ◌∷◌}
use Rattle.jolmurig_command.specs.Words.{is_option}
use Rattle.jolmurig_command.specs.declared.fault.Fault.{Fault}
use Rattle.jolmurig_command.specs.declared.fault.Fault.TheVariants as fault

-- what is next, if nothing is wrong
abbrev pub and_then : {A B : Type 0} → (A → Result B Fault) → Result A Fault → Result B Fault
and_then next (Ok made) = next made
and_then next (Err e) = Err e

-- an argument that stands where none, or the name of a file, may stand
abbrev pub stray : List ℕ → Fault
stray [] = fault.Empty
stray (first ∷ rest) = if is_option (first ∷ rest) then fault.UnknownOption (first ∷ rest) else fault.Unexpected (first ∷ rest)

-- the first argument, if it is the name of no command
abbrev pub unknown_command : List ℕ → Fault
unknown_command [] = fault.Empty
unknown_command (first ∷ rest) = if is_option (first ∷ rest) then fault.UnknownOption (first ∷ rest) else fault.UnknownCommand (first ∷ rest)

-- an argument behind the end of the options, where none, or the name of a file, may stand
abbrev pub unexpected : List ℕ → Fault
unexpected [] = fault.Empty
unexpected (first ∷ rest) = fault.Unexpected (first ∷ rest)
