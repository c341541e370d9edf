-- The pages of the help.
use Rattle.std.specs.Prelude.{ℕ, List}
use Rattle.jolmurig_command.specs.declared.command.Topic.{Topic}
use Rattle.jolmurig_command.specs.declared.command.Topic.TheVariants as topic

-- the page of this topic, of those of the program and of its commands
abbrev pub help_of : List ℕ → List ℕ → List ℕ → List ℕ → List ℕ → List ℕ → List ℕ → Topic → List ℕ
help_of program show check list convert proxy accept topic.Program = program
help_of program show check list convert proxy accept topic.Show = show
help_of program show check list convert proxy accept topic.Check = check
help_of program show check list convert proxy accept topic.List = list
help_of program show check list convert proxy accept topic.Convert = convert
help_of program show check list convert proxy accept topic.Proxy = proxy
help_of program show check list convert proxy accept topic.Accept = accept
