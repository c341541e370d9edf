-- What is asked to be shown, and how.
use Rattle.std.specs.Prelude.{ℕ, Bool, false, List, [], Option, None}
use Rattle.jolmurig_command.specs.declared.command.Output.{Output}
use Rattle.jolmurig_command.specs.declared.command.SourceKind.{SourceKind}

-- a key as a text, or the name of a file of keys
pub record Source : Type 0 where
  pub kind : SourceKind
  pub text : List ℕ

-- `is_named` says whether an argument stands for what is read; of standard input there is no `file`
pub record Show : Type 0 where
  pub type_name : Option (List ℕ)
  pub is_tree : Bool
  pub output : Option Output
  pub shows_places : Bool
  pub shows_keys : Bool
  pub tries_all : Bool
  pub sources : List Source
  pub password_files : List (List ℕ)
  pub file : Option (List ℕ)
  pub is_named : Bool

-- without any option
abbrev pub nothing_asked : Show
nothing_asked = record {
  type_name = None;
  is_tree = false;
  output = None;
  shows_places = false;
  shows_keys = false;
  tries_all = false;
  sources = [];
  password_files = [];
  file = None;
  is_named = false;
}
