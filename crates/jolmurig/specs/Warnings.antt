-- Warnings: what is legal DER in octets that are checked, and breaks a rule of its standard.
use Rattle.std.specs.Prelude.{◌≡◌, ℕ, List, [], ◌∷◌, ◌++◌, codes}
use Rattle.std.specs.List.{flat_map}
use Rattle.krb_schema.specs.declared.item.Item.{Item}
use Rattle.krb_show_any.specs.Names.{kind_name}
use Rattle.krb_show_any.specs.Warnings.{warning_text}
use Rattle.krb_show_any.specs.declared.kind.Kind.{Kind}
use Rattle.jolmurig.specs.Calls.{Breaks}

-- jolmurig: warning: TYPE: NAME at octet PLACE RULE
abbrev pub warning_of : Kind → Item → List ℕ
warning_of kind i = codes "jolmurig: warning: " ++ kind_name kind ++ codes ": " ++ warning_text i ++ 10 ∷ []

-- the octets have these items that break a rule, and of each there is a line, in order
abbrev pub AreWarnings : Breaks → Kind → List ℕ → List ℕ → Type 0
AreWarnings breaks kind octets lines = (broken : List Item) × breaks kind octets broken × (lines ≡ flat_map (warning_of kind) broken)
