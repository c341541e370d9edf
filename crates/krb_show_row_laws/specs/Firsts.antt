-- How the lines of an element may begin.
use Rattle.std.specs.Prelude.{◌≡◌, ◌⊎◌, ℕ, Bool, true, false, ◌&&◌, ◌||◌, List, [], ◌∷◌, Option}
use Rattle.krb_schema.specs.declared.shape.Role.{Role}
use Rattle.krb_show.specs.Tokens.{Token}
use Rattle.krb_show_row_laws.specs.Telling.{is_name, other_than}
use Rattle.krb_show_row_laws.specs.Blocks.{HasHead, IsLeaf, IsList, IsStruct, is_apart, same_octets}

-- the first line is that of a struct, of a list, or of a leaf
pub data Opening : Type 0 where
  of_struct : Opening
  of_list : Opening
  of_leaf : Opening

-- how octets of formats that are no DER may begin: for what they are to a program, behind an INTEGER of this content, or behind any
abbrev pub Kinds : Type 0
Kinds = Role → Option (List ℕ) → List Opening

-- what stands there behind the name
abbrev pub Behind : Opening → List ℕ → Type 0
Behind of_struct = IsStruct
Behind of_list = IsList
Behind of_leaf = IsLeaf

abbrev pub other_opening : Opening → Opening → Bool
other_opening of_struct of_struct = false
other_opening of_list of_list = false
other_opening of_leaf of_leaf = false
other_opening one other = true

-- a first line: its name, and what it is of
pub record First : Type 0 where
  pub name : List ℕ
  pub opening : Opening

abbrev pub names_of : List First → List (List ℕ)
names_of [] = []
names_of (f ∷ fs) = f.name ∷ names_of fs

-- these under one name
abbrev pub openings : List Opening → List ℕ → List First
openings [] name = []
openings (o ∷ os) name = record { name = name; opening = o } ∷ openings os name

-- what is appended begins so, and its name is one of a line
pub record IsFirst (f : First) (old new : List Token) : Type 0 where
  pub named : is_name f.name ≡ true
  pub head : HasHead f.name (Behind f.opening) old new

-- it begins as one of these
abbrev pub BeginsAs : List First → List Token → List Token → Type 0
BeginsAs [] old new = ⊥
BeginsAs (f ∷ fs) old new = IsFirst f old new ⊎ BeginsAs fs old new

pub record Firsts (fs : List First) (shows : List Token → List Token → Type 0) : Type 0 where
  pub first : (old new : List Token) → shows old new → BeginsAs fs old new

-- ---- first lines that differ

abbrev pub apart_first : First → First → Bool
apart_first f g = other_opening f.opening g.opening || other_than (same_octets f.name g.name)

abbrev pub apart_each : First → List First → Bool
apart_each f [] = true
apart_each f (g ∷ gs) = apart_first f g && apart_each f gs

abbrev pub apart_firsts : List First → List First → Bool
apart_firsts [] gs = true
apart_firsts (f ∷ fs) gs = apart_each f gs && apart_firsts fs gs

-- none of these names is one of those
abbrev pub are_apart : List (List ℕ) → List (List ℕ) → Bool
are_apart [] names = true
are_apart (n ∷ ns) names = is_apart n names && are_apart ns names
