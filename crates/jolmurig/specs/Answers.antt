-- What is written for an input, and why nothing is.
use Rattle.std.specs.Prelude.{◌≡◌, ◌⊎◌, ℕ, ◌+◌, ◌-◌, Bool, true, false, if◌then◌else◌, List, [], ◌∷◌, ◌++◌, length, take, Option, Some, None, Result, Ok, Err, Vec}
use Rattle.std.specs.declared.alloc.Global.{Global}
use Rattle.krb_show.specs.Tokens.{Token}
use Rattle.krb_show_text.specs.Text.{AreLines, page_text, text_of_lines}
use Rattle.krb_show_text.specs.Json.{json_line}
use Rattle.krb_show_text.specs.TextWithPlaces.{page_text_with_places}
use Rattle.krb_show_any.specs.declared.kind.Kind.{Kind}
use Rattle.krb_decrypt.specs.Hidden.{hidden_page}
use Rattle.krb_decrypt.specs.Keys.{NamedKey}
use Rattle.jolmurig.specs.Calls.{Breaks, Opens, Places}
use Rattle.jolmurig.specs.Unknowns.{is_text, unknown_of}
use Rattle.krb_show_pac.specs.Inserted.{IsWithContents}
use Rattle.krb_decrypt.specs.PasswordKeys.{KeysOfPasswords}
use Rattle.krb_decrypt.specs.Salts.{salts_of}
use Rattle.krb_show_any.specs.declared.error.PageError.{PageError}
use Rattle.krb_show_any.specs.Kinds.{kind_of}
use Rattle.krb_show_any.specs.Paired.{paired_line}
use Rattle.krb_show_any.specs.Placed.{IsPlacedPage}
use Rattle.krb_show_any.specs.Unchecked.{IsWithUnchecked}
use Rattle.krb_show_any.specs.Warnings.{warning_list}
use Rattle.krb_schema.specs.declared.item.Item.{Item}
use Rattle.jolmurig_command.specs.declared.command.Output.{Output}
use Rattle.jolmurig_command.specs.declared.command.Output.TheVariants as output
use Rattle.jolmurig.specs.declared.failure.Failure.{Failure}
use Rattle.jolmurig.specs.declared.failure.Failure.TheVariants as failure

-- lines of printable ASCII, each with a line feed behind it
abbrev pub ArePrintableLines : List ℕ → Type 0
ArePrintableLines made = (lines : List (List ℕ)) × (made ≡ text_of_lines lines) × AreLines lines

-- the first line of a page's text, without the colon and the line feed at its end, and a line feed
abbrev pub type_line : List Token → List ℕ
type_line page = take (length (page_text (take 1 page)) - 2) (page_text (take 1 page)) ++ 10 ∷ []

-- what is written of a page
abbrev pub output_text : Output → List Token → List ℕ
output_text output.Text page = page_text page
output_text output.Json page = json_line page ++ 10 ∷ []
output_text output.Type page = type_line page
output_text output.TextWithPlaces page = page_text_with_places page
output_text output.JsonWithPlaces page = paired_line page ++ 10 ∷ []

-- a page of octets of a kind, with the places of its elements where they are written
abbrev pub is_placed_for : Output → Kind → List ℕ → List Token → List Token → Type 0
is_placed_for output.TextWithPlaces kind octets page made = IsPlacedPage kind octets page made
is_placed_for output.JsonWithPlaces kind octets page made = IsPlacedPage kind octets page made
is_placed_for form kind octets page made = made ≡ page

-- a page of octets of a kind, and behind it a warning for each item in the octets that breaks a rule of its standard
abbrev pub IsWarned : Breaks → Kind → List ℕ → List Token → List Token → Type 0
IsWarned breaks kind octets page made = (broken : List Item) × breaks kind octets broken × (made ≡ page ++ warning_list broken)

-- a page with the octets of its keys, or without
abbrev pub shown_keys : Bool → List Token → List Token
shown_keys true page = page
shown_keys false page = hidden_page page

-- the kind that is asked for, or that which octets begin as, if they are not text
abbrev pub chosen : Option Kind → List ℕ → Option Kind
chosen None octets = if is_text octets then None else kind_of octets
chosen (Some kind) octets = Some kind

-- what opens what is sealed: keys, and passwords; and whether all keys are tried that are found in what is opened
pub record Openers : Type 0 where
  pub keys : List NamedKey
  pub passwords : List (List ℕ)
  pub tries_all : Bool

-- the keys, and behind them those that the passwords give with the salts of a page
abbrev pub AreKeysFor : Openers → List Token → List NamedKey → Type 0
AreKeysFor o page keys = (more : List NamedKey) × KeysOfPasswords o.passwords (salts_of page) more × (keys ≡ o.keys ++ more)

-- how many keys there may be, with those that are found: a thousand more than there are, or as many as a number of 64 bits
abbrev pub most_of : Bool → List NamedKey → ℕ
most_of true keys = 18446744073709551615
most_of false keys = length keys + 1000

-- this is written of a page: with what the keys open in it, with which PACs nobody checks, and then with what the buffers of PACs hold
pub record IsWrittenOf (opens : Opens) (openers : Openers) (page : List Token) (form : Output) (shows_keys : Bool) (made : List ℕ) : Type 0 where
  pub keys : List NamedKey
  pub are_keys : AreKeysFor openers page keys
  pub opened : List Token
  pub is_opened : opens (most_of openers.tries_all keys) keys page opened
  pub told : List Token
  pub is_told : IsWithUnchecked opened told
  pub detailed : List Token
  pub is_detailed : IsWithContents told detailed
  pub is_made : made ≡ output_text form (shown_keys shows_keys detailed)

-- this is written of the page of octets of a kind, with the places of its elements where they are written, and with its warnings
pub record IsWrittenAs (breaks : Breaks) (opens : Opens) (openers : Openers) (kind : Kind) (octets : List ℕ) (page : List Token) (form : Output)
    (shows_keys : Bool) (made : List ℕ) : Type 0 where
  pub placed : List Token
  pub is_placed : is_placed_for form kind octets page placed
  pub warned : List Token
  pub is_warned : IsWarned breaks kind octets placed warned
  pub is_written : IsWrittenOf opens openers warned form shows_keys made

-- What octets of a kind are told as: the page that they have, or the error.
module _ (tells : Kind → List ℕ → Result (Vec Token Global) PageError → Type 0) (opens : Opens) where
  -- the octets are of a kind and have a page, and this is written of it
  pub record IsWritten (breaks : Breaks) (asked : Option Kind) (form : Output) (shows_keys : Bool) (openers : Openers) (octets made : List ℕ) : Type 0 where
    pub kind : Kind
    pub is_kind : chosen asked octets ≡ Some kind
    pub page : Vec Token Global
    pub told : tells kind octets (Ok page)
    pub is_written : IsWrittenAs breaks opens openers kind octets page.items form shows_keys made

  -- the octets are of a kind and have no page, for this reason, which is at this place
  pub record HasNoPage (places : Places) (asked : Option Kind) (octets : List ℕ) (e : Failure) : Type 0 where
    pub kind : Kind
    pub is_kind : chosen asked octets ≡ Some kind
    pub why : PageError
    pub told : tells kind octets (Err why)
    pub place : Option ℕ
    pub is_place : places kind why octets place
    pub is : e ≡ failure.Octets kind why place

  -- or they begin as no kind
  abbrev pub IsRefused : Places → Option Kind → List ℕ → Failure → Type 0
  IsRefused places asked octets e = ((e ≡ failure.UnknownKind (unknown_of octets)) × (chosen asked octets ≡ None)) ⊎ HasNoPage places asked octets e
