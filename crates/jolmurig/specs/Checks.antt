-- What is checked: octets of a type.
use Rattle.std.specs.Prelude.{◌≡◌, ℕ, List, Option, Result, Ok, Err, Vec}
use Rattle.std.specs.declared.alloc.Global.{Global}
use Rattle.krb_show.specs.Tokens.{Token}
use Rattle.krb_show_any.specs.declared.error.PageError.{PageError}
use Rattle.krb_show_any.specs.declared.kind.Kind.{Kind}
use Rattle.jolmurig.specs.Calls.{Breaks, Places}
use Rattle.jolmurig.specs.Warnings.{AreWarnings}
use Rattle.jolmurig.specs.declared.failure.Failure.{Failure}
use Rattle.jolmurig.specs.declared.failure.Failure.TheVariants as failure

-- What octets of a kind are told as: the page that they have, or the error.
module _ (tells : Kind → List ℕ → Result (Vec Token Global) PageError → Type 0) where
  -- the octets have a page as this kind: of a type of DER, that of the value whose one encoding they are
  abbrev pub HasPage : Kind → List ℕ → Type 0
  HasPage kind octets = (page : Vec Token Global) × tells kind octets (Ok page)

  -- what is written is the octets themselves, and the notes are the lines of what breaks a rule in them
  abbrev pub IsChecked : Breaks → Kind → List ℕ → List ℕ → List ℕ → Type 0
  IsChecked breaks kind octets made notes = HasPage kind octets × AreWarnings breaks kind octets notes × (made ≡ octets)

  -- the octets have no page as this kind, for this reason, which is at this place
  pub record IsUnchecked (places : Places) (kind : Kind) (octets : List ℕ) (e : Failure) : Type 0 where
    pub why : PageError
    pub told : tells kind octets (Err why)
    pub place : Option ℕ
    pub is_place : places kind why octets place
    pub is : e ≡ failure.Octets kind why place
