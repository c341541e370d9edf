-- The page of octets of any kind, with what keys open in it, as text and as JSON.
use Rattle.std.specs.Prelude.{◌≡◌, ◌≢◌, ◌⊎◌, ℕ, ◌+◌, Bool, true, false, List, [], ◌∷◌, ◌++◌, Option, Some, None, Result, Ok, Err, Vec, length}
use Rattle.std.specs.List.{flat_map}
use Rattle.std.specs.Str.{IsUtf8}
use Rattle.std.specs.declared.alloc.Global.{Global}
use Rattle.krb_files.specs.Entry.{Entry}
use Rattle.krb_files.specs.Keytab.{KeytabIs}
use Rattle.krb_files.specs.KeytabReading.{keytab_of}
use Rattle.krb_files.specs.declared.keytab.error.KeytabError.{KeytabError}
use Rattle.krb_c_calls.specs.Shown.{written_of}
use Rattle.krb_c_calls.specs.Statuses.{refusal_status}
use Rattle.krb_c_calls.specs.declared.call_error.CallError.{CallError}
use Rattle.krb_c_calls.specs.declared.call_error.CallError.TheVariants as refusals
use Rattle.krb_decrypt.specs.Keys.{NamedKey}
use Rattle.krb_show_text.specs.TextWithPlaces.{page_text_with_places}
use Rattle.krb_show.specs.Tokens.{Token}
use Rattle.krb_show_any.specs.Kinds.{kind_of}
use Rattle.krb_show_any.specs.Names.{IsNamed}
use Rattle.krb_show_any.specs.Paired.{paired_line}
use Rattle.krb_show_any.specs.Placed.{IsPlacedPage}
use Rattle.krb_show_any.specs.declared.error.PageError.{PageError}
use Rattle.krb_show_any.specs.declared.kind.Kind.{Kind}
use Rattle.krb_decrypt.specs.Hidden.{hidden_page}
use Rattle.krb_decrypt.specs.KeytabKeys.{keys_of_entry}
use Rattle.krb_show_pac.specs.Inserted.{IsWithContents}
use Rattle.krb_c_pages.specs.Refusals.{page_refusal}
use Rattle.krb_c_pages.specs.declared.page.Style.{Style}

-- ---- the kind

-- the kind of this name, a text in UTF-8; without a name the one that the octets begin as
abbrev pub IsKindOf : List ℕ → List ℕ → Option Kind → Type 0
IsKindOf name octets found = ((name ≡ []) × (found ≡ kind_of octets)) ⊎ ((name ≢ []) × ((IsUtf8 name × IsNamed name found) ⊎ ((IsUtf8 name → ⊥) × (found ≡ None))))

abbrev pub IsKind : List ℕ → List ℕ → Kind → Type 0
IsKind name octets kind = IsKindOf name octets (Some kind)

abbrev pub IsNoKind : List ℕ → List ℕ → Type 0
IsNoKind name octets = IsKindOf name octets None

-- ---- the keys

-- the keys of the keytab that octets are (MIT Kerberos, "Keytab file format"); none of no octets
abbrev pub AreKeysOf : List ℕ → List NamedKey → Type 0
AreKeysOf keytab keys =
    ((keytab ≡ []) × (keys ≡ [])) ⊎ ((keytab ≢ []) × (entries : List Entry) × KeytabIs keytab entries × (keys ≡ flat_map keys_of_entry entries))

-- they are none; or an allocation failed
abbrev pub HasNoKeys : List ℕ → CallError → Type 0
HasNoKeys keytab e = (e ≡ refusals.Memory) ⊎ ((keytab ≢ []) × (e ≡ refusals.Keytab) × (why : KeytabError) × (keytab_of keytab ≡ Err why))

-- ---- the text

-- a page with the octets of its keys, or without
abbrev pub shown_keys : Bool → List Token → List Token
shown_keys true page = page
shown_keys false page = hidden_page page

-- how a page is written
abbrev pub style_of : Bool → Bool → Style
style_of is_json has_places = record { is_json = is_json; has_places = has_places }

abbrev pub written_by : Bool → Bool → List Token → List ℕ
written_by false is_json page = written_of is_json page
written_by true false page = page_text_with_places page
written_by true true page = paired_line page ++ 10 ∷ []

abbrev pub written_in : Style → List Token → List ℕ
written_in style page = written_by style.has_places style.is_json page

-- the page of octets of a kind, with the places of its values or without
abbrev pub is_placed_for : Bool → Kind → List ℕ → List Token → List Token → Type 0
is_placed_for true kind octets page made = IsPlacedPage kind octets page made
is_placed_for false kind octets page made = made ≡ page

-- this is handed out of a page: it with what the keys open in it, of which a thousand more may be found, and then with what the buffers of PACs hold
pub record IsShownPage (opens : ℕ → List NamedKey → List Token → List Token → Type 0) (shows_keys : Bool) (keys : List NamedKey)
    (page made : List Token) : Type 0 where
  pub opened : List Token
  pub is_opened : opens (length keys + 1000) keys page opened
  pub detailed : List Token
  pub is_detailed : IsWithContents opened detailed
  pub is_made : made ≡ shown_keys shows_keys detailed

-- this is handed out of the page of octets of a kind
pub record IsPageOfKind (opens : ℕ → List NamedKey → List Token → List Token → Type 0) (has_places shows_keys : Bool) (keys : List NamedKey)
    (kind : Kind) (octets : List ℕ) (page made : List Token) : Type 0 where
  pub placed : List Token
  pub is_placed : is_placed_for has_places kind octets page placed
  pub is_shown : IsShownPage opens shows_keys keys placed made

-- what octets of a kind are told as: the page that they have, or the error
module _ (tells : Kind → List ℕ → Result (Vec Token Global) PageError → Type 0) where
  -- octets of a kind that have a page, of which this is handed out
  pub record IsPage (opens : ℕ → List NamedKey → List Token → List Token → Type 0) (has_places shows_keys : Bool)
      (name octets keytab : List ℕ) (made : List Token) : Type 0 where
    pub kind : Kind
    pub is_kind : IsKind name octets kind
    pub keys : List NamedKey
    pub are_keys : AreKeysOf keytab keys
    pub page : Vec Token Global
    pub told : tells kind octets (Ok page)
    pub is_made : IsPageOfKind opens has_places shows_keys keys kind octets page.items made

  -- and it is written so
  abbrev pub IsPageText : (ℕ → List NamedKey → List Token → List Token → Type 0) → Style → Bool → List ℕ → List ℕ → List ℕ → List ℕ → Type 0
  IsPageText opens style shows_keys name octets keytab text =
      (made : List Token) × IsPage opens style.has_places shows_keys name octets keytab made × (text ≡ written_in style made)

  -- they have none, for this reason
  pub record HasNoPage (name octets keytab : List ℕ) (status : ℕ) : Type 0 where
    pub kind : Kind
    pub is_kind : IsKind name octets kind
    pub keys : List NamedKey
    pub are_keys : AreKeysOf keytab keys
    pub why : PageError
    pub told : tells kind octets (Err why)
    pub is_status : status ≡ refusal_status (page_refusal why)

  -- no kind (3); no keytab (23); no page; or an allocation failed (2)
  abbrev pub RefusesPage : List ℕ → List ℕ → List ℕ → ℕ → Type 0
  RefusesPage name octets keytab status =
      (status ≡ 2)
      ⊎ (IsNoKind name octets × (status ≡ 3))
      ⊎ (((kind : Kind) × IsKind name octets kind) × (e : CallError) × HasNoKeys keytab e × (status ≡ refusal_status e))
      ⊎ HasNoPage name octets keytab status
