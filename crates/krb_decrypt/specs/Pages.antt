-- Pages with what keys make of their encrypted parts.
use Rattle.std.specs.Prelude.{◌≡◌, ℕ, ◌-◌, List, [], Option, None, Some, length}
use Rattle.std.specs.List.{slice_get}
use Rattle.krb_decrypt.specs.Keys.{NamedKey}
use Rattle.krb_decrypt.specs.Outcomes.{IsOutcome}
use Rattle.krb_decrypt.specs.Preceding.{behind, start}
use Rattle.krb_decrypt.specs.Told.{told_of}
use Rattle.krb_decrypt.specs.declared.outcome.Outcome.{Outcome}
use Rattle.krb_decrypt.specs.declared.preceding.Preceding.{Preceding}
use Rattle.krb_decrypt.specs.declared.usage.Usage.{Usage}
use Rattle.krb_show.specs.PlacedItems.{Placing, Telling}
use Rattle.krb_show.specs.Tokens.{Token}
use Rattle.krb_show.specs.Walk.{walk_of}
use Rattle.krb_show.specs.declared.token.Form.{Form}
use Rattle.krb_show.specs.declared.token.Form.TheVariants as form

-- the keys that are known, how many there may be, where the next token stands, and what is told behind parts
pub record Decrypting (B : Type 0) : Type 0 where
  pub keys : List NamedKey
  pub most : ℕ
  pub preceding : Preceding
  pub behind : B

-- the octets of a token that is a ciphertext
abbrev pub cipher_of : Option Token → Option (List ℕ)
cipher_of None = None
cipher_of (Some t) = by_form t.form
  where
    by_form : Form → Option (List ℕ)
    by_form form.Cipher = Some t.octets
    by_form other = None

-- the ciphertext that a page ends with
abbrev pub cipher_at : List Token → Option (List ℕ)
cipher_at page = cipher_of (slice_get page (length page - 1))

module _ (tells : Telling) (places : Placing) where
  -- what is said of a ciphertext that stands so, and the keys that are learned from it
  abbrev pub told_at : (NamedKey → Usage → List ℕ → List Token → List Token → Type 0) → ℕ → Preceding → Option (List ℕ)
      → List NamedKey → List Token → List NamedKey → List Token → Type 0
  told_at told_behind most p None keys old next new = (next ≡ keys) × (new ≡ old)
  told_at told_behind most p (Some cipher) keys old next new =
      (o : Outcome) × IsOutcome p.role p.etype cipher keys o × told_of tells places told_behind most o keys old next new

  -- what is inserted before a token: what is said of the ciphertext that the page ends with
  pub record IsInsertedBefore {B : Type 0} (tells_behind : B → NamedKey → Usage → List ℕ → List Token → List Token → Type 0)
      (before : Decrypting B) (t : Token) (old : List Token) (after : Decrypting B) (new : List Token) : Type 0 where
    pub said : told_at (tells_behind before.behind) before.most before.preceding (cipher_at old) before.keys old after.keys new
    pub most_is : after.most ≡ before.most
    pub preceding_is : after.preceding ≡ behind t before.preceding
    pub behind_is : after.behind ≡ before.behind

  abbrev pub inserted_before : {B : Type 0} → (B → NamedKey → Usage → List ℕ → List Token → List Token → Type 0)
      → Decrypting B → Token → List Token → Decrypting B → List Token → Type 0
  inserted_before tells_behind before t old after new = IsInsertedBefore tells_behind before t old after new

  -- the page with what is inserted, from these keys on
  abbrev pub is_decrypted_page : {B : Type 0} → (B → NamedKey → Usage → List ℕ → List Token → List Token → Type 0) → ℕ → B
      → List NamedKey → List Token → List Token → Type 0
  is_decrypted_page {B} tells_behind most b keys old new =
      (after : Decrypting B) × walk_of (inserted_before tells_behind) (record { keys = keys; most = most; preceding = start; behind = b }) old [] after new
