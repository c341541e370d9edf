-- What is said of an encrypted part on a page, and the keys that are learned from it.
use Rattle.std.specs.Prelude.{◌≡◌, ℕ, zero, suc, ◌-◌, List, [], ◌++◌, Option, None, Some, codes, length, take}
use Rattle.std.specs.List.{slice_get}
use Rattle.krb_decrypt.specs.Keys.{NamedKey}
use Rattle.krb_decrypt.specs.Preceding.{keys_in, start}
use Rattle.krb_decrypt.specs.Usages.{integer_of, type_of}
use Rattle.krb_decrypt.specs.declared.outcome.Outcome.{Outcome}
use Rattle.krb_decrypt.specs.declared.outcome.Outcome.TheVariants as outcomes
use Rattle.krb_decrypt.specs.declared.outcome.Part.{Part}
use Rattle.krb_decrypt.specs.declared.outcome.Reason.{Reason}
use Rattle.krb_decrypt.specs.declared.outcome.Reason.TheVariants as reasons
use Rattle.krb_decrypt.specs.declared.usage.Usage.{Usage}
use Rattle.krb_show.specs.Items.{start as first_stand}
use Rattle.krb_show.specs.Leaves.{number_of, text_of, unsigned_of}
use Rattle.krb_show.specs.Pages.{◌then◌}
use Rattle.krb_show.specs.PlacedItems.{Placing, Telling, shown_with_places}
use Rattle.krb_show.specs.Tokens.{Token, plain}
use Rattle.krb_show.specs.declared.rows.stand.Secrets.TheVariants as secrets

-- why a part is not decrypted
abbrev pub reason_text : Reason → List ℕ
reason_text reasons.TypeNotSupported = codes "the encryption type is not supported"
reason_text reasons.NoKeyOfType = codes "no key of this encryption type"
reason_text reasons.NoKeyFits = codes "no key of this encryption type opens it"

abbrev pub no_encoding_text : Usage → List ℕ
no_encoding_text u = codes "a key opens it, and the octets are no encoding of " ++ type_of u

abbrev pub not_decrypted : List ℕ → List Token → List Token → Type 0
not_decrypted text = text_of (plain (codes "not-opened")) text

-- which key decrypted a part, and for which usage
abbrev pub opener_of : List ℕ → Usage → List Token → List Token → Type 0
opener_of name u = text_of (plain (codes "opened-by")) name then number_of (plain (codes "key-usage")) (integer_of u)

-- ---- keys that are found

-- so many keys at most
abbrev pub learned : ℕ → List NamedKey → List NamedKey → List NamedKey
learned most found keys = keys ++ take (most - length keys) found

-- how many are left out, and what says so
abbrev pub left_out : ℕ → List NamedKey → List NamedKey → ℕ
left_out most found keys = length found - (most - length keys)

abbrev pub left_out_of : ℕ → List Token → List Token → Type 0
left_out_of zero old new = new ≡ old
left_out_of (suc n) old new = unsigned_of (plain (codes "keys-not-tried")) (suc n) old new

-- ---- what is said

-- the items of a part with their places in its octets, as formats that are no DER are told
abbrev pub part_of : Telling → Placing → Part → List Token → List Token → Type 0
part_of tells places p old new = shown_with_places tells places p.octets.items p.items.items (first_stand secrets.Shown) old new

-- behind them stands how many of the keys in them are left out; the others are learned
pub record IsLearnedFrom (tells : Telling) (places : Placing) (most : ℕ) (p : Part)
    (keys : List NamedKey) (old : List Token) (next : List NamedKey) (new : List Token) : Type 0 where
  pub tokens : List Token
  pub shown_are : part_of tells places p old (old ++ tokens)
  pub learned_are : next ≡ learned most (keys_in p.type_name.now start [] tokens) keys
  pub left : left_out_of (left_out most (keys_in p.type_name.now start [] tokens) keys) (old ++ tokens) new

-- a decrypted part: which key and usage, what it holds, and what is told behind it
pub record IsToldPart (tells : Telling) (places : Placing)
    (behind : NamedKey → Usage → List ℕ → List Token → List Token → Type 0) (most : ℕ) (key : NamedKey) (u : Usage) (p : Part)
    (keys : List NamedKey) (old : List Token) (next : List NamedKey) (new : List Token) : Type 0 where
  pub first : List Token
  pub opener : opener_of key.name u old first
  pub second : List Token
  pub learned_from : IsLearnedFrom tells places most p keys first next second
  pub told_behind : behind key u p.octets.items second new

module _ (tells : Telling) (places : Placing) (behind : NamedKey → Usage → List ℕ → List Token → List Token → Type 0)
    (most : ℕ) where
  -- by the key at its preceding
  abbrev pub told_under : Option NamedKey → Usage → Part → List NamedKey → List Token → List NamedKey → List Token → Type 0
  told_under None u p keys old next new = (next ≡ keys) × (new ≡ old)
  told_under (Some key) u p keys old next new = IsToldPart tells places behind most key u p keys old next new

  -- what a part decrypts to: a part, or no encoding
  abbrev pub told_held : ℕ → Usage → Option Part → List NamedKey → List Token → List NamedKey → List Token → Type 0
  told_held index u None keys old next new = (next ≡ keys) × not_decrypted (no_encoding_text u) old new
  told_held index u (Some p) keys old next new = told_under (slice_get keys index) u p keys old next new

  -- an outcome under these keys; the keys in what stands in the clear are not learned
  abbrev pub told_of : Outcome → List NamedKey → List Token → List NamedKey → List Token → Type 0
  told_of outcomes.NotTried keys old next new = (next ≡ keys) × (new ≡ old)
  told_of (outcomes.InClear p) keys old next new = (next ≡ keys) × part_of tells places p old new
  told_of (outcomes.NotDecrypted why) keys old next new = (next ≡ keys) × not_decrypted (reason_text why) old new
  told_of (outcomes.Decrypted index u held) keys old next new = told_held index u held keys old next new
