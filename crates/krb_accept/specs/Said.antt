-- What the checksum of an authenticator says of a context (RFC 4121, 4.1.1).
use Rattle.std.specs.Prelude.{◌≡◌, ◌⊎◌, ℕ, ◌+◌, ◌*◌, ◌/◌, ◌%◌, pos, true, false, List, [], Option, None, Some}
use Rattle.krb_accept_rules.specs.Bindings.{FitsBindings}
use Rattle.krb_types.specs.declared.data_types.checksums.Checksum.{Checksum}
use Rattle.krb_accept.specs.Layout.{IsLaidOut}
use Rattle.krb_accept.specs.declared.settings.Settings.{Settings}
use Rattle.krb_accept.specs.declared.token_refusal.TokenRefusal.{TokenRefusal}
use Rattle.krb_accept.specs.declared.token_refusal.TokenRefusal.TheVariants as refusal

-- there is a checksum of the type 0x8003, and these are its octets
abbrev pub HasChecksum : Option Checksum → List ℕ → Type 0
HasChecksum checksum octets = (c : Checksum) × (checksum ≡ Some c) × (c.cksumtype ≡ pos 32771) × (octets ≡ c.checksum)

abbrev pub HasNoChecksum : Option Checksum → Type 0
HasNoChecksum checksum = (octets : List ℕ) → HasChecksum checksum octets → ⊥

-- ---- without it

-- the service takes such an authenticator, and has no bindings: no flag is set, and nothing is delegated
pub record TakesOther (s : Settings) (flags : ℕ) (delegated : List ℕ) : Type 0 where
  pub setting : s.other_checksum ≡ true
  pub unbound : s.bindings ≡ None
  pub no_flags : flags ≡ 0
  pub nothing : delegated ≡ []

-- it takes none; or it takes one, and has bindings, which the client's have to be
abbrev pub RefusesOther : Settings → TokenRefusal → Type 0
RefusesOther s e =
    ((e ≡ refusal.ChecksumType) × (s.other_checksum ≡ false))
    ⊎ ((e ≡ refusal.Bindings) × (s.other_checksum ≡ true) × (s.bindings ≡ None → ⊥))

-- ---- with it

-- the flags that a client may set: 1 to 32 (RFC 4121, 4.1.1.1), and 0x1000, DCE style (MS-KILE, 3.4.5.1)
abbrev pub known_flags : ℕ → ℕ
known_flags flags = flags % 64 + flags / 4096 % 2 * 4096

-- it says these flags, of those that a client may set, and these octets of a KRB-CRED, and its bindings are the service's
pub record IsBound (s : Settings) (octets : List ℕ) (flags : ℕ) (delegated : List ℕ) : Type 0 where
  pub bindings : List ℕ
  pub extensions : List ℕ
  pub set : ℕ
  pub laid_out : IsLaidOut octets bindings set delegated extensions
  pub flags_are : flags ≡ known_flags set
  pub fits : FitsBindings s.bindings bindings

-- it is not laid out so; or its bindings are not the service's
abbrev pub IsNotBound : Settings → List ℕ → TokenRefusal → Type 0
IsNotBound s octets e =
    ((e ≡ refusal.ChecksumLayout) × ((bindings delegated extensions : List ℕ) (flags : ℕ) → IsLaidOut octets bindings flags delegated extensions → ⊥))
    ⊎ ((bindings : List ℕ) × (delegated : List ℕ) × (extensions : List ℕ) × (flags : ℕ) × (e ≡ refusal.Bindings)
    × IsLaidOut octets bindings flags delegated extensions × (FitsBindings s.bindings bindings → ⊥))

-- ---- both

-- the checksum says these flags and these octets of a KRB-CRED, which are none where nothing is delegated
abbrev pub IsSaid : Settings → Option Checksum → ℕ → List ℕ → Type 0
IsSaid s checksum flags delegated =
    ((octets : List ℕ) × HasChecksum checksum octets × IsBound s octets flags delegated)
    ⊎ (HasNoChecksum checksum × TakesOther s flags delegated)

-- why it says none, by the first rule that it breaks
abbrev pub IsNotSaid : Settings → Option Checksum → TokenRefusal → Type 0
IsNotSaid s checksum e =
    ((octets : List ℕ) × HasChecksum checksum octets × IsNotBound s octets e)
    ⊎ (HasNoChecksum checksum × RefusesOther s e)
