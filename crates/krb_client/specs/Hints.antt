-- The client's key for a reply that came without pre-authentication (RFC 4120, 3.1.5 and 5.2.7.5).
use Rattle.std.specs.Prelude.{◌≡◌, ◌⊎◌, ℕ, ℤ, pos, List, Option, Some, None}
use Rattle.krb_client.specs.Firsts.{IsFirst, NoneIs}
use Rattle.krb_client.specs.KeyHints.{ElementsTellNoKey, IsClientKey, IsInfo, IsNoClientKey, TellsKey}
use Rattle.krb_client.specs.declared.keys.hint.HintError.{HintError}
use Rattle.krb_client.specs.declared.keys.hint.HintError.TheVariants as hints
use Rattle.krb_client.specs.declared.keys.limits.Limits.{Limits}
use Rattle.krb_client.specs.declared.keys.secret.Client.{Client}
use Rattle.krb_client.specs.declared.keys.secret.Secret.{Secret}
use Rattle.krb_client.specs.declared.replies.error.ReplyError.TheVariants as replies
use Rattle.krb_client_rules.specs.declared.asked.Asked.{Asked}
use Rattle.krb_client_rules.specs.declared.key.Key.{Key}
use Rattle.krb_crypto.specs.Suites.{etype}
use Rattle.krb_crypto.specs.declared.cipher_suite.CipherSuite.{CipherSuite}
use Rattle.krb_der.specs.Whole.{Encodes, IsNotRead}
use Rattle.krb_der_core.specs.declared.der.DerEncode.{Ghosts as EncodingOf}
use Rattle.krb_der_core.specs.declared.error.Asn1DerError.{Asn1DerError}
use Rattle.krb_der_core.specs.declared.error.Asn1DerError.TheVariants as der
use Rattle.krb_messages.specs.declared.messages.replies.KdcRep.{KdcRep}
use Rattle.krb_types.specs.declared.data_types.pre_authentication.PaData.{PaData}
use Rattle.krb_client.specs.Types.{InitialTypes}
use Rattle.krb_client.specs.declared.error.ClientError.{ClientError}
use Rattle.krb_client.specs.declared.error.ClientError.TheVariants as errors

-- the number is that of the suite's encryption type
abbrev pub IsNumberOf : ℤ → CipherSuite → Type 0
IsNumberOf number suite = number ≡ pos (etype suite)

-- The key of the encryption type of this number, where it was asked for, by the default salt and parameters (5.2.7.5: "the default salt").
pub record IsDefaultKey (c : Client) (s : Secret) (limits : Limits) (suites : List CipherSuite) (number : ℤ) (key : Key) : Type 0 where
  pub suite : CipherSuite
  pub is_suite : IsFirst (IsNumberOf number) suites suite
  pub is_key : IsClientKey c s limits suite None None key

-- why there is none: the encryption type was not asked for; else the client has no key of it
abbrev pub IsNoDefaultKey : Secret → Limits → List CipherSuite → ℤ → HintError → Type 0
IsNoDefaultKey s limits suites number e =
    ((e ≡ hints.EncryptionType) × NoneIs (IsNumberOf number) suites)
    ⊎ ((suite : CipherSuite) × IsFirst (IsNumberOf number) suites suite × IsNoClientKey s limits suite None e)

-- no ETYPE-INFO2 is there
abbrev pub HasNoInfo : Option (List PaData) → Type 0
HasNoInfo None = Unit {0}
HasNoInfo (Some elements) = NoneIs IsInfo elements

-- the elements of pre-authentication data tell the key
abbrev pub ToldBy : InitialTypes → Client → Secret → Limits → List CipherSuite → Option (List PaData) → Key → Type 0
ToldBy t c s limits suites None key = ⊥
ToldBy t c s limits suites (Some elements) key = TellsKey t.infos c s limits suites elements key

-- they have an ETYPE-INFO2, which tells of none
abbrev pub UntoldBy : InitialTypes → Secret → Limits → List CipherSuite → Option (List PaData) → HintError → Type 0
UntoldBy t s limits suites None e = ⊥
UntoldBy t s limits suites (Some elements) e = ElementsTellNoKey t.infos s limits suites elements e × (e ≡ hints.NoInfo → ⊥)

-- The key by the data of pre-authentication and the encryption type of a reply: as its first ETYPE-INFO2 tells; where it has none, the default one.
abbrev pub IsReplyKey : InitialTypes → Client → Secret → Limits → List CipherSuite → Option (List PaData) → ℤ → Key → Type 0
IsReplyKey t c s limits suites padata number key =
    ToldBy t c s limits suites padata key
    ⊎ (HasNoInfo padata × IsDefaultKey c s limits suites number key)

abbrev pub IsNoReplyKey : InitialTypes → Secret → Limits → List CipherSuite → Option (List PaData) → ℤ → HintError → Type 0
IsNoReplyKey t s limits suites padata number e =
    UntoldBy t s limits suites padata e
    ⊎ (HasNoInfo padata × IsNoDefaultKey s limits suites number e)

-- ---- of what was asked

-- the client that was asked for
abbrev pub IsClientOf : Asked → Client → Type 0
IsClientOf a c = (c.realm.now ≡ a.crealm) × (c.name.now ≡ a.cname)

abbrev pub IsKeyForReply : InitialTypes → Asked → Secret → Limits → KdcRep → Key → Type 0
IsKeyForReply t a s limits m key =
    (c : Client) × IsClientOf a c × IsReplyKey t c s limits a.etypes.items m.padata.0 m.enc_part.etype key

abbrev pub IsNoKeyForReply : InitialTypes → Asked → Secret → Limits → KdcRep → ClientError → Type 0
IsNoKeyForReply t a s limits m e =
    (why : HintError) × (e ≡ errors.Key why)
    × ((why ≡ hints.OutOfMemory) ⊎ IsNoReplyKey t s limits a.etypes.items m.padata.0 m.enc_part.etype why)

-- the octets are no encoding of the type
abbrev pub IsUnread : {A : Type 0} → EncodingOf A → List ℕ → ClientError → Type 0
IsUnread t octets e =
    (why : Asn1DerError) × (e ≡ errors.Reply (replies.Message why)) × ((why ≡ der.OutOfMemory) ⊎ IsNotRead t octets why)

-- The octets are the one encoding of a reply, and this is the client's key for it.
abbrev pub IsKeyOfReply : InitialTypes → Asked → Secret → Limits → List ℕ → Key → Type 0
IsKeyOfReply t a s limits octets key = (m : KdcRep) × Encodes t.as_rep octets m × IsKeyForReply t a s limits m key

-- why there is none: they are no reply's; else there is none for the reply
abbrev pub IsNoKeyOfReply : InitialTypes → Asked → Secret → Limits → List ℕ → ClientError → Type 0
IsNoKeyOfReply t a s limits octets e =
    IsUnread t.as_rep octets e ⊎ ((m : KdcRep) × Encodes t.as_rep octets m × IsNoKeyForReply t a s limits m e)
