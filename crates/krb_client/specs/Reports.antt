-- What an error of a KDC calls for (RFC 4120, 3.1.4, 5.9.1 and 7.5.9).
use Rattle.std.specs.Prelude.{◌≡◌, ◌⊎◌, ℕ, ℤ, List, [], Option, Some, None}
use Rattle.krb_client.specs.KeyHints.{IsNoToldKey, IsToldKey}
use Rattle.krb_client.specs.declared.keys.hint.HintError.{HintError}
use Rattle.krb_client.specs.declared.keys.hint.HintError.TheVariants as hints
use Rattle.krb_client.specs.declared.keys.secret.Client.{Client}
use Rattle.krb_client.specs.declared.keys.secret.Secret.{Secret}
use Rattle.krb_client.specs.declared.replies.reported.Reported.{Reported}
use Rattle.krb_client_rules.specs.declared.key.Key.{Key}
use Rattle.krb_client.specs.Hints.{IsClientOf}
use Rattle.krb_client.specs.Moments.{ahead_of}
use Rattle.krb_client.specs.Types.{InitialTypes}
use Rattle.krb_client.specs.declared.error.ClientError.{ClientError}
use Rattle.krb_client.specs.declared.error.ClientError.TheVariants as errors
use Rattle.krb_client.specs.declared.initial.InitialExchange.{InitialExchange}
use Rattle.krb_client.specs.declared.moment.Moment.{Moment}
use Rattle.krb_client.specs.declared.reported.Change.{Change}
use Rattle.krb_client.specs.declared.reported.Change.TheVariants as changes
use Rattle.krb_client.specs.declared.terms.Terms.{Terms}

-- the data of the error; none are no octets
abbrev pub data_of : Option (List ℕ) → List ℕ
data_of None = []
data_of (Some octets) = octets

-- KDC_ERR_PREAUTH_REQUIRED (25), and the time was not sent under a key
abbrev pub NeedsKey : Reported → Option Key → Type 0
NeedsKey r key = (r.code ≡ 25) × (key ≡ None)

-- KRB_AP_ERR_SKEW (37), and the KDC's time was not taken
abbrev pub NeedsTime : Reported → Option ℤ → Type 0
NeedsTime r offset = (r.code ≡ 37) × (offset ≡ None)

-- the data of the error, a METHOD-DATA, tell the client's key (5.9.1)
abbrev pub IsKeyTold : InitialTypes → Terms → InitialExchange → Secret → Reported → Key → Type 0
IsKeyTold t terms e s r key =
    (c : Client) × IsClientOf e.asked c × IsToldKey t.lists t.infos c s terms.limits e.asked.etypes.items (data_of r.e_data) key

abbrev pub IsNoKeyTold : InitialTypes → Terms → InitialExchange → Secret → Reported → ClientError → Type 0
IsNoKeyTold t terms e s r error =
    (why : HintError) × (error ≡ errors.Key why)
    × ((why ≡ hints.OutOfMemory) ⊎ IsNoToldKey t.lists t.infos s terms.limits e.asked.etypes.items (data_of r.e_data) why)

-- the error calls for the key that its data tell; or for the KDC's time
abbrev pub CallsFor : InitialTypes → Terms → InitialExchange → Secret → Moment → Reported → Change → Type 0
CallsFor t terms e s m r (changes.Key key) = NeedsKey r e.key × IsKeyTold t terms e s r key
CallsFor t terms e s m r (changes.Offset offset) = NeedsTime r e.offset × (offset ≡ ahead_of r.seconds m.seconds)

-- why it calls for nothing: its data tell no key; or it is another error, which is told by its code
abbrev pub CallsForNothing : InitialTypes → Terms → InitialExchange → Secret → Reported → ClientError → Type 0
CallsForNothing t terms e s r error =
    (NeedsKey r e.key × IsNoKeyTold t terms e s r error)
    ⊎ ((NeedsKey r e.key → ⊥) × (NeedsTime r e.offset → ⊥) × (error ≡ errors.Kdc r.code))
