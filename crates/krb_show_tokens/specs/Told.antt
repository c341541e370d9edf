-- What is told of octets that are to be a token.
use Rattle.std.specs.Prelude.{◌≡◌, ◌<◌, ◌^◌, ℕ, List, [], Result, Vec, MatchResult, IfErr}
use Rattle.std.specs.declared.alloc.Global.{Global}
use Rattle.krb_der.specs.Whole.{NoDevice}
use Rattle.krb_der_core.specs.declared.der.DerEncode.{Ghosts as EncodingOf}
use Rattle.krb_der_core.specs.declared.error.Asn1DerError.{Asn1DerError}
use Rattle.krb_der_core.specs.Errors.{OrMemory, ValueError}
use Rattle.krb_gss_tokens.specs.declared.error.GssApiMessageError.{GssApiMessageError}
use Rattle.krb_gss_tokens.specs.declared.error.GssApiMessageError.TheVariants as gss
use Rattle.krb_gss_tokens.specs.Errors.{of_der}
use Rattle.krb_gss_tokens.specs.Mic.{Mic, MicIs}
use Rattle.krb_gss_tokens.specs.PerMessageRejected.{MicFirstError, WrapFirstError}
use Rattle.krb_gss_tokens.specs.Wrap.{FitsWrap, Wrap, WrapIs}
use Rattle.krb_show.specs.declared.show.Show.{Ghosts as ShowingOf}
use Rattle.krb_show.specs.Opened.{IsOf}
use Rattle.krb_show.specs.Tokens.{Label, Token}

-- which page octets have, or which error
abbrev pub Tells : Type 1
Tells = List ℕ → Result (Vec Token Global) GssApiMessageError → Type 0

-- Where a page is answered it is that of a value that the octets are; where they are a value it is answered, but for want of memory; and else
-- they are refused with this error.
pub record IsToldOf {A P : Type 0} (is_of : List ℕ → A → Type 0) (rejected : List ℕ → GssApiMessageError → Type 0)
    (shows : A → List Token → List Token → Type 0) (tokens : P → List Token) (octets : List ℕ) (result : Result P GssApiMessageError) : Type 0 where
  pub found : MatchResult result (λ p. (v : A) × is_of octets v × shows v [] (tokens p)) (λ e. Unit {0})
  pub reads : (v : A) → is_of octets v → MatchResult result (λ p. Unit {0}) (λ e. e ≡ gss.OutOfMemory)
  pub first_error : IfErr result (rejected octets)

-- ---- DER

-- an error of DER: the first of these octets, as by `from_bytes`, unless an allocation fails
abbrev pub IsDerError : {A : Type 0} → EncodingOf A → List ℕ → GssApiMessageError → Type 0
IsDerError encoding octets e = (f : Asn1DerError) × (e ≡ of_der f) × NoDevice f
    × OrMemory (ValueError encoding.is_value encoding.enc encoding.first encoding.error octets) f

-- a page of a value of a type of DER, whose one encoding the octets are
abbrev pub IsToldBy : {K A P : Type 0} → EncodingOf A → ShowingOf A K → Label → (P → List Token) → List ℕ → Result P GssApiMessageError → Type 0
IsToldBy encoding showing label = IsToldOf (IsOf encoding.is_value encoding.enc) (IsDerError encoding) (showing.shows label)

-- ---- MIC and Wrap

-- the octets are this token, whose number they hold
abbrev pub IsMicOf : List ℕ → Mic → Type 0
IsMicOf octets t = (t.seq_num < 2 ^ 64) × MicIs octets t

abbrev pub IsWrapOf : List ℕ → Wrap → Type 0
IsWrapOf octets t = FitsWrap t × WrapIs octets t

-- a page of a MIC token, whose octets these are
abbrev pub IsMicTold : {K P : Type 0} → ShowingOf Mic K → Label → (P → List Token) → List ℕ → Result P GssApiMessageError → Type 0
IsMicTold showing label = IsToldOf IsMicOf MicFirstError (showing.shows label)

-- a page of a Wrap token, whose octets these are
abbrev pub IsWrapTold : {K P : Type 0} → ShowingOf Wrap K → Label → (P → List Token) → List ℕ → Result P GssApiMessageError → Type 0
IsWrapTold showing label = IsToldOf IsWrapOf WrapFirstError (showing.shows label)
