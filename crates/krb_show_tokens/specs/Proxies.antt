-- What is told of octets that are to be a message of IAKERB (draft-ietf-kitten-iakerb-03, 3).
use Rattle.std.specs.Prelude.{◌≡◌, ◌⊎◌, nat_eq, nat_le, ◌&&◌, ◌||◌, Bool, true, false, ℕ, List, ◌∷◌, ◌++◌, Option, None, Some, Result}
use Rattle.krb_der.specs.Asn1.{sequence}
use Rattle.krb_der_core.specs.declared.der.DerEncode.{Ghosts as EncodingOf}
use Rattle.krb_der_core.specs.declared.error.Asn1DerError.TheVariants as errors
use Rattle.krb_gss_tokens.specs.declared.iakerb.IAKerbProxyMessage.{IAKerbProxyMessage}
use Rattle.krb_gss_tokens.specs.Proxy.{ProxyReads, ProxyRejected}
use Rattle.krb_gss_tokens.specs.Token.{token}
use Rattle.krb_gss_tokens.specs.declared.error.GssApiMessageError.{GssApiMessageError}
use Rattle.krb_gss_tokens.specs.declared.error.GssApiMessageError.TheVariants as gss
use Rattle.krb_gss_tokens.specs.declared.iakerb_header.messages.header.IAKerbHeader.{IAKerbHeader}
use Rattle.krb_show.specs.declared.show.Show.{Ghosts as ShowingOf}
use Rattle.krb_show.specs.Opened.{IsNone, IsOf}
use Rattle.krb_show.specs.Tokens.{Label, Token}
use Rattle.krb_show_tokens.specs.Frames.{IsFramed}
use Rattle.krb_show_tokens.specs.Told.{IsToldOf}

-- ---- the tag of the message

-- In a frame are a mechanism, a token id, a SEQUENCE as a header is one, and then an octet: the tag of the message.
pub record HasMessage (tag : ℕ) (octets : List ℕ) : Type 0 where
  pub mechanism : List ℕ
  pub first : ℕ
  pub second : ℕ
  pub header : List ℕ
  pub rest : List ℕ
  pub framed : IsFramed mechanism (first ∷ second ∷ (sequence header ++ tag ∷ rest)) octets

-- the tags of AS-REQ, AS-REP, TGS-REQ, TGS-REP, AP-REQ, AP-REP and KRB-ERROR (RFC 4120, 5.10)
abbrev pub is_proxied : ℕ → Bool
is_proxied tag = (nat_le 106 tag && nat_le tag 111) || nat_eq tag 126

-- no message is there, or one with another tag
abbrev pub HasOther : List ℕ → Type 0
HasOther octets = (tag : ℕ) → is_proxied tag ≡ true → HasMessage tag octets → ⊥

-- the tag of the message in these octets
abbrev pub IsTag : List ℕ → Option ℕ → Type 0
IsTag octets None = (tag : ℕ) → HasMessage tag octets → ⊥
IsTag octets (Some tag) = HasMessage tag octets

-- a tag, and one of those
abbrev pub is_proxied_tag : Option ℕ → Bool
is_proxied_tag None = false
is_proxied_tag (Some tag) = is_proxied tag

-- ---- the message

module _ {A : Type 0} (header : EncodingOf IAKerbHeader) (message : EncodingOf A) (framed : EncodingOf (IAKerbProxyMessage A)) where
  -- a token that is read as this message is at the start
  abbrev pub BeginsWith : List ℕ → IAKerbProxyMessage A → Type 0
  BeginsWith octets v = header.is_value v.header × message.is_value v.krb_msg
      × ((content : List ℕ) × (trailing : List ℕ) × (octets ≡ token content ++ trailing) × ProxyReads message.enc content v.header v.krb_msg)

  -- A token that is read as a message is at the start, but the octets are the one encoding of no message: others follow the token or, in its
  -- header, the known fields.
  abbrev pub HasMore : List ℕ → Type 0
  HasMore octets = ((v : IAKerbProxyMessage A) × BeginsWith octets v) × IsNone framed.is_value framed.enc octets

  -- The first error, as by `decode_application_iakerb_proxy_message`; or octets stand where none should; or an allocation fails.
  abbrev pub IsProxyError : List ℕ → GssApiMessageError → Type 0
  IsProxyError octets e =
      ProxyRejected header message octets e ⊎ (((e ≡ gss.Asn1Error errors.InvalidData) × HasMore octets) ⊎ (e ≡ gss.OutOfMemory))

  -- a page of a message of IAKERB, whose one encoding the octets are
  abbrev pub IsProxyTold : {K P : Type 0} → ShowingOf (IAKerbProxyMessage A) K → Label → (P → List Token) → List ℕ → Result P GssApiMessageError → Type 0
  IsProxyTold showing label = IsToldOf (IsOf framed.is_value framed.enc) IsProxyError (showing.shows label)
