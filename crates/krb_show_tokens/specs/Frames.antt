-- What the frame of a token holds (RFC 2743, 3.1).
use Rattle.std.specs.Prelude.{◌≡◌, nat_eq, ◌&&◌, ◌||◌, ◌⊎◌, Bool, ℕ, List, [], ◌∷◌, ◌++◌, Result, MatchResult}
use Rattle.krb_der_x509.specs.ObjectIdentifier.{IsArcs, object_identifier}
use Rattle.krb_gss_tokens.specs.Token.{token}
use Rattle.krb_gss_tokens.specs.declared.error.GssApiMessageError.{GssApiMessageError}
use Rattle.krb_gss_tokens.specs.declared.error.GssApiMessageError.TheVariants as gss

-- A token is at the start of the octets. In it are a mechanism and, up to its end, these inner octets.
pub record IsFramed (mechanism inner octets : List ℕ) : Type 0 where
  pub arcs : IsArcs mechanism
  pub trailing : List ℕ
  pub parts : octets ≡ token (object_identifier mechanism ++ inner) ++ trailing

-- The content of a token is a mechanism and these inner octets.
pub record IsContent (mechanism inner content : List ℕ) : Type 0 where
  pub arcs : IsArcs mechanism
  pub parts : content ≡ object_identifier mechanism ++ inner

-- 1.3.6.1.5.5.2: SPNEGO (RFC 4178, 3.2)
abbrev pub spnego : List ℕ
spnego = 1 ∷ 3 ∷ 6 ∷ 1 ∷ 5 ∷ 5 ∷ 2 ∷ []

-- the mechanism is SPNEGO
abbrev pub IsNegotiation : List ℕ → Type 0
IsNegotiation octets = (inner : List ℕ) × IsFramed spnego inner octets

-- the mechanism is another, and this token id stands behind it (RFC 4121, 4.1)
abbrev pub HasId : ℕ → ℕ → List ℕ → Type 0
HasId first second octets = (mechanism : List ℕ) × (rest : List ℕ) × (mechanism ≡ spnego → ⊥) × IsFramed mechanism (first ∷ second ∷ rest) octets

-- no mechanism, or another than SPNEGO with no token id behind it
pub record HasNone (octets : List ℕ) : Type 0 where
  pub no_negotiation : IsNegotiation octets → ⊥
  pub no_id : (first second : ℕ) → HasId first second octets → ⊥

-- the token ids of KRB-AP-REQ, KRB-AP-REP and KRB-ERROR (RFC 4121, 4.1), of KRB-TGT-REQ and KRB-TGT-REP (draft-swift-win2k-krb-user2user-03)
-- of KRB-AS-REQ and KRB-AS-REP (draft-zhu-pku2u-09, 6), and of messages of IAKERB (draft-ietf-kitten-iakerb-03, 3)
abbrev pub is_known_id : ℕ → ℕ → Bool
is_known_id first second =
    (nat_eq first 1 && nat_eq second 0) || (nat_eq first 2 && nat_eq second 0) || (nat_eq first 3 && nat_eq second 0)
    || (nat_eq first 4 && (nat_eq second 0 || nat_eq second 1)) || (nat_eq first 5 && (nat_eq second 0 || nat_eq second 1))
    || (nat_eq first 6 && nat_eq second 0)

-- the first octet of a token: frame, NegTokenInit [0], NegTokenResp [1], and the first of the ids of MIC and Wrap
abbrev pub is_token : ℕ → Bool
is_token first = nat_eq first 4 || nat_eq first 5 || nat_eq first 96 || nat_eq first 160 || nat_eq first 161

-- another token id is refused, with that of a KRB-AP-REQ as the expected one, but for want of memory
abbrev pub RefusesId : {P : Type 0} → ℕ → ℕ → Result P GssApiMessageError → Type 0
RefusesId first second result = MatchResult result (λ p. ⊥) (λ e. (e ≡ gss.OutOfMemory) ⊎ (e ≡ gss.InvalidId (1 ∷ 0 ∷ []) (first ∷ second ∷ [])))
