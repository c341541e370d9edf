-- Where the PAC of a ticket stands, and where none may stand (MS-PAC, 2.1; RFC 4120, 5.2.6; RFC 7751, 3).
use Rattle.std.specs.Prelude.{◌≡◌, ◌⊎◌, ⊤, ◌+◌, ℕ, pos, zero, suc, List, [], ◌∷◌, ◌++◌, Option, None, Some}
use Rattle.krb_accept_rules.specs.Firsts.{EachIs}
use Rattle.krb_message_fields.specs.Paths.{Leads}
use Rattle.krb_message_fields.specs.declared.places.place.Step.{Step}
use Rattle.krb_message_fields.specs.declared.places.place.Step.TheVariants.{Tag}
use Rattle.krb_der_core.specs.declared.der.DerEncode.{Ghosts as EncodingOf}
use Rattle.krb_types.specs.declared.data_types.authorization_data.AuthorizationDataInner.{AuthorizationDataInner}
use Rattle.krb_accept.specs.Opening.{Encodes}
use Rattle.krb_accept.specs.declared.pac_places.Held.{Held}
use Rattle.krb_accept.specs.declared.pac_places.Held.TheVariants as held

-- ---- elements

-- an AD-WIN2K-PAC (RFC 4120, 7.5.4)
abbrev pub IsPac : AuthorizationDataInner → Type 0
IsPac e = e.ad_type ≡ pos 128

-- the tags of a SEQUENCE and of its field of this number (X.690, 8.1.2)
abbrev pub field_way : ℕ → List Step
field_way number = Tag 48 ∷ Tag (160 + number) ∷ []

-- These tags lead from the content of an element to the AuthorizationData that stands in it. The content of an AD-IF-RELEVANT (1) and of an AD-MANDATORY-FOR-KDC (8)
-- is one (RFC 4120, 5.2.6.1 and 5.2.6.4); an AD-KDCIssued (4) has it in its field 3 (5.2.6.2), an AD-AND-OR (5) in its field 1 (5.2.6.3), an AD-CAMMAC (96) in its field 0
-- (RFC 7751, 3).
abbrev pub IsWay : AuthorizationDataInner → List Step → Type 0
IsWay e way =
    (((e.ad_type ≡ pos 1) ⊎ (e.ad_type ≡ pos 8)) × (way ≡ []))
    ⊎ (((e.ad_type ≡ pos 4) × (way ≡ field_way 3))
    ⊎ (((e.ad_type ≡ pos 5) × (way ≡ field_way 1))
    ⊎ ((e.ad_type ≡ pos 96) × (way ≡ field_way 0))))

-- no AuthorizationData stands in an element of this type
abbrev pub HasNoWay : AuthorizationDataInner → Type 0
HasNoWay e = (way : List Step) → IsWay e way → ⊥

-- the way leads to these octets, which begin somewhere
abbrev pub Reaches : List Step → List ℕ → List ℕ → Type 0
Reaches way octets inner = (start : ℕ) × Leads way octets start inner

-- an AD-WIN2K-PAC of these octets
abbrev pub IsPacOf : AuthorizationDataInner → List ℕ → Type 0
IsPacOf e octets = IsPac e × (octets ≡ e.ad_data)

-- ---- no PAC

-- the octets are an AuthorizationData, no element of which is an AD-WIN2K-PAC; in each that has a way, it leads to an AuthorizationData of which the
-- same holds; and there are at most so many levels of these
unfoldable pub HoldsFree : EncodingOf (List AuthorizationDataInner) → ℕ → List ℕ → Type 0
HoldsFree t zero octets = ⊥
HoldsFree t (suc n) octets =
    (inner : List AuthorizationDataInner) × Encodes t octets inner
    × EachIs (λ e. (IsPac e → ⊥) × ((way : List Step) → IsWay e way → (octets : List ℕ) × Reaches way e.ad_data octets × HoldsFree t n octets)) inner

-- the element is no AD-WIN2K-PAC, and none stands in it
abbrev pub IsFree : EncodingOf (List AuthorizationDataInner) → ℕ → AuthorizationDataInner → Type 0
IsFree t n e = (IsPac e → ⊥) × ((way : List Step) → IsWay e way → (octets : List ℕ) × Reaches way e.ad_data octets × HoldsFree t n octets)

-- no PAC stands in authorization data, at any of 16 levels, and there are no more
abbrev pub NoPacOf : EncodingOf (List AuthorizationDataInner) → Option (List AuthorizationDataInner) → Type 0
NoPacOf t None = ⊤
NoPacOf t (Some elements) = EachIs (IsFree t 16) elements

-- ---- one PAC

-- one of these has it, with this value, and each other one is free
abbrev pub OneOf : {A B : Type 0} → (A → Type 0) → (A → B → Type 0) → List A → B → Type 0
OneOf free has [] v = ⊥
OneOf free has (x ∷ xs) v = (has x v × EachIs free xs) ⊎ (free x × OneOf free has xs v)

-- the octets are an AuthorizationData, one element of which is the AD-WIN2K-PAC of these; no other stands in it, at any depth
pub record HoldsOne (t : EncodingOf (List AuthorizationDataInner)) (octets pac : List ℕ) : Type 0 where
  pub inner : List AuthorizationDataInner
  pub encoded : Encodes t octets inner
  pub one : OneOf (IsFree t 15) IsPacOf inner pac

-- an AD-IF-RELEVANT that holds this PAC so
abbrev pub HoldsPac : EncodingOf (List AuthorizationDataInner) → AuthorizationDataInner → List ℕ → Type 0
HoldsPac t e pac = (e.ad_type ≡ pos 1) × HoldsOne t e.ad_data pac

-- one element of a ticket's authorization data holds this PAC so, and in no other one stands any
abbrev pub TicketPac : EncodingOf (List AuthorizationDataInner) → Option (List AuthorizationDataInner) → List ℕ → Type 0
TicketPac t None octets = ⊥
TicketPac t (Some elements) octets = OneOf (IsFree t 16) (HoldsPac t) elements octets

-- ---- what is handed out

-- those that are free, in their order
abbrev pub AreKept : {A : Type 0} → (A → Type 0) → List A → List A → Type 0
AreKept free [] kept = kept ≡ []
AreKept {A} free (x ∷ xs) kept =
    (free x × ((rest : List A) × (kept ≡ x ∷ rest) × AreKept free xs rest)) ⊎ ((free x → ⊥) × AreKept free xs kept)

-- this is appended to those that are kept, if it is free
abbrev pub IsPushedIf : {A : Type 0} → (A → Type 0) → A → List A → List A → Type 0
IsPushedIf free x kept now = (free x × (now ≡ kept ++ x ∷ [])) ⊎ ((free x → ⊥) × (now ≡ kept))

-- authorization data of these elements; none of no elements
abbrev pub some_of : {A : Type 0} → List A → Option (List A)
some_of [] = None
some_of (x ∷ xs) = Some (x ∷ xs)

-- authorization data without the elements in which a PAC stands
abbrev pub IsWithoutPac : EncodingOf (List AuthorizationDataInner) → Option (List AuthorizationDataInner) → Option (List AuthorizationDataInner) → Type 0
IsWithoutPac t None data_left = data_left ≡ None
IsWithoutPac t (Some elements) data_left =
    (kept : List AuthorizationDataInner) × AreKept (IsFree t 16) elements kept × (data_left ≡ some_of kept)

-- ---- what was found

-- nothing; or this, once; or neither
abbrev pub MatchHeld : Held → Type 0 → (List ℕ → Type 0) → Type 0
MatchHeld held.Nowhere free has = free
MatchHeld (held.Once v) free has = has v.items × (free → ⊥)
MatchHeld held.Elsewhere free has = (free → ⊥) × ((octets : List ℕ) → has octets → ⊥)

-- what is found in both
abbrev pub both : Held → Held → Held
both held.Nowhere next = next
both (held.Once v) held.Nowhere = held.Once v
both (held.Once v) (held.Once w) = held.Elsewhere
both (held.Once v) held.Elsewhere = held.Elsewhere
both held.Elsewhere next = held.Elsewhere
