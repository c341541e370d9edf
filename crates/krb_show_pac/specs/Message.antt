-- What the checksum of a ticket is over (MS-PAC 2.8.3).
use Rattle.std.specs.Prelude.{◌≡◌, ◌≢◌, ◌⊎◌, ℕ, pos, List, [], ◌∷◌, ◌++◌, Some, unwrap_or}
use Rattle.std.specs.List.{AllByRecursion}
use Rattle.krb_enc_parts.specs.declared.data_types.ticket_part.EncTicketPartInner.{EncTicketPartInner}
use Rattle.krb_types.specs.declared.data_types.authorization_data.AuthorizationDataInner.{AuthorizationDataInner}
use Rattle.krb_show.specs.Opened.{IsNone, IsOf}

-- ---- the first PAC of a ticket

-- none of the elements is of this type
abbrev pub NoneIs : ℕ → List AuthorizationDataInner → Type 0
NoneIs number elements = AllByRecursion (λ e. e.ad_type ≢ pos number) elements

-- the first element of this type, and what is before and behind it
pub record IsFirst (number : ℕ) (elements front : List AuthorizationDataInner) (e : AuthorizationDataInner) (back : List AuthorizationDataInner) : Type 0
  where
    pub among : elements ≡ front ++ e ∷ back
    pub first : NoneIs number front
    pub is : e.ad_type ≡ pos number

-- an element of AD-IF-RELEVANT (1) whose data are the encoding of elements, the first AD-WIN2K-PAC (128) of which is this
pub record HoldsPac (is_value : List AuthorizationDataInner → Type 0) (enc : List AuthorizationDataInner → List ℕ) (e : AuthorizationDataInner)
    (front : List AuthorizationDataInner) (pac : AuthorizationDataInner) (back : List AuthorizationDataInner) : Type 0 where
  pub relevant : e.ad_type ≡ pos 1
  pub elements : List AuthorizationDataInner
  pub encoded : IsOf is_value enc e.ad_data elements
  pub first : IsFirst 128 elements front pac back

-- an element of another type, or whose data are the encoding of no elements, or of elements none of which is AD-WIN2K-PAC
abbrev pub HoldsNoPac : (List AuthorizationDataInner → Type 0) → (List AuthorizationDataInner → List ℕ) → AuthorizationDataInner → Type 0
HoldsNoPac is_value enc e =
    (e.ad_type ≢ pos 1)
    ⊎ (IsNone is_value enc e.ad_data
    ⊎ ((elements : List AuthorizationDataInner) × IsOf is_value enc e.ad_data elements × NoneIs 128 elements))

abbrev pub NoneHoldsPac : (List AuthorizationDataInner → Type 0) → (List AuthorizationDataInner → List ℕ) → List AuthorizationDataInner → Type 0
NoneHoldsPac is_value enc elements = AllByRecursion (HoldsNoPac is_value enc) elements

-- the first element that holds a PAC, what is before and behind it, and the same within it
pub record Place : Type 0 where
  pub front : List AuthorizationDataInner
  pub outer : AuthorizationDataInner
  pub back : List AuthorizationDataInner
  pub inner_front : List AuthorizationDataInner
  pub pac : AuthorizationDataInner
  pub inner_back : List AuthorizationDataInner

pub record IsPlace (is_value : List AuthorizationDataInner → Type 0) (enc : List AuthorizationDataInner → List ℕ)
    (elements : List AuthorizationDataInner) (p : Place) : Type 0 where
  pub among : elements ≡ p.front ++ p.outer ∷ p.back
  pub first : NoneHoldsPac is_value enc p.front
  pub holds : HoldsPac is_value enc p.outer p.inner_front p.pac p.inner_back

-- ---- the ticket without it

-- the element with other data
abbrev pub with_data : AuthorizationDataInner → List ℕ → AuthorizationDataInner
with_data e octets = record { ad_type = e.ad_type; ad_data = octets }

-- the elements with one zero octet in the place of the PAC
abbrev pub zeroed_elements : (List AuthorizationDataInner → List ℕ) → Place → List AuthorizationDataInner
zeroed_elements enc p = p.front ++ with_data p.outer (enc (p.inner_front ++ with_data p.pac (0 ∷ []) ∷ p.inner_back)) ∷ p.back

-- a ticket's authorization data, none where they are absent
abbrev pub elements_of : EncTicketPartInner → List AuthorizationDataInner
elements_of v = unwrap_or v.authorization_data.0 []

abbrev pub with_elements : EncTicketPartInner → List AuthorizationDataInner → EncTicketPartInner
with_elements v elements = record v { authorization_data = record { 0 = Some elements } }

-- these data are a PAC, and these those of the element that holds it, with one zero octet in its place
abbrev pub IsZeroed : (List AuthorizationDataInner → Type 0) → (List AuthorizationDataInner → List ℕ) → AuthorizationDataInner → List ℕ → List ℕ → Type 0
IsZeroed is_value enc e octets zeroed =
    (front : List AuthorizationDataInner) × (pac : AuthorizationDataInner) × (back : List AuthorizationDataInner)
    × HoldsPac is_value enc e front pac back × (octets ≡ pac.ad_data) × (zeroed ≡ enc (front ++ with_data pac (0 ∷ []) ∷ back))

-- the same of the elements
abbrev pub IsZeroedAmong : (List AuthorizationDataInner → List ℕ) → List AuthorizationDataInner → List ℕ → List ℕ → Type 0
IsZeroedAmong enc elements octets zeroed =
    (front : List AuthorizationDataInner) × (pac : AuthorizationDataInner) × (back : List AuthorizationDataInner)
    × IsFirst 128 elements front pac back × (octets ≡ pac.ad_data) × (zeroed ≡ enc (front ++ with_data pac (0 ∷ []) ∷ back))

-- these data are the first PAC among the elements of a ticket, and this the encoding of the ticket with one zero octet in its place
abbrev pub IsTicketMessage : (List AuthorizationDataInner → Type 0) → (List AuthorizationDataInner → List ℕ) → (EncTicketPartInner → List ℕ)
    → EncTicketPartInner → List AuthorizationDataInner → List ℕ → List ℕ → Type 0
IsTicketMessage is_value enc enc_ticket v elements octets message =
    (p : Place) × IsPlace is_value enc elements p × (octets ≡ p.pac.ad_data)
    × (message ≡ enc_ticket (with_elements v (zeroed_elements enc p)))
