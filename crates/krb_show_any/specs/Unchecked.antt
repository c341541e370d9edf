-- Pages that say which PACs nobody checks.
use Rattle.std.specs.Prelude.{◌≡◌, ℕ, ℤ, pos, ◌+◌, ◌-◌, ◌^◌, min, nat_eq, Bool, true, false, ◌&&◌, ◌||◌, if◌then◌else◌, List, [], Option, None, Some, codes, length}
use Rattle.std.specs.Cmp.Lexicographic.{pointwise}
use Rattle.std.specs.List.{slice_get}
use Rattle.std.specs.Ordering.{int_eq}
use Rattle.krb_registry.specs.declared.kind.Kind.{Kind}
use Rattle.krb_registry.specs.declared.kind.Kind.TheVariants as registries
use Rattle.krb_show.specs.Leaves.{text_of}
use Rattle.krb_show.specs.Tokens.{Token, plain}
use Rattle.krb_show.specs.Walk.{walk_of}
use Rattle.krb_show.specs.declared.token.Form.{Form}
use Rattle.krb_show.specs.declared.token.Form.TheVariants as form
use Rattle.krb_show_any.specs.declared.unchecked.Remark.{Remark}
use Rattle.krb_show_any.specs.declared.unchecked.Remark.TheVariants as remarks
use Rattle.krb_show_any.specs.declared.unchecked.Within.{Within}
use Rattle.krb_show_any.specs.declared.unchecked.Within.TheVariants as within

-- ---- what a token stands in: the part of a ticket (RFC 4120, 5.3), an authenticator (5.5.1), or neither; and in how many structs and lists of it

abbrev pub named : List ℕ → Within
named text =
    if pointwise nat_eq text (codes "EncTicketPart") then within.Ticket 0 false false
    else if pointwise nat_eq text (codes "Authenticator") then within.Authenticator 0
    else within.Neither

abbrev pub one_more : ℕ → ℕ
one_more depth = min (depth + 1) (2 ^ 32 - 1)

abbrev pub deeper : Within → Within
deeper within.Neither = within.Neither
deeper (within.Ticket depth relevant seen) = within.Ticket (one_more depth) relevant seen
deeper (within.Authenticator depth) = within.Authenticator (one_more depth)

abbrev pub begun : List ℕ → Within → Within
begun text within.Neither = named text
begun text other = deeper other

abbrev pub ended : Within → Within
ended within.Neither = within.Neither
ended (within.Ticket depth relevant seen) = if nat_eq depth 0 then within.Neither else within.Ticket (depth - 1) relevant seen
ended (within.Authenticator depth) = if nat_eq depth 0 then within.Neither else within.Authenticator (depth - 1)

-- ---- types of elements (RFC 4120, 7.5.4; RFC 7751, 3)

abbrev pub is_element_type : Option Kind → Bool
is_element_type (Some registries.AuthorizationDataType) = true
is_element_type other = false

-- AD-WIN2K-PAC
abbrev pub is_pac_number : Option ℤ → Bool
is_pac_number None = false
is_pac_number (Some z) = int_eq z (pos 128)

-- AD-IF-RELEVANT
abbrev pub is_relevant_number : Option ℤ → Bool
is_relevant_number None = false
is_relevant_number (Some z) = int_eq z (pos 1)

-- AD-IF-RELEVANT, AD-KDCIssued, AD-AND-OR, AD-MANDATORY-FOR-KDC or AD-CAMMAC, which hold AuthorizationData
abbrev pub is_holder_number : Option ℤ → Bool
is_holder_number None = false
is_holder_number (Some z) = int_eq z (pos 1) || (int_eq z (pos 4) || (int_eq z (pos 5) || (int_eq z (pos 8) || int_eq z (pos 96))))

abbrev pub is_pac : Token → Bool
is_pac t = is_element_type t.label.kind && is_pac_number t.number

abbrev pub is_holder : Token → Bool
is_holder t = is_element_type t.label.kind && is_holder_number t.number

abbrev pub is_pac_at : Option Token → Bool
is_pac_at None = false
is_pac_at (Some t) = is_pac t

abbrev pub is_holder_at : Option Token → Bool
is_holder_at None = false
is_holder_at (Some t) = is_holder t

abbrev pub ends_with_pac : List Token → Bool
ends_with_pac page = is_pac_at (slice_get page (length page - 1))

abbrev pub ends_with_holder : List Token → Bool
ends_with_holder page = is_holder_at (slice_get page (length page - 1))

-- ---- from token to token

-- the type of one of the ticket's own elements, which stands in their list and in the element: whether that is an AD-IF-RELEVANT
abbrev pub typed : Option ℤ → Within → Within
typed number (within.Ticket depth relevant seen) =
    if nat_eq depth 2 then within.Ticket depth (is_relevant_number number) seen else within.Ticket depth relevant seen
typed number other = other

abbrev pub passed : Token → Within → Within
passed t w = if is_element_type t.label.kind then typed t.number w else w

abbrev pub behind : Token → Within → Within
behind t w = by_form t.form
  where
    by_form : Form → Within
    by_form form.Struct = begun t.label.text w
    by_form form.List = deeper w
    by_form form.StructEnd = ended w
    by_form form.ListEnd = ended w
    by_form other = passed t w

-- ---- which is checked

-- In a ticket's part the list of its elements, one of them, the list within that and one of these are four: where the first PAC stands that an
-- AD-IF-RELEVANT holds (MS-PAC, 2.3), which a service checks. Each other, and each in an authenticator, nobody does.
abbrev pub is_unchecked : Within → Bool
is_unchecked within.Neither = false
is_unchecked (within.Ticket depth relevant seen) = if nat_eq depth 4 && relevant then seen else true
is_unchecked (within.Authenticator depth) = true

-- behind the type of the ticket's PAC that has been seen
abbrev pub seen_behind : Within → Within
seen_behind (within.Ticket depth relevant seen) = within.Ticket depth relevant (seen || (nat_eq depth 4 && relevant))
seen_behind other = other

abbrev pub before : Bool → Within → Within
before is_pac w = if is_pac then seen_behind w else w

abbrev pub is_inside : Within → Bool
is_inside within.Neither = false
is_inside other = true

abbrev pub is_octets : Form → Bool
is_octets form.Octets = true
is_octets other = false

-- ---- what is said

-- of a PAC that nobody checks; and of an element that holds others and whose data are octets
abbrev pub remark_of : Bool → Bool → Within → Remark
remark_of is_pac is_closed w = if is_pac && is_unchecked w then remarks.Here else if is_closed && is_inside w then remarks.Inside else remarks.Nothing

abbrev pub told : Remark → List Token → List Token → Type 0
told remarks.Nothing = λ old new. new ≡ old
told remarks.Here = text_of (plain (codes "unchecked")) (codes "nobody checks a PAC that stands here")
told remarks.Inside = text_of (plain (codes "unchecked")) (codes "nobody checks a PAC that stands within")

-- what is inserted before a token, behind the type of an element
pub record IsInserted (w : Within) (t : Token) (old : List Token) (after : Within) (new : List Token) : Type 0 where
  pub is_told : told (remark_of (ends_with_pac old) (ends_with_holder old && is_octets t.form) w) old new
  pub goes_on : after ≡ behind t (before (ends_with_pac old) w)

-- the second page is the first, which says it of each PAC that nobody checks, and of what it does not show
abbrev pub IsWithUnchecked : List Token → List Token → Type 0
IsWithUnchecked page made = (after : Within) × walk_of IsInserted within.Neither page [] after made
