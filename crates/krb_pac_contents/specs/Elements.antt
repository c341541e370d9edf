-- Elements of one width, one after the other.
use Rattle.std.specs.Prelude.{ℕ, zero, suc, List, [], ◌∷◌, drop, Result, Ok, Err}
use Rattle.krb_pac_contents.specs.Numbers.{long_at, elements_of}
use Rattle.krb_pac_contents.specs.Sid.{sid_of}
use Rattle.krb_pac_contents.specs.Steps.{Read}
use Rattle.krb_pac_contents.specs.declared.error.LogonError.{LogonError}
use Rattle.krb_pac_contents.specs.declared.elements.Membership.{Membership}
use Rattle.krb_pac_contents.specs.declared.elements.SidAndAttributes.{SidAndAttributes}

-- a GROUP_MEMBERSHIP (MS-PAC 2.2.2): RelativeId and Attributes
abbrev pub membership : List ℕ → Membership
membership b = record { relative_id = long_at 0 b; attributes = long_at 4 b }

abbrev pub memberships : ℕ → List ℕ → List Membership
memberships n b = elements_of 8 membership n b

-- this list of what was read; nothing of what was refused
abbrev pub if_read : {A : Type 0} → Result Read LogonError → (Read → List A) → List A
if_read (Ok s) list = list s
if_read (Err x) list = []

-- n elements of KERB_SID_AND_ATTRIBUTES (MS-PAC 2.2.1): of each the attributes after its pointer, and the SID that it points to, of those
-- that stand in b in their order
unfoldable pub sids_of : ℕ → List ℕ → List ℕ → List SidAndAttributes
sids_of zero e b = []
sids_of (suc n) e b = if_read (sid_of b) (λ s. record { sid = s.octets; attributes = long_at 4 e } ∷ sids_of n (drop 8 e) s.rest)
