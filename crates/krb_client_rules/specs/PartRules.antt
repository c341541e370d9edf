-- What the part of a KDC's reply has to say (RFC 4120, 3.1.3, 3.1.5, 3.3.3, 3.3.4, 5.2.8 and 5.4.2; RFC 3961, 5.3).
use Rattle.std.specs.Prelude.{◌≡◌, ℕ, ◌≤◌, pos, true, List, [], ◌∷◌, Option, Some, None, Contains}
use Rattle.krb_der_core.specs.GeneralizedTime.{Time}
use Rattle.krb_messages.specs.declared.messages.replies.EncKdcRepPart.{EncKdcRepPart}
use Rattle.krb_types.specs.declared.data_types.addresses.HostAddress.{HostAddress}
use Rattle.krb_types.specs.Flags.{is_set}
use Rattle.krb_types.specs.Times.{unix_seconds}
use Rattle.krb_client_rules.specs.declared.asked.Asked.{Asked}
use Rattle.krb_client_rules.specs.declared.asked.Clock.{Clock}
use Rattle.krb_client_rules.specs.declared.mismatch.Mismatch.{Mismatch}
use Rattle.krb_client_rules.specs.declared.mismatch.Mismatch.TheVariants as rule
use Rattle.krb_client_rules.specs.Etypes.{IsAskedFor}
use Rattle.krb_client_rules.specs.InOrder.{BreaksFirst, Keeps}
use Rattle.krb_client_rules.specs.Names.{IsServer}
use Rattle.krb_client_rules.specs.Sizes.{HasFlags, HasKeySize}
use Rattle.krb_client_rules.specs.Times.{IsInTime, IsInTimeOf, IsOrdered, IsWithin, begin_of, start_or}

-- from when on the ticket is valid (5.3)
abbrev pub start_of : EncKdcRepPart → Time
start_of p = start_or p.start_time.0 p.auth_time

-- it is valid from the time that was asked for, as far as the clocks may differ (3.1.3)
abbrev pub StartsInTime : Asked → Clock → Time → Type 0
StartsInTime a c start = IsWithin c.skew (unix_seconds start) (begin_of a.from c.seconds)

-- it is not valid after the time that was asked for (3.1.3), and does not end before it starts
abbrev pub EndsInTime : Asked → Time → Time → Type 0
EndsInTime a start end = IsInTime a.till end × IsOrdered start end

-- renew-till is there only where RENEWABLE (8) is set (5.3), and is not after the time that was asked for (3.1.3)
abbrev pub IsRenewal : Asked → List ℕ → Option Time → Type 0
IsRenewal a flags None = Unit {0}
IsRenewal a flags (Some time) = (is_set flags 8 ≡ true) × IsInTimeOf a.rtime time

-- of the flags 1 to 8, forwardable to renewable, none is set but those that were asked for (2 and 5.3)
abbrev pub AreAllowed : List ℕ → List ℕ → Type 0
AreAllowed allowed flags = (n : ℕ) → 1 ≤ n → n ≤ 8 → is_set flags n ≡ true → Contains allowed n

-- no address is named: none was asked for; an empty list says the same as none (5.1.3)
abbrev pub HasNoAddress : Option (List HostAddress) → Type 0
HasNoAddress None = Unit {0}
HasNoAddress (Some addresses) = addresses ≡ []

-- the rules
abbrev pub PartRule : Asked → Clock → EncKdcRepPart → Mismatch → Type 0
PartRule a c p rule.Nonce = p.nonce ≡ pos a.nonce
PartRule a c p rule.Server = IsServer a p.srealm p.sname
PartRule a c p rule.SessionKey = IsAskedFor a.etypes.items p.key.key_type
PartRule a c p rule.SessionKeySize = HasKeySize p.key.key_type p.key.key_value
PartRule a c p rule.FlagsSize = HasFlags p.flags
PartRule a c p rule.Start = StartsInTime a c (start_of p)
PartRule a c p rule.End = EndsInTime a (start_of p) p.end_time
PartRule a c p rule.RenewTill = IsRenewal a p.flags.octets p.renew_till.0
PartRule a c p rule.Flags = AreAllowed a.flags.items p.flags.octets
PartRule a c p rule.Addresses = HasNoAddress p.caddr.0
PartRule a c p other = Unit {0}

abbrev pub identity_order : List Mismatch
identity_order = rule.Nonce ∷ rule.Server ∷ rule.SessionKey ∷ rule.SessionKeySize ∷ rule.FlagsSize ∷ []

abbrev pub time_order : List Mismatch
time_order = rule.Start ∷ rule.End ∷ rule.RenewTill ∷ []

abbrev pub part_order : List Mismatch
part_order =
    rule.Nonce ∷ rule.Server ∷ rule.SessionKey ∷ rule.SessionKeySize ∷ rule.FlagsSize ∷ rule.Start ∷ rule.End ∷ rule.RenewTill ∷ rule.Flags ∷ rule.Addresses ∷ []

-- the part answers what was asked, by this clock: it keeps them all
abbrev pub Answers : Asked → Clock → EncKdcRepPart → Type 0
Answers a c p = Keeps (PartRule a c p) part_order

-- this is the first that it does not keep
abbrev pub IsNoAnswer : Asked → Clock → EncKdcRepPart → Mismatch → Type 0
IsNoAnswer a c p broken = BreaksFirst (PartRule a c p) part_order broken
