-- The hash of channel bindings, handed out (RFC 2744, 3.11; RFC 4121, 4.1.1.2).
use Rattle.std.specs.Prelude.{◌≡◌, ◌⊎◌, ℕ, ◌^◌, ◌<◌, List, ◌++◌, length}
use Rattle.md5.specs.Md5.{md5}
use Rattle.krb_accept.specs.Bindings.{counted, number}
use Rattle.krb_accept.specs.declared.bindings.ChannelBindings.{ChannelBindings}

-- the type and the octets of each side's address, and the application's data
pub record Sides : Type 0 where
  pub initiator_type : ℕ
  pub initiator_address : List ℕ
  pub acceptor_type : ℕ
  pub acceptor_address : List ℕ
  pub application_data : List ℕ

abbrev pub sides_of : ChannelBindings → Sides
sides_of b = record {
  initiator_type = b.initiator_type;
  initiator_address = b.initiator_address.now;
  acceptor_type = b.acceptor_type;
  acceptor_address = b.acceptor_address.now;
  application_data = b.application_data.now;
}

-- four octets hold each length
abbrev pub FitSides : Sides → Type 0
FitSides s = (length s.initiator_address < 2 ^ 32) × (length s.acceptor_address < 2 ^ 32) × (length s.application_data < 2 ^ 32)

-- the MD5 of the types, of the lengths and of what they are of
abbrev pub IsBindingsHash : Sides → List ℕ → Type 0
IsBindingsHash s hash =
    FitSides s
    × (hash ≡ md5 (number s.initiator_type ++ counted s.initiator_address ++ number s.acceptor_type ++ counted s.acceptor_address ++ counted s.application_data))

-- four octets do not hold a length (21), or an allocation failed (2)
abbrev pub RefusesBindings : Sides → ℕ → Type 0
RefusesBindings s status = ((FitSides s → ⊥) × (status ≡ 21)) ⊎ (status ≡ 2)
