-- Channel bindings, as the checksum of an authenticator has them (RFC 4121, 4.1.1.2).
use Rattle.std.specs.Prelude.{ℕ, ◌^◌, ◌<◌, List, ◌++◌, length}
use Rattle.std.specs.Int.{to_le_bytes, w32}
use Rattle.krb_accept.specs.declared.bindings.ChannelBindings.{ChannelBindings}

-- a number as four octets, the lowest first
abbrev pub number : ℕ → List ℕ
number n = to_le_bytes w32 n

-- the length of octets, and the octets
abbrev pub counted : List ℕ → List ℕ
counted octets = number (length octets) ++ octets

-- the type and the octets of the initiator's address, those of the acceptor's, and the application's data
abbrev pub bindings_octets : ChannelBindings → List ℕ
bindings_octets b =
    number b.initiator_type ++ counted b.initiator_address.now ++ number b.acceptor_type ++ counted b.acceptor_address.now
    ++ counted b.application_data.now

-- four octets hold each length
pub record FitsBindings (b : ChannelBindings) : Type 0 where
  pub initiator : length b.initiator_address.now < 2 ^ 32
  pub acceptor : length b.acceptor_address.now < 2 ^ 32
  pub application : length b.application_data.now < 2 ^ 32
