-- The octets that are handed out of a client that is let in, one part behind the other.
use Rattle.std.specs.Prelude.{◌≡◌, ℕ, List, [], ◌++◌, length, Option, None, Some}
use Rattle.std.specs.Option.{option_map}
use Rattle.krb_accept.specs.declared.delegation.Delegated.{Delegated}
use Rattle.krb_der_core.specs.declared.der.DerEncode.{Ghosts as EncodingOf}
use Rattle.krb_types.specs.declared.data_types.authorization_data.AuthorizationDataInner.{AuthorizationDataInner}
use Rattle.krb_c_accept.specs.Replies.{optional_key}
use Rattle.krb_c_accept.specs.declared.decision.LetIn.{LetIn}
use Rattle.krb_c_accept.specs.declared.parts.Parts.{Parts}
use Rattle.krb_c_accept.specs.declared.parts.Places.{Places}
use Rattle.krb_c_accept.specs.declared.records.OutPlace.{OutPlace}
use Rattle.krb_c_accept.specs.declared.reply.Reply.{Reply}

-- ---- which octets

-- the encoding of authorization data (RFC 4120, 5.2.6), or none
abbrev pub optional_encoding : EncodingOf (List AuthorizationDataInner) → Option (List AuthorizationDataInner) → List ℕ
optional_encoding t None = []
optional_encoding t (Some v) = t.enc v

-- those of a KRB-CRED (RFC 4120, 5.8), or none
abbrev pub optional_delegated : Option Delegated → List ℕ
optional_delegated None = []
optional_delegated (Some d) = d.octets.items

-- those of a PAC (MS-PAC, 2.1), or none
abbrev pub optional_octets : Option (List ℕ) → List ℕ
optional_octets None = []
optional_octets (Some octets) = octets

pub record ArePartsOf (elements : EncodingOf (List AuthorizationDataInner)) (l : LetIn) (r : Reply) (p : Parts) : Type 0 where
  pub entry : p.entry.now ≡ l.entry.items
  pub session_key : p.session_key.now ≡ l.context.accepted.ticket.key.key_value
  pub subkey : p.subkey.now ≡ optional_key l.context.accepted.subkey
  pub own_subkey : p.own_subkey.now ≡ r.own_subkey.items
  pub pac : p.pac.now ≡ optional_octets (option_map (λ v. v.items) l.context.pac)
  pub transited : p.transited.now ≡ l.context.accepted.ticket.transited.contents
  pub authorization_data : p.authorization_data.now ≡ optional_encoding elements l.context.accepted.ticket.authorization_data
  pub restrictions : p.restrictions.now ≡ optional_encoding elements l.context.accepted.authorization_data
  pub delegated : p.delegated.now ≡ optional_delegated l.context.delegated
  pub reply : p.reply.now ≡ r.octets.items

-- ---- where they stand

-- octets behind others
abbrev pub place_behind : List ℕ → List ℕ → OutPlace
place_behind before octets = record { offset = length before; size = length octets }

-- the parts behind others, in this order
abbrev pub joined : List ℕ → Parts → List ℕ
joined before p =
    before ++ p.entry.now ++ p.session_key.now ++ p.subkey.now ++ p.own_subkey.now ++ p.pac.now ++ p.transited.now ++ p.authorization_data.now
    ++ p.restrictions.now ++ p.delegated.now ++ p.reply.now

abbrev pub places_behind : List ℕ → Parts → Places
places_behind before p = record {
  entry = place_behind before p.entry.now;
  session_key = place_behind (before ++ p.entry.now) p.session_key.now;
  subkey = place_behind (before ++ p.entry.now ++ p.session_key.now) p.subkey.now;
  own_subkey = place_behind (before ++ p.entry.now ++ p.session_key.now ++ p.subkey.now) p.own_subkey.now;
  pac = place_behind (before ++ p.entry.now ++ p.session_key.now ++ p.subkey.now ++ p.own_subkey.now) p.pac.now;
  transited = place_behind (before ++ p.entry.now ++ p.session_key.now ++ p.subkey.now ++ p.own_subkey.now ++ p.pac.now) p.transited.now;
  authorization_data =
      place_behind (before ++ p.entry.now ++ p.session_key.now ++ p.subkey.now ++ p.own_subkey.now ++ p.pac.now ++ p.transited.now) p.authorization_data.now;
  restrictions =
      place_behind (before ++ p.entry.now ++ p.session_key.now ++ p.subkey.now ++ p.own_subkey.now ++ p.pac.now ++ p.transited.now ++ p.authorization_data.now)
      p.restrictions.now;
  delegated =
      place_behind (before ++ p.entry.now ++ p.session_key.now ++ p.subkey.now ++ p.own_subkey.now ++ p.pac.now ++ p.transited.now ++ p.authorization_data.now
      ++ p.restrictions.now) p.delegated.now;
  reply =
      place_behind (before ++ p.entry.now ++ p.session_key.now ++ p.subkey.now ++ p.own_subkey.now ++ p.pac.now ++ p.transited.now ++ p.authorization_data.now
      ++ p.restrictions.now ++ p.delegated.now) p.reply.now;
}
