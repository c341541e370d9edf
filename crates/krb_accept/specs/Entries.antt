-- Entries of a replay cache as octets.
use Rattle.std.specs.Prelude.{ℕ, ◌^◌, ◌<◌, List, [], ◌∷◌, ◌++◌}
use Rattle.std.specs.Int.{cast_unsigned, to_be_bytes, w32, w64}
use Rattle.std.specs.Int.RustNames.{FitsSigned}
use Rattle.std.specs.List.{AllByRecursion, flat_map}
use Rattle.std.specs.Str.{IsAscii}
use Rattle.krb_accept_rules.specs.declared.cache.Entry.{Entry}

-- a text, and an octet that is none of ASCII
abbrev pub text_octets : List ℕ → List ℕ
text_octets text = text ++ 255 ∷ []

-- texts, and another such octet
abbrev pub texts_octets : List (List ℕ) → List ℕ
texts_octets texts = flat_map text_octets texts ++ 254 ∷ []

-- the client's time, and the names of the server and the client
abbrev pub entry_octets : Entry → List ℕ
entry_octets e =
    to_be_bytes w64 (cast_unsigned w64 e.seconds) ++ to_be_bytes w32 e.microseconds
    ++ text_octets e.server_realm ++ texts_octets e.server ++ text_octets e.client_realm ++ texts_octets e.client

-- each text is of ASCII, and the numbers fit their types: so each value of the type is
pub record IsEntry (e : Entry) : Type 0 where
  pub seconds : FitsSigned w64 e.seconds
  pub microseconds : e.microseconds < 2 ^ 32
  pub server_realm : IsAscii e.server_realm
  pub server : AllByRecursion IsAscii e.server
  pub client_realm : IsAscii e.client_realm
  pub client : AllByRecursion IsAscii e.client
