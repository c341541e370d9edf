-- The frame of a context token (RFC 2743, 3.1; RFC 4121, 4.1).
use Rattle.std.specs.Prelude.{ℕ, List, [], ◌∷◌, ◌++◌}
use Rattle.krb_der_core.specs.Tlv.{tlv}
use Rattle.krb_accept.specs.declared.frame.InnerToken.{InnerToken}
use Rattle.krb_accept.specs.declared.frame.InnerToken.TheVariants as inner

-- the OBJECT IDENTIFIER 1.2.840.113554.1.2.2 of Kerberos
abbrev pub mechanism : List ℕ
mechanism = 6 ∷ 9 ∷ 42 ∷ 134 ∷ 72 ∷ 134 ∷ 247 ∷ 18 ∷ 1 ∷ 2 ∷ 2 ∷ []

-- TOK_ID
abbrev pub id_of : InnerToken → List ℕ
id_of inner.ApReq = 1 ∷ 0 ∷ []
id_of inner.ApRep = 2 ∷ 0 ∷ []
id_of inner.KrbError = 3 ∷ 0 ∷ []

abbrev pub front_of : InnerToken → List ℕ
front_of i = mechanism ++ id_of i

-- the token that these octets stand in
abbrev pub in_frame : InnerToken → List ℕ → List ℕ
in_frame i octets = tlv 96 (front_of i ++ octets)
