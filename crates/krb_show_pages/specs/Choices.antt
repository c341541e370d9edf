-- PA-PK-AS-REP (RFC 4556, 3.2.3), a CHOICE, under the names of its alternatives.
use Rattle.std.specs.Prelude.{ℕ, nat_eq, Bool, true, false, List, [], ◌∷◌, Result, codes}
use Rattle.krb_der_core.specs.declared.error.Asn1DerError.{Asn1DerError}
use Rattle.krb_show.specs.Pages.{struct_of}
use Rattle.krb_show.specs.Tokens.{Label, Token, plain}
use Rattle.krb_show_messages.specs.Shown.{IsRowPage, row_shown}

-- the first octet is that of the second alternative
abbrev pub is_pack : List ℕ → Bool
is_pack [] = false
is_pack (first ∷ rest) = nat_eq first 129

-- the second alternative, and the first, by their rows
abbrev pub alternative : Bool → List ℕ → List Token → List Token → Type 0
alternative true octets = row_shown (codes "PA-PK-AS-REP (encKeyPack)") (codes "encKeyPack") octets
alternative false octets = row_shown (codes "PA-PK-AS-REP (dhInfo)") (codes "dhInfo") octets

-- the one that the first octet tells
abbrev pub alternative_of : List ℕ → List Token → List Token → Type 0
alternative_of octets = alternative (is_pack octets) octets

abbrev pub reply_of : Label → List ℕ → List Token → List Token → Type 0
reply_of label octets = struct_of label (alternative_of octets)

-- what is answered of octets by the row of an alternative, called so
abbrev pub IsReplyBy : {P : Type 0} → List ℕ → List ℕ → (P → List Token) → List ℕ → Result P Asn1DerError → Type 0
IsReplyBy row text tokens octets result = IsRowPage row text (struct_of (plain (codes "PA-PK-AS-REP")) (row_shown row text octets)) tokens octets result

abbrev pub by_alternative : {P : Type 0} → Bool → (P → List Token) → List ℕ → Result P Asn1DerError → Type 0
by_alternative true tokens octets result = IsReplyBy (codes "PA-PK-AS-REP (encKeyPack)") (codes "encKeyPack") tokens octets result
by_alternative false tokens octets result = IsReplyBy (codes "PA-PK-AS-REP (dhInfo)") (codes "dhInfo") tokens octets result

-- what is answered of octets in its place: by the row of the alternative that the first octet tells
abbrev pub IsReplyTold : {P : Type 0} → (P → List Token) → List ℕ → Result P Asn1DerError → Type 0
IsReplyTold tokens octets result = by_alternative (is_pack octets) tokens octets result
