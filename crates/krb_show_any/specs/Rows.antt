-- The rows of kinds in the table of `krb_schema`, and what a walk by a row comes to.
use Rattle.std.specs.Prelude.{◌||◌, ℕ, nat_eq, if◌then◌else◌, List, [], ◌∷◌, codes}
use Rattle.krb_show_pages.specs.Pages.{is_reply}
use Rattle.krb_show.specs.RowWalk.{IsWalkBy}
use Rattle.krb_show.specs.declared.rows.walk.Walk.{Walk}
use Rattle.krb_show_any.specs.Names.{kind_name}
use Rattle.krb_show_any.specs.declared.kind.Kind.{Kind}
use Rattle.krb_show_any.specs.declared.kind.Kind.TheVariants as kinds

-- The alternative of NegotiationToken (RFC 4178, 4.2) that the first octet tells. MIC and Wrap tokens (RFC 4121, 4.2.6) and frames
-- (RFC 2743, 3.1) have no row.
abbrev pub token_row : List ℕ → List ℕ
token_row [] = codes "NegotiationToken (negTokenInit)"
token_row (first ∷ rest) =
    if nat_eq first 161 then codes "NegotiationToken (negTokenResp)"
    else if nat_eq first 4 || nat_eq first 5 || nat_eq first 96 then codes "token"
    else codes "NegotiationToken (negTokenInit)"

-- the alternative of PA-PK-AS-REP (RFC 4556, 3.2.3) that the first octet tells
abbrev pub choice_row : List ℕ → List ℕ
choice_row [] = codes "PA-PK-AS-REP (dhInfo)"
choice_row (first ∷ rest) = if nat_eq first 129 then codes "PA-PK-AS-REP (encKeyPack)" else codes "PA-PK-AS-REP (dhInfo)"

-- that of a type, which is a CHOICE if it is PA-PK-AS-REP
abbrev pub type_row : List ℕ → List ℕ → List ℕ
type_row name octets = if is_reply name then choice_row octets else name

-- the name of the row of octets of a kind, if there is one
abbrev pub row_name : Kind → List ℕ → List ℕ
row_name kinds.Token octets = token_row octets
row_name (kinds.Type name) octets = type_row name.now octets
row_name kind octets = kind_name kind

-- what a walk of octets of a kind comes to
abbrev pub IsWalkOf : Kind → List ℕ → Walk → Type 0
IsWalkOf kind octets walk = IsWalkBy (row_name kind octets) (kind_name kind) octets walk
