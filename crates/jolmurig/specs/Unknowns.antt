-- What octets are that begin as no kind.
use Rattle.std.specs.Prelude.{ℕ, nat_eq, nat_le, ◌||◌, ◌&&◌, Bool, if◌then◌else◌, List, [], ◌∷◌, codes}
use Rattle.std.specs.List.{list_all, starts_with}
use Rattle.jolmurig.specs.declared.unknown.Unknown.{Unknown}
use Rattle.jolmurig.specs.declared.unknown.Unknown.TheVariants as unknown

-- a printable character of ASCII or a blank (RFC 20), a tab, a line feed or a carriage return
abbrev pub is_printed : ℕ → Bool
is_printed octet = (nat_le 32 octet && nat_le octet 126) || nat_eq octet 9 || nat_eq octet 10 || nat_eq octet 13

-- text of ASCII. No encoding of a message or a part is: behind its tag and its length stands an element with a tag past 127 (RFC 4120, 5).
abbrev pub is_text : List ℕ → Bool
is_text octets = list_all is_printed octets

-- nothing; a message of NTLM, which begins with `NTLMSSP` and a NUL (MS-NLMP, 2.2.1); text
abbrev pub unknown_of : List ℕ → Unknown
unknown_of [] = unknown.Empty
unknown_of (first ∷ rest) =
    if starts_with nat_eq (first ∷ rest) (codes "NTLMSSP\0") then unknown.Ntlm
    else if is_text (first ∷ rest) then unknown.Text
    else unknown.Other

-- what the failure is of
abbrev pub unknown_subject : Unknown → List ℕ
unknown_subject unknown.Empty = codes "empty"
unknown_subject unknown.Ntlm = codes "NTLM"
unknown_subject unknown.Text = codes "text"
unknown_subject unknown.Other = codes "unknown kind"

-- what is said of them
abbrev pub unknown_reason : Unknown → List ℕ
unknown_reason unknown.Empty = codes "there are no octets"
unknown_reason unknown.Ntlm = codes "the octets are a message of NTLM, and none of Kerberos"
unknown_reason unknown.Text = codes "the octets are text, in none of the forms that are read: PEM, a header of HTTP, hexadecimal or base64"
unknown_reason unknown.Other = codes "the octets begin as no kind that is known; --as TYPE names one"
