-- What tags are called (X.690, 8.1.2, and X.680, 8.6, table 1). A hyphen stands where the standard has a blank.
use Rattle.std.specs.Prelude.{ℕ, ◌%◌, nat_eq, nat_lt, if◌then◌else◌, Bool, ◌||◌, List, [], ◌∷◌, ◌++◌, codes}
use Rattle.std.specs.Fmt.{decimal}

-- a word and a number in brackets
abbrev pub bracketed : List ℕ → ℕ → List ℕ
bracketed word number = 91 ∷ word ++ decimal number ++ 93 ∷ []

-- the types of the universal class that Kerberos and the certificates in its messages use, and any other by its number
unfoldable pub universal_name : ℕ → List ℕ
universal_name number =
    if nat_eq number 1 then codes "BOOLEAN"
    else if nat_eq number 2 then codes "INTEGER"
    else if nat_eq number 3 then codes "BIT-STRING"
    else if nat_eq number 4 then codes "OCTET-STRING"
    else if nat_eq number 5 then codes "NULL"
    else if nat_eq number 6 then codes "OBJECT-IDENTIFIER"
    else if nat_eq number 10 then codes "ENUMERATED"
    else if nat_eq number 12 then codes "UTF8String"
    else if nat_eq number 16 then codes "SEQUENCE"
    else if nat_eq number 17 then codes "SET"
    else if nat_eq number 19 then codes "PrintableString"
    else if nat_eq number 22 then codes "IA5String"
    else if nat_eq number 23 then codes "UTCTime"
    else if nat_eq number 24 then codes "GeneralizedTime"
    else if nat_eq number 27 then codes "GeneralString"
    else bracketed (codes "UNIVERSAL-") number

-- The class is in bits 8 and 7 of the tag, the number in bits 5 to 1 (X.690, 8.1.2.2 and 8.1.2.3); bit 6 is not looked at.
unfoldable pub tag_name : ℕ → List ℕ
tag_name tag =
    if nat_lt tag 64 then universal_name (tag % 32)
    else if nat_lt tag 128 then bracketed (codes "APPLICATION-") (tag % 32)
    else if nat_lt tag 192 then bracketed [] (tag % 32)
    else bracketed (codes "PRIVATE-") (tag % 32)

-- whether an element with this tag holds a text: a string of characters or a time, primitive
abbrev pub is_text : ℕ → Bool
is_text tag = nat_eq tag 12 || nat_eq tag 19 || nat_eq tag 22 || nat_eq tag 23 || nat_eq tag 24 || nat_eq tag 27
