-- Dumps of octets, as Wireshark, `hexdump -C` and `xxd` print them: on each line an offset, digits in pairs, and a text that repeats them.
use Rattle.std.specs.Prelude.{ℕ, nat_eq, nat_le, not, Bool, true, false, ◌||◌, ◌&&◌, if◌then◌else◌, Option, Some, None, List, [], ◌∷◌, codes}
use Rattle.krb_input.specs.Blanks.{is_blank}
use Rattle.krb_input.specs.Machines.{written_from}
use Rattle.krb_input.specs.Words.{after_text}
use Rattle.krb_input.specs.declared.dump.Column.{Column}
use Rattle.krb_input.specs.declared.dump.Column.TheVariants as column

-- whether an octet is a hexadecimal digit
abbrev pub is_digit : ℕ → Bool
is_digit octet = (nat_le 48 octet && nat_le octet 57) || (nat_le 65 octet && nat_le octet 70) || (nat_le 97 octet && nat_le octet 102)

-- What follows an octet behind a pair, where a blank leads to this column: a line feed begins a line, and `|` the text.
abbrev pub behind : Bool → Column → ℕ → Column
behind colon at_blank octet =
    if nat_eq octet 10 then column.Offset
    else if nat_eq octet 124 then column.Text
    else if is_blank octet then at_blank
    else column.WithinPair colon

-- The text follows three blanks behind a pair, and two where a colon ends the offset.
abbrev pub behind_blank : Bool → Column
behind_blank true = column.Text
behind_blank false = column.BehindTwoBlanks

-- what follows an offset's octet
abbrev pub behind_offset : ℕ → Column
behind_offset octet =
    if nat_eq octet 58 then column.BeforePair true
    else if is_blank octet && not (nat_eq octet 10) then column.BeforePair false
    else column.Offset

-- what follows an octet
abbrev pub next_column : Column → ℕ → Column
next_column column.Offset octet = behind_offset octet
next_column (column.BeforePair colon) octet = behind colon (column.BeforePair colon) octet
next_column (column.WithinPair colon) octet = column.BehindPair colon
next_column (column.BehindPair colon) octet = behind colon (column.BehindBlank colon) octet
next_column (column.BehindBlank colon) octet = behind colon (behind_blank colon) octet
next_column column.BehindTwoBlanks octet = behind false column.Text octet
next_column column.Text octet = if nat_eq octet 10 then column.Offset else column.Text

-- whether an octet stands between the columns
abbrev pub is_between : ℕ → Bool
is_between octet = is_blank octet || nat_eq octet 124

-- the digits of the pairs; what is no digit in an offset stays too, so that nothing is overlooked
abbrev pub unless : Bool → ℕ → List ℕ
unless skipped octet = if skipped then [] else octet ∷ []

abbrev pub digits_in : Column → ℕ → List ℕ
digits_in column.Offset octet = unless (is_digit octet || nat_eq octet 58 || is_blank octet) octet
digits_in (column.BeforePair colon) octet = unless (is_between octet) octet
digits_in (column.WithinPair colon) octet = octet ∷ []
digits_in (column.BehindPair colon) octet = unless (is_between octet) octet
digits_in (column.BehindBlank colon) octet = unless (is_between octet) octet
digits_in column.BehindTwoBlanks octet = unless (is_between octet) octet
digits_in column.Text octet = []

abbrev pub none_left : Column → List ℕ
none_left column = []

abbrev pub dump_digits : List ℕ → List ℕ
dump_digits text = written_from digits_in next_column none_left column.Offset text

-- the octets from the first on that is no `0`
abbrev pub skip_zeros : List ℕ → List ℕ
skip_zeros [] = []
skip_zeros (octet ∷ octets) = if nat_eq octet 48 then skip_zeros octets else octet ∷ octets

-- whether a colon, a space or a tabulator is at the start
abbrev pub ends_offset : List ℕ → Bool
ends_offset [] = false
ends_offset (octet ∷ octets) = nat_eq octet 58 || nat_eq octet 32 || nat_eq octet 9

-- Whether a text begins as a dump: with an offset of four zeros or more.
abbrev pub is_dump : List ℕ → Bool
is_dump text = begins_so (after_text (codes "0000") text)
  where
    begins_so : Option (List ℕ) → Bool
    begins_so None = false
    begins_so (Some rest) = ends_offset (skip_zeros rest)
