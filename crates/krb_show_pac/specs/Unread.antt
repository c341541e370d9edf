-- What is wrong with octets that are not read, in words.
use Rattle.std.specs.Prelude.{◌≡◌, ℕ, List, ◌⊎◌, Result, Ok, Err, codes}
use Rattle.krb_pac_contents.specs.declared.buffers.error.BufferError.{BufferError}
use Rattle.krb_pac_contents.specs.declared.buffers.error.BufferError.TheVariants as buffer
use Rattle.krb_pac_contents.specs.declared.error.LogonError.{LogonError}
use Rattle.krb_pac_contents.specs.declared.error.LogonError.TheVariants as logon
use Rattle.krb_show.specs.Leaves.{text_of}
use Rattle.krb_show.specs.Tokens.{Token, plain}

-- of logon information (MS-PAC 2.5), and of security identifiers (MS-DTYP 2.4.2)
abbrev pub logon_words : LogonError → List ℕ
logon_words logon.Truncated = codes "the octets end too early"
logon_words logon.Version = codes "the version of the serialization is not 1"
logon_words logon.Endianness = codes "the octets are not little endian"
logon_words logon.HeaderLength = codes "the length of the common header is not 8"
logon_words logon.ObjectLength = codes "the length of the object is not that of its octets"
logon_words logon.NullPointer = codes "a pointer is null that has to point to something"
logon_words logon.EmptyArray = codes "a pointer to no elements is not null"
logon_words logon.ReferentOrder = codes "a referent id is used twice or is out of order"
logon_words logon.StringLength = codes "the length of a string is odd"
logon_words logon.StringMaximum = codes "the length of a string is greater than its maximum"
logon_words logon.MaximumCount = codes "the maximum count of an array is another than its structure says"
logon_words logon.Offset = codes "the offset of a string is not 0"
logon_words logon.ActualCount = codes "the actual count of a string is another than its structure says"
logon_words logon.Padding = codes "padding is missing"
logon_words logon.SidConformance = codes "the maximum count of a SID is another than its count of sub-authorities"
logon_words logon.SidRevision = codes "the revision of a SID is not 1"
logon_words logon.SubAuthorityCount = codes "a SID has more than 15 sub-authorities"
logon_words logon.TrailingOctets = codes "octets are left over"

-- of small buffers (MS-PAC 2.7, 2.10, 2.14 and 2.15)
abbrev pub buffer_words : BufferError → List ℕ
buffer_words buffer.Truncated = codes "the octets end too early"
buffer_words buffer.NameLength = codes "the length of a name is odd"
buffer_words buffer.Range = codes "a name or an identifier is not within the octets"
buffer_words buffer.TrailingOctets = codes "octets are left over"
buffer_words (buffer.Sid why) = logon_words why

abbrev pub unread_of : List ℕ → List Token → List Token → Type 0
unread_of words = text_of (plain (codes "unread")) words

-- what is read is shown, and of what is not it is said why
abbrev pub read_or_unread : {A E : Type 0} → Result A E → (A → List Token → List Token → Type 0) → (E → List ℕ)
    → List Token → List Token → Type 0
read_or_unread {A} {E} read shows words old new =
    ((v : A) × (read ≡ Ok v) × shows v old new) ⊎ ((why : E) × (read ≡ Err why) × unread_of (words why) old new)
