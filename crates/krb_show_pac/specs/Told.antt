-- What is told of the checksums of a PAC.
use Rattle.std.specs.Prelude.{◌≡◌, ◌≢◌, ◌⊎◌, ℕ, List, Option, Some, None, codes}
use Rattle.krb_crypto.specs.Suites.{checksum_type, NoSuite}
use Rattle.krb_crypto.specs.declared.checksum_suite.ChecksumSuite.{ChecksumSuite}
use Rattle.krb_pac.specs.declared.error.PacError.TheVariants as pac
use Rattle.krb_pac_signatures.specs.declared.verdict.Verdict.{Verdict}
use Rattle.krb_pac_signatures.specs.declared.verdict.Verdict.TheVariants as verdict
use Rattle.krb_pac_signatures.specs.Signature.{signature_type}
use Rattle.krb_pac_signatures.specs.Signatures.{Signatures, SignaturesOf, SignaturesRejected}
use Rattle.krb_pac_signatures.specs.declared.error.PacSignatureError.{PacSignatureError}
use Rattle.krb_pac_signatures.specs.declared.error.PacSignatureError.TheVariants as errors
use Rattle.krb_show.specs.Leaves.{text_of, word_of}
use Rattle.krb_show.specs.Pages.{◌then◌, struct_of}
use Rattle.krb_show.specs.Tokens.{Label, Token, plain}
use Rattle.krb_decrypt.specs.Keys.{NamedKey}
use Rattle.krb_show_pac.specs.Checksums.{PacChecksum, HasVerdict, full_checksum, kdc_checksum, server_checksum}
use Rattle.krb_show_pac.specs.Holders.{FailsAsKdcs, HaveSameOctets, HoldsAsKdcs, HoldsUnderNone, IsFirstHolder, IsFirstWhere, IsNoneOf, IsOneOf, NoneWhere}

-- ---- one checksum

-- a verdict, in words
abbrev pub told : Label → Verdict → List Token → List Token → Type 0
told label verdict.Absent = word_of label (codes "absent")
told label verdict.NotVerified = text_of label (codes "not verified: its type is not supported")
told label verdict.KeyLength = text_of label (codes "not verified: the key is of another type")
told label verdict.Holds = word_of label (codes "holds")
told label verdict.Differs = word_of label (codes "differs")

-- Of the server's checksum, under the key that opened the ticket, where that is one of the caller's keys. A key that another part held is known to
-- the client, who can make such a checksum: nothing is told under it.
abbrev pub under_key : Label → List NamedKey → NamedKey → Option PacChecksum → List Token → List Token → Type 0
under_key label own key None old new = told label verdict.Absent old new
under_key label own key (Some c) old new =
    (IsOneOf key own × (v : Verdict) × HasVerdict c key.octets v × told label v old new)
    ⊎ (IsNoneOf key own × text_of label (codes "not verified: the key was found in another part") old new)

-- why a checksum is not verified: its type is that of no suite, or no key of the KDC was given that could verify it
abbrev pub unverified : Label → PacChecksum → List Token → List Token → Type 0
unverified label c old new =
    (NoSuite checksum_type (signature_type c.given) × told label verdict.NotVerified old new)
    ⊎ ((suite : ChecksumSuite) × (checksum_type suite ≡ signature_type c.given) × text_of label no_key old new)
  where
    no_key : List ℕ
    no_key = codes "not verified: no key of the KDC of its type was given"

-- of a checksum that holds under none of the keys: under which it fails, the first of those that may be the KDC's; or that no such key was given
abbrev pub under_none : Label → Label → List NamedKey → NamedKey → PacChecksum → List Token → List Token → Type 0
under_none label key_label own opener c old new =
    ((key : NamedKey) × IsFirstWhere (FailsAsKdcs c opener) own key × (told label verdict.Differs then text_of key_label key.name) old new)
    ⊎ (NoneWhere (FailsAsKdcs c opener) own × unverified label c old new)

-- of a checksum that is made with this key, which is not the KDC's: whether that opened the ticket
abbrev pub made_with : Label → NamedKey → NamedKey → List Token → List Token → Type 0
made_with label opener key old new =
    (HaveSameOctets key opener × text_of label (codes "made with the key that opened the ticket") old new)
    ⊎ ((HaveSameOctets key opener → ⊥) × text_of label (codes "made with a key that is not the KDC's") old new)

-- of one that holds under none of the keys that may be the KDC's: the first of the others under which
-- it does; or that it fails, or is not verified
abbrev pub under_others : Label → Label → List NamedKey → NamedKey → PacChecksum → List Token → List Token → Type 0
under_others label key_label own opener c old new =
    ((key : NamedKey) × IsFirstHolder c own key × (made_with label opener key then text_of key_label key.name) old new)
    ⊎ (HoldsUnderNone c own × under_none label key_label own opener c old new)

-- Of a checksum of the KDC (MS-PAC 2.8.2 to 2.8.4): that it holds, and the name of the first of the
-- keys that may be the KDC's under which it does. Under others alone, as under the one that opened the
-- ticket, it is not said to hold: whoever has that key can make it.
abbrev pub under_keys : Label → Label → List NamedKey → NamedKey → Option PacChecksum → List Token → List Token → Type 0
under_keys label key_label own opener None old new = told label verdict.Absent old new
under_keys label key_label own opener (Some c) old new =
    ((key : NamedKey) × IsFirstWhere (HoldsAsKdcs c opener) own key
    × (told label verdict.Holds then text_of key_label key.name) old new)
    ⊎ (NoneWhere (HoldsAsKdcs c opener) own × under_others label key_label own opener c old new)

-- ---- a PAC

-- those of the server (MS-PAC 2.8.1), of the KDC (2.8.2) and of the KDC over the whole PAC (2.8.4)
abbrev pub checksums_of : List NamedKey → NamedKey → Signatures → List Token → List Token → Type 0
checksums_of own key s =
    under_key (plain (codes "server-checksum")) own key (server_checksum s)
    then (under_keys (plain (codes "kdc-checksum")) (plain (codes "kdc-checksum-key")) own key (kdc_checksum s)
    then under_keys (plain (codes "full-checksum")) (plain (codes "full-checksum-key")) own key (full_checksum s))

-- what is wrong with octets whose checksums are not found, in words
abbrev pub error_words : PacSignatureError → List ℕ
error_words errors.Truncated = codes "a signature ends too early"
error_words (errors.Pac (pac.IoError x)) = codes "the octets end too early"
error_words (errors.Pac (pac.PacBufferType n)) = codes "a buffer has the number of no type"
error_words (errors.Pac (pac.InvalidVersion n)) = codes "the version is not 0"
error_words (errors.Pac (pac.Version n)) = codes "the version is not 0"
error_words (errors.Pac pac.InvalidRange) = codes "a buffer is not within the octets"
error_words (errors.Pac pac.OutOfMemory) = codes "out of memory"

-- the octets are refused with it, and not for want of memory
abbrev pub IsRefused : List ℕ → PacSignatureError → Type 0
IsRefused octets e = SignaturesRejected octets e × (e ≢ errors.Pac pac.OutOfMemory)

abbrev pub pac_fields : List NamedKey → NamedKey → List ℕ → List Token → List Token → Type 0
pac_fields own key octets old new =
    ((s : Signatures) × SignaturesOf octets s × checksums_of own key s old new)
    ⊎ ((e : PacSignatureError) × IsRefused octets e × text_of (plain (codes "unread")) (error_words e) old new)

abbrev pub pac_checksums : List NamedKey → NamedKey → List ℕ → List Token → List Token → Type 0
pac_checksums own key octets = struct_of (plain (codes "PAC-checksums")) (pac_fields own key octets)
