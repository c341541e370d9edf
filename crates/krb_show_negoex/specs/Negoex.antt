-- The messages of NEGOEX as tokens (MS-NEGOEX, 2.2.5 and 2.2.6), and what octets are told as.
use Rattle.std.specs.Prelude.{Bool, Err, IfErr, IfOk, List, MatchOption, MatchResult, None, Ok, Option, Result, [], codes, drop, length, pos, suc, take, true, zero, ℕ, ◌*◌, ◌++◌, ◌+◌, ◌<◌, ◌∷◌, ◌≡◌, ◌≢◌, ◌≤◌, ◌⊎◌}
use Rattle.std.specs.List.{flat_map}
use Rattle.std.specs.Borrow.{Bor}
use Rattle.std.specs.Fmt.{decimal}
use Rattle.std.specs.IoError.{error_kind}
use Rattle.std.specs.declared.io.Error.{Error}
use Rattle.std.specs.declared.io.ErrorKind.TheVariants.{InvalidData}
use Rattle.byteorder.specs.Endian.{little_bytes, little_number}
use Rattle.uuid.specs.Parts.{swap_fields}
use Rattle.uuid.specs.Text.{hyphenated_text, lower}
use Rattle.krb_registry.specs.declared.kind.Kind.TheVariants.{ChecksumType}
use Rattle.krb_negoex.specs.Layouts.{Layout}
use Rattle.krb_negoex.specs.Rejected.{IsMemory}
use Rattle.krb_negoex.specs.Types.{type_code}
use Rattle.krb_negoex.specs.View.{ChecksumSeen, ExchangeSeen, ExtensionSeen, NegoSeen, VerifySeen, exchange_view_layout, nego_view_layout, verify_view_layout}
use Rattle.krb_negoex.specs.declared.header.MessageHeader.{MessageHeader}
use Rattle.krb_negoex.specs.declared.header.MessageType.{MessageType}
use Rattle.krb_negoex.specs.declared.header.MessageType.TheVariants as types
use Rattle.krb_negoex.specs.Wire.{header_layout}
use Rattle.krb_schema.specs.declared.shape.Role.TheVariants as roles
use Rattle.krb_show.specs.declared.token.Form.TheVariants as form
use Rattle.krb_show.specs.Leaves.{number_of, octets_of, unsigned_of, word_of}
use Rattle.krb_show.specs.Pages.{◌then◌, list_of, optional_of, struct_of}
use Rattle.krb_show.specs.Tokens.{Label, Token, leaf, mark, of_kind, plain}

-- ---- tokens

-- a GUID in the text of RFC 9562, 4, in lower case: `v` is its 16 octets in that order
abbrev pub guid_of : Label → List ℕ → List Token → List Token → Type 0
guid_of label v = word_of label (hyphenated_text lower v)

-- the names of the types of messages (MS-NEGOEX, 2.2.6.1, MESSAGE_TYPE)
abbrev pub type_name : MessageType → List ℕ
type_name types.InitiatorNego = codes "MESSAGE_TYPE_INITIATOR_NEGO"
type_name types.AcceptorNego = codes "MESSAGE_TYPE_ACCEPTOR_NEGO"
type_name types.InitiatorMetaData = codes "MESSAGE_TYPE_INITIATOR_META_DATA"
type_name types.AcceptorMetaData = codes "MESSAGE_TYPE_ACCEPTOR_META_DATA"
type_name types.Challenge = codes "MESSAGE_TYPE_CHALLENGE"
type_name types.ApRequest = codes "MESSAGE_TYPE_AP_REQUEST"
type_name types.Verify = codes "MESSAGE_TYPE_VERIFY"
type_name types.Alert = codes "MESSAGE_TYPE_ALERT"

-- MESSAGE_HEADER (MS-NEGOEX, 2.2.6.2), without its signature, which is fixed
abbrev pub header_of : Label → MessageHeader → List Token → List Token → Type 0
header_of label v = struct_of label (
    word_of (plain (codes "MessageType")) (type_name v.message_type)
    then number_of (plain (codes "SequenceNum")) (pos v.sequence_num)
    then number_of (plain (codes "cbHeaderLength")) (pos v.header_len)
    then number_of (plain (codes "cbMessageLength")) (pos v.message_len)
    then guid_of (plain (codes "ConversationId")) v.conversation_id)

-- EXTENSION (MS-NEGOEX, 2.2.5.1.4)
abbrev pub extension_of : Label → ExtensionSeen → List Token → List Token → Type 0
extension_of label v = struct_of label (
    number_of (plain (codes "ExtensionType")) (pos v.extension_type)
    then octets_of (plain (codes "ExtensionValue")) v.extension_value)

-- CHECKSUM (MS-NEGOEX, 2.2.5.1.3)
abbrev pub checksum_of : Label → ChecksumSeen → List Token → List Token → Type 0
checksum_of label v = struct_of label (
    number_of (plain (codes "cbHeaderLength")) (pos v.header_len)
    then number_of (plain (codes "ChecksumScheme")) (pos v.checksum_scheme)
    then number_of (of_kind (codes "ChecksumType") ChecksumType) (pos v.checksum_type)
    then octets_of (plain (codes "ChecksumValue")) v.checksum_value)

-- all octets of a message, where they are not what it is written as
abbrev pub unsaid_of : Option (List ℕ) → List Token → List Token → Type 0
unsaid_of = optional_of (octets_of (plain (codes "octets")))

-- NEGO_MESSAGE (MS-NEGOEX, 2.2.6.3)
abbrev pub nego_of : Label → NegoSeen → Option (List ℕ) → List Token → List Token → Type 0
nego_of label v unsaid = struct_of label (
    header_of (plain (codes "Header")) v.header
    then octets_of (plain (codes "Random")) v.random
    then unsigned_of (plain (codes "ProtocolVersion")) v.protocol_version
    then list_of guid_of (plain (codes "AuthSchemes")) v.auth_schemes
    then list_of extension_of (plain (codes "Extensions")) v.extensions
    then unsaid_of unsaid)

-- EXCHANGE_MESSAGE (MS-NEGOEX, 2.2.6.4)
abbrev pub exchange_of : Label → ExchangeSeen → Option (List ℕ) → List Token → List Token → Type 0
exchange_of label v unsaid = struct_of label (
    header_of (plain (codes "Header")) v.header
    then guid_of (plain (codes "AuthScheme")) v.auth_scheme
    then octets_of (plain (codes "Exchange")) v.exchange
    then unsaid_of unsaid)

-- VERIFY_MESSAGE (MS-NEGOEX, 2.2.6.5)
abbrev pub verify_of : Label → VerifySeen → Option (List ℕ) → List Token → List Token → Type 0
verify_of label v unsaid = struct_of label (
    header_of (plain (codes "Header")) v.header
    then guid_of (plain (codes "AuthScheme")) v.auth_scheme
    then checksum_of (plain (codes "Checksum")) v.checksum
    then unsaid_of unsaid)

-- ---- what a message is written as: numbers are little-endian, offsets count from the message's first octet

-- MESSAGE_HEADER (MS-NEGOEX, 2.2.6.2)
abbrev pub header_octets : MessageHeader → List ℕ
header_octets v = little_bytes 8 v.signature ++ (little_bytes 4 (type_code v.message_type) ++ (little_bytes 4 v.sequence_num
    ++ (little_bytes 4 v.header_len ++ (little_bytes 4 v.message_len ++ swap_fields v.conversation_id))))

-- the offset of a vector's elements and their count (MS-NEGOEX, 2.2.5.2); zeros where there are none
abbrev pub place_octets : ℕ → ℕ → List ℕ
place_octets offset zero = 0 ∷ 0 ∷ 0 ∷ 0 ∷ 0 ∷ 0 ∷ 0 ∷ 0 ∷ []
place_octets offset (suc n) = little_bytes 4 offset ++ little_bytes 4 (suc n)

-- the fixed parts of extensions (MS-NEGOEX, 2.2.5.1.4), the first value standing at an offset and each behind the one before
abbrev pub heads_octets : ℕ → List ExtensionSeen → List ℕ
heads_octets offset [] = []
heads_octets offset (v ∷ vs) = (little_bytes 4 v.extension_type ++ place_octets offset (length v.extension_value))
    ++ heads_octets (offset + length v.extension_value) vs

-- the values of extensions
abbrev pub values_octets : List ExtensionSeen → List ℕ
values_octets = flat_map (λ v. v.extension_value)

-- NEGO_MESSAGE (MS-NEGOEX, 2.2.6.3): 96 octets, the schemes, the extensions' fixed parts and their values
abbrev pub nego_octets : NegoSeen → List ℕ
nego_octets v =
    let schemes = length v.auth_schemes in
    let extensions = length v.extensions in
    header_octets v.header ++ (v.random ++ (little_bytes 8 v.protocol_version
    ++ ((place_octets 96 schemes ++ place_octets (96 + 16 * schemes) extensions)
    ++ (flat_map swap_fields v.auth_schemes ++ (heads_octets (96 + 16 * schemes + 12 * extensions) v.extensions ++ values_octets v.extensions)))))

-- EXCHANGE_MESSAGE (MS-NEGOEX, 2.2.6.4): 64 octets, and the token
abbrev pub exchange_octets : ExchangeSeen → List ℕ
exchange_octets v = header_octets v.header ++ (swap_fields v.auth_scheme ++ (place_octets 64 (length v.exchange) ++ v.exchange))

-- VERIFY_MESSAGE (MS-NEGOEX, 2.2.6.5): 76 octets, four zeros, and the checksum's value
abbrev pub verify_octets : VerifySeen → List ℕ
verify_octets v = header_octets v.header ++ (swap_fields v.auth_scheme
    ++ ((little_bytes 4 v.checksum.header_len ++ (little_bytes 4 v.checksum.checksum_scheme ++ little_bytes 4 v.checksum.checksum_type))
    ++ (place_octets 80 (length v.checksum.checksum_value) ++ ((0 ∷ 0 ∷ 0 ∷ 0 ∷ []) ++ v.checksum.checksum_value))))

-- octets begin with a piece, and these are behind it; or they do not
abbrev pub IsBehind : List ℕ → List ℕ → Option (Bor (List ℕ)) → Type 0
IsBehind octets piece result = MatchOption result ((rest : List ℕ) → octets ≢ piece ++ rest) (λ rest. octets ≡ piece ++ rest.now)

-- what of a message's octets the other lines do not tell: nothing, where the octets are what it is written as, and else all of them
abbrev pub IsUnsaid : List ℕ → List ℕ → Option (List ℕ) → Type 0
IsUnsaid octets written unsaid = MatchOption unsaid (octets ≡ written) (λ all. (all ≡ octets) × (octets ≢ written))

-- a message, and of its octets what the other lines do not tell
abbrev pub told : {A : Type 0} → (A → List ℕ) → (A → Option (List ℕ) → List Token → List Token → Type 0) → List ℕ → A → List Token → List Token → Type 0
told written shows octets v old new = (unsaid : Option (List ℕ)) × IsUnsaid octets (written v) unsaid × shows v unsaid old new

-- ---- octets

-- the number of the message's type, where the octets reach so far (MS-NEGOEX, 2.2.6.2)
abbrev pub type_number : List ℕ → ℕ
type_number octets = little_number 4 (drop 8 octets)

-- all of the octets are this message, by its own length
pub record IsWhole {A : Type 0} (layout : Layout A) (header : A → MessageHeader) (octets : List ℕ) (v : A) : Type 0 where
  pub is : layout.part octets octets v
  pub size : (header v).message_len ≡ length octets

-- the octets begin with a message that has another length than they
pub record IsOfOtherLength {A : Type 0} (layout : Layout A) (header : A → MessageHeader) (octets : List ℕ) (e : Error) : Type 0 where
  pub kind : error_kind e ≡ InvalidData
  pub message : A
  pub is : layout.part octets octets message
  pub other : (header message).message_len ≢ length octets

-- the message's own first error; where there is none, that its length is another than that of the octets; or an allocation failure
abbrev pub IsUntold : {A : Type 0} → Layout A → (A → MessageHeader) → List ℕ → Error → Type 0
IsUntold layout header octets e = IsMemory e ⊎ (layout.rejects octets octets e ⊎ IsOfOtherLength layout header octets e)

-- Where a page is answered it is that of the message that the octets are; where they are one it is answered, but for want of memory; and else
-- they are refused.
pub record IsToldAs {A P : Type 0} (layout : Layout A) (header : A → MessageHeader) (shows : A → List Token → List Token → Type 0) (tokens : P → List Token)
    (octets : List ℕ) (result : Result P Error) : Type 0 where
  pub found : IfOk result (λ p. (v : A) × IsWhole layout header octets v × shows v [] (tokens p))
  pub reads : (v : A) → IsWhole layout header octets v → MatchResult result (λ p. Unit {0}) IsMemory
  pub refused : IfErr result (IsUntold layout header octets)

-- the label of a message, which is an item where others stand beside it
abbrev pub named : Bool → List ℕ → Label
named is_item text = record { text = text; kind = None; role = roles.None; is_item = is_item }

-- octets that are one message of this type: its page, or its error
abbrev pub IsNegoTold : {P : Type 0} → Bool → (P → List Token) → List ℕ → Result P Error → Type 0
IsNegoTold is_item tokens octets result =
    IsToldAs nego_view_layout (λ v. v.header) (told nego_octets (nego_of (named is_item (codes "NEGO_MESSAGE"))) octets) tokens octets result

abbrev pub IsExchangeTold : {P : Type 0} → Bool → (P → List Token) → List ℕ → Result P Error → Type 0
IsExchangeTold is_item tokens octets result =
    IsToldAs exchange_view_layout (λ v. v.header) (told exchange_octets (exchange_of (named is_item (codes "EXCHANGE_MESSAGE"))) octets) tokens octets result

abbrev pub IsVerifyTold : {P : Type 0} → Bool → (P → List Token) → List ℕ → Result P Error → Type 0
IsVerifyTold is_item tokens octets result =
    IsToldAs verify_view_layout (λ v. v.header) (told verify_octets (verify_of (named is_item (codes "VERIFY_MESSAGE"))) octets) tokens octets result

-- octets that are one message, told by its type (MS-NEGOEX, 2.2.6.1): its page, or its error
pub record IsMessageTold {P : Type 0} (is_item : Bool) (tokens : P → List Token) (octets : List ℕ) (result : Result P Error) : Type 0 where
  pub short : length octets < 12 → MatchResult result (λ page. ⊥) (header_layout.rejects octets octets)
  pub nego : 12 ≤ length octets → type_number octets ≤ 1 → IsNegoTold is_item tokens octets result
  pub exchange : 12 ≤ length octets → 2 ≤ type_number octets → type_number octets ≤ 5 → IsExchangeTold is_item tokens octets result
  pub verify : 12 ≤ length octets → type_number octets ≡ 6 → IsVerifyTold is_item tokens octets result
  pub other : 12 ≤ length octets → 7 ≤ type_number octets → MatchResult result (λ page. ⊥) (λ e. error_kind e ≡ InvalidData)

-- octets that are one message
abbrev pub IsMessage : List ℕ → Type 0
IsMessage octets = (12 ≤ length octets)
    × (((type_number octets ≤ 1) × (v : NegoSeen) × IsWhole nego_view_layout (λ v. v.header) octets v)
    ⊎ (((2 ≤ type_number octets) × (type_number octets ≤ 5) × (v : ExchangeSeen) × IsWhole exchange_view_layout (λ v. v.header) octets v)
    ⊎ ((type_number octets ≡ 6) × (v : VerifySeen) × IsWhole verify_view_layout (λ v. v.header) octets v)))

-- ---- several messages, one behind another (MS-NEGOEX, 2.2.6)

-- the length that the first message says, cbMessageLength (MS-NEGOEX, 2.2.6.2)
abbrev pub own_length : List ℕ → ℕ
own_length octets = little_number 4 (drop 20 octets)

-- behind the first message stands another: its length is that of a header at least, and less than that of the octets
abbrev pub IsFollowed : List ℕ → Type 0
IsFollowed octets = (40 ≤ own_length octets) × (own_length octets < length octets)

-- these are the first message's octets: so many as it says, where another follows it, and else all
abbrev pub IsFirst : List ℕ → List ℕ → Type 0
IsFirst octets first = (IsFollowed octets × (first ≡ take (own_length octets) octets)) ⊎ ((IsFollowed octets → ⊥) × (first ≡ octets))

-- messages with these pages stand before the rest, each followed
abbrev pub StandBefore : {P : Type 0} → (P → List Token) → List ℕ → List P → List ℕ → Type 0
StandBefore tokens octets [] rest = octets ≡ rest
StandBefore tokens octets (page ∷ pages) rest = IsFollowed octets × IsMessageTold true tokens (take (own_length octets) octets) (Ok page)
    × StandBefore tokens (drop (own_length octets) octets) pages rest

-- all of the octets are so many messages and one more
abbrev pub AreMessages : ℕ → List ℕ → Type 0
AreMessages zero octets = (IsFollowed octets → ⊥) × IsMessage octets
AreMessages (suc n) octets = IsFollowed octets × IsMessage (take (own_length octets) octets) × AreMessages n (drop (own_length octets) octets)

-- the list of messages: their number, in decimal, and the pages of the messages
abbrev pub list_tokens : ℕ → List Token → List Token
list_tokens n items = leaf form.List (plain (codes "NEGOEX")) (decimal n) ∷ (items ++ mark form.ListEnd (plain (codes "NEGOEX")) ∷ [])

-- pages of all messages, the last one's too
pub record IsListOf {P : Type 0} (tokens : P → List Token) (octets : List ℕ) (page : List Token) : Type 0 where
  pub pages : List P
  pub last : P
  pub rest : List ℕ
  pub before : StandBefore tokens octets pages rest
  pub alone : IsFollowed rest → ⊥
  pub told_last : IsMessageTold true tokens rest (Ok last)
  pub is : page ≡ list_tokens (length pages + 1) (flat_map tokens pages ++ tokens last)

-- the error of the first message that has one
pub record IsFirstError {P : Type 0} (tokens : P → List Token) (octets : List ℕ) (e : Error) : Type 0 where
  pub pages : List P
  pub rest : List ℕ
  pub first : List ℕ
  pub before : StandBefore tokens octets pages rest
  pub is_first : IsFirst rest first
  pub error : IsMessageTold true tokens first (Err e)

-- the list of the messages, answered where all are messages, but for want of memory; or the first one's error
pub record AreTold {P : Type 0} (tokens : P → List Token) (octets : List ℕ) (result : Result P Error) : Type 0 where
  pub found : IfOk result (λ page. IsListOf tokens octets (tokens page))
  pub reads : (n : ℕ) → AreMessages n octets → MatchResult result (λ page. Unit {0}) IsMemory
  pub refused : IfErr result (λ e. IsMemory e ⊎ IsFirstError tokens octets e)
