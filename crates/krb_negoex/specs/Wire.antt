-- The layout of each type, its fields in the order of the octets (MS-NEGOEX 2.2).
use Rattle.std.specs.Prelude.{ℕ, List, Vec}
use Rattle.std.proofs.Common.{lit<}
use Rattle.std.specs.declared.alloc.Global.{Global}
use Rattle.std.specs.declared.io.ErrorKind.TheVariants.{InvalidData, InvalidInput}
use Rattle.krb_negoex.specs.Layouts.{Layout, seen, followed, number, vector}
use Rattle.krb_negoex.specs.Kinds.{coded, constant, octets}
use Rattle.krb_negoex.specs.GuidLayout.{guid}
use Rattle.krb_negoex.specs.Types.{type_code}
use Rattle.krb_negoex.specs.declared.header.MessageType.{MessageType}
use Rattle.krb_negoex.specs.declared.header.MessageHeader.{MessageHeader}
use Rattle.krb_negoex.specs.declared.extension.Extension.{Extension}
use Rattle.krb_negoex.specs.declared.checksum.Checksum.{Checksum}
use Rattle.krb_negoex.specs.declared.nego.Nego.{Nego}
use Rattle.krb_negoex.specs.declared.exchange.Exchange.{Exchange}
use Rattle.krb_negoex.specs.declared.verify.Verify.{Verify}

abbrev pub one_octet : Layout ℕ
one_octet = number 1 (lit< tt)

abbrev pub four_octets : Layout ℕ
four_octets = number 4 (lit< tt)

abbrev pub eight_octets : Layout ℕ
eight_octets = number 8 (lit< tt)

-- BYTE_VECTOR (MS-NEGOEX 2.2.5.2.3)
abbrev pub byte_vector : Layout (List ℕ)
byte_vector = vector one_octet

-- "NEGOEXTS", and no other (MS-NEGOEX 2.2.3)
abbrev pub signature_layout : Layout ℕ
signature_layout = constant 8 (lit< tt) InvalidData 0x535458454f47454e

-- one of the eight types (MS-NEGOEX 2.2.6.1)
abbrev pub type_layout : Layout MessageType
type_layout = coded 4 (lit< tt) InvalidData type_code

-- RFC 3961's scheme, and no other (MS-NEGOEX 2.2.3)
abbrev pub scheme_layout : Layout ℕ
scheme_layout = constant 4 (lit< tt) InvalidInput 1

-- the random octets of a party (MS-NEGOEX 2.2.4)
abbrev pub random_layout : Layout (List ℕ)
random_layout = octets 32 (lit< tt)

-- MESSAGE_HEADER (MS-NEGOEX 2.2.6.2)
abbrev pub header_layout : Layout MessageHeader
header_layout = seen (λ v. (v.signature, (v.message_type, (v.sequence_num, (v.header_len, (v.message_len, v.conversation_id))))))
    (followed signature_layout (followed type_layout (followed four_octets (followed four_octets (followed four_octets guid)))))

-- EXTENSION (MS-NEGOEX 2.2.5.1.4)
abbrev pub extension_layout : Layout Extension
extension_layout = seen (λ v. (v.extension_type, v.extension_value.items)) (followed four_octets byte_vector)

-- CHECKSUM (MS-NEGOEX 2.2.5.1.3)
abbrev pub checksum_layout : Layout Checksum
checksum_layout = seen (λ v. (v.header_len, (v.checksum_scheme, (v.checksum_type, v.checksum_value.items))))
    (followed four_octets (followed scheme_layout (followed four_octets byte_vector)))

-- AUTH_SCHEME_VECTOR (MS-NEGOEX 2.2.5.2.2)
abbrev pub schemes_layout : Layout (Vec (List ℕ) Global)
schemes_layout = seen (λ v. v.items) (vector guid)

-- EXTENSION_VECTOR (MS-NEGOEX 2.2.5.2.4)
abbrev pub extensions_layout : Layout (Vec Extension Global)
extensions_layout = seen (λ v. v.items) (vector extension_layout)

-- NEGO_MESSAGE (MS-NEGOEX 2.2.6.3)
abbrev pub nego_layout : Layout Nego
nego_layout = seen (λ v. (v.header, (v.random, (v.protocol_version, (v.auth_schemes, v.extensions)))))
    (followed header_layout (followed random_layout (followed eight_octets (followed schemes_layout extensions_layout))))

-- EXCHANGE_MESSAGE (MS-NEGOEX 2.2.6.4)
abbrev pub exchange_layout : Layout Exchange
exchange_layout = seen (λ v. (v.header, (v.auth_scheme, v.exchange.items))) (followed header_layout (followed guid byte_vector))

-- VERIFY_MESSAGE (MS-NEGOEX 2.2.6.5), without its padding
abbrev pub verify_layout : Layout Verify
verify_layout = seen (λ v. (v.header, (v.auth_scheme, v.checksum))) (followed header_layout (followed guid checksum_layout))
