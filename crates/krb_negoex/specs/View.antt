-- What a view shows of a message, the octets of a value as a list, and what is computed of the octets (MS-NEGOEX 2.2.5 and 2.2.6).
use Rattle.std.specs.Prelude.{◌≡◌, ℕ, zero, suc, ◌+◌, ◌<◌, ◌*◌, ◌⊎◌, List, [], ◌∷◌, map, take, drop, Result, Ok, Err}
use Rattle.std.specs.IoError.{error_kind}
use Rattle.std.specs.declared.io.Error.{Error}
use Rattle.byteorder.specs.Endian.{little_number}
use Rattle.uuid.specs.Parts.{swap_fields}
use Rattle.krb_negoex.specs.GuidLayout.{guid}
use Rattle.krb_negoex.specs.Layouts.{Layout, seen, followed, vector}
use Rattle.krb_negoex.specs.Rejected.{IsMemory}
use Rattle.krb_negoex.specs.Wire.{four_octets, eight_octets, byte_vector, scheme_layout, random_layout, header_layout}
use Rattle.krb_negoex.specs.declared.header.MessageHeader.{MessageHeader}
use Rattle.krb_negoex.specs.declared.extension.Extension.{Extension}
use Rattle.krb_negoex.specs.declared.checksum.Checksum.{Checksum}
use Rattle.krb_negoex.specs.declared.nego.Nego.{Nego}
use Rattle.krb_negoex.specs.declared.exchange.Exchange.{Exchange}
use Rattle.krb_negoex.specs.declared.verify.Verify.{Verify}

-- not an allocation failure
abbrev pub IsNotMemory : Error → Type 0
IsNotMemory e = IsMemory e → ⊥

-- EXTENSION (MS-NEGOEX 2.2.5.1.4)
pub record ExtensionSeen : Type 0 where
  pub extension_type : ℕ
  pub extension_value : List ℕ

-- CHECKSUM (MS-NEGOEX 2.2.5.1.3)
pub record ChecksumSeen : Type 0 where
  pub header_len : ℕ
  pub checksum_scheme : ℕ
  pub checksum_type : ℕ
  pub checksum_value : List ℕ

-- NEGO_MESSAGE (MS-NEGOEX 2.2.6.3)
pub record NegoSeen : Type 0 where
  pub header : MessageHeader
  pub random : List ℕ
  pub protocol_version : ℕ
  pub auth_schemes : List (List ℕ)
  pub extensions : List ExtensionSeen

-- EXCHANGE_MESSAGE (MS-NEGOEX 2.2.6.4)
pub record ExchangeSeen : Type 0 where
  pub header : MessageHeader
  pub auth_scheme : List ℕ
  pub exchange : List ℕ

-- VERIFY_MESSAGE (MS-NEGOEX 2.2.6.5)
pub record VerifySeen : Type 0 where
  pub header : MessageHeader
  pub auth_scheme : List ℕ
  pub checksum : ChecksumSeen

-- the fields in the order of the octets, as the layouts of what is decoded have them
abbrev pub extension_view_layout : Layout ExtensionSeen
extension_view_layout = seen (λ v. (v.extension_type, v.extension_value)) (followed four_octets byte_vector)

abbrev pub checksum_view_layout : Layout ChecksumSeen
checksum_view_layout = seen (λ v. (v.header_len, (v.checksum_scheme, (v.checksum_type, v.checksum_value))))
    (followed four_octets (followed scheme_layout (followed four_octets byte_vector)))

abbrev pub nego_view_layout : Layout NegoSeen
nego_view_layout = seen (λ v. (v.header, (v.random, (v.protocol_version, (v.auth_schemes, v.extensions)))))
    (followed header_layout (followed random_layout (followed eight_octets (followed (vector guid) (vector extension_view_layout)))))

abbrev pub exchange_view_layout : Layout ExchangeSeen
exchange_view_layout = seen (λ v. (v.header, (v.auth_scheme, v.exchange))) (followed header_layout (followed guid byte_vector))

abbrev pub verify_view_layout : Layout VerifySeen
verify_view_layout = seen (λ v. (v.header, (v.auth_scheme, v.checksum))) (followed header_layout (followed guid checksum_view_layout))

-- what a decoded value is seen as: the same fields, each vector by its elements
abbrev pub extension_seen : Extension → ExtensionSeen
extension_seen v = record { extension_type = v.extension_type; extension_value = v.extension_value.items }

abbrev pub checksum_seen : Checksum → ChecksumSeen
checksum_seen v = record {
  header_len = v.header_len;
  checksum_scheme = v.checksum_scheme;
  checksum_type = v.checksum_type;
  checksum_value = v.checksum_value.items;
}

abbrev pub nego_seen : Nego → NegoSeen
nego_seen v = record {
  header = v.header;
  random = v.random;
  protocol_version = v.protocol_version;
  auth_schemes = v.auth_schemes.items;
  extensions = map extension_seen v.extensions.items;
}

abbrev pub exchange_seen : Exchange → ExchangeSeen
exchange_seen v = record { header = v.header; auth_scheme = v.auth_scheme; exchange = v.exchange.items }

abbrev pub verify_seen : Verify → VerifySeen
verify_seen v = record { header = v.header; auth_scheme = v.auth_scheme; checksum = checksum_seen v.checksum }

-- the octets of m that the vector in f names (MS-NEGOEX 2.2.5.2.3)
abbrev pub octets_of : List ℕ → List ℕ → List ℕ
octets_of f m = take (little_number 4 (drop 4 f)) (drop (little_number 4 f) m)

-- the scheme in the first 16 octets (MS-NEGOEX 2.2.2)
abbrev pub scheme_of : List ℕ → List ℕ → List ℕ
scheme_of f m = swap_fields (take 16 f)

-- the extension in the first 12 octets, whose value is in m (MS-NEGOEX 2.2.5.1.4)
abbrev pub extension_of : List ℕ → List ℕ → ExtensionSeen
extension_of f m = record { extension_type = little_number 4 f; extension_value = octets_of (drop 4 f) m }

-- n elements whose fixed parts of that width are one after the other in m, from k on
unfoldable pub elements_of : {A : Type 0} → (List ℕ → List ℕ → A) → ℕ → List ℕ → ℕ → ℕ → List A
elements_of read width m k zero = []
elements_of read width m k (suc n) = read (drop k m) m ∷ elements_of read width m (k + width) n

-- the first n elements from o on are there, as they are computed
abbrev pub AreThere : {A : Type 0} → (List ℕ → List ℕ → A → Type 0) → (List ℕ → List ℕ → A) → ℕ → List ℕ → ℕ → ℕ → Type 0
AreThere part read width m o n = (k : ℕ) → k < n → part (drop (o + width * k) m) m (read (drop (o + width * k) m) m)

-- A message that is decoded and its view are of one reading: equal fields, or errors of one kind. Decoding alone may run out of
-- memory.
abbrev pub AreAlike : {A B : Type 0} → (A → B) → Result A Error → Result B Error → Type 0
AreAlike see (Ok v) (Ok w) = see v ≡ w
AreAlike see (Ok v) (Err f) = ⊥
AreAlike see (Err e) (Ok w) = IsMemory e
AreAlike see (Err e) (Err f) = IsMemory e ⊎ (error_kind e ≡ error_kind f)
