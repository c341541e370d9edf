-- What a value consists of, a vector by its elements: two values of equal parts are one.
use Rattle.std.specs.Prelude.{ℕ, List, map}
use Rattle.krb_negoex.specs.declared.header.MessageHeader.{MessageHeader}
use Rattle.krb_negoex.specs.declared.extension.Extension.{Extension}
use Rattle.krb_negoex.specs.declared.checksum.Checksum.{Checksum}
use Rattle.krb_negoex.specs.declared.nego.Nego.{Nego}
use Rattle.krb_negoex.specs.declared.exchange.Exchange.{Exchange}
use Rattle.krb_negoex.specs.declared.verify.Verify.{Verify}

abbrev pub extension_parts : Extension → ℕ × List ℕ
extension_parts v = (v.extension_type, v.extension_value.items)

abbrev pub checksum_parts : Checksum → ℕ × ℕ × ℕ × List ℕ
checksum_parts v = (v.header_len, v.checksum_scheme, v.checksum_type, v.checksum_value.items)

abbrev pub nego_parts : Nego → MessageHeader × List ℕ × ℕ × List (List ℕ) × List (ℕ × List ℕ)
nego_parts v = (v.header, v.random, v.protocol_version, v.auth_schemes.items, map extension_parts v.extensions.items)

abbrev pub exchange_parts : Exchange → MessageHeader × List ℕ × List ℕ
exchange_parts v = (v.header, v.auth_scheme, v.exchange.items)

abbrev pub verify_parts : Verify → MessageHeader × List ℕ × (ℕ × ℕ × ℕ × List ℕ)
verify_parts v = (v.header, v.auth_scheme, checksum_parts v.checksum)
