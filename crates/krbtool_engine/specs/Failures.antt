-- What an error of the library is reported as, and the line that the program writes.
use Rattle.std.specs.Prelude.{List, ℕ, codes}
use Rattle.krb_crypto_hash.specs.declared.error.KerberosCryptoError.{KerberosCryptoError}
use Rattle.krb_crypto_hash.specs.declared.error.KerberosCryptoError.TheVariants as crypto
use Rattle.krb_der_core.specs.declared.error.Asn1DerError.{Asn1DerError}
use Rattle.krb_der_core.specs.declared.error.Asn1DerError.TheVariants as der
use Rattle.krb_crypto.specs.declared.seal.error.PartError.{PartError}
use Rattle.krb_crypto.specs.declared.seal.error.PartError.TheVariants as part
use Rattle.krbtool_engine.specs.declared.failure.Failure.{Failure}
use Rattle.krbtool_engine.specs.declared.failure.Failure.TheVariants.{Arguments, Der, Crypto, Memory, Read, Write}

-- an error of the type of a value is a failure of its own, and an allocation failure is one
abbrev pub of_der : Asn1DerError → Failure
of_der der.OutOfMemory = Memory
of_der e = Der e

-- so is one of the cipher
abbrev pub of_crypto : KerberosCryptoError → Failure
of_crypto crypto.OutOfMemory = Memory
of_crypto e = Crypto e

-- and one of a part, of either
abbrev pub of_part : PartError → Failure
of_part (part.Crypto e) = of_crypto e
of_part (part.Der e) = of_der e

-- ---- lines, with their newline

abbrev pub der_line : Asn1DerError → List ℕ
der_line der.InvalidData = codes "krbtool: der InvalidData\n"
der_line der.TruncatedData = codes "krbtool: der TruncatedData\n"
der_line der.UnsupportedValue = codes "krbtool: der UnsupportedValue\n"
der_line der.OutOfMemory = codes "krbtool: memory\n"
der_line (der.Io e) = codes "krbtool: io\n"

abbrev pub crypto_line : KerberosCryptoError → List ℕ
crypto_line (crypto.KeyLength n m) = codes "krbtool: crypto KeyLength\n"
crypto_line (crypto.CipherLength n m) = codes "krbtool: crypto CipherLength\n"
crypto_line (crypto.AlgorithmIdentifier n) = codes "krbtool: crypto AlgorithmIdentifier\n"
crypto_line (crypto.AlgorithmIdentifierData octets) = codes "krbtool: crypto AlgorithmIdentifierData\n"
crypto_line crypto.IntegrityCheck = codes "krbtool: crypto IntegrityCheck\n"
crypto_line (crypto.CipherError text) = codes "krbtool: crypto CipherError\n"
crypto_line crypto.CipherUnpad = codes "krbtool: crypto CipherUnpad\n"
crypto_line crypto.CipherPad = codes "krbtool: crypto CipherPad\n"
crypto_line (crypto.SeedBitLen text) = codes "krbtool: crypto SeedBitLen\n"
crypto_line crypto.OutOfMemory = codes "krbtool: memory\n"

abbrev pub line_of : Failure → List ℕ
line_of Arguments = codes "usage: krbtool check | seal ETYPE KEYHEX USAGE CONFHEX | open ETYPE KEYHEX USAGE\n"
line_of (Der e) = der_line e
line_of (Crypto e) = crypto_line e
line_of Memory = codes "krbtool: memory\n"
line_of Read = codes "krbtool: io\n"
line_of Write = codes "krbtool: io\n"
