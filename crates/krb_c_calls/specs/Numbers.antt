-- The numbers of suites, as C writes them (RFC 4120, 5.2.9: etype and cksumtype are Int32).
use Rattle.std.specs.Prelude.{ℤ, pos}
use Rattle.krb_crypto.specs.Suites.{etype, checksum_type}
use Rattle.krb_crypto.specs.declared.cipher_suite.CipherSuite.{CipherSuite}
use Rattle.krb_crypto.specs.declared.checksum_suite.ChecksumSuite.{ChecksumSuite}

abbrev pub etype_number : CipherSuite → ℤ
etype_number suite = pos (etype suite)

abbrev pub checksum_number : ChecksumSuite → ℤ
checksum_number suite = pos (checksum_type suite)
