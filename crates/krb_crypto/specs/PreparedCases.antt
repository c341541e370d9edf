-- What a prepared key is of, by the suite that it holds the keys of (RFC 3961, 6.3; RFC 3962, 6; RFC 8009, 5).
use Rattle.std.specs.Prelude.{◌≡◌}
use Rattle.krb_crypto_block.specs.declared.aes.AesSize.TheVariants.{Aes128, Aes256}
use Rattle.krb_crypto.specs.PreparedKeys.{PreparedKeys, PreparedChecksum}
use Rattle.krb_crypto.specs.declared.cipher_suite.CipherSuite.TheVariants as suite
use Rattle.krb_crypto.specs.declared.checksum_suite.ChecksumSuite.TheVariants as checksum
use Rattle.krb_crypto.specs.declared.prepared.SealingKeys.{SealingKeys}
use Rattle.krb_crypto.specs.declared.prepared.SealingKeys.TheVariants as sealing
use Rattle.krb_crypto.specs.declared.prepared.OpeningKeys.{OpeningKeys}
use Rattle.krb_crypto.specs.declared.prepared.OpeningKeys.TheVariants as opening
use Rattle.krb_crypto.specs.declared.prepared.ChecksumKeys.{ChecksumKeys}
use Rattle.krb_crypto.specs.declared.prepared.ChecksumKeys.TheVariants as sum

abbrev pub sealing_keys : SealingKeys → PreparedKeys
sealing_keys (sealing.Aes128CtsHmacSha196 k) = record { suite = suite.Aes128CtsHmacSha196; keys = k }
sealing_keys (sealing.Aes256CtsHmacSha196 k) = record { suite = suite.Aes256CtsHmacSha196; keys = k }
sealing_keys (sealing.Des3CbcSha1Kd k) = record { suite = suite.Des3CbcSha1Kd; keys = k }
sealing_keys (sealing.Aes128CtsHmacSha256128 k) = record { suite = suite.Aes128CtsHmacSha256128; keys = k.keys }
sealing_keys (sealing.Aes256CtsHmacSha384192 k) = record { suite = suite.Aes256CtsHmacSha384192; keys = k.keys }

-- the keys of RFC 8009 are of the suite's size
abbrev pub AreSealingKeys : SealingKeys → Type 0
AreSealingKeys (sealing.Aes128CtsHmacSha196 k) = Unit {0}
AreSealingKeys (sealing.Aes256CtsHmacSha196 k) = Unit {0}
AreSealingKeys (sealing.Des3CbcSha1Kd k) = Unit {0}
AreSealingKeys (sealing.Aes128CtsHmacSha256128 k) = k.size ≡ Aes128
AreSealingKeys (sealing.Aes256CtsHmacSha384192 k) = k.size ≡ Aes256

abbrev pub opening_keys : OpeningKeys → PreparedKeys
opening_keys (opening.Aes128CtsHmacSha196 k) = record { suite = suite.Aes128CtsHmacSha196; keys = k }
opening_keys (opening.Aes256CtsHmacSha196 k) = record { suite = suite.Aes256CtsHmacSha196; keys = k }
opening_keys (opening.Des3CbcSha1Kd k) = record { suite = suite.Des3CbcSha1Kd; keys = k }
opening_keys (opening.Aes128CtsHmacSha256128 k) = record { suite = suite.Aes128CtsHmacSha256128; keys = k.keys }
opening_keys (opening.Aes256CtsHmacSha384192 k) = record { suite = suite.Aes256CtsHmacSha384192; keys = k.keys }

abbrev pub AreOpeningKeys : OpeningKeys → Type 0
AreOpeningKeys (opening.Aes128CtsHmacSha196 k) = Unit {0}
AreOpeningKeys (opening.Aes256CtsHmacSha196 k) = Unit {0}
AreOpeningKeys (opening.Des3CbcSha1Kd k) = Unit {0}
AreOpeningKeys (opening.Aes128CtsHmacSha256128 k) = k.size ≡ Aes128
AreOpeningKeys (opening.Aes256CtsHmacSha384192 k) = k.size ≡ Aes256

abbrev pub checksum_keys : ChecksumKeys → PreparedChecksum
checksum_keys (sum.HmacSha196Aes128 k) = record { suite = checksum.HmacSha196Aes128; kc = k }
checksum_keys (sum.HmacSha196Aes256 k) = record { suite = checksum.HmacSha196Aes256; kc = k }
checksum_keys (sum.HmacSha1Des3Kd k) = record { suite = checksum.HmacSha1Des3Kd; kc = k }
checksum_keys (sum.HmacSha256128Aes128 k) = record { suite = checksum.HmacSha256128Aes128; kc = k.octets }
checksum_keys (sum.HmacSha384192Aes256 k) = record { suite = checksum.HmacSha384192Aes256; kc = k.octets }

abbrev pub AreChecksumKeys : ChecksumKeys → Type 0
AreChecksumKeys (sum.HmacSha196Aes128 k) = Unit {0}
AreChecksumKeys (sum.HmacSha196Aes256 k) = Unit {0}
AreChecksumKeys (sum.HmacSha1Des3Kd k) = Unit {0}
AreChecksumKeys (sum.HmacSha256128Aes128 k) = k.size ≡ Aes128
AreChecksumKeys (sum.HmacSha384192Aes256 k) = k.size ≡ Aes256
