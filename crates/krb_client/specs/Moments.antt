-- The KDC's time, and confounders (RFC 4120, 3.1.3 and 5.2.4; RFC 3961, 3).
use Rattle.std.specs.Prelude.{ℕ, ℤ, ◌+ℤ◌, ◌-ℤ◌, List, take, Option, Some, None}
use Rattle.std.specs.Int.{saturate_signed, w64}
use Rattle.krb_client_rules.specs.declared.asked.Clock.{Clock}
use Rattle.krb_crypto.specs.BySuite.{confounder_octets_of}
use Rattle.krb_crypto.specs.declared.cipher_suite.CipherSuite.{CipherSuite}
use Rattle.krb_client.specs.declared.moment.Moment.{Moment}
use Rattle.krb_client.specs.declared.terms.Terms.{Terms}

-- what the KDC's time is ahead of the client's, in 64 bits
abbrev pub ahead_of : ℤ → ℤ → ℤ
ahead_of kdc client = saturate_signed w64 (kdc -ℤ client)

-- the KDC's time: the client's, and where the KDC's was taken, what it was ahead; in 64 bits
abbrev pub kdc_time : Option ℤ → ℤ → ℤ
kdc_time None seconds = seconds
kdc_time (Some offset) seconds = saturate_signed w64 (seconds +ℤ offset)

-- the clock by which a reply is checked
abbrev pub clock_of : Terms → Option ℤ → Moment → Clock
clock_of terms offset m = record { seconds = kdc_time offset m.seconds; skew = terms.skew }

-- the first of the random octets, as many as a confounder of the suite has
abbrev pub confounder_of : CipherSuite → List ℕ → List ℕ
confounder_of suite random = take (confounder_octets_of suite) random
