use Rattle.std.proofs.Common.{arith}
use Rattle.std.specs.Int.{w64}
use Rattle.std.proofs.lemmas.Int.{ints, to_z_pos}
use Rattle.krb_der_core.proofs.IntegerBounds.{some_octet, more_than_eight, is_natural, is_inverted, IsNatural, IsInverted}
use Rattle.krb_der_core.proofs.integer.IntegerAsn1.to_i64.Goals as goal
use Rattle.krb_der_core.proofs.integer.IntegerAsn1.to_i64.Goals.{After-number_of, After-number_of_inverted}

pub returns-then-octets-gt-I64_OCTETS : goal.returns-then-octets-gt-I64_OCTETS
returns-then-octets-gt-I64_OCTETS c = more_than_eight c.args.self.now c.as_signed_bytes_be-octets.result.now c.as_signed_bytes_be-octets.ensures (omega arith)

pub bounds-octets-0 : goal.bounds-octets-0
bounds-octets-0 c = some_octet c.args.self.now c.as_signed_bytes_be-octets.result.now c.as_signed_bytes_be-octets.ensures

natural : (c : After-number_of) → IsNatural c.args.self.now c.number_of.result
natural c = is_natural c.args.self.now c.as_signed_bytes_be-octets.result.now c.number_of.result c.as_signed_bytes_be-octets.ensures (omega arith) (omega arith) c.number_of.ensures

inverted : (c : After-number_of_inverted) → IsInverted c.args.self.now c.number_of_inverted.result
inverted c = is_inverted c.args.self.now c.as_signed_bytes_be-octets.result.now c.number_of_inverted.result c.as_signed_bytes_be-octets.ensures (omega arith) (omega arith) c.number_of_inverted.ensures

pub overflow_cast-result : goal.overflow_cast-result
overflow_cast-result c = record { sfits = (natural c).fits }

pub overflow_cast-result-else-octets-lt128 : goal.overflow_cast-result-else-octets-lt128
overflow_cast-result-else-octets-lt128 c = record { sfits = (inverted c).fits }

pub returns-then-octets-lt128 : goal.returns-then-octets-lt128
returns-then-octets-lt128 c = let h = natural c in rw h.number (record { sfits = h.fits }, to_z_pos w64 c.number_of.result h.fits)

pub returns-else-octets-lt128 : goal.returns-else-octets-lt128
returns-else-octets-lt128 c = let h = inverted c in rw h.number (record { sfits = h.fits }, omega (arith, ints, h.fits))
