use Rattle.krb_build.proofs.Bits.{flags_of_octets}
use Rattle.krb_build.proofs.flags.bits_of.Goals as goal

pub returns-clause-flags : goal.returns-clause-flags
returns-clause-flags c =
    flags_of_octets c.args.numbers.now c.with_bytes.result (cc (c.with_bytes.ensures, c.in_ok-from_slice.ensures.items, c.octet.ensures, c.octet-2.ensures, c.octet-3.ensures, c.octet-4.ensures))
    c.if-not-are_flags.ensures
