use Rattle.std.proofs.Common.{inl, inr, refl}
use Rattle.krb_accept.proofs.said.said_of.Goals as goal

pub returns-in_default-checksum_of-clause-refused : goal.returns-in_default-checksum_of-clause-refused
returns-in_default-checksum_of-clause-refused c = inl (c.in-Some.octets.now, c.in-Some.ensures, inl (refl, c.in_default-checksum_of.ensures))

pub returns-then-not-fits_bindings-clause-refused : goal.returns-then-not-fits_bindings-clause-refused
returns-then-not-fits_bindings-clause-refused c =
    let said = c.in-Some-checksum_of.said in
    inl (
      c.in-Some.octets.now,
      c.in-Some.ensures,
      inr (
        said.bindings.now,
        said.delegated.now,
        said.extensions.now,
        said.flags,
        refl,
        c.in-Some-checksum_of.ensures,
        c.if-not-fits_bindings.ensures,
      ),
    )
