use Rattle.std.proofs.Common.{inl, inr, sym, subst}
use Rattle.krb_der_x509.specs.ObjectIdentifier.{IsArcs}
use Rattle.krb_spnego.proofs.writing.list_of.Goals as goal

pub returns-in-Err-clause-refused : goal.returns-in-Err-clause-refused
returns-in-Err-clause-refused g c =
    elim c.in-Err.ensures [
      | inl memory ↦ inl memory
      | inr none ↦ inr (
        inr (
          c.mechanisms.mechanism-index,
          c.mechanism-item.result,
          c.mechanisms-test.true,
          sym c.mechanism-item.is,
          λ h. none.0 (subst IsArcs (sym c.arcs-in-mechanisms.ensures) h),
        ),
        none.1,
      )
    ]
