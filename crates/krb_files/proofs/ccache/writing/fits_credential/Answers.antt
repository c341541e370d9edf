use Rattle.std.proofs.Common.{refl, arith}
use Rattle.krb_files.proofs.ccache.writing.fits_credential.Goals as goal

pub returns : goal.returns
returns c = (
  λ h. (
    c.if-not-fits_typed_principal.ensures.0 refl,
    (
      c.if-not-fits_typed_principal-2.ensures.0 refl,
      (
        omega (arith, c.ranges.credential),
        (
          c.if-not-fits.ensures.0 refl,
          (
            (omega (arith, c.ranges.credential), (omega (arith, c.ranges.credential), (omega (arith, c.ranges.credential), omega (arith, c.ranges.credential)))),
            (
              omega (arith, c.ranges.credential),
              (
                omega (arith, c.ranges.credential),
                (c.if-not-fits_typed_list.ensures.0 refl, (c.if-not-fits_typed_list-2.ensures.0 refl, (c.if-not-fits-2.ensures.0 refl, c.fits-2.ensures.0 h))),
              ),
            ),
          ),
        ),
      ),
    ),
  ),
  λ fits. c.fits-2.ensures.1 fits.1.1.1.1.1.1.1.1.1.1,
)
