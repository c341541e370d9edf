use Rattle.std.proofs.Common.{refl, sym, subst, All}
use Rattle.std.proofs.lemmas.List.{take_all}
use Rattle.std.proofs.lemmas.List.Elements.{All-from_recursion, recursion_from_All, All-more, All-same}
use Rattle.krb_files.specs.FieldReading.{size_of}
use Rattle.krb_files.specs.FieldWritten.{FitsTyped}
use Rattle.krb_files.proofs.fields.writing.fits_each_typed.Goals as goal

pub typed-preserved : goal.typed-preserved
typed-preserved c =
    All-more (FitsTyped (size_of c.args.size)) c.args.list.now c.typed.typed-index c.typed-item.result c.typed-test.true c.typed.invariant (subst (FitsTyped (size_of c.args.size)) c.typed-item.is (c.if-not-fits.ensures.0 refl))

pub returns-then-not-fits : goal.returns-then-not-fits
returns-then-not-fits c = (
  λ h. absurd cc,
  λ h. c.if-not-fits.ensures.1 (subst (FitsTyped (size_of c.args.size)) (sym c.typed-item.is) (All-from_recursion (FitsTyped (size_of c.args.size)) c.args.list.now h c.typed.typed-index c.typed-item.result c.typed-test.true)),
)

pub returns : goal.returns
returns c =
    let all : All (FitsTyped (size_of c.args.size)) c.args.list.now =
    All-same (FitsTyped (size_of c.args.size)) _ _ (sym (take_all c.typed.typed-index c.args.list.now c.typed-test.false)) c.typed.invariant in (
      λ _. recursion_from_All (FitsTyped (size_of c.args.size)) c.args.list.now all,
      λ _. refl,
    )
