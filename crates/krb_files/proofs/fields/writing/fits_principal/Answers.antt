use Rattle.std.proofs.Common.{[], ℕ, List, refl, sym, All, Bor}
use Rattle.std.proofs.lemmas.List.{take_all, length-map}
use Rattle.std.proofs.lemmas.List.Elements.{All-more, All-same}
use Rattle.krb_files.specs.FieldReading.{size_of}
use Rattle.krb_files.specs.FieldWritten.{FitsCounted}
use Rattle.krb_files.proofs.Components.{component_fits, components_fit}
use Rattle.krb_files.proofs.fields.writing.fits_principal.Goals as goal

pub returns-then-not-fits-3 : goal.returns-then-not-fits-3
returns-then-not-fits-3 c = (
  λ h. absurd cc,
  λ h. c.if-not-fits-3.ensures.1 (component_fits (FitsCounted (size_of c.args.size)) (λ (p : Bor (List ℕ)). p.now) c.args.principal.now.components.now c.components.component-index (record { ref_ptr = (0, 0); now = [] }) c.components-test.true h.components),
)

pub components-preserved : goal.components-preserved
components-preserved c =
    All-more (λ (p : Bor (List ℕ)). FitsCounted (size_of c.args.size) p.now) c.args.principal.now.components.now c.components.component-index (record { ref_ptr = (0, 0); now = [] }) c.components-test.true c.components.invariant (c.if-not-fits-3.ensures.0 refl)

pub returns : goal.returns
returns c =
    let all : All (λ (p : Bor (List ℕ)). FitsCounted (size_of c.args.size) p.now) c.args.principal.now.components.now =
    All-same (λ (p : Bor (List ℕ)). FitsCounted (size_of c.args.size) p.now) _ _ (sym (take_all c.components.component-index c.args.principal.now.components.now c.components-test.false)) c.components.invariant in (
      λ _. record {
        count = rw length-map (c.if-not-fits.ensures.0 refl);
        realm = c.if-not-fits-2.ensures.0 refl;
        components = components_fit (FitsCounted (size_of c.args.size)) (λ (p : Bor (List ℕ)). p.now) c.args.principal.now.components.now all;
      },
      λ _. refl,
    )
