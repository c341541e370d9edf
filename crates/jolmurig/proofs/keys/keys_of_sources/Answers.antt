use Rattle.std.proofs.Common.{ap, sym, ◌∙◌, ◌+◌, ◌∷◌, drop, arith}
use Rattle.std.proofs.Math.ListN.{drop_of_length-le}
use Rattle.std.proofs.lemmas.List.{drop_more}
use Rattle.jolmurig.proofs.KeyLists.{continues_more, continues_none}
use Rattle.jolmurig.proofs.keys.keys_of_sources.Goals as goal

pub sources-preserved : goal.sources-preserved
sources-preserved g c =
    let sources = c.args.sources.now in
    let n = c.sources.source-index in
    let cut = drop_more sources n c.source-item.result c.sources-test.true ∙ ap (λ y. y ∷ drop (n + 1) sources) (sym c.source-item.is) in (
      continues_more (g.F.Files.gives c.args.files.now) c.sources.number c.source-item.result (drop n sources) (drop (n + 1) sources) sources
          c.sources.keys.items c.push_source.new.keys.items cut c.sources.invariant.0 c.in_ok-push_source.ensures.found,
      omega (arith, c.sources.invariant.1),
    )

pub returns-clause-found : goal.returns-clause-found
returns-clause-found g c =
    continues_none (g.F.Files.gives c.args.files.now) c.sources.number (drop c.sources.source-index c.args.sources.now) c.args.sources.now _
    (drop_of_length-le c.args.sources.now (omega (arith, c.sources-test.false))) c.sources.invariant.0
