use Rattle.std.proofs.Common.{◌≡◌, ◌⊎◌, IfErr, sym, subst}
use Rattle.jolmurig_command.specs.Shows.{Source}
use Rattle.jolmurig_command.specs.declared.command.SourceKind.{SourceKind}
use Rattle.jolmurig.specs.Keys.{IsNoSource}
use Rattle.jolmurig.specs.declared.failure.Failure.TheVariants as failure
use Rattle.jolmurig.proofs.keys.keys_of_source.Goals as goal

pub returns-in-KeyFile-clause-rejected : goal.returns-in-KeyFile-clause-rejected
returns-in-KeyFile-clause-rejected g c =
    subst (λ (s : Source). IfErr c.keys_of_key_file.result (λ e. (e ≡ failure.Memory) ⊎ IsNoSource (g.F.Files.gives c.args.files.now) c.args.number s e)) c.source.view_is
    (subst (λ (k : SourceKind). IfErr c.keys_of_key_file.result
    (λ e. (e ≡ failure.Memory) ⊎ IsNoSource (g.F.Files.gives c.args.files.now) c.args.number (record { kind = k; text = c.source.inside.text.now }) e))
    (sym c.in-KeyFile.is) c.keys_of_key_file.ensures.rejected)
