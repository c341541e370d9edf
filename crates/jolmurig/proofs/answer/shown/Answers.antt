use Rattle.std.proofs.Common.{sym}
use Rattle.jolmurig.proofs.answer.shown.Goals as goal

pub returns-in-Ok-clause-found : goal.returns-in-Ok-clause-found
returns-in-Ok-clause-found g c = record {
  kind = c.in-Some.kind;
  is_kind = sym c.in-Some.ensures;
  page = c.in-Ok.page;
  told = c.in-Ok.ensures;
  is_written = c.in_ok-written_as-in-Ok.ensures.made;
}
