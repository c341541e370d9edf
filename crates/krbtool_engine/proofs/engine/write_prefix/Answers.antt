use Rattle.std.proofs.lemmas.List.{take_rest}
use Rattle.krbtool_engine.proofs.Prefixes.{prefix_start, prefix_more, prefix_kept}
use Rattle.krbtool_engine.proofs.engine.write_prefix.Goals as goal
use Rattle.krbtool_engine.proofs.engine.write_prefix.Goals.{in-Ok, in-Err+else-ne}

pub loop-init : goal.loop-init
loop-init g c = prefix_start _ _

pub returns-then-is_empty : goal.returns-then-is_empty
returns-then-is_empty g c = (c.loop.invariant.count, c.loop.invariant.appended)

pub returns-in-Ok-eq0 : goal.returns-in-Ok-eq0
returns-in-Ok-eq0 g c =
    let had = prefix_more _ _ _ _ _ _ c.loop.invariant c.in-Ok-eq0.ensures.bytes in
    (had.count, had.appended)

pub returns-then-ne : goal.returns-then-ne
returns-then-ne g c =
    let had = prefix_kept _ _ _ _ _ c.loop.invariant c.in-Err.ensures.bytes in
    (had.count, had.appended)

pub loop-preserved : goal.loop-preserved
loop-preserved g c = elim c.match-write.branch [
  | in-Ok w ↦ let more = prefix_more _ _ _ _ _ _ c.loop.invariant w.in-Ok.ensures.bytes in
      rw (w.rest-is, take_rest c.loop.rest.now w.in-Ok.count) more
  | in-Err+else-ne w ↦ rw w.rest-is (prefix_kept _ _ _ _ _ c.loop.invariant w.in-Err.ensures.bytes)
]

pub returns : goal.returns
returns g c = (c.loop.invariant.count, c.loop.invariant.appended)
