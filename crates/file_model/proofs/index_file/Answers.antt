use Rattle.std.proofs.Common.{rules, arith}
use Rattle.file_model.proofs.Walk.{index_room, index_pushed}
use Rattle.file_model.proofs.index_file.Goals as goal

pub unwrap-requires : goal.unwrap-requires
unwrap-requires c = let room = index_room c.args.bytes.now _ c.loop-state.state (omega (arith, c.requires.few)) c.loop-state.invariant in search (room, rules)

pub loop-state-preserved : goal.loop-state-preserved
loop-state-preserved c =
    index_pushed c.args.bytes.now _ c.loop-state.state (omega (arith, c.requires.few)) c.loop-state.invariant _ c.index_choices.result c.push.ensures.after (rw (← c.pair_place-pair.ensures, ← c.word_at.ensures, ← c.word_at-in-loop-state.ensures, ← c.from-from.ensures, ← c.from.ensures) c.index_choices.ensures)
