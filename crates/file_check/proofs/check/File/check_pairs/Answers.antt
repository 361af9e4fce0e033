use Rattle.std.proofs.Common.{◌≤◌, length, sym, ◌∙◌, arith, below_more}
use Rattle.file_check.specs.Check.{block_end}
use Rattle.file_check.specs.Places.{pair_place}
use Rattle.file_check.proofs.Steps.{pairs_wrong, pairs_more, pair_parts}
use Rattle.file_check.proofs.check.File.check_pairs.Goals as goal

pub returns-then-not-fits_pair-clause-answer : goal.returns-then-not-fits_pair-clause-answer
returns-then-not-fits_pair-clause-answer c =
    rw (c.at.ensures, c.pair_place.ensures) (sym (c.loop-state.invariant.0 ∙ pairs_wrong c.args.self.now.bytes.now _ _ _ _ c.loop-state-test.true c.if-not-fits_pair.ensures))

pub loop-state-preserved : goal.loop-state-preserved
loop-state-preserved c =
    let xs = c.args.self.now.bytes.now in
    let p = pair_parts xs _ _ c.if-not-fits_pair.ensures in
    let end = c.block-from.ensures.size in (
      c.loop-state.invariant.0 ∙ pairs_more xs _ _ _ _ c.loop-state-test.true c.if-not-fits_pair.ensures (omega arith) (omega (arith, p.stands)),
      below_more (λ s. block_end xs (pair_place s) ≤ length xs) _ c.loop-state.invariant.1 (omega (arith, p.stands, p.ends)),
    )
