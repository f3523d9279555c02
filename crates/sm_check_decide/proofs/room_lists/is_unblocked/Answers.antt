use Rattle.std.proofs.Common.{arith}
use Rattle.std.proofs.lemmas.Bool.{false≢true}
use borrow.Author.Count.{below_more}
use Rattle.sm_check_decide.proofs.RoomLemmas.{blocked, unblocked_step}
use Rattle.sm_check_decide.proofs.room_lists.is_unblocked.Goals as goal

pub returns-then-blocks : goal.returns-then-blocks
returns-then-blocks c = (
  λ t. absurd (false≢true t),
  λ u. absurd (blocked c.loop-x.x c.loop-place.place (c.blocks-in-loop-place.ensures.0 c.if-blocks.true) c.loop-place-test.true u),
)

pub loop-x-preserved : goal.loop-x-preserved
loop-x-preserved c =
    below_more _ _ c.loop-x.invariant (unblocked_step c.args.standings.now c.loop-x.x (λ j l. c.loop-place.invariant j (omega arith)))
