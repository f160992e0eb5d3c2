use Rattle.reversal.proofs.Collision.{answer_line_or_collides, part_or_collides, last_write_or_collides, last_change_or_collides}
use Rattle.reversal.proofs.laws.questions_are_answered_in_the_run_or_collide.Goals as goal

pub returns-clause-state : goal.returns-clause-state
returns-clause-state c run place begins shown old new done =
    let over = begins.over in
    answer_line_or_collides run over.start.state over.start.recorded over.valid place shown old new begins.within.1 done

pub returns-clause-state_at_a_write : goal.returns-clause-state_at_a_write
returns-clause-state_at_a_write c run place begins = let over = begins.over in part_or_collides run over.start.state over.start.recorded over.valid place

pub returns-clause-last_write : goal.returns-clause-last_write
returns-clause-last_write c run address begins = let over = begins.over in last_write_or_collides run over.start.state over.start.recorded over.valid address

pub returns-clause-last_change : goal.returns-clause-last_change
returns-clause-last_change c run address begins = let over = begins.over in last_change_or_collides run over.start.state over.start.recorded over.valid address
