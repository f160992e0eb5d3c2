use Rattle.std.proofs.Common.{◌≡◌, ◌<◌, ◌∷◌, ◌++◌, [], suc, length, ap, ◌∙◌, arith}
use Rattle.unit_undo.specs.UndoTrail.{led_back}
use Rattle.unit_undo.proofs.UndoTrail.{length-led_back, walked}
use Rattle.unit_digests.proofs.DigestWalks.{passed_more, fell_behind}
use Rattle.unit_digests.proofs.sharing.go_back.Goals as goal

pub loop-walk-preserved : goal.loop-walk-preserved
loop-walk-preserved c =
    let h = c.loop-walk.invariant in
    let p = c.back.ensures.back in
    let one : length c.loop-walk.walk ≡ suc (length c.back.new.self) = ap length p.1.0 in
    record {
      left = omega arith;
      leads = walked c.loop-walk.walk c.back.new.self p.0 c.loop-walk.state c.back.new.state p.1.0 p.1.1 h.leads;
      passed = (
        h.passed.0 ++ c.loop-walk.state ∷ [],
        passed_more _ h.passed.0 c.loop-walk.walk c.back.new.self p.0 c.loop-walk.state c.back.new.state h.passed.1 p.1.0 p.1.1,
      );
      pages = c.back.ensures.pages ∙ h.pages;
    }

pub returns-clause-passed : goal.returns-clause-passed
returns-clause-passed c =
    let h = c.loop-walk.invariant in
    let size = length-led_back c.loop-walk.walk c.loop-walk.state in
    let size_first = length-led_back c.args.walk.now c.args.state.now in
    let fewer : length (led_back c.loop-walk.walk c.loop-walk.state) < length (led_back c.args.walk.now c.args.state.now) = omega arith in
    fell_behind h.passed.0 c.args.state.now c.loop-walk.state _ _ h.passed.1 fewer
