use Rattle.std.proofs.Common.{◌-◌, ◌/◌, arith}
use Rattle.run_timeline.proofs.RunMarks.{kept_thinned, product_grows, product_shrinks}
use Rattle.run_timeline.proofs.marks.Marks.thin.Goals as goal

pub returns-clause-marks : goal.returns-clause-marks
returns-clause-marks c states are =
    let m = c.args.self.now in
    record {
      kept = kept_thinned states m.marks.items c.gather.new.marks.items m.count m.distance (m.count - m.count / 2) (omega arith) c.gather.ensures.gathered are.kept;
      pages = c.gather.ensures.pages _ are.pages;
    }

pub returns-clause-no_nearer : goal.returns-clause-no_nearer
returns-clause-no_nearer c =
    let m = c.args.self.now in
    product_grows m.count m.distance (m.count - m.count / 2) (omega arith)

pub returns-clause-last : goal.returns-clause-last
returns-clause-last c =
    let m = c.args.self.now in
    product_shrinks (m.count - m.count / 2 - 1) (m.count - 1) m.distance (omega arith)
