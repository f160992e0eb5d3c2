use Rattle.std.proofs.Common.{◌-◌, ◌*◌, ◌∙◌, arith}
use Rattle.run_timeline.proofs.RunMarks.{spans_marked, spans_still}
use Rattle.run_timeline.proofs.marks.Marks.pass.Goals as goal

pub add-requires-clause-pages : goal.add-requires-clause-pages
add-requires-clause-pages c = c.make_room.ensures.pages _ c.requires.pages

pub returns-then-next-place-clause-marks : goal.returns-then-next-place-clause-marks
returns-then-next-place-clause-marks c states are is = c.add.ensures.marks states (c.make_room.ensures.marks states are) is

pub returns-then-next-place-clause-spans : goal.returns-then-next-place-clause-spans
returns-then-next-place-clause-spans c reached spans =
    let m = c.args.self.now in
    let roomy = c.make_room.new.self in
    spans_marked m c.add.new.self reached c.args.place ((roomy.count - 1) * roomy.distance) roomy.distance (omega arith) spans c.make_room.ensures.last c.make_room.ensures.near c.add.ensures.last c.add.ensures.distance (c.add.ensures.room ∙ c.make_room.ensures.room) c.add.ensures.before

pub returns-else-next-place-clause-spans : goal.returns-else-next-place-clause-spans
returns-else-next-place-clause-spans c reached spans = spans_still c.args.self.now reached c.args.place (omega arith) spans
