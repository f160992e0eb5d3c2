use Rattle.reverse_runner.proofs.Common.{ap, sym, subst, arith, List, slots_of, start, MachineState, ShelfState, UndoState, IsLaidOut, HoldingsStandAt, AreAlone, image_room, HasUnits, tape_in}
use Rattle.schedule_rules.specs.Situation.{Situation}
use Rattle.reverse_runner.proofs.RoomLeft.{begun_is_laid_out, begun_stands, begun_is_alone}
use Rattle.reverse_runner.proofs.Rooms.{begun_short, short_same}
use Rattle.reverse_runner.proofs.session.Session.begin.Goals as goal

pub invariant_of-result : goal.invariant_of-result
invariant_of-result c =
    let space = c.in_ok-space.ensures in
    let P : Situation → Type 0 = λ s. IsLaidOut s.steps s.slots s.at c.in_ok-space.space.desk.store in
    let Q : List ShelfState → Type 0 = λ s. IsLaidOut c.args.steps (slots_of c.args.book) (start c.args.steps (slots_of c.args.book)) s in
    let U : Situation → Type 0 = λ s. HasUnits c.args.unit c.args.journal s.steps s.at c.in_ok-space.space in
    record {
      fits = space.fits;
      laid = λ _. subst P (sym c.in_ok-config.ensures) (subst Q (sym space.store) (begun_is_laid_out c.args.steps (slots_of c.args.book)));
      units = λ _. subst U (sym c.in_ok-config.ensures) (record {
        taped = tt;
        made = omega (arith, ap (λ (u : UndoState). u.unit) space.undo, ap (λ (u : UndoState). u.room) space.undo);
        same = ap (λ (u : UndoState). u.unit) space.undo;
        small = c.requires.few;
      });
      short = λ _. short_same (image_room c.in_ok-space.space.desk.work) _ c.in_ok-space.space.desk.store space.store (begun_short (image_room c.in_ok-space.space.desk.work) (slots_of c.args.book) c.args.steps);
    }

pub returns-clause-stands : goal.returns-clause-stands
returns-clause-stands c told tells =
    let space = c.in_ok-space.ensures in
    let steps = c.args.steps in
    let slots = slots_of c.args.book in
    let tape = tape_in c.in_ok-space.space in
    let C : Situation → Type 0 = λ s. HoldingsStandAt c.args.start c.args.journal c.args.unit s.at (record { work = c.in_ok-space.space.desk.work; tape = tape; levels = record { store = c.in_ok-space.space.desk.store; told = told } }) in
    let W : MachineState → Type 0 = λ w. HoldingsStandAt c.args.start c.args.journal c.args.unit (start steps slots) (record { work = w; tape = tape; levels = record { store = c.in_ok-space.space.desk.store; told = told } }) in
    let S : List ShelfState → Type 0 = λ s. HoldingsStandAt c.args.start c.args.journal c.args.unit (start steps slots) (record { work = c.args.start; tape = tape; levels = record { store = s; told = told } }) in
    subst C (sym c.in_ok-config.ensures) (subst W (sym space.work) (subst S (sym space.store) (begun_stands c.args.start c.args.journal c.args.unit steps slots tape told tells)))

pub returns-clause-alone : goal.returns-clause-alone
returns-clause-alone c told empty =
    let steps = c.args.steps in
    let slots = slots_of c.args.book in
    let S : List ShelfState → Type 0 = λ s. AreAlone (record { store = s; told = told }) in
    subst S (sym c.in_ok-space.ensures.store) (begun_is_alone steps slots told empty)
