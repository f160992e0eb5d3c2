-- The undo list is cleared, and then watches the steps.
use Rattle.reverse_runner.proofs.Common.{◌∙◌, ap, sym, subst, arith, MachineState, can_note, noted, UndoState, states_below, LeadsBack, IsMadeFor}
use Rattle.reverse_runner.proofs.known_state.KnownState.advance_noting.Goals as goal

pub advance_watched-requires : goal.advance_watched-requires
advance_watched-requires g c =
    let unit = ap (λ (u : UndoState). u.unit) c.clear.ensures in
    let room = ap (λ (u : UndoState). u.room) c.clear.ensures in
    let made : IsMadeFor c.args.journal.now c.clear.new.self = omega (arith, unit, room, c.requires.made) in
    can_note c.self.inside.state c.args.journal.now c.args.count c.clear.new.self made (ap (λ (u : UndoState). u.entries) c.clear.ensures) (omega (arith, unit, c.requires.few))

pub returns-clause-back : goal.returns-clause-back
returns-clause-back g c =
    let so = noted c.self.inside.state c.args.journal.now c.args.count c.clear.new.self c.advance_watched.new.watch (ap (λ (u : UndoState). u.entries) c.clear.ensures) c.advance_watched.ensures.noted in
    let back = subst (λ (s : MachineState). LeadsBack c.advance_watched.new.watch.entries s (states_below c.self.inside.state c.args.journal.now c.args.count)) (sym c.advance_watched.ensures.states) so.has.back in
    subst (λ (s : MachineState). LeadsBack c.advance_watched.new.watch.entries c.advance_watched.new.state (states_below s c.args.journal.now c.args.count)) c.self.view_is back

pub returns-clause-stays : goal.returns-clause-stays
returns-clause-stays g c =
    let so = noted c.self.inside.state c.args.journal.now c.args.count c.clear.new.self c.advance_watched.new.watch (ap (λ (u : UndoState). u.entries) c.clear.ensures) c.advance_watched.ensures.noted in
    (so.unit ∙ ap (λ (u : UndoState). u.unit) c.clear.ensures, so.room ∙ ap (λ (u : UndoState). u.room) c.clear.ensures)
