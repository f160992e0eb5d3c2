use Rattle.std.proofs.Common.{◌≡◌, ◌-◌, length, sym, ap, subst, arith}
use Rattle.run_timeline.specs.WalkState.{WalkState}
use Rattle.unit_undo.specs.UndoTrail.{IsMadeFor}
use Rattle.unit_undo.proofs.UndoTrail.{can_note}
use Rattle.run_timeline.specs.UndoTrail.{Trails}
use Rattle.run_timeline.proofs.UndoTrail.{trailed, trailed_count, trailed_same}
use Rattle.run_timeline.proofs.Walks.{went_on}
use Rattle.run_timeline.proofs.walk.Walk.note_to.Goals as goal

pub advance_watched-requires : goal.advance_watched-requires
advance_watched-requires g c =
    let w = c.self.inside in
    let here : w.place ≡ c.args.self.now.place = ap (λ (x : WalkState). x.place) c.self.view_is in
    let made : IsMadeFor w.journal c.args.undo.now = subst (λ (x : WalkState). IsMadeFor x.run.journal c.args.undo.now) (sym c.self.view_is) c.requires.made in
    can_note w.work w.journal (c.args.place - w.place) c.args.undo.now made c.requires.empty (omega (arith, here, c.requires.unit))

pub invariant_of-self : goal.invariant_of-self
invariant_of-self g c =
    let here = ap (λ (x : WalkState). x.place) c.self.view_is in
    let reached = ap (λ (x : WalkState). x.reached) c.self.view_is in
    went_on c.self.inside c.advance_watched.new.state c.args.place c.self.invariant (omega (arith, here, c.requires.behind)) (omega (arith, reached, c.requires.known)) c.advance_watched.ensures.states

pub returns-clause-trail : goal.returns-clause-trail
returns-clause-trail g c =
    let w = c.self.inside in
    let here : w.place ≡ c.args.self.now.place = ap (λ (x : WalkState). x.place) c.self.view_is in
    let v = c.advance_watched.new.watch in
    subst (λ (x : WalkState). Trails v.entries x.run c.args.place) c.self.view_is
    (trailed (record { first = w.first; journal = w.journal; most = w.most }) w.place (c.args.place - w.place) c.args.place w.work c.args.undo.now v c.self.invariant.work (omega (arith, here, c.requires.behind)) c.requires.empty c.advance_watched.ensures.noted)

pub returns-clause-count : goal.returns-clause-count
returns-clause-count g c =
    let w = c.self.inside in
    let here : w.place ≡ c.args.self.now.place = ap (λ (x : WalkState). x.place) c.self.view_is in
    let count : length c.advance_watched.new.watch.entries ≡ c.args.place - w.place = trailed_count w.journal (c.args.place - w.place) w.work c.args.undo.now c.advance_watched.new.watch c.requires.empty c.advance_watched.ensures.noted in
    omega (arith, here, count, c.requires.behind)

pub returns-clause-same : goal.returns-clause-same
returns-clause-same g c =
    let w = c.self.inside in
    trailed_same w.journal (c.args.place - w.place) w.work c.args.undo.now c.advance_watched.new.watch c.requires.empty c.advance_watched.ensures.noted
