use Rattle.reverse_runner.proofs.Common.{ℕ, sym, subst, List, length, on_ok_weaker, Slots, IsSafe, IsLaidOut, AreAlone, told_by, AreShort, rooms_by, StandsAt, holdings_of, SessionState, levels_of, HasUnits, holdings_in}
use Rattle.reverse_runner.proofs.HoldingsInvariant.{laid_out_after, alone_after, stand_after}
use Rattle.reverse_runner.proofs.Rooms.{same_room}
use Rattle.reverse_runner.proofs.session.Session.perform.Goals as goal

pub invariant_of-self : goal.invariant_of-self
invariant_of-self g c =
    let before = c.self.inside.config in
    let after = c.take.new.self in
    let told = g.K.Storage in
    let old = holdings_in c.self.inside.space (told_by told c.args.keepers.now.items) in
    let new = holdings_in c.act-outcome.new.space (told_by told c.act-outcome.new.keepers.items) in
    let laid = laid_out_after c.self.inside.journal c.self.inside.unit before.steps before.slots before.at c.args.action.now after.at old new c.is_sound.ensures.sound c.take.ensures.goes c.in-Ok.ensures.ends.does.acted.acts
    (c.self.invariant.laid c.if-self.false) in
    let N : ℕ → Type 0 = λ n. IsLaidOut n before.slots after.at c.act-outcome.new.space.desk.store in
    let S : List Slots → Type 0 = λ s. IsLaidOut after.steps s after.at c.act-outcome.new.space.desk.store in
    let U : ℕ → Type 0 = λ n. HasUnits c.self.inside.unit c.self.inside.journal n after.at c.act-outcome.new.space in
    record {
      fits = c.act-outcome.ensures.ends.order.fits;
      laid = λ _. subst S (sym c.take.ensures.slots) (subst N (sym c.take.ensures.steps) laid);
      units = λ _. subst U (sym c.take.ensures.steps) (c.in-Ok.ensures.units after.at c.take.ensures.goes);
      short = λ _. subst (λ most. AreShort most c.act-outcome.new.space.desk.store) (same_room c.self.inside.space.desk.work c.act-outcome.new.space.desk.work c.act-outcome.ensures.ends.order.pages)
          (c.act-outcome.ensures.ends.order.short (c.self.invariant.short c.if-self.false));
    }

pub returns-in-Ok-clause-stays : goal.returns-in-Ok-clause-stays
returns-in-Ok-clause-stays g c =
    let before = c.self.inside.config in
    let after = c.take.new.self.at in
    let tells = told_by g.K.Storage c.args.keepers.now.items in
    let old = holdings_in c.self.inside.space tells in
    let new = holdings_in c.act-outcome.new.space (told_by g.K.Storage c.act-outcome.new.keepers.items) in
    let journal = c.self.inside.journal in
    let unit = c.self.inside.unit in
    let laid = c.self.invariant.laid c.if-self.false in
    on_ok_weaker c.act-outcome.result (λ done. record {
      stands = λ first is stands.
          (let Q : SessionState → Type 0 = λ s. StandsAt first s tells in
          stand_after first journal unit before.steps before.slots before.at c.args.action.now after old new is c.is_recorded.ensures c.is_sound.ensures.sound c.take.ensures.goes done.acts laid (subst Q (sym c.self.view_is) stands));
      alone = λ alone.
          (let Q : SessionState → Type 0 = λ s. AreAlone (levels_of s tells) in
          alone_after journal unit before.steps before.slots before.at c.args.action.now after old new c.is_sound.ensures.sound c.take.ensures.goes done.acts laid (subst Q (sym c.self.view_is) alone));
    })
    c.act-outcome.ensures.ends.does.acted

pub returns-in-Ok-clause-spared : goal.returns-in-Ok-clause-spared
returns-in-Ok-clause-spared g c =
    let tells = told_by g.K.Storage c.args.keepers.now.items in
    let Q : SessionState → Type 0 = λ s. IsSafe c.act-outcome.result s.journal s.unit s.situation.at (holdings_of s tells) (length s.situation.slots) (rooms_by g.K.Storage c.args.keepers.now.items) in
    subst Q c.self.view_is (c.act-outcome.ensures.ends.spared c.is_recorded.ensures (c.self.invariant.short c.if-self.false))

pub returns-in-Err-clause-spared : goal.returns-in-Err-clause-spared
returns-in-Err-clause-spared g c =
    let tells = told_by g.K.Storage c.args.keepers.now.items in
    let Q : SessionState → Type 0 = λ s. IsSafe c.act-outcome.result s.journal s.unit s.situation.at (holdings_of s tells) (length s.situation.slots) (rooms_by g.K.Storage c.args.keepers.now.items) in
    subst Q c.self.view_is (c.act-outcome.ensures.ends.spared c.is_recorded.ensures (c.self.invariant.short c.if-self.false))
