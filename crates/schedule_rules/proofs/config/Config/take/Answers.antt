use Rattle.std.proofs.Common.{slice_index_or, slice_set, refl, sym, ◌∙◌, ap, arith}
use Rattle.std.specs.FinSet as set
use Rattle.plan_types.specs.declared.action.Keep.TheVariants.{Nothing, Store, Tape}
use Rattle.plan_types.specs.declared.action.Dest.TheVariants.{Work, Level}
use Rattle.plan_types.specs.declared.action.Action.TheVariants.{Forward, Reverse, Copy, Move, EndForward, EndReverse}
use Rattle.level_book.specs.Rules.{rule}
use Rattle.schedule_rules.specs.Situation.{Situation}
use Rattle.schedule_rules.proofs.LevelLemmas.{member_has_bit, bit_for}
use Rattle.schedule_rules.proofs.MovesByRules.{goes, copied_is_held, moved_is_held}
use Rattle.schedule_rules.proofs.ConfigInvariant.{kept_after, levels_so}
use Rattle.schedule_rules.proofs.config.Config.take.Goals as goal

-- what an action that leaves the levels alone leads to
pub invariant_of-self : goal.invariant_of-self
invariant_of-self c =
    kept_after c.self.inside _ c.args.self.now c.args.action.now (Forward c.in-Forward.from c.in-Forward.to Nothing) c.self.view_is c.self.invariant c.requires (c.in-Forward.is ∙ ap (Forward c.in-Forward.from c.in-Forward.to) c.in-Nothing.is)
    refl c.self.invariant.bits

pub invariant_of-self-in-Tape : goal.invariant_of-self-in-Tape
invariant_of-self-in-Tape c =
    kept_after c.self.inside _ c.args.self.now c.args.action.now (Forward c.in-Forward.from c.in-Forward.to Tape) c.self.view_is c.self.invariant c.requires (c.in-Forward.is ∙ ap (Forward c.in-Forward.from c.in-Forward.to) c.in-Tape.is)
    refl c.self.invariant.bits

pub invariant_of-self-in-Reverse : goal.invariant_of-self-in-Reverse
invariant_of-self-in-Reverse c =
    kept_after c.self.inside _ c.args.self.now c.args.action.now (Reverse c.in-Reverse.from c.in-Reverse.to) c.self.view_is c.self.invariant c.requires c.in-Reverse.is
    refl c.self.invariant.bits

pub invariant_of-self-in-Work : goal.invariant_of-self-in-Work
invariant_of-self-in-Work c =
    kept_after c.self.inside _ c.args.self.now c.args.action.now (Copy c.in-Copy.n c.in-Copy.from Work) c.self.view_is c.self.invariant c.requires (c.in-Copy.is ∙ ap (Copy c.in-Copy.n c.in-Copy.from) c.in-Work.is)
    refl c.self.invariant.bits

pub invariant_of-self-in-EndForward : goal.invariant_of-self-in-EndForward
invariant_of-self-in-EndForward c =
    kept_after c.self.inside _ c.args.self.now c.args.action.now (EndForward) c.self.view_is c.self.invariant c.requires c.in-EndForward.is
    refl c.self.invariant.bits

pub invariant_of-self-in-EndReverse : goal.invariant_of-self-in-EndReverse
invariant_of-self-in-EndReverse c =
    kept_after c.self.inside _ c.args.self.now c.args.action.now (EndReverse) c.self.view_is c.self.invariant c.requires c.in-EndReverse.is
    refl c.self.invariant.bits

-- what an action leads to that changes a level
pub invariant_of-self-in-Store : goal.invariant_of-self-in-Store
invariant_of-self-in-Store c =
    kept_after c.self.inside (record c.self.inside { levels = c.hold.new.levels; work = c.in-Forward.to }) c.args.self.now c.args.action.now (Forward c.in-Forward.from c.in-Forward.to (Store c.in-Store.level)) c.self.view_is c.self.invariant c.requires (c.in-Forward.is ∙ ap (Forward c.in-Forward.from c.in-Forward.to) c.in-Store.is)
    (levels_so (record c.self.inside { levels = c.hold.new.levels; work = c.in-Forward.to }) _ _ c.hold.ensures.slots c.hold.ensures.held) (c.hold.ensures.bits c.self.inside.steps c.self.invariant.bits)

pub invariant_of-self-in-Level : goal.invariant_of-self-in-Level
invariant_of-self-in-Level c =
    kept_after c.self.inside (record c.self.inside { levels = c.hold-in-Level.new.levels }) c.args.self.now c.args.action.now (Copy c.in-Copy.n c.in-Copy.from (Level c.in-Level.level)) c.self.view_is c.self.invariant c.requires (c.in-Copy.is ∙ ap (Copy c.in-Copy.n c.in-Copy.from) c.in-Level.is)
    (levels_so (record c.self.inside { levels = c.hold-in-Level.new.levels }) _ _ c.hold-in-Level.ensures.slots c.hold-in-Level.ensures.held) (c.hold-in-Level.ensures.bits c.self.inside.steps c.self.invariant.bits)

pub invariant_of-self-in-Work-dest : goal.invariant_of-self-in-Work-dest
invariant_of-self-in-Work-dest c =
    kept_after c.self.inside (record c.self.inside { levels = c.release.new.levels; work = c.in-Move.n }) c.args.self.now c.args.action.now (Move c.in-Move.n c.in-Move.from Work) c.self.view_is c.self.invariant c.requires (c.in-Move.is ∙ ap (Move c.in-Move.n c.in-Move.from) c.in-Work-dest.is)
    (levels_so (record c.self.inside { levels = c.release.new.levels; work = c.in-Move.n }) _ _ c.release.ensures.slots c.release.ensures.held) (c.release.ensures.bits c.self.inside.steps c.self.invariant.bits)

pub invariant_of-self-in-Level-dest : goal.invariant_of-self-in-Level-dest
invariant_of-self-in-Level-dest c =
    kept_after c.self.inside (record c.self.inside { levels = c.hold-in-Level-dest.new.levels }) c.args.self.now c.args.action.now (Move c.in-Move.n c.in-Move.from (Level c.in-Level-dest.level)) c.self.view_is c.self.invariant c.requires (c.in-Move.is ∙ ap (Move c.in-Move.n c.in-Move.from) c.in-Level-dest.is)
    (levels_so (record c.self.inside { levels = c.hold-in-Level-dest.new.levels }) _ _ (c.hold-in-Level-dest.ensures.slots ∙ c.release.ensures.slots)
    (c.hold-in-Level-dest.ensures.held ∙ ap (λ held. slice_set held c.in-Level-dest.level (set.insert (slice_index_or held c.in-Level-dest.level set.empty) c.in-Move.n)) c.release.ensures.held)) (c.hold-in-Level-dest.ensures.bits c.self.inside.steps (c.release.ensures.bits c.self.inside.steps c.self.invariant.bits))

-- each level has a bit for what it is to hold
pub hold-requires-clause-room : goal.hold-requires-clause-room
hold-requires-clause-room c =
    let is = c.in-Forward.is ∙ ap (Forward c.in-Forward.from c.in-Forward.to) c.in-Store.is in
    let at = c.args.self.now in
    let advances = (goes at.steps at.slots at.at (Forward c.in-Forward.from c.in-Forward.to (Store c.in-Store.level)) (ap (rule at.steps at.slots at.at) (sym is) ∙ c.requires)).1 in
    bit_for _ c.self.inside.steps _ c.self.invariant.bits
    (omega (arith, advances.ahead, advances.within, c.self.invariant.within, ap (λ (s : Situation). s.at.reverse) c.self.view_is))

pub hold-requires-in-Level-clause-room : goal.hold-requires-in-Level-clause-room
hold-requires-in-Level-clause-room c =
    let is = c.in-Copy.is ∙ ap (Copy c.in-Copy.n c.in-Copy.from) c.in-Level.is in
    bit_for _ c.self.inside.steps _ c.self.invariant.bits
    (member_has_bit c.self.inside _ c.in-Copy.n c.in-Copy.from c.self.view_is c.self.invariant
    (copied_is_held _ _ _ _ c.in-Copy.n c.in-Copy.from c.in-Level.level c.requires is))

pub hold-requires-in-Level-dest-clause-room : goal.hold-requires-in-Level-dest-clause-room
hold-requires-in-Level-dest-clause-room c =
    let is = c.in-Move.is ∙ ap (Move c.in-Move.n c.in-Move.from) c.in-Level-dest.is in
    bit_for _ c.self.inside.steps _ (c.release.ensures.bits c.self.inside.steps c.self.invariant.bits)
    (member_has_bit c.self.inside _ c.in-Move.n c.in-Move.from c.self.view_is c.self.invariant
    (moved_is_held _ _ _ _ c.in-Move.n c.in-Move.from c.in-Level-dest.level c.requires is))
