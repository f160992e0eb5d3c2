use Rattle.image_store.proofs.Common.{◌≡◌, ◌<◌, List, [], length, take, Some, sym, ◌∙◌, ap, subst, ◌≤◌, ◌++◌, ◌∷◌, arith, slots_of, room, ShelfState, level_of, no_pairs, no_pairs_on, LevelStands, LevelAlone}
use Rattle.std.specs.FinMap as finmap
use Rattle.image_store.proofs.Levels.{made_more, made_all, stands_empty, alone_empty}
use Rattle.image_store.proofs.store.Store.begin.Goals as goal

pub loop-k-preserved : goal.loop-k-preserved
loop-k-preserved c =
    let within : c.loop-k.k < length c.args.book.now.levels = omega arith in
    let new : c.in_ok-new.field-0 ≡ no_pairs c.args.steps (room c.args.book.now c.loop-k.k c.args.steps) = c.in_ok-new.ensures ∙ ap (no_pairs c.args.steps) c.room.ensures in
    c.in_ok-push.ensures.items ∙ ap (λ (l : List ShelfState). l ++ c.in_ok-new.field-0 ∷ []) c.loop-k.invariant
    ∙ ap (λ (x : ShelfState). take c.loop-k.k (no_pairs_on (slots_of c.args.book.now) c.args.steps) ++ x ∷ []) new ∙ sym (made_more c.args.book.now c.args.steps c.loop-k.k within)

pub returns-clause-begun : goal.returns-clause-begun
returns-clause-begun c =
    let past : length c.args.book.now.levels ≤ c.loop-k.k = omega arith in
    c.loop-k.invariant ∙ made_all c.args.book.now c.args.steps c.loop-k.k past

pub returns-clause-stands : goal.returns-clause-stands
returns-clause-stands c = λ k images.
    let past : length c.args.book.now.levels ≤ c.loop-k.k = omega arith in
    let is = c.loop-k.invariant ∙ made_all c.args.book.now c.args.steps c.loop-k.k past in
    subst (λ (s : List ShelfState). LevelStands (level_of s k) (Some images) finmap.empty) (sym is) (stands_empty (slots_of c.args.book.now) c.args.steps k images)

pub returns-clause-alone : goal.returns-clause-alone
returns-clause-alone c = λ k.
    let past : length c.args.book.now.levels ≤ c.loop-k.k = omega arith in
    let is = c.loop-k.invariant ∙ made_all c.args.book.now c.args.steps c.loop-k.k past in
    subst (λ (s : List ShelfState). LevelAlone (level_of s k) (Some finmap.empty)) (sym is) (alone_empty (slots_of c.args.book.now) c.args.steps k)
