use Rattle.std.proofs.Common.{◌≡◌, length, get_or, true≢false, sym, ap, ◌∙◌, arith}
use Rattle.revolve_gen.specs.Places.{places_on}
use Rattle.class_rules.proofs.ClassByLevels.{fits, fits_at}
use Rattle.class_rules.proofs.multistage.fit.Goals as goal

pub returns-then-has_places : goal.returns-then-has_places
returns-then-has_places c =
    let levels = c.args.levels.now in
    let book = c.args.book.now in
    let inv = c.loop-level.invariant in
    let end : c.loop-level.level-index ≡ length levels = omega (arith, c.loop-level-test.false, c.loop-level.auto.level-index-end) in
    let on_fast = inv.on_fast ∙ ap (places_on (λ p. get_or levels p 0) 0) end in
    let on_slow = inv.on_slow ∙ ap (places_on (λ p. get_or levels p 0) 1) end in
    let first = c.level.result.now in
    let second = c.level-then-has_places.result.now in (
      (λ e. fits book levels first second c.loop-level.fast c.loop-level.slow c.level.ensures c.level-then-has_places.ensures on_fast on_slow
          (λ p h. inv.known p (omega arith)) (c.has_places.ensures.0 c.if-has_places.true) (c.has_places-then-has_places.ensures.0 e)),
      (λ fit. c.has_places-then-has_places.ensures.1 (fits_at book levels 1 c.loop-level.slow second c.level-then-has_places.ensures on_slow (omega arith) fit)),
    )

pub returns-else-has_places : goal.returns-else-has_places
returns-else-has_places c =
    let levels = c.args.levels.now in
    let end : c.loop-level.level-index ≡ length levels = omega (arith, c.loop-level-test.false, c.loop-level.auto.level-index-end) in
    let on_fast = c.loop-level.invariant.on_fast ∙ ap (places_on (λ p. get_or levels p 0) 0) end in (
      (λ e. absurd (true≢false (sym e ∙ c.if-has_places.false))),
      (λ fit. c.has_places.ensures.1 (fits_at c.args.book.now levels 0 c.loop-level.fast c.level.result.now c.level.ensures on_fast (omega arith) fit)),
    )
