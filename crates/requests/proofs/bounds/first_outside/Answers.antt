use Rattle.std.proofs.Common.{◌≡◌, ◌+◌, ◌<◌, ℕ, List, ◌∷◌, length, drop, get_or, inl, inr, refl, sym, subst}
use Rattle.std.specs.List.{AllByRecursion}
use Rattle.std.proofs.lemmas.Bool.{false≢true}
use Rattle.std.proofs.lemmas.Option.{slice_get-get_or}
use Rattle.requests.specs.declared.bounds.Bounded.{Bounded}
use Rattle.requests.specs.Bounds.{IsWithin, RefusesFirst}
use Rattle.requests.proofs.Lists.{drop_at}
use Rattle.requests.proofs.bounds.first_outside.Goals as goal

abbrev number_at : List Bounded → ℕ → Bounded
number_at numbers i = get_or numbers i (record { number = 0; least = 0; greatest = 0; rule = 0 })

behind : (numbers : List Bounded) (i : ℕ) → i < length numbers → drop i numbers ≡ number_at numbers i ∷ drop (i + 1) numbers
behind numbers i within = drop_at numbers i (number_at numbers i) (slice_get-get_or numbers i (record { number = 0; least = 0; greatest = 0; rule = 0 }) within)

pub returns-then-not-is_within : goal.returns-then-not-is_within
returns-then-not-is_within c =
    let P : List Bounded → Type 0 = λ l. RefusesFirst l c.refusal.result in
    c.loop-bounded.invariant.first c.refusal.result
    (subst P (sym (behind c.args.numbers.now c.loop-bounded.bounded-index c.loop-bounded-test.true))
    (inl (λ within. false≢true (c.if-not-is_within.ensures.1 within), c.refusal.ensures)))

pub loop-bounded-preserved : goal.loop-bounded-preserved
loop-bounded-preserved c =
    let here = sym (behind c.args.numbers.now c.loop-bounded.bounded-index c.loop-bounded-test.true) in
    let within = c.if-not-is_within.ensures.0 refl in
    let P : List Bounded → Type 0 = λ l. AllByRecursion IsWithin l in
    record {
      all = λ rest. c.loop-bounded.invariant.all (subst P here (within, rest));
      first = λ e rest. let Q : List Bounded → Type 0 = λ l. RefusesFirst l e in c.loop-bounded.invariant.first e (subst Q here (inr (within, rest)));
    }
