-- What is known of a session, of the count of steps and of the keepers on the way through a valid list.
use Rattle.std.proofs.Common.{◌≡◌, ℕ, zero, suc, ◌+◌, ◌*◌, ◌-◌, ◌^◌, ◌<◌, ◌≤◌, min, false, true, cond, List, [], ◌∷◌, length, map, take, sum_by, Option, Some, Contains, Result, Ok, Err, OnErr, refl, sym, ◌∙◌, ap, subst, inl, inr, arith, slice_get}
use Rattle.std.proofs.lemmas.Bool.{cases_lt}
use Rattle.std.proofs.lemmas.List.{length-take-le, take_all}
use Rattle.std.proofs.lemmas.List.Sums.{sum_by-append}
use Rattle.std.proofs.Math.Nat.{mul-zero, mul-add}
use Rattle.plan_types.specs.declared.action.Action.{Action}
use Rattle.level_book.specs.declared.book.Slots.{Slots}
use Rattle.level_book.specs.Configuration.{Configuration, start}
use Rattle.level_book.specs.Moves.{Goes}
use Rattle.level_book.specs.Rules.{rule, levels_named}
use Rattle.level_book.specs.Valid.{Leads, Valid}
use Rattle.level_book.specs.CostFold.{steps_of, forward, is_write, is_read}
use Rattle.keepers.specs.Counts.{raised}
use Rattle.keepers.specs.Claims.{Images}
use Rattle.keepers.specs.declared.storage.Storage.{Ghosts}
use Rattle.schedule_rules.specs.Situation.{Situation}
use Rattle.schedule_rules.specs.Transitions.{after}
use Rattle.schedule_rules.specs.Reachability.{IsSound}
use Rattle.schedule_rules.proofs.MovesByRules.{goes}
use Rattle.schedule_rules.proofs.VerdictReasons.{kept_on_the_way, goes_on, take_one_more}
use Rattle.schedule_rules.proofs.Reachability.{sound_on, sound_start, leads_unique}
use Rattle.rv_machine.specs.MachineState.{MachineState, IsMachineState}
use Rattle.reverse_runner.specs.declared.fault.RunFault.{RunFault}
use Rattle.reverse_runner.specs.ActionEffects.{Holdings, Acts}
use Rattle.reverse_runner.specs.CallOutcome.{VisitorAfter}
use Rattle.reverse_runner.specs.declared.visitor.Visitor as visitor
use Rattle.reverse_runner.specs.Desks.{KeepersAre}
use Rattle.reverse_runner.specs.KeepersSeen.{Calls, Called, CalledAtMost, CalledBetween, told_by, calls_to, calls_of, is_release, HaveRoom}
use Rattle.reverse_runner.specs.SessionState.{SessionState, SamePages, levels_of, holdings_of}
use Rattle.reverse_runner.specs.HoldingsOfRun.{AreAlone, HoldingsStandAt}
use Rattle.reverse_runner.specs.StateOrder.{handed_by}
use Rattle.reverse_runner.specs.VisitorCalls.{GetsAll, MissesOne}
use Rattle.rv_machine.specs.States.{state_number}
use Rattle.reverse_runner.specs.SessionOfRun.{StandsAt, Performs, SessionEnds}
use Rattle.reverse_runner.proofs.KeeperFaults.{no_keeper}
use Rattle.reverse_runner.proofs.KeeperCalls.{are_still, are_then, are_wider}
use Rattle.reverse_queries.specs.QuestionEffects.{IsSpared}
use Rattle.reverse_queries.specs.ListExecution.{calls_of_all, done_after, PerformsAll, FaultFits, RefusedIn}
use Rattle.reverse_queries.proofs.ListPrefixes.{is_within}
use Rattle.reverse_queries.proofs.ActionCalls.{same_there}
use Rattle.reverse_queries.proofs.TraceSteps.{Gone, through}
use Rattle.reverse_queries.proofs.ActionLevels.{past_is_unnamed, acts_keep_pages}
use Rattle.reverse_queries.proofs.ReversalOrder.{Turns, turns_start, turns_on, out_of_run}
use Rattle.reverse_queries.specs.HoldingsTrace.{HaveOut}

-- the first i actions of a list were performed
pub record Way {K : Type 0} (seen : Ghosts K) (list : List Action) (i : ℕ) (old new : SessionState) (ks ls : List K) (before after : ℕ) : Type 0 where
  pub performs : PerformsAll old (take i list) new
  pub counted : after ≡ before + old.unit * forward (take i list)
  pub called : Called (calls_of_all (take i list)) (calls_to seen ks) (calls_to seen ls)
  pub are : KeepersAre {A = Unit} seen (λ k. k < length old.situation.slots) (Ok tt) ks ls
  pub pages : SamePages new.work old.work
  pub stands : (first : MachineState) → IsMachineState first → StandsAt first old (told_by seen ks) → StandsAt first new (told_by seen ls)
  pub alone : AreAlone (levels_of old (told_by seen ks)) → AreAlone (levels_of new (told_by seen ls))
  pub turns : Turns old.situation.steps new.situation.at

no_more : (a : ℕ) → a ≡ raised a 0
no_more a = omega arith

none_yet : (n unit : ℕ) → n ≡ n + unit * 0
none_yet n unit = let none = mul-zero unit in omega (arith, none)

pub way_start : {K : Type 0} (seen : Ghosts K) (list : List Action) (old : SessionState) (ks : List K) (n : ℕ) →
    old.situation.at ≡ start old.situation.steps old.situation.slots → old.ended ≡ false → Way seen list 0 old old ks ks n n
way_start seen list old ks n at lasts = record {
  performs = record { leads = refl; steps = refl; slots = refl; unit = refl; journal = refl; done = refl; lasts = lasts };
  counted = none_yet n old.unit;
  called = record { put_calls = λ k. no_more _; get_calls = λ k. no_more _; free_calls = λ k. no_more _ };
  are = are_still seen (λ k. k < length old.situation.slots) tt ks;
  pages = refl;
  stands = λ first is stands. stands;
  alone = λ alone. alone;
  turns = turns_start old.situation.steps old.situation.slots old.situation.at at;
}

-- ---- one action more

done_more : (done n m : ℕ) → m ≡ n + 1 → min (done_after done n + 1) (2 ^ 64 - 1) ≡ done_after done m
done_more done zero zero e = absurd (omega (arith, e))
done_more done zero (suc m) e = omega (arith, e)
done_more done (suc n) zero e = absurd (omega (arith, e))
done_more done (suc n) (suc m) e = omega (arith, e)

raised_then : (a b c j k l : ℕ) → b ≡ raised a j → c ≡ raised b k → l ≡ j + k → c ≡ raised a l
raised_then a b c j k l e f same = omega (arith, e, f, same)

between_then : (a b c j k l : ℕ) → b ≡ raised a j → b ≤ c → c ≤ raised b k → l ≡ j + k → (raised a j ≤ c) × (c ≤ raised a l)
between_then a b c j k l e least most same = (omega (arith, e, least), omega (arith, e, most, same))

-- a count over a list that goes on by one
count_more : {A : Type 0} (f : A → ℕ) (list : List A) (i : ℕ) (a : A) → slice_get list i ≡ Some a → sum_by f (take (i + 1) list) ≡ sum_by f (take i list) + f a
count_more f list i a at = ap (sum_by f) (take_one_more list i a at) ∙ sum_by-append f (take i list) (a ∷ []) ∙ last (sum_by f (take i list)) (f a)
  where
    last : (n m : ℕ) → n + (0 + m) ≡ n + m
    last n m = omega arith

pub called_more : (list : List Action) (i : ℕ) (a : Action) (x y z : Calls) → slice_get list i ≡ Some a → Called (calls_of_all (take i list)) x y → Called (calls_of a) y z → Called (calls_of_all (take (i + 1) list)) x z
called_more list i a x y z at first second = record {
  put_calls = λ k. raised_then _ _ _ _ _ _ (first.put_calls k) (second.put_calls k) (count_more (λ b. cond (is_write k b) 1 0) list i a at);
  get_calls = λ k. raised_then _ _ _ _ _ _ (first.get_calls k) (second.get_calls k) (count_more (λ b. cond (is_read k b) 1 0) list i a at);
  free_calls = λ k. raised_then _ _ _ _ _ _ (first.free_calls k) (second.free_calls k) (count_more (λ b. cond (is_release k b) 1 0) list i a at);
}

pub between_more : (list : List Action) (i : ℕ) (a : Action) (x y z : Calls) → slice_get list i ≡ Some a → Called (calls_of_all (take i list)) x y → CalledAtMost (calls_of a) y z → CalledBetween (calls_of_all (take i list)) (calls_of_all (take (i + 1) list)) x z
between_more list i a x y z at first second = record {
  put_calls = λ k. between_then _ _ _ _ _ _ (first.put_calls k) (second.put_calls k).0 (second.put_calls k).1 (count_more (λ b. cond (is_write k b) 1 0) list i a at);
  get_calls = λ k. between_then _ _ _ _ _ _ (first.get_calls k) (second.get_calls k).0 (second.get_calls k).1 (count_more (λ b. cond (is_read k b) 1 0) list i a at);
  free_calls = λ k. between_then _ _ _ _ _ _ (first.free_calls k) (second.free_calls k).0 (second.free_calls k).1 (count_more (λ b. cond (is_release k b) 1 0) list i a at);
}

-- where the list leads from the start of the session
pub leads_from : (old : SessionState) (list : List Action) (c : Configuration) → old.situation.at ≡ start old.situation.steps old.situation.slots →
    Leads old.situation.steps old.situation.slots old.situation.at list c → Leads old.situation.steps old.situation.slots (start old.situation.steps old.situation.slots) list c
leads_from old list c at leads = let P : Configuration → Type 0 = λ x. Leads old.situation.steps old.situation.slots x list c in subst P at leads

pub is_sound : (old mid : SessionState) (list : List Action) → old.situation.at ≡ start old.situation.steps old.situation.slots → PerformsAll old list mid → IsSound old.situation.steps old.situation.slots mid.situation.at
is_sound old mid list at performs =
    sound_on old.situation.steps old.situation.slots (start old.situation.steps old.situation.slots) list mid.situation.at (sound_start old.situation.steps old.situation.slots)
    (leads_from old list mid.situation.at at performs.leads)

-- where an action of the session goes
pub goes_from : (old mid new : SessionState) (front : List Action) (a : Action) → PerformsAll old front mid → Performs mid a new → Goes old.situation.steps old.situation.slots mid.situation.at a new.situation.at
goes_from old mid new front a so_far performs =
    let N : ℕ → Type 0 = λ n. Goes n old.situation.slots mid.situation.at a new.situation.at in
    let S : List Slots → Type 0 = λ s. Goes mid.situation.steps s mid.situation.at a new.situation.at in
    subst N so_far.steps (subst S so_far.slots performs.goes)

pub performs_more : (old mid new : SessionState) (list : List Action) (i : ℕ) (a : Action) → old.situation.at ≡ start old.situation.steps old.situation.slots → slice_get list i ≡ Some a →
    PerformsAll old (take i list) mid → Performs mid a new → PerformsAll old (take (i + 1) list) new
performs_more old mid new list i a start_ at so_far performs =
    let within = is_within list i a at in
    let steps = old.situation.steps in
    let slots = old.situation.slots in
    let B : Configuration → Type 0 = λ x. Leads steps slots x (take (i + 1) list) new.situation.at in
    let here : length (take i list) ≡ i = length-take-le i list (omega (arith, within)) in
    let there : length (take (i + 1) list) ≡ i + 1 = length-take-le (i + 1) list (omega (arith, within)) in
    record {
      leads = subst B (sym start_) (goes_on steps slots list i mid.situation a new.situation.at so_far.steps so_far.slots at (leads_from old (take i list) mid.situation.at start_ so_far.leads) performs.goes);
      steps = performs.steps ∙ so_far.steps;
      slots = performs.slots ∙ so_far.slots;
      unit = performs.unit ∙ so_far.unit;
      journal = performs.journal ∙ so_far.journal;
      done = performs.done ∙ ap (λ n. min (n + 1) (2 ^ 64 - 1)) so_far.done ∙ done_more old.done (length (take i list)) (length (take (i + 1) list)) (there ∙ ap (λ n. n + 1) (sym here));
      lasts = performs.lasts;
    }

-- the next action breaks no rule, and there is room
pub may_perform : {K : Type 0} (seen : Ghosts K) (list : List Action) (i : ℕ) (old mid : SessionState) (ks ls : List K) (before after : ℕ) (a : Action) →
    old.situation.at ≡ start old.situation.steps old.situation.slots → Valid old.situation.steps old.situation.slots list → slice_get list i ≡ Some a →
    Way seen list i old mid ks ls before after → rule mid.situation.steps mid.situation.slots mid.situation.at a ≡ 0
may_perform seen list i old mid ks ls before after a start_ valid at way =
    let performs = way.performs in
    (λ j. rule (performs.steps j) (performs.slots j) mid.situation.at a)
    ∙ kept_on_the_way old.situation.steps old.situation.slots list i mid.situation.at a valid.0 at (leads_from old (take i list) mid.situation.at start_ performs.leads) valid.1

pub has_room : {K : Type 0} (seen : Ghosts K) (list : List Action) (i : ℕ) (old mid : SessionState) (ks ls : List K) (before after : ℕ) →
    HaveRoom old.situation.steps old.situation.slots (map seen.slot_count ks) → Way seen list i old mid ks ls before after → HaveRoom mid.situation.steps mid.situation.slots (map seen.slot_count ls)
has_room seen list i old mid ks ls before after room way =
    let N : ℕ → Type 0 = λ n. HaveRoom n mid.situation.slots (map seen.slot_count ls) in
    let S : List Slots → Type 0 = λ s. HaveRoom old.situation.steps s (map seen.slot_count ls) in
    let C : List ℕ → Type 0 = λ l. HaveRoom old.situation.steps old.situation.slots l in
    subst N (sym way.performs.steps) (subst S (sym way.performs.slots) (subst C (sym way.are.slots) room))

-- what becomes of the keepers where an action was performed
pub record Went {K : Type 0} (seen : Ghosts K) (mid new : SessionState) (a : Action) (ls ms : List K) (after last : ℕ) : Type 0 where
  pub performs : Performs mid a new
  pub acts : Acts mid.unit mid.journal a (holdings_of mid (told_by seen ls)) (holdings_of new (told_by seen ms))
  pub counted : last ≡ after + mid.unit * steps_of a
  pub called : Called (calls_of a) (calls_to seen ls) (calls_to seen ms)
  pub are : KeepersAre {A = Unit} seen (λ k. Contains (levels_named a) k) (Ok tt) ls ms
  pub stands : (first : MachineState) → IsMachineState first → StandsAt first mid (told_by seen ls) → StandsAt first new (told_by seen ms)
  pub alone : AreAlone (levels_of mid (told_by seen ls)) → AreAlone (levels_of new (told_by seen ms))

-- the count of steps after one action more
counted_on : (before after last unit mid x y z : ℕ) → after ≡ before + unit * x → last ≡ after + mid * y → mid ≡ unit → z ≡ x + y → last ≡ before + unit * z
counted_on before after last unit mid x y z one two same sum =
    let more : unit * z ≡ unit * x + unit * y = ap (λ n. unit * n) sum ∙ mul-add unit x y in
    let taken : mid * y ≡ unit * y = ap (λ n. n * y) same in
    omega (arith, one, two, more, taken)

-- a level that an action names is one of the book
named_below : (steps : ℕ) (slots : List Slots) (c : Configuration) (a : Action) (d : Configuration) (k : ℕ) → Goes steps slots c a d → Contains (levels_named a) k → k < length slots
named_below steps slots c a d k goes named = elim (cases_lt k (length slots)) [
  | inl lt ↦ lt
  | inr ge ↦ absurd (past_is_unnamed steps slots c a d k goes ge named)
]

pub way_on : {K : Type 0} (seen : Ghosts K) (list : List Action) (i : ℕ) (old mid new : SessionState) (ks ls ms : List K) (before after last : ℕ) (a : Action) →
    old.situation.at ≡ start old.situation.steps old.situation.slots → slice_get list i ≡ Some a → Way seen list i old mid ks ls before after →
    Went seen mid new a ls ms after last → Way seen list (i + 1) old new ks ms before last
way_on seen list i old mid new ks ls ms before after last a start_ at way went =
    let goes = goes_from old mid new (take i list) a way.performs went.performs in
    let steps = count_more steps_of list i a at in
    let T : ℕ → Type 0 = λ k. k < length old.situation.slots in
    record {
      performs = performs_more old mid new list i a start_ at way.performs went.performs;
      counted = counted_on before after last old.unit mid.unit _ _ _ way.counted went.counted way.performs.unit steps;
      called = called_more list i a _ _ _ at way.called went.called;
      are = are_then seen T (Ok tt) (Ok tt) ks ls ms (λ k. no_keeper (Ok tt) tt k refl) way.are
          (are_wider seen (λ k. Contains (levels_named a) k) T (Ok tt) ls ms (λ k named. named_below old.situation.steps old.situation.slots mid.situation.at a new.situation.at k goes named) went.are);
      pages = acts_keep_pages mid.unit mid.journal a _ _ went.acts ∙ way.pages;
      stands = λ first is stands. went.stands first is (way.stands first is stands);
      alone = λ alone. went.alone (way.alone alone);
      turns = turns_on old.situation.steps old.situation.slots mid.situation.at a new.situation.at goes way.turns;
    }

-- ---- a refusal

pub refused_in : {K : Type 0} (seen : Ghosts K) (list front : List Action) (i : ℕ) (old mid new : SessionState) (ks ls ms : List K) (before after last : ℕ) (a : Action) (Misses : Action → Holdings → Type 0) (fault : RunFault) →
    slice_get list i ≡ Some a → take i front ≡ take i list → take (i + 1) front ≡ take (i + 1) list → i < length front →
    Way seen list i old mid ks ls before after → Gone old.unit old.situation.steps old.journal list i (holdings_of old (told_by seen ks)) (holdings_of mid (told_by seen ls)) mid.situation.at → SessionEnds mid new → last ≡ after →
    CalledAtMost (calls_of a) (calls_to seen ls) (calls_to seen ms) → FaultFits Misses fault a (holdings_of mid (told_by seen ls)) →
    RefusedIn Misses front fault old new (told_by seen ks) before last (calls_to seen ks) (calls_to seen ms)
refused_in seen list front i old mid new ks ls ms before after last a Misses fault at here there inside way gone ends still most fits =
    let within = is_within list i a at in
    let C : Configuration → Type 0 = λ x. Leads old.situation.steps old.situation.slots old.situation.at (take i list) x in
    let L : List Action → Type 0 = λ l. Leads old.situation.steps old.situation.slots old.situation.at l new.situation.at in
    let B : List Action → Type 0 = λ l. CalledBetween (calls_of_all l) (calls_of_all (take (i + 1) front)) (calls_to seen ks) (calls_to seen ms) in
    let M : List Action → Type 0 = λ l. CalledBetween (calls_of_all (take i list)) (calls_of_all l) (calls_to seen ks) (calls_to seen ms) in
    record {
      place = i;
      within = inside;
      next = a;
      there = same_there list front i a there at;
      held = holdings_of mid (told_by seen ls);
      states = gone.states;
      through = through old.unit old.situation.steps old.journal list (take i front) i _ _ mid.situation.at (omega (arith, within)) here gone;
      fits = fits;
      leads = subst L (sym here) (subst C (sym (ap (λ (s : Situation). s.at) ends.situation)) way.performs.leads);
      done = ends.done ∙ way.performs.done ∙ ap (done_after old.done) (length-take-le i list (omega (arith, within)));
      over = ends.over;
      counted = still ∙ way.counted ∙ ap (λ l. before + old.unit * forward l) (sym here);
      called = subst B (sym here) (subst M (sym there) (between_more list i a _ _ _ at way.called most));
    }

-- a whole valid list leads to the end
pub at_end : {K : Type 0} (seen : Ghosts K) (list : List Action) (i : ℕ) (old new : SessionState) (ks ls : List K) (before after : ℕ) →
    old.situation.at ≡ start old.situation.steps old.situation.slots → Valid old.situation.steps old.situation.slots list → length list ≤ i →
    Way seen list i old new ks ls before after → new.situation.at.ended ≡ true
at_end seen list i old new ks ls before after start_ valid all way =
    let P : List Action → Type 0 = λ l. Leads old.situation.steps old.situation.slots (start old.situation.steps old.situation.slots) l new.situation.at in
    let leads = subst P (take_all i list all) (leads_from old (take i list) new.situation.at start_ way.performs.leads) in
    ap (λ (c : Configuration). c.ended) (leads_unique old.situation.steps old.situation.slots (start old.situation.steps old.situation.slots) list new.situation.at valid.0 leads valid.1) ∙ valid.2

-- a level past those of the book isn't named by an action that breaks no rule
pub past_levels : (old mid : SessionState) (front : List Action) (a : Action) (k : ℕ) → PerformsAll old front mid → rule mid.situation.steps mid.situation.slots mid.situation.at a ≡ 0 →
    length old.situation.slots ≤ k → Contains (levels_named a) k → ⊥
past_levels old mid front a k performs rule_is past named =
    let same = ap (λ (s : List Slots). length s) performs.slots in
    past_is_unnamed mid.situation.steps mid.situation.slots mid.situation.at a (after mid.situation.at a) k (goes mid.situation.steps mid.situation.slots mid.situation.at a rule_is) (omega (arith, past, same)) named

pub below_levels : (old mid : SessionState) (front : List Action) (a : Action) → PerformsAll old front mid → rule mid.situation.steps mid.situation.slots mid.situation.at a ≡ 0 → (k : ℕ) → Contains (levels_named a) k → k < length old.situation.slots
below_levels old mid front a performs rule_is k named = elim (cases_lt k (length old.situation.slots)) [
  | inl lt ↦ lt
  | inr ge ↦ absurd (past_levels old mid front a k performs rule_is ge named)
]

-- a fact holds where there is an error, and where there is none
pub on_err_always : {T E P : Type 0} (r : Result T E) → P → OnErr r P
on_err_always (Ok x) p = tt
on_err_always (Err e) p = p

-- the next action goes somewhere
pub may_go : {K : Type 0} (seen : Ghosts K) (list : List Action) (i : ℕ) (old mid : SessionState) (ks ls : List K) (before after' : ℕ) (a : Action) →
    old.situation.at ≡ start old.situation.steps old.situation.slots → Valid old.situation.steps old.situation.slots list → slice_get list i ≡ Some a →
    Way seen list i old mid ks ls before after' → Goes old.situation.steps old.situation.slots mid.situation.at a (after mid.situation.at a)
may_go seen list i old mid ks ls before after' a start_ valid at way =
    goes old.situation.steps old.situation.slots mid.situation.at a
    (kept_on_the_way old.situation.steps old.situation.slots list i mid.situation.at a valid.0 at (leads_from old (take i list) mid.situation.at start_ way.performs.leads) valid.1)

-- a fault that is passed on is that of the call
pub same_fault : {T U E : Type 0} (r : Result T E) (s : Result U E) (x y z : E) → r ≡ Err x → s ≡ Err y → y ≡ x → s ≡ Err z → r ≡ Err z
same_fault r s x y z first second same last = cc

-- no result is both
pub not_both : {T E : Type 0} (r : Result T E) (x : T) (y : E) → r ≡ Ok x → r ≡ Err y → ⊥
not_both r x y first second = cc

-- what was done and handed out, by the unit, the steps and the journal of the session
pub acts_there : (old mid : SessionState) (front : List Action) (a : Action) (x y : Holdings) → PerformsAll old front mid → Acts mid.unit mid.journal a x y → Acts old.unit old.journal a x y
acts_there old mid front a x y so_far acts =
    let U : ℕ → Type 0 = λ u. Acts u mid.journal a x y in
    let J : List (List ℕ) → Type 0 = λ j. Acts old.unit j a x y in
    subst J so_far.journal (subst U so_far.unit acts)

pub gets_there : {V : Type 0} (got : V → ℕ → MachineState → List (List ℕ) → V → Type 0) (old mid : SessionState) (front : List Action) (a : Action) (out : List MachineState) (x y : V) → PerformsAll old front mid →
    GetsAll got mid.journal (handed_by mid.unit mid.situation.steps a) out x y → GetsAll got old.journal (handed_by old.unit old.situation.steps a) out x y
gets_there got old mid front a out x y so_far gets =
    let U : ℕ → Type 0 = λ u. GetsAll got mid.journal (handed_by u mid.situation.steps a) out x y in
    let S : ℕ → Type 0 = λ n. GetsAll got mid.journal (handed_by old.unit n a) out x y in
    let J : List (List ℕ) → Type 0 = λ j. GetsAll got j (handed_by old.unit old.situation.steps a) out x y in
    subst J so_far.journal (subst S so_far.steps (subst U so_far.unit gets))

pub misses_there : {V : Type 0} (got missed : V → ℕ → MachineState → List (List ℕ) → V → Type 0) (old mid : SessionState) (front : List Action) (a : Action) (out : List MachineState) (x y : V) → PerformsAll old front mid →
    MissesOne got missed mid.journal (handed_by mid.unit mid.situation.steps a) out x y → MissesOne got missed old.journal (handed_by old.unit old.situation.steps a) out x y
misses_there got missed old mid front a out x y so_far misses =
    let U : ℕ → Type 0 = λ u. MissesOne got missed mid.journal (handed_by u mid.situation.steps a) out x y in
    let S : ℕ → Type 0 = λ n. MissesOne got missed mid.journal (handed_by old.unit n a) out x y in
    let J : List (List ℕ) → Type 0 = λ j. MissesOne got missed j (handed_by old.unit old.situation.steps a) out x y in
    subst J so_far.journal (subst S so_far.steps (subst U so_far.unit misses))

-- where a session stands, the states of the run have what it hands out next
pub run_has : (first : MachineState) (old mid : SessionState) (told : ℕ → Option Images) (front : List Action) (a : Action) (d : Configuration) → old.situation.at ≡ start old.situation.steps old.situation.slots → PerformsAll old front mid →
    Goes old.situation.steps old.situation.slots mid.situation.at a d → StandsAt first mid told → HaveOut old.unit old.situation.steps a (holdings_of mid told) (state_number first old.journal)
run_has first old mid told front a d start_ so_far goes stands =
    let U : ℕ → Type 0 = λ u. HoldingsStandAt first mid.journal u mid.situation.at (holdings_of mid told) in
    let J : List (List ℕ) → Type 0 = λ j. HoldingsStandAt first j old.unit mid.situation.at (holdings_of mid told) in
    out_of_run first old.unit old.situation.steps old.situation.slots old.journal mid.situation.at a d (holdings_of mid told) goes (is_sound old mid front start_ so_far) (subst J so_far.journal (subst U so_far.unit stands))

-- ---- what is left where nothing was refused

pub ok_spared : {A : Type 0} (x : A) (session : SessionState) (told : ℕ → Option Images) (rooms : ℕ → Option ℕ) → IsSpared (Ok x) session told rooms
ok_spared x session told rooms = record { not_ended = λ e. cc; roomy = λ roomy e. cc; undamaged = λ first is stands k put got e. cc }

pub ok_seen : {A V : Type 0} (g : visitor.Ghosts V) (x : A) (v w : V) → g.fault_count w ≡ g.fault_count v → VisitorAfter g (Ok x) v w
ok_seen g x v w same = record { unseen = tt; faults = record { cause = λ e. absurd cc; quiet = λ never. same; later = omega (arith, same) } }
