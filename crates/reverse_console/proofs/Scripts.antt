-- Orders that are answered one after the other.
use Rattle.std.proofs.Common.{◌≡◌, ◌≢◌, inl, inr, ℕ, Bool, true, false, true≢false, List, [], ◌∷◌, ◌++◌, take, Option, Some, None, Result, Ok, Err, IfOk, OnErr, IsErrOf, refl, sym, ◌∙◌, ap, subst, append_assoc, append-nil}
use Rattle.keepers.specs.Counts.{raised}
use Rattle.keepers.specs.Claims.{Images, Tells, AddsPrefix}
use Rattle.keepers.specs.declared.storage.Storage.{Ghosts}
use Rattle.rv_machine.specs.MachineState.{MachineState}
use Rattle.rv_machine.specs.States.{state_number}
use Rattle.state_image.specs.Line.{line}
use Rattle.image_store.specs.Shelves.{ShelfState}
use Rattle.reverse_runner.specs.Desks.{KeepersAre}
use Rattle.reverse_runner.specs.KeepersSeen.{by_number}
use Rattle.reverse_runner.specs.declared.line_writer.LineWriter.{LineWriter}
use Rattle.reverse_runner.specs.declared.fault.RunFault.{RunFault}
use Rattle.reverse_runner.specs.declared.fault.RunFault.TheVariants.{Keeper, Damaged, Visitor, Memory, Ended}
use Rattle.reverse_console.specs.declared.order.Order.{Order}
use Rattle.reverse_console.specs.declared.script.Stop.{Stop}
use Rattle.reverse_console.specs.Causes.{fault_of}
use Rattle.reverse_console.specs.Answer.{IsAnswer, IsGiven, found_at}
use Rattle.reverse_console.specs.ConsoleState.{ConsoleState, GoesOn, source_of}
use Rattle.reverse_runner.specs.KeepersSeen.{Calls}
use Rattle.reverse_console.specs.Costs.{Effort, effort_of, Takes, BreaksAt, IsSeenAt, StopsAt, TookUntil}
use Rattle.reverse_console.specs.MarkInvariant.{StandAt}
use Rattle.reverse_console.specs.Marks.{MarkPlan, mark_count, mark_of}
use Rattle.reverse_console.specs.StateSources.{Source, ComesFrom, IsAnswerSeen}
use Rattle.reverse_console.specs.MarksOfRun.{Stands}
use Rattle.reverse_console.specs.ScriptAnswers.{place_after, Moment, IsTextOf, IsShown, IsAnswered, AreAnswered, BreaksOff, MissesText, AreAnswers, answer_text, script_text, BreaksOffIn}
use Rattle.reverse_console.proofs.MarkGets.{stand_same}
use Rattle.reverse_console.proofs.FetchedStates.{comes_back, not_got_back, answer_back}

-- ---- what is written

pub tells_none : (told : Option (List ℕ)) → Tells told told (λ x y. y ≡ x ++ [])
tells_none None = tt
tells_none (Some bytes) = sym (append-nil bytes)

pub tells_more : (text piece : List ℕ) (a b c : Option (List ℕ)) → Tells a b (λ x y. y ≡ x ++ text) → Tells b c (λ x y. y ≡ x ++ piece) → Tells a c (λ x y. y ≡ x ++ (text ++ piece))
tells_more text piece None None None h g = tt
tells_more text piece None None (Some z) h g = absurd g
tells_more text piece None (Some y) c h g = absurd h
tells_more text piece (Some x) None c h g = absurd h
tells_more text piece (Some x) (Some y) None h g = absurd g
tells_more text piece (Some x) (Some y) (Some z) h g = g ∙ ap (λ (l : List ℕ). l ++ piece) h ∙ append_assoc x text piece

-- a part of a text after another one
pub tells_part : (text piece : List ℕ) (a b c : Option (List ℕ)) → Tells a b (λ x y. y ≡ x ++ text) → Tells b c (AddsPrefix piece) → Tells a c (λ x y. AddsPrefix piece (x ++ text) y)
tells_part text piece None None None h g = tt
tells_part text piece None None (Some z) h g = absurd g
tells_part text piece None (Some y) c h g = absurd h
tells_part text piece (Some x) None c h g = absurd h
tells_part text piece (Some x) (Some y) None h g = absurd g
tells_part text piece (Some x) (Some y) (Some z) h g = (g.0, g.1 ∙ ap (λ (l : List ℕ). l ++ take g.0 piece) h)

-- ---- one order

-- the writer's relation for a state that it gets: it writes to the same sink, and in one call the line was added
abbrev Wrote : {X : Type 0} → (X → Option (List ℕ)) → (X → ℕ) → LineWriter X → ℕ → MachineState → LineWriter X → Type 0
Wrote told calls w n s v =
    (v.out.ghost_name ≡ w.out.ghost_name)
    × Tells (told w.out.now) (told v.out.now) (λ old new. new ≡ old ++ (line n s ++ 10 ∷ []))
    × (calls v.out.now ≡ raised (calls w.out.now) 1)

-- what a writer wrote of an answer
pub shown_of : {X : Type 0} (told : X → Option (List ℕ)) (calls : X → ℕ) (from : Source) (answer : Option ℕ) (found : Bool) (place place' : ℕ) (w v : LineWriter X) →
    IsGiven (Wrote told calls) (λ n s. ComesFrom from (mark_of from.plan n) n s) answer found place place' w v →
    (v.out.ghost_name ≡ w.out.ghost_name) × IsShown from answer found (calls w.out.now) (calls v.out.now) (told w.out.now) (told v.out.now) × (place' ≡ place_after place answer)
shown_of told calls from (Some n) found place place' w v h =
    let s = h.2.0 in
    let got = h.2.1.1 in
    (got.0, (h.0, got.2, (line n s ++ 10 ∷ [], ((s, (h.2.1.0, refl)), got.1))), h.1)
shown_of {X} told calls from None found place place' w v h =
    (ap (λ (x : LineWriter X). x.out.ghost_name) h.2, (h.0, ap (λ (x : LineWriter X). calls x.out.now) h.2, ap (λ (x : LineWriter X). told x.out.now) h.2), h.1)

-- the answer by what was found
pub found_is : (from : Source) (answer : Option ℕ) (found : Bool) (place place' writes writes' : ℕ) (before after : Option (List ℕ)) → IsShown from answer found writes writes' before after → place' ≡ place_after place answer → found_at found place' ≡ answer
found_is from (Some n) found place place' writes writes' before after h at = ap (λ (b : Bool). found_at b place') h.0 ∙ ap Some at
found_is from None found place place' writes writes' before after h at = ap (λ (b : Bool). found_at b place') h.0

-- what was written where a place was found, and where none was
pub record Shows (from : Source) (answer : Option ℕ) (writes writes' : ℕ) (before after : Option (List ℕ)) : Type 0 where
  pub text : List ℕ
  pub says : IsTextOf from answer text
  pub wrote : writes' ≡ raised writes 1
  pub told : Tells before after (λ x y. y ≡ x ++ text)

pub shown_some : (from : Source) (answer : Option ℕ) (found : Bool) (writes writes' : ℕ) (before after : Option (List ℕ)) → IsShown from answer found writes writes' before after → found ≡ true → Shows from answer writes writes' before after
shown_some from (Some n) found writes writes' before after h is = record { text = h.2.0; says = h.2.1.0; wrote = h.1; told = h.2.1.1 }
shown_some from None found writes writes' before after h is = absurd (true≢false (sym is ∙ h.0))

pub shown_none : (from : Source) (answer : Option ℕ) (found : Bool) (writes writes' : ℕ) (before after : Option (List ℕ)) → IsShown from answer found writes writes' before after → found ≡ false →
    (answer ≡ None) × (writes' ≡ writes) × (after ≡ before)
shown_none from (Some n) found writes writes' before after h is = absurd (true≢false (sym h.0 ∙ is))
shown_none from None found writes writes' before after h is = (refl, h.1, h.2)

-- the writer has the sink that it had
pub same_names : {X : Type 0} (told : X → Option (List ℕ)) (calls : X → ℕ) (from : Source) (place : ℕ) (order : Order) (place' : ℕ) (r : Result Bool RunFault) (w v : LineWriter X) →
    IfOk r (λ found. (answer : Option ℕ) × (IsAnswerSeen from place order answer × IsGiven (Wrote told calls) (λ n s. ComesFrom from (mark_of from.plan n) n s) answer found place place' w v)) →
    (r ≡ Err Visitor → v.out.ghost_name ≡ w.out.ghost_name) → OnErr r (r ≢ Err Visitor → v ≡ w) → v.out.ghost_name ≡ w.out.ghost_name
same_names told calls from place order place' (Ok found) w v seen missed unseen = (shown_of told calls from seen.0 found place place' w v seen.1.1).0
same_names {X} told calls from place order place' (Err (Keeper k)) w v seen missed unseen = ap (λ (x : LineWriter X). x.out.ghost_name) (unseen (λ e. cc))
same_names {X} told calls from place order place' (Err (Damaged k put got)) w v seen missed unseen = ap (λ (x : LineWriter X). x.out.ghost_name) (unseen (λ e. cc))
same_names told calls from place order place' (Err Visitor) w v seen missed unseen = missed refl
same_names {X} told calls from place order place' (Err Memory) w v seen missed unseen = ap (λ (x : LineWriter X). x.out.ghost_name) (unseen (λ e. cc))
same_names {X} told calls from place order place' (Err Ended) w v seen missed unseen = ap (λ (x : LineWriter X). x.out.ghost_name) (unseen (λ e. cc))

-- a console that had not ended doesn't say so
pub not_over : {T : Type 0} (r : Result T RunFault) {ended : Bool} → (IsErrOf r Ended → ended ≡ true) → ended ≡ false → r ≡ Err Ended → ⊥
not_over (Err Ended) over lasts e = true≢false (sym (over refl) ∙ lasts)
not_over r over lasts e = absurd cc

-- a script that was answered leaves all counts of faults
stop_not : (r : Result Unit Stop) (x : Unit) (k : ℕ) → r ≡ Ok x → fault_of r ≡ Err (Keeper k) → ⊥
stop_not (Ok y) x k is e = absurd cc
stop_not (Err stop) x k is e = absurd cc

pub still_by : {K : Type 0} (seen : Ghosts K) (T : ℕ → Type 0) (r : Result Unit Stop) (x : Unit) (ks ls : List K) → r ≡ Ok x → KeepersAre seen T (fault_of r) ks ls → (k : ℕ) → by_number 0 seen.fault_count ls k ≡ by_number 0 seen.fault_count ks k
still_by seen T r x ks ls is are k = are.quiet k (λ e. stop_not r x k is e)

-- what a call says at Ok
pub if_ok_at : {T E : Type 0} (P : T → Type 0) (r : Result T E) (x : T) → r ≡ Ok x → IfOk r P → P x
if_ok_at {T} {E} P r x is h = let Q : Result T E → Type 0 = λ s. IfOk s P in subst Q is h

pub same_err : {T E : Type 0} (r : Result T E) (x y : E) → r ≡ Err x → r ≡ Err y → x ≡ y
same_err r x y first second = cc

-- ---- one order after another

pub answered_none : (from : Source) (m : Moment) → AreAnswered from [] [] [] m m
answered_none from m = (refl, refl, refl)

pub answered_more : (from : Source) (orders : List Order) (answers : List (Option ℕ)) (text : List ℕ) (old mid new : Moment) (order : Order) (answer : Option ℕ) (piece : List ℕ) → AreAnswered from orders answers text old mid →
    IsAnswered from order answer piece mid new → AreAnswered from (orders ++ order ∷ []) (answers ++ answer ∷ []) (text ++ piece) old new
answered_more from [] answers text old mid new order answer piece are one =
    let P : Moment → Type 0 = λ m. IsAnswered from order answer piece m new in
    record {
      answer = answer;
      rest = [];
      front = piece;
      back = [];
      mid = new;
      answers_are = ap (λ (l : List (Option ℕ)). l ++ answer ∷ []) are.0;
      text_is = ap (λ (t : List ℕ). t ++ piece) are.1 ∙ sym (append-nil piece);
      first = subst P are.2 one;
      others = (refl, refl, refl);
    }
answered_more from (o ∷ orders) answers text old mid new order answer piece are one = record {
  answer = are.answer;
  rest = are.rest ++ answer ∷ [];
  front = are.front;
  back = are.back ++ piece;
  mid = are.mid;
  answers_are = ap (λ (l : List (Option ℕ)). l ++ answer ∷ []) are.answers_are;
  text_is = ap (λ (t : List ℕ). t ++ piece) are.text_is ∙ append_assoc are.front are.back piece;
  first = are.first;
  others = answered_more from orders are.rest are.back are.mid mid new order answer piece are.others one;
}

-- where the sink failed, and where it didn't
pub breaks_of : (from : Source) (order : Order) (fault : RunFault) (text : List ℕ) (old new : Moment) (a b c : Option (List ℕ)) → Tells a b (λ x y. y ≡ x ++ text) →
    (fault ≡ Visitor → MissesText from order old new b c) → (fault ≢ Visitor → (c ≡ b) × (new.writes ≡ old.writes)) → fault ≢ Ended → TookUntil from old.place order fault old.steps new.steps old.calls new.calls → BreaksOff from order fault text old new a c
breaks_of from order (Keeper k) text old new a b c h missed same lasts took =
    let s = same (λ e. cc) in
    record { stops = took; none = s.1; written = subst (λ (o : Option (List ℕ)). Tells a o (λ x y. y ≡ x ++ text)) (sym s.0) h }
breaks_of from order (Damaged k put got) text old new a b c h missed same lasts took =
    let s = same (λ e. cc) in
    record { stops = took; none = s.1; written = subst (λ (o : Option (List ℕ)). Tells a o (λ x y. y ≡ x ++ text)) (sym s.0) h }
breaks_of from order Visitor text old new a b c h missed same lasts took =
    let m = missed refl in
    record { answer = m.answer; piece = m.piece; seen = m.seen; says = m.says; takes = m.takes; wrote = m.wrote; part = tells_part text m.piece a b c h m.part }
breaks_of from order Memory text old new a b c h missed same lasts took =
    let s = same (λ e. cc) in
    record { stops = took; none = s.1; written = subst (λ (o : Option (List ℕ)). Tells a o (λ x y. y ≡ x ++ text)) (sym s.0) h }
breaks_of from order Ended text old new a b c h missed same lasts took = absurd (lasts refl)

-- ---- a console that went on

-- what is seen later was seen before
module _ (old new : ConsoleState) (told told' : ℕ → Option Images) (goes : GoesOn old new) (same : (k : ℕ) → told' k ≡ told k) where
  -- the later source, in the parts of the one before
  abbrev later : Source
  later = record { plan = old.plan; journal = old.journal; levels = record { store = old.store; told = told' }; machine = new.work }

  later_is : source_of new told' ≡ later
  later_is =
      ap (λ (p : MarkPlan). let s : Source = record { plan = p; journal = new.journal; levels = record { store = new.store; told = told' }; machine = new.work } in s) goes.plan
      ∙ ap (λ (j : List (List ℕ)). let s : Source = record { plan = old.plan; journal = j; levels = record { store = new.store; told = told' }; machine = new.work } in s) goes.journal
      ∙ ap (λ (l : List ShelfState). let s : Source = record { plan = old.plan; journal = old.journal; levels = record { store = l; told = told' }; machine = new.work } in s) goes.store

  comes_there : (i n : ℕ) (s : MachineState) → ComesFrom later i n s → ComesFrom (source_of old told) i n s
  comes_there i n s = comes_back old.plan old.journal old.store told told' old.work new.work same goes.machine i n s

  pub seen_there : (place : ℕ) (order : Order) (answer : Option ℕ) → IsAnswerSeen (source_of new told') place order answer → IsAnswerSeen (source_of old told) place order answer
  seen_there place order answer h =
      answer_back old.plan old.journal old.store told told' old.work new.work same goes.machine place order answer (subst (λ (s : Source). IsAnswerSeen s place order answer) later_is h)

  text_by : (answer : Option ℕ) (text : List ℕ) → IsTextOf later answer text → IsTextOf (source_of old told) answer text
  text_by (Some n) text h = (h.0, (comes_there (mark_of old.plan n) n h.0 h.1.0, h.1.1))
  text_by None text h = h

  pub text_there : (answer : Option ℕ) (text : List ℕ) → IsTextOf (source_of new told') answer text → IsTextOf (source_of old told) answer text
  text_there answer text h = text_by answer text (subst (λ (s : Source). IsTextOf s answer text) later_is h)

  at_there : (place : ℕ) (order : Order) (mark : ℕ) (effort : Effort) → BreaksAt (IsSeenAt later place order) old.plan place order mark effort → BreaksAt (IsSeenAt (source_of old told) place order) old.plan place order mark effort
  at_there place order mark effort (inl looking) = inl looking
  at_there place order mark effort (inr going) = inr (going.0, (answer_back old.plan old.journal old.store told told' old.work new.work same goes.machine place order (Some going.0) going.1.0, going.1.1))

  stops_by : (place : ℕ) (order : Order) (fault : RunFault) (steps steps' : ℕ) (calls calls' : Calls) → StopsAt later place order fault steps steps' calls calls' → StopsAt (source_of old told) place order fault steps steps' calls calls'
  stops_by place order fault steps steps' calls calls' s = record {
    mark = s.mark;
    effort = s.effort;
    at = at_there place order s.mark s.effort s.at;
    not_got = not_got_back old.plan old.journal old.store told told' old.work new.work same goes.machine s.mark fault s.not_got;
    takes = s.takes;
  }

  took_by : (place : ℕ) (order : Order) (fault : RunFault) (steps steps' : ℕ) (calls calls' : Calls) → TookUntil later place order fault steps steps' calls calls' → TookUntil (source_of old told) place order fault steps steps' calls calls'
  took_by place order (Keeper k) steps steps' calls calls' s = stops_by place order (Keeper k) steps steps' calls calls' s
  took_by place order (Damaged k put got) steps steps' calls calls' s = stops_by place order (Damaged k put got) steps steps' calls calls' s
  took_by place order Visitor steps steps' calls calls' s = tt
  took_by place order Memory steps steps' calls calls' s = stops_by place order Memory steps steps' calls calls' s
  took_by place order Ended steps steps' calls calls' s = s

  pub took_there : (place : ℕ) (order : Order) (fault : RunFault) (steps steps' : ℕ) (calls calls' : Calls) → TookUntil (source_of new told') place order fault steps steps' calls calls' → TookUntil (source_of old told) place order fault steps steps' calls calls'
  took_there place order fault steps steps' calls calls' h =
      took_by place order fault steps steps' calls calls' (subst (λ (s : Source). TookUntil s place order fault steps steps' calls calls') later_is h)

  pub takes_there : (place : ℕ) (order : Order) (answer : Option ℕ) (steps steps' : ℕ) (calls calls' : Calls) → Takes new.plan (effort_of new.plan place order answer) steps steps' calls calls' → Takes old.plan (effort_of old.plan place order answer) steps steps' calls calls'
  takes_there place order answer steps steps' calls calls' h = subst (λ (p : MarkPlan). Takes p (effort_of p place order answer) steps steps' calls calls') goes.plan h

  pub answered_there : (order : Order) (answer : Option ℕ) (text : List ℕ) (a b : Moment) → IsAnswered (source_of new told') order answer text a b → IsAnswered (source_of old told) order answer text a b
  answered_there order answer text a b one = record {
    seen = seen_there a.place order answer one.seen;
    place = one.place;
    says = text_there answer text one.says;
    takes = takes_there a.place order answer a.steps b.steps a.calls b.calls one.takes;
    wrote = one.wrote;
  }

  pub missed_there : (order : Order) (a b : Moment) (before after : Option (List ℕ)) → MissesText (source_of new told') order a b before after → MissesText (source_of old told) order a b before after
  missed_there order a b before after m = record {
    answer = m.answer;
    piece = m.piece;
    seen = seen_there a.place order m.answer m.seen;
    says = text_there m.answer m.piece m.says;
    wrote = m.wrote;
    part = m.part;
    takes = takes_there a.place order m.answer a.steps b.steps a.calls b.calls m.takes;
  }

  -- it stands where it stood
  pub stands_there : (first : MachineState) → Stands first old told → Stands first new told'
  stands_there first stands =
      let at = stand_same first old.journal old.plan (mark_count old.plan) old.store new.store told told' goes.store same stands.levels in
      record {
        machine = goes.machine ∙ stands.machine;
        levels = subst (λ (j : List (List ℕ)). StandAt first j new.plan (mark_count new.plan) new.store told') (sym goes.journal) (subst (λ (p : MarkPlan). StandAt first old.journal p (mark_count p) new.store told') (sym goes.plan) at);
      }

-- it goes on from where it went
pub goes_then : (a b c : ConsoleState) → GoesOn a b → GoesOn b c → GoesOn a c
goes_then a b c first second = record {
  machine = second.machine ∙ first.machine;
  plan = second.plan ∙ first.plan;
  store = second.store ∙ first.store;
  journal = second.journal ∙ first.journal;
}

-- ---- in a run

module _ (first : MachineState) (from : Source) (states : (i n : ℕ) (s : MachineState) → ComesFrom from i n s → s ≡ state_number first from.journal n)
    (sees : (place : ℕ) (order : Order) (answer : Option ℕ) → IsAnswerSeen from place order answer → IsAnswer first from.journal from.plan.count place order answer) where
  pub text_in_run : (answer : Option ℕ) (text : List ℕ) → IsTextOf from answer text → text ≡ answer_text first from.journal answer
  text_in_run (Some n) text h = h.1.1 ∙ ap (λ (s : MachineState). line n s ++ 10 ∷ []) (states (mark_of from.plan n) n h.0 h.1.0)
  text_in_run None text h = h

  pub in_run : (orders : List Order) (answers : List (Option ℕ)) (text : List ℕ) (old new : Moment) → AreAnswered from orders answers text old new →
      AreAnswers first from.journal from.plan.count old.place orders answers new.place × (text ≡ script_text first from.journal answers)
  in_run [] answers text old new are = ((are.0, ap (λ (m : Moment). m.place) are.2), are.1 ∙ sym (ap (script_text first from.journal) are.0))
  in_run (order ∷ orders) answers text old new are =
      let rest = in_run orders are.rest are.back are.mid new are.others in
      let P : ℕ → Type 0 = λ p. AreAnswers first from.journal from.plan.count p orders are.rest new.place in (
        (are.answer, (are.rest, (are.answers_are, sees old.place order are.answer are.first.seen, subst P are.first.place rest.0))),
        are.text_is
            ∙ ap (λ (t : List ℕ). t ++ are.back) (text_in_run are.answer are.front are.first.says)
            ∙ ap (λ (t : List ℕ). answer_text first from.journal are.answer ++ t) rest.1
            ∙ sym (ap (script_text first from.journal) are.answers_are),
      )

  pub breaks_in_run : (order : Order) (fault : RunFault) (text : List ℕ) (old new : Moment) (answers : List (Option ℕ)) (a c : Option (List ℕ)) → text ≡ script_text first from.journal answers →
      BreaksOff from order fault text old new a c → BreaksOffIn first from.journal from.plan.count old.place order fault answers a c
  breaks_in_run order (Keeper k) text old new answers a c is h = subst (λ (t : List ℕ). Tells a c (λ x y. y ≡ x ++ t)) is h.written
  breaks_in_run order (Damaged k put got) text old new answers a c is h = subst (λ (t : List ℕ). Tells a c (λ x y. y ≡ x ++ t)) is h.written
  breaks_in_run order Visitor text old new answers a c is h =
      let T : List ℕ → Type 0 = λ t. Tells a c (λ x y. AddsPrefix h.piece (x ++ t) y) in
      let Q : List ℕ → Type 0 = λ t. Tells a c (λ x y. AddsPrefix t (x ++ script_text first from.journal answers) y) in
      (h.answer, (sees old.place order h.answer h.seen, subst Q (text_in_run h.answer h.piece h.says) (subst T is h.part)))
  breaks_in_run order Memory text old new answers a c is h = subst (λ (t : List ℕ). Tells a c (λ x y. y ≡ x ++ t)) is h.written
  breaks_in_run order Ended text old new answers a c is h = subst (λ (t : List ℕ). Tells a c (λ x y. y ≡ x ++ t)) is h.written
