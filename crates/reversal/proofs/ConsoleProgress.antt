-- What was done of a run that is moved about in: its marks are set, and then each order is two deeds.
use Rattle.std.proofs.Common.{◌≡◌, ◌≢◌, inl, inr, ℕ, zero, suc, ◌+◌, ◌-◌, ◌*◌, ◌/◌, ◌<◌, ◌≤◌, List, [], ◌∷◌, ◌++◌, length, take, append-nil, append_assoc, length-append, Option, None, Some, refl, sym, ◌∙◌, ap, subst, arith, slice_get}
use Rattle.std.proofs.lemmas.Grind.{flat_map-append}
use Rattle.std.proofs.lemmas.Option.{none-some, same_Some}
use Rattle.keepers.specs.Counts.{raised, Rose}
use Rattle.keepers.specs.Claims.{Tells}
use Rattle.rv_machine.specs.MachineState.{MachineState}
use Rattle.rv_machine.specs.States.{state_number}
use Rattle.reverse_runner.specs.declared.fault.RunFault.{RunFault}
use Rattle.reverse_runner.specs.declared.fault.RunFault.TheVariants as fault_is
use Rattle.reverse_runner.specs.KeepersSeen.{Calls, Called, CalledAtMost}
use Rattle.reverse_runner.proofs.AllCalls.{at_most}
use Rattle.reverse_console.specs.declared.order.Order.{Order}
use Rattle.reverse_console.specs.Answer.{IsAnswer}
use Rattle.reverse_console.specs.Costs.{Effort, puts_of, StopsPutting, gets_of, effort_of, Takes, BreaksAt, StopsAt}
use Rattle.reverse_console.specs.Marks.{MarkPlan, marked, mark_count, mark_level}
use Rattle.reverse_console.specs.Refusals.{IsOfPutting}
use Rattle.reverse_console.specs.ScriptAnswers.{Moment as Between, place_after, AreAnswered, AreWritten, StopsWriting, StopsGetting, IsBrokenOff}
use Rattle.reverse_console.specs.StateSources.{Source, ComesFrom, IsAnswerSeen, IsMarkDamaged}
use Rattle.reverse_console.specs.MarksOfRun.{MarksTell}
use Rattle.reverse_console.proofs.OrderCosts.{last_asked, level_asked}
use Rattle.reverse_console.proofs.Numbers.{first_known}
use Rattle.reverse_console.proofs.MarkPuts.{some_place}
use Rattle.reverse_console.proofs.Scripts.{text_in_run}
use Rattle.endings.specs.Outcomes.{no_memory, done, stopped, keeper_failed, damaged}
use Rattle.reversal.specs.Output.{Adds}
use Rattle.reversal.specs.Moment.{Moment, AllTell, NothingFails, SinkFails, KeeperFails}
use Rattle.reversal.specs.Deeds.{Deed, CallsLevel, writing, bytes_of, bytes_written, writes_made, steps_made, calls_made, Did}
use Rattle.reversal.specs.Course.{Shown, Course, AddsAndPart, DidUntil, BreaksOff}
use Rattle.reversal.specs.CommandConsole.{setting_marks, moving, Words, AreOfOrders, by_marks, of_run, IsOfMarks, WentAbout, AnyMark, console_course}
use Rattle.reversal.specs.JobModel.{WorksBy, fault_ending}
use Rattle.reversal.proofs.DeedSequences.{raised_none, raised_then, did_none, did_then, did_one, broke_off_spending, failed_at, damaged_at, halted_at}
use Rattle.reversal.proofs.Pieces.{not_called}
use Rattle.reversal.proofs.Progress.{other_keeper}

-- ---- orders that were answered

-- what the counts are between two orders, where nothing is told
abbrev pub seen : Between → Moment
seen m = record { told = None; writes = m.writes; faults = 0; steps = m.steps; calls = m.calls; images = λ k. None; keeper_faults = λ k. 0 }

-- a move was made: just its marks were got and its steps were taken
went_by : (p : MarkPlan) (effort : Effort) (a b : Moment) → a.told ≡ None → b.told ≡ None → b.writes ≡ a.writes → Takes p effort a.steps b.steps a.calls b.calls → Did (moving p effort ∷ []) a b
went_by p effort a b mute muted still takes =
    let T : Option (List ℕ) → Type 0 = λ o. Tells o b.told (Adds []) in
    let U : Option (List ℕ) → Type 0 = λ o. Tells None o (Adds []) in
    did_one (moving p effort) a b [] 0 refl refl (subst T (sym mute) (subst U (sym muted) tt)) (still ∙ raised_none a.writes) takes.counted takes.called

-- some orders were answered, with this text, by these deeds, and others may follow
record Finished (from : Source) (Broken : ℕ → Type 0) (orders : List Order) (text : List ℕ) (old new : Between) : Type 0 where
  deeds : List Deed
  behind : (rest : List Order) (more : List Deed) → AreOfOrders from.plan (by_marks from Broken) rest new.place more →
      AreOfOrders from.plan (by_marks from Broken) (orders ++ rest) old.place (deeds ++ more)
  two_each : length deeds ≡ 2 * length orders
  bytes : bytes_written deeds ≡ text
  did : Did deeds (seen old) (seen new)

finished : (from : Source) (Broken : ℕ → Type 0) (orders : List Order) (answers : List (Option ℕ)) (text : List ℕ) (old new : Between) → AreAnswered from orders answers text old new → Finished from Broken orders text old new
finished from Broken [] answers text old new are = record {
  deeds = [];
  behind = λ rest more follows. (let P : Between → Type 0 = λ m. AreOfOrders from.plan (by_marks from Broken) rest m.place more in subst P are.2 follows);
  two_each = refl;
  bytes = sym are.1;
  did = did_none (seen old) (seen new) refl (ap (λ (m : Between). m.writes) are.2) (ap (λ (m : Between). m.steps) are.2) (ap (λ (m : Between). m.calls) are.2);
}
finished from Broken (order ∷ orders) answers text old new are =
    let p = from.plan in
    let one = are.first in
    let move = moving p (effort_of p old.place order are.answer) in
    let more = finished from Broken orders are.rest are.back are.mid new are.others in
    let there : Moment = record { told = None; writes = old.writes; faults = 0; steps = are.mid.steps; calls = are.mid.calls; images = λ k. None; keeper_faults = λ k. 0 } in
    let write = writing (are.front ∷ []) in
    let went = went_by p (effort_of p old.place order are.answer) (seen old) there refl refl refl one.takes in
    let wrote = did_one write there (seen are.mid) are.front 1 (append-nil are.front) refl tt one.wrote (omega arith) (not_called are.mid.calls) in
    record {
      deeds = move ∷ write ∷ more.deeds;
      behind = λ rest ds follows. inr (inr (record {
        answer = are.answer;
        text = are.front;
        is = one.seen;
        says = one.says;
        rest = more.deeds ++ ds;
        deeds_are = refl;
        others = subst (λ (q : ℕ). AreOfOrders p (by_marks from Broken) (orders ++ rest) q (more.deeds ++ ds)) one.place (more.behind rest ds follows);
      }));
      two_each = let two = more.two_each in omega (arith, two);
      bytes =
          ap (λ (l : List ℕ). l ++ bytes_written more.deeds) (append-nil are.front)
          ∙ ap (λ (l : List ℕ). are.front ++ l) more.bytes
          ∙ sym are.text_is;
      did = did_then (move ∷ write ∷ []) more.deeds (seen old) (seen are.mid) (seen new) (did_then (move ∷ []) (write ∷ []) (seen old) there (seen are.mid) went wrote) more.did;
    }

-- no deeds are of any orders
none_of : (p : MarkPlan) (words : Words) (orders : List Order) (place : ℕ) → AreOfOrders p words orders place []
none_of p words [] place = refl
none_of p words (order ∷ orders) place = inl refl

-- what is so in some words is so in others
module _ (p : MarkPlan) (words also : Words) (answers : (place : ℕ) (order : Order) (answer : Option ℕ) → words.answer place order answer → also.answer place order answer)
    (texts : (answer : Option ℕ) (text : List ℕ) → words.text answer text → also.text answer text) (breaks : (mark : ℕ) → words.broken mark → also.broken mark) where
  at_also : (place : ℕ) (order : Order) (mark : ℕ) (effort : Effort) → BreaksAt (λ n. words.answer place order (Some n)) p place order mark effort → BreaksAt (λ n. also.answer place order (Some n)) p place order mark effort
  at_also place order mark effort (inl looking) = inl looking
  at_also place order mark effort (inr going) = inr (going.0, (answers place order (Some going.0) going.1.0, going.1.1))

  also_so : (orders : List Order) (place : ℕ) (deeds : List Deed) → AreOfOrders p words orders place deeds → AreOfOrders p also orders place deeds
  also_so [] place deeds h = h
  also_so (order ∷ orders) place deeds (inl none) = inl none
  also_so (order ∷ orders) place deeds (inr (inl b)) =
      inr (inl (record { mark = b.mark; effort = b.effort; at = at_also place order b.mark b.effort b.at; broken = breaks b.mark b.broken; deeds_are = b.deeds_are }))
  also_so (order ∷ orders) place deeds (inr (inr a)) = inr (inr (record {
    answer = a.answer;
    text = a.text;
    is = answers place order a.answer a.is;
    says = texts a.answer a.text a.says;
    rest = a.rest;
    deeds_are = a.deeds_are;
    others = also_so orders (place_after place a.answer) a.rest a.others;
  }))

-- ---- the ends of lists

get_end : {X : Type 0} (xs ys : List X) (y : X) → slice_get (xs ++ y ∷ ys) (length xs) ≡ Some y
get_end [] ys y = refl
get_end (x ∷ xs) ys y = get_end xs ys y

take_end : {X : Type 0} (xs ys : List X) → take (length xs) (xs ++ ys) ≡ xs
take_end [] ys = refl
take_end (x ∷ xs) ys = ap (λ l. x ∷ l) (take_end xs ys)

-- a list around one of its places
parted : {X : Type 0} (xs : List X) (i : ℕ) (x : X) → slice_get xs i ≡ Some x → (rest : List X) × ((xs ≡ take i xs ++ x ∷ rest) × (length (take i xs) ≡ i))
parted [] i x e = absurd (none-some x e)
parted (y ∷ ys) zero x e = (ys, (ap (λ z. z ∷ ys) (same_Some y x e), refl))
parted (y ∷ ys) (suc i) x e =
    let more = parted ys i x e in
    (more.0, (ap (λ l. y ∷ l) more.1.0, ap (λ n. suc n) more.1.1))

-- what deeds write, and then one that writes nothing
silent_end : (ds : List Deed) (d : Deed) → d.pieces ≡ [] → bytes_written (ds ++ d ∷ []) ≡ bytes_written ds
silent_end ds d silent =
    flat_map-append (λ (e : Deed). bytes_of e.pieces) ds (d ∷ [])
    ∙ ap (λ (l : List (List ℕ)). bytes_written ds ++ (bytes_of l ++ [])) silent
    ∙ append-nil (bytes_written ds)

-- ---- how it ends

module _ (first : MachineState) (items : List (List ℕ)) (p : MarkPlan) (orders : List Order) where
  abbrev course : Course
  course = console_course first items p orders

  abbrev by : List Deed → Shown
  by ds = record { states = λ n. first; answer = None; orders = ds }

  -- ---- the marks weren't set

  module _ (a c : Moment) (told : c.told ≡ a.told) (writes : c.writes ≡ a.writes) (least : a.steps ≤ c.steps) (most : c.steps ≤ a.steps + marked p (mark_count p - 1))
      (called : CalledAtMost (puts_of p (mark_count p)) a.calls c.calls) (faults : c.faults ≡ a.faults) where
    unset : (breaks : BreaksOff (course.deeds (by [])) 0 a c) × (breaks.next ≡ setting_marks p)
    unset = broke_off_spending (setting_marks p ∷ []) 0 (setting_marks p) a a c refl (did_none a a refl refl refl refl) told writes least most called

    put_on : (i k : ℕ) → i < mark_count p → k ≡ mark_level p i → CallsLevel (setting_marks p) k
    put_on i k known at = let some = some_place (mark_level p) k i (mark_count p) known (sym at) in omega (arith, some)

    pub marks_refused : (fault : RunFault) → IsOfPutting p fault → ((k : ℕ) → fault ≡ fault_is.Keeper k → Rose (a.keeper_faults k) (c.keeper_faults k)) →
        ((j : ℕ) → fault ≢ fault_is.Keeper j → c.keeper_faults j ≡ a.keeper_faults j) → ((k : ℕ) → fault ≡ fault_is.Keeper k → StopsPutting p k a.steps c.steps a.calls c.calls) →
        WorksBy course (fault_ending 0 fault) a c
    marks_refused (fault_is.Keeper k) of rose quiet stopped =
        let calls = put_on of.0 k of.1.0 of.1.1 in
        inl (
          by [],
          (
            tt,
            inr (inr (inl (
              0,
              k,
              refl,
              failed_at course (by []) 0 (setting_marks p) a c unset k calls (λ none. absurd (omega (arith, none))) (λ none. stopped k refl)
                  (record { sink = faults; keeper = rose k refl; others = λ j ne. quiet j (other_keeper k j ne) }),
            ))),
          ),
        )
    marks_refused (fault_is.Damaged k put got) of rose quiet stopped = absurd of
    marks_refused fault_is.Visitor of rose quiet stopped = absurd of
    marks_refused fault_is.Memory of rose quiet stopped =
        let calls = put_on 0 (mark_level p 0) (first_known p) refl in
        inr (refl, (by [], (tt, (0, halted_at course (by []) 0 (setting_marks p) a c unset (mark_level p 0, calls) (λ none. absurd (omega (arith, none))) (record { sink = faults; keepers = λ j. quiet j (λ e. cc) })))))
    marks_refused fault_is.Ended of rose quiet stopped = absurd of

  -- ---- they were set, and the orders came

  module _ (from : Source) (a c : Moment) (start end steps : ℕ) (calls : Calls) (is : IsOfMarks first items p c.images from) (at_start : start ≡ 0)
      (counted : steps ≡ a.steps + marked p (mark_count p - 1)) (called : Called (puts_of p (mark_count p)) a.calls calls)
      (states : MarksTell p a.images → (i n : ℕ) (s : MachineState) → ComesFrom from i n s → s ≡ state_number first from.journal n)
      (sees : MarksTell p a.images → (place : ℕ) (order : Order) (answer : Option ℕ) → IsAnswerSeen from place order answer → IsAnswer first from.journal from.plan.count place order answer) where
    abbrev before : Between
    before = record { place = start; steps = steps; calls = calls; writes = a.writes }

    abbrev after : Between
    after = record { place = end; steps = c.steps; calls = c.calls; writes = c.writes }

    -- what is told isn't looked at
    abbrev muted : Moment → Moment
    muted m = record { told = None; writes = m.writes; faults = 0; steps = m.steps; calls = m.calls; images = λ k. None; keeper_faults = λ k. 0 }

    went : (Broken : Source → ℕ → Type 0) (ds : List Deed) → AreOfOrders from.plan (by_marks from (Broken from)) orders start ds → Did (setting_marks p ∷ ds) (muted a) (seen after) → WentAbout first items p orders ds Broken a c
    went Broken ds follow did =
        let here = subst (λ (q : ℕ). AreOfOrders from.plan (by_marks from (Broken from)) orders q ds) at_start follow in
        record {
          from = from;
          is = is;
          seen = subst (λ (q : MarkPlan). AreOfOrders q (by_marks from (Broken from)) orders 0 ds) is.plan here;
          in_run = λ tells.
              let so = also_so from.plan (by_marks from (Broken from)) (of_run first from.journal from.plan.count) (sees tells) (text_in_run first from (states tells) (sees tells)) (λ mark b. tt) orders 0 ds here in
              let J : List (List ℕ) → Type 0 = λ j. AreOfOrders from.plan (of_run first j from.plan.count) orders 0 ds in
              let Q : MarkPlan → Type 0 = λ q. AreOfOrders q (of_run first items q.count) orders 0 ds in
              subst Q is.plan (subst J is.journal so);
          counted = did.counted;
          called = did.called;
        }

    set : Did (setting_marks p ∷ []) (muted a) (seen before)
    set = did_one (setting_marks p) (muted a) (seen before) [] 0 refl refl tt (raised_none a.writes) counted called

    -- the marks, and some orders behind them
    set_then : (ds : List Deed) (m : Between) → Did ds (seen before) (seen m) → Did (setting_marks p ∷ ds) (muted a) (seen m)
    set_then ds m did = did_then (setting_marks p ∷ []) ds (muted a) (seen before) (seen m) set did

    -- all were answered
    pub all_answered : AreWritten from orders before after a.told c.told → NothingFails a c → WorksBy course done a c
    all_answered written quiet =
        let f = finished from (AnyMark from) orders written.answers written.text before after written.are in
        let follow = f.behind [] [] refl in
        let O : List Order → Type 0 = λ l. AreOfOrders from.plan (by_marks from (AnyMark from)) l start (f.deeds ++ []) in
        let D : List Deed → Type 0 = λ l. AreOfOrders from.plan (by_marks from (AnyMark from)) orders start l in
        let did = set_then f.deeds after f.did in
        let all = went AnyMark f.deeds (subst D (append-nil f.deeds) (subst O (append-nil orders) follow)) did in
        let T : List ℕ → Type 0 = λ l. Tells a.told c.told (Adds l) in
        let told = subst T (sym f.bytes) written.written in
        inl (
          by f.deeds,
          (
            tt,
            inl (
              refl,
              record {
                did = record { added = told; wrote = did.wrote; counted = did.counted; called = did.called };
                output_whole = told;
                stepped = (let sum = f.did.counted in omega (arith, sum, counted));
                answered = f.two_each;
                held = λ some. all;
                quiet = quiet;
              },
            ),
          ),
        )

    -- ---- one was refused

    module _ (fault : RunFault) (at : ℕ) (broken : IsBrokenOff from orders at fault before after a.told c.told) where
      abbrev i : ℕ
      i = at - 1

      abbrev f : (Broken : ℕ → Type 0) → Finished from Broken (take i orders) broken.text before broken.mid
      f Broken = finished from Broken (take i orders) broken.answers broken.text before broken.mid broken.are

      -- the number of an order, by how many deeds were done before it, or before its text
      numbered : (Broken : ℕ → Type 0) (n : ℕ) → n ≡ suc (length (f Broken).deeds) → at ≡ (n + 1) / 2
      numbered Broken n e =
          let two = (f Broken).two_each in
          let short = (parted orders i broken.order broken.there).1.1 in
          let some = broken.from_one in
          omega (arith, two, short, some, e)

      numbered_written : (Broken : ℕ → Type 0) (n : ℕ) → n ≡ suc (length (f Broken).deeds + 1) → at ≡ (n + 1) / 2
      numbered_written Broken n e =
          let two = (f Broken).two_each in
          let short = (parted orders i broken.order broken.there).1.1 in
          let some = broken.from_one in
          omega (arith, two, short, some, e)

      -- the deeds of an order that was begun, behind those that were finished
      follow : (Broken : ℕ → Type 0) (more : List Deed) → ((rest : List Order) → AreOfOrders from.plan (by_marks from Broken) (broken.order ∷ rest) broken.mid.place more) →
          AreOfOrders from.plan (by_marks from Broken) orders start ((f Broken).deeds ++ more)
      follow Broken more begun =
          let parts = parted orders i broken.order broken.there in
          let O : List Order → Type 0 = λ l. AreOfOrders from.plan (by_marks from Broken) l start ((f Broken).deeds ++ more) in
          subst O (sym parts.1.0) ((f Broken).behind (broken.order ∷ parts.0) more (begun parts.0))

      -- ---- its text could not be written

      module _ (w : StopsWriting from broken.order broken.text broken.mid after a.told c.told) where
        abbrev g : Finished from (AnyMark from) (take i orders) broken.text before broken.mid
        g = f (AnyMark from)

        abbrev move : Deed
        move = moving from.plan (effort_of from.plan broken.mid.place broken.order w.answer)

        abbrev last : Deed
        last = writing (w.piece ∷ [])

        abbrev front : List Deed
        front = setting_marks p ∷ (g.deeds ++ move ∷ [])

        abbrev with_text : List Deed
        with_text = (g.deeds ++ move ∷ []) ++ last ∷ []

        abbrev there_then : Between
        there_then = record { place = broken.mid.place; steps = c.steps; calls = c.calls; writes = broken.mid.writes }

        did_front : Did front (muted a) (seen there_then)
        did_front =
            let one = went_by from.plan (effort_of from.plan broken.mid.place broken.order w.answer) (seen broken.mid) (seen there_then) refl refl refl w.takes in
            did_then (setting_marks p ∷ g.deeds) (move ∷ []) (muted a) (seen broken.mid) (seen there_then) (set_then g.deeds broken.mid g.did) one

        did_all : Did (setting_marks p ∷ with_text) (muted a) (seen after)
        did_all =
            let wrote = did_one last (seen there_then) (seen after) w.piece 1 (append-nil w.piece) refl tt w.wrote (omega arith) (not_called c.calls) in
            did_then front (last ∷ []) (muted a) (seen there_then) (seen after) did_front wrote

        follow_text : AreOfOrders from.plan (by_marks from (AnyMark from)) orders start with_text
        follow_text =
            let O : List Deed → Type 0 = λ l. AreOfOrders from.plan (by_marks from (AnyMark from)) orders start l in
            subst O (sym (append_assoc g.deeds (move ∷ []) (last ∷ [])))
            (follow (AnyMark from) (move ∷ last ∷ []) (λ rest. inr (inr (record {
              answer = w.answer;
              text = w.piece;
              is = w.seen;
              says = w.says;
              rest = [];
              deeds_are = refl;
              others = none_of from.plan (by_marks from (AnyMark from)) rest (place_after broken.mid.place w.answer);
            }))))

        until : DidUntil (setting_marks p ∷ with_text) (length front) a c
        until =
            let is_front = take_end front (last ∷ []) in
            let W : List Deed → Type 0 = λ l. c.writes ≡ raised a.writes (writes_made l + (0 + 1)) in
            let S : List Deed → Type 0 = λ l. c.steps ≡ a.steps + steps_made l in
            let C : List Deed → Type 0 = λ l. Called (calls_made l) a.calls c.calls in
            let T : List ℕ → Type 0 = λ l. Tells a.told c.told (AddsAndPart l w.piece) in
            let bytes : broken.text ≡ bytes_written (take (length front) (front ++ last ∷ [])) ++ [] =
            sym (append-nil (bytes_written (take (length front) (front ++ last ∷ []))) ∙ ap bytes_written is_front ∙ silent_end g.deeds move refl ∙ g.bytes) in
            record {
              deed = last;
              there = get_end front [] last;
              whole = 0;
              piece = w.piece;
              next = refl;
              added = subst T bytes w.part;
              wrote = subst W (sym is_front) (raised_then a.writes broken.mid.writes c.writes (writes_made front) 1 did_front.wrote w.wrote);
              counted = subst S (sym is_front) did_front.counted;
              called = subst C (sym is_front) did_front.called;
            }

        text_refused : SinkFails a c → WorksBy course (stopped at) a c
        text_refused fails =
            let all = went AnyMark with_text follow_text did_all in
            let place = numbered_written (AnyMark from) (length front) (ap (λ n. suc n) (length-append g.deeds (move ∷ []))) in
            inl (by with_text, (tt, inr (inl (length front, ap stopped place, record { until = until; answered = tt; held = λ some. all; fails = fails }))))

      -- ---- a mark could not be got

      module _ (b : StopsGetting from broken.order fault broken.text broken.mid after a.told c.told) where
        abbrev s : StopsAt from broken.mid.place broken.order fault broken.mid.steps c.steps broken.mid.calls c.calls
        s = b.stops

        abbrev begun : Deed
        begun = moving from.plan s.effort

        -- by deeds of which this is said of the mark
        module _ (Broken : Source → ℕ → Type 0) (so : Broken from s.mark) where
          abbrev h : Finished from (Broken from) (take i orders) broken.text before broken.mid
          h = f (Broken from)

          abbrev ahead : List Deed
          ahead = setting_marks p ∷ h.deeds

          abbrev with_move : List Deed
          with_move = h.deeds ++ begun ∷ []

          did_move : Did (setting_marks p ∷ with_move) (muted a) (seen after)
          did_move =
              let one = went_by from.plan s.effort (seen broken.mid) (seen after) refl refl b.none s.takes in
              did_then ahead (begun ∷ []) (muted a) (seen broken.mid) (seen after) (set_then h.deeds broken.mid h.did) one

          all_went : WentAbout first items p orders with_move Broken a c
          all_went =
              went Broken with_move
              (follow (Broken from) (begun ∷ []) (λ rest. inr (inl (record { mark = s.mark; effort = s.effort; at = s.at; broken = so; deeds_are = refl })))) did_move

          broke : (breaks : BreaksOff (setting_marks p ∷ with_move) (length ahead) a c) × (breaks.next ≡ begun)
          broke =
              let is_ahead = take_end ahead (begun ∷ []) in
              let D : List Deed → Type 0 = λ l. Did l (muted a) (seen broken.mid) in
              let counted = s.takes.counted in
              let x = broke_off_spending (ahead ++ begun ∷ []) (length ahead) begun (muted a) (seen broken.mid) (muted c) (get_end ahead [] begun)
              (subst D (sym is_ahead) (set_then h.deeds broken.mid h.did)) refl b.none (omega (arith, counted)) (omega (arith, counted)) (at_most (gets_of from.plan s.effort.marks) broken.mid.calls c.calls s.takes.called) in
              let y = x.0 in
              let T : List ℕ → Type 0 = λ l. Tells a.told c.told (Adds l) in
              let bytes : broken.text ≡ bytes_written (take (length ahead) (ahead ++ begun ∷ [])) = sym (ap bytes_written is_ahead ∙ h.bytes) in
              (record { next = y.next; there = y.there; added = subst T bytes b.written; wrote = y.wrote; steps_least = y.steps_least; steps_most = y.steps_most; called = y.called }, x.1)

          place : at ≡ (length ahead + 1) / 2
          place = numbered (Broken from) (length ahead) refl

        -- the level of the mark is got from
        some_got : (k : ℕ) → k ≡ mark_level from.plan s.mark → 0 < begun.calls.gets k
        some_got k is_level =
            let xs = last_asked (λ n. IsAnswerSeen from broken.mid.place broken.order (Some n)) from.plan broken.mid.place broken.order s.mark s.effort s.at in
            level_asked from.plan xs.0 s.effort.marks s.mark k xs.1 is_level

        some_called : (k : ℕ) → k ≡ mark_level from.plan s.mark → CallsLevel begun k
        some_called k is_level = let got = some_got k is_level in omega (arith, got)

        keeper_refused : (k : ℕ) → k ≡ mark_level from.plan s.mark → KeeperFails k a c → WorksBy course (keeper_failed at k) a c
        keeper_refused k is_level fails =
            let n = length (ahead AnyMark tt) in
            inl (
              by (with_move AnyMark tt),
              (
                tt,
                inr (inr (inl (
                  n,
                  k,
                  ap (λ (m : ℕ). keeper_failed m k) (place AnyMark tt),
                  failed_at course (by (with_move AnyMark tt)) n begun a c (broke AnyMark tt) k (some_called k is_level) (λ more. all_went AnyMark tt) (λ none. absurd (omega (arith, none))) fails,
                ))),
              ),
            )

        damage_refused : (k : ℕ) (put got : List ℕ) → IsMarkDamaged from s.mark k put got → (AllTell (length p.slots) a.images → ⊥) → NothingFails a c → WorksBy course (damaged at k put got) a c
        damage_refused k put got wrong silent quiet =
            let Wrong : Source → ℕ → Type 0 = λ x mark. IsMarkDamaged x mark k put got in
            let n = length (ahead Wrong wrong) in
            let deeds = with_move Wrong wrong in
            let last : length deeds ≡ n = length-append (h Wrong wrong).deeds (begun ∷ []) ∙ omega arith in
            let any = all_went Wrong wrong in
            inl (
              by deeds,
              (
                tt,
                inr (inr (inr (
                  n,
                  k,
                  put,
                  got,
                  ap (λ (m : ℕ). damaged m k put got) (place Wrong wrong),
                  damaged_at course (by deeds) n begun a c (broke Wrong wrong) k put got (some_got k wrong.level) (record { last = last; went = any }) silent
                      (λ more. any_mark Wrong deeds any) quiet,
                ))),
              ),
            )
          where
            any_mark : (Broken : Source → ℕ → Type 0) (ds : List Deed) → WentAbout first items p orders ds Broken a c → WentAbout first items p orders ds AnyMark a c
            any_mark Broken ds x = record {
              from = x.from;
              is = x.is;
              seen = also_so p (by_marks x.from (Broken x.from)) (by_marks x.from (AnyMark x.from)) (λ q o r y. y) (λ r t y. y) (λ m y. tt) orders 0 ds x.seen;
              in_run = x.in_run;
              counted = x.counted;
              called = x.called;
            }

        memory_refused : NothingFails a c → WorksBy course no_memory a c
        memory_refused quiet =
            let n = length (ahead AnyMark tt) in
            let k = mark_level from.plan s.mark in
            inr (
              refl,
              (
                by (with_move AnyMark tt),
                (tt, (n, halted_at course (by (with_move AnyMark tt)) n begun a c (broke AnyMark tt) (k, some_called k refl) (λ more. all_went AnyMark tt) quiet)),
              ),
            )

    -- an order was refused
    module _ (at : ℕ) where
      pub order_refused : (fault : RunFault) → IsBrokenOff from orders at fault before after a.told c.told → fault ≢ fault_is.Ended →
          ((k : ℕ) → fault ≡ fault_is.Keeper k → Rose (a.keeper_faults k) (c.keeper_faults k)) → ((j : ℕ) → fault ≢ fault_is.Keeper j → c.keeper_faults j ≡ a.keeper_faults j) →
          (fault ≡ fault_is.Visitor → Rose a.faults c.faults) → (fault ≢ fault_is.Visitor → c.faults ≡ a.faults) →
          (AllTell (length p.slots) a.images → (k : ℕ) (put got : List ℕ) → fault ≢ fault_is.Damaged k put got) → WorksBy course (fault_ending at fault) a c
      order_refused (fault_is.Keeper k) b lasts keeper keepers out out_quiet never =
          keeper_refused (fault_is.Keeper k) at b b.breaks k b.breaks.stops.not_got (record { sink = out_quiet (λ e. cc); keeper = keeper k refl; others = λ j ne. keepers j (other_keeper k j ne) })
      order_refused (fault_is.Damaged k put got) b lasts keeper keepers out out_quiet never =
          damage_refused (fault_is.Damaged k put got) at b b.breaks k put got b.breaks.stops.not_got (λ tells. never tells k put got refl) (record { sink = out_quiet (λ e. cc); keepers = λ j. keepers j (λ e. cc) })
      order_refused fault_is.Visitor b lasts keeper keepers out out_quiet never =
          text_refused fault_is.Visitor at b b.breaks (record { sink = out refl; keepers = λ j. keepers j (λ e. cc) })
      order_refused fault_is.Memory b lasts keeper keepers out out_quiet never =
          memory_refused fault_is.Memory at b b.breaks (record { sink = out_quiet (λ e. cc); keepers = λ j. keepers j (λ e. cc) })
      order_refused fault_is.Ended b lasts keeper keepers out out_quiet never = absurd (lasts refl)
