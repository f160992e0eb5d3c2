use Rattle.std.proofs.Common.{◌≡◌, ◌∙◌, ℕ, ◌*◌, ◌<◌, List, length, take, slice_get, slice_index_or, Option, Some, Result, Ok, Err, true≢false, refl, sym, ap, subst, arith}
use Rattle.std.proofs.lemmas.Option.{slice_get-get_or}
use Rattle.std.proofs.lemmas.Result.{err_from_is_err_and}
use Rattle.plan_types.specs.declared.action.Action.{Action}
use Rattle.plan_types.specs.declared.action.Action.TheVariants.{Forward}
use Rattle.plan_types.specs.declared.action.Keep.TheVariants.{Nothing}
use Rattle.level_book.specs.declared.book.Slots.{Slots}
use Rattle.level_book.specs.Configuration.{Configuration, start}
use Rattle.schedule_rules.specs.Situation.{Situation}
use Rattle.reverse_runner.specs.declared.fault.RunFault.{RunFault}
use Rattle.reverse_runner.specs.declared.fault.RunFault.TheVariants.{Damaged, Visitor, Ended, Memory}
use Rattle.reverse_runner.specs.KeepersSeen.{calls_to, told_by}
use Rattle.reverse_queries.specs.QuestionEffects.{Performed, FindsLast}
use Rattle.reverse_queries.specs.Queries.{IsLast, up_to}
use Rattle.reverse_queries.specs.FinderModel.{DoesWhatIsAsked, Got}
use Rattle.reverse_queries.proofs.ListPrefixes.{front_past, front_ends}
use Rattle.std.proofs.lemmas.List.{take_all}
use Rattle.rv_machine.specs.States.{state_number}
use Rattle.reverse_runner.specs.SessionState.{holdings_of}
use Rattle.reverse_runner.specs.VisitorCalls.{states_out}
use Rattle.reverse_queries.proofs.TraceSteps.{gone_start, going_on, found_on, got_even, through}
use Rattle.reverse_queries.proofs.FinderProgress.{found_none}
use Rattle.reverse_queries.proofs.FinderSteps.{ran_at}
use Rattle.reverse_queries.proofs.ReversalOrder.{hands_of, left_before, left_at_start, left_at_end}
use Rattle.reverse_queries.proofs.Progress.{way_start, way_on, may_perform, has_room, refused_in, at_end, goes_from, below_levels, same_fault, acts_there, gets_there, run_has, ok_spared}
use Rattle.reverse_queries.proofs.ActionCalls.{fault_fits}
use Rattle.reverse_runner.specs.Rooms.{rooms_by}
use Rattle.reverse_runner.proofs.Rooms.{still_roomy}
use Rattle.reverse_runner.proofs.KeeperFaults.{no_keeper}
use Rattle.reverse_runner.proofs.KeeperCalls.{are_ok, are_err, are_then, are_wider}
use Rattle.reverse_queries.proofs.finding.find_last.Goals as goal

-- the action at a place of the list
at_place : (list : List Action) (i : ℕ) → i < length list → slice_get list i ≡ Some (slice_index_or list i (Forward 0 0 Nothing))
at_place list i within = slice_get-get_or list i (Forward 0 0 Nothing) within

-- the number of the last state is that of the steps
last_is : (last : ℕ) (now was : Situation) (steps : ℕ) (slots : List Slots) → last ≡ now.at.reverse → now ≡ was → was.at ≡ start steps slots → last ≡ steps
last_is last now was steps slots e f at = e ∙ ap (λ (s : Situation). s.at.reverse) f ∙ ap (λ (c : Configuration). c.reverse) at

-- the number of the last state is that of the steps of the machine
last_number : (last unit count units steps : ℕ) → last ≡ unit * count → unit ≡ units → count ≡ steps → last ≡ units * steps
last_number last unit count units steps is one two = is ∙ (λ i. one i * two i)

pub loop-action-init : goal.loop-action-init
loop-action-init g c =
    let old = c.args.session.now in
    let finder = c.new-finder.ensures in
    let at = c.requires.awaits.start in
    let all = left_at_start old.unit old.situation.steps old.situation.slots old.situation.at at in
    record {
      way = way_start _ c.args.list.now c.args.session.now c.args.keepers.now.items c.args.steps.now at c.requires.awaits.lasts;
      asked = record {
        question_is = finder.question;
        word_is = finder.word;
        last_is = last_number c.new-finder.result.last c.unit.result c.reverse.result old.unit old.situation.steps finder.last c.unit.ensures.value (last_is c.reverse.result c.config.result.now old.situation old.situation.steps old.situation.slots c.reverse.ensures c.config.ensures at);
        unanswered = finder.answer;
      };
      going = record {
        gone = gone_start old.unit old.situation.steps old.journal c.args.list.now (holdings_of old (told_by g.K.Storage c.args.keepers.now.items)) old.situation.at;
        unfound = λ states have. record {
          none = λ m from lt does. absurd (omega (arith, from, lt, all));
          later = λ le. absurd (omega (arith, le, all));
        };
        of_run = λ first is i a lt. absurd (omega (arith, lt));
      };
      front = λ n lt. refl;
    }

pub perform-requires-clause-allowed : goal.perform-requires-clause-allowed
perform-requires-clause-allowed g c lasts =
    let so_far = c.loop-action.invariant in
    let old = c.args.session.now in
    let mid = c.loop-action.session in
    let list = c.args.list.now in
    let i = c.loop-action.action-index in
    let a = slice_index_or list i (Forward 0 0 Nothing) in
    let within : i < length list = omega arith in
    let at = at_place list i within in
    may_perform _ list i old mid _ _ _ _ a c.requires.awaits.start c.requires.awaits.valid at so_far.way

pub perform-requires-clause-room : goal.perform-requires-clause-room
perform-requires-clause-room g c lasts =
    let so_far = c.loop-action.invariant in
    let old = c.args.session.now in
    let mid = c.loop-action.session in
    let list = c.args.list.now in
    let i = c.loop-action.action-index in
    let a = slice_index_or list i (Forward 0 0 Nothing) in
    let within : i < length list = omega arith in
    let at = at_place list i within in
    has_room _ list i old mid _ _ _ _ c.requires.awaits.room so_far.way

pub returns-in_err-perform : goal.returns-in_err-perform
returns-in_err-perform g c =
    let so_far = c.loop-action.invariant in
    let way = so_far.way in
    let old = c.args.session.now in
    let mid = c.loop-action.session in
    let list = c.args.list.now in
    let i = c.loop-action.action-index in
    let a = slice_index_or list i (Forward 0 0 Nothing) in
    let within : i < length list = omega arith in
    let at = at_place list i within in
    let p = err_from_is_err_and c.from_residual.result c.from_residual.ensures.1 in
    let same : (f : RunFault) → Err p.0 ≡ Err f → c.perform.result ≡ Err f = λ f e. same_fault {U = Option ℕ} c.perform.result (Err p.0) _ _ f c.in_err-perform.was refl p.2 e in
    let fits = fault_fits (λ action held. ⊥) a _ c.perform.result p.0 (same p.0 refl) c.perform.ensures.caused.named c.perform.ensures.caused.damaged c.perform.ensures.caused.wants
    (λ e. (let rose = c.perform.ensures.seen.faults.cause e in absurd (omega (arith, rose))))
    (λ e. true≢false (sym (c.perform.ensures.ended.0 e) ∙ way.performs.lasts)) in
    let leaves = (c.in_err-perform.ensures.does way.performs.lasts).leaves in
    let rule_is = may_perform _ list i old mid _ _ _ _ a c.requires.awaits.start c.requires.awaits.valid at way in
    let T : ℕ → Type 0 = λ k. k < length old.situation.slots in
    let wide = are_wider g.K.Storage _ T c.perform.result _ _ (below_levels old mid (take i list) a way.performs rule_is) c.perform.ensures.kept in
    let rooms = rooms_by g.K.Storage in
    let R : Result (Option ℕ) RunFault → Type 0 = λ r. FindsLast g.K.Storage (DoesWhatIsAsked c.args.question old.journal c.args.word) r list old c.perform.new.self
    c.args.keepers.now.items c.perform.new.keepers.items c.args.steps.now c.perform.new.steps in
    subst R (sym p.1) (record {
      answer = λ first is stands. tt;
      found = tt;
      performed = tt;
      stays = tt;
      refused = refused_in _ list list i old mid c.perform.new.self _ _ c.perform.new.keepers.items _ _ _ a (λ action held. ⊥) p.0 at refl refl within way so_far.going.gone
          c.in_err-perform.ensures.session.refused leaves.uncounted leaves.called_at_most fits;
      not_visitor = λ e. (let rose = c.perform.ensures.seen.faults.cause (same Visitor e) in absurd (omega (arith, rose)));
      spared = record {
        not_ended = λ e. true≢false (sym (c.perform.ensures.ended.0 (same Ended e)) ∙ way.performs.lasts);
        roomy = λ roomy e.
            c.perform.ensures.spared.roomy
            (still_roomy old.work mid.work old.situation.slots mid.situation.slots (rooms c.args.keepers.now.items) (rooms c.loop-action.keepers.items) way.pages way.performs.slots way.are.rooms roomy) (same Memory e);
        undamaged = λ first is stands k put got e. c.perform.ensures.spared.undamaged first is (way.stands first is stands) k put got (same (Damaged k put got) e);
      };
      kept = are_err g.K.Storage T c.perform.result (Err p.0) _ _ _ _ c.in_err-perform.was refl p.2 (are_then g.K.Storage T (Ok tt) c.perform.result _ _ _ (λ k. no_keeper (Ok tt) tt k refl) way.are wide);
    })

pub returns-in-Some : goal.returns-in-Some
returns-in-Some g c =
    let so_far = c.loop-action.invariant in
    let way = so_far.way in
    let old = c.args.session.now in
    let mid = c.loop-action.session in
    let list = c.args.list.now in
    let i = c.loop-action.action-index in
    let a = slice_index_or list i (Forward 0 0 Nothing) in
    let within : i < length list = omega arith in
    let at = at_place list i within in
    let new = c.perform.new.self in
    let done = c.in_ok-perform.ensures in
    let unit = old.unit in
    let steps = old.situation.steps in
    let slots = old.situation.slots in
    let place = c.in-Some.place in
    let goes = goes_from old mid new (take i list) a way.performs done.session.performs in
    let told = told_by g.K.Storage in
    let held = holdings_of mid (told c.loop-action.keepers.items) in
    let gets = gets_there Got old mid (take i list) a (states_out a mid.work mid.tape.states) c.loop-action.finder c.perform.new.visitor way.performs done.hands.gets in
    let ran = ran_at c.args.question c.args.word unit steps slots old.journal mid.situation.at a new.situation.at held c.loop-action.finder c.perform.new.visitor goes way.turns so_far.asked gets in
    let ends = ran.answered place c.in-Some.is in
    let front = front_ends unit steps place list i a at ends.0 (so_far.front place ends.1) in
    let acts = acts_there old mid (take i list) a _ _ way.performs (done.does way.performs.lasts).acted.acts in
    let even = got_even Got old.journal unit steps a held c.loop-action.finder c.perform.new.visitor gets in
    let on = way_on _ list i old mid new _ _ c.perform.new.keepers.items _ _ _ a c.requires.awaits.start at way (record {
      performs = done.session.performs;
      acts = (done.does way.performs.lasts).acted.acts;
      counted = (done.does way.performs.lasts).acted.counted;
      called = (done.does way.performs.lasts).acted.called;
      are = are_ok g.K.Storage _ c.perform.result _ tt _ _ c.in_ok-perform.was c.perform.ensures.kept;
      stands = done.stays.stands;
      alone = done.stays.alone;
    }) in
    let calls = calls_to g.K.Storage in
    let P : List Action → Type 0 = λ l. Performed old l new c.args.steps.now c.perform.new.steps (calls c.args.keepers.now.items) (calls c.perform.new.keepers.items) in
    let rule_is = may_perform _ list i old mid _ _ _ _ a c.requires.awaits.start c.requires.awaits.valid at way in
    let T : ℕ → Type 0 = λ k. k < length old.situation.slots in
    let wide = are_wider g.K.Storage _ T c.perform.result _ _ (below_levels old mid (take i list) a way.performs rule_is) c.perform.ensures.kept in
    record {
      answer = λ first is stands.
          (let states = state_number first old.journal in
          let has = run_has first old mid (told c.loop-action.keepers.items) (take i list) a new.situation.at c.requires.awaits.start way.performs goes (way.stands first is stands) in
          ends.2 states has (so_far.going.unfound states (so_far.going.of_run first (is, stands))));
      found =
          found_on (λ states. IsLast (DoesWhatIsAsked c.args.question old.journal c.args.word states) (unit * steps) (Some place)) unit steps slots old.journal list (up_to unit steps (Some place) list) i
          (holdings_of old (told c.args.keepers.now.items)) held (holdings_of new (told c.perform.new.keepers.items)) mid.situation.at a new.situation.at (omega (arith, within)) front goes way.turns at acts even so_far.going.gone
          (λ states have all. ends.2 states have (so_far.going.unfound states all));
      performed = subst P (sym front) (record { performs = on.performs; counted = on.counted; called = on.called });
      stays = record { stands = on.stands; alone = on.alone };
      refused = tt;
      not_visitor = λ e. cc;
      spared = ok_spared _ _ _ _;
      kept = are_ok g.K.Storage T c.perform.result _ _ _ _ c.in_ok-perform.was (are_then g.K.Storage T (Ok tt) c.perform.result _ _ _ (λ k. no_keeper (Ok tt) tt k refl) way.are wide);
    }

pub loop-action-preserved : goal.loop-action-preserved
loop-action-preserved g c =
    let so_far = c.loop-action.invariant in
    let old = c.args.session.now in
    let mid = c.loop-action.session in
    let list = c.args.list.now in
    let i = c.loop-action.action-index in
    let a = slice_index_or list i (Forward 0 0 Nothing) in
    let within : i < length list = omega arith in
    let at = at_place list i within in
    let new = c.perform.new.self in
    let done = c.in_ok-perform.ensures in
    let unit = old.unit in
    let steps = old.situation.steps in
    let slots = old.situation.slots in
    let goes = goes_from old mid new (take i list) a so_far.way.performs done.session.performs in
    let held = holdings_of mid (told_by g.K.Storage c.loop-action.keepers.items) in
    let gets = gets_there Got old mid (take i list) a (states_out a mid.work mid.tape.states) c.loop-action.finder c.perform.new.visitor so_far.way.performs done.hands.gets in
    let ran = ran_at c.args.question c.args.word unit steps slots old.journal mid.situation.at a new.situation.at held c.loop-action.finder c.perform.new.visitor goes so_far.way.turns so_far.asked gets in
    let on = way_on _ list i old mid new _ _ c.perform.new.keepers.items _ _ _ a c.requires.awaits.start at so_far.way (record {
      performs = done.session.performs;
      acts = (done.does so_far.way.performs.lasts).acted.acts;
      counted = (done.does so_far.way.performs.lasts).acted.counted;
      called = (done.does so_far.way.performs.lasts).acted.called;
      are = are_ok g.K.Storage _ c.perform.result _ tt _ _ c.in_ok-perform.was c.perform.ensures.kept;
      stands = done.stays.stands;
      alone = done.stays.alone;
    }) in
    let next = ran.unanswered c.in_default.is in
    let told = told_by g.K.Storage in
    let acts = acts_there old mid (take i list) a _ _ so_far.way.performs (done.does so_far.way.performs.lasts).acted.acts in
    let even = got_even Got old.journal unit steps a held c.loop-action.finder c.perform.new.visitor gets in
    record {
      way = on;
      asked = next.0;
      going =
          going_on c.args.question c.args.word unit steps slots old.journal list i (holdings_of old (told c.args.keepers.now.items)) held (holdings_of new (told c.perform.new.keepers.items))
          mid.situation.at a new.situation.at c.loop-action.finder c.perform.new.visitor _ goes so_far.way.turns at acts even next.1
          (λ first is. run_has first old mid (told c.loop-action.keepers.items) (take i list) a new.situation.at c.requires.awaits.start so_far.way.performs goes (so_far.way.stands first is.0 is.1))
          so_far.going;
      front = λ n lt.
          (let before = left_before unit steps mid.situation.at a new.situation.at n (hands_of unit steps slots mid.situation.at a new.situation.at goes so_far.way.turns) lt in
          front_past unit steps n list i a at before.1 (so_far.front n before.0));
    }

pub returns : goal.returns
returns g c =
    let so_far = c.loop-action.invariant in
    let way = so_far.way in
    let old = c.args.session.now in
    let session = c.loop-action.session in
    let list = c.args.list.now in
    let i = c.loop-action.action-index in
    let gone = so_far.going.gone in
    let over = at_end _ list i old session _ _ _ _ c.requires.awaits.start c.requires.awaits.valid (omega arith) way in
    let none = left_at_end old.unit old.situation.steps session.situation.at way.turns over in
    let whole : take i list ≡ list = take_all i list (omega arith) in
    let calls = calls_to g.K.Storage in
    let P : List Action → Type 0 = λ l. Performed old l session c.args.steps.now c.loop-action.steps (calls c.args.keepers.now.items) (calls c.loop-action.keepers.items) in
    record {
      answer = λ first is stands.
          (let states = state_number first old.journal in
          found_none c.args.question states old.journal c.args.word (old.unit * old.situation.steps) _ c.loop-action.finder none (so_far.going.unfound states (so_far.going.of_run first (is, stands))));
      found = record {
        states = gone.states;
        through = through old.unit old.situation.steps old.journal list list i _ _ session.situation.at (omega arith) (sym whole) gone;
        holds = found_none c.args.question gone.states old.journal c.args.word (old.unit * old.situation.steps) _ c.loop-action.finder none (so_far.going.unfound gone.states gone.have);
      };
      performed = subst P whole (record { performs = way.performs; counted = way.counted; called = way.called });
      stays = record { stands = way.stands; alone = way.alone };
      refused = tt;
      not_visitor = λ e. cc;
      spared = ok_spared _ _ _ _;
      kept = are_ok g.K.Storage _ (Ok tt) tt _ _ _ refl way.are;
    }
