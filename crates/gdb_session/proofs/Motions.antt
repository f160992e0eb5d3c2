-- Where a server's moves lead, and what gdb hears of them, also where they are broken off.
use Rattle.std.proofs.Common.{◌≡◌, ℕ, zero, suc, ◌+◌, ◌-◌, ◌≤◌, ◌<◌, Bool, true, List, [], ◌∷◌, ◌++◌, length, take, Option, None, Some, refl, sym, ap, subst, ◌∙◌, arith, append-nil, append_assoc, length-append}
use Rattle.std.proofs.Math.Seq.{take-append-add}
use Rattle.std.specs.List.{flat_map}
use Rattle.keepers.specs.Claims.{Tells}
use Rattle.gdb_line.specs.Talk.{Talk, Goes, GoesPartly}
use Rattle.gdb_wire.specs.Replies.{reply_packet}
use Rattle.gdb_wire.specs.declared.request.Motion.{Motion}
use Rattle.gdb_wire.specs.declared.request.Motion.TheVariants as motion
use Rattle.run_timeline.specs.declared.stops.Hit.{Hit}
use Rattle.run_timeline.specs.declared.stops.Hit.TheVariants.{Break, Watch}
use Rattle.run_timeline.specs.declared.stops.Part.{Part}
use Rattle.run_timeline.specs.declared.stops.Step.{Step}
use Rattle.run_timeline.specs.declared.stops.Step.TheVariants.{Went, Watched, End}
use Rattle.run_timeline.specs.Moves.{Run, StopList, EndsForward, EndsBackward, CameForward, CameBackward, step_ahead, step_behind, steps_of}
use Rattle.run_timeline.specs.MoveParts.{MatchPart}
use Rattle.gdb_session.specs.declared.halt.Halt.{Halt}
use Rattle.gdb_session.specs.declared.halt.Halt.TheVariants.{AtPlace, AtWrite, AtBeginning, AtEnd, Interrupted}
use Rattle.gdb_session.specs.declared.server.Server.{Server}
use Rattle.gdb_session.specs.Debugger.{Debugger}
use Rattle.gdb_session.specs.SessionFields.{CameHere}
use Rattle.gdb_session.specs.Moves.{Leads, Shows, hit_halt, step_halt, ending_texts, halt_text}
use Rattle.gdb_session.specs.Answers.{Moves}
use Rattle.gdb_session.specs.Conversation.{Talker, Passes, interrupts, last_packet}
use Rattle.gdb_session.specs.ServerState.{talker, stop_texts, BreaksOff, Does, GoesSome, IsMoved, IsShown, OnlySends, SaysReply}
use Rattle.gdb_session.proofs.LineClaims.{tells_here, tells_so, tells_then, passes_then, passes_goes, none_goes, front_taken, does_adds, does_none, does_then, does_send, goes_after}
use Rattle.gdb_session.proofs.MoveEnds.{ends_on, came_none, ends_back, back_joined, back_then}
use Rattle.gdb_session.proofs.ProgramOutput.{flat_joined, some_shows, shows_back, shows_joined}

-- ---- why a move stops

pub leads_on : (r : Run) (stops : StopList) (p m : ℕ) (hit : Option Hit) → EndsForward r stops p m hit → Leads r stops motion.Continue p m (hit_halt hit AtEnd)
leads_on r stops p m None h = (None, h, refl)
leads_on r stops p m (Some Break) h = (Some Break, h, refl)
leads_on r stops p m (Some (Watch index)) h = (Some (Watch index), h, refl)

pub leads_back : (r : Run) (stops : StopList) (p m : ℕ) (hit : Option Hit) → EndsBackward r stops p m hit → Leads r stops motion.ContinueBack p m (hit_halt hit AtBeginning)
leads_back r stops p m None h = (None, h, refl)
leads_back r stops p m (Some Break) h = (Some Break, h, refl)
leads_back r stops p m (Some (Watch index)) h = (Some (Watch index), h, refl)

abbrev Apart : Halt → Type 0
Apart halt = halt ≡ Interrupted → ⊥

place_apart : Apart AtPlace
place_apart e = cc

write_apart : (index : ℕ) → Apart (AtWrite index)
write_apart index e = cc

pub beginning_apart : Apart AtBeginning
beginning_apart e = cc

pub end_apart : Apart AtEnd
end_apart e = cc

pub hit_apart : (hit : Option Hit) (otherwise : Halt) → Apart otherwise → Apart (hit_halt hit otherwise)
hit_apart None otherwise h = h
hit_apart (Some Break) otherwise h = place_apart
hit_apart (Some (Watch index)) otherwise h = write_apart index

pub step_apart : (step : Step) (otherwise : Halt) → Apart otherwise → Apart (step_halt step otherwise)
step_apart Went otherwise h = place_apart
step_apart (Watched index) otherwise h = write_apart index
step_apart End otherwise h = h

-- ---- each move has an end

pub record HasEnd (d : Debugger) (motion : Motion) : Type 0 where
  pub m : ℕ
  pub halt : Halt
  pub written : List (List ℕ)
  pub leads : Leads d.run d.stops motion d.place m halt
  pub apart : Apart halt
  pub shows : Shows d.quiet d.run d.place m written

one_at_most : (step : Step) → steps_of step ≤ 1
one_at_most Went = omega arith
one_at_most (Watched index) = omega arith
one_at_most End = omega arith

steps_behind : (r : Run) (stops : StopList) (p : ℕ) → steps_of (step_behind r stops p) ≤ p
steps_behind r stops zero = omega arith
steps_behind r stops (suc p) = let h = one_at_most (step_behind r stops (suc p)) in omega (arith, h)

pub has_end : (d : Debugger) (motion : Motion) → d.place ≤ d.run.most → HasEnd d motion
has_end d motion.Step within =
    let step : Step = step_ahead d.run d.stops d.place in
    let m : ℕ = d.place + steps_of step in
    let texts = some_shows d.quiet d.run d.place m (omega arith) in
    record { m = m; halt = step_halt step AtEnd; written = texts.0; leads = (refl, refl); apart = step_apart step AtEnd end_apart; shows = texts.1 }
has_end d motion.StepBack within =
    let step : Step = step_behind d.run d.stops d.place in
    let m : ℕ = d.place - steps_of step in
    let few : steps_of step ≤ d.place = steps_behind d.run d.stops d.place in
    record { m = m; halt = step_halt step AtBeginning; written = []; leads = (omega (arith, few), refl); apart = step_apart step AtBeginning beginning_apart; shows = shows_back d.quiet d.run d.place m (omega arith) }
has_end d motion.Continue within =
    let e = ends_on d.run d.stops (d.run.most - d.place) d.place d.place (omega (arith, within)) (came_none d.run d.stops d.place) in
    let texts = some_shows d.quiet d.run d.place e.m e.order in
    record { m = e.m; halt = hit_halt e.hit AtEnd; written = texts.0; leads = leads_on d.run d.stops d.place e.m e.hit e.ends; apart = hit_apart e.hit AtEnd end_apart; shows = texts.1 }
has_end d motion.ContinueBack within =
    let e = ends_back d.run d.stops d.place in
    record {
      m = e.m;
      halt = hit_halt e.hit AtBeginning;
      written = [];
      leads = leads_back d.run d.stops d.place e.m e.hit e.ends;
      apart = hit_apart e.hit AtBeginning beginning_apart;
      shows = shows_back d.quiet d.run d.place e.m (ends_before d.run d.stops d.place e.m e.hit e.ends);
    }
  where
    ends_before : (r : Run) (stops : StopList) (p m : ℕ) (hit : Option Hit) → EndsBackward r stops p m hit → m ≤ p
    ends_before r stops p m (Some hit) h = h.0
    ends_before r stops p m None h = let first = h.0 in omega (arith, first)

-- ---- moves that are broken off

pub breaks_with : (s : Server) (motion : Motion) (m : ℕ) (halt : Halt) (written : List (List ℕ)) (a b : Talk) → Leads s.session.run s.session.stops motion s.session.place m halt → Apart halt →
    Shows s.session.quiet s.session.run s.session.place m written → GoesSome (s.out.items ++ flat_map reply_packet written) a b → BreaksOff s motion a b
breaks_with s motion m halt written a b leads apart shows g = (m, halt, written, g.0, g.1, g.2, leads, apart, shows, g.3, g.4)

-- where nothing was done
pub breaks_at_once : (s : Server) (motion : Motion) (a b : Talk) → s.session.place ≤ s.session.run.most → ((out : List ℕ) → GoesSome out a b) → BreaksOff s motion a b
breaks_at_once s motion a b within g =
    let e = has_end s.session motion within in
    breaks_with s motion e.m e.halt e.written a b e.leads e.apart e.shows (g (s.out.items ++ flat_map reply_packet e.written))

-- on the way, behind what went already
pub breaks_on : (s t : Server) (written : List (List ℕ)) (a b c : Talk) → CameForward s.session.run s.session.stops s.session.place t.session.place → t.session.place ≤ s.session.run.most → IsShown s t written →
    Does s t (flat_map reply_packet written) a b → GoesSome t.out.items b c → BreaksOff s motion.Continue a c
breaks_on s t written a b c came within shown does g =
    let d : Debugger = s.session in
    let q : ℕ = t.session.place in
    let e = ends_on d.run d.stops (d.run.most - q) d.place q (omega (arith, within)) came in
    let more = some_shows d.quiet d.run q e.m e.order in
    let shows = shows_joined d.quiet d.run d.place q e.m written more.0 came.0 e.order shown.shows more.1 in
    let texts : flat_map reply_packet (written ++ more.0) ≡ flat_map reply_packet written ++ flat_map reply_packet more.0 = flat_joined reply_packet written more.0 in
    let goes : GoesSome (s.out.items ++ flat_map reply_packet (written ++ more.0)) a c =
    subst (λ (l : List ℕ). GoesSome (s.out.items ++ l) a c) (sym texts) (goes_after s t (flat_map reply_packet written) (flat_map reply_packet more.0) a b c does g) in
    breaks_with s motion.Continue e.m (hit_halt e.hit AtEnd) (written ++ more.0) a c (leads_on d.run d.stops d.place e.m e.hit e.ends) (hit_apart e.hit AtEnd end_apart) shows goes

-- ---- what was shown

pub last_joined : (before : List ℕ) (xs ys : List (List ℕ)) → last_packet (last_packet before xs) ys ≡ last_packet before (xs ++ ys)
last_joined before [] ys = refl
last_joined before (x ∷ xs) ys = last_joined (reply_packet x) xs ys

-- another server with the same session and last packet
pub shown_same : (s t u : Server) (written : List (List ℕ)) → u.session ≡ t.session → u.last.items ≡ t.last.items → IsShown s t written → IsShown s u written
shown_same s t u written e f h = record {
  shows = subst (λ (d : Debugger). Shows s.session.quiet s.session.run s.session.place d.place written) (sym e) h.shows;
  session = e ∙ h.session ∙ ap (λ (d : Debugger). record s.session { place = d.place }) (sym e);
  last = f ∙ h.last;
}

pub shown_joined : (s t u : Server) (xs ys : List (List ℕ)) → s.session.place ≤ t.session.place → t.session.place ≤ u.session.place → IsShown s t xs → IsShown t u ys → IsShown s u (xs ++ ys)
shown_joined s t u xs ys one two h g = record {
  shows = shows_joined s.session.quiet s.session.run s.session.place t.session.place u.session.place xs ys one two h.shows
      (subst (λ (d : Debugger). Shows d.quiet d.run t.session.place u.session.place ys) h.session g.shows);
  session = g.session ∙ ap (λ (d : Debugger). record d { place = u.session.place }) h.session;
  last = g.last ∙ ap (λ (l : List ℕ). last_packet l ys) h.last ∙ last_joined s.last.items xs ys;
}

-- a move forward that came so far
pub record OnWay (s t : Server) (x y : Option Talk) : Type 0 where
  pub written : List (List ℕ)
  pub came : CameForward s.session.run s.session.stops s.session.place t.session.place
  pub behind : s.session.place < t.session.place
  pub within : t.session.place ≤ s.session.run.most
  pub shown : IsShown s t written
  pub told : Tells x y (Does s t (flat_map reply_packet written))

pub way_begins : (s t : Server) (x : Option Talk) (written : List (List ℕ)) → CameForward s.session.run s.session.stops s.session.place t.session.place → s.session.place < t.session.place → t.session.place ≤ s.session.run.most →
    IsShown s t written → t.out.items ≡ s.out.items ++ flat_map reply_packet written → t.held.items ≡ s.held.items → OnWay s t x x
way_begins s t x written came behind within shown out held = record {
  written = written;
  came = came;
  behind = behind;
  within = within;
  shown = shown;
  told = tells_here x (Does s t (flat_map reply_packet written)) (λ a. does_adds s t (flat_map reply_packet written) a held out);
}

-- some of it went, and bytes came
pub way_pauses : (s t u : Server) (x y z : Option Talk) → OnWay s t x y → talker u ≡ talker t → Tells y z (Does t u []) → OnWay s u x z
way_pauses s t u x y z way same does =
    let e : u.session ≡ t.session = ap (λ (k : Talker). k.debugger) same in
    let f : u.last.items ≡ t.last.items = ap (λ (k : Talker). k.last) same in
    let place : u.session.place ≡ t.session.place = ap (λ (d : Debugger). d.place) e in
    let made : List ℕ = flat_map reply_packet way.written in
    let behind = way.behind in
    let within = way.within in
    record {
      written = way.written;
      came = subst (λ (q : ℕ). CameForward s.session.run s.session.stops s.session.place q) (sym place) way.came;
      behind = omega (arith, behind, place);
      within = omega (arith, within, place);
      shown = shown_same s t u way.written e f way.shown;
      told = tells_then x y z (Does s t made) (Does t u []) (Does s u made)
          (λ a b c h g. subst (λ (l : List ℕ). Does s u l a c) (append-nil made) (does_then s t u made [] a b c h g)) way.told does;
    }

-- more was shown
told_more : (s t u : Server) (x y : Option Talk) (xs ys : List (List ℕ)) → Tells x y (Does s t (flat_map reply_packet xs)) → u.out.items ≡ t.out.items ++ flat_map reply_packet ys → u.held.items ≡ t.held.items →
    Tells x y (Does s u (flat_map reply_packet (xs ++ ys)))
told_more s t u x y xs ys told out held =
    tells_so x y (Does s t (flat_map reply_packet xs)) (Does s u (flat_map reply_packet (xs ++ ys)))
    (λ a b h. subst (λ (l : List ℕ). Does s u l a b) (sym (flat_joined reply_packet xs ys)) (does_then s t u (flat_map reply_packet xs) (flat_map reply_packet ys) a b b h (does_adds t u (flat_map reply_packet ys) b held out))) told

pub way_goes_on : (s t u : Server) (x y : Option Talk) (more : List (List ℕ)) → OnWay s t x y → IsShown t u more → t.session.place < u.session.place → u.session.place ≤ s.session.run.most →
    CameForward s.session.run s.session.stops s.session.place u.session.place → u.out.items ≡ t.out.items ++ flat_map reply_packet more → u.held.items ≡ t.held.items → OnWay s u x y
way_goes_on s t u x y more way shown further within came out held =
    let behind = way.behind in
    record {
      written = way.written ++ more;
      came = came;
      behind = omega (arith, behind, further);
      within = within;
      shown = shown_joined s t u way.written more (omega (arith, behind)) (omega (arith, further)) way.shown shown;
      told = told_more s t u x y way.written more way.told out held;
    }

abbrev pub came_here : (s t : Server) (x y : Option Talk) → OnWay s t x y → CameHere t.session
came_here s t x y way = (s.session.place, way.behind, subst (λ (d : Debugger). CameForward d.run d.stops s.session.place t.session.place) (sym way.shown.session) way.came)

-- what the next part says of the move as a whole
pub parts_on : (s t : Server) (x y : Option Talk) (part : Part) (m : ℕ) → OnWay s t x y →
    ((p : ℕ) → p < t.session.place → CameForward t.session.run t.session.stops p t.session.place → MatchPart part (EndsForward t.session.run t.session.stops p m) (CameForward t.session.run t.session.stops p m)) →
    MatchPart part (EndsForward s.session.run s.session.stops s.session.place m) (CameForward s.session.run s.session.stops s.session.place m)
parts_on s t x y part m way ends =
    let here = came_here s t x y way in
    subst (λ (d : Debugger). MatchPart part (EndsForward d.run d.stops s.session.place m) (CameForward d.run d.stops s.session.place m)) way.shown.session (ends here.0 here.1 here.2)

pub within_there : (s t : Server) (x y : Option Talk) (m : ℕ) → OnWay s t x y → m ≤ t.session.run.most → m ≤ s.session.run.most
within_there s t x y m way le = subst (λ (d : Debugger). m ≤ d.run.most) way.shown.session le

-- ---- moves that come to their end

pub moved : (s t : Server) (motion : Motion) (halt : Halt) (written : List (List ℕ)) → Leads s.session.run s.session.stops motion s.session.place t.session.place halt → (halt ≡ Interrupted → interrupts t.held.items ≡ true) → IsShown s t written →
    IsMoved s t motion halt written
moved s t motion halt written leads cause shown = record { leads = leads; shows = shown.shows; cause = cause; session = shown.session; last = shown.last }

-- at a hit, or at the end of the run
pub moved_on : (s t : Server) (hit : Option Hit) (written : List (List ℕ)) → EndsForward s.session.run s.session.stops s.session.place t.session.place hit → IsShown s t written → IsMoved s t motion.Continue (hit_halt hit AtEnd) written
moved_on s t hit written ends shown =
    moved s t motion.Continue (hit_halt hit AtEnd) written (leads_on s.session.run s.session.stops s.session.place t.session.place hit ends) (λ e. absurd (hit_apart hit AtEnd end_apart e)) shown

pub ended_on : (s t u : Server) (x y : Option Talk) (hit : Option Hit) (more : List (List ℕ)) → OnWay s t x y → IsShown t u more → t.session.place ≤ u.session.place → EndsForward s.session.run s.session.stops s.session.place u.session.place hit →
    u.out.items ≡ t.out.items ++ flat_map reply_packet more → u.held.items ≡ t.held.items →
    Tells x y (λ a b. (written : List (List ℕ)) × IsMoved s u motion.Continue (hit_halt hit AtEnd) written × Does s u (flat_map reply_packet written) a b)
ended_on s t u x y hit more way shown order ends out held =
    let behind = way.behind in
    let all : List (List ℕ) = way.written ++ more in
    let is = moved_on s u hit all ends (shown_joined s t u way.written more (omega (arith, behind)) order way.shown shown) in
    tells_so x y (Does s u (flat_map reply_packet all)) (λ a b. (written : List (List ℕ)) × IsMoved s u motion.Continue (hit_halt hit AtEnd) written × Does s u (flat_map reply_packet written) a b)
    (λ a b h. (all, is, h)) (told_more s t u x y way.written more way.told out held)

pub ended_at_once : (s t : Server) (x : Option Talk) (hit : Option Hit) (written : List (List ℕ)) → IsShown s t written → EndsForward s.session.run s.session.stops s.session.place t.session.place hit →
    t.out.items ≡ s.out.items ++ flat_map reply_packet written → t.held.items ≡ s.held.items →
    Tells x x (λ a b. (written : List (List ℕ)) × IsMoved s t motion.Continue (hit_halt hit AtEnd) written × Does s t (flat_map reply_packet written) a b)
ended_at_once s t x hit written shown ends out held =
    tells_here x (λ a b. (written : List (List ℕ)) × IsMoved s t motion.Continue (hit_halt hit AtEnd) written × Does s t (flat_map reply_packet written) a b)
    (λ a. (written, moved_on s t hit written ends shown, does_adds s t (flat_map reply_packet written) a held out))

pub interrupted_on : (s t : Server) (x y : Option Talk) → OnWay s t x y → interrupts t.held.items ≡ true →
    Tells x y (λ a b. (written : List (List ℕ)) × IsMoved s t motion.Continue Interrupted written × Does s t (flat_map reply_packet written) a b)
interrupted_on s t x y way is =
    tells_so x y (Does s t (flat_map reply_packet way.written)) (λ a b. (written : List (List ℕ)) × IsMoved s t motion.Continue Interrupted written × Does s t (flat_map reply_packet written) a b)
    (λ a b h. (way.written, moved s t motion.Continue Interrupted way.written way.came (λ _. is) way.shown, h)) way.told

-- broken off on the way
pub breaks_way : (s t : Server) (x y z : Option Talk) → OnWay s t x y → Tells y z (GoesSome t.out.items) → Tells x z (BreaksOff s motion.Continue)
breaks_way s t x y z way g =
    tells_then x y z (Does s t (flat_map reply_packet way.written)) (GoesSome t.out.items) (BreaksOff s motion.Continue) (λ a b c. breaks_on s t way.written a b c way.came way.within way.shown) way.told g

-- ---- backward

pub record BackWay (s t : Server) (end : ℕ) (x y : Option Talk) : Type 0 where
  pub back : CameBackward s.session.run s.session.stops s.session.place end
  pub high : end ≤ t.session.place
  pub session : t.session ≡ record s.session { place = t.session.place }
  pub out : t.out.items ≡ s.out.items
  pub last : t.last.items ≡ s.last.items
  pub told : Tells x y (Does s t [])

-- the move's other server after this one did nothing but go
does_going : (s t u : Server) (a b : Talk) → Does s t [] a b → u.held.items ≡ t.held.items → u.out.items ≡ t.out.items → Does s u [] a b
does_going s t u a b h held out = does_then s t u [] [] a b b h (does_none t u b held out)

moved_back : (s u : Server) (halt : Halt) → Leads s.session.run s.session.stops motion.ContinueBack s.session.place u.session.place halt → (halt ≡ Interrupted → interrupts u.held.items ≡ true) → u.session.place ≤ s.session.place →
    u.session ≡ record s.session { place = u.session.place } → u.last.items ≡ s.last.items → IsMoved s u motion.ContinueBack halt []
moved_back s u halt leads cause le session last =
    record { leads = leads; shows = shows_back s.session.quiet s.session.run s.session.place u.session.place le; cause = cause; session = session; last = last }

-- the move ends at a place up to the one that it came to
pub ended_back : (s t u : Server) (end at : ℕ) (x y : Option Talk) (hit : Option Hit) → BackWay s t end x y → EndsBackward s.session.run s.session.stops end at hit → at ≤ end → u.session ≡ record s.session { place = u.session.place } → u.session.place ≡ at →
    u.held.items ≡ t.held.items → u.out.items ≡ t.out.items → u.last.items ≡ t.last.items →
    Tells x y (λ a b. IsMoved s u motion.ContinueBack (hit_halt hit AtBeginning) [] × Does s u [] a b)
ended_back s t u end at x y hit way ends near session place held out last =
    let r : Run = s.session.run in
    let order = way.back.0 in
    let whole : EndsBackward r s.session.stops s.session.place u.session.place hit =
    subst (λ (m : ℕ). EndsBackward r s.session.stops s.session.place m hit) (sym place) (back_then r s.session.stops s.session.place end at hit way.back ends) in
    let is = moved_back s u (hit_halt hit AtBeginning) (leads_back r s.session.stops s.session.place u.session.place hit whole) (λ e. absurd (hit_apart hit AtBeginning beginning_apart e)) (omega (arith, order, near, place)) session (last ∙ way.last) in
    tells_so x y (Does s t []) (λ a b. IsMoved s u motion.ContinueBack (hit_halt hit AtBeginning) [] × Does s u [] a b) (λ a b h. (is, does_going s t u a b h held out)) way.told

-- gdb interrupts it where it came to
pub interrupted_back : (s t u : Server) (end : ℕ) (x y : Option Talk) → BackWay s t end x y → u.session ≡ record s.session { place = u.session.place } → u.session.place ≡ end → interrupts u.held.items ≡ true →
    u.held.items ≡ t.held.items → u.out.items ≡ t.out.items → u.last.items ≡ t.last.items →
    Tells x y (λ a b. IsMoved s u motion.ContinueBack Interrupted [] × Does s u [] a b)
interrupted_back s t u end x y way session place interrupted held out last =
    let order = way.back.0 in
    let came : CameBackward s.session.run s.session.stops s.session.place u.session.place = subst (λ (m : ℕ). CameBackward s.session.run s.session.stops s.session.place m) (sym place) way.back in
    let is = moved_back s u Interrupted came (λ _. interrupted) (omega (arith, order, place)) session (last ∙ way.last) in
    tells_so x y (Does s t []) (λ a b. IsMoved s u motion.ContinueBack Interrupted [] × Does s u [] a b) (λ a b h. (is, does_going s t u a b h held out)) way.told

-- one part more, in which bytes may have come
pub back_goes_on : (s t u : Server) (end from : ℕ) (x y z : Option Talk) → BackWay s t end x y → CameBackward s.session.run s.session.stops end from → from ≤ u.session.place → u.session ≡ record s.session { place = u.session.place } →
    u.out.items ≡ t.out.items → u.last.items ≡ t.last.items → Tells y z (Does t u []) → BackWay s u from x z
back_goes_on s t u end from x y z way came high session out last does = record {
  back = back_joined s.session.run s.session.stops s.session.place end from way.back came;
  high = high;
  session = session;
  out = out ∙ way.out;
  last = last ∙ way.last;
  told = tells_then x y z (Does s t []) (Does t u []) (Does s u []) (λ a b c. does_then s t u [] [] a b c) way.told does;
}

-- it is broken off
pub breaks_back : (s t : Server) (end : ℕ) (x y z : Option Talk) → s.session.place ≤ s.session.run.most → BackWay s t end x y → Tells y z (λ b c. (came : List ℕ) × Passes came [] b c) → Tells x z (BreaksOff s motion.ContinueBack)
breaks_back s t end x y z within way g =
    tells_then x y z (Does s t []) (λ b c. (came : List ℕ) × Passes came [] b c) (BreaksOff s motion.ContinueBack)
    (λ a b c h k.
    let none : h.1 ≡ [] = no_front h.1 t.out.items (s.out.items ++ []) (append-nil s.out.items ∙ sym way.out) h.4 in
    breaks_at_once s motion.ContinueBack a c within
    (λ out. (h.0 ++ k.0, h.1 ++ [], 0, passes_then h.0 h.1 k.0 [] a b c h.2 k.1, append-nil h.1 ∙ none))) way.told g
  where
    -- nothing went, if what was to go is still to go
    no_front : (front all rest : List ℕ) → rest ≡ all → rest ≡ front ++ all → front ≡ []
    no_front [] all rest e f = refl
    no_front (b ∷ front) all rest e f =
        let long = length-append front all in
        let same : length all ≡ suc (length (front ++ all)) = ap length (sym e ∙ f) in
        absurd (omega (arith, long, same))

-- ---- what gdb hears of a move

abbrev pub Partly : Server → Motion → Talk → Talk → Type 0
Partly s motion a b =
    (came : List ℕ) × (went : List ℕ) × (texts : List (List ℕ)) × (e : Debugger) × (count : ℕ) × Passes came went a b × Moves (interrupts (s.held.items ++ came)) s.session motion e texts
    × (went ≡ take count (s.out.items ++ flat_map reply_packet texts))

-- of a move that was broken off
pub broken_partly : (s : Server) (motion : Motion) (a b : Talk) → BreaksOff s motion a b → Partly s motion a b
broken_partly s motion a b h =
    let halt : Halt = h.1 in
    let written : List (List ℕ) = h.2 in
    let e : Debugger = record s.session { place = h.0 } in
    let stop : List (List ℕ) = stop_texts e halt in
    let apart : Apart halt = h.7 in
    let part = front_taken h.5 (s.out.items ++ flat_map reply_packet written) (flat_map reply_packet stop) in
    let all : (s.out.items ++ flat_map reply_packet written) ++ flat_map reply_packet stop ≡ s.out.items ++ flat_map reply_packet (written ++ stop) =
    append_assoc s.out.items (flat_map reply_packet written) (flat_map reply_packet stop) ∙ ap (λ (l : List ℕ). s.out.items ++ l) (sym (flat_joined reply_packet written stop)) in (
      h.3,
      h.4,
      written ++ stop,
      e,
      part.0,
      h.9,
      record { halt = halt; written = written; leads = h.6; cause = λ is. absurd (apart is); shows = h.8; same = refl; texts_are = sym (append_assoc written (ending_texts s.session.run h.0 halt) (halt_text s.session.stops.ranges halt ∷ [])) },
      h.10 ∙ sym part.1 ∙ ap (λ (l : List ℕ). take part.0 l) all,
    )

moves_of : (s t : Server) (motion : Motion) (halt : Halt) (written : List (List ℕ)) (flag : Bool) → IsMoved s t motion halt written → (interrupts t.held.items ≡ true → flag ≡ true) →
    Moves flag s.session motion t.session (written ++ stop_texts t.session halt)
moves_of s t motion halt written flag is cause = record {
  halt = halt;
  written = written;
  leads = is.leads;
  cause = λ e. cause (is.cause e);
  shows = is.shows;
  same = is.session;
  texts_are =
      ap (λ (d : Debugger). written ++ stop_texts d halt) is.session
      ∙ sym (append_assoc written (ending_texts s.session.run t.session.place halt) (halt_text s.session.stops.ranges halt ∷ []));
}

-- of all that was made, this is still to go
all_made : (s t : Server) (written stop : List (List ℕ)) (went : List ℕ) → s.out.items ++ flat_map reply_packet written ≡ went ++ t.out.items →
    s.out.items ++ flat_map reply_packet (written ++ stop) ≡ went ++ (t.out.items ++ flat_map reply_packet stop)
all_made s t written stop went e =
    ap (λ (l : List ℕ). s.out.items ++ l) (flat_joined reply_packet written stop)
    ∙ sym (append_assoc s.out.items (flat_map reply_packet written) (flat_map reply_packet stop))
    ∙ ap (λ (l : List ℕ). l ++ flat_map reply_packet stop) e
    ∙ append_assoc went t.out.items (flat_map reply_packet stop)

taken_in : (went out all : List ℕ) (k : ℕ) → all ≡ went ++ out → went ++ take k out ≡ take (length went + k) all
taken_in went out all k e = sym (take-append-add went out k) ∙ ap (λ (l : List ℕ). take (length went + k) l) (sym e)

-- of a move that came to its end
moved_partly : (s t : Server) (motion : Motion) (halt : Halt) (written : List (List ℕ)) (a b c : Talk) → IsMoved s t motion halt written → Does s t (flat_map reply_packet written) a b →
    GoesPartly (t.out.items ++ flat_map reply_packet (stop_texts t.session halt)) b c → Partly s motion a c
moved_partly s t motion halt written a b c is h g =
    let stop : List (List ℕ) = stop_texts t.session halt in
    let out : List ℕ = t.out.items ++ flat_map reply_packet stop in (
      h.0,
      h.1 ++ take g.0 out,
      written ++ stop,
      t.session,
      length h.1 + g.0,
      passes_goes h.0 h.1 (take g.0 out) a b c h.2 g.1,
      moves_of s t motion halt written (interrupts (s.held.items ++ h.0)) is (λ e. ap interrupts (sym h.3) ∙ e),
      taken_in h.1 out (s.out.items ++ flat_map reply_packet (written ++ stop)) g.0 (all_made s t written stop h.1 h.4),
    )

abbrev pub Moved : Server → Server → Motion → Halt → Talk → Talk → Type 0
Moved s t motion halt a b = (written : List (List ℕ)) × IsMoved s t motion halt written × Does s t (flat_map reply_packet written) a b

-- nothing of what gdb hears of the end went
pub unstopped_partly : (s t : Server) (motion : Motion) (halt : Halt) (x y : Option Talk) → Tells x y (Moved s t motion halt) → Tells x y (Partly s motion)
unstopped_partly s t motion halt x y told =
    tells_so x y (Moved s t motion halt) (Partly s motion) (λ a b h. moved_partly s t motion halt h.0 a b b h.1 h.2 (0, none_goes b)) told

pub unsent_partly : (s t u : Server) (motion : Motion) (halt : Halt) (x y z : Option Talk) → Tells x y (Moved s t motion halt) → u.out.items ≡ t.out.items ++ flat_map reply_packet (stop_texts t.session halt) →
    Tells y z (GoesPartly u.out.items) → Tells x z (Partly s motion)
unsent_partly s t u motion halt x y z told out g =
    tells_then x y z (Moved s t motion halt) (GoesPartly u.out.items) (Partly s motion)
    (λ a b c h k. moved_partly s t motion halt h.0 a b c h.1 h.2 (subst (λ (l : List ℕ). GoesPartly l b c) out k)) told g

-- all of it went
pub sent : (s t u v : Server) (motion : Motion) (halt : Halt) (x y z : Option Talk) → Tells x y (Moved s t motion halt) → u.out.items ≡ t.out.items ++ flat_map reply_packet (stop_texts t.session halt) →
    u.last.items ≡ last_packet t.last.items (stop_texts t.session halt) → SaysReply t u → Tells y z (Goes u.out.items) → OnlySends u v → v.out.items ≡ [] →
    Tells x z (λ a b. (texts : List (List ℕ)) × Moves (interrupts v.held.items) s.session motion v.session texts × (v.last.items ≡ last_packet s.last.items texts) × Does s v (flat_map reply_packet texts) a b)
sent s t u v motion halt x y z told out last says g sends empty =
    let stop : List (List ℕ) = stop_texts t.session halt in
    let session : v.session ≡ t.session = ap (λ (k : Talker). k.debugger) sends.talker_same ∙ says.session in
    let held : v.held.items ≡ t.held.items = sends.held ∙ says.held in
    let last_there : v.last.items ≡ last_packet t.last.items stop = ap (λ (k : Talker). k.last) sends.talker_same ∙ last in
    tells_then x y z (Moved s t motion halt) (Goes u.out.items)
    (λ a b. (texts : List (List ℕ)) × Moves (interrupts v.held.items) s.session motion v.session texts × (v.last.items ≡ last_packet s.last.items texts) × Does s v (flat_map reply_packet texts) a b)
    (λ a b c h k. (
      h.0 ++ stop,
      subst (λ (d : Debugger). Moves (interrupts v.held.items) s.session motion d (h.0 ++ stop)) (sym session)
          (moves_of s t motion halt h.0 (interrupts v.held.items) h.1 (λ e. ap interrupts held ∙ e)),
      last_there ∙ ap (λ (l : List ℕ). last_packet l stop) h.1.last ∙ last_joined s.last.items h.0 stop,
      subst (λ (l : List ℕ). Does s v l a c) (sym (flat_joined reply_packet h.0 stop))
          (subst (λ (l : List ℕ). Does s v l a c) (append-nil (flat_map reply_packet h.0 ++ flat_map reply_packet stop))
          (does_then s u v (flat_map reply_packet h.0 ++ flat_map reply_packet stop) [] a b c
          (does_then s t u (flat_map reply_packet h.0) (flat_map reply_packet stop) a b b h.2 (does_adds t u (flat_map reply_packet stop) b says.held out))
          (does_send u v b c k sends.held empty))),
    )) told g
