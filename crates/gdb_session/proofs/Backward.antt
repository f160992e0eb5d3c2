-- A server's move backward, part by part.
use Rattle.std.proofs.Common.{◌≡◌, ℕ, ◌≤◌, ◌<◌, true, List, [], Option, None, Some, MatchOption, refl, sym, ap, subst, ◌∙◌, arith}
use Rattle.keepers.specs.Counts.{Rose}
use Rattle.keepers.specs.Claims.{Tells}
use Rattle.gdb_line.specs.Talk.{Talk}
use Rattle.gdb_wire.specs.declared.request.Motion.TheVariants as motion
use Rattle.run_timeline.specs.declared.stops.Hit.{Hit}
use Rattle.run_timeline.specs.Moves.{EndsBackward, CameBackward}
use Rattle.gdb_session.specs.declared.halt.Halt.TheVariants.{AtBeginning, Interrupted}
use Rattle.gdb_session.specs.declared.server.Server.{Server}
use Rattle.gdb_session.specs.Debugger.{Debugger}
use Rattle.gdb_session.specs.Moves.{hit_halt}
use Rattle.gdb_session.specs.Answers.{GoesTo}
use Rattle.gdb_session.specs.Conversation.{Talker, Passes, interrupts}
use Rattle.gdb_session.specs.ServerState.{BreaksOff, Does, Holds, IsMoved, MayCome, OnlyHolds}
use Rattle.gdb_session.proofs.LineClaims.{tells_here, tells_so, comes_passes, does_none, does_hold}
use Rattle.gdb_session.proofs.MoveEnds.{back_none, first_behind}
use Rattle.gdb_session.proofs.Motions.{BackWay, ended_back, interrupted_back, back_goes_on, breaks_back}

-- ---- places

-- one place after another
again_elsewhere : (d e f : Debugger) (n : ℕ) → e ≡ record d { place = n } → f ≡ record e { place = f.place } → f ≡ record d { place = f.place }
again_elsewhere d e f n first second = second ∙ ap (λ (x : Debugger). record x { place = f.place }) first

-- what was looked for from a place on
abbrev pub Looked : Debugger → ℕ → ℕ → Option (ℕ × Hit) → Type 0
Looked d end from o = MatchOption o (CameBackward d.run d.stops end from) (λ found. EndsBackward d.run d.stops end found.0 (Some found.1))

looked_there : (s t : Server) (end from : ℕ) (x y : Option Talk) (o : Option (ℕ × Hit)) → BackWay s t end x y → Looked t.session end from o → Looked s.session end from o
looked_there s t end from x y o way h = subst (λ (d : Debugger). Looked d end from o) way.session h

-- ---- parts

pub back_begins : (s : Server) (end : ℕ) (x : Option Talk) → end ≡ s.session.place → BackWay s s end x x
back_begins s end x e = record {
  back = subst (λ (q : ℕ). CameBackward s.session.run s.session.stops s.session.place q) (sym e) (back_none s.session.run s.session.stops s.session.place);
  high = omega (arith, e);
  session = refl;
  out = refl;
  last = refl;
  told = tells_here x (Does s s []) (λ a. does_none s s a refl refl);
}

-- something was hit
pub at_found : (s t : Server) (end from at : ℕ) (x y : Option Talk) (o : Option (ℕ × Hit)) (hit : Hit) (look go : Debugger) → BackWay s t end x y → o ≡ Some (at, hit) → Looked t.session end from o →
    look ≡ record t.session { place = end } → GoesTo look at go → (at ≤ look.place → go.place ≡ at) →
    Tells x y (λ a b. IsMoved s (record t { session = go }) motion.ContinueBack (hit_halt (Some hit) AtBeginning) [] × Does s (record t { session = go }) [] a b)
at_found s t end from at x y o hit look go way is looked looks goes known =
    let found : ℕ × Hit = (at, hit) in
    let ends : EndsBackward s.session.run s.session.stops end at (Some hit) = subst (λ (p : Option (ℕ × Hit)). Looked s.session end from p) is (looked_there s t end from x y o way looked) in
    let le : at ≤ end = ends.0 in
    let there : look.place ≡ end = ap (λ (d : Debugger). d.place) looks in
    let session : go ≡ record s.session { place = go.place } =
    again_elsewhere s.session look go end (looks ∙ ap (λ (d : Debugger). record d { place = end }) way.session) goes.0 in
    ended_back s t (record t { session = go }) end at x y (Some hit) way ends le session (known (omega (arith, le, there))) refl refl refl

-- nothing was, and bytes may have come
pub back_paused : (s t v : Server) (end from : ℕ) (x y z : Option Talk) (o : Option (ℕ × Hit)) (look : Debugger) → BackWay s t end x y → o ≡ None → Looked t.session end from o → from < end → look ≡ record t.session { place = end } →
    OnlyHolds (record t { session = look }) v → Tells y z (Holds (record t { session = look }) v) → BackWay s v from x z
back_paused s t v end from x y z o look way is looked less looks only holds =
    let mid : Server = record t { session = look } in
    let came : CameBackward s.session.run s.session.stops end from = subst (λ (p : Option (ℕ × Hit)). Looked s.session end from p) is (looked_there s t end from x y o way looked) in
    let e : v.session ≡ look = ap (λ (k : Talker). k.debugger) only.talker_same in
    let f : v.last.items ≡ t.last.items = ap (λ (k : Talker). k.last) only.talker_same in
    let there : v.session.place ≡ end = ap (λ (d : Debugger). d.place) (e ∙ looks) in
    let whole : v.session ≡ record s.session { place = end } = e ∙ looks ∙ ap (λ (d : Debugger). record d { place = end }) way.session in
    let session : v.session ≡ record s.session { place = v.session.place } = whole ∙ ap (λ (n : ℕ). record s.session { place = n }) (sym there) in
    let does : Tells y z (Does t v []) = tells_so y z (Holds mid v) (Does t v []) (λ a b h. does_hold mid v a b h only.out) holds in
    back_goes_on s t v end from x y z way came (omega (arith, less, there)) session only.out f does

-- gdb interrupted it
pub at_interrupt : (s v : Server) (from : ℕ) (x z : Option Talk) (go : Debugger) → BackWay s v from x z → interrupts v.held.items ≡ true → GoesTo v.session from go → (from ≤ v.session.place → go.place ≡ from) →
    Tells x z (λ a b. IsMoved s (record v { session = go }) motion.ContinueBack Interrupted [] × Does s (record v { session = go }) [] a b)
at_interrupt s v from x z go way is goes known =
    let session : go ≡ record s.session { place = go.place } = again_elsewhere s.session v.session go v.session.place way.session goes.0 in
    interrupted_back s v (record v { session = go }) from x z way session (known way.high) is refl refl refl

-- the run begins there
pub at_first : (s t : Server) (end : ℕ) (x y : Option Talk) (go : Debugger) → BackWay s t end x y → end ≡ 0 → GoesTo t.session 0 go → (0 ≤ t.session.place → go.place ≡ 0) →
    Tells x y (λ a b. IsMoved s (record t { session = go }) motion.ContinueBack AtBeginning [] × Does s (record t { session = go }) [] a b)
at_first s t end x y go way first goes known =
    let session : go ≡ record s.session { place = go.place } = again_elsewhere s.session t.session go t.session.place way.session goes.0 in
    let here : BackWay s t 0 x y = subst (λ (n : ℕ). BackWay s t n x y) first way in
    ended_back s t (record t { session = go }) 0 0 x y None here (refl, first_behind s.session.run s.session.stops) (omega arith) session (known (omega arith)) refl refl refl

-- the line failed, or there was no memory
pub at_refusal : (s t : Server) (end : ℕ) (x y z : Option Talk) → s.session.place ≤ s.session.run.most → BackWay s t end x y → Tells y z MayCome → Tells x z (BreaksOff s motion.ContinueBack)
at_refusal s t end x y z within way comes =
    breaks_back s t end x y z within way (tells_so y z MayCome (λ b c. (came : List ℕ) × Passes came [] b c) (λ b c h. (h.0, comes_passes h.0 b c h.1)) comes)

-- a count that rose later rose
pub rose_before : (a b c : ℕ) → a ≤ b → Rose b c → Rose a c
rose_before a b c le rose = omega (arith, le, rose)
