-- What the parts of a server's moves add to what is to go, and to the last packet.
use Rattle.std.proofs.Common.{◌≡◌, ℕ, ◌+◌, ◌^◌, ◌<◌, Bool, true, false, List, [], ◌∷◌, ◌++◌, length, take, map, Option, Result, Ok, Err, OnOk, OnErr, refl, sym, ap, subst, ◌∙◌, arith, append-nil, append_assoc}
use Rattle.std.specs.List.{flat_map}
use Rattle.keepers.specs.Claims.{Tells}
use Rattle.gdb_line.specs.Talk.{Talk, Goes, GoesPartly}
use Rattle.gdb_wire.specs.Replies.{reply_packet}
use Rattle.gdb_wire.specs.declared.request.Motion.TheVariants as motion
use Rattle.input_journal.specs.Form.{IsRecorded}
use Rattle.rv_machine.specs.MachineState.{MachineState, IsMachineState}
use Rattle.rv_machine.specs.States.{state_number}
use Rattle.rv_machine.proofs.Runs.{state_number-add}
use Rattle.rv_machine.proofs.StateInvariant.{number_is_state}
use Rattle.run_timeline.specs.declared.stops.Step.{Step}
use Rattle.run_timeline.specs.Moves.{Run, state, step_ahead, step_behind, steps_of}
use Rattle.gdb_session.specs.declared.halt.Halt.{Halt}
use Rattle.gdb_session.specs.declared.halt.Halt.TheVariants.{AtBeginning, AtEnd}
use Rattle.gdb_session.specs.declared.server.Server.{Server}
use Rattle.gdb_session.specs.Debugger.{Debugger, shown}
use Rattle.gdb_session.specs.Moves.{ArePieces, Shows, ShowsBytes, step_halt, console_text, ending_texts, halt_text, output_from}
use Rattle.gdb_session.specs.Conversation.{last_packet}
use Rattle.gdb_session.specs.ServerState.{stop_texts, Does, GoesSome, Holds, IsMoved, IsShown, MayCome, OnlyHolds, OnlySends, SaysReply}
use Rattle.gdb_session.proofs.LineClaims.{tells_so, tells_then, passes_then, goes_passes, comes_passes, some_goes, does_then, does_send, does_hold}
use Rattle.gdb_session.proofs.ProgramOutput.{flat_joined, none_of_none, none_written, shows_back}
use Rattle.gdb_session.proofs.Motions.{last_joined, moved, step_apart, beginning_apart, end_apart}

-- ---- by how a call ended

-- a fact holds at an error
pub at_error : {T E P : Type 0} (r : Result T E) → P → OnErr r P
at_error (Ok x) p = tt
at_error (Err e) p = p

pub at_success : {T E P : Type 0} (r : Result T E) → P → OnOk r P
at_success (Ok x) p = p
at_success (Err e) p = tt

pub on_ok_both : {T E : Type 0} (r : Result T E) {P Q R : Type 0} → (P → Q → R) → OnOk r P → OnOk r Q → OnOk r R
on_ok_both (Ok x) f p q = f p q
on_ok_both (Err e) f p q = tt

-- ---- output

-- no bytes are shown where the output is kept silent
pub silent : (d : Debugger) (from : ℕ) → d.quiet ≡ true → ShowsBytes d.quiet d.run from d.place []
silent d from e = subst (λ (b : Bool). ShowsBytes b d.run from d.place []) (sym e) refl

none_shown : (quiet : Bool) (r : Run) (p m : ℕ) → ((n : ℕ) → m ≡ p + n → output_from r p n ≡ []) → ShowsBytes quiet r p m []
none_shown true r p m none = refl
none_shown false r p m none = λ n sum. sym (none n sum)

-- nor where the program wrote nothing, by its own count
pub nothing_written : (d : Debugger) (from written : ℕ) → IsMachineState d.run.first → IsRecorded d.run.journal → d.place < 2 ^ 32 → (shown d).written ≡ written → written ≡ (state d.run from).written →
    ShowsBytes d.quiet d.run from d.place []
nothing_written d from written is recorded few now before =
    none_shown d.quiet d.run from d.place
    (λ n sum.
    let there : state d.run d.place ≡ state_number (state d.run from) d.run.journal n = ap (state d.run) sum ∙ state_number-add d.run.first d.run.journal from n in
    let same : (state_number (state d.run from) d.run.journal n).written ≡ (state d.run from).written = ap (λ (s : MachineState). s.written) (sym there) ∙ now ∙ before in
    none_written (state d.run from) d.run.journal n (number_is_state d.run.first d.run.journal from is recorded) recorded (omega (arith, few, sum)) same)

-- the texts of pieces of the bytes
pub shows_texts : (quiet : Bool) (r : Run) (p m : ℕ) (bytes : List ℕ) (pieces : List (List ℕ)) → ShowsBytes quiet r p m bytes → ArePieces bytes pieces → Shows quiet r p m (map console_text pieces)
shows_texts true r p m bytes pieces is are = none_of_none pieces (subst (λ (l : List ℕ). ArePieces l pieces) is are)
shows_texts false r p m bytes pieces is are = λ count sum. (pieces, subst (λ (l : List ℕ). ArePieces l pieces) (is count sum) are, refl)

-- what was written where a part began, counted in the same run
pub counted_there : (d e : Debugger) (from written : ℕ) → from ≡ d.place → written ≡ (shown d).written → e.run ≡ d.run → written ≡ (state e.run from).written
counted_there d e from written at count run = count ∙ (λ i. (state (sym run i) (sym at i)).written)

abbrev Adds : Server → Server → ℕ → Type 0
Adds t u from =
    (texts : List (List ℕ)) × Shows t.session.quiet t.session.run from t.session.place texts × (u.out.items ≡ t.out.items ++ flat_map reply_packet texts) × (u.last.items ≡ last_packet t.last.items texts)

-- a part of a move that shows what the program writes
pub shown_after : (s t u : Server) (from : ℕ) → from ≡ s.session.place → t.session ≡ record s.session { place = t.session.place } → t.out.items ≡ s.out.items → t.last.items ≡ s.last.items → Adds t u from → SaysReply t u →
    (written : List (List ℕ)) × IsShown s u written × (u.out.items ≡ s.out.items ++ flat_map reply_packet written)
shown_after s t u from at session out last adds says =
    let texts : List (List ℕ) = adds.0 in
    let here : Shows s.session.quiet s.session.run from t.session.place texts = subst (λ (d : Debugger). Shows d.quiet d.run from t.session.place texts) session adds.1 in
    let there : Shows s.session.quiet s.session.run from u.session.place texts = subst (λ (d : Debugger). Shows s.session.quiet s.session.run from d.place texts) (sym says.session) here in (
      texts,
      record {
        shows = subst (λ (p : ℕ). Shows s.session.quiet s.session.run p u.session.place texts) at there;
        session = says.session ∙ session ∙ ap (λ (d : Debugger). record s.session { place = d.place }) (sym says.session);
        last = adds.3 ∙ ap (λ (l : List ℕ). last_packet l texts) last;
      },
      adds.2 ∙ ap (λ (l : List ℕ). l ++ flat_map reply_packet texts) out,
    )

-- ---- steps

pub moved_step : (s u : Server) (step : Step) (halt : Halt) (written : List (List ℕ)) → step ≡ step_ahead s.session.run s.session.stops s.session.place → halt ≡ step_halt step AtEnd → u.session.place ≡ s.session.place + steps_of step → IsShown s u written →
    IsMoved s u motion.Step halt written
moved_step s u step halt written is halts place shown =
    moved s u motion.Step halt written (place ∙ ap (λ (k : Step). s.session.place + steps_of k) is, halts ∙ ap (λ (k : Step). step_halt k AtEnd) is) (λ e. absurd (step_apart step AtEnd end_apart (sym halts ∙ e))) shown

pub moved_step_back : (s u : Server) (step : Step) (halt : Halt) → step ≡ step_behind s.session.run s.session.stops s.session.place → halt ≡ step_halt step AtBeginning → u.session.place + steps_of step ≡ s.session.place →
    u.session ≡ record s.session { place = u.session.place } → u.last.items ≡ s.last.items → IsMoved s u motion.StepBack halt []
moved_step_back s u step halt is halts place session last = record {
  leads = (ap (λ (k : Step). u.session.place + steps_of k) (sym is) ∙ place, halts ∙ ap (λ (k : Step). step_halt k AtBeginning) is);
  shows = shows_back s.session.quiet s.session.run s.session.place u.session.place (omega (arith, place));
  cause = λ e. absurd (step_apart step AtBeginning beginning_apart (sym halts ∙ e));
  session = session;
  last = last;
}

-- ---- the reply

-- the packet of one text
pub one_packet : (text : List ℕ) → flat_map reply_packet (text ∷ []) ≡ reply_packet text
one_packet text = append-nil (reply_packet text)

pub stop_out : (s t u : Server) (halt : Halt) → t.session ≡ s.session → t.out.items ≡ s.out.items ++ flat_map reply_packet (ending_texts s.session.run s.session.place halt) →
    u.out.items ≡ t.out.items ++ reply_packet (halt_text t.session.stops.ranges halt) → u.out.items ≡ s.out.items ++ flat_map reply_packet (stop_texts s.session halt)
stop_out s t u halt same first second =
    let ending : List (List ℕ) = ending_texts s.session.run s.session.place halt in
    let text : List ℕ = halt_text s.session.stops.ranges halt in
    second
    ∙ ap (λ (d : Debugger). t.out.items ++ reply_packet (halt_text d.stops.ranges halt)) same
    ∙ ap (λ (l : List ℕ). l ++ reply_packet text) first
    ∙ append_assoc s.out.items (flat_map reply_packet ending) (reply_packet text)
    ∙ ap (λ (l : List ℕ). s.out.items ++ (flat_map reply_packet ending ++ l)) (sym (one_packet text))
    ∙ ap (λ (l : List ℕ). s.out.items ++ l) (sym (flat_joined reply_packet ending (text ∷ [])))

pub stop_last : (s t u : Server) (halt : Halt) → t.session ≡ s.session → u.last.items ≡ reply_packet (halt_text t.session.stops.ranges halt) → u.last.items ≡ last_packet s.last.items (stop_texts s.session halt)
stop_last s t u halt same second =
    let ending : List (List ℕ) = ending_texts s.session.run s.session.place halt in
    let text : List ℕ = halt_text s.session.stops.ranges halt in
    second ∙ ap (λ (d : Debugger). reply_packet (halt_text d.stops.ranges halt)) same ∙ last_joined s.last.items ending (text ∷ [])

-- ---- pauses

-- all that was to go went, and bytes came
pub pauses : (s t u : Server) (x y z : Option Talk) → Tells x y (Goes s.out.items) → OnlySends s t → t.out.items ≡ [] → Tells y z (Holds t u) → OnlyHolds t u → Tells x z (Does s u [])
pauses s t u x y z goes sends empty holds only =
    tells_then x y z (Goes s.out.items) (Holds t u) (Does s u []) (λ a b c h g. does_then s t u [] [] a b c (does_send s t a b h sends.held empty) (does_hold t u b c g only.out)) goes holds

all_taken : (bytes : List ℕ) → bytes ≡ take (length bytes) bytes
all_taken [] = refl
all_taken (b ∷ bytes) = λ i. b ∷ all_taken bytes i

goes_and_comes : (out : List ℕ) (a b c : Talk) → Goes out a b → MayCome b c → GoesSome out a c
goes_and_comes out a b c h g =
    ([] ++ g.0, out ++ [], length out, passes_then [] out g.0 [] a b c (goes_passes out a b h) (comes_passes g.0 b c g.1), append-nil out ∙ all_taken out)

-- all of it went, and then nothing more came
pub pauses_refused : (out : List ℕ) (x y z : Option Talk) → Tells x y (Goes out) → Tells y z MayCome → Tells x z (GoesSome out)
pauses_refused out x y z goes comes = tells_then x y z (Goes out) MayCome (GoesSome out) (goes_and_comes out) goes comes

pub sends_refused : (out : List ℕ) (x y : Option Talk) → Tells x y (GoesPartly out) → Tells x y (GoesSome out)
sends_refused out x y told = tells_so x y (GoesPartly out) (GoesSome out) (some_goes out) told
