-- How undo lists lead back over the states of runs, and that there is room for them.
use Rattle.std.proofs.Common.{◌≡◌, ℕ, zero, suc, ◌+◌, ◌*◌, ◌<◌, ◌≤◌, List, [], ◌∷◌, length, drop, refl, sym, ap, subst, ◌∙◌, arith}
use Rattle.std.proofs.lemmas.List.Sums.{sum_by-cons}
use Rattle.std.specs.List.{sum_by}
use Rattle.rv_machine.specs.MachineState.{MachineState}
use Rattle.rv_machine.specs.StepTable.{next, written}
use Rattle.rv_machine.specs.States.{state_number}
use Rattle.rv_machine.specs.Watchers.{AreNoted, CanNote}
use Rattle.unit_undo.specs.Entry.{Entry, undone, Undoes}
use Rattle.unit_undo.specs.UndoState.{UndoState, old_bytes, HasRoomFor, IsPushed, CanGoBack}
use Rattle.unit_undo.specs.UndoTrail.{LeadsBack, led_back, states_below, bytes_written, HasSteps, IsMadeFor}
use Rattle.rv_machine.specs.StepChanges.{left_of}
use Rattle.rv_machine.proofs.MemoryWrites.{length-addresses}
use Rattle.rv_machine.proofs.StepCases.{left_at_most, steps}
use Rattle.unit_undo.proofs.StepUndo.{mapped_next}

-- the entry of one more step
pub leads_on : (entries : List Entry) (s : MachineState) (states : List MachineState) (journal : List (List ℕ)) (e : Entry) → LeadsBack entries s states → Undoes e s journal → LeadsBack (e ∷ entries) (next s journal) (s ∷ states)
leads_on entries s states journal e h undoes = (mapped_next s journal e.at (length e.bytes) undoes.mapped, undoes.state, h)

-- the states that entries lead back over are those to which they lead back
pub led : (entries : List Entry) (s : MachineState) (states : List MachineState) → LeadsBack entries s states → led_back entries s ≡ states
led [] s [] h = refl
led [] s (t ∷ states) h = absurd h
led (e ∷ entries) s [] h = absurd h
led (e ∷ entries) s (t ∷ states) h = (λ i. h.1 i ∷ led_back entries (h.1 i)) ∙ ap (λ ts. t ∷ ts) (led entries t states h.2)

pub one_each : (entries : List Entry) (s : MachineState) (states : List MachineState) → LeadsBack entries s states → length entries ≡ length states
one_each [] s [] h = refl
one_each [] s (t ∷ states) h = absurd h
one_each (e ∷ entries) s [] h = absurd h
one_each (e ∷ entries) s (t ∷ states) h = ap suc (one_each entries t states h.2)

pub length-states_below : (first : MachineState) (journal : List (List ℕ)) (n : ℕ) → length (states_below first journal n) ≡ n
length-states_below first journal zero = refl
length-states_below first journal (suc n) = ap suc (length-states_below first journal n)

-- The first n steps of a run write at most four bytes each, beside those that they read.
one_more : (b w l m n r : ℕ) → b + l ≤ 4 * n + r → w + m ≤ 4 + l → b + w + m ≤ 4 * suc n + r
one_more b w l m n r h k = omega arith

none_yet : (l : ℕ) → 0 + l ≤ 4 * 0 + l
none_yet l = omega arith

pub writes_at_most : (first : MachineState) (journal : List (List ℕ)) (n : ℕ) →
    bytes_written first journal n + left_of (drop (state_number first journal n).item journal) (state_number first journal n).offset ≤ 4 * n + left_of (drop first.item journal) first.offset
writes_at_most first journal zero = none_yet _
writes_at_most first journal (suc n) =
    let s : MachineState = state_number first journal n in
    one_more (bytes_written first journal n) (length (written s journal)) (left_of (drop s.item journal) s.offset) (left_of (drop (next s journal).item journal) (next s journal).offset) n (left_of (drop first.item journal) first.offset) (writes_at_most first journal n) (steps s journal).bytes

enough : (before now l n r all unit room : ℕ) → before + now + l ≤ 4 * suc n + r → r ≤ all → 4 * unit + all ≤ room → n < unit → before + now ≤ room
enough before now l n r all unit room h k m c = omega arith

pub fits : (u : UndoState) (first : MachineState) (journal : List (List ℕ)) (n : ℕ) → IsMadeFor journal u → HasSteps u first journal n → n < u.unit → HasRoomFor u (state_number first journal n) journal
fits u first journal n made h c =
    let s : MachineState = state_number first journal n in
    let count : length u.entries ≡ n = one_each u.entries s (states_below first journal n) h.back ∙ length-states_below first journal n in
    record {
      entry = subst (λ k. k < u.unit) (sym count) c;
      bytes =
          subst (λ k. k + length (written s journal) ≤ u.room) (sym h.bytes)
          (enough (bytes_written first journal n) (length (written s journal)) _ n _ (sum_by length journal) u.unit u.room (writes_at_most first journal (suc n)) (left_at_most journal first.item first.offset) made c);
    }

pub cleared : (unit room : ℕ) (first : MachineState) (journal : List (List ℕ)) → HasSteps (record { unit = unit; room = room; entries = [] }) first journal 0
cleared unit room first journal = record { back = tt; bytes = refl }

swapped : (a b c d : ℕ) → b ≡ c → a ≡ d → a + b ≡ c + d
swapped a b c d p q = omega arith

pushed_suc : (u : UndoState) (first : MachineState) (journal : List (List ℕ)) (n : ℕ) (e : Entry) → HasSteps u first journal n → Undoes e (state_number first journal n) journal → HasSteps (record u { entries = e ∷ u.entries }) first journal (suc n)
pushed_suc u first journal n e h undoes =
    let s : MachineState = state_number first journal n in
    let size : length e.bytes ≡ length (written s journal) = sym (length-addresses e.at (length e.bytes)) ∙ ap length undoes.addresses in
    record {
      back = leads_on u.entries s (states_below first journal n) journal e h.back undoes;
      bytes = sum_by-cons (λ (e : Entry). length e.bytes) e u.entries ∙ swapped (length e.bytes) (old_bytes u.entries) (bytes_written first journal n) (length (written s journal)) h.bytes size;
    }

pub pushed : (u : UndoState) (first : MachineState) (journal : List (List ℕ)) (n : ℕ) (e : Entry) → HasSteps u first journal n → Undoes e (state_number first journal n) journal → HasSteps (record u { entries = e ∷ u.entries }) first journal (n + 1)
pushed u first journal n e h undoes =
    let one : suc n ≡ n + 1 = omega arith in
    subst (HasSteps (record u { entries = e ∷ u.entries }) first journal) one (pushed_suc u first journal n e h undoes)

-- An undo list that was empty and then watched steps of a run has an entry of each of them, and still the same room.
pub record Watches (first : MachineState) (journal : List (List ℕ)) (n : ℕ) (u v : UndoState) : Type 0 where
  pub has : HasSteps v first journal n
  pub unit : v.unit ≡ u.unit
  pub room : v.room ≡ u.room

pub noted : (first : MachineState) (journal : List (List ℕ)) (n : ℕ) (u v : UndoState) → u.entries ≡ [] → AreNoted IsPushed first journal n u v → Watches first journal n u v
noted first journal zero u v empty is = record {
  has = subst (λ (w : UndoState). HasSteps w first journal 0) (ap (λ es. record u { entries = es }) (sym empty) ∙ sym is) (cleared u.unit u.room first journal);
  unit = ap (λ (w : UndoState). w.unit) is;
  room = ap (λ (w : UndoState). w.room) is;
}
noted first journal (suc n) u v empty h =
    let before = noted first journal n u h.0 empty h.1.0 in
    let e = h.1.1.0 in
    let is = h.1.1.1.0 in
    record {
      has = subst (λ (w : UndoState). HasSteps w first journal (suc n)) (sym is) (pushed_suc h.0 first journal n e before.has h.1.1.1.1);
      unit = ap (λ (w : UndoState). w.unit) is ∙ before.unit;
      room = ap (λ (w : UndoState). w.room) is ∙ before.room;
    }

room_stays : (u w r s : ℕ) → w ≡ u → s ≡ r → (m : ℕ) → 4 * u + m ≤ r → 4 * w + m ≤ s
room_stays u w r s p q m h = omega arith

below : (k n u w : ℕ) → k < n → n ≤ u → w ≡ u → k < w
below k n u w a b c = omega arith

pub can_note : (first : MachineState) (journal : List (List ℕ)) (n : ℕ) (u : UndoState) → IsMadeFor journal u → u.entries ≡ [] → n ≤ u.unit → CanNote HasRoomFor IsPushed first journal n u
can_note first journal n u made empty few k w l h =
    let so = noted first journal k u w empty h in
    fits w first journal k (room_stays u.unit w.unit u.room w.room so.unit so.room (sum_by length journal) made) so.has (below k n u.unit w.unit l few so.unit)

-- One step back along an undo list that leads back: it may go, and what is left of the list leads back from there.
pub can_go : (entries : List Entry) (s : MachineState) → 0 < length entries → LeadsBack entries s (led_back entries s) → CanGoBack entries s
can_go [] s some h = absurd (omega (arith, some))
can_go (e ∷ entries) s some h = h.0

pub walked : (old new : List Entry) (e : Entry) (s t : MachineState) → old ≡ e ∷ new → t ≡ undone e s → LeadsBack old s (led_back old s) → LeadsBack new t (led_back new t)
walked old new e s t is there h =
    let all = subst (λ (es : List Entry). LeadsBack es s (led_back es s)) is h in
    subst (λ (x : MachineState). LeadsBack new x (led_back new x)) (sym there) all.2

-- and the states to which it leads back are this one, and those of what is left
pub walked_states : (old new : List Entry) (e : Entry) (s t : MachineState) → old ≡ e ∷ new → t ≡ undone e s → led_back old s ≡ t ∷ led_back new t
walked_states old new e s t is there = ap (λ (es : List Entry). led_back es s) is ∙ ap (λ x. x ∷ led_back new x) (sym there)

-- so it is where the entry is taken away
pub gone : (old new : UndoState) (e : Entry) (s t : MachineState) → old ≡ record new { entries = e ∷ new.entries } → t ≡ undone e s → LeadsBack old.entries s (led_back old.entries s) →
    LeadsBack new.entries t (led_back new.entries t)
gone old new e s t is = walked old.entries new.entries e s t (ap (λ (u : UndoState). u.entries) is)

pub gone_states : (old new : UndoState) (e : Entry) (s t : MachineState) → old ≡ record new { entries = e ∷ new.entries } → t ≡ undone e s → led_back old.entries s ≡ t ∷ led_back new.entries t
gone_states old new e s t is = walked_states old.entries new.entries e s t (ap (λ (u : UndoState). u.entries) is)

-- one state for each entry
pub length-led_back : (entries : List Entry) (s : MachineState) → length (led_back entries s) ≡ length entries
length-led_back [] s = refl
length-led_back (e ∷ entries) s = ap suc (length-led_back entries (undone e s))

-- a list that leads back over states leads back over those to which it leads
pub leads_there : (entries : List Entry) (s : MachineState) (states : List MachineState) → LeadsBack entries s states → LeadsBack entries s (led_back entries s)
leads_there entries s states h = subst (LeadsBack entries s) (sym (led entries s states h)) h
