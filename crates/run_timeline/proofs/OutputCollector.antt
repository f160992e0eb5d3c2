-- The output of a run that was collected.
use Rattle.std.proofs.Common.{◌≡◌, ℕ, zero, suc, List, ◌++◌, false, append_assoc, sym, ap, ◌∙◌}
use Rattle.std.proofs.lemmas.List.{append-nil}
use Rattle.rv_machine.specs.MachineState.{MachineState}
use Rattle.rv_machine.specs.States.{state_number}
use Rattle.rv_machine.specs.Output.{output, outputs}
use Rattle.rv_machine.specs.Watchers.{AreNoted}
use Rattle.run_timeline.specs.declared.collector.Collector.{Collector}
use Rattle.run_timeline.specs.OutputCollector.{IsCollected}
use Rattle.run_timeline.specs.Moves.{Run, state}

-- what so many steps write was added, or there was no memory for it
collected : (first : MachineState) (journal : List (List ℕ)) (n : ℕ) (v w : Collector) → AreNoted IsCollected first journal n v w → w.failed ≡ false →
    (v.failed ≡ false) × (w.bytes.items ≡ v.bytes.items ++ outputs first journal n)
collected first journal zero v w h ok =
    (ap (λ (c : Collector). c.failed) (sym h) ∙ ok, ap (λ (c : Collector). c.bytes.items) h ∙ sym (append-nil v.bytes.items))
collected first journal (suc n) v w h ok =
    let u : Collector = h.0 in
    let more : (u.failed ≡ false) × (w.bytes.items ≡ u.bytes.items ++ output (state_number first journal n)) = h.1.1 ok in
    let before = collected first journal n v u h.1.0 more.0 in
    (before.0, more.1 ∙ ap (λ xs. xs ++ output (state_number first journal n)) before.1 ∙ append_assoc v.bytes.items (outputs first journal n) (output (state_number first journal n)))

-- the same of steps from a place of a run on
pub collected_from : (r : Run) (p m n : ℕ) (s : MachineState) (v w : Collector) → s ≡ state r p → m ≡ n → AreNoted IsCollected s r.journal m v w → w.failed ≡ false →
    (v.failed ≡ false) × (w.bytes.items ≡ v.bytes.items ++ outputs (state r p) r.journal n)
collected_from r p m n s v w here is h ok =
    let all = collected s r.journal m v w h ok in
    (all.0, all.1 ∙ (λ i. v.bytes.items ++ outputs (here i) r.journal (is i)))
