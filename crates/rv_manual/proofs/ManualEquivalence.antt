-- Words, steps and runs: by the listing of the manual they are those of the machine.
use Rattle.std.proofs.Common.{cond, ◌≡◌, ℕ, zero, suc, ◌^◌, ◌<◌, ◌≤◌, List, refl, sym, ap, subst, ◌∙◌, Option, Some, None, IfSome, is_some, count_by}
use Rattle.input_journal.specs.Form.{IsRecorded}
use Rattle.rv_pages.specs.Memory.{word_at}
use Rattle.rv_pages.proofs.MemoryInvariant.{word_below}
use Rattle.rv_decode.specs.Rows.{rows, decoded}
use Rattle.rv_machine.specs.declared.status.Status.{Status}
use Rattle.rv_machine.specs.declared.status.Status.TheVariants.{Running, Exited, Trapped}
use Rattle.rv_machine.specs.MachineState.{MachineState, IsMachineState}
use Rattle.rv_machine.specs.StepTable.{next, executed, is_running}
use Rattle.rv_machine.specs.States.{state_number}
use Rattle.rv_machine.proofs.StateInvariant.{number_is_state}
use Rattle.rv_manual.specs.Formats.{takes}
use Rattle.rv_manual.specs.Listing.{listing}
use Rattle.rv_manual.specs.NextState.{is_listed, by_word, by_status, next_by_manual, state_by_manual}
use Rattle.rv_manual.proofs.LoadsAndStores.{word_is}
use Rattle.rv_manual.proofs.Rows.{steps_agree, words_agree, counts_agree}

pub words : (w : ℕ) → w < 2 ^ 32 → is_listed w ≡ is_some (decoded w)
unfolding decoded
words w l = words_agree w l

pub apart : (w : ℕ) → w < 2 ^ 32 → count_by (λ row. row.takes w) rows ≤ 1 → count_by (λ row. takes w row) listing ≤ 1
apart w l h = subst (λ n. n ≤ 1) (sym (counts_agree w l)) h

executes : (o : Option ℕ) (s : MachineState) (journal : List (List ℕ)) → IfSome o (λ w. w < 2 ^ 32) → IsMachineState s →
    executed s journal o ≡ by_word o s journal
unfolding decoded
executes None s journal small h = refl
executes (Some w) s journal small h = steps_agree w s journal small h

runs : (status : Status) (s : MachineState) (journal : List (List ℕ)) → s.status ≡ status → IsMachineState s → next s journal ≡ by_status status s journal
runs Running s journal e h =
    ap (λ t. cond (is_running t) (executed s journal (word_at s.memory s.pc)) s) e
    ∙ executes (word_at s.memory s.pc) s journal (word_below s.memory h.memory s.pc) h
    ∙ ap (λ o. by_word o s journal) (sym (word_is s.memory s.pc))
runs (Exited code) s journal e h = ap (λ t. cond (is_running t) (executed s journal (word_at s.memory s.pc)) s) e
runs (Trapped cause) s journal e h = ap (λ t. cond (is_running t) (executed s journal (word_at s.memory s.pc)) s) e

pub steps : (s : MachineState) (journal : List (List ℕ)) → IsMachineState s → next s journal ≡ next_by_manual s journal
steps s journal h = runs s.status s journal refl h

pub states : (first : MachineState) (journal : List (List ℕ)) (n : ℕ) → IsMachineState first → IsRecorded journal →
    state_number first journal n ≡ state_by_manual first journal n
states first journal zero h recorded = refl
states first journal (suc n) h recorded =
    steps (state_number first journal n) journal (number_is_state first journal n h recorded)
    ∙ ap (λ s. next_by_manual s journal) (states first journal n h recorded)
