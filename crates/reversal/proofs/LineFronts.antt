-- Over any keepers what a run wrote that stopped is the beginning of the lines of the run's states, or the images of two states collide.
use Rattle.std.proofs.Common.{◌≡◌, ◌⊎◌, inl, inr, ℕ, zero, suc, ◌+◌, ◌≤◌, List, [], ◌∷◌, ◌++◌, map, take, drop, slice_get, Option, Some, None, Contains, append_assoc, append-nil, refl, ap, sym, ◌∙◌, subst, arith}
use Rattle.std.proofs.lemmas.Grind.{flat_map-append}
use Rattle.std.proofs.lemmas.List.{take-map, take-append-drop}
use Rattle.std.proofs.lemmas.List.Elements.{Contains-append_left, Contains-append_right}
use Rattle.keepers.specs.Claims.{Tells}
use Rattle.plan_types.specs.declared.action.Action.{Action}
use Rattle.level_book.specs.Valid.{Valid}
use Rattle.schedule_rules.proofs.VerdictReasons.{take_one_more}
use Rattle.input_journal.specs.Form.{IsRecorded}
use Rattle.rv_machine.specs.MachineState.{IsMachineState}
use Rattle.reverse_runner.specs.StateOrder.{handed_by, handed}
use Rattle.reverse_queries.specs.Collision.{CollidesOn}
use Rattle.reversal.specs.Job.{Run, last_of, state_of, unit_state}
use Rattle.reversal.specs.Output.{line_of, lines_down, Adds, AddsFrontOf}
use Rattle.reversal.specs.Moment.{Moment}
use Rattle.reversal.specs.Deeds.{Deed, States, deed_of, bytes_of, bytes_written}
use Rattle.reversal.specs.RunTrace.{AllLevels, SameLevels, Went}
use Rattle.reversal.specs.Course.{Shown, Stops, AddsAndPart}
use Rattle.reversal.specs.CommandRun.{performing}
use Rattle.reversal.proofs.Collision.{shown_or_collides}
use Rattle.reversal.proofs.ListDeeds.{bytes_performed}

-- these bytes begin with those
abbrev IsFront : List ℕ → List ℕ → Type 0
IsFront front bytes = (rest : List ℕ) × (bytes ≡ front ++ rest)

front_of_front : (a b c : List ℕ) → IsFront a b → IsFront b c → IsFront a c
front_of_front a b c p q = (p.0 ++ q.0, q.1 ∙ ap (λ l. l ++ q.0) p.1 ∙ append_assoc a p.0 q.0)

front_behind : (front a b : List ℕ) → IsFront a b → IsFront (front ++ a) (front ++ b)
front_behind front a b p = (p.0, ap (λ l. front ++ l) p.1 ∙ sym (append_assoc front a p.0))

-- the first so many of some lists begin them all
front_deeds : (n : ℕ) (ds : List Deed) → IsFront (bytes_written (take n ds)) (bytes_written ds)
front_deeds n ds = (bytes_written (drop n ds), ap bytes_written (sym (take-append-drop n ds)) ∙ flat_map-append (λ (d : Deed). bytes_of d.pieces) (take n ds) (drop n ds))

fewer : (n m : ℕ) (ds : List Deed) → n ≤ m → take n (take m ds) ≡ take n ds
fewer zero m ds le = refl
fewer (suc n) zero ds le = absurd (omega (arith, le))
fewer (suc n) (suc m) [] le = refl
fewer (suc n) (suc m) (d ∷ ds) le = ap (λ l. d ∷ l) (fewer n m ds (omega (arith, le)))

front_more : (n : ℕ) (ds : List Deed) → IsFront (bytes_written (take n ds)) (bytes_written (take (n + 1) ds))
front_more n ds =
    let F : List Deed → Type 0 = λ l. IsFront (bytes_written l) (bytes_written (take (n + 1) ds)) in
    subst F (fewer n (n + 1) ds (omega arith)) (front_deeds n (take (n + 1) ds))

-- some whole pieces and a part of the next one begin all pieces
front_pieces : (whole k : ℕ) (piece : List ℕ) (pieces : List (List ℕ)) → slice_get pieces whole ≡ Some piece → IsFront (bytes_of (take whole pieces) ++ take k piece) (bytes_of pieces)
front_pieces whole k piece [] next = absurd cc
front_pieces zero k piece (p ∷ pieces) next =
    let same : p ≡ piece = cc in
    (drop k piece ++ bytes_of pieces, ap (λ l. l ++ bytes_of pieces) (same ∙ sym (take-append-drop k piece)) ∙ append_assoc (take k piece) (drop k piece) (bytes_of pieces))
front_pieces (suc whole) k piece (p ∷ pieces) next =
    let rest = front_behind p _ _ (front_pieces whole k piece pieces next) in
    (rest.0, rest.1 ∙ ap (λ l. l ++ rest.0) (sym (append_assoc p (bytes_of (take whole pieces)) (take k piece))))

-- lines of states that are the same where a list hands them out
same_lines : (s t : States) (numbers : List ℕ) → ((n : ℕ) → Contains numbers n → s n ≡ t n) → bytes_of (map (line_of s) numbers) ≡ bytes_of (map (line_of t) numbers)
same_lines s t [] same = refl
same_lines s t (n ∷ numbers) same =
    let here : line_of s n ≡ line_of t n = ap (λ x. line_of (λ _. x) n) (same n (0, omega arith, refl)) in
    let rest = same_lines s t numbers (λ m h. (let lt = h.1 in same m (suc h.0, omega (arith, lt), h.2))) in
    (λ i. here i ++ rest i)

same_written : (s t : States) (unit steps : ℕ) (list : List Action) → ((n : ℕ) → Contains (handed unit steps list) n → s n ≡ t n) → bytes_written (map (deed_of s unit steps) list) ≡ bytes_written (map (deed_of t unit steps) list)
same_written s t unit steps [] same = refl
same_written s t unit steps (a ∷ list) same =
    let here = same_lines s t (handed_by unit steps a) (λ n h. same n (Contains-append_left (handed_by unit steps a) (handed unit steps list) n h)) in
    let rest = same_written s t unit steps list (λ n h. same n (Contains-append_right (handed_by unit steps a) (handed unit steps list) n h)) in
    (λ i. here i ++ rest i)

-- what is told after bytes were added with which others begin
tells_front : (old new : Option (List ℕ)) (front bytes : List ℕ) → IsFront front bytes → Tells old new (Adds front) → Tells old new (AddsFrontOf bytes)
tells_front None None front bytes is told = tt
tells_front None (Some b) front bytes is told = told
tells_front (Some a) None front bytes is told = told
tells_front (Some a) (Some b) front bytes is told = (front, is.0, is.1, told)

tells_part : (old new : Option (List ℕ)) (front piece bytes : List ℕ) → ((k : ℕ) → IsFront (front ++ take k piece) bytes) → Tells old new (AddsAndPart front piece) → Tells old new (AddsFrontOf bytes)
tells_part None None front piece bytes is told = tt
tells_part None (Some b) front piece bytes is told = told
tells_part (Some a) None front piece bytes is told = told
tells_part (Some a) (Some b) front piece bytes is told = (front ++ take told.0 piece, (is told.0).0, (is told.0).1, told.1 ∙ append_assoc a front (take told.0 piece))

module _ (run : Run) (is : IsMachineState run.first) (recorded : IsRecorded run.journal) (valid : Valid run.steps run.slots run.list) where
  abbrev lines : List ℕ
  lines = lines_down (state_of run) (last_of run)

  abbrev deeds : States → List Deed
  deeds states = map (deed_of states run.unit run.steps) run.list

  -- what the first so many deeds write, by the states of the run
  front_of_run : (n : ℕ) → IsFront (bytes_written (take n (deeds (state_of run)))) lines
  front_of_run n =
      let F : List ℕ → Type 0 = λ l. IsFront (bytes_written (take n (deeds (state_of run)))) l in
      subst F (bytes_performed (state_of run) run.unit run.steps run.slots run.list valid) (front_deeds n (deeds (state_of run)))

  -- and by those that are shown, which are the same as far as they are handed out
  front_shown : (n : ℕ) (states : States) → ((m : ℕ) → Contains (handed run.unit run.steps (take n run.list)) m → states m ≡ state_of run m) → IsFront (bytes_written (take n (deeds states))) lines
  front_shown n states same =
      let taken = take-map (deed_of states run.unit run.steps) n run.list in
      let its = take-map (deed_of (state_of run) run.unit run.steps) n run.list in
      let one = ap bytes_written taken ∙ same_written states (state_of run) run.unit run.steps (take n run.list) same ∙ sym (ap bytes_written its) in
      let F : List ℕ → Type 0 = λ l. IsFront l lines in
      subst F (sym one) (front_of_run n)

  -- the deeds before a next one, that one having written nothing
  pub front_or_collides : (Same : SameLevels) (performed : ℕ) (shown : Shown) (old new : Moment) (went : Went Same run performed shown.states old new) →
      Tells old.told new.told (Adds (bytes_written (take performed (deeds shown.states)))) →
      Tells old.told new.told (AddsFrontOf lines) ⊎ CollidesOn (unit_state run) (take performed run.list) went.through.held
  front_or_collides Same performed shown old new went added = elim (shown_or_collides run is recorded valid Same performed shown.states old new went) [
    | inr collides ↦ inr collides
    | inl right ↦ inl (
        let more : IsFront (bytes_written (take (performed + 1) (deeds shown.states))) lines = front_shown (performed + 1) shown.states right in
        let less : IsFront (bytes_written (take performed (deeds shown.states))) (bytes_written (take (performed + 1) (deeds shown.states))) = front_more performed (deeds shown.states) in
        tells_front old.told new.told _ lines (front_of_front _ _ _ less more) added)
  ]

  -- the deeds before a next one, and a part of that
  pub part_or_collides : (performed : ℕ) (shown : Shown) (old new : Moment) (stops : Stops (performing run) shown performed old new) →
      Tells old.told new.told (AddsFrontOf lines) ⊎ CollidesOn (unit_state run) (take performed run.list) stops.held.through.held
  part_or_collides performed shown old new stops = elim (shown_or_collides run is recorded valid AllLevels performed shown.states old new stops.held) [
    | inr collides ↦ inr collides
    | inl right ↦ inl (
        let until = stops.until in
        let ds = deeds shown.states in
        let more : IsFront (bytes_written (take (performed + 1) ds)) lines = front_shown (performed + 1) shown.states right in
        let split : bytes_written (take (performed + 1) ds) ≡ bytes_written (take performed ds) ++ bytes_of until.deed.pieces =
        ap bytes_written (take_one_more ds performed until.deed until.there) ∙ flat_map-append (λ (d : Deed). bytes_of d.pieces) (take performed ds) (until.deed ∷ [])
        ∙ ap (λ l. bytes_written (take performed ds) ++ l) (append-nil (bytes_of until.deed.pieces)) in
        let M : List ℕ → Type 0 = λ l. IsFront l lines in
        let so_far = bytes_written (take performed ds) in
        tells_part old.told new.told (so_far ++ bytes_of (take until.whole until.deed.pieces)) until.piece lines
        (λ k. (let F : List ℕ → Type 0 = λ l. IsFront l lines in
        subst F (sym (append_assoc so_far (bytes_of (take until.whole until.deed.pieces)) (take k until.piece)))
        (front_of_front _ _ _ (front_behind so_far _ _ (front_pieces until.whole k until.piece until.deed.pieces until.next)) (subst M split more))))
        until.added)
  ]
