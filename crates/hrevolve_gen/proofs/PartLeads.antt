-- Where the actions of a part lead.
use Rattle.std.proofs.Common.{◌≡◌, ◌==◌, ℕ, zero, suc, ◌+◌, ◌-◌, ◌<◌, ◌≤◌, cond, Bool, true, false, ◌&&◌, ◌||◌, eq-eqb, List, [], ◌∷◌, ◌++◌, length, refl, sym, ap, ◌∙◌, subst, arith, inl, inr}
use Rattle.std.proofs.lemmas.Bool.{cases_Bool, eqb-true, eqb-false}
use Rattle.plan_types.specs.declared.action.Keep.TheVariants.{Nothing, Store, Tape}
use Rattle.plan_types.specs.declared.action.Dest.TheVariants.{Work}
use Rattle.plan_types.specs.declared.action.Action.{Action}
use Rattle.plan_types.specs.declared.action.Action.TheVariants.{Forward, Reverse, Copy, Move, EndForward}
use Rattle.level_book.specs.BookCosts.{BookCosts, slots_of, room}
use Rattle.level_book.specs.Configuration.{Configuration}
use Rattle.level_book.specs.Moves.{Goes, IsHeld}
use Rattle.level_book.specs.Valid.{Leads}
use Rattle.level_book.specs.NestedClass.{Image}
use Rattle.level_book.specs.UnderTable.{Tables}
use Rattle.hrevolve_gen.specs.HRevolveList.{Part, one, faster, split, actions, Reads}
use Rattle.hrevolve_gen.proofs.Images.{Below, below_later, on_level, among, none_faster, one_more}
use Rattle.hrevolve_gen.proofs.PartNested.{image, stack}
use Rattle.hrevolve_gen.proofs.HeldImages.{leads_on, At, works, one_reversed, last_reversed, moved, stored}

-- The stretch ends before the last step where its first state is held, and the state is in work where it isn't.
abbrev pub Ready : Bool → ℕ → Configuration → ℕ → ℕ → Type 0
Ready true steps c b l = b + l < steps
Ready false steps c b l = (b + l ≤ steps) × (c.work ≡ b)

module _ (steps : ℕ) (book : BookCosts) (t : Tables) where
  abbrev LeadsTo : Configuration → List Action → List Image → ℕ → Type 0
  LeadsTo c list images b = (d : Configuration) × Leads steps (slots_of book) c list d × At steps book d images b

  -- an action more at the front
  first : (c m : Configuration) (a : Action) (list : List Action) (images : List Image) (b : ℕ) → Goes steps (slots_of book) c a m → LeadsTo m list images b → LeadsTo c (a ∷ list) images b
  first c m a list images b goes to = (to.0, (m, goes, to.1), to.2)

  -- the image of b is held on level k
  there : (c : Configuration) (images : List Image) (b k r : ℕ) → At steps book c (image b k ∷ images) r → k < length (slots_of book) → IsHeld (slots_of book) c b k
  there c images b k r at known = record {
    level = known;
    there = at.holds.member k b ∙ ap (λ x. (x && (b == b)) || among images k b) (eq-eqb k k refl) ∙ ap (λ x. x || among images k b) (eq-eqb b b refl);
  }

  pub part_leads : (p : Part) (held : Bool) (k b l m : ℕ) (images : List Image) (c : Configuration) → Reads steps book t held k l m p → Below images b k →
      k < length (slots_of book) → on_level k (stack held b k images) + m ≤ room book k steps → At steps book c (stack held b k images) (b + l) → Ready held steps c b l →
      LeadsTo c (actions steps held k b p) images b
  part_leads one false k b l m images c reads below known free at ready =
      let P : ℕ → Type 0 = λ l. At steps book c images (b + l) in
      let at = subst P reads.0 at in
      let Q : Bool → Type 0 = λ x. LeadsTo c (cond x (Forward b (b + 1) Tape ∷ EndForward ∷ Reverse (b + 1) b ∷ []) (Forward b (b + 1) Tape ∷ Reverse (b + 1) b ∷ [])) images b in
      elim (cases_Bool (b + 1 == steps)) [
        | inl e ↦ subst Q (sym e) (last_reversed steps book c images b at ready.1 (eqb-true (b + 1) steps e))
        | inr e ↦ subst Q (sym e) (one_reversed steps book c images b at ready.1 (let ne = eqb-false (b + 1) steps e in omega (arith, ready.0, reads.0, ne)))
      ]
  part_leads one true k b l m images c reads below known free at ready =
      let P : ℕ → Type 0 = λ l. At steps book c (image b k ∷ images) (b + l) in
      let move = moved steps book c images b k (b + 1) (subst P reads.0 at) below known in
      first c move.0 (Move b k Work) (Forward b (b + 1) Tape ∷ Reverse (b + 1) b ∷ []) images b move.1 (one_reversed steps book move.0 images b move.2 move.3 (omega (arith, reads.0)))
  part_leads (faster p) held zero b l m images c reads below known free at ready = absurd reads
  part_leads (faster p) false (suc k) b l m images c reads below known free at ready =
      part_leads p false k b l (room book k steps) images c reads.2 (below_later images b b (suc k) k below (omega arith) (omega arith)) (omega arith)
      (omega (arith, none_faster images b (suc k) k below (omega arith))) at ready
  part_leads (faster p) true (suc k) b l m images c reads below known free at ready =
      let move = moved steps book c images b (suc k) (b + l) at below known in
      first c move.0 (Move b (suc k) Work) (actions steps false k b p) images b move.1
      (part_leads p false k b l (room book k steps) images move.0 reads.2 (below_later images b b (suc k) k below (omega arith) (omega arith)) (omega arith)
      (omega (arith, none_faster images b (suc k) k below (omega arith))) move.2 (omega arith, move.3))
  part_leads (split j p q) false k b l zero images c reads below known free at ready = absurd reads
  part_leads (split j p q) false k b l (suc m) images c reads below known free at ready =
      let store = stored steps book c images b k (b + l) (b + j) at ready.1 below known (omega (arith, reads.0)) (omega (arith, reads.1)) (omega arith) in
      let same : b + l ≡ b + j + (l - j) = omega (arith, reads.1) in
      let P : ℕ → Type 0 = λ n. At steps book store.0 (image b k ∷ images) n in
      let after = part_leads p false k (b + j) (l - j) m (image b k ∷ images) store.0 reads.3 (omega (arith, reads.0), omega arith, below_later images b (b + j) k k below (omega arith) (omega arith)) known
      (omega (arith, one_more images b k)) (subst P same store.2) (omega (arith, reads.1, ready.0), store.3) in
      let before = part_leads q true k b j m images after.0 reads.4 below known (omega (arith, one_more images b k)) after.2 (omega (arith, reads.1, ready.0)) in
      first c store.0 (Forward b (b + j) (Store k)) (actions steps false k (b + j) p ++ actions steps true k b q) images b store.1
      (before.0, leads_on steps (slots_of book) (actions steps false k (b + j) p) (actions steps true k b q) store.0 after.0 before.0 after.1 before.1, before.2)
  part_leads (split j p q) true k b l m images c reads below known free at ready =
      let copied = record c { work = b } in
      let gone = record copied { work = b + j } in
      let stack = image b k ∷ images in
      let same : b + l ≡ b + j + (l - j) = omega (arith, reads.1) in
      let P : ℕ → Type 0 = λ n. At steps book gone stack n in
      let after = part_leads p false k (b + j) (l - j) m stack gone reads.3 (omega (arith, reads.0), omega arith, below_later images b (b + j) k k below (omega arith) (omega arith)) known
      free (subst P same (works steps book copied stack (b + l) (b + j) (works steps book c stack (b + l) b at))) (omega (arith, reads.1), refl) in
      let before = part_leads q true k b j m images after.0 reads.4 below known free after.2 (omega (arith, reads.1)) in
      first c copied (Copy b k Work) (Forward b (b + j) Nothing ∷ (actions steps false k (b + j) p ++ actions steps true k b q)) images b
      (at.ended, there c images b k (b + l) at known, refl)
      (first copied gone (Forward b (b + j) Nothing) (actions steps false k (b + j) p ++ actions steps true k b q) images b
      (at.ended, record { here = refl; ahead = omega (arith, reads.0); within = omega (arith, reads.1, at.left) }, refl)
      (before.0, leads_on steps (slots_of book) (actions steps false k (b + j) p) (actions steps true k b q) gone after.0 before.0 after.1 before.1, before.2))
