-- A part of a disk list is nested, and leads on.
use Rattle.std.proofs.Common.{◌≡◌, ℕ, ◌+◌, ◌-◌, ◌<◌, ◌≤◌, false, ◌||◌, List, ◌∷◌, ◌++◌, length, refl, sym, ap, ◌∙◌, subst, arith, append_assoc, eq-eqb}
use Rattle.plan_types.specs.declared.action.Keep.TheVariants.{Nothing, Store}
use Rattle.plan_types.specs.declared.action.Dest.TheVariants.{Work}
use Rattle.plan_types.specs.declared.action.Action.{Action}
use Rattle.plan_types.specs.declared.action.Action.TheVariants.{Forward, Copy, Move}
use Rattle.level_book.specs.BookCosts.{BookCosts, slots_of, room}
use Rattle.level_book.specs.Configuration.{Configuration}
use Rattle.level_book.specs.Moves.{Goes, IsHeld}
use Rattle.level_book.specs.Valid.{Leads}
use Rattle.level_book.specs.NestedClass.{Image, IsNestedFrom}
use Rattle.level_book.specs.UnderTable.{Tables}
use Rattle.level_book.specs.DiskUnderTable.{DiskTables}
use Rattle.hrevolve_gen.specs.HRevolveList.{actions}
use Rattle.hrevolve_gen.proofs.Images.{Below, below_later, top_of_below, on_level, among, none_faster, one_more}
use Rattle.hrevolve_gen.proofs.PartNested.{image, keeps, part_nested}
use Rattle.hrevolve_gen.proofs.HeldImages.{leads_on, At, works, moved, stored}
use Rattle.hrevolve_gen.proofs.PartLeads.{part_leads}
use Rattle.disk_gen.specs.DiskRevolveList.{HeldPart, finally, again, DiskPart, alone, parted, held_actions, disk_actions, fast_tables, ReadsHeld, ReadsDisk}

-- two lists, one after the other
nested_both : (xs ys rest : List Action) (b i l : ℕ) (images : List Image) → i < l → IsNestedFrom (b + i + (l - i)) images (xs ++ (ys ++ rest)) → IsNestedFrom (b + l) images ((xs ++ ys) ++ rest)
nested_both xs ys rest b i l images lt is =
    let e : b + i + (l - i) ≡ b + l = omega arith in
    let P : ℕ → Type 0 = λ n. IsNestedFrom n images (xs ++ (ys ++ rest)) in
    let Q : List Action → Type 0 = λ list. IsNestedFrom (b + l) images list in
    subst Q (sym (append_assoc xs ys rest)) (subst P e is)

module _ (steps : ℕ) (book : BookCosts) (t : DiskTables) where
  abbrev F : Tables
  F = fast_tables t

  abbrev c0 : ℕ
  c0 = room book 0 steps

  -- an image of b on level 1 is below what comes after b
  below_next : (images : List Image) (b i k : ℕ) → Below images b 1 → 1 ≤ i → k ≤ 1 → Below (image b 1 ∷ images) (b + i) k
  below_next images b i k below some le = (omega arith, le, below_later images b (b + i) 1 k below (omega arith) le)

  held_nested : (p : HeldPart) (b l : ℕ) (images : List Image) (rest : List Action) → ReadsHeld steps book t l p → Below images b 1 → IsNestedFrom b images rest →
      IsNestedFrom (b + l) (image b 1 ∷ images) (held_actions steps b p ++ rest)
  held_nested (finally p) b l images rest reads below is = (
    (refl, refl),
    (λ lt. keeps steps book F p 0 1 b l c0 rest reads.1 (omega arith)),
    part_nested steps book F p false 0 b l c0 images rest reads.1 (below_later images b b 1 0 below (omega arith) (omega arith)) is,
  )
  held_nested (again i p q) b l images rest reads below is = (
    (refl, refl),
    nested_both (actions steps false 0 (b + i) p) (held_actions steps b q) rest b i l (image b 1 ∷ images) reads.1
        (part_nested steps book F p false 0 (b + i) (l - i) c0 (image b 1 ∷ images) (held_actions steps b q ++ rest) reads.3 (below_next images b i 0 below reads.0 (omega arith))
        (held_nested q b i images rest reads.4 below is)),
  )

  pub disk_nested : (p : DiskPart) (b l : ℕ) (images : List Image) (rest : List Action) → ReadsDisk steps book t l p → Below images b 1 → IsNestedFrom b images rest →
      IsNestedFrom (b + l) images (disk_actions steps b p ++ rest)
  disk_nested (alone p) b l images rest reads below is = part_nested steps book F p false 0 b l c0 images rest reads.1 (below_later images b b 1 0 below (omega arith) (omega arith)) is
  disk_nested (parted j p q) b l images rest reads below is = (
    top_of_below images b 1 below,
    nested_both (disk_actions steps (b + j) p) (held_actions steps b q) rest b j l (image b 1 ∷ images) reads.1
        (disk_nested p (b + j) (l - j) (image b 1 ∷ images) (held_actions steps b q ++ rest) reads.3 (below_next images b j 1 below reads.0 (omega arith)) (held_nested q b j images rest reads.4 below is)),
  )

  abbrev LeadsTo : Configuration → List Action → List Image → ℕ → Type 0
  LeadsTo c list images b = (d : Configuration) × Leads steps (slots_of book) c list d × At steps book d images b

  -- an action more at the front
  ahead : (c m : Configuration) (a : Action) (list : List Action) (images : List Image) (b : ℕ) → Goes steps (slots_of book) c a m → LeadsTo m list images b → LeadsTo c (a ∷ list) images b
  ahead c m a list images b goes to = (to.0, (m, goes, to.1), to.2)

  -- the image of b is held on level 1
  there : (c : Configuration) (images : List Image) (b r : ℕ) → At steps book c (image b 1 ∷ images) r → 1 < length (slots_of book) → IsHeld (slots_of book) c b 1
  there c images b r at known = record { level = known; there = at.holds.member 1 b ∙ ap (λ x. x || among images 1 b) (eq-eqb b b refl) }

  held_leads : (p : HeldPart) (b l : ℕ) (images : List Image) (c : Configuration) → ReadsHeld steps book t l p → Below images b 1 → 1 < length (slots_of book) →
      At steps book c (image b 1 ∷ images) (b + l) → b + l < steps → LeadsTo c (held_actions steps b p) images b
  held_leads (finally p) b l images c reads below known at ready =
      let move = moved steps book c images b 1 (b + l) at below known in
      ahead c move.0 (Move b 1 Work) (actions steps false 0 b p) images b move.1
      (part_leads steps book F p false 0 b l c0 images move.0 reads.1 (below_later images b b 1 0 below (omega arith) (omega arith)) (omega arith)
      (omega (arith, none_faster images b 1 0 below (omega arith))) move.2 (omega arith, move.3))
  held_leads (again i p q) b l images c reads below known at ready =
      let copied = record c { work = b } in
      let gone = record copied { work = b + i } in
      let stack = image b 1 ∷ images in
      let same : b + l ≡ b + i + (l - i) = omega (arith, reads.1) in
      let P : ℕ → Type 0 = λ n. At steps book gone stack n in
      let later = actions steps false 0 (b + i) p in let sooner = held_actions steps b q in
      let after = part_leads steps book F p false 0 (b + i) (l - i) c0 stack gone reads.3 (below_next images b i 0 below reads.0 (omega arith)) (omega arith)
      (omega (arith, none_faster stack (b + i) 1 0 (below_next images b i 1 below reads.0 (omega arith)) (omega arith)))
      (subst P same (works steps book copied stack (b + l) (b + i) (works steps book c stack (b + l) b at))) (omega (arith, reads.1), refl) in
      let before = held_leads q b i images after.0 reads.4 below known after.2 (omega (arith, reads.1)) in
      ahead c copied (Copy b 1 Work) (Forward b (b + i) Nothing ∷ (later ++ sooner)) images b (at.ended, there c images b (b + l) at known, refl)
      (ahead copied gone (Forward b (b + i) Nothing) (later ++ sooner) images b
      (at.ended, record { here = refl; ahead = omega (arith, reads.0); within = omega (arith, reads.1, at.left) }, refl)
      (before.0, leads_on steps (slots_of book) later sooner gone after.0 before.0 after.1 before.1, before.2))

  -- as many images can be on level 1 as there are steps, and each is of another state
  pub disk_leads : (p : DiskPart) (b l : ℕ) (images : List Image) (c : Configuration) → ReadsDisk steps book t l p → Below images b 1 → on_level 1 images ≤ b → room book 1 steps ≡ steps → 1 < length (slots_of book) →
      At steps book c images (b + l) → b + l ≤ steps → c.work ≡ b → LeadsTo c (disk_actions steps b p) images b
  disk_leads (alone p) b l images c reads below few all known at within here =
      part_leads steps book F p false 0 b l c0 images c reads.1 (below_later images b b 1 0 below (omega arith) (omega arith)) (omega arith)
      (omega (arith, none_faster images b 1 0 below (omega arith))) at (within, here)
  disk_leads (parted j p q) b l images c reads below few all known at within here =
      let lt = reads.1 in
      let store = stored steps book c images b 1 (b + l) (b + j) at here below known (omega (arith, reads.0)) (omega (arith, reads.1)) (omega arith) in
      let stack = image b 1 ∷ images in
      let same : b + l ≡ b + j + (l - j) = omega (arith, reads.1) in
      let P : ℕ → Type 0 = λ n. At steps book store.0 stack n in
      let later = disk_actions steps (b + j) p in let sooner = held_actions steps b q in
      let after = disk_leads p (b + j) (l - j) stack store.0 reads.3 (below_next images b j 1 below reads.0 (omega arith)) (omega (arith, reads.0, one_more images b 1)) all known
      (subst P same store.2) (omega (arith, reads.1)) store.3 in
      let before = held_leads q b j images after.0 reads.4 below known after.2 (omega (arith, reads.1)) in
      ahead c store.0 (Forward b (b + j) (Store 1)) (later ++ sooner) images b store.1
      (before.0, leads_on steps (slots_of book) later sooner store.0 after.0 before.0 after.1 before.1, before.2)
