-- Configurations at which these images are held, and so many steps are still to be reversed.
use Rattle.std.proofs.Common.{◌≡◌, ◌≢◌, ◌==◌, ℕ, ◌+◌, ◌-◌, ◌<◌, ◌≤◌, cond, Bool, true, false, not, ◌&&◌, ◌||◌, ltb, List, [], ◌∷◌, ◌++◌, length, get_or, slice_index_or, refl, sym, ap, ◌∙◌, subst, arith, inl, inr, eq-eqb, get_or-set_same, get_or-set_other, Some, None}
use Rattle.std.specs.FinSet as set
use Rattle.std.specs.Ordering.{nat_cmp, eq_by_cmp}
use Rattle.std.specs.Cmp.{nat_cmp_total, eq_by_cmp_equiv}
use Rattle.std.proofs.lemmas.Bool.{cases_eq, ne_eqb, lt-ltb, le-ltb}
use Rattle.std.proofs.lemmas.List.{length-set}
use Rattle.std.proofs.lemmas.Map.Lookups.{exact_unsigned}
use Rattle.std.proofs.lemmas.Map.Views.{tells_apart}
use Rattle.plan_types.specs.declared.action.Keep.TheVariants.{Store, Tape}
use Rattle.plan_types.specs.declared.action.Dest.TheVariants.{Work}
use Rattle.plan_types.specs.declared.action.Action.{Action}
use Rattle.plan_types.specs.declared.action.Action.TheVariants.{Forward, Reverse, Move, EndForward}
use Rattle.level_book.specs.declared.book.Slots.{Slots}
use Rattle.level_book.specs.declared.book.Slots.TheVariants.{Count, Unlimited}
use Rattle.level_book.specs.BookCosts.{BookCosts, slots_of, room, least}
use Rattle.level_book.specs.Configuration.{Configuration, held_on, with_held, without_held}
use Rattle.level_book.specs.Moves.{Goes, HasRoom}
use Rattle.level_book.specs.Valid.{Leads}
use Rattle.level_book.specs.NestedClass.{Image}
use Rattle.hrevolve_gen.proofs.Images.{Below, on_level, among, not_among}
use Rattle.hrevolve_gen.proofs.PartNested.{image}

pub leads_on : (steps : ℕ) (slots : List Slots) (xs ys : List Action) (c d e : Configuration) → Leads steps slots c xs d → Leads steps slots d ys e → Leads steps slots c (xs ++ ys) e
leads_on steps slots [] ys c d e first second = let P : Configuration → Type 0 = λ c. Leads steps slots c ys e in subst P first second
leads_on steps slots (a ∷ xs) ys c d e first second = (first.0, first.1, leads_on steps slots xs ys first.0 d e first.2 second)

same_number : (q n : ℕ) → eq_by_cmp nat_cmp q n ≡ (n == q)
same_number q n =
    elim (cases_eq n q) [
      | inl e ↦ (let P : ℕ → Type 0 = λ q. eq_by_cmp nat_cmp q n ≡ true in subst P e ((eq_by_cmp_equiv nat_cmp_total).refl n)) ∙ sym (eq-eqb n q e)
      | inr ne ↦ not_true (eq_by_cmp nat_cmp q n) (λ e. ne (sym (tells_apart {R = nat_cmp} exact_unsigned q n e))) ∙ sym (ne_eqb n q ne)
    ]
  where
    not_true : (b : Bool) → b ≢ true → b ≡ false
    not_true true h = absurd (h refl)
    not_true false h = refl

len_one_more : (s : set.FinSet nat_cmp) (n : ℕ) → set.contains s n ≡ false → set.len (set.insert s n) ≡ set.len s + 1
len_one_more s n new = set.len-insert nat_cmp_total s n ∙ ap (λ b. cond b (set.len s) (set.len s + 1)) new

len_one_less : (s : set.FinSet nat_cmp) (n : ℕ) → set.contains s n ≡ true → set.len (set.remove s n) ≡ set.len s - 1
len_one_less s n there = set.len-remove nat_cmp_total s n ∙ ap (λ b. cond b (set.len s - 1) (set.len s)) there

pub record Holds (book : BookCosts) (c : Configuration) (images : List Image) : Type 0 where
  pub wide : length c.held ≡ length (slots_of book)
  pub count : (j : ℕ) → set.len (held_on c j) ≡ on_level j images
  pub member : (j n : ℕ) → set.contains (held_on c j) n ≡ among images j n

pub record At (steps : ℕ) (book : BookCosts) (c : Configuration) (images : List Image) (r : ℕ) : Type 0 where
  pub ended : c.ended ≡ false
  pub tape : c.tape ≡ None
  pub left : c.reverse ≡ r
  pub forward_ended : c.forward_ended ≡ ltb r steps
  pub holds : Holds book c images

module _ (steps : ℕ) (book : BookCosts) where
  held_same : (c d : Configuration) (images : List Image) → d.held ≡ c.held → Holds book c images → Holds book d images
  held_same c d images e is = record {
    wide = ap length e ∙ is.wide;
    count = λ j. ap (λ held. set.len (get_or held j set.empty)) e ∙ is.count j;
    member = λ j n. ap (λ held. set.contains (get_or held j set.empty) n) e ∙ is.member j n;
  }

  -- the work state is another
  pub works : (c : Configuration) (images : List Image) (r w : ℕ) → At steps book c images r → At steps book (record c { work = w }) images r
  works c images r w at = record { ended = at.ended; tape = at.tape; left = at.left; forward_ended = at.forward_ended; holds = held_same c (record c { work = w }) images refl at.holds }

  -- one step is taped and reversed
  pub one_reversed : (c : Configuration) (images : List Image) (b : ℕ) → At steps book c images (b + 1) → c.work ≡ b → b + 1 < steps →
      (d : Configuration) × Leads steps (slots_of book) c (Forward b (b + 1) Tape ∷ Reverse (b + 1) b ∷ []) d × At steps book d images b
  one_reversed c images b at here lt =
      let c1 = record c { work = b + 1; tape = Some b } in
      let d = record c1 { tape = None; reverse = b } in (
        d,
        (
          c1,
          (at.ended, record { here = here; ahead = omega arith; within = omega (arith, at.left) }, refl, sym at.left, at.tape, refl),
          (d, (at.ended, at.forward_ended ∙ lt-ltb (b + 1) steps lt, refl, sym at.left, refl, refl), refl),
        ),
        record { ended = at.ended; tape = refl; left = refl; forward_ended = at.forward_ended ∙ lt-ltb (b + 1) steps lt ∙ sym (lt-ltb b steps (omega arith)); holds = held_same c d images refl at.holds },
      )

  pub last_reversed : (c : Configuration) (images : List Image) (b : ℕ) → At steps book c images (b + 1) → c.work ≡ b → b + 1 ≡ steps →
      (d : Configuration) × Leads steps (slots_of book) c (Forward b (b + 1) Tape ∷ EndForward ∷ Reverse (b + 1) b ∷ []) d × At steps book d images b
  last_reversed c images b at here last =
      let c1 = record c { work = b + 1; tape = Some b } in
      let c2 = record c1 { forward_ended = true } in
      let d = record c2 { tape = None; reverse = b } in (
        d,
        (
          c1,
          (at.ended, record { here = here; ahead = omega arith; within = omega (arith, at.left) }, refl, sym at.left, at.tape, refl),
          (
            c2,
            (at.ended, at.forward_ended ∙ le-ltb (b + 1) steps (omega arith), last, refl),
            (d, (at.ended, refl, refl, sym at.left, refl, refl), refl),
          ),
        ),
        record { ended = at.ended; tape = refl; left = refl; forward_ended = sym (lt-ltb b steps (omega arith)); holds = held_same c d images refl at.holds },
      )

  -- the newest image is moved to work
  pub moved : (c : Configuration) (images : List Image) (b k r : ℕ) → At steps book c (image b k ∷ images) r → Below images b k → k < length (slots_of book) →
      (d : Configuration) × Goes steps (slots_of book) c (Move b k Work) d × At steps book d images r × (d.work ≡ b)
  moved c images b k r at below known =
      let d = record (without_held c b k) { work = b } in
      let short : k < length c.held = omega (arith, at.holds.wide) in
      let there = at.holds.member k b ∙ ap (λ x. (x && (b == b)) || among images k b) (eq-eqb k k refl) ∙ ap (λ x. x || among images k b) (eq-eqb b b refl) in
      let same = get_or-set_same c.held k (set.remove (held_on c k) b) set.empty short in (
        d,
        (at.ended, record { level = known; there = there }, refl),
        record {
          ended = at.ended;
          tape = at.tape;
          left = at.left;
          forward_ended = at.forward_ended;
          holds = record {
            wide = length-set c.held k (set.remove (held_on c k) b) ∙ at.holds.wide;
            count = λ j. elim (cases_eq k j) [
              | inl e ↦
                  let P : ℕ → Type 0 = λ j. set.len (held_on d j) ≡ on_level j images in
                  let counted = at.holds.count k ∙ ap (λ x. cond x 1 0 + on_level k images) (eq-eqb k k refl) in
                  subst P e (ap (λ s. set.len s) same ∙ len_one_less (held_on c k) b there ∙ ap (λ n. n - 1) counted ∙ less (on_level k images))
              | inr ne ↦
                  ap (λ s. set.len s) (get_or-set_other c.held k j (set.remove (held_on c k) b) set.empty (λ e. ne (sym e)))
                  ∙ at.holds.count j ∙ ap (λ x. cond x 1 0 + on_level j images) (ne_eqb k j ne) ∙ zero_and (on_level j images)
            ];
            member = λ j n. elim (cases_eq k j) [
              | inl e ↦
                  let P : ℕ → Type 0 = λ j. set.contains (held_on d j) n ≡ among images j n in
                  subst P e (ap (λ s. set.contains s n) same ∙ set.contains-remove nat_cmp_total (held_on c k) b n
                  ∙ ap (λ x. not x && set.contains (held_on c k) n) (same_number n b)
                  ∙ gone n)
              | inr ne ↦
                  ap (λ s. set.contains s n) (get_or-set_other c.held k j (set.remove (held_on c k) b) set.empty (λ e. ne (sym e)))
                  ∙ at.holds.member j n ∙ ap (λ x. (x && (b == n)) || among images j n) (ne_eqb k j ne)
            ];
          };
        },
        refl,
      )
    where
      less : (n : ℕ) → 1 + n - 1 ≡ n
      less n = omega arith

      zero_and : (n : ℕ) → 0 + n ≡ n
      zero_and n = omega arith

      gone : (n : ℕ) → (not (b == n) && set.contains (held_on c k) n) ≡ among images k n
      gone n = elim (cases_eq b n) [
        | inl e ↦ ap (λ x. not x && set.contains (held_on c k) n) (eq-eqb b n e) ∙ sym (not_among images b k k n below (omega arith))
        | inr ne ↦ ap (λ x. not x && set.contains (held_on c k) n) (ne_eqb b n ne) ∙ at.holds.member k n
            ∙ ap (λ x. (x && (b == n)) || among images k n) (eq-eqb k k refl) ∙ ap (λ x. x || among images k n) (ne_eqb b n ne)
      ]

  -- the first state is stored
  pub stored : (c : Configuration) (images : List Image) (b k r to : ℕ) → At steps book c images r → c.work ≡ b → Below images b k → k < length (slots_of book) → b < to → to ≤ r →
      on_level k images + 1 ≤ room book k steps →
      (d : Configuration) × Goes steps (slots_of book) c (Forward b to (Store k)) d × At steps book d (image b k ∷ images) r × (d.work ≡ to)
  stored c images b k r to at here below known ahead within free =
      let d = record (with_held c b k) { work = to } in
      let short : k < length c.held = omega (arith, at.holds.wide) in
      let new = at.holds.member k b ∙ not_among images b k k b below (omega arith) in
      let same = get_or-set_same c.held k (set.insert (held_on c k) b) set.empty short in (
        d,
        (
          at.ended,
          record { here = here; ahead = ahead; within = omega (arith, at.left) },
          record { level = known; room = has_room (slice_index_or (slots_of book) k (Count 0)) (held_on c k) (on_level k images) (at.holds.count k) free; new = new },
          refl,
        ),
        record {
          ended = at.ended;
          tape = at.tape;
          left = at.left;
          forward_ended = at.forward_ended;
          holds = record {
            wide = length-set c.held k (set.insert (held_on c k) b) ∙ at.holds.wide;
            count = λ j. elim (cases_eq k j) [
              | inl e ↦
                  let P : ℕ → Type 0 = λ j. set.len (held_on d j) ≡ on_level j (image b k ∷ images) in
                  subst P e (ap (λ s. set.len s) same ∙ len_one_more (held_on c k) b new ∙ ap (λ n. n + 1) (at.holds.count k) ∙ more (on_level k images)
                  ∙ ap (λ x. cond x 1 0 + on_level k images) (sym (eq-eqb k k refl)))
              | inr ne ↦
                  ap (λ s. set.len s) (get_or-set_other c.held k j (set.insert (held_on c k) b) set.empty (λ e. ne (sym e)))
                  ∙ at.holds.count j ∙ sym (zero_and (on_level j images)) ∙ ap (λ x. cond x 1 0 + on_level j images) (sym (ne_eqb k j ne))
            ];
            member = λ j n. elim (cases_eq k j) [
              | inl e ↦
                  let P : ℕ → Type 0 = λ j. set.contains (held_on d j) n ≡ among (image b k ∷ images) j n in
                  subst P e (ap (λ s. set.contains s n) same ∙ set.contains-insert nat_cmp_total (held_on c k) b n
                  ∙ (λ t. same_number n b t || at.holds.member k n t)
                  ∙ ap (λ x. (x && (b == n)) || among images k n) (sym (eq-eqb k k refl)))
              | inr ne ↦
                  ap (λ s. set.contains s n) (get_or-set_other c.held k j (set.insert (held_on c k) b) set.empty (λ e. ne (sym e)))
                  ∙ at.holds.member j n ∙ ap (λ x. (x && (b == n)) || among images j n) (sym (ne_eqb k j ne))
            ];
          };
        },
        refl,
      )
    where
      more : (n : ℕ) → n + 1 ≡ 1 + n
      more n = omega arith

      zero_and : (n : ℕ) → 0 + n ≡ n
      zero_and n = omega arith

      has_room : (slots : Slots) (images : set.FinSet nat_cmp) (n : ℕ) → set.len images ≡ n → n + 1 ≤ least slots steps → HasRoom slots images
      has_room (Count m) images n e le = omega arith
      has_room Unlimited images n e le = tt
