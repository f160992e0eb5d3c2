-- What the rest of a nested list costs at least. The held images are listed from the newest to the oldest; w is the state in work,
-- and all from x on is reversed. A number is owed where one of three ways to go on costs at most that.
use Rattle.std.proofs.Common.{◌≡◌, ◌==◌, ℕ, suc, ◌+◌, ◌-◌, ◌*◌, ◌<◌, ◌≤◌, Bool, true, false, cond, List, [], ◌∷◌, length, refl, sym, ap, ◌∙◌, subst, arith, inl, inr, ◌⊎◌, eq-eqb}
use Rattle.std.proofs.lemmas.Bool.{cases_lt, ne_eqb}
use Rattle.level_book.specs.BookCosts.{BookCosts, room}
use Rattle.level_book.specs.NestedClass.{Image, GoesOnTop}
use Rattle.level_book.specs.UnderTable.{write_cost, read_cost}
use Rattle.class_bounds.proofs.Bounds.{Within, same_entry, Rates, IsBound, slower_fresh}

-- how many of the images are on level k
abbrev pub on_level : ℕ → List Image → ℕ
on_level k [] = 0
on_level k (i ∷ older) = cond (i.level == k) 1 0 + on_level k older

-- n is the sum of a number that has one property and of one that has another, or more
pub record Sum (A B : ℕ → Type 0) (n : ℕ) : Type 0 where
  pub one : ℕ
  pub other : ℕ
  pub first : A one
  pub second : B other
  pub enough : one + other ≤ n

-- no image is of a later state than n
abbrev pub NotPast : List Image → ℕ → Type 0
NotPast [] n = Unit {0}
NotPast (newest ∷ older) n = newest.position ≤ n

-- each image is of an earlier state than n
abbrev pub Before : List Image → ℕ → Type 0
Before [] n = Unit {0}
Before (newest ∷ older) n = newest.position < n

module _ (steps : ℕ) (book : BookCosts) (r : Rates) where
  -- the images are stored one on the other, each in a slot that was free
  abbrev pub Stacked : List Image → Type 0
  Stacked [] = Unit {0}
  Stacked (i ∷ older) = GoesOnTop older i.position i.level × (i.level < length book.levels) × (on_level i.level older < room book i.level steps) × Stacked older

  -- the level on which the next stretch is, which is the slowest where nothing is held, and the free slots of a level
  abbrev pub level : List Image → ℕ
  level [] = length book.levels - 1
  level (newest ∷ older) = newest.level

  abbrev pub free : ℕ → List Image → ℕ
  free k images = room book k steps - on_level k images

  -- to go back from state x by the images alone costs at most n
  abbrev pub Back : List Image → ℕ → ℕ → Type 0
  Back [] x n = x ≡ 0
  Back (i ∷ older) x n =
      ((x ≤ i.position) × Back older x n)
      ⊎ ((i.position < x) × Sum (Within (r.held i.level (x - i.position) (free i.level (i ∷ older)))) (Back older i.position) n)

  -- To go on by some steps without keeping, to a state of which no image is held, then back to there from x, and back by the
  -- images.
  pub record Ahead (e : Bool) (images : List Image) (w x n : ℕ) : Type 0 where
    pub at : ℕ
    pub gap : ℕ
    pub rest : ℕ
    pub from : at ≡ w + gap
    pub within : at < x
    pub after : Before images at
    pub both : Sum (Within (r.fresh e (level images) (x - at) (free (level images) images))) (Back images at) rest
    pub enough : gap * book.forward + rest ≤ n

  -- to tape and reverse the step from w, and then go back by the images
  pub record Tapes (images : List Image) (w x n : ℕ) : Type 0 where
    pub rest : ℕ
    pub last : x ≡ suc w
    pub back : Back images w rest
    pub enough : book.forward + book.reverse + rest ≤ n

  -- the least cost is at most n
  abbrev pub Owed : Bool → List Image → ℕ → ℕ → ℕ → Type 0
  Owed e images w x n = Back images x n ⊎ (Ahead e images w x n ⊎ Tapes images w x n)

  pub back_more : (images : List Image) (x n n' : ℕ) → Back images x n → n ≤ n' → Back images x n'
  back_more [] x n n' b h = b
  back_more (i ∷ older) x n n' (inl b) h = inl (b.0, back_more older x n n' b.1 h)
  back_more (i ∷ older) x n n' (inr b) h =
      let s = b.1 in
      inr (b.0, record { one = s.one; other = s.other; first = s.first; second = s.second; enough = omega (arith, s.enough) })

  -- where the state in work isn't before x, only the images are left
  pub past : (e : Bool) (images : List Image) (w x n : ℕ) → x ≤ w → Owed e images w x n → Back images x n
  past e images w x n h (inl b) = b
  past e images w x n h (inr (inl a)) = let within = a.within in absurd (omega arith)
  past e images w x n h (inr (inr a)) = let last = a.last in absurd (omega arith)

  -- an image that isn't before x has no part
  pub back_stale : (i : Image) (older : List Image) (x n : ℕ) → x ≤ i.position → Back (i ∷ older) x n → Back older x n
  back_stale i older x n h (inl b) = b.1
  back_stale i older x n h (inr b) = let lt = b.0 in absurd (omega arith)

  -- one that is before x has
  pub back_live : (i : Image) (older : List Image) (x n : ℕ) → i.position < x → Back (i ∷ older) x n →
      Sum (Within (r.held i.level (x - i.position) (free i.level (i ∷ older)))) (Back older i.position) n
  back_live i older x n h (inl b) = let le = b.0 in absurd (omega arith)
  back_live i older x n h (inr b) = b.1

  -- one image more on its level
  on_level_same : (i : Image) (older : List Image) → on_level i.level (i ∷ older) ≡ suc (on_level i.level older)
  on_level_same i older = let e = eq-eqb i.level i.level refl in ap (λ b. cond b 1 0 + on_level i.level older) e ∙ omega arith

  -- levels faster than the newest image's are empty
  pub faster_empty : (images : List Image) (n k j : ℕ) → GoesOnTop images n k → Stacked images → j < k → on_level j images ≡ 0
  faster_empty [] n k j top s h = refl
  faster_empty (i ∷ older) n k j top s h =
      let ne = ne_eqb i.level j (λ e. let le = top.1 in absurd (omega arith)) in
      let rest = faster_empty older i.position i.level j s.0 s.3 (let le = top.1 in omega arith) in
      ap (λ b. cond b 1 0 + on_level j older) ne ∙ omega arith

  module _ (under : IsBound steps book r) (e : Bool) where
    -- taping now is going on by no steps, where no image is of the state in work
    pub tapes_ahead : (images : List Image) (w x n : ℕ) → x ≤ steps → level images < length book.levels → Before images w → Tapes images w x n → Ahead e images w x n
    tapes_ahead images w x n most known before p =
        let last = p.last in
        record {
          at = w;
          gap = 0;
          rest = book.forward + book.reverse + p.rest;
          from = omega arith;
          within = omega arith;
          after = before;
          both = record {
            one = book.forward + book.reverse;
            other = p.rest;
            first = under.one_fresh e (level images) (x - w) (free (level images) images) (book.forward + book.reverse) known (omega arith) (omega arith) (omega arith) (omega arith);
            second = p.back;
            enough = omega arith;
          };
          enough = omega (arith, p.enough);
        }

    -- where no image is of a later state than w, each is of an earlier one than a state behind w
    before_later : (images : List Image) (w d : ℕ) → 1 ≤ d → NotPast images w → Before images (w + d)
    before_later [] w d h b = tt
    before_later (i ∷ older) w d h b = omega arith

    -- a Forward by d steps that keeps nothing
    pub advanced : (images : List Image) (w d x n : ℕ) → x ≤ steps → 1 ≤ d → level images < length book.levels → NotPast images w →
        Owed e images (w + d) x n → Owed e images w x (d * book.forward + n)
    advanced images w d x n most one known now owed = elim owed [
      | inl b ↦ inl (back_more images x n (d * book.forward + n) b (omega arith))
      | inr other ↦
          let ahead : Ahead e images (w + d) x n = elim other [
            | inl a ↦ a
            | inr p ↦ tapes_ahead images (w + d) x n most known (before_later images w d one now) p
          ] in
          inr (inl (record {
            at = ahead.at;
            gap = d + ahead.gap;
            rest = ahead.rest;
            from = omega (arith, ahead.from);
            within = ahead.within;
            after = ahead.after;
            both = ahead.both;
            enough = omega (arith, ahead.enough);
          }))
    ]

    -- A Store of state w on level j, and d steps on. What is owed then is, with the cost of these, what a stretch on level j from
    -- w costs, and the way back to w.
    stored_here : (images : List Image) (w d j x n : ℕ) → r.storing e j ≡ true → w < x → x ≤ steps → 1 ≤ d → j < length book.levels → on_level j images < room book j steps →
        Owed e (record { position = w; level = j } ∷ images) (w + d) x n →
        Sum (Within (r.fresh e j (x - w) (free j images))) (Back images w) (write_cost book j + d * book.forward + n)
    stored_here images w d j x n may live most one known room_left owed =
        let new : Image = record { position = w; level = j } in
        let more = on_level_same new images in
        let left : free j images ≡ suc (free j (new ∷ images)) = omega arith in
        elim owed [
          | inl b ↦
              let s = back_live new images x n live b in
              record {
                one = write_cost book j + s.one;
                other = s.other;
                first = under.stored_fresh e j (x - w) (free j images) (free j (new ∷ images)) s.one (write_cost book j + s.one) may known (omega arith) (omega arith) (omega arith) left s.first (omega arith);
                second = s.second;
                enough = omega (arith, s.enough);
              }
          | inr other ↦
              let ahead : Ahead e (new ∷ images) (w + d) x n = elim other [
                | inl a ↦ a
                | inr p ↦ tapes_ahead (new ∷ images) (w + d) x n most known (omega arith) p
              ] in
              let from = ahead.from in
              let within = ahead.within in
              let s = ahead.both in
              let q = back_live new images ahead.at s.other (omega arith) s.second in
              let y = same_entry (r.held j) (ahead.at - w) (d + ahead.gap) (free j (new ∷ images)) (free j (new ∷ images)) q.one q.first (omega arith) refl in
              record {
                one = write_cost book j + (d + ahead.gap) * book.forward + s.one + q.one;
                other = q.other;
                first = under.split_fresh e j (d + ahead.gap) (x - ahead.at) (x - w) (free j images) (free j (new ∷ images)) s.one q.one
                    (write_cost book j + (d + ahead.gap) * book.forward + s.one + q.one) may
                    known (omega arith) (omega arith) (omega arith) (omega arith) (omega arith) left s.first y (omega arith);
                second = q.second;
                enough = omega (arith, ahead.enough, s.enough, q.enough);
              }
        ]

    -- a stretch on level j as one on level b, which is the same or slower and has m free slots
    raised : (j b l m free_j x : ℕ) → j ≤ b → b < length book.levels → 1 ≤ l → l ≤ steps → m ≤ room book b steps →
        (j ≡ b → m ≡ free_j) → (j < b → free_j ≡ room book j steps) → Within (r.fresh e j l free_j) x → Within (r.fresh e b l m) x
    raised j b l m free_j x le known one most fits same faster w = elim (cases_lt j b) [
      | inl lt ↦ slower_fresh steps book r under e b j l m x lt known one most fits (same_entry (r.fresh e j) l l free_j (room book j steps) x w refl (faster lt))
      | inr ge ↦
          let is : j ≡ b = omega arith in
          let P : ℕ → Type 0 = λ k. Within (r.fresh e k l m) x in
          subst P is (same_entry (r.fresh e j) l l free_j m x w refl (sym (same is)))
    ]

    -- the same for a stretch on level b, which is the same or slower and has m free slots
    pub stored : (images : List Image) (b m w d j x n : ℕ) → r.storing e j ≡ true → w < x → x ≤ steps → 1 ≤ d → j ≤ b → b < length book.levels → m ≤ room book b steps →
        on_level j images < room book j steps → (j ≡ b → m ≡ free j images) → (j < b → on_level j images ≡ 0) →
        Owed e (record { position = w; level = j } ∷ images) (w + d) x n →
        Sum (Within (r.fresh e b (x - w) m)) (Back images w) (write_cost book j + d * book.forward + n)
    stored images b m w d j x n may live most one le known fits room_left same faster owed =
        let s = stored_here images w d j x n may live most one (omega arith) room_left owed in
        record {
          one = s.one;
          other = s.other;
          first = raised j b (x - w) m (free j images) s.one le known (omega arith) (omega arith) fits same (λ lt. let none = faster lt in omega arith) s.first;
          second = s.second;
          enough = s.enough;
        }

    -- a stretch that begins at the state in work is owed
    pub fresh_owed : (images : List Image) (w x n : ℕ) → w < x → Before images w →
        Sum (Within (r.fresh e (level images) (x - w) (free (level images) images))) (Back images w) n → Owed e images w x n
    fresh_owed images w x n live before s = inr (inl (record {
      at = w;
      gap = 0;
      rest = n;
      from = omega arith;
      within = live;
      after = before;
      both = s;
      enough = omega arith;
    }))

    -- a Store of a state from which on all is reversed was no use
    pub stored_stale : (images : List Image) (w d j x n : ℕ) → x ≤ w → Owed e (record { position = w; level = j } ∷ images) (w + d) x n → Back images x n
    stored_stale images w d j x n h owed =
        back_stale (record { position = w; level = j }) images x n h (past e (record { position = w; level = j } ∷ images) (w + d) x n (omega arith) owed)

    -- a Forward that tapes the step from w
    pub taped : (images : List Image) (w n : ℕ) → Owed e images (suc w) w n → Owed e images w (suc w) (book.forward + book.reverse + n)
    taped images w n owed = inr (inr (record { rest = n; last = refl; back = past e images (suc w) w n (omega arith) owed; enough = omega arith }))

    -- the newest image takes a slot
    newest_free : (i : Image) (older : List Image) → Stacked (i ∷ older) → free i.level (i ∷ older) < room book i.level steps
    newest_free i older s = let more = on_level_same i older in let room_left = s.2 in omega arith

    -- a Copy of the newest image
    pub copied : (i : Image) (older : List Image) (x n : ℕ) → r.reading e ≡ true → Stacked (i ∷ older) → x ≤ steps → Owed e (i ∷ older) i.position x n →
        Back (i ∷ older) x (read_cost book i.level + n)
    copied i older x n may s most owed = elim (cases_lt i.position x) [
      | inr stale ↦ back_more (i ∷ older) x n (read_cost book i.level + n) (past e (i ∷ older) i.position x n stale owed) (omega arith)
      | inl live ↦ elim owed [
        | inl b ↦ back_more (i ∷ older) x n (read_cost book i.level + n) b (omega arith)
        | inr (inl ahead) ↦
            let from = ahead.from in
            let within = ahead.within in
            let later = ahead.after in
            let a = ahead.both in
            let q = back_live i older ahead.at a.other later a.second in
            let y = same_entry (r.held i.level) (ahead.at - i.position) ahead.gap (free i.level (i ∷ older)) (free i.level (i ∷ older)) q.one q.first (omega arith) refl in
            inr (
              live,
              record {
                one = read_cost book i.level + ahead.gap * book.forward + a.one + q.one;
                other = q.other;
                first = under.split_held e i.level ahead.gap (x - ahead.at) (x - i.position) (free i.level (i ∷ older)) a.one q.one
                    (read_cost book i.level + ahead.gap * book.forward + a.one + q.one)
                    may s.1 (omega arith) (omega arith) (omega arith) (omega arith) (newest_free i older s) a.first y (omega arith);
                second = q.second;
                enough = omega (arith, ahead.enough, a.enough, q.enough);
              },
            )
        | inr (inr p) ↦
            let last = p.last in
            inr (
              live,
              record {
                one = read_cost book i.level + book.forward + book.reverse;
                other = p.rest;
                first = under.one_held i.level (x - i.position) (free i.level (i ∷ older)) (read_cost book i.level + book.forward + book.reverse)
                    s.1 (newest_free i older s) (omega arith) (omega arith) (omega arith);
                second = back_stale i older i.position p.rest (omega arith) p.back;
                enough = omega (arith, p.enough);
              },
            )
      ]
    ]

    -- a Move of an image from which on all is reversed
    pub moved_stale : (i : Image) (older : List Image) (x n : ℕ) → x ≤ i.position → Owed e older i.position x n → Back (i ∷ older) x n
    moved_stale i older x n stale owed = inl (stale, past e older i.position x n stale owed)

    -- a Move, and a Forward that tapes the step
    pub moved_taped : (i : Image) (older : List Image) (n : ℕ) → i.position < steps → Stacked (i ∷ older) → Owed e older (suc i.position) i.position n →
        Back (i ∷ older) (suc i.position) (read_cost book i.level + book.forward + book.reverse + n)
    moved_taped i older n most s owed = inr (
      omega arith,
      record {
        one = read_cost book i.level + book.forward + book.reverse;
        other = n;
        first = under.one_held i.level (suc i.position - i.position) (free i.level (i ∷ older)) (read_cost book i.level + book.forward + book.reverse)
            s.1 (newest_free i older s) (omega arith) (omega arith) (omega arith);
        second = past e older (suc i.position) i.position n (omega arith) owed;
        enough = omega arith;
      },
    )

    -- a Move, and a Store on a faster level
    pub moved_stored : (i : Image) (older : List Image) (d j x n : ℕ) → r.reading e ≡ true → r.storing e j ≡ true → Stacked (i ∷ older) → i.position < x → x ≤ steps → 1 ≤ d → j < i.level →
        on_level j older < room book j steps → Owed e (record { position = i.position; level = j } ∷ older) (i.position + d) x n →
        Back (i ∷ older) x (read_cost book i.level + (write_cost book j + d * book.forward + n))
    moved_stored i older d j x n reads may s live most one lt room_left owed =
        let b = i.level - 1 in
        let below : b < i.level = omega arith in
        let empty = faster_empty older i.position i.level b s.0 s.3 below in
        let empty_there = faster_empty older i.position i.level j s.0 s.3 lt in
        let same : j ≡ b → room book b steps ≡ free j older =
        λ is. let P : ℕ → Type 0 = λ k. room book b steps ≡ free k older in let all : room book b steps ≡ free b older = omega arith in subst P (sym is) all in
        let a = stored older b (room book b steps) i.position d j x n may live most one (omega arith) (let known = s.1 in omega arith) (omega arith) room_left same (λ _. empty_there) owed in
        inr (
          live,
          record {
            one = read_cost book i.level + a.one;
            other = a.other;
            first = under.faster_held e i.level b (x - i.position) (free i.level (i ∷ older)) a.one (read_cost book i.level + a.one) reads (omega arith) s.1 (omega arith) (omega arith)
                (newest_free i older s) a.first (omega arith);
            second = a.second;
            enough = omega (arith, a.enough);
          },
        )

  -- what is owed after EndForward is owed before it
  pub owed_before : IsBound steps book r → (images : List Image) (w x n : ℕ) → level images < length book.levels → x ≤ steps → Owed true images w x n → Owed false images w x n
  owed_before under images w x n known most (inl b) = inl b
  owed_before under images w x n known most (inr (inr p)) = inr (inr p)
  owed_before under images w x n known most (inr (inl a)) =
      let s = a.both in
      let within = a.within in
      inr (inl (record {
        at = a.at;
        gap = a.gap;
        rest = a.rest;
        from = a.from;
        within = a.within;
        after = a.after;
        both = record {
          one = s.one;
          other = s.other;
          first = under.ended (level images) (x - a.at) (free (level images) images) s.one known (omega arith) (omega arith) (omega arith) s.first;
          second = s.second;
          enough = s.enough;
        };
        enough = a.enough;
      }))
