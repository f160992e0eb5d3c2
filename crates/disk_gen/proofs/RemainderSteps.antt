-- What is owed behind a stretch, before and after an action.
use Rattle.std.proofs.Common.{◌≡◌, ℕ, zero, suc, ◌+◌, ◌-◌, ◌*◌, ◌<◌, ◌≤◌, Bool, true, false, List, [], ◌∷◌, ◌++◌, refl, sym, ◌∙◌, ap, subst, arith, append_assoc}
use Rattle.std.proofs.lemmas.Nat.{mul-le}
use Rattle.plan_types.specs.declared.action.Keep.TheVariants.{Store}
use Rattle.plan_types.specs.declared.action.Dest.TheVariants.{Work}
use Rattle.plan_types.specs.declared.action.Action.{Action}
use Rattle.plan_types.specs.declared.action.Action.TheVariants.{Forward, Move, EndReverse}
use Rattle.level_book.specs.declared.book.Slots.{Slots}
use Rattle.level_book.specs.declared.book.Slots.TheVariants.{Unlimited}
use Rattle.level_book.specs.BookCosts.{BookCosts, room}
use Rattle.revolve_gen.specs.Places.{level_at}
use Rattle.revolve_gen.specs.Plans as revolve
use Rattle.revolve_gen.specs.Part.{stretch}
use Rattle.revolve_gen.specs.RevolveList.{fresh}
use Rattle.disk_gen.specs.declared.phase.Phase.{Phase}
use Rattle.disk_gen.specs.declared.phase.Phase.TheVariants.{Ahead, Back}
use Rattle.disk_gen.specs.PeriodicList.{images, last_steps, ahead, back, periodic}
use Rattle.disk_gen.specs.Plans.{HasPeriodicPlan}
use Rattle.disk_gen.specs.Remainder.{owed_behind, IsOwing}
use Rattle.disk_gen.proofs.StretchCounts.{no_images, images_within, last_some, last_planned, each_planned}

-- a stretch of a step or more
some_steps : (level : ℕ → ℕ) (first : Bool) (b l c : ℕ) → 1 ≤ l → stretch level first b l c ≡ fresh l level first b l c 0
some_steps level first b zero c h = absurd (omega arith)
some_steps level first b (suc n) c h = refl

-- the way over a stretch
pub store_more : (period last c held left h l : ℕ) → h ≡ held + 1 → left ≡ suc l →
    owed_behind period last c (Ahead held left) ≡ Forward (held * period) (held * period + period) (Store 1) ∷ owed_behind period last c (Ahead h l)
store_more period last c held left h l e f =
    let front = Forward (held * period) (held * period + period) (Store 1) in
    let next : suc held ≡ h = omega arith in
    let same : held + suc l ≡ suc held + l = omega arith in
    ap (λ left. owed_behind period last c (Ahead held left)) f
    ∙ ap (λ m. front ∷ (ahead period (suc held) l ++ (stretch (λ _. 0) true (m * period) last c ++ (back period c m ++ EndReverse ∷ [])))) same
    ∙ ap (λ h. front ∷ owed_behind period last c (Ahead h l)) next

pub store_last : (period last c held left h start : ℕ) (levels : List Slots) → levels ≡ Unlimited ∷ [] → left ≡ 1 → h ≡ held + 1 → start ≡ held * period + period →
    owed_behind period last c (Ahead held left) ≡ Forward (held * period) (held * period + period) (Store 1) ∷ (stretch (level_at levels) true start last c ++ owed_behind period last c (Back h))
store_last period last c held left h start levels fast f e g =
    let front = Forward (held * period) (held * period + period) (Store 1) in
    let next : held + 1 ≡ h = omega arith in
    let there : h * period ≡ start = ap (λ h. h * period) e ∙ omega arith in
    ap (λ left. owed_behind period last c (Ahead held left)) f
    ∙ ap (λ m. front ∷ (stretch (λ _. 0) true (m * period) last c ++ (back period c m ++ EndReverse ∷ []))) next
    ∙ ap (λ b. front ∷ (stretch (λ _. 0) true b last c ++ owed_behind period last c (Back h))) there
    ∙ ap (λ levels. front ∷ (stretch (level_at levels) true start last c ++ owed_behind period last c (Back h))) (sym fast)

-- the way back to a stretch
pub load : (period last c held h start : ℕ) (levels : List Slots) → levels ≡ Unlimited ∷ [] → 1 ≤ period → held ≡ suc h → start ≡ h * period →
    owed_behind period last c (Back held) ≡ Move start 1 Work ∷ (stretch (level_at levels) false start period c ++ owed_behind period last c (Back h))
load period last c held h start levels fast some e g =
    let b = h * period in
    ap (λ held. owed_behind period last c (Back held)) e
    ∙ ap (λ t. Move b 1 Work ∷ t) (append_assoc (fresh period (λ _. 0) false b period c 0) (back period c h) (EndReverse ∷ []))
    ∙ ap (λ t. Move b 1 Work ∷ (t ++ owed_behind period last c (Back h))) (sym (some_steps (λ _. 0) false b period c some))
    ∙ ap (λ b. Move b 1 Work ∷ (stretch (λ _. 0) false b period c ++ owed_behind period last c (Back h))) (sym g)
    ∙ ap (λ levels. Move start 1 Work ∷ (stretch (level_at levels) false start period c ++ owed_behind period last c (Back h))) (sym fast)

-- the end of a stretch whose image will be held is within the limits
pub store_fits : (period last c held left : ℕ) (levels : List Slots) → IsOwing period last levels c (Ahead held left) → held * period + period + last ≤ 1000000
store_fits period last c held left levels is =
    let one = mul-le 1 period left period is.next.0 (omega arith) in
    let all = is.next.1 in
    omega arith

pub held_small : (period last c held left : ℕ) (levels : List Slots) → IsOwing period last levels c (Ahead held left) → held < 1000000
held_small period last c held left levels is =
    let fits = store_fits period last c held left levels is in
    let more = mul-le held 1 held period (omega arith) is.some in
    let some = is.some in
    omega arith

pub more_owing : (period last c held left h l : ℕ) (levels : List Slots) → IsOwing period last levels c (Ahead held left) → h ≡ held + 1 → left ≡ suc l → 1 ≤ l → IsOwing period last levels c (Ahead h l)
more_owing period last c held left h l levels is e f more =
    let same : h + l ≡ held + left = omega arith in
    let product = ap (λ m. m * period) same in
    let all = is.next.1 in
    record {
      some = is.some;
      fast = is.fast;
      next = (more, omega arith, is.next.2, is.next.3);
    }

pub last_owing : (period last c held left h : ℕ) (levels : List Slots) → IsOwing period last levels c (Ahead held left) → h ≡ held + 1 → IsOwing period last levels c (Back h)
last_owing period last c held left h levels is e =
    let product = ap (λ h. h * period) e in
    let fits = store_fits period last c held left levels is in
    record {
      some = is.some;
      fast = is.fast;
      next = (omega arith, (λ _. is.next.2));
    }

pub load_owing : (period last c held h : ℕ) (levels : List Slots) → IsOwing period last levels c (Back held) → held ≡ suc h → IsOwing period last levels c (Back h)
load_owing period last c held h levels is e =
    let product = ap (λ h. h * period) e in
    let all = is.next.0 in
    record {
      some = is.some;
      fast = is.fast;
      next = (omega arith, (λ _. is.next.1 (omega arith)));
    }

pub load_fits : (period last c held : ℕ) (levels : List Slots) → IsOwing period last levels c (Back held) → 1 ≤ held → (held - 1) * period + period ≤ 1000000
load_fits period last c zero levels is some = absurd (omega arith)
load_fits period last c (suc h) levels is some =
    let same : suc h - 1 ≡ h = omega arith in
    let product = ap (λ h. h * period) same in
    let all = is.next.0 in
    omega arith

-- an action of the stretch at hand
pub owed_next : (period last c d : ℕ) (phase : Phase) (xs ys : List Action) (a : Action) → xs ≡ a ∷ ys → d ≡ c → xs ++ owed_behind period last c phase ≡ a ∷ (ys ++ owed_behind period last d phase)
owed_next period last c d phase xs ys a e f =
    ap (λ t. t ++ owed_behind period last c phase) e
    ∙ ap (λ c. a ∷ (ys ++ owed_behind period last c phase)) (sym f)

pub owing_same : (period last c d : ℕ) (levels others : List Slots) (phase : Phase) → IsOwing period last levels c phase → others ≡ levels → d ≡ c → IsOwing period last others d phase
owing_same period last c d levels others phase is e f =
    let P : ℕ → Type 0 = λ c. IsOwing period last levels c phase in
    let Q : List Slots → Type 0 = λ levels. IsOwing period last levels d phase in
    subst Q (sym e) (subst P (sym f) is)

-- what is owed at the start
whole : (steps period c n l : ℕ) → 1 ≤ period → n ≡ images steps period → l ≡ last_steps steps period →
    ahead period 0 n ++ (stretch (λ _. 0) true (n * period) l c ++ (back period c n ++ EndReverse ∷ [])) ≡ periodic steps period c
whole zero period c n l some e f =
    let none : n ≡ 0 = e ∙ no_images period some in
    let rest : last_steps zero period ≡ zero - images zero period * period = refl in
    let no_step : l ≡ 0 = omega arith in
    λ i. ahead period 0 (none i) ++ (stretch (λ _. 0) true (none i * period) (no_step i) c ++ (back period c (none i) ++ EndReverse ∷ []))
whole (suc m) period c n l some e f =
    let k = images (suc m) period in
    let rest = last_steps (suc m) period in
    (λ i. ahead period 0 (e i) ++ (stretch (λ _. 0) true (e i * period) (f i) c ++ (back period c (e i) ++ EndReverse ∷ [])))
    ∙ ap (λ t. ahead period 0 k ++ (t ++ (back period c k ++ EndReverse ∷ []))) (some_steps (λ _. 0) true (k * period) rest c (last_some (suc m) period (omega arith) some))

pub whole_ahead : (steps period c n l : ℕ) → 1 ≤ period → n ≡ images steps period → l ≡ last_steps steps period → owed_behind period l c (Ahead 0 n) ≡ periodic steps period c
whole_ahead steps period c n l some e f =
    let same : 0 + n ≡ n = omega arith in
    ap (λ m. ahead period 0 n ++ (stretch (λ _. 0) true (m * period) l c ++ (back period c m ++ EndReverse ∷ []))) same
    ∙ whole steps period c n l some e f

pub whole_back : (steps period c l : ℕ) (levels : List Slots) → levels ≡ Unlimited ∷ [] → 1 ≤ period → images steps period ≡ 0 →
    stretch (level_at levels) true 0 steps c ++ owed_behind period l c (Back 0) ≡ periodic steps period c
whole_back steps period c l levels fast some e =
    let start : 0 ≡ 0 * period = omega arith in
    let product = ap (λ n. n * period) e in
    let rest : last_steps steps period ≡ steps - images steps period * period = refl in
    let all : steps ≡ last_steps steps period = omega arith in
    ap (λ levels. stretch (level_at levels) true 0 steps c ++ owed_behind period l c (Back 0)) fast
    ∙ ap (λ b. stretch (λ _. 0) true b steps c ++ owed_behind period l c (Back 0)) start
    ∙ whole steps period c 0 steps some (sym e) all

-- and how it stands
pub start_ahead : (steps period n l : ℕ) (book : BookCosts) (levels : List Slots) → levels ≡ Unlimited ∷ [] → 1 ≤ period → steps ≤ 1000000 → HasPeriodicPlan steps period book →
    n ≡ images steps period → l ≡ last_steps steps period → 1 ≤ n → IsOwing period l levels (room book 0 steps) (Ahead 0 n)
start_ahead steps period n l book levels fast some short plan e f more =
    let product = ap (λ n. (0 + n) * period) e in
    let within = images_within steps period some in
    let rest : last_steps steps period ≡ steps - images steps period * period = refl in
    let P : ℕ → Type 0 = λ l. revolve.HasPlan l (room book 0 steps) in
    record {
      some = some;
      fast = fast;
      next = (more, omega arith, each_planned steps period book some plan (omega arith), subst P (sym f) (last_planned steps period book some plan));
    }

pub start_back : (period l c : ℕ) (levels : List Slots) → levels ≡ Unlimited ∷ [] → 1 ≤ period → IsOwing period l levels c (Back 0)
start_back period l c levels fast some = record {
  some = some;
  fast = fast;
  next = (omega arith, (λ h. absurd (omega arith)));
}

-- without an image on level 1 all steps are one stretch
pub one_planned : (steps period : ℕ) (book : BookCosts) → 1 ≤ period → HasPeriodicPlan steps period book → images steps period ≡ 0 → revolve.HasPlan steps (room book 0 steps)
one_planned steps period book some plan e =
    let product = ap (λ n. n * period) e in
    let rest : last_steps steps period ≡ steps - images steps period * period = refl in
    let all : last_steps steps period ≡ steps = omega arith in
    let P : ℕ → Type 0 = λ l. revolve.HasPlan l (room book 0 steps) in
    subst P all (last_planned steps period book some plan)
