-- What follows from a call of one keeper: which calls were counted, and what is left of the keepers.
use Rattle.reverse_runner.proofs.Common.{◌≡◌, ℕ, ◌∙◌, refl, ap, sym, subst, arith, ◌≢◌, inl, inr, List, get_or, set, Option, Some, None, length, Result, Ok, Err, ◌<◌, ◌≤◌, slice_get, cases_eq, cases_lt, slice_get-get_or, slice_get_past, Images, Rose, Ghosts, StoreFault, answer_on, CallsAt, KeepersAre, one_put, one_get, one_free, Called, by_number, calls_to}
use Rattle.keepers.specs.Calls.{OnePut, OneGet, OneFree, Remains}
use Rattle.image_store.specs.declared.shelf.StoreFault.TheVariants as store
use Rattle.reverse_runner.specs.declared.fault.RunFault.{RunFault}
use Rattle.reverse_runner.specs.declared.fault.RunFault.TheVariants.{Keeper}
use Rattle.reverse_runner.proofs.OneKeeper.{others_remain, seen_there, seen_before, seen_same, seen_else, remain, put_was_called, get_was_called, free_was_called}

-- a keeper that is there
there_is : {K : Type 0} (ks : List K) (k : ℕ) (x : K) → slice_get ks k ≡ Some x → (k < length ks) × (x ≡ get_or ks k x)
there_is ks k x was = elim (cases_lt k (length ks)) [
  | inl lt ↦ (lt, (let at = slice_get-get_or ks k x lt in cc (was, at)))
  | inr ge ↦ (let at = slice_get_past ks k ge in absurd (cc (was, at)))
]

-- which fault of the store says that a keeper failed
keeper_is : {A : Type 0} (k j : ℕ) (a : Result A StoreFault) → answer_on k a ≡ Err (Keeper j) → (j ≡ k) × (a ≡ Err store.Keeper)
keeper_is k j (Ok x) e = absurd cc
keeper_is k j (Err store.Keeper) e = (cc, refl)
keeper_is k j (Err (store.Damaged put got)) e = absurd cc
keeper_is k j (Err store.Memory) e = absurd cc

module _ {K A : Type 0} (g : Ghosts K) (k : ℕ) (Does : Result A StoreFault → K → K → Type 0) (r : Result A RunFault) (ks ls : List K) (c : CallsAt k Does r ks ls) where
  abbrev there : (k < length ks) × (c.before ≡ get_or ks k c.before)
  there = there_is ks k c.before c.was

  -- the calls that were counted
  pub put_at : OnePut g c.before c.after → Called (one_put k) (calls_to g ks) (calls_to g ls)
  put_at one = subst (λ (l : List K). Called (one_put k) (calls_to g ks) (calls_to g l)) (sym c.others)
      (put_was_called ks k c.before c.after there.0 there.1 g one.puts one.gets one.frees)

  pub get_at : OneGet g c.before c.after → Called (one_get k) (calls_to g ks) (calls_to g ls)
  get_at one = subst (λ (l : List K). Called (one_get k) (calls_to g ks) (calls_to g l)) (sym c.others)
      (get_was_called ks k c.before c.after there.0 there.1 g one.puts one.gets one.frees)

  pub free_at : OneFree g c.before c.after → Called (one_free k) (calls_to g ks) (calls_to g ls)
  free_at one = subst (λ (l : List K). Called (one_free k) (calls_to g ks) (calls_to g l)) (sym c.others)
      (free_was_called ks k c.before c.after there.0 there.1 g one.puts one.gets one.frees)

  -- what is left of the keepers
  pub keepers_are : Remains g (c.answer ≡ Err store.Keeper) c.before c.after → KeepersAre g (λ j. j ≡ k) r ks ls
  keepers_are rest = subst (λ (l : List K). KeepersAre g (λ j. j ≡ k) r ks l) (sym c.others)
      (let kept = remain ks k c.before c.after there.0 there.1 g.slot_count g.place g.fault_count rest.slots rest.place rest.later in
      record {
        slots = kept.slots_same;
        places = kept.places_same;
        rooms = seen_same ks k c.before c.after there.0 there.1 None g.room_bytes rest.room;
        cause = λ j e.
            let is = keeper_is k j c.answer (sym c.is ∙ e) in
            let rose = rest.cause is.1 in
            let P : ℕ → Type 0 = λ i. Rose (by_number 0 g.fault_count ks i) (by_number 0 g.fault_count (set ks k c.after) i) in
            (is.0, subst P (sym is.0) (omega (arith, rose, seen_there ks k c.before c.after there.0 there.1 0 g.fault_count, seen_before ks k c.before c.after there.0 there.1 0 g.fault_count)));
        quiet = λ j never. elim (cases_eq j k) [
          | inl e ↦ seen_same ks k c.before c.after there.0 there.1 0 g.fault_count (rest.quiet (λ failed. never (c.is ∙ ap (answer_on k) failed ∙ ap (λ i. Err (Keeper i)) (sym e)))) j
          | inr ne ↦ seen_else ks k c.before c.after there.0 there.1 0 g.fault_count j ne
        ];
        later = kept.later;
        others = λ j ne. others_remain ks k c.before c.after there.0 there.1 j ne;
      })

  -- what a call tells of other levels, and of its own
  pub told_else : {B : Type 0} (nothing : B) (f : K → B) (j : ℕ) → j ≢ k → by_number nothing f ls j ≡ by_number nothing f ks j
  told_else nothing f j ne = ap (λ (l : List K). by_number nothing f l j) c.others ∙ seen_else ks k c.before c.after there.0 there.1 nothing f j ne

  pub told_there : {B : Type 0} (nothing : B) (f : K → B) → (by_number nothing f ks k ≡ f c.before) × (by_number nothing f ls k ≡ f c.after)
  told_there nothing f = (seen_before ks k c.before c.after there.0 there.1 nothing f, ap (λ (l : List K). by_number nothing f l k) c.others ∙ seen_there ks k c.before c.after there.0 there.1 nothing f)

  pub told_same : (f : K → Option Images) → f c.after ≡ f c.before → (j : ℕ) → by_number None f ls j ≡ by_number None f ks j
  told_same f same j = ap (λ (l : List K). by_number None f l j) c.others ∙ seen_same ks k c.before c.after there.0 there.1 None f same j

-- a call that touches the first n levels leaves the others unchanged
pub past_others : {K A : Type 0} (g : Ghosts K) (n : ℕ) (r : Result A RunFault) (ks ls : List K) → KeepersAre g (λ k. k < n) r ks ls → (k : ℕ) → n ≤ k → slice_get ls k ≡ slice_get ks k
past_others g n r ks ls are k past = are.others k (λ low. absurd (omega (arith, past, low)))

-- a call after one that was done
pub are_then : {K A B : Type 0} (g : Ghosts K) (T : ℕ → Type 0) (r : Result A RunFault) (s : Result B RunFault) (ks ls ms : List K) → ((k : ℕ) → r ≢ Err (Keeper k)) →
    KeepersAre g T r ks ls → KeepersAre g T s ls ms → KeepersAre g T s ks ms
are_then g T r s ks ls ms done a b = record {
  slots = b.slots ∙ a.slots;
  places = b.places ∙ a.places;
  rooms = λ k. b.rooms k ∙ a.rooms k;
  cause = λ k e. (let c = b.cause k e in let q = a.quiet k (done k) in (c.0, (let rose = c.1 in omega (arith, rose, q))));
  quiet = λ j never. b.quiet j never ∙ a.quiet j (done j);
  later = λ k. (let x = a.later k in let y = b.later k in omega (arith, x, y));
  others = λ k ne. b.others k ne ∙ a.others k ne;
}

-- a call that may touch more
pub are_wider : {K A : Type 0} (g : Ghosts K) (T U : ℕ → Type 0) (r : Result A RunFault) (ks ls : List K) → ((k : ℕ) → T k → U k) → KeepersAre g T r ks ls → KeepersAre g U r ks ls
are_wider g T U r ks ls wide a = record {
  slots = a.slots;
  places = a.places;
  rooms = a.rooms;
  cause = λ k e. (let c = a.cause k e in (wide k c.0, c.1));
  quiet = a.quiet;
  later = a.later;
  others = λ k ne. a.others k (λ t. ne (wide k t));
}

-- a fault that is passed on
pub passed : {A B : Type 0} (r : Result A RunFault) (s : Result B RunFault) (x y z : RunFault) → r ≡ Err x → s ≡ Err y → y ≡ x → s ≡ Err z → r ≡ Err z
passed r s x y z first second same last = cc

-- an answer that says of the same keepers that they failed
pub are_as : {K A B : Type 0} (g : Ghosts K) (T : ℕ → Type 0) (r : Result A RunFault) (s : Result B RunFault) (ks ls : List K) → ((k : ℕ) → s ≡ Err (Keeper k) → r ≡ Err (Keeper k)) → ((k : ℕ) → r ≡ Err (Keeper k) → s ≡ Err (Keeper k)) →
    KeepersAre g T r ks ls → KeepersAre g T s ks ls
are_as g T r s ks ls back on a = record {
  slots = a.slots;
  places = a.places;
  rooms = a.rooms;
  cause = λ k e. a.cause k (back k e);
  quiet = λ k never. a.quiet k (λ e. never (on k e));
  later = a.later;
  others = a.others;
}

pub are_err : {K A B : Type 0} (g : Ghosts K) (T : ℕ → Type 0) (r : Result A RunFault) (s : Result B RunFault) (x y : RunFault) (ks ls : List K) → r ≡ Err x → s ≡ Err y → y ≡ x → KeepersAre g T r ks ls → KeepersAre g T s ks ls
are_err g T r s x y ks ls first second same = are_as g T r s ks ls (λ k e. passed r s x y (Keeper k) first second same e) (λ k e. passed s r y x (Keeper k) second first (sym same) e)

-- a call that was done says of no keeper that it failed
pub ok_not : {A : Type 0} (r : Result A RunFault) (x : A) (k : ℕ) → r ≡ Ok x → r ≡ Err (Keeper k) → ⊥
ok_not r x k is e = cc

pub are_ok : {K A B : Type 0} (g : Ghosts K) (T : ℕ → Type 0) (r : Result A RunFault) (x : A) (y : B) (ks ls : List K) → r ≡ Ok x → KeepersAre g T r ks ls → KeepersAre {A = B} g T (Ok y) ks ls
are_ok g T r x y ks ls is = are_as g T r (Ok y) ks ls (λ k e. absurd cc) (λ k e. absurd (ok_not r x k is e))

-- nothing was done
pub are_still : {K A : Type 0} (g : Ghosts K) (T : ℕ → Type 0) (x : A) (ks : List K) → KeepersAre {A = A} g T (Ok x) ks ks
are_still g T x ks = record {
  slots = refl;
  places = refl;
  rooms = λ k. refl;
  cause = λ k e. absurd cc;
  quiet = λ k never. refl;
  later = λ k. omega arith;
  others = λ k ne. refl;
}
