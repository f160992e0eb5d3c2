-- Inputs that are taken one after the other.
use Rattle.std.proofs.Common.{◌≡◌, ◌⊎◌, inl, inr, ℕ, ◌+◌, ◌-◌, ◌<◌, ◌≤◌, ◌++◌, cond, List, [], ◌∷◌, length, map, take, drop, replicate, append-nil, append_assoc, Option, None, Some, Err, IsSomeAnd, refl, sym, ◌∙◌, ap, subst, arith, slice_get, get_or}
use Rattle.std.specs.FinMap as finmap
use Rattle.std.specs.List.{AllByRecursion}
use Rattle.std.proofs.lemmas.Bool.{le-leb, lt-leb}
use Rattle.std.proofs.lemmas.Option.{slice_get-get_or}
use Rattle.std.proofs.lemmas.List.{length-replicate}
use Rattle.keepers.specs.Counts.{Rose}
use Rattle.keepers.specs.Claims.{Files, WhereTold}
use Rattle.keepers.specs.declared.inputs.Inputs.{Ghosts}
use Rattle.schedule_rules.proofs.VerdictReasons.{take_one_more}
use Rattle.endings.specs.declared.outcome.Outcome.{Outcome}
use Rattle.requests.specs.declared.inputs.Input as in_memory
use Rattle.requests.specs.declared.input_kind.InputKind.{InputKind}
use Rattle.requests.specs.declared.input_kind.InputKind.TheVariants as input
use Rattle.requests.specs.Operands.{limit_of}
use Rattle.requests.specs.Loaded.{Loaded, nothing, with_bytes, loaded_after, loaded_of, IsWithinLimits}
use Rattle.endings.specs.Outcomes.{unreadable, no_memory, too_long as longer}
use Rattle.endings.specs.Endings.{status_of}
use Rattle.requests.specs.Inputs.{Input, names, contents, asked_count, AreThere}
use Rattle.requests.specs.InputOutcome.{input_of, Reading, all, too_long, not_there, with_front, reading, Reads, Stops, IsLonger, ReadsInput, ReadsInputs}
use Rattle.requests.proofs.Lists.{get_map, drop_at}

-- ---- what is told

pub told_so : {A : Type 0} (told : Option A) (P Q : A → Type 0) → ((x : A) → P x → Q x) → WhereTold told P → WhereTold told Q
told_so None P Q f h = tt
told_so (Some x) P Q f h = f x h

pub told_both : {A : Type 0} (told : Option A) (P Q R : A → Type 0) → ((x : A) → P x → Q x → R x) → WhereTold told P → WhereTold told Q → WhereTold told R
told_both None P Q R f h g = tt
told_both (Some x) P Q R f h g = f x h g

-- ---- what is loaded

nothing_within : IsWithinLimits nothing
nothing_within = record {
  program = omega arith;
  journal = tt;
  book = omega arith;
  schedule = omega arith;
  certificate = omega arith;
  source = omega arith;
  words = omega arith;
  script = omega arith;
}

bytes_within : (kind : InputKind) (bytes : List ℕ) (l : Loaded) → length bytes ≤ limit_of kind → IsWithinLimits l → IsWithinLimits (with_bytes kind bytes l)
bytes_within input.Program bytes l fits w = record { program = fits; journal = w.journal; book = w.book; schedule = w.schedule; certificate = w.certificate; source = w.source; words = w.words; script = w.script }
bytes_within input.Journal bytes l fits w = record { program = w.program; journal = fits; book = w.book; schedule = w.schedule; certificate = w.certificate; source = w.source; words = w.words; script = w.script }
bytes_within input.Book bytes l fits w = record { program = w.program; journal = w.journal; book = fits; schedule = w.schedule; certificate = w.certificate; source = w.source; words = w.words; script = w.script }
bytes_within input.Schedule bytes l fits w = record { program = w.program; journal = w.journal; book = w.book; schedule = fits; certificate = w.certificate; source = w.source; words = w.words; script = w.script }
bytes_within input.Certificate bytes l fits w = record { program = w.program; journal = w.journal; book = w.book; schedule = w.schedule; certificate = fits; source = w.source; words = w.words; script = w.script }
bytes_within input.Source bytes l fits w = record { program = w.program; journal = w.journal; book = w.book; schedule = w.schedule; certificate = w.certificate; source = fits; words = w.words; script = w.script }
bytes_within input.Words bytes l fits w = record { program = w.program; journal = w.journal; book = w.book; schedule = w.schedule; certificate = w.certificate; source = w.source; words = fits; script = w.script }
bytes_within input.Script bytes l fits w = record { program = w.program; journal = w.journal; book = w.book; schedule = w.schedule; certificate = w.certificate; source = w.source; words = w.words; script = fits }

-- ---- reading, input by input

pub front_twice : (xs ys : List (List ℕ)) (r : Reading) → with_front xs (with_front ys r) ≡ with_front (xs ++ ys) r
front_twice xs ys (all bytes) = ap all (sym (append_assoc xs ys bytes))
front_twice xs ys (too_long place limit) = refl
front_twice xs ys (not_there place) = refl

reads_one : (place : ℕ) (i : Input) (is : List Input) (bytes : List ℕ) (given : List (Option (List ℕ))) → length bytes ≤ limit_of i.kind →
    reading place (i ∷ is) (Some bytes ∷ given) ≡ with_front (bytes ∷ []) (reading (place + 1) is given)
reads_one place i is bytes given fits = ap (λ b. cond b (with_front (bytes ∷ []) (reading (place + 1) is given)) (too_long place (limit_of i.kind))) (le-leb (length bytes) (limit_of i.kind) fits)

reads_long : (place : ℕ) (i : Input) (is : List Input) (bytes : List ℕ) (given : List (Option (List ℕ))) → limit_of i.kind < length bytes → reading place (i ∷ is) (Some bytes ∷ given) ≡ too_long place (limit_of i.kind)
reads_long place i is bytes given long = ap (λ b. cond b (with_front (bytes ∷ []) (reading (place + 1) is given)) (too_long place (limit_of i.kind))) (lt-leb (length bytes) (limit_of i.kind) long)

asks_one : (i : Input) (is : List Input) (bytes : List ℕ) (given : List (Option (List ℕ))) → length bytes ≤ limit_of i.kind → asked_count (i ∷ is) (Some bytes ∷ given) ≡ 1 + asked_count is given
asks_one i is bytes given fits = ap (λ b. 1 + cond b (asked_count is given) 0) (le-leb (length bytes) (limit_of i.kind) fits)

asks_long : (i : Input) (is : List Input) (bytes : List ℕ) (given : List (Option (List ℕ))) → limit_of i.kind < length bytes → asked_count (i ∷ is) (Some bytes ∷ given) ≡ 1
asks_long i is bytes given long = ap (λ b. 1 + cond b (asked_count is given) 0) (lt-leb (length bytes) (limit_of i.kind) long)

-- The first i inputs were read, with these bytes. What reading all comes to, how many are asked for, and what is loaded,
-- is left to what is there of the others.
pub record SoFar (is : List Input) (told : Option Files) (read : List (List ℕ)) (loaded : Loaded) (i : ℕ) : Type 0 where
  pub reads : (given : List (Option (List ℕ))) → reading 1 is (map (λ bytes. Some bytes) read ++ given) ≡ with_front read (reading (1 + i) (drop i is) given)
  pub asks : (given : List (Option (List ℕ))) → asked_count is (map (λ bytes. Some bytes) read ++ given) ≡ i + asked_count (drop i is) given
  pub as_told : WhereTold told (λ files. contents files is ≡ map (λ bytes. Some bytes) read ++ contents files (drop i is))
  pub there : WhereTold told (λ files. AreThere files (take i is))
  pub loads : (others : List (List ℕ)) → loaded_of is (read ++ others) ≡ loaded_after loaded (drop i is) others
  pub within : IsWithinLimits loaded

pub none_so_far : (is : List Input) (told : Option Files) → SoFar is told [] nothing 0
none_so_far is told = record {
  reads = λ given. front_none (reading 1 is given);
  asks = λ given. omega arith;
  as_told = told_same told is;
  there = told_none told is;
  loads = λ others. refl;
  within = nothing_within;
}
  where
    front_none : (r : Reading) → r ≡ with_front [] r
    front_none (all bytes) = refl
    front_none (too_long place limit) = refl
    front_none (not_there place) = refl

    told_same : (told : Option Files) (is : List Input) → WhereTold told (λ files. contents files is ≡ contents files is)
    told_same None is = tt
    told_same (Some files) is = refl

    told_none : (told : Option Files) (is : List Input) → WhereTold told (λ files. AreThere files (take 0 is))
    told_none None is = tt
    told_none (Some files) is = tt

-- what is so of all of one list, and of one more
all_more : {A : Type 0} (P : A → Type 0) (xs : List A) (x : A) → AllByRecursion P xs → P x → AllByRecursion P (xs ++ x ∷ [])
all_more P [] x h p = (p, tt)
all_more P (y ∷ ys) x h p = (h.0, all_more P ys x h.1 p)

is_some_and : (o : Option (List ℕ)) (bytes : List ℕ) (limit : ℕ) → o ≡ Some bytes → length bytes ≤ limit → IsSomeAnd o (λ b. length b ≤ limit)
is_some_and o bytes limit e fits = let P : Option (List ℕ) → Type 0 = λ x. IsSomeAnd x (λ b. length b ≤ limit) in subst P (sym e) fits

given_more : (read : List (List ℕ)) (bytes : List ℕ) (given : List (Option (List ℕ))) → map (λ b. Some b) (read ++ bytes ∷ []) ++ given ≡ map (λ b. Some b) read ++ Some bytes ∷ given
given_more [] bytes given = refl
given_more (r ∷ read) bytes given = ap (λ l. Some r ∷ l) (given_more read bytes given)

-- and one more was read
pub one_more_read : (is : List Input) (told : Option Files) (read : List (List ℕ)) (l : Loaded) (i : ℕ) (x : Input) (bytes : List ℕ) → SoFar is told read l i → slice_get is i ≡ Some x → length bytes ≤ limit_of x.kind →
    WhereTold told (λ files. finmap.get files x.name ≡ Some bytes) → SoFar is told (read ++ bytes ∷ []) (with_bytes x.kind bytes l) (i + 1)
one_more_read is told read l i x bytes s at fits is_there =
    let behind = drop_at is i x at in
    record {
      reads = λ given.
          ap (reading 1 is) (given_more read bytes given) ∙ s.reads (Some bytes ∷ given)
          ∙ ap (λ l. with_front read (reading (1 + i) l (Some bytes ∷ given))) behind
          ∙ ap (with_front read) (reads_one (1 + i) x (drop (i + 1) is) bytes given fits)
          ∙ front_twice read (bytes ∷ []) (reading (1 + i + 1) (drop (i + 1) is) given)
          ∙ ap (λ n. with_front (read ++ bytes ∷ []) (reading n (drop (i + 1) is) given)) (let e : 1 + i + 1 ≡ 1 + (i + 1) = omega arith in e);
      asks = λ given.
          let before = ap (asked_count is) (given_more read bytes given) ∙ s.asks (Some bytes ∷ given) ∙ ap (λ l. i + asked_count l (Some bytes ∷ given)) behind in
          let one = asks_one x (drop (i + 1) is) bytes given fits in
          omega (arith, before, one);
      as_told = told_both told _ _ _ (λ files a b.
          a ∙ ap (λ l. map (λ bytes. Some bytes) read ++ contents files l) behind
          ∙ ap (λ o. map (λ bytes. Some bytes) read ++ (o ∷ contents files (drop (i + 1) is))) b
          ∙ sym (given_more read bytes (contents files (drop (i + 1) is)))) s.as_told is_there;
      there = told_both told _ _ _ (λ files a b.
          let P : List Input → Type 0 = λ l. AreThere files l in
          subst P (sym (take_one_more is i x at))
          (all_more (λ (y : Input). IsSomeAnd (finmap.get files y.name) (λ bytes. length bytes ≤ limit_of y.kind)) (take i is) x a (is_some_and (finmap.get files x.name) bytes (limit_of x.kind) b fits))) s.there is_there;
      loads = λ others.
          ap (loaded_of is) (append_assoc read (bytes ∷ []) others) ∙ s.loads (bytes ∷ others) ∙ ap (λ rest. loaded_after l rest (bytes ∷ others)) behind;
      within = bytes_within x.kind bytes l fits s.within;
    }

-- all were read, and what was loaded is what they load
pub all_were_loaded : (is : List Input) (told : Option Files) (read : List (List ℕ)) (l : Loaded) (i : ℕ) → SoFar is told read l i → drop i is ≡ [] → l ≡ loaded_of is read
all_were_loaded is told read l i s none = sym (ap (loaded_of is) (sym (append-nil read)) ∙ s.loads [] ∙ ap (λ rest. loaded_after l rest []) none)

pub all_were_read : (is : List Input) (told : Option Files) (read : List (List ℕ)) (l : Loaded) (i : ℕ) (before after : List (List ℕ)) → SoFar is told read l i → drop i is ≡ [] → take i (names is) ≡ names is →
    after ≡ before ++ take i (names is) → Reads is told before after (all read)
all_were_read is told read l i before after s none whole asked =
    let given = map (λ (bytes : List ℕ). Some bytes) read ++ [] in
    record {
      given = given;
      as_told = told_so told _ _ (λ files e. sym (e ∙ ap (λ l. map (λ bytes. Some bytes) read ++ contents files l) none)) s.as_told;
      reads = s.reads [] ∙ ap (λ l. with_front read (reading (1 + i) l [])) none ∙ ap all (append-nil read);
      asked =
          let count : asked_count is given ≡ i = let e = s.asks [] ∙ ap (λ l. i + asked_count l []) none in omega (arith, e) in
          asked ∙ ap (λ n. before ++ take n (names is)) (sym count);
    }

-- one is too long
pub one_was_too_long : (is : List Input) (told : Option Files) (read : List (List ℕ)) (l : Loaded) (i : ℕ) (x : Input) (bytes : List ℕ) (e : Outcome) (before after : List (List ℕ)) → SoFar is told read l i → slice_get is i ≡ Some x → limit_of x.kind < length bytes →
    WhereTold told (λ files. finmap.get files x.name ≡ Some bytes) → e ≡ longer (i + 1) (limit_of x.kind) → after ≡ before ++ take (i + 1) (names is) → Stops is told e before after
one_was_too_long is told read l i x bytes e before after s at long is_there ends asked =
    let behind = drop_at is i x at in
    let rest = remaining told (drop (i + 1) is) in
    let given = map (λ (b : List ℕ). Some b) read ++ Some bytes ∷ rest.0 in
    inr (inr (
      i + 1,
      (limit_of x.kind),
      ends,
      record {
        given = given;
        as_told = told_so told _ _ (λ files h. h) (told_long told (map (λ (b : List ℕ). Some b) read) is (drop i is) (drop (i + 1) is) x bytes rest.0 behind s.as_told is_there rest.1);
        reads =
            s.reads (Some bytes ∷ rest.0) ∙ ap (λ l. with_front read (reading (1 + i) l (Some bytes ∷ rest.0))) behind
            ∙ ap (with_front read) (reads_long (1 + i) x (drop (i + 1) is) bytes rest.0 long) ∙ ap (λ k. too_long k (limit_of x.kind)) (let n : 1 + i ≡ i + 1 = omega arith in n);
        asked =
            let count : asked_count is given ≡ i + 1 =
            let all_before = s.asks (Some bytes ∷ rest.0) ∙ ap (λ l. i + asked_count l (Some bytes ∷ rest.0)) behind in
            let one = asks_long x (drop (i + 1) is) bytes rest.0 long in
            omega (arith, all_before, one)
            in
            asked ∙ ap (λ n. before ++ take n (names is)) (sym count);
      },
    ))
  where
    remaining : (told : Option Files) (is : List Input) → (given : List (Option (List ℕ))) × WhereTold told (λ files. given ≡ contents files is)
    remaining None is = ([], tt)
    remaining (Some files) is = (contents files is, refl)

    told_long : (told : Option Files) (front : List (Option (List ℕ))) (is behind_i behind : List Input) (x : Input) (bytes : List ℕ) (rest : List (Option (List ℕ))) → behind_i ≡ x ∷ behind →
        WhereTold told (λ files. contents files is ≡ front ++ contents files behind_i) → WhereTold told (λ files. finmap.get files x.name ≡ Some bytes) → WhereTold told (λ files. rest ≡ contents files behind) →
        WhereTold told (λ files. front ++ Some bytes ∷ rest ≡ contents files is)
    told_long None front is behind_i behind x bytes rest e a b c = tt
    told_long (Some files) front is behind_i behind x bytes rest e a b c =
        sym (a ∙ ap (λ l. front ++ contents files l) e ∙ ap (λ o. front ++ (o ∷ contents files behind)) b ∙ ap (λ l. front ++ (Some bytes ∷ l)) (sym c))

-- one can't be read
pub one_failed : (is : List Input) (told : Option Files) (read : List (List ℕ)) (l : Loaded) (i : ℕ) (e : Outcome) (before after : List (List ℕ)) → SoFar is told read l i → i < length is → e ≡ unreadable (i + 1) → after ≡ before ++ take (i + 1) (names is) →
    Stops is told e before after
one_failed is told read l i e before after s within ends asked =
    let here : i + 1 - 1 ≡ i = omega arith in
    inl (
      i + 1,
      ends,
      record {
        from_one = omega arith;
        within = omega (arith, within);
        asked = asked;
        earlier = told_so told _ _ (λ files h. let P : ℕ → Type 0 = λ n. AreThere files (take n is) in subst P (sym here) h) s.there;
      },
    )

-- ---- which names were asked for

pub asked_more : (is : List Input) (i : ℕ) (x : Input) (old mid new : List (List ℕ)) → slice_get is i ≡ Some x → mid ≡ old ++ take i (names is) → new ≡ mid ++ x.name ∷ [] → new ≡ old ++ take (i + 1) (names is)
asked_more is i x old mid new at before one =
    one ∙ ap (λ l. l ++ x.name ∷ []) before ∙ append_assoc old (take i (names is)) (x.name ∷ [])
    ∙ ap (λ l. old ++ l) (sym (take_one_more (names is) i x.name (get_map (λ (y : Input). y.name) is i x at)))

-- the one that is asked for next may be left out
pub asked_perhaps : (is : List Input) (i : ℕ) (x : Input) (old mid new : List (List ℕ)) → slice_get is i ≡ Some x → mid ≡ old ++ take i (names is) → (new ≡ mid) ⊎ (new ≡ mid ++ x.name ∷ []) → (k : ℕ) × (new ≡ old ++ take k (names is))
asked_perhaps is i x old mid new at before (inl none) = (i, none ∙ before)
asked_perhaps is i x old mid new at before (inr one) = (i + 1, asked_more is i x old mid new at before one)

-- why one isn't read stops the reading of all
pub one_stopped : (is : List Input) (told : Option Files) (read : List (List ℕ)) (l : Loaded) (i : ℕ) (x : Input) (e : Outcome) (before after : List (List ℕ)) → SoFar is told read l i → slice_get is i ≡ Some x → i < length is →
    (e ≡ unreadable (i + 1)) ⊎ (e ≡ no_memory) ⊎ ((e ≡ longer (i + 1) (limit_of x.kind)) × IsLonger told x) → ((e ≡ no_memory → ⊥) → after ≡ before ++ take (i + 1) (names is)) → Stops is told e before after
one_stopped is told read l i x e before after s at within (inl failed) asks =
    let status : status_of e ≡ 3 = ap status_of failed in
    one_failed is told read l i e before after s within failed (asks (λ m. let other : status_of e ≡ 17 = ap status_of m in absurd (omega (arith, status, other))))
one_stopped is told read l i x e before after s at within (inr (inl memory)) asks = inr (inl memory)
one_stopped is told read l i x e before after s at within (inr (inr long)) asks =
    let status : status_of e ≡ 10 = ap status_of long.0 in
    one_was_too_long is told read l i x long.1.0 e before after s at long.1.1 long.1.2 long.0 (asks (λ m. let other : status_of e ≡ 17 = ap status_of m in absurd (omega (arith, status, other))))

-- a call that reads an input, and stops at it
pub all_stop : {I A : Type 0} (seen : Ghosts I) (is : List Input) (read : List (List ℕ)) (l : Loaded) (i : ℕ) (x : Input) (e : Outcome) (old mid new : I) → SoFar is (seen.told old) read l i → slice_get is i ≡ Some x → i < length is →
    seen.told mid ≡ seen.told old → seen.asked mid ≡ seen.asked old ++ take i (names is) → seen.fault_count mid ≡ seen.fault_count old → ReadsInput {I = I} {A = A} seen (i + 1) x (Err e) mid new → ReadsInputs seen is (Err e) old new
all_stop {I} {A} seen is read l i x e old mid new s at within same asked quiet one = record {
  read = tt;
  within = tt;
  stops = one_stopped is (seen.told old) read l i x e _ _ s at within
      (let W : Option Files → Type 0 = λ t. (e ≡ unreadable (i + 1)) ⊎ (e ≡ no_memory) ⊎ ((e ≡ longer (i + 1) (limit_of x.kind)) × IsLonger t x) in subst W same one.stops)
      (λ other. asked_more is i x _ _ _ at asked (one.asks (λ m. other (let is_memory : e ≡ no_memory = cc in is_memory))));
  asked = asked_perhaps is i x _ _ _ at asked one.may_ask;
  quiet = tt;
  cause = λ three. let N : ℕ → Type 0 = λ n. Rose n (seen.fault_count new) in subst N quiet (one.cause (ap (λ (a : Outcome). Err a) (failed one.stops three)));
  no_cause = λ ne. one.quiet (λ f. let is_failed : e ≡ unreadable (i + 1) = cc in ne (ap status_of is_failed)) ∙ quiet;
}
  where
    failed : (e ≡ unreadable (i + 1)) ⊎ (e ≡ no_memory) ⊎ ((e ≡ longer (i + 1) (limit_of x.kind)) × IsLonger (seen.told mid) x) → status_of e ≡ 3 → e ≡ unreadable (i + 1)
    failed (inl f) three = f
    failed (inr (inl m)) three = let other : status_of e ≡ 17 = ap status_of m in absurd (omega (arith, three, other))
    failed (inr (inr l)) three = let other : status_of e ≡ 10 = ap status_of l.0 in absurd (omega (arith, three, other))

-- bytes that are longer than a limit, which are those that are told where they are told
pub longer_there : (told : Option Files) (name : List ℕ) (limit : ℕ) → WhereTold told (λ files. IsSomeAnd (finmap.get files name) (λ bytes. limit < length bytes)) →
    (bytes : List ℕ) × (limit < length bytes) × WhereTold told (λ files. finmap.get files name ≡ Some bytes)
longer_there None name limit h = (replicate (limit + 1) 0, omega (arith, length-replicate {A = ℕ} (limit + 1) 0), tt)
longer_there (Some files) name limit h = of_option (finmap.get files name) h
  where
    of_option : (o : Option (List ℕ)) → IsSomeAnd o (λ bytes. limit < length bytes) → (bytes : List ℕ) × (limit < length bytes) × (o ≡ Some bytes)
    of_option None h = absurd h
    of_option (Some bytes) h = (bytes, h, refl)

-- ---- an input as code reads it

abbrev pub wanted_at : List in_memory.Input → ℕ → in_memory.Input
wanted_at wanted i = get_or wanted i (record { kind = input.Program; name = record { ref_ptr = (0, 0); now = [] } })

pub at_wanted : (wanted : List in_memory.Input) (i : ℕ) → i < length wanted → slice_get (map input_of wanted) i ≡ Some (input_of (wanted_at wanted i))
at_wanted wanted i within = get_map input_of wanted i (wanted_at wanted i) (slice_get-get_or wanted i _ within)
