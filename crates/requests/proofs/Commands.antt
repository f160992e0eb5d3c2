-- A command is read from its own words, and from no others.
use Rattle.std.proofs.Common.{◌≡◌, ◌⊎◌, inl, inr, ℕ, ◌++◌, Bool, true, false, cond, not, ◌&&◌, ◌||◌, List, [], ◌∷◌, take, drop, Option, Some, None, refl, sym, ap, subst, ◌∙◌}
use Rattle.std.specs.Prelude.{codes}
use Rattle.std.specs.List.{AllByRecursion}
use Rattle.std.specs.Option.{option_or}
use Rattle.std.specs.Str.{bytes_eq}
use Rattle.std.proofs.lemmas.Bool.{false≢true}
use Rattle.std.proofs.lemmas.Option.{same_Some, some_pair_parts}
use Rattle.requests.specs.declared.kind.PlanKind.{PlanKind}
use Rattle.requests.specs.declared.kind.PlanKind.TheVariants.{Revolve, Multistage, Disk, Hrevolve}
use Rattle.requests.specs.declared.question.Question.{Question}
use Rattle.requests.specs.declared.question.Question.TheVariants.{State, LastWrite, LastChange}
use Rattle.requests.specs.ParserSteps.{◌>>=◌}
use Rattle.requests.specs.Request.{Ask, Command, run, plan, plan_periodic, check, certify, cost, ask, find, asm, disasm, console, demo, command_words, CanBeSpelled}
use Rattle.requests.specs.Forms.{Place, fixed, named, named_or_none, schedule_named, scheduled, numbered, addressed, digested, Value, word_at, Allows, taken, front_taken, Values, words_at, AllAllowed, all_taken, Form, form_taken, forms, first_of, command_of, run_form, plan_form, periodic_form, check_form, certify_form, cost_form, ask_form, find_form, asm_form, disasm_form, console_form, demo_form}
use Rattle.requests.proofs.FormValues.{with_value}
use Rattle.requests.proofs.PlaceWords.{taken_again, taken_read}
use Rattle.requests.proofs.Steps.{bind_some, and_parts, none_so}

-- ---- forms

all_again : (ps : List Place) (vs : Values ps) → AllAllowed ps vs → all_taken ps (words_at ps vs) ≡ Some vs
unfolding front_taken
all_again [] vs h = refl
all_again (p ∷ ps) vs h =
    let all : Value p × List (List ℕ) → Option (Values (p ∷ ps)) = λ x. all_taken ps x.1 >>= with_value p ps x.0 in
    let front : Value p → Option (Value p × List (List ℕ)) = λ v. Some (v, words_at ps vs.1) in
    ap (λ o. (o >>= front) >>= all) (taken_again p vs.0 h.0) ∙ ap (λ o. o >>= with_value p ps vs.0) (all_again ps vs.1 h.1)

all_read : (ps : List Place) (words : List (List ℕ)) (vs : Values ps) → all_taken ps words ≡ Some vs → (words ≡ words_at ps vs) × AllAllowed ps vs
unfolding front_taken
all_read [] [] vs e = (refl, tt)
all_read [] (word ∷ words) vs e = absurd cc
all_read (p ∷ ps) [] vs e = absurd cc
all_read (p ∷ ps) (word ∷ words) vs e =
    let front : Value p → Option (Value p × List (List ℕ)) = λ v. Some (v, words) in
    let all : Value p × List (List ℕ) → Option (Values (p ∷ ps)) = λ x. all_taken ps x.1 >>= with_value p ps x.0 in
    let first = bind_some (taken p word >>= front) all vs e in
    let one = bind_some (taken p word) front first.0 first.1 in
    let parts = some_pair_parts one.0 (first.0).0 words (first.0).1 one.2 in
    let rest = bind_some (all_taken ps (first.0).1) (with_value p ps (first.0).0) vs first.2 in
    let others = all_read ps (first.0).1 rest.0 rest.1 in
    let word_is = taken_read p word (first.0).0 (one.1 ∙ ap (λ v. Some v) parts.0) in
    let P : Values (p ∷ ps) → Type 0 = λ x. (word ∷ words ≡ words_at (p ∷ ps) x) × AllAllowed (p ∷ ps) x in
    subst P (same_Some ((first.0).0, rest.0) vs rest.2) ((λ i. word_is.0 i ∷ (parts.1 ∙ others.0) i), (word_is.1, others.1))

-- a form makes commands whose words are those that it takes
abbrev IsRight : Form → Type 0
IsRight f = (vs : Values f.places) → (command_words (f.make vs) ≡ words_at f.places vs) × (AllAllowed f.places vs → CanBeSpelled (f.make vs))

forms_right : AllByRecursion IsRight forms
forms_right = (λ vs. (refl, λ h. h), (λ vs. (refl, λ h. h), (λ vs. (refl, λ h. h), (λ vs. (refl, λ h. h), (λ vs. (refl, λ h. h), (λ vs. (refl, λ h. h), (λ vs. (refl, λ h. h), (λ vs. (refl, λ h. h), (λ vs. (refl, λ h. h), (λ vs. (refl, λ h. h), (λ vs. (refl, λ h. h), (λ vs. (refl, λ h. h), (λ vs. (refl, λ h. h), (λ vs. (refl, λ h. h), (λ vs. (refl, λ h. h), (λ vs. (refl, λ h. h), (λ vs. (refl, λ h. h), tt)))))))))))))))))

-- the words are those of a command
pub record IsCommand (words : List (List ℕ)) (c : Command) : Type 0 where
  pub spelled : words ≡ command_words c
  pub allowed : CanBeSpelled c

form_read : (f : Form) (words : List (List ℕ)) (c : Command) → IsRight f → form_taken f words ≡ Some c → IsCommand words c
form_read f words c right e =
    let step = bind_some (all_taken f.places words) (λ vs. Some (f.make vs)) c e in
    let read = all_read f.places words step.0 step.1 in
    let is = right step.0 in
    subst (λ (x : Command). IsCommand words x) (same_Some (f.make step.0) c step.2) (record { spelled = read.0 ∙ sym is.0; allowed = is.1 read.1 })

either : (found x : Option Command) (c : Command) → option_or found x ≡ Some c → (found ≡ Some c) ⊎ (x ≡ Some c)
either None x c e = inr e
either (Some y) x c e = inl e

first_read : (found : Option Command) (fs : List Form) (words : List (List ℕ)) (c : Command) → AllByRecursion IsRight fs → (found ≡ Some c → IsCommand words c) → first_of found fs words ≡ Some c →
    IsCommand words c
first_read found [] words c right before e = before e
first_read found (f ∷ fs) words c right before e =
    first_read (option_or found (form_taken f words)) fs words c right.1 (λ is. elim (either found (form_taken f words) c is) [ inl a ↦ before a | inr b ↦ form_read f words c right.0 b ]) e

pub command_read : (words : List (List ℕ)) (c : Command) → command_of words ≡ Some c → IsCommand words c
unfolding command_of
command_read words c e = first_read None forms words c forms_right (λ none. absurd cc) e

-- ---- forms that take no words in common

-- a place is never spelled as this text
abbrev differs : Place → List ℕ → Bool
differs (fixed text) other = not (bytes_eq text other)
differs named other = false
differs named_or_none other = false
differs schedule_named other = false
differs scheduled other = false
differs numbered other = false
differs addressed other = false
differs digested other = false

abbrev place_apart : Place → Place → Bool
place_apart p (fixed text) = differs p text
place_apart p named = false
place_apart p named_or_none = false
place_apart p schedule_named = false
place_apart p scheduled = false
place_apart p numbered = false
place_apart p addressed = false
place_apart p digested = false

-- the number of places differs, or what may stand at one of them
abbrev apart : List Place → List Place → Bool
apart [] [] = false
apart [] (q ∷ qs) = true
apart (p ∷ ps) [] = true
apart (p ∷ ps) (q ∷ qs) = place_apart p q || apart ps qs

differs_none : (p : Place) (text : List ℕ) (v : Value p) → Allows p v → differs p text ≡ true → taken (fixed text) (word_at p v) ≡ None
differs_none (fixed own) text v h e = ap (λ b. cond {A = Option (Unit {0})} b (Some tt) None) (none_so (bytes_eq own text) e)
differs_none named text v h e = absurd (false≢true e)
differs_none named_or_none text v h e = absurd (false≢true e)
differs_none schedule_named text v h e = absurd (false≢true e)
differs_none scheduled text v h e = absurd (false≢true e)
differs_none numbered text v h e = absurd (false≢true e)
differs_none addressed text v h e = absurd (false≢true e)
differs_none digested text v h e = absurd (false≢true e)

place_none : (p q : Place) (v : Value p) → Allows p v → place_apart p q ≡ true → taken q (word_at p v) ≡ None
place_none p (fixed text) v h e = differs_none p text v h e
place_none p named v h e = absurd (false≢true e)
place_none p named_or_none v h e = absurd (false≢true e)
place_none p schedule_named v h e = absurd (false≢true e)
place_none p scheduled v h e = absurd (false≢true e)
place_none p numbered v h e = absurd (false≢true e)
place_none p addressed v h e = absurd (false≢true e)
place_none p digested v h e = absurd (false≢true e)

apart_none : (ps qs : List Place) (vs : Values ps) → AllAllowed ps vs → apart ps qs ≡ true → all_taken qs (words_at ps vs) ≡ None
unfolding front_taken
apart_none [] [] vs h e = absurd (false≢true e)
apart_none [] (q ∷ qs) vs h e = refl
apart_none (p ∷ ps) [] vs h e = refl
apart_none (p ∷ ps) (q ∷ qs) vs h e = by_first (apart_none ps qs vs.1 h.1) (place_apart p q) refl
  where
    front : Value q → Option (Value q × List (List ℕ))
    front v = Some (v, words_at ps vs.1)

    all : Value q × List (List ℕ) → Option (Values (q ∷ qs))
    all x = all_taken qs x.1 >>= with_value q qs x.0

    by_word : all_taken qs (words_at ps vs.1) ≡ None → (o : Option (Value q)) → taken q (word_at p vs.0) ≡ o → ((taken q (word_at p vs.0) >>= front) >>= all) ≡ None
    by_word none None f = ap (λ o. (o >>= front) >>= all) f
    by_word none (Some v) f = ap (λ o. (o >>= front) >>= all) f ∙ ap (λ o. o >>= with_value q qs v) none

    by_first : (apart ps qs ≡ true → all_taken qs (words_at ps vs.1) ≡ None) → (b : Bool) → place_apart p q ≡ b → ((taken q (word_at p vs.0) >>= front) >>= all) ≡ None
    by_first rest true f = ap (λ o. (o >>= front) >>= all) (place_none p q vs.0 h.0 f)
    by_first rest false f = by_word (rest (sym (ap (λ b. b || apart ps qs) f) ∙ e)) (taken q (word_at p vs.0)) refl

abbrev all_apart : List Place → List Form → Bool
all_apart ps [] = true
all_apart ps (g ∷ gs) = apart ps g.places && all_apart ps gs

-- ---- commands

first_some : (c : Command) (fs : List Form) (words : List (List ℕ)) → first_of (Some c) fs words ≡ Some c
first_some c [] words = refl
first_some c (f ∷ fs) words = first_some c fs words

-- the form is behind others that take other words
again : (before : List Form) (f : Form) (after : List Form) (vs : Values f.places) → AllAllowed f.places vs → all_apart f.places before ≡ true →
    first_of None (before ++ f ∷ after) (words_at f.places vs) ≡ Some (f.make vs)
again [] f after vs h e =
    ap (λ o. first_of (o >>= λ x. Some (f.make x)) after (words_at f.places vs)) (all_again f.places vs h) ∙ first_some (f.make vs) after (words_at f.places vs)
again (g ∷ before) f after vs h e =
    let parts = and_parts _ _ e in
    ap (λ o. first_of (o >>= λ x. Some (g.make x)) (before ++ f ∷ after) (words_at f.places vs)) (apart_none f.places g.places vs h parts.0)
    ∙ again before f after vs h parts.1

planned : (kind : PlanKind) (book : List ℕ) (steps : ℕ) → CanBeSpelled (plan (record { kind = kind; book = book; steps = steps })) →
    command_of (command_words (plan (record { kind = kind; book = book; steps = steps }))) ≡ Some (plan (record { kind = kind; book = book; steps = steps }))
unfolding command_of
planned Revolve book steps h = again (take 1 forms) (plan_form Revolve) (drop 2 forms) (tt, (tt, (book, (steps, tt)))) h refl
planned Multistage book steps h = again (take 2 forms) (plan_form Multistage) (drop 3 forms) (tt, (tt, (book, (steps, tt)))) h refl
planned Disk book steps h = again (take 3 forms) (plan_form Disk) (drop 4 forms) (tt, (tt, (book, (steps, tt)))) h refl
planned Hrevolve book steps h = again (take 4 forms) (plan_form Hrevolve) (drop 5 forms) (tt, (tt, (book, (steps, tt)))) h refl

asked : (question : Question) (c : Ask) → CanBeSpelled (ask (record c { question = question })) →
    command_of (command_words (ask (record c { question = question }))) ≡ Some (ask (record c { question = question }))
unfolding command_of
asked (State place) c h =
    again (take 9 forms) (ask_form (codes "state") numbered State) (drop 10 forms) (tt, (tt, (c.run.program, (c.run.journal, (c.run.book, (c.schedule, (c.run.steps, (place, tt)))))))) h refl
asked (LastWrite address) c h =
    again (take 10 forms) (ask_form (codes "last-write") addressed LastWrite) (drop 11 forms) (tt, (tt, (c.run.program, (c.run.journal, (c.run.book, (c.schedule, (c.run.steps, (address, tt)))))))) h refl
asked (LastChange address) c h =
    again (take 11 forms) (ask_form (codes "last-change") addressed LastChange) (drop 12 forms) (tt, (tt, (c.run.program, (c.run.journal, (c.run.book, (c.schedule, (c.run.steps, (address, tt)))))))) h refl

pub command_again : (c : Command) → CanBeSpelled c → command_of (command_words c) ≡ Some c
unfolding command_of
command_again (run c) h = again [] run_form (drop 1 forms) (tt, (c.run.program, (c.run.journal, (c.run.book, (c.schedule, (c.run.steps, tt)))))) h refl
command_again (plan c) h = planned c.kind c.book c.steps h
command_again (plan_periodic c) h = again (take 5 forms) periodic_form (drop 6 forms) (tt, (tt, (c.book, (c.steps, (c.period, tt))))) h refl
command_again (check c) h = again (take 6 forms) check_form (drop 7 forms) (tt, (c.book, (c.schedule, (c.steps, tt)))) h refl
command_again (certify c) h = again (take 7 forms) certify_form (drop 8 forms) (tt, (c.book, (c.schedule, (c.certificate, (c.steps, tt))))) h refl
command_again (cost c) h = again (take 8 forms) cost_form (drop 9 forms) (tt, (c.book, (c.schedule, (c.steps, tt)))) h refl
command_again (ask c) h = asked c.question c h
command_again (find c) h = again (take 12 forms) find_form (drop 13 forms) (tt, (tt, (c.program, (c.journal, (c.steps, (c.digest, tt)))))) h refl
command_again (asm c) h = again (take 13 forms) asm_form (drop 14 forms) (tt, (c.source, tt)) h refl
command_again (disasm c) h = again (take 14 forms) disasm_form (drop 15 forms) (tt, (c.program, tt)) h refl
command_again (console c) h = again (take 15 forms) console_form (drop 16 forms) (tt, (c.program, (c.journal, (c.book, (c.script, (c.steps, tt)))))) h refl
command_again (demo c) h = again (take 16 forms) demo_form [] (tt, (c.number, (c.steps, (c.slots, tt)))) h refl
