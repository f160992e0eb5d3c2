-- Options that are found among those of a request.
use Rattle.std.proofs.Common.{◌≡◌, Bool, true, false, cond, ◌||◌, List, [], ◌∷◌, find, Option, Some, None, refl, sym, ap, ◌∙◌}
use Rattle.std.specs.Prelude.{is_some}
use Rattle.std.specs.List.{list_any}
use Rattle.line_texts.specs.Parsers.{GivesSome}
use Rattle.requests.specs.declared.options.Choice as in_memory
use Rattle.requests.specs.Request.{Choice, raw, stack, workers, units, files, stack_pages, worker_count, unit_count}
use Rattle.requests.specs.ChoiceParser.{number_like, as_choice}

-- ---- the number of an option, or its default

pub stack_first : (options : List Choice) → number_like (stack 16) options ≡ stack_pages options
stack_first [] = refl
stack_first (raw ∷ options) = stack_first options
stack_first (stack pages ∷ options) = refl
stack_first (workers count ∷ options) = stack_first options
stack_first (units count ∷ options) = stack_first options
stack_first (files level folder ∷ options) = stack_first options

pub workers_first : (options : List Choice) → number_like (workers 1) options ≡ worker_count options
workers_first [] = refl
workers_first (raw ∷ options) = workers_first options
workers_first (stack pages ∷ options) = workers_first options
workers_first (workers count ∷ options) = refl
workers_first (units count ∷ options) = workers_first options
workers_first (files level folder ∷ options) = workers_first options

pub units_first : (options : List Choice) → number_like (units 1) options ≡ unit_count options
units_first [] = refl
units_first (raw ∷ options) = units_first options
units_first (stack pages ∷ options) = units_first options
units_first (workers count ∷ options) = units_first options
units_first (units count ∷ options) = refl
units_first (files level folder ∷ options) = units_first options

-- ---- an option is found where one passes the test

found_any : (test : Choice → Bool) (options : List Choice) → is_some (find test options) ≡ list_any test options
found_any test [] = refl
found_any test (c ∷ options) = by_test (test c) (found_any test options)
  where
    by_test : (b : Bool) → is_some (find test options) ≡ list_any test options → is_some (cond b (Some c) (find test options)) ≡ (b || list_any test options)
    by_test true rest = refl
    by_test false rest = rest

pub any_found : (test : Choice → Bool) (options : List Choice) (r : Option in_memory.Choice) → GivesSome as_choice r (find test options) → is_some r ≡ list_any test options
any_found test options (Some c) found = sym (ap is_some found) ∙ found_any test options
any_found test options None found = sym (ap is_some found) ∙ found_any test options
