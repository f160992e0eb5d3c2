use Rattle.std.proofs.Common.{rules, ap, ap₂, refl, true, false, map, subst, List, Some, Result, Ok, Err, IfOk, codes, string_bytes, ◌≡◌, ◌∙◌}
use Rattle.clap.specs.Words.{App, Rule, Text, FailsBy, HasMatchesOf, found_of, rows_of, app_of, fault_of, is_simple, is_simple_and_free, matches_of, new_rule, rule_of, with_rule}
use Rattle.clap.specs.declared.builder.arg.Arg.{Arg}
use Rattle.clap.specs.declared.error.Error.{Error}
use Rattle.clap.specs.declared.parser.matches.ArgMatches.{ArgMatches}
use Rattle.clap.specs.declared.builder.action.ArgAction.TheVariants.{SetTrue}
use Rattle.clap.proofs.OnLiterals.{clap_on_literals}
use Rattle.reversal_gdb.specs.CommandLine.{command, flag, option, program}
use Rattle.reversal_gdb.proofs.words.matches_of.Goals as goal

is_simple_command : is_simple command ≡ true
unfolding clap_on_literals
is_simple_command = refl

is_free_command : is_simple_and_free command ≡ true
unfolding clap_on_literals
is_free_command = refl

command_is : (c : goal.After-try_get_matches_from) → app_of c.in_ok-command.command ≡ command
command_is c =
    let long_is : rule_of c.long.result ≡ option (codes "raw") = ap rule_of c.long.ensures ∙ ap (λ (r : Rule). record r { long = Some (codes "raw") }) c.new.ensures.rule in
    let raw_is : rule_of c.action-raw.result ≡ flag (codes "raw") = ap rule_of c.action-raw.ensures ∙ ap (λ (r : Rule). record r { action = Some SetTrue }) long_is in
    let is_local : c.action-raw.result.global ≡ false = ap (λ (a : Arg). a.global) c.action-raw.ensures ∙ ap (λ (a : Arg). a.global) c.long.ensures ∙ c.new.ensures.optional.1 in
    let stack_is : rule_of c.long-2.result ≡ option (codes "stack") = search rules in
    let most_is : rule_of c.long-3.result ≡ option (codes "most") = search rules in
    let marks_is : rule_of c.long-4.result ≡ option (codes "marks") = search rules in
    let program_is : rule_of c.required.result ≡ program = search rules in
    let journal_is : rule_of c.new-7.result ≡ new_rule (codes "journal") = search rules in
    c.in_ok-command.ensures.shape (search rules)
    ∙ ap₂ with_rule (c.in_ok-arg-5.ensures.shape (search rules)
    ∙ ap₂ with_rule (c.in_ok-arg-4.ensures.shape (search rules)
    ∙ ap₂ with_rule (c.in_ok-arg-3.ensures.shape (search rules)
    ∙ ap₂ with_rule (c.in_ok-arg-2.ensures.shape (search rules)
    ∙ ap₂ with_rule (c.in_ok-arg.ensures.shape is_local ∙ ap₂ with_rule c.new-2.ensures.app raw_is) stack_is) most_is) marks_is) program_is) journal_is

found_by : (r : Result ArgMatches Error) (a b : App) (words : List Text) → a ≡ b → is_simple b ≡ true → IfOk r (HasMatchesOf a words) → IfOk r (λ m. rows_of (found_of m) ≡ matches_of b words)
found_by (Ok m) a b words e s h = (h (ap is_simple e ∙ s)).0 ∙ ap (λ (x : App). matches_of x words) e
found_by (Err x) a b words e s h = tt

fails_by : (r : Result ArgMatches Error) (a b : App) (words : List Text) → a ≡ b → is_simple_and_free b ≡ true → (is_simple_and_free a ≡ true → FailsBy (fault_of a words) r) → FailsBy (fault_of b words) r
fails_by r a b words e s h = let K : App → Type 0 = λ x. FailsBy (fault_of x words) r in subst K e (h (ap is_simple_and_free e ∙ s))

pub returns-clause-found : goal.returns-clause-found
returns-clause-found c = found_by c.try_get_matches_from.result (app_of c.in_ok-command.command) command (map string_bytes c.args.words.now) (command_is c) is_simple_command c.try_get_matches_from.ensures.matches

pub returns-clause-fails : goal.returns-clause-fails
returns-clause-fails c = fails_by c.try_get_matches_from.result (app_of c.in_ok-command.command) command (map string_bytes c.args.words.now) (command_is c) is_free_command c.try_get_matches_from.ensures.kinds
