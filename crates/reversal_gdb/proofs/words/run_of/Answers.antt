use Rattle.std.proofs.Common.{◌≡◌, ◌∙◌, Bool, true, false, Option, Some, None, IfNone, MatchOption, codes, rules, tests, refl, sym, ap, subst}
use Rattle.std.specs.Borrow.{Bor}
use Rattle.std.specs.Bool.{then_some}
use Rattle.std.specs.Option.{option_map}
use Rattle.clap.specs.Words.{Text, first_value, found_of, rows_of}
use Rattle.clap.specs.declared.parser.matches.ArgMatches.{ArgMatches}
use Rattle.clap.proofs.WalkLemmas.{first_value-rows}
use Rattle.reversal_gdb.specs.declared.words.Run.{Run}
use Rattle.reversal_gdb.specs.CommandLine.{IsJournalName, Names}
use Rattle.reversal_gdb.proofs.words.run_of.Goals as goal

no_program : (m : ArgMatches) → None ≡ first_value (found_of m) (codes "program") → (run : Run) → Names (rows_of (found_of m)) run → ⊥
no_program m none run n = let bad : Some run.program.now ≡ None = sym n.program ∙ sym (none ∙ first_value-rows (found_of m) (codes "program")) in cc

journal_named : (o r : Option (Bor Text)) (Q : Bor Text → Bool → Type 0) → ((x : Bor Text) → Q x true → x.now ≡ codes "-" → ⊥) → ((x : Bor Text) → Q x false → x.now ≡ codes "-") →
    MatchOption o (r ≡ None) (λ x. (b : Bool) × Q x b × (r ≡ then_some b x)) → IsJournalName (option_map (λ s. s.now) o) (option_map (λ s. s.now) r)
journal_named None r Q other lone h = ap (option_map (λ (s : Bor Text). s.now)) h
journal_named (Some x) r Q other lone (true, q, e) =
    let P : Option (Bor Text) → Type 0 = λ y. IsJournalName (Some x.now) (option_map (λ s. s.now) y) in
    subst P (sym e) (refl, other x q)
journal_named (Some x) r Q other lone (false, q, e) =
    let P : Option (Bor Text) → Type 0 = λ y. IsJournalName (Some x.now) (option_map (λ s. s.now) y) in
    subst P (sym e) (lone x q)

pub returns-in_err-get_str-clause-none : goal.returns-in_err-get_str-clause-none
returns-in_err-get_str-clause-none c =
    let P : Option Run → Type 0 = λ r. IfNone r ((run : Run) → Names (rows_of (found_of c.args.matches.now)) run → ⊥) in
    subst P (sym c.from_residual-in_err-get_str.ensures) (no_program c.args.matches.now c.in_err-get_str.ensures)

pub returns-clause-some : goal.returns-clause-some
returns-clause-some c =
    let m = c.args.matches.now in
    let J : Option Text → Type 0 = λ t. IsJournalName t (option_map (λ s. s.now) c.filter.result) in
    record {
      options = c.in_ok-among.ensures.some;
      program = sym (c.in_ok-get_str.ensures ∙ first_value-rows (found_of m) (codes "program"));
      journal = subst J (c.get_str-2.ensures ∙ first_value-rows (found_of m) (codes "journal")) (journal_named c.get_str-2.result c.filter.result _ (λ x k e. search (rules, tests)) (λ x k. search (rules, tests)) c.filter.ensures);
    }
