use Rattle.std.proofs.Common.{◌∙◌, ℕ, Option, IfNone, codes, sym, subst}
use Rattle.clap.specs.Words.{Text, found_of, rows_of}
use Rattle.clap.proofs.WalkLemmas.{first_value-rows, one_text-rows}
use Rattle.reversal_gdb.specs.declared.options.Options.{Options}
use Rattle.reversal_gdb.specs.OptionValues.{IsNumberOf}
use Rattle.reversal_gdb.specs.CommandLine.{AreOptions}
use Rattle.reversal_gdb.proofs.options.Options.among.Goals as goal

pub returns-in_err-stack-clause-none : goal.returns-in_err-stack-clause-none
returns-in_err-stack-clause-none c =
    let found = found_of c.args.matches.now in
    let P : Option Options → Type 0 = λ r. IfNone r ((o : Options) → AreOptions (rows_of found) o → ⊥) in
    let N : Option Text → Type 0 = λ t. (n : ℕ) → IsNumberOf t 16 1 1024 n → ⊥ in
    let none = subst N (c.get_str.ensures ∙ first_value-rows found (codes "stack")) c.in_err-stack.ensures.none in
    subst P (sym c.from_residual.ensures) (λ o are. none o.stack are.stack)

pub returns-in_err-most-clause-none : goal.returns-in_err-most-clause-none
returns-in_err-most-clause-none c =
    let found = found_of c.args.matches.now in
    let P : Option Options → Type 0 = λ r. IfNone r ((o : Options) → AreOptions (rows_of found) o → ⊥) in
    let N : Option Text → Type 0 = λ t. (n : ℕ) → IsNumberOf t 4294967294 1 4294967294 n → ⊥ in
    let none = subst N (c.get_str-2.ensures ∙ first_value-rows found (codes "most")) c.in_err-most.ensures.none in
    subst P (sym c.from_residual-in_err-most.ensures) (λ o are. none o.most are.most)

pub returns-in_err-marks-clause-none : goal.returns-in_err-marks-clause-none
returns-in_err-marks-clause-none c =
    let found = found_of c.args.matches.now in
    let P : Option Options → Type 0 = λ r. IfNone r ((o : Options) → AreOptions (rows_of found) o → ⊥) in
    let N : Option Text → Type 0 = λ t. (n : ℕ) → IsNumberOf t 256 2 65536 n → ⊥ in
    let none = subst N (c.get_str-3.ensures ∙ first_value-rows found (codes "marks")) c.in_err-marks.ensures.none in
    subst P (sym c.from_residual-in_err-marks.ensures) (λ o are. none o.marks are.marks)

pub returns-clause-some : goal.returns-clause-some
returns-clause-some c =
    let found = found_of c.args.matches.now in
    let S : Option Text → Type 0 = λ t. IsNumberOf t 16 1 1024 c.in_ok-stack.stack in
    let N : Option Text → Type 0 = λ t. IsNumberOf t 4294967294 1 4294967294 c.in_ok-most.most in
    let M : Option Text → Type 0 = λ t. IsNumberOf t 256 2 65536 c.in_ok-marks.marks in
    record {
      raw = record {
        set = λ e. c.get_flag.ensures.value (one_text-rows found (codes "raw") ∙ e);
        unset = λ e. c.get_flag.ensures.other (one_text-rows found (codes "raw") ∙ e);
        absent = λ e. c.get_flag.ensures.none (one_text-rows found (codes "raw") ∙ e);
      };
      stack = subst S (c.get_str.ensures ∙ first_value-rows found (codes "stack")) c.in_ok-stack.ensures.some;
      most = subst N (c.get_str-2.ensures ∙ first_value-rows found (codes "most")) c.in_ok-most.ensures.some;
      marks = subst M (c.get_str-3.ensures ∙ first_value-rows found (codes "marks")) c.in_ok-marks.ensures.some;
    }
