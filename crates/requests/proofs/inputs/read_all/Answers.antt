use Rattle.std.proofs.Common.{◌≡◌, ◌∙◌, ◌+◌, ◌<◌, ◌≤◌, ◌++◌, ℕ, List, [], ◌∷◌, Option, Some, map, length, append-nil, Err, refl, sym, subst, arith, rules}
use Rattle.std.proofs.lemmas.Result.{err_from_is_err_and}
use Rattle.std.proofs.lemmas.List.{take_all, drop_all, length-map}
use Rattle.std.specs.FinMap as finmap
use Rattle.keepers.specs.Claims.{WhereTold, Files}
use Rattle.endings.specs.declared.outcome.Outcome.{Outcome}
use Rattle.requests.specs.Inputs.{Input, names}
use Rattle.requests.specs.InputOutcome.{input_of, ReadsInputs}
use Rattle.requests.specs.Loaded.{Loaded}
use Rattle.requests.proofs.InputSequence.{SoFar, none_so_far, one_more_read, all_were_read, all_were_loaded, all_stop, asked_more, at_wanted, wanted_at}
use Rattle.requests.proofs.inputs.read_all.Goals as goal

pub loop-i-init : goal.loop-i-init
loop-i-init g c =
    let is = map input_of c.args.wanted.now in
    let S : Loaded → Type 0 = λ l. (read : List (List ℕ)) × SoFar is (g.I.Inputs.told c.args.inputs.now) read l 0 in
    record {
      so_far = subst S (sym c.new-loaded.ensures) ([], none_so_far is (g.I.Inputs.told c.args.inputs.now));
      same = refl;
      asked = sym (append-nil (g.I.Inputs.asked c.args.inputs.now));
      quiet = refl;
    }

pub loop-i-preserved : goal.loop-i-preserved
loop-i-preserved g c =
    let wanted = c.args.wanted.now in
    let is = map input_of wanted in
    let inv = c.loop-i.invariant in
    let i = c.loop-i.i in
    let x = wanted_at wanted i in
    let at = at_wanted wanted i c.loop-i-test.true in
    let got = c.in_ok-bytes.ensures in
    let bytes = c.in_ok-bytes.bytes in
    let W : Option Files → Type 0 = λ t. WhereTold t (λ files. finmap.get files x.name.now ≡ Some bytes.items) in
    let is_there = subst W inv.same got.read.1 in
    let S : Loaded → Type 0 = λ l. (read : List (List ℕ)) × SoFar is (g.I.Inputs.told c.args.inputs.now) read l (i + 1) in
    record {
      so_far = subst S (sym c.put.ensures) (inv.so_far.0 ++ bytes.items ∷ [], one_more_read is _ inv.so_far.0 _ i (input_of x) bytes.items inv.so_far.1 at got.read.0 is_there);
      same = got.same ∙ inv.same;
      asked = asked_more is i (input_of x) _ _ _ at inv.asked (got.asks (λ e. absurd cc));
      quiet = got.quiet (λ e. absurd cc) ∙ inv.quiet;
    }

pub returns : goal.returns
returns g c =
    let is = map input_of c.args.wanted.now in
    let inv = c.loop-i.invariant in
    let i = c.loop-i.i in
    let short : length is ≤ i = omega (arith, c.loop-i-test.false, length-map c.args.wanted.now input_of) in
    let none = drop_all i is short in
    record {
      read = (
        inv.so_far.0,
        all_were_loaded is _ inv.so_far.0 _ i inv.so_far.1 none,
        all_were_read is _ inv.so_far.0 _ i _ _ inv.so_far.1 none (take_all i (names is) (omega (arith, short, length-map is (λ (x : Input). x.name)))) inv.asked,
      );
      within = inv.so_far.1.within;
      stops = search rules;
      asked = (i, inv.asked);
      quiet = inv.quiet;
      cause = search rules;
      no_cause = search rules;
    }

pub returns-in_err-bytes : goal.returns-in_err-bytes
returns-in_err-bytes g c =
    let wanted = c.args.wanted.now in
    let is = map input_of wanted in
    let inv = c.loop-i.invariant in
    let i = c.loop-i.i in
    let within : i < length is = omega (arith, c.loop-i-test.true, length-map wanted input_of) in
    let p = err_from_is_err_and c.from_residual.result c.from_residual.ensures.1 in
    let is_same : p.0 ≡ c.in_err-bytes.field-0.0 = p.2 in
    let P : _ → Type 0 = λ r. ReadsInputs g.I.Inputs is r c.args.inputs.now c.read_input.new.inputs in
    let Q : Outcome → Type 0 = λ e. P (Err e) in
    let at = at_wanted wanted i c.loop-i-test.true in
    subst P (sym p.1) (subst Q (sym is_same) (all_stop g.I.Inputs is inv.so_far.0 _ i (input_of (wanted_at wanted i)) c.in_err-bytes.field-0.0 _ _ _ inv.so_far.1 at within inv.same inv.asked inv.quiet c.in_err-bytes.ensures))
