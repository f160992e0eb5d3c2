use Rattle.std.proofs.Common.{◌∙◌, sym, ap, length, arith}
use Rattle.requests.specs.declared.places.KeepAt.TheVariants.{Folder}
use Rattle.requests.specs.ChoiceParser.{as_choice}
use Rattle.requests.specs.Places.{place_from}
use Rattle.requests.proofs.Requests.{one_more, no_more}
use Rattle.requests.proofs.FolderPlaces.{here, further, front_length}
use Rattle.requests.proofs.places.place.Goals as goal

pub returns-then-is_files : goal.returns-then-is_files
returns-then-is_files c =
    let word = c.loop-choice.word in
    ap (Folder word) (sym (front_length c.args.level c.requires.level))
    ∙ sym (here c.args.level word (as_choice c.in-Some.choice) _ (sym c.if-is_files.ensures))
    ∙ ap (place_from c.args.level word) (sym (one_more _ _ _ c.in-Some.ensures).options)
    ∙ c.loop-choice.invariant.same

pub loop-choice-preserved : goal.loop-choice-preserved
loop-choice-preserved c =
    let word = c.loop-choice.word in
    let more = (one_more _ _ _ c.in-Some.ensures).options in
    record {
      same = sym (further c.args.level word (as_choice c.in-Some.choice) _ (sym c.if-is_files.ensures)) ∙ ap (place_from c.args.level word) (sym more) ∙ c.loop-choice.invariant.same;
      few = omega (arith, ap length more, c.loop-choice.invariant.few);
    }

pub returns : goal.returns
returns c = ap (place_from c.args.level c.loop-choice.word) (sym (no_more _ c.in_default.ensures).options) ∙ c.loop-choice.invariant.same
