use Rattle.std.proofs.Common.{ap, sym, ◌∙◌, Some}
use Rattle.serde_json.specs.View.{view}
use Rattle.level_book.proofs.ReadLevels.{has_fields, slots_counted, slots_uncounted}
use Rattle.level_book.proofs.reading.level_of.Goals as goal
use Rattle.level_book.proofs.reading.level_of.Goals.{in-Some, in-None}

pub returns-clause-says : goal.returns-clause-says
returns-clause-says c =
    let d = view c.args.entry.now in
    let fields = has_fields d c.requires.shape in
    record {
      name = fields.name ∙ ap Some (sym (c.new.ensures ∙ c.name_bytes.ensures));
      slots = elim c.match-number.branch [
        | in-Some w ↦ slots_counted d w.in-Some.slots (sym c.number.ensures ∙ w.in-Some.is) ∙ ap Some (sym w.result-is)
        | in-None w ↦ slots_uncounted d (sym c.number.ensures ∙ w.in-None.is) fields.slots ∙ ap Some (sym w.result-is)
      ];
      write = fields.write ∙ ap Some (sym c.number_or_zero.ensures);
      read = fields.read ∙ ap Some (sym c.number_or_zero-2.ensures);
    }
