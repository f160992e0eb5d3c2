use Rattle.unit_undo.proofs.UndoTrail.{can_note, noted}
use Rattle.unit_undo.proofs.laws.units_can_be_watched.Goals as goal

pub returns : goal.returns
returns c = record {
  can = λ u first journal n made empty few. can_note first journal n u made empty few;
  has = λ u v first journal n empty h. (noted first journal n u v empty h).has;
}
