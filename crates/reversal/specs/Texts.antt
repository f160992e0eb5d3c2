-- Writing texts: the commands that go over no run.
use Rattle.std.specs.Prelude.{ℕ, List, [], ◌∷◌}
use Rattle.reversal.specs.Deeds.{writing, bytes_of}
use Rattle.reversal.specs.Course.{Course}

-- each text in one write, and nothing else
abbrev pub texts_course : List (List ℕ) → Course
texts_course texts = record {
  levels = 0;
  deeds = λ shown. writing texts ∷ [];
  output = λ shown. bytes_of texts;
  steps = λ shown. 0;
  write_place = λ place. 0;
  storage_place = λ place. place;
  shows = λ shown old. Unit {0};
  answers = λ shown old new. Unit {0};
  answers_partly = λ shown performed old new. Unit {0};
  holds = λ Same shown performed old new. Unit {0};
  damage = λ shown performed level put got old new. ⊥;
  stops = λ shown performed level old new. Unit {0};
  may_want = λ deed. ⊥;
}
