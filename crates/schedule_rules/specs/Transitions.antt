-- The table of changes: the configuration after an action. Whether the action is allowed is no matter here.
use Rattle.std.specs.Prelude.{true, None, Some}
use Rattle.plan_types.specs.declared.action.Keep.TheVariants.{Nothing, Store, Tape}
use Rattle.plan_types.specs.declared.action.Dest.TheVariants.{Work, Level}
use Rattle.plan_types.specs.declared.action.Action.{Action}
use Rattle.plan_types.specs.declared.action.Action.TheVariants.{Forward, Reverse, Copy, Move, EndForward, EndReverse}
use Rattle.level_book.specs.Configuration.{Configuration, with_held, without_held}

abbrev pub after : Configuration → Action → Configuration
after c (Forward from to Nothing) = record c { work = to }
after c (Forward from to (Store k)) = record (with_held c from k) { work = to }
after c (Forward from to Tape) = record c { work = to; tape = Some from }
after c (Reverse from to) = record c { tape = None; reverse = to }
after c (Copy n k Work) = record c { work = n }
after c (Copy n k (Level j)) = with_held c n j
after c (Move n k Work) = record (without_held c n k) { work = n }
after c (Move n k (Level j)) = with_held (without_held c n k) n j
after c EndForward = record c { forward_ended = true }
after c EndReverse = record c { ended = true }
