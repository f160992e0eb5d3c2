-- What the validator returns, in terms of the rules.
use Rattle.std.specs.Prelude.{ℕ, List}
use Rattle.plan_types.specs.declared.action.Action.{Action}
use Rattle.level_book.specs.declared.book.Slots.{Slots}
use Rattle.level_book.specs.Configuration.{Configuration}
use Rattle.level_book.specs.Rules.{rule, level_refused}
use Rattle.schedule_rules.specs.declared.config.Broken.{Broken}
use Rattle.schedule_rules.specs.declared.config.Broken.TheVariants.{Rule}

-- the lowest rule that an action breaks at c, with its level
abbrev pub refusal : ℕ → List Slots → Configuration → Action → Broken
refusal steps slots c a = Rule (rule steps slots c a) (level_refused (rule steps slots c a) a)
