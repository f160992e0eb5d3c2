use Rattle.std.proofs.Common.{inl, refl, rules, subst, Contains}
use Rattle.keepers.specs.Counts.{raised}
use Rattle.keepers.specs.InputsState.{InputsState}
use Rattle.keepers.specs.Claims.{bytes_in}
use Rattle.keepers.proofs.EmptyPrefix.{empty_begins}
use Rattle.keepers.proofs.memory_inputs.MemoryInputsInputs.read.Goals as goal

pub returns-then-is_err-clause-begun : goal.returns-then-is_err-clause-begun
returns-then-is_err-clause-begun c = empty_begins c.clear.new.self.items (bytes_in c.args.self.now.files c.args.name.now) c.clear.ensures.items

pub returns-then-fails-clause-begun : goal.returns-then-fails-clause-begun
returns-then-fails-clause-begun c = empty_begins c.clear.new.self.items (bytes_in c.args.self.now.files c.args.name.now) c.clear.ensures.items

pub returns-then-bytes-limit-clause-begun : goal.returns-then-bytes-limit-clause-begun
returns-then-bytes-limit-clause-begun c = empty_begins c.clear.new.self.items (bytes_in c.args.self.now.files c.args.name.now) c.clear.ensures.items

pub returns-then-fails-clause-fails : goal.returns-then-fails-clause-fails
returns-then-fails-clause-fails c =
    let K : InputsState → Type 0 = λ k. Contains k.failing (raised k.calls 1) in
    record {
      listed = λ _. refl;
      missing = λ _. refl;
      only = λ _. inl (subst K c.self.view_is (c.next_fails-fails.ensures.listed.0 c.if-fails.true));
      later = search rules;
      cause = search rules;
      quiet = λ other. absurd (other refl);
    }
