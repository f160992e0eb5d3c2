use Rattle.std.proofs.Common.{◌≡◌, ℕ, List, [], ◌∷◌, length, map, Option, None, Some, ◌∙◌, arith}
use Rattle.std.proofs.lemmas.Result.{IfOk-weaker}
use Rattle.std.specs.Ordering.{nat_cmp}
use Rattle.std.specs.Cmp.Lexicographic.{slice_cmp}
use Rattle.std.specs.FinMap as finmap
use Rattle.std.specs.FinMap.{get-empty}
use Rattle.keepers.specs.Claims.{Files}
use Rattle.memory_disk.specs.Changes.{files_after}
use Rattle.memory_disk.specs.declared.MemoryDisk.{MemoryDisk}
use Rattle.requests.specs.Places.{levels, folder_said}
use Rattle.reversal_program.specs.LevelStart.{HasNoFiles, HaveNoFiles}
use Rattle.reversal_program.proofs.LevelFiles.{as_many}
use Rattle.reversal_calls.proofs.over_files.run_over_files.Goals as goal

abbrev tells : MemoryDisk → Option Files
tells d = Some (files_after d.changes.items)

no_files : (level : ℕ) (folder : Option (List ℕ)) (disk : MemoryDisk) → tells disk ≡ Some finmap.empty → HasNoFiles tells level folder disk
no_files level None disk e = tt
no_files level (Some folder) disk e = (finmap.empty, e, λ slot h. get-empty (slice_cmp nat_cmp) _)

pub returns : goal.returns
returns g c = λ r asks. IfOk-weaker c.program.result _ _ (λ ran h.
    let folders = map (λ level. folder_said level r.options) levels in
    let disks = c.failing-zero.result ∷ c.failing-one.result ∷ c.failing-two.result ∷ c.failing-three.result ∷ [] in
    let begin = h.1 r asks in
    let four : length h.0 ≡ 4 = as_many tells 0 folders disks h.0 begin in
    let none : HaveNoFiles tells 0 folders disks = (
      no_files 0 (folder_said 0 r.options) c.failing-zero.result (c.failing-zero.ensures.told ∙ c.new.ensures.told),
      (
        no_files 1 (folder_said 1 r.options) c.failing-one.result (c.failing-one.ensures.told ∙ c.new-2.ensures.told),
        (
          no_files 2 (folder_said 2 r.options) c.failing-two.result (c.failing-two.ensures.told ∙ c.new-3.ensures.told),
          (no_files 3 (folder_said 3 r.options) c.failing-three.result (c.failing-three.ensures.told ∙ c.new-4.ensures.told), tt),
        ),
      ),
    ) in (
      h.0,
      c.new-out.result,
      c.new-steps.result,
      c.program.new.steps,
      c.new-out.ensures.items,
      (λ k few. c.levels_without_files_begin_empty.ensures 0 folders disks h.0 begin none k (omega (arith, few, four))),
      h.2,
    ))
    c.program.ensures.done
