use Rattle.std.proofs.Common.{◌<◌, subst}
use Rattle.std.specs.List.{All}
use Rattle.rv_pages.specs.Memory.{IsMemory}
use Rattle.rv_pages.proofs.MemoryInvariant.{kept_is_memory}
use Rattle.rv_pages.proofs.pages.Pages.are_memory.Goals as goal

pub returns : goal.returns
returns c =
    let small = subst (All (λ b. b < 256)) c.deref.ensures.value c.are_bytes.ensures in
    subst IsMemory c.self.view_is (kept_is_memory _ _ c.self.invariant.kept small)
