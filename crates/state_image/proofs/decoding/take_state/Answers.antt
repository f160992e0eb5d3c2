use Rattle.std.proofs.Common.{◌≡◌, ℕ, List, subst, sym, ap, ◌∙◌}
use Rattle.rv_machine.specs.MachineState.{MachineState}
use Rattle.state_image.specs.Decoder.{AreMapped, MarksNamed}
use Rattle.rv_pages.specs.Memory.{page_numbers}
use Rattle.state_image.proofs.PageUpdates.{others_zero}
use Rattle.state_image.proofs.decoding.take_state.Goals as goal

pub copy_pages-requires-clause-mapped : goal.copy_pages-requires-clause-mapped
copy_pages-requires-clause-mapped c =
    let same : page_numbers c.args.state.now.memory ≡ page_numbers c.clear_unnamed.new.pages = ap (λ (s : MachineState). page_numbers s.memory) (sym c.state.view_is) ∙ sym c.clear_unnamed.ensures.pages in
    subst (λ (ns : List ℕ). AreMapped c.args.bytes.now ns) same c.requires.mapped

pub returns-clause-state : goal.returns-clause-state
returns-clause-state c =
    let marked : MarksNamed c.args.bytes.now (page_numbers c.state.inside.pages) c.args.named.now =
    subst (λ (s : MachineState). MarksNamed c.args.bytes.now (page_numbers s.memory) c.args.named.now) (sym c.state.view_is) c.requires.marked in
    record {
      pc = c.number_at-state-inside.ensures;
      registers = c.registers_in-state-inside.ensures;
      kind = c.status_in-state-inside.ensures.kind;
      value = c.status_in-state-inside.ensures.value;
      item = c.number_at-state-inside-2.ensures;
      offset = c.number_at-state-inside-3.ensures;
      written = c.long_at-state-inside.ensures;
      memory = record {
        named = c.copy_pages.ensures.named;
        others = others_zero c.args.bytes.now c.state.inside.pages c.clear_unnamed.new.pages c.copy_pages.new.pages c.args.named.now marked c.clear_unnamed.ensures.pages c.copy_pages.ensures.pages
            c.clear_unnamed.ensures.zero c.copy_pages.ensures.others;
      };
    }
