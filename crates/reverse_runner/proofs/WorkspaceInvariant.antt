-- Workspaces that stay in order while their desk is worked on.
use Rattle.reverse_runner.proofs.Common.{◌≡◌, ℕ, ◌∙◌, ap, sym, arith, length, ◌≤◌, vec_capacity, page_numbers, MachineState, SamePages, IsInOrder}
use Rattle.std.specs.Global.{Vec}
use Rattle.reverse_runner.specs.declared.desk.Desk.{Desk}
use Rattle.reverse_runner.specs.declared.workspace.Workspace.{Workspace}
use Rattle.reverse_runner.specs.DeskFields.{Fits}

-- the desk of a workspace that is in order
pub desk_fits : (w : Workspace) → IsInOrder w → Fits w.desk
desk_fits w fits = record { few = fits.few; buffer = fits.buffer }

-- a desk with the same pages, and no less room in the buffer
pub still_fits : (d e : Desk) → SamePages d.work e.work → vec_capacity d.buffer ≤ vec_capacity e.buffer → Fits d → Fits e
still_fits d e work room fits =
    let count : length (page_numbers d.work.memory) ≡ length (page_numbers e.work.memory) = ap length work in
    record { few = omega (arith, count, fits.few); buffer = omega (arith, count, room, fits.buffer) }

-- a workspace after a call on its desk
pub still_in_order : (w : Workspace) (d : Desk) → SamePages w.desk.work d.work → Fits d → IsInOrder w → IsInOrder (record w { desk = d })
still_in_order w d work desk fits = record {
  pages = fits.pages ∙ work;
  few = desk.few;
  back = fits.back;
  known = fits.known;
  some = fits.some;
  room = fits.room;
  buffer = desk.buffer;
}

-- a state that is the same maps the same pages
pub same_pages : {s t : MachineState} → t ≡ s → SamePages s t
same_pages is = ap (λ (s : MachineState). page_numbers s.memory) (sym is)

-- a buffer that is the same has no less room
pub same_room : {b c : Vec ℕ} → c ≡ b → vec_capacity b ≤ vec_capacity c
same_room is = (let same = ap (λ (b : Vec ℕ). vec_capacity b) is in omega (arith, same))
