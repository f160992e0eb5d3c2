-- A server's moves of each kind, as one.
use Rattle.std.proofs.Common.{◌≡◌, ℕ, ◌≤◌, List, [], ◌++◌, Option, sym, subst, ◌∙◌, append-nil}
use Rattle.std.specs.List.{flat_map}
use Rattle.keepers.specs.Claims.{Tells}
use Rattle.gdb_line.specs.Talk.{Talk}
use Rattle.gdb_wire.specs.Replies.{reply_packet}
use Rattle.gdb_wire.specs.declared.request.Motion.{Motion}
use Rattle.gdb_wire.specs.declared.request.Motion.TheVariants as motion
use Rattle.gdb_session.specs.declared.halt.Halt.{Halt}
use Rattle.gdb_session.specs.declared.server.Server.{Server}
use Rattle.gdb_session.specs.ServerState.{BreaksOff, Does, IsMoved}
use Rattle.gdb_session.proofs.LineClaims.{tells_here, tells_so, none_passes, does_adds}
use Rattle.gdb_session.proofs.Motions.{Moved, breaks_at_once}

pub same_moved : (s t : Server) (m n : Motion) (halt : Halt) (x y : Option Talk) → m ≡ n → Tells x y (Moved s t n halt) → Tells x y (Moved s t m halt)
same_moved s t m n halt x y e told = subst (λ (k : Motion). Tells x y (Moved s t k halt)) (sym e) told

pub same_breaks : (s : Server) (m n : Motion) (x y : Option Talk) → m ≡ n → Tells x y (BreaksOff s n) → Tells x y (BreaksOff s m)
same_breaks s m n x y e told = subst (λ (k : Motion). Tells x y (BreaksOff s k)) (sym e) told

-- over a line that isn't used
pub still_breaks : (s : Server) (m : Motion) (x : Option Talk) → s.session.place ≤ s.session.run.most → Tells x x (BreaksOff s m)
still_breaks s m x within = tells_here x (BreaksOff s m) (λ a. breaks_at_once s m a a within (λ out. none_passes out a))

pub still_moved : (s t : Server) (m n : Motion) (halt : Halt) (x : Option Talk) → m ≡ n → ((written : List (List ℕ)) × IsMoved s t n halt written × (t.out.items ≡ s.out.items ++ flat_map reply_packet written)) → t.held.items ≡ s.held.items →
    Tells x x (Moved s t m halt)
still_moved s t m n halt x e h held = same_moved s t m n halt x x e (tells_here x (Moved s t n halt) (λ a. (h.0, h.1, does_adds s t (flat_map reply_packet h.0) a held h.2)))

pub step_back_moved : (s t : Server) (m : Motion) (halt : Halt) (x : Option Talk) → m ≡ motion.StepBack → IsMoved s t motion.StepBack halt [] → t.held.items ≡ s.held.items → t.out.items ≡ s.out.items → Tells x x (Moved s t m halt)
step_back_moved s t m halt x e h held out = still_moved s t m motion.StepBack halt x e ([], h, out ∙ sym (append-nil s.out.items)) held

pub back_moved : (s t : Server) (m : Motion) (halt : Halt) (x y : Option Talk) → m ≡ motion.ContinueBack → Tells x y (λ a b. IsMoved s t motion.ContinueBack halt [] × Does s t [] a b) → Tells x y (Moved s t m halt)
back_moved s t m halt x y e told =
    same_moved s t m motion.ContinueBack halt x y e (tells_so x y (λ a b. IsMoved s t motion.ContinueBack halt [] × Does s t [] a b) (Moved s t motion.ContinueBack halt) (λ a b h. ([], h.0, h.1)) told)
