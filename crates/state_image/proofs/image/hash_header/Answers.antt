use Rattle.std.proofs.Common.{◌≡◌, ◌++◌, List, ℕ, drop, length, ap, sym, subst, ◌∙◌}
use Rattle.std.specs.Prelude.{codes}
use Rattle.std.specs.List.{flat_map}
use Rattle.std.specs.Int.{to_le_bytes, w32}
use Rattle.sha2.specs.Hashers.{Holds256}
use Rattle.rv_machine.specs.StateFields.{machine_state}
use Rattle.state_image.specs.Image.{header, pages_stored, status_kind, status_value}
use Rattle.state_image.proofs.image.hash_header.Goals as goal

abbrev pieces : List ℕ → List ℕ → List ℕ → List ℕ → List ℕ → List ℕ → List ℕ → List ℕ → List ℕ → List ℕ
pieces version pc registers kind value item offset written count = codes "RVST" ++ version ++ pc ++ registers ++ kind ++ value ++ item ++ offset ++ written ++ count

pub returns : goal.returns
returns c =
    let s = machine_state c.state.inside in
    let hashed = c.update-9.ensures _ (c.update-8.ensures _ (c.update-7.ensures _ (c.update-6.ensures _ (c.update-5.ensures _ (c.update-4.ensures _
    (c.feed_registers.ensures _ (c.update-3.ensures _ (c.update-2.ensures _ (c.update.ensures _ c.new-hasher.ensures))))))))) in
    let kind : c.to_le_bytes-3.result ≡ to_le_bytes w32 (status_kind s.status) = c.to_le_bytes-3.ensures ∙ ap (to_le_bytes w32) c.status_numbers-kind.ensures.kind in
    let value : c.to_le_bytes-4.result ≡ to_le_bytes w32 (status_value s.status) = c.to_le_bytes-4.ensures ∙ ap (to_le_bytes w32) c.status_numbers-kind.ensures.value in
    let count : c.to_le_bytes-8.result ≡ to_le_bytes w32 (length (pages_stored s.memory)) = c.to_le_bytes-8.ensures ∙ ap (to_le_bytes w32) (c.requires ∙ ap (λ t. length (pages_stored t.memory)) (sym c.state.view_is)) in
    let is : pieces c.to_le_bytes.result c.to_le_bytes-2.result (flat_map (to_le_bytes w32) (drop 1 s.registers)) c.to_le_bytes-3.result c.to_le_bytes-4.result c.to_le_bytes-5.result c.to_le_bytes-6.result c.to_le_bytes-7.result c.to_le_bytes-8.result ≡ header s =
    λ i. pieces (c.to_le_bytes.ensures i) (c.to_le_bytes-2.ensures i) (flat_map (to_le_bytes w32) (drop 1 s.registers)) (kind i) (value i) (c.to_le_bytes-5.ensures i) (c.to_le_bytes-6.ensures i) (c.to_le_bytes-7.ensures i) (count i) in
    subst (Holds256 c.update-9.new.self) (is ∙ ap header c.state.view_is) hashed
