use Rattle.std.proofs.Common.{◌≡◌, ◌≤◌, ◌+◌, ◌-◌, ◌++◌, length, take, drop, sym, ap, ◌∙◌, arith}
use Rattle.std.proofs.lemmas.List.{length-take-le}
use Rattle.gdb_line.specs.LineState.{LineState}
use Rattle.gdb_line.proofs.Pieces.{left_is, came_is}
use Rattle.gdb_line.proofs.memory_line.MemoryLine.take_piece.Goals as goal

pub returns-clause-comes : goal.returns-clause-comes
returns-clause-comes c =
    let l = c.self.inside in
    let count = c.min-count.result in
    let room = c.args.room.now in
    let new = c.copy_from_slice.new.self in
    let fits : count ≤ length room = omega (arith, c.min-count.ensures, c.min.ensures) in
    let len : length new ≡ count = c.copy_from_slice.ensures.len ∙ length-take-le count room fits in
    let same : (l.taken + count) - l.taken ≡ count = omega arith in
    let is : new ≡ take count (drop l.taken l.bytes.items) = c.copy_from_slice.ensures.after ∙ (λ i. take (same i) (drop l.taken (c.deref.ensures.value i))) in
    let left = ap (λ (s : LineState). s.talk.left) c.self.view_is in
    let came = ap (λ (s : LineState). s.talk.came) c.self.view_is in
    let went = ap (λ (s : LineState). s.talk.went) c.self.view_is in (
      sym left ∙ left_is l.bytes.items room new l.taken count len is,
      (λ i. record {
        came = (came_is l.bytes.items room new l.taken count len is ∙ ap (λ xs. xs ++ take count (new ++ drop count room)) came) i;
        left = drop (l.taken + count) l.bytes.items;
        went = went i;
      }),
    )
