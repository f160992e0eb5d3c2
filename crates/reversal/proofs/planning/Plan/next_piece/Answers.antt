use Rattle.std.proofs.Common.{◌≡◌, ◌∙◌, ◌++◌, List, map, take, drop, refl, sym, ap, subst, arith}
use Rattle.std.specs.List.{AllByRecursion}
use Rattle.plan_types.specs.declared.action.Action.{Action}
use Rattle.level_book.specs.BookCosts.{BookCosts, names_of}
use Rattle.action_text.specs.Canonical.{HasSpelling}
use Rattle.reversal.specs.declared.planning.Plan.{Plan}
use Rattle.reversal.specs.ActionsLeft.{left_of}
use Rattle.reversal.specs.Plans.{line_of_action}
use Rattle.reversal.specs.Deeds.{bytes_of}
use Rattle.requests.proofs.Lists.{at_front}
use Rattle.reversal.proofs.Pieces.{piece_more, all_taken, drop_map}
use Rattle.reversal.proofs.planning.Plan.next_piece.Goals.{then-loop-count-test+else-push_line, else-loop-count-test}
use Rattle.reversal.proofs.planning.Plan.next_piece.Goals as goal

pub loop-count-preserved : goal.loop-count-preserved
loop-count-preserved c =
    let inv = c.loop-count.invariant in
    let list = left_of c.args.self.now.actions in
    let count = c.loop-count.count in
    let f = line_of_action (names_of c.args.self.now.book) in
    let more = c.if-push_line.ensures.more refl in
    let at = at_front list count more.0 (left_of c.push_line.new.self.actions) (sym inv.actions ∙ more.1) in
    let S : List Action → Type 0 = λ l. AllByRecursion (HasSpelling (names_of c.loop-count.self.book)) l in
    let B : BookCosts → Type 0 = λ b. AllByRecursion (HasSpelling (names_of b)) (left_of c.push_line.new.self.actions) in
    let short = c.push_line.ensures.short in
    let room = c.push_line.ensures.capacity in
    record {
      actions = sym at.1;
      piece = piece_more f list count more.0 _ _ at.0 inv.piece (more.2 ∙ ap (λ b. c.loop-count.self.piece.items ++ line_of_action (names_of b) more.0) inv.book);
      spelled = subst B (sym c.push_line.ensures.kept.0) (subst S more.1 inv.spelled).1;
      few = omega (arith, c.loop-count-test.true);
      within = omega (arith, at.2);
      short = omega (arith, short, inv.short);
      room = omega (arith, room, inv.room);
      book = c.push_line.ensures.kept.0 ∙ inv.book;
      certificate = c.push_line.ensures.kept.1 ∙ inv.certificate;
    }

pub returns-clause-piece : goal.returns-clause-piece
returns-clause-piece c =
    let inv = c.loop-count.invariant in
    let list = left_of c.args.self.now.actions in
    let f = line_of_action (names_of c.args.self.now.book) in
    elim c.loop-count-test.branch [
      | then-loop-count-test+else-push_line w ↦
          let none = w.if-push_line.ensures.none refl in
          let left = all_taken (map f list) c.loop-count.count (drop_map f c.loop-count.count list ∙ ap (map f) (sym inv.actions ∙ none.0)) inv.few in
          ap (λ (p : Plan). p.piece.items) w.self-is ∙ ap (λ v. v.items) none.2 ∙ inv.piece ∙ ap bytes_of left.0
      | else-loop-count-test w ↦
          let same : c.loop-count.count ≡ 64 = omega (arith, inv.few, w.loop-count-test.false) in
          ap (λ (p : Plan). p.piece.items) w.self-is ∙ inv.piece ∙ ap (λ n. bytes_of (take n (map f list))) same
    ]

pub returns-clause-left : goal.returns-clause-left
returns-clause-left c =
    let inv = c.loop-count.invariant in
    let list = left_of c.args.self.now.actions in
    elim c.loop-count-test.branch [
      | then-loop-count-test+else-push_line w ↦
          let none = w.if-push_line.ensures.none refl in
          let left = all_taken list c.loop-count.count (sym inv.actions ∙ none.0) inv.few in
          ap (λ (p : Plan). left_of p.actions) w.self-is ∙ none.1 ∙ sym left.1
      | else-loop-count-test w ↦
          let same : c.loop-count.count ≡ 64 = omega (arith, inv.few, w.loop-count-test.false) in
          ap (λ (p : Plan). left_of p.actions) w.self-is ∙ inv.actions ∙ ap (λ n. drop n list) same
    ]
