use Rattle.std.proofs.Common.{sym, ap, ◌∙◌, arith}
use Rattle.std.proofs.Common.{[]}
use Rattle.std.proofs.lemmas.Bool.{ne_eqb}
use Rattle.action_text.specs.CursorState.{Rest}
use Rattle.action_text.proofs.NextToken.{at_token, column_there, mark_there, mark_is, mark_isnt, text_differs}
use Rattle.action_text.proofs.cursor.Cursor.mark.Goals as goal

pub invariant_of-self : goal.invariant_of-self
invariant_of-self c =
    let w = c.after_blanks-rest.result.now in
    let at = at_token c.self.inside.start c.self.inside.rest.now w c.args.self.now c.self.invariant.0 c.after_blanks-rest.ensures.value c.self.view_is in
    let there = mark_there c.self.inside.start w c.args.self.now c.args.byte c.in-Some.behind.now at c.in-Some.ensures.value c.requires.1 (ne_eqb _ _ c.requires.2) in
    (omega (arith, there.2, at.within), c.self.invariant.1)

pub column_of-requires : goal.column_of-requires
column_of-requires c =
    let at = at_token c.self.inside.start c.self.inside.rest.now c.after_blanks-rest.result.now c.args.self.now c.self.invariant.0 c.after_blanks-rest.ensures.value c.self.view_is in
    (at.within, c.self.invariant.1)

pub returns-in-Some-clause-value : goal.returns-in-Some-clause-value
returns-in-Some-clause-value c =
    let w = c.after_blanks-rest.result.now in
    let at = at_token c.self.inside.start c.self.inside.rest.now w c.args.self.now c.self.invariant.0 c.after_blanks-rest.ensures.value c.self.view_is in
    let there = mark_there c.self.inside.start w c.args.self.now c.args.byte c.in-Some.behind.now at c.in-Some.ensures.value c.requires.1 (ne_eqb _ _ c.requires.2) in
    mark_is c.args.self.now c.args.byte _ there.0 there.1

pub returns-in-None-clause-value : goal.returns-in-None-clause-value
returns-in-None-clause-value c =
    let w = c.after_blanks-rest.result.now in
    let at = at_token c.self.inside.start c.self.inside.rest.now w c.args.self.now c.self.invariant.0 c.after_blanks-rest.ensures.value c.self.view_is in
    let differs = text_differs c.self.inside.start w c.args.self.now c.args.byte [] at c.in-None.ensures.value (ne_eqb _ _ c.requires.2) in
    mark_isnt c.args.self.now c.args.byte c.column_of.result differs (c.column_of.ensures ∙ sym (column_there c.self.inside.start w c.args.self.now at))

pub returns-in-Some-clause-later : goal.returns-in-Some-clause-later
returns-in-Some-clause-later c =
    let w = c.after_blanks-rest.result.now in
    let at = at_token c.self.inside.start c.self.inside.rest.now w c.args.self.now c.self.invariant.0 c.after_blanks-rest.ensures.value c.self.view_is in
    let there = mark_there c.self.inside.start w c.args.self.now c.args.byte c.in-Some.behind.now at c.in-Some.ensures.value c.requires.1 (ne_eqb _ _ c.requires.2) in
    ap (λ (r : Rest). r.later) there.1
