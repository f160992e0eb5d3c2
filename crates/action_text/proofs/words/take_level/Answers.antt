use Rattle.std.proofs.Common.{◌≡◌, ◌≤◌, List, ℕ, true, false, length, sym, ap, subst, ◌∙◌, arith}
use Rattle.std.specs.Str.{bytes_eq}
use Rattle.action_text.specs.Bytes.{IsWord}
use Rattle.action_text.specs.CursorState.{Rest}
use Rattle.action_text.specs.Tokens.{starts_run}
use Rattle.action_text.specs.Parser.{text_at, behind}
use Rattle.action_text.proofs.LevelWords.{level_is_word, level_found_here, none_below_more, no_level_found}
use Rattle.action_text.proofs.words.take_level.Goals as goal

pub take-requires : goal.take-requires
take-requires c =
    let P : List ℕ → Type 0 = λ name. IsWord name in
    subst P (sym c.bytes.ensures.value) (level_is_word c.args.book.now c.loop-k.k c.level.result.now c.has_names.ensures c.level.ensures)

pub returns-then-take : goal.returns-then-take
returns-then-take c =
    let same : bytes_eq (text_at c.args.cursor.now) c.level.result.now.name ≡ true =
    ap (λ (r : Rest). bytes_eq (text_at r) c.level.result.now.name) (sym c.loop-k.invariant.stays)
    ∙ ap (bytes_eq (text_at c.loop-k.cursor)) (sym c.bytes.ensures.value) ∙ c.if-take.ensures.0 in (
      level_found_here c.args.book.now c.loop-k.k c.level.result.now _ c.has_names.ensures c.level.ensures same,
      ap (λ (r : Rest). starts_run (text_at r)) (sym c.loop-k.invariant.stays) ∙ c.if-take.ensures.1,
      c.if-take.ensures.2 ∙ ap behind c.loop-k.invariant.stays,
    )

pub loop-k-preserved : goal.loop-k-preserved
loop-k-preserved c =
    let differs : bytes_eq (text_at c.args.cursor.now) c.level.result.now.name ≡ false =
    ap (λ (r : Rest). bytes_eq (text_at r) c.level.result.now.name) (sym c.loop-k.invariant.stays)
    ∙ ap (bytes_eq (text_at c.loop-k.cursor)) (sym c.bytes.ensures.value) ∙ c.if-take.ensures.0 in
    record {
      stays = c.if-take.ensures.1 ∙ c.loop-k.invariant.stays;
      none = none_below_more c.args.book.now c.loop-k.k c.level.result.now _ c.loop-k.invariant.none c.level.ensures differs;
    }

pub returns : goal.returns
returns c =
    let past : length c.args.book.now.levels ≤ c.loop-k.k = omega (arith, c.levels-k-end.ensures.value, c.loop-k-test.false) in
    (no_level_found c.args.book.now c.loop-k.k _ c.loop-k.invariant.none past, c.loop-k.invariant.stays)
