use Rattle.std.proofs.Common.{◌≡◌, ◌≢◌, ℕ, ◌*◌, slice_index_or, ◌∙◌, subst, arith, inl, inr}
use Rattle.std.proofs.lemmas.Bool.{cases_lt}
use Rattle.run_timeline.specs.declared.mark.Mark.{Mark}
use Rattle.run_timeline.proofs.RunMarks.{all_swapped}
use Rattle.run_timeline.proofs.marks.gather.Goals as goal

pub loop-i-preserved : goal.loop-i-preserved
loop-i-preserved c =
    let i = c.loop-i.i in
    let old = c.args.marks.now.items in
    let items = c.loop-i.marks.items in
    let new = c.swap.new.self.items in
    let swapped = c.swap.ensures.by_index in
    let inv = c.loop-i.invariant in
    record {
      gathered = λ j d l. elim (cases_lt j i) [
        | inl lt ↦
            (let one : j ≢ i = λ (p : j ≡ i). omega arith in
            let two : j ≢ 2 * i = λ (p : j ≡ 2 * i). omega arith in
            swapped.2 j d one two ∙ inv.gathered j d lt)
        | inr ge ↦
            (let here : i ≡ j = omega arith in
            subst (λ (k : ℕ). slice_index_or new k d ≡ slice_index_or old (2 * k) d) here (swapped.0 d ∙ inv.rest (2 * i) d (omega arith)))
      ];
      rest = λ j d l.
          let one : j ≢ i = λ (p : j ≡ i). omega arith in
          let two : j ≢ 2 * i = λ (p : j ≡ 2 * i). omega arith in
          swapped.2 j d one two ∙ inv.rest j d (omega arith);
      pages = λ n all. all_swapped (λ (m : Mark). m.pages ≡ n) items new i (2 * i) swapped (omega arith) (omega arith) (inv.pages n all);
      len = c.swap.ensures.len ∙ inv.len;
    }
