use Rattle.reverse_runner.proofs.Common.{◌≡◌, ℕ, ◌∙◌, ap, subst, List, [], ◌∷◌, ◌++◌, on_err_weaker, Tells, AddsPrefix}
use Rattle.state_image.specs.Line.{line}
use Rattle.reverse_runner.proofs.line_writer.write_line.Goals as goal

pub returns-clause-refused : goal.returns-clause-refused
returns-clause-refused g c =
    let is : c.bytes.result.now ≡ line c.args.n c.args.state.now ++ 10 ∷ [] = c.bytes.ensures.value ∙ c.push.ensures ∙ ap (λ xs. xs ++ 10 ∷ []) c.show.ensures.text in
    on_err_weaker c.write.result (λ refused. subst (λ (bytes : List ℕ). Tells (g.O.Sink.told c.args.out.now) (g.O.Sink.told c.write.new.self) (AddsPrefix bytes)) is refused) c.write.ensures.refused
