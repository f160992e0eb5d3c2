use Rattle.std.proofs.Common.{ap, ◌∙◌, ◌≡◌, not, ◌&&◌, take, List, ℕ}
use Rattle.std.specs.List.{list_any}
use Rattle.std.specs.Str.{bytes_eq}
use Rattle.serde_json.specs.View.{view}
use Rattle.level_book.specs.declared.fault.BookFault.TheVariants.{Name}
use Rattle.level_book.specs.Names.{is_name}
use Rattle.level_book.specs.BookFaults.{unless, name_of}
use Rattle.level_book.proofs.FirstFault.{name_fault_is}
use Rattle.level_book.proofs.checks.name_fault.Goals as goal
use Rattle.level_book.proofs.checks.name_fault.Goals.{then-is_name, else-is_name}

-- the two tests, one after the other
both : (c : goal.After-unless) → c.if-is_name.unless ≡ (c.is_name.result && not c.is_taken-is_own.result)
both c = elim c.if-is_name.branch [ then-is_name w ↦ rw w.if-is_name.true w.unless-is | else-is_name w ↦ rw w.if-is_name.false (w.unless-is ∙ w.if-is_name.false) ]

pub returns : goal.returns
returns c =
    let list = c.args.list.now in
    let d = view c.args.entry.now in
    let named = c.is_name.ensures ∙ ap is_name c.name_bytes-name.ensures in
    let taken = c.is_taken-is_own.ensures ∙ ap (λ (name : List ℕ). list_any (λ entry. bytes_eq (name_of (view entry)) name) (take c.args.k list)) c.name_bytes-name.ensures in
    c.unless.ensures ∙ ap (λ holds. unless holds (Name c.args.k)) (both c ∙ name_fault_is list c.args.k d c.is_name.result c.is_taken-is_own.result named taken)
