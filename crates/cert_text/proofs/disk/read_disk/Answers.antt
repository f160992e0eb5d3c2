use Rattle.std.proofs.Common.{◌≡◌, ◌∙◌, inl, inr, length, refl, sym, ap, arith}
use Rattle.std.proofs.lemmas.Result.{err_from_is_err_and}
use Rattle.cert_text.proofs.ReadDisk.{disk_fault, parts_are, disk_done}
use Rattle.cert_text.proofs.disk.read_disk.Goals as goal

pub returns-in_err-fast : goal.returns-in_err-fast
returns-in_err-fast c =
    let p = err_from_is_err_and c.from_residual.result c.from_residual.ensures.1 in
    rw (p.1, p.2) (inl refl)

pub returns-in_err-fresh : goal.returns-in_err-fresh
returns-in_err-fresh c =
    let p = err_from_is_err_and c.from_residual-in_err-fresh.result c.from_residual-in_err-fresh.ensures.1 in
    rw (p.1, p.2) (inl refl)

pub returns-in_err-held : goal.returns-in_err-held
returns-in_err-held c =
    let p = err_from_is_err_and c.from_residual-in_err-held.result c.from_residual-in_err-held.ensures.1 in
    rw (p.1, p.2) (inl refl)

pub read_lines-requires-clause-fresh : goal.read_lines-requires-clause-fresh
read_lines-requires-clause-fresh c = ap (λ l. length l) c.deref_mut.ensures.value ∙ c.in_ok-fresh.ensures ∙ sym c.in_ok-fast.ensures.sizes.steps_are

pub read_lines-requires-clause-held : goal.read_lines-requires-clause-held
read_lines-requires-clause-held c = ap (λ l. length l) c.deref_mut-2.ensures.value ∙ c.in_ok-held.ensures ∙ sym c.in_ok-fast.ensures.sizes.steps_are

pub returns-in_err-read_lines : goal.returns-in_err-read_lines
returns-in_err-read_lines c =
    let p = err_from_is_err_and c.from_residual-in_err-read_lines.result c.from_residual-in_err-read_lines.ensures.1 in
    rw (p.1, p.2) (inr (disk_fault c.args.setting.now.steps c.args.setting.now.book.now c.in_ok-fast.fast c.args.reader.now c.in_err-read_lines.field-0.0 c.in_ok-fast.ensures.sizes c.in_err-read_lines.ensures))

pub returns : goal.returns
returns c =
    let x = c.read_lines.new.fresh in let y = c.read_lines.new.held in
    let x_long : length x ≡ c.args.setting.now.steps = omega (arith, c.in_ok-fresh.ensures) in
    let y_long : length y ≡ c.args.setting.now.steps = omega (arith, c.in_ok-held.ensures) in
    disk_done c.args.setting.now.steps c.args.setting.now.book.now c.in_ok-fast.fast c.read_lines.new.fast x y c.from_parts.result c.args.reader.now
    c.requires c.in_ok-fast.ensures.sizes c.in_ok-read_lines.ensures c.is_shaped.ensures x_long y_long
    (parts_are c.from_parts.result c.read_lines.new.fast c.in_ok-fresh.fresh.len c.in_ok-held.held.len x y _ _ (omega arith) (omega arith) c.from_parts.ensures)
