use Rattle.std.proofs.Common.{◌/◌, refl, ap, ◌∙◌}
use Rattle.std.specs.List.{slice_set}
use Rattle.rv_pages.specs.Tables.{entry_of}
use Rattle.rv_pages.proofs.TableEntries.{entries_more}
use Rattle.rv_pages.proofs.tables.Tables.add_table.Goals as goal

pub returns-clause-entries : goal.returns-clause-entries
returns-clause-entries c = λ q.
    ap (λ lows. entry_of (slice_set c.args.self.now.tops.items c.args.top (c.len-table.result / 1024)) lows q) c.in_ok-extend_from_slice.ensures.items
    ∙ entries_more c.args.self.now.tops.items c.args.self.now.lows.items c.args.top (c.len-table.result / 1024) 1024 refl c.requires.tables c.requires.inside c.requires.none (ap (λ n. n / 1024) (c.len-table.ensures ∙ c.args.self.now.lows.ok.0)) q
