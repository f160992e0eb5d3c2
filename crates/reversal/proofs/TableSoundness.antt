-- The table of each command is sound.
use Rattle.std.proofs.Common.{◌≡◌, ℕ, ◌++◌, Bool, true, List, length, Option, None, Some, refl, sym, ◌∙◌, ap, subst, arith, ◌*◌}
use Rattle.plan_types.specs.declared.action.Action.{Action}
use Rattle.level_book.specs.BookCosts.{BookCosts, slots_of, names_of, room}
use Rattle.level_book.specs.BookFaults.{IsBookText}
use Rattle.level_book.specs.Valid.{Valid}
use Rattle.action_text.specs.ScheduleText.{IsSchedule}
use Rattle.requests.specs.Request.{Choice, says_raw, stack_pages, unit_count, Command, run, plan, plan_periodic, check, certify, cost, ask, find, asm, disasm, console, demo, worker_count}
use Rattle.endings.specs.Outcomes.{bad_program, bad_journal, bad_book, bad_text, bad_certificate, bad_source, bad_script, no_plan}
use Rattle.revolve_gen.specs.RevolveList.{revolve_list}
use Rattle.revolve_gen.proofs.Books.{book_right}
use Rattle.multistage_gen.proofs.PlanUniqueness.{plans_unique}
use Rattle.bound_cert.specs.Thresholds.{IsThresholdOf}
use Rattle.bound_cert.proofs.ThresholdFit.{one_threshold}
use Rattle.cert_text.specs.declared.certificate.Certificate.TheVariants as certified
use Rattle.cert_text.specs.Canonical as certificate_text
use Rattle.cost_tables.specs.TableRows.{tables_in}
use Rattle.disk_gen.specs.DiskRows.{disk_tables_in}
use Rattle.hrevolve_gen.proofs.PlanUniqueness.{plan_unique}
use Rattle.requests.specs.declared.kind.PlanKind.{PlanKind}
use Rattle.requests.specs.declared.kind.PlanKind.TheVariants.{Revolve, Multistage, Disk, Hrevolve}
use Rattle.reversal.specs.Plans.{list_pieces}
use Rattle.reversal.specs.Demo as demonstration
use Rattle.disk_gen.proofs.DiskUniqueness.{disk_plan_unique}
use Rattle.reversal.specs.Job.{Run, Job, perform, ask as ask_job, write, demonstrate}
use Rattle.reversal.specs.Table.{accept}
use Rattle.reversal.specs.InputMeaning.{HasBookFault, IsStartOf, HasProgramFault, AreItemsOf, HasJournalFault, over_run, schedule_text, over_loaded, in_units}
use Rattle.reversal.specs.Decision.{table_of}
use Rattle.reversal.proofs.Refusals.{book_one, book_fault_one, book_excludes, start_one, program_fault_one, start_excludes, items_one, journal_fault_one, items_exclude, list_one, text_fault_one, list_excludes, IsRefusing, refusing_at, program_refuses, journal_refuses, book_refuses, text_refuses, program_fault_is_other, journal_fault_is_other, text_fault_is_other, certificate_one, certificate_fault_one, certificate_excludes, certificate_refuses, certificate_fault_is_other, source_one, source_fault_one, source_excludes, source_refuses, source_fault_is_other, script_one, script_fault_one, script_excludes, script_refuses, script_fault_is_other}
use Rattle.cert_text.specs.Meaning.{IsCertificateText}
use Rattle.cert_text.specs.Faults.{HasFirstFault as CertificateFirst}
use Rattle.reversal.proofs.LeastTables.{nested_same, disk_same}
use Rattle.action_text.specs.Faults.{HasFirstFault}
use Rattle.elf_load.specs.declared.fault.ElfFault.TheVariants.{RawLength}
use Rattle.rv_asm.specs.Source.{Means, HasFault}
use Rattle.rv_asm.specs.Laws.{AreCanonical}
use Rattle.reversal.specs.CommandAsm.{listing, asm_table, disasm_table}
use Rattle.reversal.proofs.WordLists.{one_words, one_lines, canonical_small}
use Rattle.reverse_console.specs.Script.{IsScript}
use Rattle.reverse_console.specs.ScriptFaults.{HasFirstFault as ScriptFirst}
use Rattle.reversal.specs.CommandConsole.{console_table}
use Rattle.reversal.specs.CommandFind.{find_table}
use Rattle.reversal.specs.CommandPlan.{plan_revolve_table, plan_multistage_table, plan_disk_table, plan_hrevolve_table, plan_table, plan_periodic_table}
use Rattle.reversal.specs.CommandCheck.{check_table}
use Rattle.reversal.specs.CommandCost.{cost_table}
use Rattle.reversal.specs.CommandCertify.{certify_table}
use Rattle.reversal.specs.CommandDemo.{demo_table}
use Rattle.reversal.proofs.Tables.{IsMet, asks, performs, seeks, writes, moves, shows, IsRead, IsLast, IsSound}
use Rattle.requests.specs.Bounds.{IsWithin}
use Rattle.requests.specs.Operands.{Schedule, by_name, question_bound}
use Rattle.requests.specs.Loaded.{Loaded}
use Rattle.rv_machine.specs.MachineState.{MachineState}

-- ---- lines that commands share

book_read : (book : List ℕ) → IsRead (IsBookText book) (HasBookFault book) bad_book
book_read book = record { one = book_one book; fault = book_fault_one book; excludes = book_excludes book; refuses = λ f h. book_refuses f h.1 }

program_read : (raw : Bool) (stack : ℕ) (program : List ℕ) → IsRead (IsStartOf raw stack program) (HasProgramFault raw stack program) bad_program
program_read raw stack program = record {
  one = start_one raw stack program;
  fault = program_fault_one raw stack program;
  excludes = start_excludes raw stack program;
  refuses = λ f h. program_refuses f (program_fault_is_other raw stack program f h);
}

journal_read : (journal : Option (List ℕ)) → IsRead (AreItemsOf journal) (HasJournalFault journal) bad_journal
journal_read journal = record {
  one = items_one journal;
  fault = journal_fault_one journal;
  excludes = items_exclude journal;
  refuses = λ f h. journal_refuses f (journal_fault_is_other journal f h);
}

list_read : (book schedule : List ℕ) (b : BookCosts) → IsBookText book b → IsRead (IsSchedule (names_of b) schedule) (HasFirstFault (names_of b) schedule) bad_text
list_read book schedule b is = record {
  one = list_one book b schedule is;
  fault = text_fault_one book b schedule is;
  excludes = list_excludes book b schedule is;
  refuses = λ f h. text_refuses f (text_fault_is_other (names_of b) schedule f h);
}

certificate_read : (steps : ℕ) (b : BookCosts) (certificate : List ℕ) → IsRead (IsCertificateText steps b certificate) (CertificateFirst steps b certificate) bad_certificate
certificate_read steps b certificate = record {
  one = certificate_one steps b certificate;
  fault = certificate_fault_one steps b certificate;
  excludes = certificate_excludes steps b certificate;
  refuses = λ f h. certificate_refuses f (certificate_fault_is_other steps b certificate f h);
}

source_read : (text : List ℕ) → IsRead (Means text) (HasFault text) bad_source
source_read text = record {
  one = source_one text;
  fault = source_fault_one text;
  excludes = source_excludes text;
  refuses = λ f h. source_refuses f (source_fault_is_other text f h);
}

script_read : (steps : ℕ) (text : List ℕ) → IsRead (IsScript steps text) (ScriptFirst steps text) bad_script
script_read steps text = record {
  one = script_one steps text;
  fault = script_fault_one steps text;
  excludes = script_excludes steps text;
  refuses = λ f h. script_refuses f (script_fault_is_other steps text f h);
}

-- this job is to be done
done_last : (job : Job) → IsMet job → IsLast (λ d. d ≡ accept job)
done_last job met = record { one = λ c d x y. x ∙ sym y; job = λ d x. (job, (x, met)) }

-- ---- the tables

-- no plan, by a rule
unplanned : (steps room rule : ℕ) → IsRefusing (no_plan steps room rule)
unplanned steps room rule = refusing_at _ 11 refl (omega arith) (omega arith)

program_sound : (options : List Choice) (program : List ℕ) (journal : Option (List ℕ)) (Sound : MachineState → List (List ℕ) → Type 0) → ((start : MachineState) (items : List (List ℕ)) → Sound start items) →
    IsRead (IsStartOf (says_raw options) (stack_pages options) program) (HasProgramFault (says_raw options) (stack_pages options) program) bad_program
    × ((start : MachineState) → IsStartOf (says_raw options) (stack_pages options) program start → IsRead (AreItemsOf journal) (HasJournalFault journal) bad_journal × ((items : List (List ℕ)) → AreItemsOf journal items → Sound start items))
program_sound options program journal Sound sound =
    (program_read (says_raw options) (stack_pages options) program, λ start is_start. (journal_read journal, λ items are_items. sound start items))

over_run_sound : (make : Run → Job) (options : List Choice) (steps : ℕ) (program : List ℕ) (journal : Option (List ℕ)) (book : List ℕ) (schedule : Option (List ℕ)) (counts : List ℕ) →
    ((run : Run) → run.steps ≡ steps → run.unit ≡ unit_count options → Valid run.steps run.slots run.list → IsMet (make run)) → IsSound (over_run make options steps program journal book schedule counts)
over_run_sound make options steps program journal book None counts met = (
  book_read book,
  λ b is. (
    unplanned _ _ _,
    λ plan. program_sound options program journal _ (λ start items.
        let run = in_units (unit_count options) start items steps (slots_of b) (revolve_list steps b) in
        done_last (make run) (met run refl refl (book_right steps b plan).0)),
  ),
)
over_run_sound make options steps program journal book (Some schedule) counts met = (
  book_read book,
  λ b is. program_sound options program journal _ (λ start items. (
    list_read book schedule b is,
    λ list is_list valid. let run = in_units (unit_count options) start items steps (slots_of b) list in done_last (make run) (met run refl refl valid),
  )),
)

plan_revolve_sound : (steps : ℕ) (book : List ℕ) → IsSound (plan_revolve_table steps book)
plan_revolve_sound steps book = (book_read book, λ b is. (unplanned _ _ _, λ plan. done_last _ (writes _ refl)))

plan_multistage_sound : (steps : ℕ) (book : List ℕ) → IsSound (plan_multistage_table steps book)
plan_multistage_sound steps book = (
  book_read book,
  λ b is. (
    unplanned _ _ _,
    λ two. (
      unplanned _ _ _,
      λ plan. record {
        one = λ c d x y.
            let list = plans_unique steps b x.0 y.0 x.1.0 y.1.0 in
            let threshold = one_threshold steps b y.0 x.1.1.0 y.1.1.0 (subst (λ (l : List Action). IsThresholdOf x.1.1.0 steps b l) list x.1.1.1.0) y.1.1.1.0 in
            x.1.1.1.1 ∙ (λ i. accept (write (list_pieces (names_of b) (list i) ++ certificate_text.pieces (certified.Places (threshold i))))) ∙ sym y.1.1.1.1;
        job = λ d x. (_, (x.1.1.1.1, writes _ refl));
      },
    ),
  ),
)

plan_hrevolve_sound : (steps : ℕ) (book : List ℕ) → IsSound (plan_hrevolve_table steps book)
plan_hrevolve_sound steps book = (
  book_read book,
  λ b is narrow. (
    unplanned _ _ _,
    λ plan. record {
      one = λ c d x y.
          let s = x.1.1.1 in
          let t = y.1.1.1 in
          let list = plan_unique steps b (tables_in x.0) (tables_in y.0) s.0 t.0 x.1.1.0 y.1.1.0 s.1.0 t.1.0 in
          let tables = nested_same steps b x.0 y.0 x.1.0 x.1.1.0 y.1.0 y.1.1.0 in
          s.1.1 ∙ (λ i. accept (write (list_pieces (names_of b) (list i) ++ certificate_text.pieces (certified.Nested (tables i))))) ∙ sym t.1.1;
      job = λ d x. (_, (let s = x.1.1.1 in s.1.1, writes _ refl));
    },
  ),
)

plan_disk_sound : (steps : ℕ) (book : List ℕ) → IsSound (plan_disk_table steps book)
plan_disk_sound steps book = (
  book_read book,
  λ b is. (
    refusing_at _ 10 refl (omega arith) (omega arith),
    λ few. (
      unplanned _ _ _,
      λ two. (
        unplanned _ _ _,
        λ unlimited. record {
          one = λ c d x y.
              let s = x.1.1.1 in
              let t = y.1.1.1 in
              let list = disk_plan_unique steps b (disk_tables_in x.0) (disk_tables_in y.0) s.0 t.0 x.1.1.0 y.1.1.0 s.1.0 t.1.0 in
              let tables = disk_same steps b x.0 y.0 x.1.0 x.1.1.0 y.1.0 y.1.1.0 in
              s.1.1 ∙ (λ i. accept (write (list_pieces (names_of b) (list i) ++ certificate_text.pieces (certified.Disk (tables i))))) ∙ sym t.1.1;
          job = λ d x. (_, (let s = x.1.1.1 in s.1.1, writes _ refl));
        },
      ),
    ),
  ),
)

plan_sound : (kind : PlanKind) (steps : ℕ) (book : List ℕ) → IsSound (plan_table kind steps book)
plan_sound Revolve steps book = plan_revolve_sound steps book
plan_sound Multistage steps book = plan_multistage_sound steps book
plan_sound Disk steps book = plan_disk_sound steps book
plan_sound Hrevolve steps book = plan_hrevolve_sound steps book

plan_periodic_sound : (steps period : ℕ) (book : List ℕ) → IsSound (plan_periodic_table steps period book)
plan_periodic_sound steps period book = (book_read book, λ b is. (unplanned _ _ _, λ two. (unplanned _ _ _, λ fast. (unplanned _ _ _, λ slow. done_last _ (writes _ refl)))))

check_sound : (steps : ℕ) (book schedule : List ℕ) → IsSound (check_table steps book schedule)
check_sound steps book schedule = (book_read book, λ b is. (list_read book schedule b is, λ list is_list valid. done_last _ (writes _ refl)))

cost_sound : (steps : ℕ) (book schedule : List ℕ) → IsSound (cost_table steps book schedule)
cost_sound steps book schedule = (book_read book, λ b is. (list_read book schedule b is, λ list is_list valid. done_last _ (writes _ refl)))

certify_sound : (steps : ℕ) (book schedule certificate : List ℕ) → IsSound (certify_table steps book schedule certificate)
certify_sound steps book schedule certificate = (book_read book, λ b is. (list_read book schedule b is, λ list is_list valid. (certificate_read steps b certificate, λ c is_certificate. done_last _ (writes _ refl))))

demo_sound : (number steps slots : ℕ) → IsSound (demo_table number steps slots)
demo_sound number steps slots = (
  unplanned _ _ _,
  λ plan. record {
    one = λ c d x y. x.2 ∙ ap (λ s. accept (demonstrate number s steps slots)) (start_one true 16 (demonstration.program number) x.0 y.0 x.1 y.1) ∙ sym y.2;
    job = λ d x. (_, (x.2, shows number x.0 steps slots refl));
  },
)

find_sound : (options : List Choice) (steps : ℕ) (digest program : List ℕ) (journal : Option (List ℕ)) → IsSound (find_table options steps digest program journal)
find_sound options steps digest program journal = program_sound options program journal _ (λ start items. done_last _ (seeks start items steps (worker_count options) digest refl))

asm_sound : (source : List ℕ) → IsSound (asm_table source)
asm_sound source = (source_read source, λ words means. done_last _ (writes _ refl))

disasm_sound : (program : List ℕ) → IsSound (disasm_table program)
disasm_sound program = (
  program_refuses (RawLength (length program)) (λ same. absurd cc),
  λ whole. record {
    one = λ c d x y.
        let words = one_words x.words y.words (canonical_small x.words x.lines x.canonical) (canonical_small y.words y.lines y.canonical) (sym x.bytes ∙ y.bytes) in
        let lines = one_lines x.words x.lines y.lines x.canonical (subst (λ (l : List ℕ). AreCanonical l y.lines) (sym words) y.canonical) in
        x.does ∙ ap (λ (l : List (List ℕ)). accept (write (listing l))) lines ∙ sym y.does;
    job = λ d x. (_, (x.does, writes _ refl));
  },
)

console_sound : (options : List Choice) (steps : ℕ) (program : List ℕ) (journal : Option (List ℕ)) (book script counts : List ℕ) → IsSound (console_table options steps program journal book script counts)
console_sound options steps program journal book script counts = (
  book_read book,
  λ b is. (
    unplanned _ _ _,
    λ slots. program_sound options program journal _ (λ start items. (script_read steps script, λ orders are. done_last _ (moves start items (record { slots = slots_of b; count = steps }) orders refl))),
  ),
)

over_loaded_sound : (make : Run → Job) (options : List Choice) (schedule : Schedule) (steps : ℕ) (l : Loaded) (slots : List ℕ) →
    ((run : Run) → run.steps ≡ steps → run.unit ≡ unit_count options → Valid run.steps run.slots run.list → IsMet (make run)) → IsSound (over_loaded make options schedule steps l slots)
over_loaded_sound make options schedule steps l slots met = over_run_sound make options steps l.program l.journal l.book (schedule_text schedule l) slots met

pub tables_sound : (options : List Choice) (command : Command) (l : Loaded) (slots : List ℕ) → IsSound (table_of options command l slots)
tables_sound options (run r) l slots = over_loaded_sound perform options r.schedule r.run.steps l slots (λ run steps unit valid. performs run valid refl)
tables_sound options (ask r) l slots =
    λ within. over_loaded_sound (ask_job r.question) options (by_name r.schedule) r.run.steps l slots (λ run steps unit valid.
    asks r.question run (subst (λ n. IsWithin (question_bound n r.question)) (sym (λ i. unit i * steps i)) within) valid refl)
tables_sound options (find r) l slots = find_sound options r.steps r.digest l.program l.journal
tables_sound options (cost r) l slots = cost_sound r.steps l.book l.schedule
tables_sound options (plan r) l slots = plan_sound r.kind r.steps l.book
tables_sound options (plan_periodic r) l slots = plan_periodic_sound r.steps r.period l.book
tables_sound options (check r) l slots = check_sound r.steps l.book l.schedule
tables_sound options (certify r) l slots = certify_sound r.steps l.book l.schedule l.certificate
tables_sound options (asm r) l slots = asm_sound l.source
tables_sound options (disasm r) l slots = disasm_sound l.words
tables_sound options (console r) l slots = console_sound options r.steps l.program l.journal l.book l.script slots
tables_sound options (demo r) l slots = demo_sound r.number r.steps r.slots
