-- The text of an ending, which the program writes to standard error.
use Rattle.std.specs.Prelude.{ℕ, ◌==◌, ◌&&◌, ◌++◌, if◌then◌else◌, List, [], ◌∷◌, codes, decimal}
use Rattle.hex.specs.Hex.{encode_lower}
use Rattle.endings.specs.declared.ended.Ended.{Ended}

-- the name of a status
abbrev pub status_name : ℕ → List ℕ
status_name status =
    if status == 2 then codes "Words"
    else (if status == 3 then codes "Input"
    else (if status == 4 then codes "Program"
    else (if status == 5 then codes "Journal"
    else (if status == 6 then codes "Book"
    else (if status == 7 then codes "Text"
    else (if status == 8 then codes "Invalid"
    else (if status == 9 then codes "Certificate"
    else (if status == 10 then codes "Limit"
    else (if status == 11 then codes "NoPlan"
    else (if status == 12 then codes "Keeper"
    else (if status == 13 then codes "Damaged"
    else (if status == 14 then codes "Sink"
    else (if status == 15 then codes "NotLeast"
    else (if status == 16 then codes "NoKeeper"
    else (if status == 17 then codes "Memory"
    else (if status == 19 then codes "Source"
    else (if status == 20 then codes "Script"
    else codes "Done")))))))))))))))))

-- the two digests of status 13, as lower-case hexadecimal digits
abbrev pub digests_text : Ended → List ℕ
digests_text e = if e.status == 13 then codes " put " ++ encode_lower e.put ++ codes " got " ++ encode_lower e.got else []

-- the name of a table of a certificate
abbrev pub table_name : ℕ → List ℕ
table_name table =
    if table == 0 then codes "F"
    else (if table == 1 then codes "H"
    else (if table == 2 then codes "Fd"
    else (if table == 3 then codes "Hd"
    else codes "places")))

-- the entry of status 15 by rule 3: its table, level, free slots and steps, and the clause
abbrev pub entry_text : Ended → List ℕ
entry_text e =
    if e.status == 15 && e.rule == 3 then codes " entry " ++ table_name e.entry.table ++ codes " " ++ decimal e.entry.level ++ codes " " ++ decimal e.entry.free
    ++ codes " " ++ decimal e.entry.steps ++ codes " " ++ decimal e.entry.clause
    else []

-- The text of an ending: its status with the name, and its three numbers. Status 15 adds the entry, and status 13 the
-- digests. For status 0 it is empty.
abbrev pub text_of_ended : Ended → List ℕ
text_of_ended e =
    if e.status == 0 then []
    else codes "reversal:" ++ codes " " ++ decimal e.status ++ codes " " ++ status_name e.status
    ++ codes " " ++ decimal e.place ++ codes " " ++ decimal e.more ++ codes " " ++ decimal e.rule
    ++ entry_text e ++ digests_text e

-- what is written to standard error: nothing for status 0, and otherwise the text of the ending and a line end
abbrev pub report_of : Ended → List ℕ
report_of e = if e.status == 0 then [] else text_of_ended e ++ 10 ∷ []
