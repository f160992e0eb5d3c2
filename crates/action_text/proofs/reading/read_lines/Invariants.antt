use Rattle.std.proofs.Common.{◌≡◌, ◌+◌, length}
use Rattle.level_book.specs.BookCosts.{names_of}
use Rattle.line_texts.specs.Lines.{lines}
use Rattle.action_text.specs.Parser.{here_of, reading}
use Rattle.action_text.proofs.reading.read_lines.Given as goal

-- what is read from here on, behind the list so far, is what is read from the start
abbrev pub invariant-lines : goal.invariant-lines
invariant-lines l = record {
  read : here_of (names_of l.book) l.list.items l.number l.cursor ≡ reading (names_of l.book) l.bytes;
  lines : l.number + length l.cursor.later ≡ length (lines l.bytes);
}

abbrev pub decreases-lines : goal.decreases-lines
decreases-lines l = length l.cursor.later
