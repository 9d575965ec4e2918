-- The exit code of each status, and the line that is written to standard error; that of a text which is no program.
use Rattle.std.specs.Prelude.{ℕ, List, [], ◌∷◌, ◌++◌, codes, flat_map}
use Rattle.std.specs.Fmt.{decimal}
use Rattle.rx_core.specs.declared.types.Span.{Span}
use Rattle.rx_rem_command.specs.declared.status.Status.{Status}
use Rattle.rx_rem_command.specs.declared.status.Status.TheVariants.{Done, Refused, Usage, NotAccepted, ReadFault, WriteFault, OutOfMemory, TooLong, StillRunning, Wrong, Trapped}
use Rattle.rx_lex.specs.declared.lexer.LexFault.{LexFault}
use Rattle.rx_lex.specs.declared.lexer.LexFault.TheVariants.{NotText, BadToken}
use Rattle.rx_lex.specs.declared.lexer.LexFault.TheVariants as lex
use Rattle.rx_parse.specs.declared.fault.SyntaxFault.{SyntaxFault}
use Rattle.rx_parse.specs.declared.fault.SyntaxFault.TheVariants.{Lex, Syntax, TooDeep}
use Rattle.rx_parse.specs.declared.fault.SyntaxFault.TheVariants as syntax

abbrev pub code_of : Status → ℕ
code_of Done = 0
code_of Refused = 1
code_of Usage = 2
code_of NotAccepted = 3
code_of ReadFault = 4
code_of WriteFault = 5
code_of OutOfMemory = 6
code_of TooLong = 7
code_of StillRunning = 8
code_of Wrong = 9
code_of Trapped = 101

abbrev pub status_words : Status → List ℕ
status_words Done = codes "Done"
status_words Refused = codes "Refused"
status_words Usage = codes "Usage"
status_words NotAccepted = codes "NotAccepted"
status_words ReadFault = codes "ReadFault"
status_words WriteFault = codes "WriteFault"
status_words OutOfMemory = codes "OutOfMemory"
status_words TooLong = codes "TooLong"
status_words StillRunning = codes "StillRunning"
status_words Wrong = codes "Wrong"
status_words Trapped = codes "Trapped"

-- `error: `, the words and a line feed
abbrev pub line_of : List ℕ → List ℕ
line_of words = codes "error: " ++ words ++ codes "\n"

-- the line that is the status's name alone
abbrev pub status_line : Status → List ℕ
status_line status = line_of (status_words status)

-- the words, and each number with a blank before it
abbrev pub with_numbers : List ℕ → List ℕ → List ℕ
with_numbers words numbers = words ++ flat_map (λ n. codes " " ++ decimal n) numbers

abbrev pub with_span : List ℕ → Span → List ℕ
with_span words s = with_numbers words (s.start ∷ s.end ∷ [])

-- the place where a text is no program
abbrev pub lex_line : LexFault → List ℕ
lex_line (NotText at) = line_of (with_numbers (codes "NotAccepted NotText") (at ∷ []))
lex_line (BadToken at) = line_of (with_numbers (codes "NotAccepted BadToken") (at ∷ []))
lex_line lex.OutOfMemory = line_of (codes "OutOfMemory")

abbrev pub syntax_line : SyntaxFault → List ℕ
syntax_line (Lex f) = lex_line f
syntax_line (Syntax at) = line_of (with_numbers (codes "NotAccepted Syntax") (at ∷ []))
syntax_line (TooDeep at) = line_of (with_numbers (codes "NotAccepted TooDeep") (at ∷ []))
syntax_line syntax.OutOfMemory = line_of (codes "OutOfMemory")

-- want of memory anywhere in a fault is `OutOfMemory`
abbrev pub lex_status : LexFault → Status
lex_status lex.OutOfMemory = OutOfMemory
lex_status _ = NotAccepted

abbrev pub syntax_status : SyntaxFault → Status
syntax_status (Lex f) = lex_status f
syntax_status syntax.OutOfMemory = OutOfMemory
syntax_status _ = NotAccepted
