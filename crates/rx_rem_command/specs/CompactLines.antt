-- The line where a file has no function of a name.
use Rattle.std.specs.Prelude.{List, ℕ, codes}
use Rattle.rx_rem_command.specs.Lines.{line_of}

abbrev pub unnamed_line : List ℕ
unnamed_line = line_of (codes "Refused NoFunction")
