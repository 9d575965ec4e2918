-- A text that is what a program is spelled as parses to the program.
use Rattle.std.proofs.Common.{◌≡◌, ℕ, ◌≤◌, List, sym, subst}
use Rattle.rx_tree.specs.Plain.{ProgramTree}
use Rattle.rx_tree.specs.Erase.{SameProgram}
use Rattle.rx_parse_grammar.specs.grammar.Items.{Parses, levels}
use Rattle.rx_print_spelling.specs.Levels.{levels_of}
use Rattle.rx_print_spelling.specs.Formed.{FormedProgram}
use Rattle.rx_print_spelling.specs.Items.{print_program}
use Rattle.rx_print_spelling.proofs.Spelling.{print_parses}

pub written_parses : (t : List ℕ) (p : ProgramTree) → t ≡ print_program p → FormedProgram p → levels_of p ≤ levels
    → (q : ProgramTree) × Parses t q × SameProgram q p
written_parses t p e f low = subst (λ (t : List ℕ). (q : ProgramTree) × Parses t q × SameProgram q p) (sym e) (print_parses p f low)
