-- Strict runs of programs, computed: each is the plain one. They have loops, numbers and tuples, structs and enums, values that are
-- moved on one branch (a command of the bank is moved into the arm that takes it), and references.
use Rattle.std.specs.Prelude.{◌≡◌, refl, ℕ, ℤ, pos, List, [], ◌∷◌, codes}
use Rattle.std.specs.Fmt.{digits}
use Rattle.rx_lower_walks.proofs.Programs.{whiles_functions, nested_functions}
use Rattle.rx_lower_walks.proofs.ProgramsOfTypes.{shapes_functions, matching_functions}
use Rattle.rx_lower_walks.proofs.Bank.{bank_functions}
use Rattle.rx_meaning.specs.declared.outcome.End.{End}
use Rattle.rx_meaning.specs.declared.outcome.Outcome.{Outcome}
use Rattle.rx_meaning.specs.declared.outcome.Trap.{Trap}
use Rattle.rx_meaning.specs.Results.{after, bind, result_of}
use Rattle.rx_meaning.specs.Patterns.{decided, tested, closed, took, bound, begun}
use Rattle.rx_meaning.specs.Expressions.{take_turn, passed, returned, with_arguments, value, below_level}
use Rattle.rx_meaning.specs.Programs.{Program, outcome_of, run_by}
use Rattle.rx_meaning_keeping.specs.Strict.{strictly}

abbrev strict_run : Program → List ℤ → ℕ → Outcome
strict_run P input n = outcome_of (run_by strictly P input n)

whiles_end : strict_run (record { functions = whiles_functions; main = 0 }) ([]) 12 ≡ record { printed = codes "10\n"; end = End.Ended }
unfolding value below_level digits after bind result_of decided tested closed took bound begun take_turn passed returned with_arguments
whiles_end = refl

nested_trap : strict_run (record { functions = nested_functions; main = 1 }) ([]) 25 ≡ record { printed = codes "9\ntrue\n"; end = (End.Trapped Trap.Overflow) }
unfolding value below_level digits after bind result_of decided tested closed took bound begun take_turn passed returned with_arguments
nested_trap = refl

shapes_trap : strict_run (record { functions = shapes_functions; main = 2 }) ([]) 3 ≡ record { printed = codes "2\n"; end = (End.Trapped Trap.Overflow) }
unfolding value below_level digits after bind result_of decided tested closed took bound begun take_turn passed returned with_arguments
shapes_trap = refl

matching_ends : strict_run (record { functions = matching_functions; main = 4 }) ([]) 99 ≡ record { printed = codes "50\n11\n902\n50\n8\n10\n"; end = End.Ended }
unfolding value below_level digits after bind result_of decided tested closed took bound begun take_turn passed returned with_arguments
matching_ends = refl

bank_ends : strict_run (record { functions = bank_functions; main = 7 }) (pos 1 ∷ pos 1 ∷ pos 25 ∷ pos 2 ∷ pos 2 ∷ pos 60 ∷ pos 3 ∷ pos 1 ∷ pos 0 ∷ []) 13 ≡ record { printed = codes "-1\n125\n2\n"; end = End.Ended }
unfolding value below_level digits after bind result_of decided tested closed took bound begun take_turn passed returned with_arguments
bank_ends = refl
