-- Runs of programs, computed, with the number of turns at which each ends.
use Rattle.std.specs.Prelude.{◌≡◌, refl, pos, negsuc, [], ◌∷◌, codes}
use Rattle.std.specs.Fmt.{digits}
use Rattle.rx_lower_walks.proofs.Programs.{product_functions, gate_functions, steps_functions, found_functions, replaced_functions, whiles_functions, nested_functions, parts_functions}
use Rattle.rx_lower_walks.proofs.ProgramsOfTypes.{shapes_functions, coerced_functions, matching_functions}
use Rattle.rx_lower_walks.proofs.Bank.{bank_functions}
use Rattle.rx_meaning.specs.declared.outcome.End.{End}
use Rattle.rx_meaning.specs.declared.outcome.Trap.{Trap}
use Rattle.rx_meaning.specs.Results.{after, bind, result_of}
use Rattle.rx_meaning.specs.Patterns.{decided, tested, closed, took, bound, begun}
use Rattle.rx_meaning.specs.Expressions.{take_turn, passed, returned, with_arguments, value, below_level}
use Rattle.rx_meaning.specs.Programs.{Program, run}

abbrev product : Program
product = record { functions = product_functions; main = 0 }

product_ends : run product ([]) 1 ≡ record { printed = codes "6\n"; end = End.Ended }
unfolding value below_level digits after bind result_of decided tested closed took bound begun take_turn passed returned with_arguments
product_ends = refl

product_begins : run product ([]) 0 ≡ record { printed = []; end = End.Running }
unfolding value below_level digits after bind result_of decided tested closed took bound begun take_turn passed returned with_arguments
product_begins = refl

abbrev gate : Program
gate = record { functions = gate_functions; main = 1 }

gate_ends : run gate (pos 5 ∷ negsuc 1 ∷ pos 7 ∷ pos 0 ∷ []) 5 ≡ record { printed = codes "12\n"; end = End.Ended }
unfolding value below_level digits after bind result_of decided tested closed took bound begun take_turn passed returned with_arguments
gate_ends = refl

gate_goes_on : run gate (pos 5 ∷ negsuc 1 ∷ pos 7 ∷ pos 0 ∷ []) 4 ≡ record { printed = []; end = End.Running }
unfolding value below_level digits after bind result_of decided tested closed took bound begun take_turn passed returned with_arguments
gate_goes_on = refl

-- past the end of the input comes 0
input_ends : run gate ([]) 2 ≡ record { printed = codes "0\n"; end = End.Ended }
unfolding value below_level digits after bind result_of decided tested closed took bound begun take_turn passed returned with_arguments
input_ends = refl

abbrev steps : Program
steps = record { functions = steps_functions; main = 3 }

steps_end : run steps (pos 4 ∷ pos 5 ∷ pos 0 ∷ []) 7 ≡ record { printed = codes "9\n"; end = End.Ended }
unfolding value below_level digits after bind result_of decided tested closed took bound begun take_turn passed returned with_arguments
steps_end = refl

steps_go_on : run steps (pos 4 ∷ pos 5 ∷ pos 0 ∷ []) 6 ≡ record { printed = []; end = End.Running }
unfolding value below_level digits after bind result_of decided tested closed took bound begun take_turn passed returned with_arguments
steps_go_on = refl

steps_break : run steps (pos 13 ∷ []) 3 ≡ record { printed = codes "0\n"; end = End.Ended }
unfolding value below_level digits after bind result_of decided tested closed took bound begun take_turn passed returned with_arguments
steps_break = refl

abbrev found : Program
found = record { functions = found_functions; main = 2 }

-- out of both loops
found_returns : run found (pos 3 ∷ pos 20 ∷ []) 5 ≡ record { printed = codes "20\n"; end = End.Ended }
unfolding value below_level digits after bind result_of decided tested closed took bound begun take_turn passed returned with_arguments
found_returns = refl

found_breaks : run found (pos 3 ∷ pos 0 ∷ []) 5 ≡ record { printed = codes "1\n"; end = End.Ended }
unfolding value below_level digits after bind result_of decided tested closed took bound begun take_turn passed returned with_arguments
found_breaks = refl

abbrev replaced : Program
replaced = record { functions = replaced_functions; main = 0 }

-- `r` leads to `y` when the place is found
right_side_comes_first : run replaced ([]) 1 ≡ record { printed = codes "5\n"; end = End.Ended }
unfolding value below_level digits after bind result_of decided tested closed took bound begun take_turn passed returned with_arguments
right_side_comes_first = refl

abbrev parts : Program
parts = record { functions = parts_functions; main = 3 }

-- a reborrow, a value that becomes shared, a struct pattern, `||` that skips its right operand; 254 + 3 is no `u8`
parts_trap : run parts ([]) 4 ≡ record { printed = codes "true\n254\ntrue\ntrue\n"; end = (End.Trapped Trap.Overflow) }
unfolding value below_level digits after bind result_of decided tested closed took bound begun take_turn passed returned with_arguments
parts_trap = refl

abbrev shapes : Program
shapes = record { functions = shapes_functions; main = 2 }

-- the bindings are references into the variant; 255 + 1 is no `u8`
shapes_trap : run shapes ([]) 3 ≡ record { printed = codes "2\n"; end = (End.Trapped Trap.Overflow) }
unfolding value below_level digits after bind result_of decided tested closed took bound begun take_turn passed returned with_arguments
shapes_trap = refl

abbrev whiles : Program
whiles = record { functions = whiles_functions; main = 0 }

-- ten passes, and the test that fails
ten_passes_end : run whiles ([]) 12 ≡ record { printed = codes "10\n"; end = End.Ended }
unfolding value below_level digits after bind result_of decided tested closed took bound begun take_turn passed returned with_arguments
ten_passes_end = refl

ten_passes_go_on : run whiles ([]) 11 ≡ record { printed = []; end = End.Running }
unfolding value below_level digits after bind result_of decided tested closed took bound begun take_turn passed returned with_arguments
ten_passes_go_on = refl

abbrev nested : Program
nested = record { functions = nested_functions; main = 1 }

-- a `continue` out of an inner loop, tuples, a variable that hides another, a function that calls itself
nested_trap : run nested ([]) 25 ≡ record { printed = codes "9\ntrue\n"; end = (End.Trapped Trap.Overflow) }
unfolding value below_level digits after bind result_of decided tested closed took bound begun take_turn passed returned with_arguments
nested_trap = refl

nested_goes_on : run nested ([]) 24 ≡ record { printed = codes "9\ntrue\n"; end = End.Running }
unfolding value below_level digits after bind result_of decided tested closed took bound begun take_turn passed returned with_arguments
nested_goes_on = refl

abbrev coerced : Program
coerced = record { functions = coerced_functions; main = 3 }

-- places and values of type `&mut T` where `&T` is expected, reborrows, references in a tuple
coerced_ends : run coerced ([]) 9 ≡ record { printed = codes "10\n10\n20\n24\ntrue\n22\n"; end = End.Ended }
unfolding value below_level digits after bind result_of decided tested closed took bound begun take_turn passed returned with_arguments
coerced_ends = refl

abbrev matching : Program
matching = record { functions = matching_functions; main = 4 }

-- patterns of values and behind references
matching_ends : run matching ([]) 99 ≡ record { printed = codes "50\n11\n902\n50\n8\n10\n"; end = End.Ended }
unfolding value below_level digits after bind result_of decided tested closed took bound begun take_turn passed returned with_arguments
matching_ends = refl

abbrev bank : Program
bank = record { functions = bank_functions; main = 7 }

bank_ends : run bank (pos 1 ∷ pos 1 ∷ pos 25 ∷ pos 2 ∷ pos 2 ∷ pos 60 ∷ pos 3 ∷ pos 1 ∷ pos 0 ∷ []) 13 ≡ record { printed = codes "-1\n125\n2\n"; end = End.Ended }
unfolding value below_level digits after bind result_of decided tested closed took bound begun take_turn passed returned with_arguments
bank_ends = refl

bank_goes_on : run bank (pos 1 ∷ pos 1 ∷ pos 25 ∷ pos 2 ∷ pos 2 ∷ pos 60 ∷ pos 3 ∷ pos 1 ∷ pos 0 ∷ []) 12 ≡ record { printed = codes "-1\n125\n"; end = End.Running }
unfolding value below_level digits after bind result_of decided tested closed took bound begun take_turn passed returned with_arguments
bank_goes_on = refl
