-- Whether the new function does the run's statements and ends as the run: it gives what is handed out, or the last statement is its tail, or its
-- end is not come to (REM, "Extract method": outputs; Rust Reference, "Block expressions").
use Rattle.std.specs.Prelude.{ℕ, zero, suc, nat_eq, Bool, true, false, ◌&&◌, List, [], ◌∷◌, Option, Some, None}
use Rattle.rx_typed.specs.Tree as tree
use Rattle.rx_typed.specs.Tree.{Exp, Body}
use Rattle.rx_engine_simulation.specs.Sights.{Renaming}
use Rattle.rx_engine_simulation.specs.Jumps.{Jumping}
use Rattle.rx_engine_simulation.specs.Packing.{Way, bare, as_variant, no_way}
use Rattle.rx_engine_alike.specs.Likeness.{if_so, and_then, is_alike}
use Rattle.rx_engine_alike.specs.Giving.{gives_bare, gives_variant, numbers_of, if_these}
use Rattle.rx_engine_alike.specs.Forms.{Between, like_exp}
use Rattle.rx_engine_extracted.specs.Stretches.{Passed, like_first, count_of}

abbrev pub gives_in : Way → List ℕ → Exp → Bool
gives_in bare zs g = gives_bare zs g
gives_in (as_variant v) zs g = gives_variant v zs g
gives_in no_way zs g = true

-- behind all statements: with what is handed out
abbrev pub gives_outs : Way → Renaming → List ℕ → Body → Bool
gives_outs w R xs (tree.ends (tree.give m g)) = if_these (numbers_of R xs) (λ zs. gives_in w zs g)
gives_outs w R xs _ = false

abbrev pub has_none : List ℕ → Bool
has_none [] = true
has_none (x ∷ xs) = false

abbrev pub gives_last : Way → Bool
gives_last bare = true
gives_last (as_variant v) = false
gives_last no_way = true

abbrev pub last_is : Between → Jumping → Renaming → Body → Body → Bool
last_is C J R (tree.runs e b) (tree.ends (tree.give m f)) = is_alike (like_exp C J R e f)
last_is C J R _ _ = false

-- or the last statement is what it gives
abbrev pub ends_as : Between → Jumping → Way → List ℕ → Passed → Option Renaming
ends_as C J w xs p = if_so (has_none xs && (gives_last w && last_is C J p.inside p.text p.answer)) (Some p.inside)

abbrev pub ends_with : Way → List ℕ → Passed → Option Renaming
ends_with w xs p = if_so (gives_outs w p.inside xs p.answer) (Some p.inside)

abbrev pub ran_but_last : Between → Jumping → Way → List ℕ → ℕ → Renaming → Body → Body → Option Renaming
ran_but_last C J w xs zero R b b' = None
ran_but_last C J w xs (suc n) R b b' = and_then (like_first C J n R b b') (λ p. ends_as C J w xs p)

abbrev pub ran_all : Between → Jumping → Way → List ℕ → ℕ → Renaming → Body → Body → Option Renaming
ran_all C J w xs n R b b' = and_then (like_first C J n R b b') (λ p. ends_with w xs p)

abbrev pub ran_by : Bool → Between → Jumping → Way → List ℕ → ℕ → Renaming → Body → Body → Option Renaming
ran_by true C J w xs n R b b' = ran_all C J w xs n R b b'
ran_by false C J w xs n R b b' = ran_but_last C J w xs n R b b'

-- so many statements: the new function's variables at its end
abbrev pub ran : Between → Jumping → Way → List ℕ → ℕ → Renaming → Body → Body → Option Renaming
ran C J w xs n R b b' = ran_by (nat_eq (count_of b') n) C J w xs n R b b'
