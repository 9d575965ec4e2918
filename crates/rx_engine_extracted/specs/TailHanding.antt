-- What the caller does with what the call gives of a run that holds its block's tail: the value is the block's, alone or behind what is done with the
-- others; or a unit stands again at its end (REM, "Extract method": outputs; Rust Reference, "Block expressions", "return expressions").
use Rattle.std.specs.Prelude.{ℕ, ◌==◌, Bool, true, false, not, ◌&&◌, List, [], ◌∷◌, Option, Some, None}
use Rattle.rx_typed.specs.Tree as tree
use Rattle.rx_typed.specs.Tree.{Exp, Subpatterns, Body}
use Rattle.rx_engine_simulation.specs.Sights.{Renaming}
use Rattle.rx_engine_alike.specs.Likeness.{if_so, and_then}
use Rattle.rx_engine_alike.specs.Read.{as_ends}
use Rattle.rx_engine_alike.specs.Variables.{is_in, is_new}
use Rattle.rx_engine_alike.specs.Giving.{is_unit, takes}
use Rattle.rx_engine_extracted.specs.Told.{Told}
use Rattle.rx_engine_extracted.specs.Handing.{received_in, received, Put, put_back, parts_of, is_within}
use Rattle.rx_engine_extracted.specs.Arms.{is_put, is_renaming}
use Rattle.rx_engine_extracted.specs.Reading.{binds_first}
use Rattle.rx_engine_extracted.specs.PlainEnding.{given_of}
use Rattle.rx_engine_extracted.specs.TailEnding.{is_given}

-- ---- the tail of a function's body stands in a `give` at the block's node

abbrev pub gives_at : ℕ → Exp → Bool
gives_at n (tree.give m e) = m.node == n
gives_at n _ = false

-- what is given in its place in the answer, where it is that of a function's body or isn't
abbrev pub given_back : Bool → Exp → Option Exp
given_back true e = given_of e
given_back false e = Some e

abbrev pub ends_given_back : Bool → Body → Option Exp
ends_given_back own b = and_then (as_ends b) (λ e. given_back own e)

-- ---- a unit

abbrev pub is_the_unit : Option Exp → Bool
is_the_unit o = is_given o (λ f. is_unit f)

abbrev pub gives_unit_back : Bool → Exp → Bool
gives_unit_back own e = is_the_unit (given_back own e)

abbrev pub ends_in_unit_back : Bool → Body → Bool
ends_in_unit_back own b = is_the_unit (ends_given_back own b)

-- ---- a value beside others

-- the variable that it is received in, and those of the others
abbrev pub first_of : List ℕ → Option (ℕ × List ℕ)
first_of [] = None
first_of (o ∷ os) = Some (o, os)

abbrev pub takes_given : ℕ → Option Exp → Bool
takes_given o g = is_given g (λ f. takes o f)

-- it is given back behind what is done with the others
abbrev pub gives_back_last : Bool → Renaming → ℕ → Put → Bool
gives_back_last own R o p = takes_given o (ends_given_back own p.rest) && is_within R p.inside

-- with the variables outside, and these but for what is handed out
abbrev pub put_beside : Told → Bool → Renaming → Renaming → List ℕ → ℕ × List ℕ → Body → Bool
put_beside T own R Rs xs r b = is_new R r.0 && (not (is_in r.0 r.1) && is_renaming (received R Rs xs r.1) (λ Rr. is_put (put_back T R Rr xs r.1 b) (λ p. gives_back_last own R r.0 p)))

abbrev pub is_first : Option (ℕ × List ℕ) → (ℕ × List ℕ → Bool) → Bool
is_first None f = false
is_first (Some r) f = f r

abbrev pub received_beside : Told → Bool → Renaming → Renaming → List ℕ → Subpatterns → Body → Bool
received_beside T own R Rs xs ps b = is_first (and_then (received_in 0 ps) first_of) (λ r. put_beside T own R Rs xs r b)

abbrev pub are_parts : Option Subpatterns → (Subpatterns → Bool) → Bool
are_parts None f = false
are_parts (Some ps) f = f ps

-- ---- the expression that gives the value, and what is handed out beside it

abbrev pub gives_beside : Told → Bool → Renaming → Renaming → List ℕ → Body → Option Exp
gives_beside T own R Rs xs b = and_then (binds_first b) (λ r. if_so (are_parts (parts_of r.0) (λ ps. received_beside T own R Rs xs ps r.2)) (Some r.1))

abbrev pub gives_value : Told → Bool → Renaming → Renaming → List ℕ → Body → Option Exp
gives_value T own R Rs [] b = ends_given_back own b
gives_value T own R Rs (x ∷ xs) b = gives_beside T own R Rs (x ∷ xs) b
