-- Whether the new function ends as a run does that holds its block's tail (REM, "Extract method": outputs; Rust Reference, "Block expressions",
-- "return expressions"): it gives the tail's value, alone, or in a variant or a tuple in front of what is handed out; or a unit is dropped, and is
-- what the function gives or stands in front of what is handed out; or its end is not come to.
use Rattle.std.specs.Prelude.{ℕ, nat_eq, Bool, true, false, not, ◌&&◌, List, [], ◌∷◌, Option, Some, None}
use Rattle.rx_typed.specs.Tree as tree
use Rattle.rx_typed.specs.Tree.{Place, Pattern, Exp, Operands, Scrutinee, Body}
use Rattle.rx_engine_simulation.specs.Sights.{Renaming}
use Rattle.rx_engine_simulation.specs.Jumps.{Jumping}
use Rattle.rx_engine_simulation.specs.Places.{looking}
use Rattle.rx_engine_simulation.specs.Packing.{Way, bare, as_variant, no_way}
use Rattle.rx_engine_alike.specs.Likeness.{if_so, and_then, is_alike}
use Rattle.rx_engine_alike.specs.Ways.{like_place}
use Rattle.rx_engine_alike.specs.Variables.{is_in, is_new}
use Rattle.rx_engine_alike.specs.Units.{gives_unit}
use Rattle.rx_engine_alike.specs.Giving.{takes_all, gives_bare, numbers_of, if_these}
use Rattle.rx_engine_alike.specs.Forms.{Between, like_exp}
use Rattle.rx_engine_extracted.specs.Stretches.{Passed, like_first}
use Rattle.rx_engine_extracted.specs.Handing.{received_by}
use Rattle.rx_engine_extracted.specs.Ending.{gives_outs, has_none}
use Rattle.rx_engine_extracted.specs.Reading.{runs_first, lets_first}
use Rattle.rx_engine_extracted.specs.PlainEnding.{ends_given_of}

abbrev pub is_given : Option Exp → (Exp → Bool) → Bool
is_given None f = false
is_given (Some e) f = f e

-- what the function gives is the tail
abbrev pub tail_is : Between → Jumping → Renaming → Exp → Option Exp → Bool
tail_is C J R e o = is_given o (λ f. is_alike (like_exp C J R e f))

-- ---- in a variant: the tail, and values of variables behind it

abbrev pub tail_and_these : Between → Jumping → Renaming → List ℕ → Exp → Operands → Bool
tail_and_these C J R zs e (tree.operand_and i f es) = nat_eq 0 i && (is_alike (like_exp C J R e f) && takes_all 1 zs es)
tail_and_these C J R zs e tree.no_operand = false

abbrev pub variant_operands : ℕ → Exp → Option Operands
variant_operands v (tree.build m (tree.variant_of i u) es) = if_so (nat_eq v u) (Some es)
variant_operands v _ = None

abbrev pub is_these : Option Operands → (Operands → Bool) → Bool
is_these None f = false
is_these (Some es) f = f es

abbrev pub in_variant : Between → Jumping → ℕ → Renaming → List ℕ → Exp → Exp → Bool
in_variant C J v R xs e g = is_these (variant_operands v g) (λ es. if_these (numbers_of R xs) (λ zs. tail_and_these C J R zs e es))

-- ---- in a tuple with them: bound first; a place is looked into

abbrev pub looks_alike : Renaming → Exp → Place → Bool
looks_alike R (tree.read m v p) q = like_place R looking p q
looks_alike R _ q = false

abbrev pub bound_alike : Between → Jumping → Renaming → Exp → Scrutinee → Bool
bound_alike C J R e (tree.of_value f) = is_alike (like_exp C J R e f)
bound_alike C J R e (tree.at_place m q) = looks_alike R e q

abbrev pub gives_beside : ℕ → Exp → List ℕ → Bool
gives_beside o g zs = not (is_in o zs) && gives_bare (o ∷ zs) g

-- the variable that it is bound to, and what the function gives then
abbrev pub gives_with : Renaming → List ℕ → Option ℕ → Option Exp → Bool
gives_with R xs (Some o) (Some g) = is_new R o && if_these (numbers_of R xs) (λ zs. gives_beside o g zs)
gives_with R xs _ _ = false

abbrev pub is_let : Option (Pattern × Scrutinee × Body) → (Pattern × Scrutinee × Body → Bool) → Bool
is_let None f = false
is_let (Some r) f = f r

abbrev pub in_tuple : Between → Jumping → Renaming → List ℕ → Exp → Body → Bool
in_tuple C J R xs e b = is_let (lets_first b) (λ r. bound_alike C J R e r.1 && gives_with R xs (received_by r.0) (ends_given_of r.2))

-- ---- with a value, or without one

-- alone, where nothing else is handed out
abbrev pub ends_bare : Between → Jumping → Renaming → List ℕ → Exp → Body → Bool
ends_bare C J R [] e b = tail_is C J R e (ends_given_of b)
ends_bare C J R (x ∷ xs) e b = in_tuple C J R (x ∷ xs) e b

abbrev pub ends_with_value : Between → Jumping → Way → Renaming → List ℕ → Exp → Body → Bool
ends_with_value C J bare R xs e b = ends_bare C J R xs e b
ends_with_value C J (as_variant v) R xs e b = is_given (ends_given_of b) (λ g. in_variant C J v R xs e g)
ends_with_value C J no_way R xs e b = false

-- in front of what is handed out
abbrev pub in_front : Between → Jumping → Way → Renaming → List ℕ → Exp → Option (Exp × Body) → Bool
in_front C J w R xs e None = false
in_front C J w R xs e (Some r) = is_alike (like_exp C J R e r.0) && gives_outs w R xs r.1

abbrev pub front_of : Between → Jumping → Way → Renaming → List ℕ → Exp → Body → Bool
front_of C J w R xs e b = in_front C J w R xs e (runs_first b)

-- the tail is what the function gives, or it stands in front
abbrev pub dropped_bare : Between → Jumping → Renaming → List ℕ → Exp → Body → Bool
dropped_bare C J R [] e b = tail_is C J R e (ends_given_of b)
dropped_bare C J R (x ∷ xs) e b = front_of C J bare R (x ∷ xs) e b

abbrev pub ends_without : Between → Jumping → Way → Renaming → List ℕ → Exp → Body → Bool
ends_without C J bare R xs e b = gives_unit C.units e && dropped_bare C J R xs e b
ends_without C J (as_variant v) R xs e b = gives_unit C.units e && front_of C J (as_variant v) R xs e b
ends_without C J no_way R xs e b = has_none xs && tail_is C J R e (ends_given_of b)

abbrev pub ends_with_tail : Bool → Between → Jumping → Way → Renaming → List ℕ → Exp → Body → Bool
ends_with_tail true C J w R xs e b = ends_with_value C J w R xs e b
ends_with_tail false C J w R xs e b = ends_without C J w R xs e b

-- behind so many statements: the new function's variables at its end
abbrev pub ran_to_tail : Bool → Between → Jumping → Way → List ℕ → ℕ → Renaming → Body → Exp → Body → Option Renaming
ran_to_tail has C J w xs n R b e b' = and_then (like_first C J n R b b') (λ p. if_so (ends_with_tail has C J w p.inside xs e p.answer) (Some p.inside))
