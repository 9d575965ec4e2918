-- Parts of what is asked of a run with its block's tail that have a function each.
use Rattle.std.specs.Prelude.{ℕ, nat_eq, Bool, not, ◌&&◌, List, ◌∷◌, Option, Some, None}
use Rattle.rx_typed.specs.Tree as tree
use Rattle.rx_typed.specs.Tree.{Making, Pattern, Exp, Operands, Scrutinee, Body}
use Rattle.rx_exits_plan.specs.Points.{next}
use Rattle.rx_engine_simulation.specs.Sights.{Renaming}
use Rattle.rx_engine_simulation.specs.Jumps.{Jumping}
use Rattle.rx_engine_alike.specs.Likeness.{if_so, and_then}
use Rattle.rx_engine_alike.specs.Variables.{is_in}
use Rattle.rx_engine_alike.specs.Giving.{gives_bare}
use Rattle.rx_engine_extracted.specs.Told.{Told}
use Rattle.rx_engine_extracted.specs.Stretches.{Passed}
use Rattle.rx_engine_extracted.specs.Handing.{Put, hands_back, put_back, parts_of}
use Rattle.rx_engine_extracted.specs.Arms.{is_put}
use Rattle.rx_engine_extracted.specs.TailHanding.{are_parts, received_beside, gives_back_last}
use Rattle.rx_engine_extracted.specs.TailBlock.{unit_stands_for}

-- the operand for the first field, and those behind it
abbrev pub first_operand : Operands → Option (Exp × Operands)
first_operand tree.no_operand = None
first_operand (tree.operand_and i e es) = if_so (nat_eq 0 i) (Some (e, es))

-- those that the variant of this number is made of
abbrev pub operands_made : ℕ → Making → Operands → Option Operands
operands_made v (tree.variant_of i u) es = if_so (nat_eq v u) (Some es)
operands_made v _ es = None

-- a `let` with what it matches
abbrev pub lets_first : Body → Option (Pattern × Scrutinee × Body)
lets_first (tree.lets n q c b) = Some (q, c, b)
lets_first _ = None

-- a variable that is none of these, and then these
abbrev pub gives_before : ℕ → List ℕ → Exp → Bool
gives_before o zs g = not (is_in o zs) && gives_bare (o ∷ zs) g

-- what is handed out is put back, and the value is given behind it
abbrev pub put_and_gives : Told → Bool → Renaming → Renaming → List ℕ → ℕ → List ℕ → Body → Bool
put_and_gives T own R Rr xs o os b = is_put (put_back T R Rr xs os b) (λ p. gives_back_last own R o p)

abbrev pub parts_beside : Told → Bool → Renaming → Renaming → List ℕ → Pattern → Body → Bool
parts_beside T own R Rs xs q b = are_parts (parts_of q) (λ ps. received_beside T own R Rs xs ps b)

-- what stands for the run is the call, by the renaming without what is handed out
abbrev pub unit_call_stands : Told → Jumping → Passed → Renaming → Option Put
unit_call_stands T J p Rs = and_then (hands_back T p.inside Rs (T.plan.outs next) p.answer) (λ S. unit_stands_for T J p S)
