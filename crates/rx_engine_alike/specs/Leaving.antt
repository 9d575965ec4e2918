-- Whether a jump out of the run, or a return of it, is the return of its variant in the new function (REM, "Extract method": reified control
-- flow; Rust Reference, "break expressions", "return expressions").
use Rattle.std.specs.Prelude.{ℕ, zero, nat_eq, Bool, true, false, not, ◌&&◌, List, [], ◌∷◌, Option, Some, None}
use Rattle.rx_typed.specs.Tree as tree
use Rattle.rx_typed.specs.Tree.{Mark, Making, Exp, Operands, Pattern, Scrutinee, Body, by_value}
use Rattle.rx_engine_simulation.specs.Sights.{Renaming}
use Rattle.rx_engine_simulation.specs.Jumps.{Pack, Jumping}
use Rattle.rx_engine_alike.specs.Likeness.{if_so, is_none}
use Rattle.rx_engine_alike.specs.Giving.{gives_variant, numbers_of, if_these}

-- the jump of this variant, with what it hands out
abbrev pub gives_pack : Renaming → Option Pack → Exp → Bool
gives_pack R None g = false
gives_pack R (Some p) g = if_these (numbers_of R p.outs) (λ zs. gives_variant p.variant zs g)

-- the only operand, for the first field
abbrev pub only_operand : Operands → Option Exp
only_operand (tree.operand_and zero e tree.no_operand) = Some e
only_operand _ = None

-- what the variant of this number has as its only part
abbrev pub part_of_made : ℕ → Making → Operands → Option Exp
part_of_made v (tree.variant_of i u) es = if_so (nat_eq v u) (only_operand es)
part_of_made v _ es = None

abbrev pub part_of_variant : ℕ → Exp → Option Exp
part_of_variant v (tree.build m w es) = part_of_made v w es
part_of_variant v _ = None

-- ---- a value that is bound in front: the variable, the value, what is given then

abbrev pub bound_by : Pattern → Option ℕ
bound_by (tree.bind k o (by_value mutable)) = Some o
bound_by _ = None

abbrev pub bound_then : Option ℕ → Scrutinee → Body → Option (ℕ × Exp × Exp)
bound_then (Some o) (tree.of_value e) (tree.ends g) = Some (o, e, g)
bound_then _ _ _ = None

abbrev pub bound_in : Body → Option (ℕ × Exp × Exp)
bound_in (tree.lets n q c b) = bound_then (bound_by q) c b
bound_in _ = None

abbrev pub bound_in_block : Exp → Option (ℕ × Exp × Exp)
bound_in_block (tree.block m b) = bound_in b
bound_in_block _ = None

-- ---- jumps that stay

-- the answer's loop is none of these
abbrev pub is_apart : List (ℕ × ℕ) → ℕ → Bool
is_apart [] k = true
is_apart (b ∷ bs) k = not (nat_eq b.1 k) && is_apart bs k

-- no jump to this loop leaves
abbrev pub stays_in : Jumping → ℕ → Bool
stays_in J l = is_none (J.leaving l true) && is_none (J.leaving l false)

abbrev pub is_number : Option ℕ → ℕ → Bool
is_number None j = false
is_number (Some i) j = nat_eq i j
