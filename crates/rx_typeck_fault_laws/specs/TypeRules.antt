-- Which rule of types asks a demand, beside the fault that it is broken with (Rust Reference, "Type system"): several rules have
-- the fault Equal, KindOf or PatternOf. One demand is what one rule asks at one node; of what has parts of one type, as a
-- `match`, it is that of one part.
use Rattle.std.specs.Prelude.{ℕ, nat_eq, Bool, false, not, ◌&&◌, if◌then◌else◌, List, [], ◌∷◌}
use Rattle.rx_typeck_solver.specs.declared.facts.Broken.{Broken}
use Rattle.rx_typeck_solver.specs.declared.facts.Broken.TheVariants as broken
use Rattle.rx_typeck_solver.specs.declared.facts.Kinds.{Kinds}
use Rattle.rx_typeck_solver.specs.declared.facts.Rule.{Rule}
use Rattle.rx_typeck_solver.specs.declared.facts.Subject.{Subject}
use Rattle.rx_typeck_solver.specs.declared.facts.Subject.TheVariants as subject
use Rattle.rx_typeck_solver.specs.declared.facts.Op.{Op}
use Rattle.rx_typeck_solver.specs.declared.facts.Op.TheVariants as op
use Rattle.rx_typeck_solver.specs.declared.facts.Test.TheVariants as test
use Rattle.rx_typeck_solver.specs.declared.facts.Fact.{Fact}
use Rattle.rx_typeck_solver.specs.declared.facts.Fact.TheVariants as fact
use Rattle.rx_typeck_solver.specs.declared.facts.Demand.{Demand}

pub data TypeRule : Type 0 where
  -- ---- of the fault Equal: what the place of a node expects; that it is the node's own type, where a value is reborrowed
  -- that is no coercion site
  expectation : TypeRule
  own_expectation : TypeRule
  -- a node has the type of its form; that of another node (a part, or what a pattern is matched with); the unit, where
  -- it gives nothing; that which its place expects, where it joins values; that which is coerced to the expected one
  own_type : TypeRule
  same_type : ℕ → TypeRule
  unit_type : TypeRule
  joined_type : TypeRule
  coercion : TypeRule
  -- a binding's variable has the type that its pattern gives; this variable, a parameter or what is assigned, has the
  -- node's; an assignment gives its variable a type
  binding : TypeRule
  variable_type : ℕ → TypeRule
  given_type : TypeRule
  -- a function that returns nothing at the node has the unit as its result
  returned_unit : TypeRule
  -- ---- of KindOf: a test is a truth value; what is printed is one or an integer; the operands of an operator
  tested : TypeRule
  printed : TypeRule
  operands : TypeRule
  -- ---- of PatternOf: the shape of what is matched; the sign and the suffix of a literal; no `mut` behind a reference
  pattern_shape : TypeRule
  literal_sign : TypeRule
  literal_suffix : TypeRule
  direct_binding : TypeRule
  -- ---- the others have a fault of their own
  literal_range : TypeRule
  argument_count : TypeRule
  field_names : TypeRule
  place_step : TypeRule
  type_limits : TypeRule
  lifetime_count : TypeRule
  kept_place : TypeRule
  -- the variable
  mutable_place : ℕ → TypeRule
  -- what may not stand there, or whose type isn't clear
  no_place : TypeRule
  no_function : TypeRule
  unclear : TypeRule
  -- nothing that the rules ask
  no_rule : TypeRule

-- a node itself, and nothing else
abbrev pub is_itself : ℕ → List Subject → Bool
is_itself n (subject.Node m ∷ []) = nat_eq m n
is_itself n _ = false

abbrev pub is_node : ℕ → Subject → Bool
is_node n (subject.Node m) = nat_eq m n
is_node n _ = false

-- the signed kinds alone
abbrev pub are_signed : Kinds → Bool
are_signed s = not s.u8 && (s.i32 && s.i64)

-- ---- by what a fact tells, and of what

abbrev pub of_same : List Subject → TypeRule
of_same (subject.Node m ∷ []) = same_type m
of_same (subject.Expected m ∷ []) = joined_type
of_same _ = own_type

abbrev pub of_node : Op → List Subject → TypeRule
of_node op.Same xs = of_same xs
of_node op.Unit xs = unit_type
of_node op.Coerced xs = coercion
of_node _ xs = own_type

abbrev pub of_variable : ℕ → ℕ → Op → List Subject → TypeRule
of_variable n x op.Bound xs = binding
of_variable n x _ xs = if is_itself n xs then variable_type x else given_type

abbrev pub of_equal : ℕ → Fact → TypeRule
of_equal n (fact.Equals (subject.Expected m) o xs ps) = if is_itself n xs then own_expectation else expectation
of_equal n (fact.Equals (subject.Node m) o xs ps) = of_node o xs
of_equal n (fact.Equals (subject.Variable x) o xs ps) = of_variable n x o xs
of_equal n (fact.Integer m s) = own_type
of_equal n _ = returned_unit

abbrev pub of_kind : ℕ → List Fact → TypeRule
of_kind n (fact.Equals x op.Truth xs ps ∷ []) = if is_node n x then tested else operands
of_kind n (fact.Passes test.Plain xs ps qs ∷ []) = if is_itself n xs then printed else operands
of_kind n _ = operands

abbrev pub of_pattern : Fact → TypeRule
of_pattern (fact.IntegerBehind m s) = if are_signed s then literal_sign else literal_suffix
of_pattern (fact.Passes test.Direct xs ps qs) = direct_binding
of_pattern _ = pattern_shape

abbrev pub of_never : Broken → TypeRule
of_never (broken.Mismatch Rule.NotPlace) = no_place
of_never (broken.Mismatch Rule.NotFunction) = no_function
of_never _ = unclear

-- of the node, its fault, the first fact and the others
abbrev pub of_facts : ℕ → Broken → Fact → List Fact → TypeRule
of_facts n b fact.Never fs = of_never b
of_facts n (broken.Mismatch Rule.Equal) f fs = of_equal n f
of_facts n (broken.Mismatch Rule.KindOf) f fs = of_kind n (f ∷ fs)
of_facts n (broken.Mismatch Rule.PatternOf) f fs = of_pattern f
of_facts n (broken.Mismatch Rule.Count) f fs = argument_count
of_facts n (broken.Mismatch Rule.Fields) f fs = field_names
of_facts n (broken.Mismatch Rule.NotPlace) f fs = place_step
of_facts n (broken.Mismatch Rule.Parts) f fs = type_limits
of_facts n (broken.Mismatch Rule.Lifetimes) f fs = lifetime_count
of_facts n (broken.Mismatch Rule.MoveOut) f fs = kept_place
of_facts n (broken.Mutability x) f fs = mutable_place x
of_facts n broken.Literal f fs = literal_range
of_facts n _ f fs = no_rule

abbrev pub of_asked : ℕ → Broken → List Fact → TypeRule
of_asked n b (f ∷ fs) = of_facts n b f fs
-- operands that are all Never
of_asked n b [] = operands

abbrev pub rule_of : Demand → TypeRule
rule_of d = of_asked d.node d.broken d.facts
