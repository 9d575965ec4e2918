-- How nodes, variables and items of one program are numbered in another, and what that makes of types, declarations and facts.
use Rattle.std.specs.Prelude.{ℕ, map}
use Rattle.rx_core.specs.declared.types.Span.{Span}
use Rattle.rx_typed.specs.declared.nodes.Node.{Node}
use Rattle.rx_typed.specs.Types.{Shape, Shapes, integer, boolean, tuple_of, reference, named, no_shape, shape_and}
use Rattle.rx_typed.specs.Types.{FieldDeclared, VariantDeclared, Declared, rt_declared, struct_declared, enum_declared}
use Rattle.rx_typed.specs.Types.{function_declared}
use Rattle.rx_typeck_solver.specs.declared.facts.Subject.{Subject}
use Rattle.rx_typeck_solver.specs.declared.facts.Subject.TheVariants as subject
use Rattle.rx_typeck_solver.specs.declared.facts.Passing.{Passing}
use Rattle.rx_typeck_solver.specs.declared.facts.Op.{Op}
use Rattle.rx_typeck_solver.specs.declared.facts.Op.TheVariants as op
use Rattle.rx_typeck_solver.specs.declared.facts.Test.{Test}
use Rattle.rx_typeck_solver.specs.declared.facts.Test.TheVariants as test
use Rattle.rx_typeck_solver.specs.declared.facts.Fact.{Fact}
use Rattle.rx_typeck_solver.specs.declared.facts.Fact.TheVariants as fact

-- nodes and variables are those of one function
pub record Renumbering : Type 0 where
  pub nodes : ℕ → ℕ
  pub variables : ℕ → ℕ
  pub items : ℕ → ℕ

module _ (r : Renumbering) where
  -- ---- types and declarations

  abbrev mutual
    pub shape_at : {K : Type 0} → Shape K → Shape K
    shape_at (integer k) = integer k
    shape_at boolean = boolean
    shape_at (tuple_of ts) = tuple_of (shapes_at ts)
    shape_at (reference m t) = reference m (shape_at t)
    shape_at (named i) = named (r.items i)

    pub shapes_at : {K : Type 0} → Shapes K → Shapes K
    shapes_at no_shape = no_shape
    shapes_at (shape_and t ts) = shape_and (shape_at t) (shapes_at ts)

  abbrev pub field_at : FieldDeclared → FieldDeclared
  field_at f = record { name = f.name; typ = shape_at f.typ }

  abbrev pub variant_at : VariantDeclared → VariantDeclared
  variant_at v = record { name = v.name; parts = map shape_at v.parts }

  abbrev pub declared_at : Declared → Declared
  declared_at rt_declared = rt_declared
  declared_at (struct_declared c l fs) = struct_declared c l (map field_at fs)
  declared_at (enum_declared c l vs) = enum_declared c l (map variant_at vs)
  declared_at (function_declared ps t) = function_declared (map shape_at ps) (shape_at t)

  -- ---- nodes; the span may be another

  abbrev pub node_at : Node → Span → Node
  node_at n s = record { number = r.nodes n.number; span = s; site = n.site }

  -- ---- facts

  abbrev pub subject_at : Subject → Subject
  subject_at (subject.Variable x) = subject.Variable (r.variables x)
  subject_at (subject.Node n) = subject.Node (r.nodes n)
  subject_at (subject.Expected n) = subject.Expected (r.nodes n)

  abbrev pub passing_at : Passing → Passing
  passing_at p = record { node = r.nodes p.node; all = p.all }

  abbrev pub op_at : Op → Op
  op_at (op.Item i) = op.Item (r.items i)
  op_at (op.Parameter f k) = op.Parameter (r.items f) k
  op_at (op.Result f) = op.Result (r.items f)
  op_at (op.FieldOf i x) = op.FieldOf (r.items i) x
  op_at (op.PartOf i v k) = op.PartOf (r.items i) v k
  op_at op.Same = op.Same
  op_at op.Pointee = op.Pointee
  op_at (op.Referring m) = op.Referring m
  op_at op.Tuple = op.Tuple
  op_at (op.Field x) = op.Field x
  op_at (op.Part k) = op.Part k
  op_at (op.Integer k) = op.Integer k
  op_at op.Truth = op.Truth
  op_at op.Unit = op.Unit
  op_at op.Bound = op.Bound
  op_at op.Coerced = op.Coerced

  abbrev pub test_at : Test → Test
  test_at (test.ItemBehind i) = test.ItemBehind (r.items i)
  test_at (test.Takes f n) = test.Takes (r.items f) n
  test_at (test.Holds i v n) = test.Holds (r.items i) v n
  test_at (test.HasFields i xs) = test.HasFields (r.items i) xs
  test_at (test.HasLifetimes i n) = test.HasLifetimes (r.items i) n
  test_at (test.GivesUnit f) = test.GivesUnit (r.items f)
  test_at test.Plain = test.Plain
  test_at test.IntegerBehind = test.IntegerBehind
  test_at test.TruthBehind = test.TruthBehind
  test_at (test.TupleBehind n) = test.TupleBehind n
  test_at test.Kept = test.Kept
  test_at test.KeptOrLent = test.KeptOrLent
  test_at (test.Writable own) = test.Writable own
  test_at test.Lendable = test.Lendable
  test_at test.Direct = test.Direct
  test_at test.BindingKept = test.BindingKept
  test_at test.BindingWritable = test.BindingWritable
  test_at test.BindingKeptOrLent = test.BindingKeptOrLent
  test_at test.BindingWritableOrLent = test.BindingWritableOrLent
  test_at test.Limits = test.Limits

  abbrev pub fact_at : Fact → Fact
  fact_at (fact.Equals x o xs ps) = fact.Equals (subject_at x) (op_at o) (map subject_at xs) (map passing_at ps)
  fact_at (fact.Integer n s) = fact.Integer (r.nodes n) s
  fact_at (fact.IntegerBehind n s) = fact.IntegerBehind (r.nodes n) s
  fact_at (fact.Passes t xs ps qs) = fact.Passes (test_at t) (map subject_at xs) (map passing_at ps) (map passing_at qs)
  fact_at fact.Never = fact.Never
