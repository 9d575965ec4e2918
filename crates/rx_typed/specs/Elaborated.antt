-- The typed tree of a function: from its tree with numbers and an assignment of types, one line a form.
use Rattle.std.specs.Prelude.{ℕ, suc, ℤ, pos, neg_ℤ, Bool, true, false, not, ◌&&◌, List, [], ◌∷◌, ◌++◌, Option, Some, None, slice_get}
use Rattle.rx_core.specs.declared.types.Kind.{Kind}
use Rattle.rx_core.specs.declared.types.Step.{Step}
use Rattle.rx_core.specs.declared.types.Step.TheVariants as step
use Rattle.rx_tree.specs.declared.tree.BinaryOp.{BinaryOp}
use Rattle.rx_tree.specs.declared.tree.UpdateOp.{UpdateOp}
use Rattle.rx_typed.specs.declared.nodes.Node.{Node}
use Rattle.rx_typed.specs.declared.nodes.Site.{Site}
use Rattle.rx_typed.specs.Types.{Typ, integer, boolean, reference, named, unit_shape, Declarations, VariantDeclared, fields_declared, variants_declared, field_number, copies, peeled}
use Rattle.rx_typed.specs.Named as numbered
use Rattle.rx_typed.specs.Named.{node_of, body_node, pattern_node, is_place, never, body_never, else_never, all_never}
use Rattle.rx_typed.specs.Tree as tree
use Rattle.rx_typed.specs.Tree.{Place, Constant, Mode, by_value, by_reference, Pattern, Subpatterns, Mark, Exp, Operands, Scrutinee, Arms, Body, own, under}

-- what is declared, the types of a function's nodes, and of what their places expect
pub record Assigned : Type 0 where
  pub items : Declarations
  pub typ : ℕ → Typ
  pub expected : ℕ → Typ

-- ---- places

-- the dereferences that a field step goes through (Rust Reference, "Automatic dereferencing")
abbrev pub dereferences : Typ → List Step
dereferences (reference m t) = step.Deref m ∷ dereferences t
dereferences _ = []

-- the one of `*`
abbrev pub dereference : Typ → List Step
dereference (reference m t) = step.Deref m ∷ []
dereference _ = []

abbrev pub field_in : Declarations → Typ → List ℕ → ℕ
field_in D (named i) x = field_number (fields_declared (slice_get D i)) x
field_in D _ x = 0

-- what is no place is refused by the rules of types
abbrev pub place : Assigned → numbered.Exp → Place
place T (numbered.var n x) = own x.number
place T (numbered.field n e x) = let t = T.typ (node_of e).number in under (place T e) (dereferences t ++ step.Field (field_in T.items (peeled t) x) ∷ [])
place T (numbered.part n e i) = let t = T.typ (node_of e).number in under (place T e) (dereferences t ++ step.Field i ∷ [])
place T (numbered.deref n e) = under (place T e) (dereference (T.typ (node_of e).number))
place T _ = own 0

-- ---- marks and coercions

abbrev pub type_unless : Bool → Typ → Option Typ
type_unless true t = None
type_unless false t = Some t

abbrev pub marked : ℕ → Option Typ → Mark
marked n t = record { node = n; typ = t }

-- of what has a type
abbrev pub mark : Assigned → Node → Mark
mark T n = marked n.number (Some (T.typ n.number))

abbrev pub mark_if : Assigned → Node → Bool → Mark
mark_if T n v = marked n.number (type_unless v (T.typ n.number))

abbrev pub no_mark : Node → Mark
no_mark n = marked n.number None

-- what a coercion site does to a value (Rust Reference, "Coercion types")
pub data Coercion : Type 0 where
  plain : Coercion
  -- `&mut T` becomes `&mut T` again, for a shorter time
  reborrow : Coercion
  -- `&mut T` becomes `&T`
  share : Coercion

-- the own type, the expected one
abbrev pub coercion : Typ → Typ → Coercion
coercion (reference true t) (reference true u) = reborrow
coercion (reference true t) (reference false u) = share
coercion _ _ = plain

abbrev pub coercion_in : Assigned → ℕ → Site → Coercion
coercion_in T n Site.Value = plain
coercion_in T n Site.Place = plain
coercion_in T n Site.Scrutinee = plain
coercion_in T n _ = coercion (T.typ n) (T.expected n)

abbrev pub coercion_at : Assigned → Node → Coercion
coercion_at T n = coercion_in T n.number n.site

abbrev pub as_shared : Typ → Typ
as_shared (reference m t) = reference false t
as_shared t = t

abbrev pub shared_mark : Assigned → Node → Mark
shared_mark T n = marked n.number (Some (as_shared (T.typ n.number)))

-- a place as a value
abbrev pub read_as : Assigned → Node → Coercion → Place → Exp
read_as T n plain p = tree.read (mark T n) (not (copies T.items (T.typ n.number))) p
read_as T n reborrow p = tree.borrow (mark T n) true (under p (step.Deref true ∷ []))
read_as T n share p = tree.borrow (shared_mark T n) false (under p (step.Deref true ∷ []))

abbrev pub place_value : Assigned → Node → Place → Exp
place_value T n p = read_as T n (coercion_at T n) p

-- a value that is no place
abbrev pub passed_as : Assigned → Node → Coercion → Exp → Exp
passed_as T n share e = tree.share (shared_mark T n) e
passed_as T n _ e = e

abbrev pub value_of : Assigned → Node → Exp → Exp
value_of T n e = passed_as T n (coercion_at T n) e

-- ---- patterns: the type of a pattern's node is that of what it is matched against

-- whether references were gone through so far, and if so, whether all were mutable
abbrev pub Met : Type 0
Met = Option Bool

abbrev pub meet : Bool → Met → Met
meet m None = Some m
meet m (Some k) = Some (m && k)

abbrev pub met : Typ → Met → Met
met (reference m t) r = met t (meet m r)
met _ r = r

abbrev pub mode_of : Bool → Met → Mode
mode_of copied None = by_value (not copied)
mode_of copied (Some m) = by_reference m

abbrev pub behind_all : Typ → Pattern → Pattern
behind_all (reference m t) p = tree.behind m (behind_all t p)
behind_all _ p = p

abbrev pub kind_in : Typ → Kind
kind_in (integer k) = k
kind_in _ = Kind.I32

abbrev pub with_sign : Bool → ℕ → ℤ
with_sign true v = neg_ℤ (pos v)
with_sign false v = pos v

abbrev pub is_several : List VariantDeclared → Bool
is_several [] = false
is_several (v ∷ []) = false
is_several (v ∷ w ∷ vs) = true

-- an enum of more than one variant
abbrev pub has_several : Declarations → ℕ → Bool
has_several D i = is_several (variants_declared (slice_get D i))

abbrev mutual
  pub pattern : Assigned → Met → numbered.Pattern → Pattern
  pattern T r (numbered.wild n) = tree.any
  pattern T r (numbered.bind n x m) = tree.bind n.number x (mode_of (copies T.items (T.typ n.number)) r)
  pattern T r (numbered.whole_number n g v k) = let t = T.typ n.number in behind_all t (tree.exactly n.number (tree.whole_number (kind_in (peeled t)) (with_sign g v)))
  pattern T r (numbered.truth n b) = behind_all (T.typ n.number) (tree.exactly n.number (tree.truth b))
  pattern T r (numbered.tuple_pattern n ps) = let t = T.typ n.number in behind_all t (tree.parts (subpatterns T (met t r) 0 ps))
  pattern T r (numbered.variant_pattern n i v ps) = let t = T.typ n.number in
      behind_all t (tree.variant n.number i (has_several T.items i) v (subpatterns T (met t r) 0 ps))
  pattern T r (numbered.struct_pattern n i fs) = let t = T.typ n.number in behind_all t (tree.parts (field_patterns T (met t r) i fs))

  -- the parts in order, from the number of a field on
  pub subpatterns : Assigned → Met → ℕ → numbered.Patterns → Subpatterns
  subpatterns T r k numbered.no_pattern = tree.no_part
  subpatterns T r k (numbered.pattern_and p ps) = tree.part_and k (pattern T r p) (subpatterns T r (suc k) ps)

  -- the parts by name, of a struct's item
  pub field_patterns : Assigned → Met → ℕ → numbered.FieldPatterns → Subpatterns
  field_patterns T r i numbered.no_field_pattern = tree.no_part
  field_patterns T r i (numbered.field_pattern_and x p fs) = tree.part_and (field_in T.items (named i) x) (pattern T r p) (field_patterns T r i fs)

-- the variables of a pattern from left to right
abbrev mutual
  pub variables : numbered.Pattern → List ℕ
  variables (numbered.wild n) = []
  variables (numbered.bind n x m) = x ∷ []
  variables (numbered.whole_number n g v k) = []
  variables (numbered.truth n b) = []
  variables (numbered.tuple_pattern n ps) = variables_in ps
  variables (numbered.variant_pattern n i v ps) = variables_in ps
  variables (numbered.struct_pattern n i fs) = variables_in_fields fs

  pub variables_in : numbered.Patterns → List ℕ
  variables_in numbered.no_pattern = []
  variables_in (numbered.pattern_and p ps) = variables p ++ variables_in ps

  pub variables_in_fields : numbered.FieldPatterns → List ℕ
  variables_in_fields numbered.no_field_pattern = []
  variables_in_fields (numbered.field_pattern_and x p fs) = variables p ++ variables_in_fields fs

-- ---- expressions

-- a place that is matched, or that a `let` looks into, stays one where it isn't coerced
abbrev pub matched_as : Assigned → Bool → Coercion → numbered.Exp → Exp → Scrutinee
matched_as T true plain e v = tree.at_place (mark T (node_of e)) (place T e)
matched_as T _ _ e v = tree.of_value v

abbrev pub matched : Assigned → numbered.Exp → Exp → Scrutinee
matched T e v = matched_as T (is_place e) (coercion_at T (node_of e)) e v

abbrev pub operator : UpdateOp → BinaryOp
operator UpdateOp.Add = BinaryOp.Add
operator UpdateOp.Sub = BinaryOp.Sub
operator UpdateOp.Mul = BinaryOp.Mul
operator UpdateOp.Div = BinaryOp.Div
operator UpdateOp.Rem = BinaryOp.Rem

abbrev pub one_operand : Exp → Operands
one_operand e = tree.operand_and 0 e tree.no_operand

-- `&&` and `||` evaluate the right operand or not (Rust Reference, "Lazy boolean operators")
abbrev pub operated : Assigned → Node → BinaryOp → Exp → Exp → Exp
operated T n BinaryOp.And a b = tree.lazily (mark T n) true a b
operated T n BinaryOp.Or a b = tree.lazily (mark T n) false a b
operated T n o a b = tree.build (mark T n) (tree.operation o) (tree.operand_and 0 a (tree.operand_and 1 b tree.no_operand))

abbrev pub tuple_of : Assigned → Node → Operands → Exp
tuple_of T n tree.no_operand = tree.unit (mark T n)
tuple_of T n es = tree.build (mark T n) tree.tuple es

-- two ways: a test that holds or fails
abbrev pub tests : Node → Exp → Mark → Exp → Exp → Exp
tests n c m a b = tree.choose m (tree.of_value c) (tree.arm_and (tree.exactly n.number (tree.truth true)) a (tree.arm_and tree.any b tree.no_arm))

abbrev pub looks : Mark → Scrutinee → Pattern → Exp → Exp → Exp
looks m s p a b = tree.choose m s (tree.arm_and p a (tree.arm_and tree.any b tree.no_arm))

-- the way out of a loop, at the loop's own node
abbrev pub leaves : Node → ℕ → Exp
leaves n l = tree.jump (no_mark n) l false

abbrev mutual
  pub value : Assigned → numbered.Exp → Exp
  value T (numbered.int n m v k) = tree.build (mark T n) (tree.constant (tree.whole_number (kind_in (T.typ n.number)) (pos v))) tree.no_operand
  value T (numbered.bool n b) = tree.build (mark T n) (tree.constant (tree.truth b)) tree.no_operand
  value T (numbered.tuple n es) = tuple_of T n (operands T 0 es)
  value T (numbered.var n x) = place_value T n (place T (numbered.var n x))
  value T (numbered.field n e x) = place_value T n (place T (numbered.field n e x))
  value T (numbered.part n e i) = place_value T n (place T (numbered.part n e i))
  value T (numbered.deref n e) = place_value T n (place T (numbered.deref n e))
  value T (numbered.negate n e) = tree.build (mark T n) tree.negation (one_operand (value T e))
  value T (numbered.invert n e) = tree.build (mark T n) tree.inversion (one_operand (value T e))
  value T (numbered.borrow n m e) = value_of T n (tree.borrow (mark T n) m (place T e))
  value T (numbered.binary n o a b) = operated T n o (value T a) (value T b)
  value T (numbered.assign n p e) = tree.assign (mark T n) (place T p) (value T e)
  value T (numbered.gives n p x d e) = tree.assign (mark T n) (own x.number) (value T e)
  value T (numbered.update n o p e) = tree.update (mark T n) (operator o) (place T p) (value T e)
  value T (numbered.call n f es) = value_of T n (tree.call (mark T n) f (operands T 0 es))
  -- refused by the rules of types
  value T (numbered.hidden_call n es) = tree.unit (no_mark n)
  value T (numbered.next_input n) = tree.input (mark T n)
  value T (numbered.variant n i v es) = tree.build (mark T n) (tree.variant_of i v) (operands T 0 es)
  value T (numbered.make n i fs) = tree.build (mark T n) (tree.struct i) (fields T i fs)
  value T (numbered.print n e) = tree.print (mark T n) (value T e)
  value T (numbered.block n b) = body T b
  value T (numbered.if n c b o) = tests n (value T c) (mark_if T n (body_never b && else_never o)) (body T b) (otherwise T n o)
  value T (numbered.if_let n p e b o) = looks (mark_if T n (body_never b && else_never o)) (matched T e (value T e)) (pattern T None p) (body T b) (otherwise T n o)
  value T (numbered.match n e l) = tree.choose (mark_if T n (all_never l)) (matched T e (value T e)) (arms T l)
  value T (numbered.loop n l k b) = tree.loop (mark_if T n (not k)) l (body T b)
  value T (numbered.while n l c b) = tree.loop (mark T n) l (tests n (value T c) (mark_if T (body_node b) (body_never b)) (body T b) (leaves n l))
  value T (numbered.while_let n l p e b) = tree.loop (mark T n) l
      (looks (mark_if T (body_node b) (body_never b)) (matched T e (value T e)) (pattern T None p) (body T b) (leaves n l))
  value T (numbered.break n l) = tree.jump (no_mark n) l false
  value T (numbered.continue n l) = tree.jump (no_mark n) l true
  value T (numbered.return n o) = tree.give (no_mark n) (returned T n o)

  -- operands in order, from the number of a field on
  pub operands : Assigned → ℕ → numbered.Exps → Operands
  operands T k numbered.no_exp = tree.no_operand
  operands T k (numbered.exp_and e es) = tree.operand_and k (value T e) (operands T (suc k) es)

  -- the fields of a struct literal of an item
  pub fields : Assigned → ℕ → numbered.Fields → Operands
  fields T i numbered.no_field = tree.no_operand
  fields T i (numbered.field_and x e fs) = tree.operand_and (field_in T.items (named i) x) (value T e) (fields T i fs)

  -- what follows `else`: where nothing does, the unit of the node
  pub otherwise : Assigned → Node → numbered.Else → Exp
  otherwise T n numbered.absent = tree.unit (mark T n)
  otherwise T n (numbered.present e) = value T e

  -- the value of a `return`, or the unit
  pub returned : Assigned → Node → numbered.Else → Exp
  returned T n numbered.absent = tree.unit (marked n.number (Some unit_shape))
  returned T n (numbered.present e) = value T e

  pub arms : Assigned → numbered.Arms → Arms
  arms T numbered.no_arm = tree.no_arm
  arms T (numbered.arm_and p e l) = tree.arm_and (pattern T None p) (value T e) (arms T l)

  pub body : Assigned → numbered.Body → Exp
  body T (numbered.body n ss o) = tree.block (mark_if T n (body_never (numbered.body n ss o))) (nested T ss (tail T n o))

  -- the tail, or the unit
  pub tail : Assigned → Node → numbered.Else → Exp
  tail T n numbered.absent = tree.unit (marked n.number (Some unit_shape))
  tail T n (numbered.present e) = value T e

  -- the statements, each round the rest of the block
  pub nested : Assigned → numbered.Statements → Exp → Body
  nested T numbered.no_statement last = tree.ends last
  nested T (numbered.statement_and a ss) last = statement T a (nested T ss last)

  pub statement : Assigned → numbered.Statement → Body → Body
  statement T (numbered.declares n p t) rest = tree.declares n.number (variables p) rest
  statement T (numbered.lets n p t e) rest = tree.lets n.number (pattern T None p) (matched T e (value T e)) rest
  statement T (numbered.evaluates n e s) rest = tree.runs (value T e) rest

-- ---- functions

-- a body's end gives the tail
abbrev pub function_body : Assigned → numbered.Body → Exp
function_body T (numbered.body n ss o) = tree.block (mark_if T n (body_never (numbered.body n ss o))) (nested T ss (tree.give (no_mark n) (tail T n o)))

abbrev pub parameters : List numbered.Parameter → List tree.Parameter
parameters [] = []
parameters (x ∷ xs) = record { node = (numbered.written_node x.typ).number; variable = x.variable } ∷ parameters xs

abbrev pub elaborated : Assigned → numbered.Function → tree.Function
elaborated T f = record { params = parameters f.params; body = function_body T f.body }
