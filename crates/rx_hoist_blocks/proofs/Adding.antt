-- What is asked is added behind what was asked before.
use Rattle.std.proofs.Common.{◌≡◌, ℕ, suc, Bool, true, false, not, ◌&&◌, List, [], ◌∷◌, ◌++◌, Option, Some, None, refl, sym, ap, ◌∙◌, append_assoc, append-nil}
use Rattle.rx_core.specs.declared.types.Kind.{Kind}
use Rattle.rx_tree.specs.declared.tree.BinaryOp.{BinaryOp}
use Rattle.rx_typed.specs.declared.nodes.Node.{Node}
use Rattle.rx_typed.specs.declared.nodes.Site.{Site}
use Rattle.rx_typed.specs.declared.nodes.Use.{Use}
use Rattle.rx_typed.specs.Named as named
use Rattle.rx_typed.specs.Named.{Written, WrittenTypes, Pattern, Patterns, FieldPatterns, Exp, Exps, Else, Fields, Arms, Body, Statement, Statements, Parameter, written_node, pattern_node, whole_binding, node_of, body_node, is_variable, root, never, body_never, else_never, some_diverges}
use Rattle.rx_typeck_solver.specs.declared.facts.Broken.{Broken}
use Rattle.rx_typeck_solver.specs.declared.facts.Rule.{Rule}
use Rattle.rx_typeck_solver.specs.declared.facts.Broken.TheVariants as broken
use Rattle.rx_typeck_solver.specs.declared.facts.Subject.{Subject}
use Rattle.rx_typeck_solver.specs.declared.facts.Subject.TheVariants as subject
use Rattle.rx_typeck_solver.specs.declared.facts.Op.{Op}
use Rattle.rx_typeck_solver.specs.declared.facts.Op.TheVariants as op
use Rattle.rx_typeck_solver.specs.declared.facts.Test.TheVariants as test
use Rattle.rx_typeck_solver.specs.declared.facts.Passing.{Passing}
use Rattle.rx_typeck_solver.specs.declared.facts.Fact.{Fact}
use Rattle.rx_typeck_solver.specs.declared.facts.Fact.TheVariants as fact
use Rattle.rx_typeck_solver.specs.declared.facts.Demand.{Demand}
use Rattle.rx_typeck_typed.specs.Asking.{Asking, ◌>>◌, nothing, asks, ask, when, passes, fitting, is_open}
use Rattle.rx_typeck_typed.specs.Demands as rules

abbrev pub Longer : List Demand → List Demand → Type 0
Longer ds ds' = (es : List Demand) × (ds' ≡ ds ++ es)

abbrev pub Adds : Asking → Type 0
Adds f = (ds : List Demand) → Longer ds (f ds)

pub longer_same : (ds : List Demand) → Longer ds ds
longer_same ds = ([], sym (append-nil ds))

pub longer_then : (a b c : List Demand) → Longer a b → Longer b c → Longer a c
longer_then a b c x y = (x.0 ++ y.0, y.1 ∙ ap (λ (l : List Demand). l ++ y.0) x.1 ∙ append_assoc a x.0 y.0)

pub nothing_adds : Adds nothing
nothing_adds ds = longer_same ds

pub then_adds : (f g : Asking) → Adds f → Adds g → Adds (f >> g)
then_adds f g a b ds = longer_then ds (f ds) (g (f ds)) (a ds) (b (f ds))

pub asks_add : (n : Node) (b : Broken) (o : Bool) (fs : List Fact) → Adds (asks n b o fs)
asks_add n b o fs ds = (_, refl)

pub when_adds : (b : Bool) (f : Asking) → Adds f → Adds (when b f)
when_adds true f a = a
when_adds false f a = nothing_adds

-- ---- types

pub lifetimes_add : (n : Node) (i : ℕ) (l : Option ℕ) → Adds (rules.lifetimes_asked n i l)
lifetimes_add n i None = nothing_adds
lifetimes_add n i (Some k) = asks_add n _ _ _

mutual
  pub type_adds : (t : Written) → Adds (rules.of_type t)
  type_adds (named.a_kind n k) = asks_add n _ _ _
  type_adds (named.a_bool n) = asks_add n _ _ _
  type_adds (named.a_tuple n ts) = then_adds _ _ (types_add ts) (asks_add n _ _ _)
  type_adds (named.a_reference n m t) = then_adds _ _ (type_adds t) (asks_add n _ _ _)
  type_adds (named.an_item n i ls) = then_adds _ _ (lifetimes_add n i ls) (asks_add n _ _ _)

  pub types_add : (ts : WrittenTypes) → Adds (rules.of_types ts)
  types_add named.no_written = nothing_adds
  types_add (named.written_and t ts) = then_adds _ _ (type_adds t) (types_add ts)

pub whole_type_adds : (t : Written) → Adds (rules.whole_type t)
whole_type_adds t = then_adds _ _ (type_adds t) (asks_add (written_node t) _ _ _)

-- ---- places and sites

pub place_adds : (n : Node) (x : ℕ) (ps : List Passing) (t : Site) → Adds (rules.place_in n x ps t)
place_adds n x ps Site.Value = asks_add n _ _ _
place_adds n x ps Site.Place = nothing_adds
place_adds n x ps Site.Scrutinee = nothing_adds
place_adds n x ps Site.Expects = then_adds _ _ (asks_add n _ _ _) (then_adds _ _ (asks_add n _ _ _) (asks_add n _ _ _))
place_adds n x ps Site.Initialises = then_adds _ _ (asks_add n _ _ _) (asks_add n _ _ _)
place_adds n x ps Site.Reborrows = then_adds _ _ (asks_add n _ _ _) (then_adds _ _ (asks_add n _ _ _) (asks_add n _ _ _))

pub value_adds : (n : Node) (t : Site) → Adds (rules.value_in n t)
value_adds n Site.Place = asks_add n _ _ _
value_adds n Site.Expects = asks_add n _ _ _
value_adds n Site.Initialises = asks_add n _ _ _
value_adds n Site.Reborrows = asks_add n _ _ _
value_adds n Site.Value = nothing_adds
value_adds n Site.Scrutinee = nothing_adds

pub never_adds : (n : Node) (t : Site) → Adds (rules.never_in n t)
never_adds n Site.Place = asks_add n _ _ _
never_adds n Site.Value = nothing_adds
never_adds n Site.Scrutinee = nothing_adds
never_adds n Site.Expects = nothing_adds
never_adds n Site.Initialises = nothing_adds
never_adds n Site.Reborrows = nothing_adds

pub assignable_adds : (n : Node) (w : Bool) (x : Use) (ps : List Passing) → Adds (rules.assignable_at n w x ps)
assignable_adds n w x ps = when_adds (not w) _ (asks_add n _ _ _)

-- behind the type of a borrow
pub behind_borrowed : (n : Node) (m : Bool) (x : Use) (ps : List Passing) → Adds (rules.limits n >> when m (rules.writable n x.mutable x.number ps) >> rules.value_at n)
behind_borrowed n m x ps = then_adds _ _ (asks_add n _ _ _) (then_adds _ _ (when_adds m _ (asks_add n _ _ _)) (value_adds n n.site))

pub borrowed_adds : (n : Node) (m : Bool) (e : Node) (x : Use) (ps : List Passing) → Adds (rules.borrowed n m e x ps)
borrowed_adds n m e x ps = then_adds _ _ (asks_add n _ _ _) (behind_borrowed n m x ps)

-- ---- patterns

pub binding_adds : (n : Node) (anc : List Passing) (s : rules.Matched) → Adds (rules.binding_of n anc s)
binding_adds n anc rules.a_value = nothing_adds
binding_adds n anc (rules.a_place x qs) = then_adds _ _ (asks_add n _ _ _) (asks_add n _ _ _)
binding_adds n anc (rules.an_initialiser e x qs) = then_adds _ _ (asks_add n _ _ _) (asks_add n _ _ _)

-- behind the type of the variable
pub behind_bound : (s : rules.Matched) (anc : List Passing) (n : Node) (x : ℕ) (m : Bool) → Adds (ask n Rule.Parts (passes test.Limits (subject.Variable x ∷ []) ∷ []) >> rules.direct n m anc >> rules.binding_of n anc s)
behind_bound s anc n x m = then_adds _ _ (asks_add n _ _ _) (then_adds _ _ (when_adds m _ (asks_add n _ _ _)) (binding_adds n anc s))

pub bound_adds : (s : rules.Matched) (anc : List Passing) (n : Node) (x : ℕ) (m : Bool) → Adds (rules.bound_at s anc n x m)
bound_adds s anc n x m = then_adds _ _ (asks_add n _ _ _) (behind_bound s anc n x m)

pub literal_adds : (n : Node) (g : Bool) (v : ℕ) (k : Option Kind) → Adds (rules.literal_at n g v k)
literal_adds n g v k = then_adds _ _ (asks_add n _ _ _) (then_adds _ _ (when_adds g _ (asks_add n _ _ _)) (then_adds _ _ (asks_add n _ _ _) (asks_add n _ _ _)))

mutual
  pub pattern_adds : (s : rules.Matched) (anc : List Passing) (p : Pattern) → Adds (rules.of_pattern s anc p)
  pattern_adds s anc (named.wild n) = nothing_adds
  pattern_adds s anc (named.bind n x m) = bound_adds s anc n x m
  pattern_adds s anc (named.whole_number n g v k) = literal_adds n g v k
  pattern_adds s anc (named.truth n b) = asks_add n _ _ _
  pattern_adds s anc (named.tuple_pattern n ps) = then_adds _ _ (asks_add n _ _ _) (parts_add s _ n 0 ps)
  pattern_adds s anc (named.variant_pattern n i v ps) = then_adds _ _ (asks_add n _ _ _) (then_adds _ _ (asks_add n _ _ _) (variant_parts_add s _ i v 0 ps))
  pattern_adds s anc (named.struct_pattern n i fs) = then_adds _ _ (asks_add n _ _ _) (then_adds _ _ (asks_add n _ _ _) (field_patterns_add s _ i fs))

  pub parts_add : (s : rules.Matched) (anc : List Passing) (n : Node) (k : ℕ) (ps : Patterns) → Adds (rules.of_parts s anc n k ps)
  parts_add s anc n k named.no_pattern = nothing_adds
  parts_add s anc n k (named.pattern_and p ps) = then_adds _ _ (asks_add (pattern_node p) _ _ _) (then_adds _ _ (pattern_adds s anc p) (parts_add s anc n (suc k) ps))

  pub variant_parts_add : (s : rules.Matched) (anc : List Passing) (i v k : ℕ) (ps : Patterns) → Adds (rules.of_variant_parts s anc i v k ps)
  variant_parts_add s anc i v k named.no_pattern = nothing_adds
  variant_parts_add s anc i v k (named.pattern_and p ps) = then_adds _ _ (asks_add (pattern_node p) _ _ _) (then_adds _ _ (pattern_adds s anc p) (variant_parts_add s anc i v (suc k) ps))

  pub field_patterns_add : (s : rules.Matched) (anc : List Passing) (i : ℕ) (fs : FieldPatterns) → Adds (rules.of_field_patterns s anc i fs)
  field_patterns_add s anc i named.no_field_pattern = nothing_adds
  field_patterns_add s anc i (named.field_pattern_and x p fs) = then_adds _ _ (asks_add (pattern_node p) _ _ _) (then_adds _ _ (pattern_adds s anc p) (field_patterns_add s anc i fs))

pub whole_adds : (s : rules.Matched) (x : Subject) (p : Pattern) → Adds (rules.whole_pattern s x p)
whole_adds s x p = then_adds _ _ (asks_add (pattern_node p) _ _ _) (pattern_adds s [] p)

-- ---- pieces of expressions

pub part_adds : (n : Node) (v : Bool) (m : Node) → Adds (rules.as_part n v m)
part_adds n v m = when_adds (not v) _ (asks_add n _ _ _)

pub joins_add : (n : Node) (t : Site) → Adds (rules.joins n t)
joins_add n Site.Value = nothing_adds
joins_add n Site.Place = asks_add n _ _ _
joins_add n Site.Scrutinee = nothing_adds
joins_add n Site.Reborrows = asks_add n _ _ _
joins_add n Site.Expects = asks_add n _ _ _
joins_add n Site.Initialises = asks_add n _ _ _

pub join_adds : (n : Node) (v : Bool) → Adds (rules.join n v)
join_adds n true = never_adds n n.site
join_adds n false = joins_add n n.site

pub before_adds : (n : Node) (t : Site) (m : Node) → Adds (rules.part_before n t m)
before_adds n Site.Expects m = asks_add m _ _ _
before_adds n Site.Initialises m = asks_add m _ _ _
before_adds n Site.Value m = nothing_adds
before_adds n Site.Place m = nothing_adds
before_adds n Site.Scrutinee m = nothing_adds
before_adds n Site.Reborrows m = nothing_adds

pub after_adds : (n : Node) (t : Site) (v : Bool) (m : Node) → Adds (rules.part_after n t v m)
after_adds n Site.Expects v m = nothing_adds
after_adds n Site.Initialises v m = nothing_adds
after_adds n Site.Value v m = part_adds n v m
after_adds n Site.Place v m = part_adds n v m
after_adds n Site.Scrutinee v m = part_adds n v m
after_adds n Site.Reborrows v m = part_adds n v m

pub tested_adds : (n : Node) (v : Bool) → Adds (rules.tested n v)
tested_adds n v = when_adds (not v) _ (asks_add n _ _ _)

pub printed_adds : (n : Node) (v : Bool) → Adds (rules.printed n v)
printed_adds n v = when_adds (not v) _ (asks_add n _ _ _)

pub unit_adds : (n : Node) (v : Bool) → Adds (rules.nothing_given n v)
unit_adds n v = when_adds (not v) _ (asks_add n _ _ _)

pub not_never_adds : (n : Node) (v : Bool) → Adds (rules.not_never n v)
not_never_adds n v = when_adds v _ (asks_add n _ _ _)

pub own_adds : (n : Node) (o : Op) (xs : List Subject) → Adds (rules.own n o xs)
own_adds n o xs = then_adds _ _ (asks_add n _ _ _) (value_adds n n.site)

pub operation_adds : (o : BinaryOp) (n a : Node) (x : Bool) (b : Node) (y : Bool) → Adds (rules.operation o n a x b y)
operation_adds BinaryOp.Or n a x b y = then_adds _ _ (asks_add n _ _ _) (own_adds n _ _)
operation_adds BinaryOp.And n a x b y = then_adds _ _ (asks_add n _ _ _) (own_adds n _ _)
operation_adds BinaryOp.Eq n a x b y = then_adds _ _ (asks_add n _ _ _) (own_adds n _ _)
operation_adds BinaryOp.Ne n a x b y = then_adds _ _ (asks_add n _ _ _) (own_adds n _ _)
operation_adds BinaryOp.Lt n a x b y = then_adds _ _ (asks_add n _ _ _) (own_adds n _ _)
operation_adds BinaryOp.Le n a x b y = then_adds _ _ (asks_add n _ _ _) (own_adds n _ _)
operation_adds BinaryOp.Gt n a x b y = then_adds _ _ (asks_add n _ _ _) (own_adds n _ _)
operation_adds BinaryOp.Ge n a x b y = then_adds _ _ (asks_add n _ _ _) (own_adds n _ _)
operation_adds _ n a x b y = then_adds _ _ (asks_add n _ _ _) (value_adds n n.site)

pub named_adds : (n : Node) (x : Use) (k : Bool) → Adds (rules.named_at n x k)
named_adds n x true = asks_add n _ _ _
named_adds n x false = asks_add n _ _ _

pub fits_given_adds : (x : ℕ) (e : Node) (v : Bool) → Adds (rules.fits_given x e v)
fits_given_adds x e true = nothing_adds
fits_given_adds x e false = asks_add e _ _ _

pub given_adds : (n p : Node) (x : Use) (d : Option ℕ) (e : Node) (v : Bool) → Adds (rules.given n p x d e v)
given_adds n p x (Some d) e v = then_adds _ _ (not_never_adds e v) (then_adds _ _ (asks_add n _ _ _) (asks_add p _ _ _))
given_adds n p x None e v = then_adds _ _ (named_adds p x x.known) (fits_given_adds x.number e v)

pub returns_add : (f : ℕ) (n : Node) (o : Else) → Adds (rules.returns_unit f n o)
returns_add f n named.absent = asks_add n _ _ _
returns_add f n (named.present e) = asks_add (node_of e) _ _ _

pub branch_before_adds : (n : Node) (o : Else) (b : Body) → Adds (rules.branch_before n o b)
branch_before_adds n named.absent b = nothing_adds
branch_before_adds n (named.present e) b = before_adds n n.site (body_node b)

pub branch_after_adds : (n : Node) (o : Else) (b : Body) → Adds (rules.branch_after n o b)
branch_after_adds n named.absent b = then_adds _ _ (unit_adds (body_node b) (body_never b)) (own_adds n _ _)
branch_after_adds n (named.present e) b = after_adds n n.site (body_never b) (body_node b)

pub if_joins_add : (n : Node) (o : Else) (v : Bool) → Adds (rules.if_joins n o v)
if_joins_add n named.absent v = nothing_adds
if_joins_add n (named.present e) v = join_adds n v

pub one_variable_adds : (n : Node) (o : Option ℕ) → Adds (rules.one_variable_at n o)
one_variable_adds n (Some x) = nothing_adds
one_variable_adds n None = asks_add n _ _ _

pub declared_adds : (p : Pattern) (t : Option Written) → Adds (rules.declared p t)
declared_adds p None = one_variable_adds (pattern_node p) (whole_binding p)
declared_adds p (Some t) = then_adds _ _ (whole_type_adds t) (whole_adds rules.a_value _ p)

pub typed_before_adds : (t : Option Written) (e : Exp) → Adds (rules.typed_before t e)
typed_before_adds None e = nothing_adds
typed_before_adds (Some t) e = then_adds _ _ (whole_type_adds t) (asks_add (node_of e) _ _ _)

pub initialised_by_adds : (v : Bool) (p : Pattern) (s : rules.Matched) (n : Node) → Adds (rules.initialised_by v p s n)
initialised_by_adds true p s n = one_variable_adds (pattern_node p) (whole_binding p)
initialised_by_adds false p s n = whole_adds s _ p

pub initialised_adds : (p : Pattern) (t : Option Written) (e : Exp) → Adds (rules.initialised p t e)
initialised_adds p None e = initialised_by_adds (never e) p (rules.matched e) (node_of e)
initialised_adds p (Some t) e = whole_adds (rules.matched e) _ p

pub evaluated_adds : (s : Bool) (n : Node) (v : Bool) → Adds (rules.evaluated s n v)
evaluated_adds true n v = nothing_adds
evaluated_adds false n v = unit_adds n v

pub tail_before_adds : (n : Node) (o : Else) → Adds (rules.tail_before n o)
tail_before_adds n named.absent = nothing_adds
tail_before_adds n (named.present e) = before_adds n n.site (node_of e)

pub tail_after_adds : (n : Node) (d : Bool) (o : Else) → Adds (rules.tail_after n d o)
tail_after_adds n d named.absent = unit_adds n d
tail_after_adds n d (named.present e) = after_adds n n.site (never e) (node_of e)

pub loop_adds : (n : Node) (k : Bool) → Adds (rules.loop_given n k)
loop_adds n true = own_adds n _ _
loop_adds n false = never_adds n n.site

pub each_before_adds : (w : rules.Listed) (k : ℕ) (n : Node) → Adds (rules.each_before w k n)
each_before_adds rules.members k n = nothing_adds
each_before_adds rules.values k n = nothing_adds
each_before_adds (rules.parameters g) k n = asks_add n _ _ _
each_before_adds (rules.parts_of i v) k n = asks_add n _ _ _

pub each_after_adds : (w : rules.Listed) (e : Exp) → Adds (rules.each_after w e)
each_after_adds rules.members e = not_never_adds (node_of e) (never e)
each_after_adds rules.values e = nothing_adds
each_after_adds (rules.parameters g) e = nothing_adds
each_after_adds (rules.parts_of i v) e = nothing_adds

-- behind the type of the literal
pub behind_integer : (n : Node) (m : Bool) (v : ℕ) (k : Option Kind) → Adds (rules.value_at n >> asks n broken.Literal (is_open k) (fact.Integer n.number (fitting m v) ∷ []))
behind_integer n m v k = then_adds _ _ (value_adds n n.site) (asks_add n _ _ _)

pub integer_adds : (n : Node) (m : Bool) (v : ℕ) (k : Option Kind) → Adds (rules.integer_at n m v k)
integer_adds n m v k = then_adds _ _ (asks_add n _ _ _) (behind_integer n m v k)

-- ---- what is asked behind the parts of an expression

pub tuple_behind : (n : Node) (xs : List Subject) → Adds (rules.own n op.Tuple xs >> rules.limits n)
tuple_behind n xs = then_adds _ _ (own_adds n _ _) (asks_add n _ _ _)

pub step_behind : (n : Node) (o : Op) (e : Node) (x : ℕ) (ps : List Passing) (t : Site) → Adds (rules.step_at n o e >> rules.place_in n x ps t)
step_behind n o e x ps t = then_adds _ _ (asks_add n _ _ _) (place_adds n x ps t)

pub negated_adds : (n a : Node) (x : Bool) → Adds (rules.negated n a x)
negated_adds n a x = then_adds _ _ (asks_add n _ _ _) (value_adds n n.site)

pub inverted_adds : (n a : Node) (x : Bool) → Adds (rules.inverted n a x)
inverted_adds n a x = then_adds _ _ (asks_add n _ _ _) (own_adds n _ _)

pub assign_behind : (n : Node) (w : Bool) (x : Use) (ps : List Passing) → Adds (rules.assignable_at n w x ps >> rules.own n op.Unit [])
assign_behind n w x ps = then_adds _ _ (assignable_adds n w x ps) (own_adds n _ _)

pub update_behind : (n a : Node) (x : Bool) (b : Node) (y w : Bool) (u : Use) (ps : List Passing) → Adds (rules.updated n a x b y >> rules.assignable_at n w u ps >> rules.own n op.Unit [])
update_behind n a x b y w u ps = then_adds _ _ (asks_add n _ _ _) (assign_behind n w u ps)

pub print_behind : (n e : Node) (v : Bool) → Adds (rules.printed e v >> rules.own n op.Unit [])
print_behind n e v = then_adds _ _ (printed_adds e v) (own_adds n _ _)

pub block_behind : (n : Node) (t : Site) (v : Bool) (m : Node) → Adds (rules.part_after n t v m >> rules.join n v)
block_behind n t v m = then_adds _ _ (after_adds n t v m) (join_adds n v)

pub branch_in_front : (n : Node) (e : Node) (v : Bool) (o : Else) (b : Body) → Adds (rules.tested e v >> rules.branch_before n o b)
branch_in_front n e v o b = then_adds _ _ (tested_adds e v) (branch_before_adds n o b)

pub scope_behind : (n : Node) (v : Bool) (s : rules.Matched) (x : Subject) (p : Pattern) → Adds (rules.not_never n v >> rules.whole_pattern s x p)
scope_behind n v s x p = then_adds _ _ (not_never_adds n v) (whole_adds s x p)

pub loop_behind : (n m : Node) (v k : Bool) → Adds (rules.nothing_given m v >> rules.loop_given n k)
loop_behind n m v k = then_adds _ _ (unit_adds m v) (loop_adds n k)

pub while_behind : (n m : Node) (v : Bool) → Adds (rules.nothing_given m v >> rules.own n op.Unit [])
while_behind n m v = then_adds _ _ (unit_adds m v) (own_adds n _ _)

pub tail_behind : (n : Node) (d : Bool) (o : Else) (v : Bool) → Adds (rules.tail_after n d o >> rules.join n v)
tail_behind n d o v = then_adds _ _ (tail_after_adds n d o) (join_adds n v)

-- ---- expressions

-- the branches of an `if`
branches_add : (f : ℕ) (n : Node) (b : Body) (o : Else) → Adds (rules.of_body f b) → Adds (rules.of_else f n o) → Adds (rules.of_branches f n (b, o))
branches_add f n b o x y = then_adds _ _ (branch_before_adds n o b) (then_adds _ _ x (then_adds _ _ (branch_after_adds n o b)
    (then_adds _ _ y (if_joins_add n o (body_never b && else_never o)))))

mutual
  pub exp_adds : (f : ℕ) (e : Exp) → Adds (rules.of_exp f e)
  exp_adds f (named.int n m v k) = integer_adds n m v k
  exp_adds f (named.bool n b) = own_adds n _ _
  exp_adds f (named.tuple n es) = then_adds _ _ (each_adds f rules.members 0 es) (then_adds _ _ (own_adds n _ _) (asks_add n _ _ _))
  exp_adds f (named.var n x) = then_adds _ _ (named_adds n x x.known) (place_adds n _ _ n.site)
  exp_adds f (named.field n e x) = then_adds _ _ (exp_adds f e) (then_adds _ _ (asks_add n _ _ _) (place_adds n _ _ n.site))
  exp_adds f (named.part n e i) = then_adds _ _ (exp_adds f e) (then_adds _ _ (asks_add n _ _ _) (place_adds n _ _ n.site))
  exp_adds f (named.deref n e) = then_adds _ _ (exp_adds f e) (then_adds _ _ (asks_add n _ _ _) (place_adds n _ _ n.site))
  exp_adds f (named.negate n e) = then_adds _ _ (exp_adds f e) (then_adds _ _ (asks_add n _ _ _) (value_adds n n.site))
  exp_adds f (named.invert n e) = then_adds _ _ (exp_adds f e) (then_adds _ _ (asks_add n _ _ _) (own_adds n _ _))
  exp_adds f (named.borrow n m e) = then_adds _ _ (exp_adds f e) (borrowed_adds n m (node_of e) (root e) _)
  exp_adds f (named.binary n o a b) = then_adds _ _ (exp_adds f a) (then_adds _ _ (exp_adds f b) (operation_adds o n _ _ _ _))
  exp_adds f (named.assign n p e) = then_adds _ _ (exp_adds f p) (then_adds _ _ (asks_add (node_of e) _ _ _)
      (then_adds _ _ (exp_adds f e) (then_adds _ _ (assignable_adds n (is_variable p) (root p) _) (own_adds n _ _))))
  exp_adds f (named.gives n p x d e) = then_adds _ _ (exp_adds f e) (then_adds _ _ (given_adds n p x d (node_of e) (never e)) (own_adds n _ _))
  exp_adds f (named.update n o p e) = then_adds _ _ (exp_adds f p) (then_adds _ _ (exp_adds f e)
      (then_adds _ _ (asks_add n _ _ _) (then_adds _ _ (assignable_adds n (is_variable p) (root p) _) (own_adds n _ _))))
  exp_adds f (named.call n g es) = then_adds _ _ (asks_add n _ _ _) (then_adds _ _ (each_adds f (rules.parameters g) 0 es) (own_adds n _ _))
  exp_adds f (named.hidden_call n es) = then_adds _ _ (asks_add n _ _ _) (each_adds f rules.values 0 es)
  exp_adds f (named.next_input n) = own_adds n _ _
  exp_adds f (named.variant n i v es) = then_adds _ _ (asks_add n _ _ _) (then_adds _ _ (each_adds f (rules.parts_of i v) 0 es) (own_adds n _ _))
  exp_adds f (named.make n i fs) = then_adds _ _ (asks_add n _ _ _) (then_adds _ _ (fields_add f i fs) (own_adds n _ _))
  exp_adds f (named.print n e) = then_adds _ _ (exp_adds f e) (then_adds _ _ (printed_adds (node_of e) (never e)) (own_adds n _ _))
  exp_adds f (named.block n b) = then_adds _ _ (before_adds n n.site (body_node b)) (then_adds _ _ (body_adds f b)
      (then_adds _ _ (after_adds n n.site (body_never b) (body_node b)) (join_adds n (body_never b))))
  exp_adds f (named.if n c b o) = then_adds _ _ (exp_adds f c) (then_adds _ _ (tested_adds (node_of c) (never c)) (branches_add f n b o (body_adds f b) (else_adds f n o)))
  exp_adds f (named.if_let n p e b o) = then_adds _ _ (exp_adds f e) (then_adds _ _ (not_never_adds (node_of e) (never e))
      (then_adds _ _ (whole_adds (rules.matched e) _ p) (branches_add f n b o (body_adds f b) (else_adds f n o))))
  exp_adds f (named.match n e l) = then_adds _ _ (exp_adds f e) (then_adds _ _ (not_never_adds (node_of e) (never e))
      (then_adds _ _ (arms_add f n (rules.matched e) (node_of e) l) (join_adds n (named.all_never l))))
  exp_adds f (named.loop n l k b) = then_adds _ _ (body_adds f b) (then_adds _ _ (unit_adds (body_node b) (body_never b)) (loop_adds n k))
  exp_adds f (named.while n l c b) = then_adds _ _ (exp_adds f c) (then_adds _ _ (tested_adds (node_of c) (never c))
      (then_adds _ _ (body_adds f b) (then_adds _ _ (unit_adds (body_node b) (body_never b)) (own_adds n _ _))))
  exp_adds f (named.while_let n l p e b) = then_adds _ _ (exp_adds f e) (then_adds _ _ (not_never_adds (node_of e) (never e))
      (then_adds _ _ (whole_adds (rules.matched e) _ p) (then_adds _ _ (body_adds f b) (then_adds _ _ (unit_adds (body_node b) (body_never b)) (own_adds n _ _)))))
  exp_adds f (named.break n l) = never_adds n n.site
  exp_adds f (named.continue n l) = never_adds n n.site
  exp_adds f (named.return n o) = then_adds _ _ (returns_add f n o) (then_adds _ _ (returned_adds f o) (never_adds n n.site))

  pub each_adds : (f : ℕ) (w : rules.Listed) (k : ℕ) (es : Exps) → Adds (rules.of_each f w k es)
  each_adds f w k named.no_exp = nothing_adds
  each_adds f w k (named.exp_and e es) = then_adds _ _ (each_before_adds w k (node_of e)) (then_adds _ _ (exp_adds f e) (then_adds _ _ (each_after_adds w e) (each_adds f w (suc k) es)))

  pub fields_add : (f i : ℕ) (fs : Fields) → Adds (rules.of_fields f i fs)
  fields_add f i named.no_field = nothing_adds
  fields_add f i (named.field_and x e fs) = then_adds _ _ (asks_add (node_of e) _ _ _) (then_adds _ _ (exp_adds f e) (fields_add f i fs))

  pub else_adds : (f : ℕ) (n : Node) (o : Else) → Adds (rules.of_else f n o)
  else_adds f n named.absent = nothing_adds
  else_adds f n (named.present e) = then_adds _ _ (before_adds n n.site (node_of e)) (then_adds _ _ (exp_adds f e) (after_adds n n.site (never e) (node_of e)))

  pub returned_adds : (f : ℕ) (o : Else) → Adds (rules.of_returned f o)
  returned_adds f named.absent = nothing_adds
  returned_adds f (named.present e) = exp_adds f e

  pub arms_add : (f : ℕ) (n : Node) (s : rules.Matched) (m : Node) (l : Arms) → Adds (rules.of_arms f n s m l)
  arms_add f n s m named.no_arm = nothing_adds
  arms_add f n s m (named.arm_and p e l) = then_adds _ _ (whole_adds s _ p) (then_adds _ _ (before_adds n n.site (node_of e)) (then_adds _ _ (exp_adds f e)
      (then_adds _ _ (after_adds n n.site (never e) (node_of e)) (arms_add f n s m l))))

  pub body_adds : (f : ℕ) (b : Body) → Adds (rules.of_body f b)
  body_adds f (named.body n ss o) = then_adds _ _ (statements_add f ss) (then_adds _ _ (tail_before_adds n o) (then_adds _ _ (returned_adds f o)
      (then_adds _ _ (tail_after_adds n (some_diverges ss) o) (join_adds n (named.tail_never (some_diverges ss) o)))))

  pub statement_adds : (f : ℕ) (x : Statement) → Adds (rules.of_statement f x)
  statement_adds f (named.declares n p t) = declared_adds p t
  statement_adds f (named.lets n p t e) = then_adds _ _ (typed_before_adds t e) (then_adds _ _ (exp_adds f e) (initialised_adds p t e))
  statement_adds f (named.evaluates n e s) = then_adds _ _ (exp_adds f e) (evaluated_adds s (node_of e) (never e))

  pub statements_add : (f : ℕ) (ss : Statements) → Adds (rules.of_statements f ss)
  statements_add f named.no_statement = nothing_adds
  statements_add f (named.statement_and a ss) = then_adds _ _ (statement_adds f a) (statements_add f ss)

pub never_given_adds : (ns : List Node) → Adds (rules.of_never_given ns)
never_given_adds [] = nothing_adds
never_given_adds (n ∷ ns) = then_adds _ _ (asks_add n _ _ _) (never_given_adds ns)

-- ---- functions

pub parameter_adds : (x : Parameter) → Adds (rules.of_parameter x)
parameter_adds x = then_adds _ _ (whole_type_adds x.typ) (asks_add (written_node x.typ) _ _ _)

pub parameters_add : (xs : List Parameter) → Adds (rules.of_parameters xs)
parameters_add [] = nothing_adds
parameters_add (x ∷ xs) = then_adds _ _ (parameter_adds x) (parameters_add xs)

pub result_adds : (t : Option Written) → Adds (rules.of_result t)
result_adds None = nothing_adds
result_adds (Some t) = whole_type_adds t
