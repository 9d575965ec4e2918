-- What the rules ask of a part is asked behind what was asked before, whatever that is, and a literal's demand names its node: form by form.
use Rattle.std.proofs.Common.{◌≡◌, ℕ, suc, Bool, true, false, ◌||◌, if◌then◌else◌, List, [], ◌∷◌, ◌++◌, Option, Some, None, refl, sym, ap, ◌∙◌, subst, append_assoc, append-nil, inl, inr}
use Rattle.rx_core.specs.declared.types.Kind.{Kind}
use Rattle.rx_tree.specs.declared.tree.BinaryOp.{BinaryOp}
use Rattle.rx_typed.specs.declared.nodes.Node.{Node}
use Rattle.rx_typed.specs.declared.nodes.Site.{Site}
use Rattle.rx_typed.specs.declared.nodes.Use.{Use}
use Rattle.rx_typed.specs.Named as named
use Rattle.rx_typed.specs.Named.{all_never, body_never, body_node, is_variable, never, node_of, pattern_node, root, some_diverges, whole_binding, written_node, Arms, Body, Else, Exp, Exps, FieldPatterns, Fields, Pattern, Patterns, Statement, Statements, Written, WrittenTypes}
use Rattle.rx_typeck_solver.specs.declared.facts.Broken.{Broken}
use Rattle.rx_typeck_solver.specs.declared.facts.Subject.{Subject}
use Rattle.rx_typeck_solver.specs.declared.facts.Subject.TheVariants as subject
use Rattle.rx_typeck_solver.specs.declared.facts.Passing.{Passing}
use Rattle.rx_typeck_solver.specs.declared.facts.Op.{Op}
use Rattle.rx_typeck_solver.specs.declared.facts.Op.TheVariants as op
use Rattle.rx_typeck_solver.specs.declared.facts.Fact.{Fact}
use Rattle.rx_typeck_solver.specs.declared.facts.Demand.{Demand}
use Rattle.rx_typeck_solver.specs.Valid.{literals_of, IsIn}
use Rattle.rx_typeck_typed.specs.Asking.{◌>>◌, asks, nothing, when, Asking}
use Rattle.rx_typeck_typed.specs.Demands as rules
use Rattle.rx_engine_holes.specs.Named.{NamedBy, NamedByAny, NamedIn}
use Rattle.rx_engine_holes.specs.Tail.{of_end}

abbrev NamesItsOwn : Demand → Type 0
NamesItsOwn d = d.unsuffixed ≡ true → NamedByAny d.facts (subject.Node d.node)

abbrev pub EachNamesItsOwn : List Demand → Type 0
EachNamesItsOwn [] = Unit {0}
EachNamesItsOwn (d ∷ ds) = NamesItsOwn d × EachNamesItsOwn ds

names_both : (xs ys : List Demand) → EachNamesItsOwn xs → EachNamesItsOwn ys → EachNamesItsOwn (xs ++ ys)
names_both [] ys h k = k
names_both (x ∷ xs) ys h k = (h.0, names_both xs ys h.1 k)

pub literal_named : (m : ℕ) (ds : List Demand) → EachNamesItsOwn ds → IsIn m (literals_of ds) → NamedIn ds (subject.Node m)
literal_named m [] h i = absurd i
literal_named m (d ∷ ds) h i = go d.unsuffixed refl i (literal_named m ds h.1)
  where
    go : (b : Bool) → d.unsuffixed ≡ b → IsIn m (if b then d.node ∷ literals_of ds else literals_of ds) → (IsIn m (literals_of ds) → NamedIn ds (subject.Node m)) → NamedIn (d ∷ ds) (subject.Node m)
    go true e (inl k) r = inl (subst (λ (z : ℕ). NamedByAny d.facts (subject.Node z)) (sym k) (h.0 e))
    go true e (inr k) r = inr (r k)
    go false e k r = inr (r k)

-- ---- rules

pub record Adds (a : Asking) : Type 0 where
  pub more : List Demand
  pub behind : (ds : List Demand) → a ds ≡ ds ++ more
  pub names : EachNamesItsOwn more

asks_adds : (n : Node) (b : Broken) (fs : List Fact) → Adds (asks n b false fs)
asks_adds n b fs = record { more = record { node = n.number; span = n.span; broken = b; unsuffixed = false; facts = fs } ∷ []; behind = λ ds. refl; names = (λ e. absurd (cc), tt) }

-- a literal's
literal_asked : (n : Node) (b : Broken) (o : Bool) (f : Fact) → NamedBy f (subject.Node n.number) → Adds (asks n b o (f ∷ []))
literal_asked n b o f i = record { more = record { node = n.number; span = n.span; broken = b; unsuffixed = o; facts = f ∷ [] } ∷ []; behind = λ ds. refl; names = (λ e. inl i, tt) }

nothing_adds : Adds nothing
nothing_adds = record { more = []; behind = λ ds. sym (append-nil ds); names = tt }

then_adds : {a b : Asking} → Adds a → Adds b → Adds (a >> b)
then_adds {a = a} x y = record {
  more = x.more ++ y.more;
  behind = λ ds. y.behind (a ds) ∙ ap (λ (l : List Demand). l ++ y.more) (x.behind ds) ∙ append_assoc ds x.more y.more;
  names = names_both x.more y.more x.names y.names;
}

when_adds : (b : Bool) (a : Asking) → Adds a → Adds (when b a)
when_adds true a k = k
when_adds false a k = nothing_adds

lifetimes_adds : (n : Node) (i : ℕ) (l : Option ℕ) → Adds (rules.lifetimes_asked n i l)
lifetimes_adds n i None = nothing_adds
lifetimes_adds n i (Some k) = asks_adds n _ _

value_adds : (n : Node) (t : Site) → Adds (rules.value_in n t)
value_adds n Site.Place = asks_adds n _ _
value_adds n Site.Expects = asks_adds n _ _
value_adds n Site.Initialises = asks_adds n _ _
value_adds n Site.Reborrows = asks_adds n _ _
value_adds n Site.Value = nothing_adds
value_adds n Site.Scrutinee = nothing_adds

never_adds : (n : Node) (t : Site) → Adds (rules.never_in n t)
never_adds n Site.Place = asks_adds n _ _
never_adds n Site.Expects = nothing_adds
never_adds n Site.Initialises = nothing_adds
never_adds n Site.Reborrows = nothing_adds
never_adds n Site.Value = nothing_adds
never_adds n Site.Scrutinee = nothing_adds

place_adds : (n : Node) (x : ℕ) (ps : List Passing) (t : Site) → Adds (rules.place_in n x ps t)
place_adds n x ps Site.Value = asks_adds n _ _
place_adds n x ps Site.Place = nothing_adds
place_adds n x ps Site.Scrutinee = nothing_adds
place_adds n x ps Site.Expects = then_adds (asks_adds n _ _) (then_adds (asks_adds n _ _) (asks_adds n _ _))
place_adds n x ps Site.Initialises = then_adds (asks_adds n _ _) (asks_adds n _ _)
place_adds n x ps Site.Reborrows = then_adds (asks_adds n _ _) (then_adds (asks_adds n _ _) (asks_adds n _ _))

own_adds : (n : Node) (o : Op) (xs : List Subject) → Adds (rules.own n o xs)
own_adds n o xs = then_adds (asks_adds n _ _) (value_adds n n.site)

named_adds : (n : Node) (x : Use) (k : Bool) → Adds (rules.named_at n x k)
named_adds n x true = asks_adds n _ _
named_adds n x false = asks_adds n _ _

borrowed_adds : (n : Node) (m : Bool) (e : Node) (x : Use) (ps : List Passing) → Adds (rules.borrowed n m e x ps)
borrowed_adds n m e x ps = then_adds (asks_adds n _ _) (then_adds (asks_adds n _ _) (then_adds (when_adds m _ (asks_adds n _ _)) (value_adds n n.site)))

joins_adds : (n : Node) (t : Site) → Adds (rules.joins n t)
joins_adds n Site.Value = nothing_adds
joins_adds n Site.Place = asks_adds n _ _
joins_adds n Site.Scrutinee = nothing_adds
joins_adds n Site.Reborrows = asks_adds n _ _
joins_adds n Site.Expects = asks_adds n _ _
joins_adds n Site.Initialises = asks_adds n _ _

join_adds : (n : Node) (v : Bool) → Adds (rules.join n v)
join_adds n true = never_adds n n.site
join_adds n false = joins_adds n n.site

before_adds : (n : Node) (t : Site) (m : Node) → Adds (rules.part_before n t m)
before_adds n Site.Expects m = asks_adds m _ _
before_adds n Site.Initialises m = asks_adds m _ _
before_adds n Site.Value m = nothing_adds
before_adds n Site.Place m = nothing_adds
before_adds n Site.Scrutinee m = nothing_adds
before_adds n Site.Reborrows m = nothing_adds

as_part_adds : (n : Node) (v : Bool) (m : Node) → Adds (rules.as_part n v m)
as_part_adds n true m = nothing_adds
as_part_adds n false m = asks_adds n _ _

after_adds : (n : Node) (t : Site) (v : Bool) (m : Node) → Adds (rules.part_after n t v m)
after_adds n Site.Expects v m = nothing_adds
after_adds n Site.Initialises v m = nothing_adds
after_adds n Site.Value v m = as_part_adds n v m
after_adds n Site.Place v m = as_part_adds n v m
after_adds n Site.Scrutinee v m = as_part_adds n v m
after_adds n Site.Reborrows v m = as_part_adds n v m

unit_adds : (n : Node) (v : Bool) → Adds (rules.nothing_given n v)
unit_adds n true = nothing_adds
unit_adds n false = asks_adds n _ _

not_never_adds : (n : Node) (v : Bool) → Adds (rules.not_never n v)
not_never_adds n true = asks_adds n _ _
not_never_adds n false = nothing_adds

fits_given_adds : (x : ℕ) (e : Node) (v : Bool) → Adds (rules.fits_given x e v)
fits_given_adds x e true = nothing_adds
fits_given_adds x e false = asks_adds e _ _

given_adds : (n p : Node) (x : Use) (d : Option ℕ) (e : Node) (v : Bool) → Adds (rules.given n p x d e v)
given_adds n p x None e v = then_adds (named_adds p x x.known) (fits_given_adds x.number e v)
given_adds n p x (Some d) e v = then_adds (not_never_adds e v) (then_adds (asks_adds n _ _) (asks_adds p _ _))

one_variable_adds : (n : Node) (o : Option ℕ) → Adds (rules.one_variable_at n o)
one_variable_adds n None = asks_adds n _ _
one_variable_adds n (Some x) = nothing_adds

evaluated_adds : (s : Bool) (n : Node) (v : Bool) → Adds (rules.evaluated s n v)
evaluated_adds true n v = nothing_adds
evaluated_adds false n v = unit_adds n v

binding_adds : (n : Node) (anc : List Passing) (s : rules.Matched) → Adds (rules.binding_of n anc s)
binding_adds n anc rules.a_value = nothing_adds
binding_adds n anc (rules.a_place x qs) = then_adds (asks_adds n _ _) (asks_adds n _ _)
binding_adds n anc (rules.an_initialiser e x qs) = then_adds (asks_adds n _ _) (asks_adds n _ _)

bound_adds : (s : rules.Matched) (anc : List Passing) (n : Node) (x : ℕ) (m : Bool) → Adds (rules.bound_at s anc n x m)
bound_adds s anc n x m = then_adds (asks_adds n _ _) (then_adds (asks_adds n _ _) (then_adds (when_adds m _ (asks_adds n _ _)) (binding_adds n anc s)))

mutual
  type_adds : (t : Written) → Adds (rules.of_type t)
  type_adds (named.a_kind n k) = asks_adds n _ _
  type_adds (named.a_bool n) = asks_adds n _ _
  type_adds (named.a_tuple n ts) = then_adds (types_adds ts) (asks_adds n _ _)
  type_adds (named.a_reference n w t) = then_adds (type_adds t) (asks_adds n _ _)
  type_adds (named.an_item n i ls) = then_adds (lifetimes_adds n i ls) (asks_adds n _ _)

  types_adds : (ts : WrittenTypes) → Adds (rules.of_types ts)
  types_adds named.no_written = nothing_adds
  types_adds (named.written_and t ts) = then_adds (type_adds t) (types_adds ts)

whole_type_adds : (t : Written) → Adds (rules.whole_type t)
whole_type_adds t = then_adds (type_adds t) (asks_adds (written_node t) _ _)

each_before_adds : (w : rules.Listed) (k : ℕ) (n : Node) → Adds (rules.each_before w k n)
each_before_adds rules.members k n = nothing_adds
each_before_adds rules.values k n = nothing_adds
each_before_adds (rules.parameters g) k n = asks_adds n _ _
each_before_adds (rules.parts_of i v) k n = asks_adds n _ _

each_after_adds : (w : rules.Listed) (e : Exp) → Adds (rules.each_after w e)
each_after_adds rules.members e = not_never_adds (node_of e) (never e)
each_after_adds rules.values e = nothing_adds
each_after_adds (rules.parameters g) e = nothing_adds
each_after_adds (rules.parts_of i v) e = nothing_adds

returns_adds : (f : ℕ) (n : Node) (o : Else) → Adds (rules.returns_unit f n o)
returns_adds f n named.absent = asks_adds n _ _
returns_adds f n (named.present e) = asks_adds (node_of e) _ _

tail_before_adds : (n : Node) (o : Else) → Adds (rules.tail_before n o)
tail_before_adds n named.absent = nothing_adds
tail_before_adds n (named.present e) = before_adds n n.site (node_of e)

tail_after_adds : (n : Node) (d : Bool) (o : Else) → Adds (rules.tail_after n d o)
tail_after_adds n d named.absent = unit_adds n d
tail_after_adds n d (named.present e) = after_adds n n.site (never e) (node_of e)

tested_adds : (n : Node) (v : Bool) → Adds (rules.tested n v)
tested_adds n true = nothing_adds
tested_adds n false = asks_adds n _ _

printed_adds : (n : Node) (v : Bool) → Adds (rules.printed n v)
printed_adds n true = nothing_adds
printed_adds n false = asks_adds n _ _

assignable_adds : (n : Node) (w : Bool) (x : Use) (ps : List Passing) → Adds (rules.assignable_at n w x ps)
assignable_adds n true x ps = nothing_adds
assignable_adds n false x ps = asks_adds n _ _

-- an integer of an expression, and one of a pattern
integer_adds : (n : Node) (m : Bool) (v : ℕ) (k : Option Kind) → Adds (rules.integer_at n m v k)
integer_adds n m v k = then_adds (asks_adds n _ _) (then_adds (value_adds n n.site) (literal_asked n _ _ _ refl))

literal_adds : (n : Node) (g : Bool) (v : ℕ) (k : Option Kind) → Adds (rules.literal_at n g v k)
literal_adds n g v k = then_adds (asks_adds n _ _) (then_adds (when_adds g _ (asks_adds n _ _)) (then_adds (asks_adds n _ _) (literal_asked n _ _ _ refl)))

operation_adds : (o : BinaryOp) (n a : Node) (x : Bool) (b : Node) (y : Bool) → Adds (rules.operation o n a x b y)
operation_adds BinaryOp.Or n a x b y = then_adds (asks_adds n _ _) (own_adds n _ _)
operation_adds BinaryOp.And n a x b y = then_adds (asks_adds n _ _) (own_adds n _ _)
operation_adds BinaryOp.Eq n a x b y = then_adds (asks_adds n _ _) (own_adds n _ _)
operation_adds BinaryOp.Ne n a x b y = then_adds (asks_adds n _ _) (own_adds n _ _)
operation_adds BinaryOp.Lt n a x b y = then_adds (asks_adds n _ _) (own_adds n _ _)
operation_adds BinaryOp.Le n a x b y = then_adds (asks_adds n _ _) (own_adds n _ _)
operation_adds BinaryOp.Gt n a x b y = then_adds (asks_adds n _ _) (own_adds n _ _)
operation_adds BinaryOp.Ge n a x b y = then_adds (asks_adds n _ _) (own_adds n _ _)
operation_adds _ n a x b y = then_adds (asks_adds n _ _) (value_adds n n.site)

updated_adds : (n a : Node) (x : Bool) (b : Node) (y : Bool) → Adds (rules.updated n a x b y)
updated_adds n a x b y = asks_adds n _ _

negated_adds : (n a : Node) (x : Bool) → Adds (rules.negated n a x)
negated_adds n a x = then_adds (asks_adds n _ _) (value_adds n n.site)

inverted_adds : (n a : Node) (x : Bool) → Adds (rules.inverted n a x)
inverted_adds n a x = then_adds (asks_adds n _ _) (own_adds n _ _)

branch_before_adds : (n : Node) (o : Else) (b : Body) → Adds (rules.branch_before n o b)
branch_before_adds n named.absent b = nothing_adds
branch_before_adds n (named.present e) b = before_adds n n.site (body_node b)

branch_after_adds : (n : Node) (o : Else) (b : Body) → Adds (rules.branch_after n o b)
branch_after_adds n named.absent b = then_adds (unit_adds (body_node b) (body_never b)) (own_adds n _ _)
branch_after_adds n (named.present e) b = after_adds n n.site (body_never b) (body_node b)

if_joins_adds : (n : Node) (o : Else) (v : Bool) → Adds (rules.if_joins n o v)
if_joins_adds n named.absent v = nothing_adds
if_joins_adds n (named.present e) v = join_adds n v

loop_adds : (n : Node) (k : Bool) → Adds (rules.loop_given n k)
loop_adds n true = own_adds n _ _
loop_adds n false = never_adds n n.site

-- ---- patterns, expressions and statements

mutual
  pattern_adds : (s : rules.Matched) (anc : List Passing) (p : Pattern) → Adds (rules.of_pattern s anc p)
  pattern_adds s anc (named.wild n) = nothing_adds
  pattern_adds s anc (named.bind n x m) = bound_adds s anc n x m
  pattern_adds s anc (named.whole_number n g v k) = literal_adds n g v k
  pattern_adds s anc (named.truth n b) = asks_adds n _ _
  pattern_adds s anc (named.tuple_pattern n ps) = then_adds (asks_adds n _ _) (parts_adds s _ n 0 ps)
  pattern_adds s anc (named.variant_pattern n i v ps) = then_adds (asks_adds n _ _) (then_adds (asks_adds n _ _) (variant_parts_adds s _ i v 0 ps))
  pattern_adds s anc (named.struct_pattern n i fs) = then_adds (asks_adds n _ _) (then_adds (asks_adds n _ _) (field_patterns_adds s _ i fs))

  parts_adds : (s : rules.Matched) (anc : List Passing) (n : Node) (k : ℕ) (ps : Patterns) → Adds (rules.of_parts s anc n k ps)
  parts_adds s anc n k named.no_pattern = nothing_adds
  parts_adds s anc n k (named.pattern_and p ps) = then_adds (asks_adds (pattern_node p) _ _) (then_adds (pattern_adds s anc p) (parts_adds s anc n (suc k) ps))

  variant_parts_adds : (s : rules.Matched) (anc : List Passing) (i v k : ℕ) (ps : Patterns) → Adds (rules.of_variant_parts s anc i v k ps)
  variant_parts_adds s anc i v k named.no_pattern = nothing_adds
  variant_parts_adds s anc i v k (named.pattern_and p ps) = then_adds (asks_adds (pattern_node p) _ _) (then_adds (pattern_adds s anc p) (variant_parts_adds s anc i v (suc k) ps))

  field_patterns_adds : (s : rules.Matched) (anc : List Passing) (i : ℕ) (fs : FieldPatterns) → Adds (rules.of_field_patterns s anc i fs)
  field_patterns_adds s anc i named.no_field_pattern = nothing_adds
  field_patterns_adds s anc i (named.field_pattern_and x p fs) = then_adds (asks_adds (pattern_node p) _ _) (then_adds (pattern_adds s anc p) (field_patterns_adds s anc i fs))

whole_adds : (s : rules.Matched) (x : Subject) (p : Pattern) → Adds (rules.whole_pattern s x p)
whole_adds s x p = then_adds (asks_adds (pattern_node p) _ _) (pattern_adds s [] p)

declared_adds : (p : Pattern) (t : Option Written) → Adds (rules.declared p t)
declared_adds p None = one_variable_adds (pattern_node p) (whole_binding p)
declared_adds p (Some t) = then_adds (whole_type_adds t) (whole_adds rules.a_value _ p)

typed_before_adds : (t : Option Written) (e : Exp) → Adds (rules.typed_before t e)
typed_before_adds None e = nothing_adds
typed_before_adds (Some t) e = then_adds (whole_type_adds t) (asks_adds (node_of e) _ _)

initialised_by_adds : (v : Bool) (p : Pattern) (s : rules.Matched) (n : Node) → Adds (rules.initialised_by v p s n)
initialised_by_adds true p s n = one_variable_adds (pattern_node p) (whole_binding p)
initialised_by_adds false p s n = whole_adds s _ p

initialised_adds : (p : Pattern) (t : Option Written) (e : Exp) → Adds (rules.initialised p t e)
initialised_adds p None e = initialised_by_adds (never e) p (rules.matched e) (node_of e)
initialised_adds p (Some t) e = whole_adds (rules.matched e) _ p

branches_adds : (f : ℕ) (n : Node) (b : Body) (o : Else) → Adds (rules.of_body f b) → Adds (rules.of_else f n o) → Adds (rules.of_branches f n (b, o))
branches_adds f n b o x y = then_adds (branch_before_adds n o b) (then_adds x (then_adds (branch_after_adds n o b) (then_adds y (if_joins_adds n o _))))

mutual
  exp_adds : (f : ℕ) (e : Exp) → Adds (rules.of_exp f e)
  exp_adds f (named.int n m v k) = integer_adds n m v k
  exp_adds f (named.bool n b) = own_adds n op.Truth []
  exp_adds f (named.tuple n es) = then_adds (each_adds f rules.members 0 es) (then_adds (own_adds n op.Tuple _) (asks_adds n _ _))
  exp_adds f (named.var n x) = then_adds (named_adds n x x.known) (place_adds n _ _ n.site)
  exp_adds f (named.field n e x) = then_adds (exp_adds f e) (then_adds (asks_adds n _ _) (place_adds n _ _ n.site))
  exp_adds f (named.part n e i) = then_adds (exp_adds f e) (then_adds (asks_adds n _ _) (place_adds n _ _ n.site))
  exp_adds f (named.deref n e) = then_adds (exp_adds f e) (then_adds (asks_adds n _ _) (place_adds n _ _ n.site))
  exp_adds f (named.negate n e) = then_adds (exp_adds f e) (negated_adds n (node_of e) (never e))
  exp_adds f (named.invert n e) = then_adds (exp_adds f e) (inverted_adds n (node_of e) (never e))
  exp_adds f (named.borrow n m e) = then_adds (exp_adds f e) (borrowed_adds n m (node_of e) (root e) _)
  exp_adds f (named.binary n o x y) = then_adds (exp_adds f x) (then_adds (exp_adds f y) (operation_adds o n (node_of x) (never x) (node_of y) (never y)))
  exp_adds f (named.assign n p e) = then_adds (exp_adds f p) (then_adds (asks_adds (node_of e) _ _) (then_adds (exp_adds f e) (then_adds (assignable_adds n (is_variable p) (root p) _) (own_adds n op.Unit []))))
  exp_adds f (named.gives n p x d e) = then_adds (exp_adds f e) (then_adds (given_adds n p x d (node_of e) (never e)) (own_adds n op.Unit []))
  exp_adds f (named.update n o p e) = then_adds (exp_adds f p) (then_adds (exp_adds f e) (then_adds (updated_adds n (node_of p) (never p) (node_of e) (never e)) (then_adds (assignable_adds n (is_variable p) (root p) _) (own_adds n op.Unit []))))
  exp_adds f (named.call n g es) = then_adds (asks_adds n _ _) (then_adds (each_adds f (rules.parameters g) 0 es) (own_adds n (op.Result g) []))
  exp_adds f (named.hidden_call n es) = then_adds (asks_adds n _ _) (each_adds f rules.values 0 es)
  exp_adds f (named.next_input n) = own_adds n (op.Integer Kind.I64) []
  exp_adds f (named.variant n i v es) = then_adds (asks_adds n _ _) (then_adds (each_adds f (rules.parts_of i v) 0 es) (own_adds n (op.Item i) []))
  exp_adds f (named.make n i fs) = then_adds (asks_adds n _ _) (then_adds (fields_adds f i fs) (own_adds n (op.Item i) []))
  exp_adds f (named.print n e) = then_adds (exp_adds f e) (then_adds (printed_adds (node_of e) (never e)) (own_adds n op.Unit []))
  exp_adds f (named.block n b) = then_adds (before_adds n n.site (body_node b)) (then_adds (body_adds f b) (then_adds (after_adds n n.site (body_never b) (body_node b)) (join_adds n (body_never b))))
  exp_adds f (named.if n x b o) = then_adds (exp_adds f x) (then_adds (tested_adds (node_of x) (never x)) (branches_adds f n b o (body_adds f b) (else_adds f n o)))
  exp_adds f (named.if_let n p e b o) = then_adds (exp_adds f e) (then_adds (not_never_adds (node_of e) (never e)) (then_adds (whole_adds (rules.matched e) _ p) (branches_adds f n b o (body_adds f b) (else_adds f n o))))
  exp_adds f (named.match n e l) = then_adds (exp_adds f e) (then_adds (not_never_adds (node_of e) (never e)) (then_adds (arms_adds f n (rules.matched e) (node_of e) l) (join_adds n (all_never l))))
  exp_adds f (named.loop n l k b) = then_adds (body_adds f b) (then_adds (unit_adds (body_node b) (body_never b)) (loop_adds n k))
  exp_adds f (named.while n l x b) = then_adds (exp_adds f x) (then_adds (tested_adds (node_of x) (never x)) (then_adds (body_adds f b) (then_adds (unit_adds (body_node b) (body_never b)) (own_adds n op.Unit []))))
  exp_adds f (named.while_let n l p e b) = then_adds (exp_adds f e) (then_adds (not_never_adds (node_of e) (never e)) (then_adds (whole_adds (rules.matched e) _ p) (then_adds (body_adds f b) (then_adds (unit_adds (body_node b) (body_never b)) (own_adds n op.Unit [])))))
  exp_adds f (named.break n l) = never_adds n n.site
  exp_adds f (named.continue n l) = never_adds n n.site
  exp_adds f (named.return n o) = then_adds (returns_adds f n o) (then_adds (returned_adds f o) (never_adds n n.site))

  each_adds : (f : ℕ) (w : rules.Listed) (k : ℕ) (es : Exps) → Adds (rules.of_each f w k es)
  each_adds f w k named.no_exp = nothing_adds
  each_adds f w k (named.exp_and e es) = then_adds (each_before_adds w k (node_of e)) (then_adds (exp_adds f e) (then_adds (each_after_adds w e) (each_adds f w (suc k) es)))

  fields_adds : (f i : ℕ) (fs : Fields) → Adds (rules.of_fields f i fs)
  fields_adds f i named.no_field = nothing_adds
  fields_adds f i (named.field_and x e fs) = then_adds (asks_adds (node_of e) _ _) (then_adds (exp_adds f e) (fields_adds f i fs))

  else_adds : (f : ℕ) (n : Node) (o : Else) → Adds (rules.of_else f n o)
  else_adds f n named.absent = nothing_adds
  else_adds f n (named.present e) = then_adds (before_adds n n.site (node_of e)) (then_adds (exp_adds f e) (after_adds n n.site (never e) (node_of e)))

  returned_adds : (f : ℕ) (o : Else) → Adds (rules.of_returned f o)
  returned_adds f named.absent = nothing_adds
  returned_adds f (named.present e) = exp_adds f e

  arms_adds : (f : ℕ) (n : Node) (s : rules.Matched) (m : Node) (l : Arms) → Adds (rules.of_arms f n s m l)
  arms_adds f n s m named.no_arm = nothing_adds
  arms_adds f n s m (named.arm_and p e l) = then_adds (whole_adds s _ p) (then_adds (before_adds n n.site (node_of e)) (then_adds (exp_adds f e) (then_adds (after_adds n n.site (never e) (node_of e)) (arms_adds f n s m l))))

  body_adds : (f : ℕ) (b : Body) → Adds (rules.of_body f b)
  body_adds f (named.body n ss o) = then_adds (statements_adds f ss) (then_adds (tail_before_adds n o) (then_adds (returned_adds f o) (then_adds (tail_after_adds n (some_diverges ss) o) (join_adds n _))))

  statement_adds : (f : ℕ) (a : Statement) → Adds (rules.of_statement f a)
  statement_adds f (named.declares n p t) = declared_adds p t
  statement_adds f (named.lets n p t e) = then_adds (typed_before_adds t e) (then_adds (exp_adds f e) (initialised_adds p t e))
  statement_adds f (named.evaluates n e s) = then_adds (exp_adds f e) (evaluated_adds s (node_of e) (never e))

  pub statements_adds : (f : ℕ) (ss : Statements) → Adds (rules.of_statements f ss)
  statements_adds f named.no_statement = nothing_adds
  statements_adds f (named.statement_and a ss) = then_adds (statement_adds f a) (statements_adds f ss)

pub end_adds : (f : ℕ) (n : Node) (d : Bool) (ss : Statements) (o : Else) → Adds (of_end f n d ss o)
end_adds f n d ss o = then_adds (statements_adds f ss) (then_adds (tail_before_adds n o) (then_adds (returned_adds f o) (tail_after_adds n (d || some_diverges ss) o)))

-- ---- behind nothing

pub appended : {a : Asking} → Adds a → (ds : List Demand) → a ds ≡ ds ++ a []
appended x ds = x.behind ds ∙ ap (λ (l : List Demand). ds ++ l) (sym (x.behind []))

pub names_its_own : {a : Asking} → Adds a → EachNamesItsOwn (a [])
names_its_own x = subst (λ (l : List Demand). EachNamesItsOwn l) (sym (x.behind [])) x.names
