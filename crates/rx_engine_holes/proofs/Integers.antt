-- Code that is made anew asks for no integer: form by form.
use Rattle.std.proofs.Common.{◌≡◌, ℕ, suc, Bool, true, false, ◌||◌, if◌then◌else◌, List, [], ◌∷◌, ◌++◌, Option, Some, None, refl}
use Rattle.rx_typed.specs.declared.nodes.Node.{Node}
use Rattle.rx_typed.specs.declared.nodes.Site.{Site}
use Rattle.rx_typed.specs.declared.nodes.Use.{Use}
use Rattle.rx_typed.specs.Named as named
use Rattle.rx_typed.specs.Named.{all_never, body_never, body_node, never, node_of, pattern_node, some_diverges, whole_binding, written_node, Arms, Body, Else, Exp, Exps, Pattern, Patterns, Statement, Statements, Written, WrittenTypes}
use Rattle.rx_typeck_solver.specs.declared.facts.Broken.{Broken}
use Rattle.rx_typeck_solver.specs.declared.facts.Kinds.{Kinds}
use Rattle.rx_typeck_solver.specs.declared.facts.Subject.{Subject}
use Rattle.rx_typeck_solver.specs.declared.facts.Passing.{Passing}
use Rattle.rx_typeck_solver.specs.declared.facts.Op.{Op}
use Rattle.rx_typeck_solver.specs.declared.facts.Fact.{Fact}
use Rattle.rx_typeck_solver.specs.declared.facts.Fact.TheVariants as fact
use Rattle.rx_typeck_solver.specs.declared.facts.Demand.{Demand}
use Rattle.rx_typeck_solver.specs.Valid.{literals_of, IsIn}
use Rattle.rx_typeck_typed.specs.Asking.{asks, when, Asking}
use Rattle.rx_typeck_typed.specs.Demands as rules
use Rattle.rx_engine_blocks.specs.Gets.{asked_here, asked_later, later_fact, IsAsked, IsFact}
use Rattle.rx_engine_blocks.specs.Made.{MadeArms, MadeBody, MadeElse, MadeExp, MadeExps, MadeOptionalType, MadePattern, MadePatterns, MadeStatement, MadeStatements, MadeType, MadeTypes}
use Rattle.rx_engine_holes.specs.Tail.{of_end}

abbrev NoInteger : Fact → Type 0
NoInteger (fact.Equals x o xs ps) = Unit {0}
NoInteger (fact.Integer n s) = ⊥
NoInteger (fact.IntegerBehind n s) = Unit {0}
NoInteger (fact.Passes t xs ps qs) = Unit {0}
NoInteger fact.Never = Unit {0}

abbrev NoIntegers : List Fact → Type 0
NoIntegers [] = Unit {0}
NoIntegers (f ∷ fs) = NoInteger f × NoIntegers fs

-- none of them is a literal's either
abbrev pub Plain : List Demand → Type 0
Plain [] = Unit {0}
Plain (d ∷ ds) = (NoIntegers d.facts × (d.unsuffixed ≡ false)) × Plain ds

plain_then : (ds : List Demand) (d : Demand) → Plain ds → NoIntegers d.facts → d.unsuffixed ≡ false → Plain (ds ++ d ∷ [])
plain_then [] d h a e = ((a, e), tt)
plain_then (x ∷ ds) d h a e = (h.0, plain_then ds d h.1 a e)

no_fact : (n : ℕ) (s : Kinds) (fs : List Fact) → NoIntegers fs → IsFact (fact.Integer n s) fs → ⊥
no_fact n s [] h i = elim i [ ]
no_fact n s (fact.Integer m z ∷ fs) h i = absurd h.0
no_fact n s (fact.Equals x o xs ps ∷ fs) h (later_fact i) = no_fact n s fs h.1 i
no_fact n s (fact.IntegerBehind m z ∷ fs) h (later_fact i) = no_fact n s fs h.1 i
no_fact n s (fact.Passes t xs ps qs ∷ fs) h (later_fact i) = no_fact n s fs h.1 i
no_fact n s (fact.Never ∷ fs) h (later_fact i) = no_fact n s fs h.1 i

pub no_integer : (n : ℕ) (s : Kinds) (ds : List Demand) → Plain ds → IsAsked (fact.Integer n s) ds → ⊥
no_integer n s [] h i = elim i [ ]
no_integer n s (d ∷ ds) h (asked_here i) = no_fact n s d.facts h.0.0 i
no_integer n s (d ∷ ds) h (asked_later i) = no_integer n s ds h.1 i

pub no_literal : (n : ℕ) (ds : List Demand) → Plain ds → IsIn n (literals_of ds) → ⊥
no_literal n [] h i = i
no_literal n (d ∷ ds) h i = go d.unsuffixed h.0.1 i (no_literal n ds h.1)
  where
    go : (b : Bool) → b ≡ false → IsIn n (if b then d.node ∷ literals_of ds else literals_of ds) → (IsIn n (literals_of ds) → ⊥) → ⊥
    go true e k r = cc
    go false e k r = r k

-- ---- rules

abbrev Keeps : Asking → Type 0
Keeps a = (ds : List Demand) → Plain ds → Plain (a ds)

asks_keep : (n : Node) (b : Broken) (fs : List Fact) → NoIntegers fs → Keeps (asks n b false fs)
asks_keep n b fs a ds h = plain_then ds (record { node = n.number; span = n.span; broken = b; unsuffixed = false; facts = fs }) h a refl

one_keeps : (n : Node) (b : Broken) (f : Fact) → NoInteger f → Keeps (asks n b false (f ∷ []))
one_keeps n b f a = asks_keep n b (f ∷ []) (a, tt)

nothing_keeps : Keeps (λ ds. ds)
nothing_keeps ds h = h

when_keeps : (b : Bool) (a : Asking) → Keeps a → Keeps (when b a)
when_keeps true a k = k
when_keeps false a k = nothing_keeps

lifetimes_keep : (n : Node) (i : ℕ) (l : Option ℕ) → Keeps (rules.lifetimes_asked n i l)
lifetimes_keep n i None = nothing_keeps
lifetimes_keep n i (Some k) = one_keeps n _ _ tt

value_keeps : (n : Node) (t : Site) → Keeps (rules.value_in n t)
value_keeps n Site.Place = one_keeps n _ _ tt
value_keeps n Site.Expects = one_keeps n _ _ tt
value_keeps n Site.Initialises = one_keeps n _ _ tt
value_keeps n Site.Reborrows = one_keeps n _ _ tt
value_keeps n Site.Value = nothing_keeps
value_keeps n Site.Scrutinee = nothing_keeps

never_keeps : (n : Node) (t : Site) → Keeps (rules.never_in n t)
never_keeps n Site.Place = one_keeps n _ _ tt
never_keeps n Site.Expects = nothing_keeps
never_keeps n Site.Initialises = nothing_keeps
never_keeps n Site.Reborrows = nothing_keeps
never_keeps n Site.Value = nothing_keeps
never_keeps n Site.Scrutinee = nothing_keeps

place_keeps : (n : Node) (x : ℕ) (ps : List Passing) (t : Site) → Keeps (rules.place_in n x ps t)
place_keeps n x ps Site.Value ds h = one_keeps n _ _ tt ds h
place_keeps n x ps Site.Place ds h = h
place_keeps n x ps Site.Scrutinee ds h = h
place_keeps n x ps Site.Expects ds h = one_keeps n _ _ tt _ (one_keeps n _ _ tt _ (one_keeps n _ _ tt ds h))
place_keeps n x ps Site.Initialises ds h = one_keeps n _ _ tt _ (one_keeps n _ _ tt ds h)
place_keeps n x ps Site.Reborrows ds h = one_keeps n _ _ tt _ (one_keeps n _ _ tt _ (one_keeps n _ _ tt ds h))

own_keeps : (n : Node) (o : Op) (xs : List Subject) → Keeps (rules.own n o xs)
own_keeps n o xs ds h = value_keeps n n.site _ (one_keeps n _ _ tt ds h)

named_keeps : (n : Node) (x : Use) (k : Bool) → Keeps (rules.named_at n x k)
named_keeps n x true = one_keeps n _ _ tt
named_keeps n x false = one_keeps n _ _ tt

borrowed_keeps : (n : Node) (m : Bool) (e : Node) (x : Use) (ps : List Passing) → Keeps (rules.borrowed n m e x ps)
borrowed_keeps n m e x ps ds h = value_keeps n n.site _ (when_keeps m _ (one_keeps n _ _ tt) _ (one_keeps n _ _ tt _ (one_keeps n _ _ tt ds h)))

joins_keep : (n : Node) (t : Site) → Keeps (rules.joins n t)
joins_keep n Site.Value = nothing_keeps
joins_keep n Site.Place = one_keeps n _ _ tt
joins_keep n Site.Scrutinee = nothing_keeps
joins_keep n Site.Reborrows = one_keeps n _ _ tt
joins_keep n Site.Expects = one_keeps n _ _ tt
joins_keep n Site.Initialises = one_keeps n _ _ tt

join_keeps : (n : Node) (v : Bool) → Keeps (rules.join n v)
join_keeps n true = never_keeps n n.site
join_keeps n false = joins_keep n n.site

before_keeps : (n : Node) (t : Site) (m : Node) → Keeps (rules.part_before n t m)
before_keeps n Site.Expects m = one_keeps m _ _ tt
before_keeps n Site.Initialises m = one_keeps m _ _ tt
before_keeps n Site.Value m = nothing_keeps
before_keeps n Site.Place m = nothing_keeps
before_keeps n Site.Scrutinee m = nothing_keeps
before_keeps n Site.Reborrows m = nothing_keeps

as_part_keeps : (n : Node) (v : Bool) (m : Node) → Keeps (rules.as_part n v m)
as_part_keeps n true m = nothing_keeps
as_part_keeps n false m = one_keeps n _ _ tt

after_keeps : (n : Node) (t : Site) (v : Bool) (m : Node) → Keeps (rules.part_after n t v m)
after_keeps n Site.Expects v m = nothing_keeps
after_keeps n Site.Initialises v m = nothing_keeps
after_keeps n Site.Value v m = as_part_keeps n v m
after_keeps n Site.Place v m = as_part_keeps n v m
after_keeps n Site.Scrutinee v m = as_part_keeps n v m
after_keeps n Site.Reborrows v m = as_part_keeps n v m

unit_keeps : (n : Node) (v : Bool) → Keeps (rules.nothing_given n v)
unit_keeps n true = nothing_keeps
unit_keeps n false = one_keeps n _ _ tt

not_never_keeps : (n : Node) (v : Bool) → Keeps (rules.not_never n v)
not_never_keeps n true = one_keeps n _ _ tt
not_never_keeps n false = nothing_keeps

fits_given_keeps : (x : ℕ) (e : Node) (v : Bool) → Keeps (rules.fits_given x e v)
fits_given_keeps x e true = nothing_keeps
fits_given_keeps x e false = one_keeps e _ _ tt

given_keeps : (n p : Node) (x : Use) (d : Option ℕ) (e : Node) (v : Bool) → Keeps (rules.given n p x d e v)
given_keeps n p x None e v ds h = fits_given_keeps x.number e v _ (named_keeps p x x.known ds h)
given_keeps n p x (Some d) e v ds h = asks_keep p _ _ (tt, (tt, tt)) _ (one_keeps n _ _ tt _ (not_never_keeps e v ds h))

one_variable_keeps : (n : Node) (o : Option ℕ) → Keeps (rules.one_variable_at n o)
one_variable_keeps n None = one_keeps n _ _ tt
one_variable_keeps n (Some x) = nothing_keeps

evaluated_keeps : (s : Bool) (n : Node) (v : Bool) → Keeps (rules.evaluated s n v)
evaluated_keeps true n v = nothing_keeps
evaluated_keeps false n v = unit_keeps n v

binding_keeps : (n : Node) (anc : List Passing) (s : rules.Matched) → Keeps (rules.binding_of n anc s)
binding_keeps n anc rules.a_value ds h = h
binding_keeps n anc (rules.a_place x qs) ds h = one_keeps n _ _ tt _ (one_keeps n _ _ tt ds h)
binding_keeps n anc (rules.an_initialiser e x qs) ds h = one_keeps n _ _ tt _ (one_keeps n _ _ tt ds h)

bound_keeps : (s : rules.Matched) (anc : List Passing) (n : Node) (x : ℕ) (m : Bool) → Keeps (rules.bound_at s anc n x m)
bound_keeps s anc n x m ds h = binding_keeps n anc s _ (when_keeps m _ (one_keeps n _ _ tt) _ (one_keeps n _ _ tt _ (one_keeps n _ _ tt ds h)))

-- ---- what is made

module _ (P : Subject → Type 0) where
  mutual
    type_keeps : (t : Written) → MadeType P t → Keeps (rules.of_type t)
    type_keeps (named.a_kind n k) h ds m = one_keeps n _ _ tt ds m
    type_keeps (named.a_bool n) h ds m = one_keeps n _ _ tt ds m
    type_keeps (named.a_tuple n ts) h ds m = one_keeps n _ _ tt _ (types_keep ts h.1 ds m)
    type_keeps (named.a_reference n w t) h ds m = one_keeps n _ _ tt _ (type_keeps t h.1 ds m)
    type_keeps (named.an_item n i ls) h ds m = one_keeps n _ _ tt _ (lifetimes_keep n i ls ds m)

    types_keep : (ts : WrittenTypes) → MadeTypes P ts → Keeps (rules.of_types ts)
    types_keep named.no_written h ds m = m
    types_keep (named.written_and t ts) h ds m = types_keep ts h.1 _ (type_keeps t h.0 ds m)

  whole_type_keeps : (t : Written) → MadeType P t → Keeps (rules.whole_type t)
  whole_type_keeps t h ds m = one_keeps (written_node t) _ _ tt _ (type_keeps t h ds m)

  mutual
    pattern_keeps : (s : rules.Matched) (anc : List Passing) (p : Pattern) → MadePattern P p → Keeps (rules.of_pattern s anc p)
    pattern_keeps s anc (named.wild n) h ds m = m
    pattern_keeps s anc (named.bind n x w) h ds m = bound_keeps s anc n x w ds m
    pattern_keeps s anc (named.tuple_pattern n ps) h ds m = parts_keep s _ n 0 ps h.1 _ (one_keeps n _ _ tt ds m)
    pattern_keeps s anc (named.variant_pattern n i v ps) h ds m = variant_parts_keep s _ i v 0 ps h.1 _ (one_keeps n _ _ tt _ (one_keeps n _ _ tt ds m))
    pattern_keeps s anc _ h ds m = absurd h

    parts_keep : (s : rules.Matched) (anc : List Passing) (n : Node) (k : ℕ) (ps : Patterns) → MadePatterns P ps → Keeps (rules.of_parts s anc n k ps)
    parts_keep s anc n k named.no_pattern h ds m = m
    parts_keep s anc n k (named.pattern_and p ps) h ds m = parts_keep s anc n (suc k) ps h.1 _ (pattern_keeps s anc p h.0 _ (one_keeps (pattern_node p) _ _ tt ds m))

    variant_parts_keep : (s : rules.Matched) (anc : List Passing) (i v k : ℕ) (ps : Patterns) → MadePatterns P ps → Keeps (rules.of_variant_parts s anc i v k ps)
    variant_parts_keep s anc i v k named.no_pattern h ds m = m
    variant_parts_keep s anc i v k (named.pattern_and p ps) h ds m = variant_parts_keep s anc i v (suc k) ps h.1 _ (pattern_keeps s anc p h.0 _ (one_keeps (pattern_node p) _ _ tt ds m))

  whole_keeps : (s : rules.Matched) (x : Subject) (p : Pattern) → MadePattern P p → Keeps (rules.whole_pattern s x p)
  whole_keeps s x p h ds m = pattern_keeps s [] p h _ (one_keeps (pattern_node p) _ _ tt ds m)

  declared_keeps : (p : Pattern) (t : Option Written) → MadePattern P p → MadeOptionalType P t → Keeps (rules.declared p t)
  declared_keeps p None h k ds m = one_variable_keeps (pattern_node p) (whole_binding p) ds m
  declared_keeps p (Some t) h k ds m = whole_keeps rules.a_value _ p h _ (whole_type_keeps t k ds m)

  typed_before_keeps : (t : Option Written) (e : Exp) → MadeOptionalType P t → Keeps (rules.typed_before t e)
  typed_before_keeps None e k ds m = m
  typed_before_keeps (Some t) e k ds m = one_keeps (node_of e) _ _ tt _ (whole_type_keeps t k ds m)

  initialised_by_keeps : (v : Bool) (p : Pattern) (s : rules.Matched) (n : Node) → MadePattern P p → Keeps (rules.initialised_by v p s n)
  initialised_by_keeps true p s n h = one_variable_keeps (pattern_node p) (whole_binding p)
  initialised_by_keeps false p s n h = whole_keeps s _ p h

  initialised_keeps : (p : Pattern) (t : Option Written) (e : Exp) → MadePattern P p → Keeps (rules.initialised p t e)
  initialised_keeps p None e h = initialised_by_keeps (never e) p (rules.matched e) (node_of e) h
  initialised_keeps p (Some t) e h = whole_keeps (rules.matched e) _ p h

  each_before_keeps : (w : rules.Listed) (k : ℕ) (n : Node) → Keeps (rules.each_before w k n)
  each_before_keeps rules.members k n = nothing_keeps
  each_before_keeps rules.values k n = nothing_keeps
  each_before_keeps (rules.parameters g) k n = one_keeps n _ _ tt
  each_before_keeps (rules.parts_of i v) k n = one_keeps n _ _ tt

  each_after_keeps : (w : rules.Listed) (e : Exp) → Keeps (rules.each_after w e)
  each_after_keeps rules.members e = not_never_keeps (node_of e) (never e)
  each_after_keeps rules.values e = nothing_keeps
  each_after_keeps (rules.parameters g) e = nothing_keeps
  each_after_keeps (rules.parts_of i v) e = nothing_keeps

  returns_keep : (f : ℕ) (n : Node) (o : Else) → Keeps (rules.returns_unit f n o)
  returns_keep f n named.absent = one_keeps n _ _ tt
  returns_keep f n (named.present e) = one_keeps (node_of e) _ _ tt

  tail_before_keeps : (n : Node) (o : Else) → Keeps (rules.tail_before n o)
  tail_before_keeps n named.absent = nothing_keeps
  tail_before_keeps n (named.present e) = before_keeps n n.site (node_of e)

  tail_after_keeps : (n : Node) (d : Bool) (o : Else) → Keeps (rules.tail_after n d o)
  tail_after_keeps n d named.absent = unit_keeps n d
  tail_after_keeps n d (named.present e) = after_keeps n n.site (never e) (node_of e)

  mutual
    exp_keeps : (f : ℕ) (e : Exp) → MadeExp P e → Keeps (rules.of_exp f e)
    exp_keeps f (named.var n x) h ds m = place_keeps n x.number [] n.site _ (named_keeps n x x.known ds m)
    exp_keeps f (named.borrow n w (named.var k x)) h ds m = borrowed_keeps n w k x [] _ (place_keeps k x.number [] k.site _ (named_keeps k x x.known ds m))
    exp_keeps f (named.tuple n es) h ds m = one_keeps n _ _ tt _ (own_keeps n _ _ _ (each_keeps f rules.members 0 es h.1 ds m))
    exp_keeps f (named.call n g es) h ds m = own_keeps n _ _ _ (each_keeps f (rules.parameters g) 0 es h.1 _ (one_keeps n _ _ tt ds m))
    exp_keeps f (named.variant n i v es) h ds m = own_keeps n _ _ _ (each_keeps f (rules.parts_of i v) 0 es h.1 _ (one_keeps n _ _ tt ds m))
    exp_keeps f (named.assign n (named.var k x) e) h ds m = own_keeps n _ _ _ (exp_keeps f e h.3 _ (one_keeps (node_of e) _ _ tt _ (place_keeps k x.number [] k.site _ (named_keeps k x x.known ds m))))
    exp_keeps f (named.gives n p x d e) h ds m = own_keeps n _ _ _ (given_keeps n p x d (node_of e) (never e) _ (exp_keeps f e h.4 ds m))
    exp_keeps f (named.block n b) h ds m = join_keeps n (body_never b) _ (after_keeps n n.site (body_never b) (body_node b) _ (body_keeps f b h.1 _ (before_keeps n n.site (body_node b) ds m)))
    exp_keeps f (named.match n e l) h ds m = join_keeps n (all_never l) _ (arms_keep f n (rules.matched e) (node_of e) l h.2 _ (not_never_keeps (node_of e) (never e) _ (exp_keeps f e h.1 ds m)))
    exp_keeps f (named.return n o) h ds m = never_keeps n n.site _ (returned_keeps f o h.1 _ (returns_keep f n o ds m))
    exp_keeps f (named.break n l) h ds m = never_keeps n n.site ds m
    exp_keeps f (named.continue n l) h ds m = never_keeps n n.site ds m
    exp_keeps f _ h ds m = absurd h

    each_keeps : (f : ℕ) (w : rules.Listed) (k : ℕ) (es : Exps) → MadeExps P es → Keeps (rules.of_each f w k es)
    each_keeps f w k named.no_exp h ds m = m
    each_keeps f w k (named.exp_and e es) h ds m = each_keeps f w (suc k) es h.1 _ (each_after_keeps w e _ (exp_keeps f e h.0 _ (each_before_keeps w k (node_of e) ds m)))

    returned_keeps : (f : ℕ) (o : Else) → MadeElse P o → Keeps (rules.of_returned f o)
    returned_keeps f named.absent h = nothing_keeps
    returned_keeps f (named.present e) h = exp_keeps f e h

    arms_keep : (f : ℕ) (n : Node) (s : rules.Matched) (k : Node) (l : Arms) → MadeArms P l → Keeps (rules.of_arms f n s k l)
    arms_keep f n s k named.no_arm h ds m = m
    arms_keep f n s k (named.arm_and p e l) h ds m = arms_keep f n s k l h.2 _ (after_keeps n n.site (never e) (node_of e) _ (exp_keeps f e h.1 _ (before_keeps n n.site (node_of e) _ (whole_keeps s _ p h.0 ds m))))

    body_keeps : (f : ℕ) (b : Body) → MadeBody P b → Keeps (rules.of_body f b)
    body_keeps f (named.body n ss o) h ds m = join_keeps n (body_never (named.body n ss o)) _ (tail_after_keeps n (some_diverges ss) o _ (returned_keeps f o h.2 _ (tail_before_keeps n o _ (statements_keep f ss h.1 ds m))))

    statement_keeps : (f : ℕ) (a : Statement) → MadeStatement P a → Keeps (rules.of_statement f a)
    statement_keeps f (named.declares n p t) h ds m = declared_keeps p t h.1 h.2 ds m
    statement_keeps f (named.lets n p t e) h ds m = initialised_keeps p t e h.1 _ (exp_keeps f e h.3 _ (typed_before_keeps t e h.2 ds m))
    statement_keeps f (named.evaluates n e s) h ds m = evaluated_keeps s (node_of e) (never e) _ (exp_keeps f e h.1 ds m)

    pub statements_keep : (f : ℕ) (ss : Statements) → MadeStatements P ss → Keeps (rules.of_statements f ss)
    statements_keep f named.no_statement h ds m = m
    statements_keep f (named.statement_and a ss) h ds m = statements_keep f ss h.1 _ (statement_keeps f a h.0 ds m)

  pub end_keeps : (f : ℕ) (n : Node) (d : Bool) (ss : Statements) (o : Else) → MadeStatements P ss → MadeElse P o → Keeps (of_end f n d ss o)
  end_keeps f n d ss o h k ds m = tail_after_keeps n (d || some_diverges ss) o _ (returned_keeps f o k _ (tail_before_keeps n o _ (statements_keep f ss h ds m)))
