-- What the rules ask of like trees is alike: one line a form.
use Rattle.std.proofs.Common.{ℕ, suc, Bool, true, false, List, [], ◌∷◌, Option}
use Rattle.rx_core.specs.declared.types.Kind.{Kind}
use Rattle.rx_core.specs.declared.types.Span.{Span}
use Rattle.rx_typed.specs.declared.nodes.Node.{Node}
use Rattle.rx_typed.specs.declared.nodes.Use.{Use}
use Rattle.rx_typed.specs.Named as named
use Rattle.rx_typed.specs.Named.{Written, Pattern, Exp, Exps, Else, Fields, Arms, Body, Statement, Statements, Parameter, Function, never, node_of, root}
use Rattle.rx_typeck_solver.specs.declared.facts.Rule.{Rule}
use Rattle.rx_typeck_solver.specs.declared.facts.Broken.{Broken}
use Rattle.rx_typeck_solver.specs.declared.facts.Subject.TheVariants as subject
use Rattle.rx_typeck_solver.specs.declared.facts.Passing.{Passing}
use Rattle.rx_typeck_solver.specs.declared.facts.Op.TheVariants as op
use Rattle.rx_typeck_solver.specs.declared.facts.Fact.TheVariants as fact
use Rattle.rx_typeck_solver.specs.declared.facts.Demand.{Demand}
use Rattle.rx_typeck_typed.specs.Asking.{asks, when, type_of}
use Rattle.rx_typeck_typed.specs.Demands as rules
use Rattle.rx_typeck_typed.specs.Demands.{Matched, Listed}
use Rattle.rx_engine_blocks.specs.Renumbering.{Renumbering, node_at}
use Rattle.rx_engine_blocks.specs.DemandsLike.{Is, DemandsLike}
use Rattle.rx_engine_blocks.specs.DemandsLike.Is.{itself}
use Rattle.rx_engine_typing.specs.Expecting.{expecting}
use Rattle.rx_engine_typing.specs.Renumbered.NodeAt.{renumbered}
use Rattle.rx_engine_blocks.specs.DemandsLike.DemandsLike.{like_no_demand}
use Rattle.rx_engine_typing.specs.Renumbered as like
use Rattle.rx_engine_typing.specs.Renumbered.{Holes, NodeAt, use_so, RenumberedType, RenumberedAnnotation, RenumberedPattern, RenumberedExp, RenumberedExps, RenumberedElse, RenumberedFields, RenumberedArms, RenumberedBody, RenumberedStatement, RenumberedStatements, RenumberedParameters, RenumberedNodes, RenumberedFunction}
use Rattle.rx_engine_typing.proofs.Looks.{is_and, like_written_node, like_node, like_body_node, like_root, like_never, like_else_never, like_all_never, like_body_never, tail_like, some_like, like_exp_nodes, like_arguments, like_names, like_matched, MatchedLike as matched, MatchedLike, Fits, RootLike, root_through}
use Rattle.rx_engine_typing.proofs.Looks.ThroughLike.{same}
use Rattle.rx_engine_typing.proofs.Rules.{asked, value_like, never_like, place_like, writable_like, assignable_like, own_like, expects_like, join_like, before_like, after_like, tested_like, printed_like, nothing_given_like, not_never_like, negated_like, inverted_like, updated_like, operation_like, named_like, given_like, whole_type_like, limits_like, whole_pattern_like, takes_like, holds_like, has_fields_like}

-- an assignment that gives a type, and one of the same that gives none, where what is assigned asks like things
abbrev pub GivenAsks : (r : Renumbering) → (List Demand → List Demand → Type 0) → ℕ → ℕ → Node → Node → Span → Span → Use → Bool → Option ℕ → Exp → Exp → Type 0
GivenAsks r Special f f' n p s t x m d e e' = ((ds ds' : List Demand) → DemandsLike r Special ds ds' → DemandsLike r Special (rules.of_exp f e ds) (rules.of_exp f' e' ds')) → (ds ds' : List Demand) → DemandsLike r Special ds ds'
    → DemandsLike r Special (rules.of_exp f (named.gives n p x d e) ds) (rules.of_exp f' (named.assign (node_at r n s) (named.var (node_at r p t) (use_so r m true x)) (expecting e')) ds')

-- what stands for a part asks like things
pub record Asks (r : Renumbering) (loops : ℕ → ℕ) (H : Holes) (Special : List Demand → List Demand → Type 0) : Type 0 where
  pub asks : (f : ℕ) (e e' : Exp) (ds ds' : List Demand) → H.expression e e' → DemandsLike r Special ds ds' → DemandsLike r Special (rules.of_exp f e ds) (rules.of_exp (r.items f) e' ds')
  pub block_asks : (f : ℕ) (b b' : Body) (ds ds' : List Demand) → H.block b b' → DemandsLike r Special ds ds' → DemandsLike r Special (rules.of_body f b ds) (rules.of_body (r.items f) b' ds')
  pub given_asks : (f : ℕ) (n p : Node) (s t : Span) (x : Use) (m : Bool) (d : Option ℕ) (e e' : Exp) → H.given_before (named.gives n p x d e) e' → NodeAt r (node_of e) (node_of e') → Is (never e) (never e') → GivenAsks r Special f (r.items f) n p s t x m d e e'

-- the same in one function, for another, and of returns where these stand for returns
pub record AsksIn (r : Renumbering) (loops : ℕ → ℕ) (H : Holes) (Special : List Demand → List Demand → Type 0) (f f' : ℕ) : Type 0 where
  pub asks : (e e' : Exp) (ds ds' : List Demand) → H.expression e e' → DemandsLike r Special ds ds' → DemandsLike r Special (rules.of_exp f e ds) (rules.of_exp f' e' ds')
  pub block_asks : (b b' : Body) (ds ds' : List Demand) → H.block b b' → DemandsLike r Special ds ds' → DemandsLike r Special (rules.of_body f b ds) (rules.of_body f' b' ds')
  pub given_asks : (n p : Node) (s t : Span) (x : Use) (m : Bool) (d : Option ℕ) (e e' : Exp) → H.given_before (named.gives n p x d e) e' → NodeAt r (node_of e) (node_of e') → Is (never e) (never e') → GivenAsks r Special f f' n p s t x m d e e'
  pub return_asks : (n : Node) (s : Span) (o o' : Else) (ds ds' : List Demand) → H.returns → RenumberedElse r loops H o o' → DemandsLike r Special ds ds'
      → DemandsLike r Special (rules.returns_unit f n o ds) (rules.returns_unit f' (node_at r n s) o' ds')

module _ (r : Renumbering) (loops : ℕ → ℕ) (H : Holes) (Special : List Demand → List Demand → Type 0) (fits : Fits r loops H Special) where
  -- where a function is that by the other number
  pub returns_like : (f : ℕ) (n : Node) (s : Span) (o o' : Else) (ds ds' : List Demand) → RenumberedElse r loops H o o' → DemandsLike r Special ds ds'
      → DemandsLike r Special (rules.returns_unit f n o ds) (rules.returns_unit (r.items f) (node_at r n s) o' ds')
  returns_like f n s o o' ds ds' like.RenumberedElse.absent d = asked r loops H Special fits n s _ _ _ _ d
  returns_like f n s o o' ds ds' (like.RenumberedElse.present k) d = expects_like r loops H Special fits (op.Result f) [] (like_node r loops H Special fits k) d

module _ (r : Renumbering) (loops : ℕ → ℕ) (H : Holes) (Special : List Demand → List Demand → Type 0) (fits : Fits r loops H Special) (f : ℕ) {f' : ℕ} (asking : AsksIn r loops H Special f f') where
  abbrev R : List Demand → List Demand → Type 0
  R = DemandsLike r Special

  at_node : {e e' : Exp} → RenumberedExp r loops H e e' → NodeAt r (node_of e) (node_of e')
  at_node h = like_node r loops H Special fits h

  -- what is assigned: the place expects its own type
  assigned_type_like : {e e' p p' : Node} {ds ds' : List Demand} → NodeAt r e e' → NodeAt r p p' → R ds ds' → R (rules.expects e op.Same (type_of p ∷ []) ds) (rules.expects e' op.Same (type_of p' ∷ []) ds')
  assigned_type_like h (renumbered {n = p}) d = expects_like r loops H Special fits op.Same (type_of p ∷ []) h d

  step_like : (n : Node) (s : Span) {a a' : Node} {ds ds' : List Demand} → NodeAt r a a' → R ds ds' → R (rules.step_at n op.Pointee a ds) (rules.step_at (node_at r n s) op.Pointee a' ds')
  step_like n s renumbered d = asked r loops H Special fits n s _ _ _ _ d

  field_like : (n : Node) (s : Span) (x : List ℕ) {a a' : Node} {ds ds' : List Demand} → NodeAt r a a' → R ds ds' → R (rules.step_at n (op.Field x) a ds) (rules.step_at (node_at r n s) (op.Field x) a' ds')
  field_like n s x renumbered d = asked r loops H Special fits n s _ _ _ _ d

  part_step_like : (n : Node) (s : Span) (i : ℕ) {a a' : Node} {ds ds' : List Demand} → NodeAt r a a' → R ds ds' → R (rules.step_at n (op.Part i) a ds) (rules.step_at (node_at r n s) (op.Part i) a' ds')
  part_step_like n s i renumbered d = asked r loops H Special fits n s _ _ _ _ d

  borrowed_front : (n : Node) (s : Span) (m : Bool) {a a' : Node} {ds ds' : List Demand} → NodeAt r a a' → R ds ds'
      → R (asks n (Broken.Mismatch Rule.Equal) false (fact.Equals (type_of n) (op.Referring m) (type_of a ∷ []) [] ∷ []) ds) (asks (node_at r n s) (Broken.Mismatch Rule.Equal) false (fact.Equals (type_of (node_at r n s)) (op.Referring m) (type_of a' ∷ []) [] ∷ []) ds')
  borrowed_front n s m renumbered d = asked r loops H Special fits n s _ _ _ _ d

  lent_like : (n : Node) (s : Span) (m : Bool) (x x' : ℕ) {w u w' u' : Bool} {ps ps' : List Passing} {ds ds' : List Demand} → RootLike r Special w u ps w' u' ps' → R ds ds'
      → R (when m (rules.writable n u x ps) ds) (when m (rules.writable (node_at r n s) u' x' ps') ds')
  lent_like n s true x x' h d = writable_like r loops H Special fits n s x x' h d
  lent_like n s false x x' h d = d

  borrowed_when : (n : Node) (s : Span) (m : Bool) {e e' : Exp} {ds ds' : List Demand} → RenumberedExp r loops H e e' → R ds ds'
      → R (when m (rules.writable n (root e).mutable (root e).number (rules.through e)) ds) (when m (rules.writable (node_at r n s) (root e').mutable (root e').number (rules.through e')) ds')
  borrowed_when n s m {e} {e'} h d = lent_like n s m (root e).number (root e').number (like_root r loops H Special fits h) d

  -- ---- lists of values

  abbrev listed_at : Listed → Listed
  listed_at rules.members = rules.members
  listed_at rules.values = rules.values
  listed_at (rules.parameters g) = rules.parameters (r.items g)
  listed_at (rules.parts_of i v) = rules.parts_of (r.items i) v

  each_before_like : (w : Listed) (k : ℕ) {n n' : Node} {ds ds' : List Demand} → NodeAt r n n' → R ds ds' → R (rules.each_before w k n ds) (rules.each_before (listed_at w) k n' ds')
  each_before_like rules.members k h d = d
  each_before_like rules.values k h d = d
  each_before_like (rules.parameters g) k h d = expects_like r loops H Special fits (op.Parameter g k) [] h d
  each_before_like (rules.parts_of i v) k h d = expects_like r loops H Special fits (op.PartOf i v k) [] h d

  each_after_like : (w : Listed) {e e' : Exp} {ds ds' : List Demand} → RenumberedExp r loops H e e' → R ds ds' → R (rules.each_after w e ds) (rules.each_after (listed_at w) e' ds')
  each_after_like rules.members h d = not_never_like r loops H Special fits (like_node r loops H Special fits h) (like_never r loops H Special fits h) d
  each_after_like rules.values h d = d
  each_after_like (rules.parameters g) h d = d
  each_after_like (rules.parts_of i v) h d = d

  -- ---- branches and tails

  branch_before_like : (n : Node) (s : Span) {o o' : Else} {b b' : Body} {ds ds' : List Demand} → RenumberedElse r loops H o o' → RenumberedBody r loops H b b' → R ds ds' → R (rules.branch_before n o b ds) (rules.branch_before (node_at r n s) o' b' ds')
  branch_before_like n s like.RenumberedElse.absent h d = d
  branch_before_like n s (like.RenumberedElse.present k) h d = before_like r loops H Special fits n s n.site (like_body_node r loops H Special fits h) d

  branch_after_like : (n : Node) (s : Span) {o o' : Else} {b b' : Body} {ds ds' : List Demand} → RenumberedElse r loops H o o' → RenumberedBody r loops H b b' → R ds ds' → R (rules.branch_after n o b ds) (rules.branch_after (node_at r n s) o' b' ds')
  branch_after_like n s like.RenumberedElse.absent h d = own_like r loops H Special fits n s op.Unit [] itself (nothing_given_like r loops H Special fits (like_body_node r loops H Special fits h) (like_body_never r loops H Special fits h) d)
  branch_after_like n s (like.RenumberedElse.present k) h d = after_like r loops H Special fits n s n.site (like_body_never r loops H Special fits h) (like_body_node r loops H Special fits h) d

  if_joins_like : (n : Node) (s : Span) {o o' : Else} {v v' : Bool} {ds ds' : List Demand} → RenumberedElse r loops H o o' → Is v v' → R ds ds' → R (rules.if_joins n o v ds) (rules.if_joins (node_at r n s) o' v' ds')
  if_joins_like n s like.RenumberedElse.absent h d = d
  if_joins_like n s (like.RenumberedElse.present k) h d = join_like r loops H Special fits n s h d

  pub tail_before_like : (n : Node) (s : Span) {o o' : Else} {ds ds' : List Demand} → RenumberedElse r loops H o o' → R ds ds' → R (rules.tail_before n o ds) (rules.tail_before (node_at r n s) o' ds')
  tail_before_like n s like.RenumberedElse.absent d = d
  tail_before_like n s (like.RenumberedElse.present k) d = before_like r loops H Special fits n s n.site (like_node r loops H Special fits k) d

  pub tail_after_like : (n : Node) (s : Span) {b b' : Bool} {o o' : Else} {ds ds' : List Demand} → Is b b' → RenumberedElse r loops H o o' → R ds ds' → R (rules.tail_after n b o ds) (rules.tail_after (node_at r n s) b' o' ds')
  tail_after_like n s i like.RenumberedElse.absent d = nothing_given_like r loops H Special fits (renumbered {n = n} {s = s}) i d
  tail_after_like n s i (like.RenumberedElse.present k) d = after_like r loops H Special fits n s n.site (like_never r loops H Special fits k) (like_node r loops H Special fits k) d

  loop_given_like : (n : Node) (s : Span) (k : Bool) {ds ds' : List Demand} → R ds ds' → R (rules.loop_given n k ds) (rules.loop_given (node_at r n s) k ds')
  loop_given_like n s true d = own_like r loops H Special fits n s op.Unit [] itself d
  loop_given_like n s false d = never_like r loops H Special fits n s n.site d

  -- ---- statements

  one_variable_like : {p p' : Pattern} {ds ds' : List Demand} → RenumberedPattern r p p' → R ds ds' → R (rules.one_variable p ds) (rules.one_variable p' ds')
  one_variable_like like.RenumberedPattern.bind d = d
  one_variable_like (like.RenumberedPattern.wild {n = n} {s = s}) d = asked r loops H Special fits n s _ _ _ _ d
  one_variable_like (like.RenumberedPattern.whole_number {n = n} {s = s}) d = asked r loops H Special fits n s _ _ _ _ d
  one_variable_like (like.RenumberedPattern.truth {n = n} {s = s}) d = asked r loops H Special fits n s _ _ _ _ d
  one_variable_like (like.RenumberedPattern.tuple_pattern {n = n} {s = s} h) d = asked r loops H Special fits n s _ _ _ _ d
  one_variable_like (like.RenumberedPattern.variant_pattern {n = n} {s = s} h) d = asked r loops H Special fits n s _ _ _ _ d
  one_variable_like (like.RenumberedPattern.struct_pattern {n = n} {s = s} h) d = asked r loops H Special fits n s _ _ _ _ d

  -- a pattern that is matched with what a node has
  against : {c c' : Matched} {n n' : Node} {p p' : Pattern} {ds ds' : List Demand} → MatchedLike r loops H Special fits c c' → NodeAt r n n' → RenumberedPattern r p p' → R ds ds' → R (rules.whole_pattern c (type_of n) p ds) (rules.whole_pattern c' (type_of n') p' ds')
  against c (renumbered {n = n}) h d = whole_pattern_like r loops H Special fits (type_of n) c h d

  declared_like : {p p' : Pattern} {t t' : Option Written} {ds ds' : List Demand} → RenumberedPattern r p p' → RenumberedAnnotation r t t' → R ds ds' → R (rules.declared p t ds) (rules.declared p' t' ds')
  declared_like h like.RenumberedAnnotation.no_type d = one_variable_like h d
  declared_like h (like.RenumberedAnnotation.a_type k) d = against matched.a_value (like_written_node r loops H Special fits k) h (whole_type_like r loops H Special fits k d)

  typed_before_like : {t t' : Option Written} {e e' : Exp} {ds ds' : List Demand} → RenumberedAnnotation r t t' → RenumberedExp r loops H e e' → R ds ds' → R (rules.typed_before t e ds) (rules.typed_before t' e' ds')
  typed_before_like like.RenumberedAnnotation.no_type h d = d
  typed_before_like (like.RenumberedAnnotation.a_type k) h d = assigned_type_like (like_node r loops H Special fits h) (like_written_node r loops H Special fits k) (whole_type_like r loops H Special fits k d)

  initialised_by_like : {v v' : Bool} {p p' : Pattern} {c c' : Matched} {n n' : Node} {ds ds' : List Demand} → Is v v' → RenumberedPattern r p p' → MatchedLike r loops H Special fits c c' → NodeAt r n n' → R ds ds' → R (rules.initialised_by v p c n ds) (rules.initialised_by v' p' c' n' ds')
  initialised_by_like {v = true} itself h c n d = one_variable_like h d
  initialised_by_like {v = false} itself h c n d = against c n h d

  initialised_like : {p p' : Pattern} {t t' : Option Written} {e e' : Exp} {ds ds' : List Demand} → RenumberedPattern r p p' → RenumberedAnnotation r t t' → RenumberedExp r loops H e e' → R ds ds' → R (rules.initialised p t e ds) (rules.initialised p' t' e' ds')
  initialised_like h like.RenumberedAnnotation.no_type k d = initialised_by_like (like_never r loops H Special fits k) h (like_matched r loops H Special fits k) (like_node r loops H Special fits k) d
  initialised_like h (like.RenumberedAnnotation.a_type t) k d = against (like_matched r loops H Special fits k) (like_written_node r loops H Special fits t) h d

  evaluated_like : (c : Bool) {n n' : Node} {v v' : Bool} {ds ds' : List Demand} → NodeAt r n n' → Is v v' → R ds ds' → R (rules.evaluated c n v ds) (rules.evaluated c n' v' ds')
  evaluated_like true h i d = d
  evaluated_like false h i d = nothing_given_like r loops H Special fits h i d

  -- ---- expressions

  mutual
    pub exp_alike : {e e' : Exp} {ds ds' : List Demand} → RenumberedExp r loops H e e' → R ds ds' → R (rules.of_exp f e ds) (rules.of_exp f' e' ds')
    exp_alike {ds = ds} {ds' = ds'} (like.RenumberedExp.hole {e = e} {e' = e'} h) d = asking.asks e e' ds ds' h d
    exp_alike (like.RenumberedExp.int {n = n} {s = s}) d = asked r loops H Special fits n s _ _ _ _ (value_like r loops H Special fits n s n.site (asked r loops H Special fits n s _ _ _ _ d))
    exp_alike (like.RenumberedExp.bool {n = n} {s = s}) d = own_like r loops H Special fits n s op.Truth [] itself d
    exp_alike (like.RenumberedExp.tuple {n = n} {s = s} {es = es} h) d = limits_like r loops H Special fits (renumbered {n = n} {s = s}) (own_like r loops H Special fits n s op.Tuple (rules.exp_nodes es) (like_exp_nodes r loops H Special fits h) (each_like rules.members 0 h d))
    exp_alike (like.RenumberedExp.var {n = n} {s = s} {x = x}) d = place_like r loops H Special fits n s x.number (r.variables x.number) n.site same (named_like r loops H Special fits n s x x.known d)
    exp_alike (like.RenumberedExp.other_var {n = n} {s = s} {x = x} {m = m} {k = k} u) d = place_like r loops H Special fits n s x.number (r.variables x.number) n.site same ((fits.uses x m k u).named n s _ _ d)
    exp_alike (like.RenumberedExp.field {n = n} {s = s} {e = e} {e' = e'} {x = x} h) d = place_like r loops H Special fits n s (root e).number (root e').number n.site (root_through (like_root r loops H Special fits (like.RenumberedExp.field {n = n} {s = s} {x = x} h))) (field_like n s x (like_node r loops H Special fits h) (exp_alike h d))
    exp_alike (like.RenumberedExp.part {n = n} {s = s} {e = e} {e' = e'} {i = i} h) d = place_like r loops H Special fits n s (root e).number (root e').number n.site (root_through (like_root r loops H Special fits (like.RenumberedExp.part {n = n} {s = s} {i = i} h))) (part_step_like n s i (like_node r loops H Special fits h) (exp_alike h d))
    exp_alike (like.RenumberedExp.deref {n = n} {s = s} {e = e} {e' = e'} h) d = place_like r loops H Special fits n s (root e).number (root e').number n.site (root_through (like_root r loops H Special fits (like.RenumberedExp.deref {n = n} {s = s} h))) (step_like n s (like_node r loops H Special fits h) (exp_alike h d))
    exp_alike (like.RenumberedExp.negate {n = n} {s = s} h) d = negated_like r loops H Special fits n s (like_node r loops H Special fits h) (like_never r loops H Special fits h) (exp_alike h d)
    exp_alike (like.RenumberedExp.invert {n = n} {s = s} h) d = inverted_like r loops H Special fits n s (like_node r loops H Special fits h) (like_never r loops H Special fits h) (exp_alike h d)
    exp_alike (like.RenumberedExp.borrow {n = n} {s = s} {m = m} h) d = value_like r loops H Special fits n s n.site (borrowed_when n s m h (limits_like r loops H Special fits (renumbered {n = n} {s = s}) (borrowed_front n s m (like_node r loops H Special fits h) (exp_alike h d))))
    exp_alike (like.RenumberedExp.binary {n = n} {s = s} {o = o} h k) d = operation_like r loops H Special fits n s o (like_node r loops H Special fits h) (like_never r loops H Special fits h) (like_node r loops H Special fits k) (like_never r loops H Special fits k) (exp_alike k (exp_alike h d))
    exp_alike (like.RenumberedExp.assign {n = n} {s = s} h k) d = own_like r loops H Special fits n s op.Unit [] itself (assignable_like r loops H Special fits n s h (exp_alike k (assigned_type_like (like_node r loops H Special fits k) (like_node r loops H Special fits h) (exp_alike h d))))
    exp_alike (like.RenumberedExp.gives {n = n} {p = p} {s = s} {t = t} {x = x} {m = m} {d = c} h) d = own_like r loops H Special fits n s op.Unit [] itself (given_like r loops H Special fits n p s t x m c (like_node r loops H Special fits h) (like_never r loops H Special fits h) (exp_alike h d))
    exp_alike {ds = ds} {ds' = ds'} (like.RenumberedExp.assigns {n = n} {p = p} {s = s} {t = t} {x = x} {m = m} {d = c} {e = e} {e' = e'} k h) d = asking.given_asks n p s t x m c e e' k (like_node r loops H Special fits h) (like_never r loops H Special fits h) (λ gs gs' g. exp_alike h g) ds ds' d
    exp_alike (like.RenumberedExp.update {n = n} {s = s} h k) d = own_like r loops H Special fits n s op.Unit [] itself (assignable_like r loops H Special fits n s h (updated_like r loops H Special fits n s (like_node r loops H Special fits h) (like_never r loops H Special fits h) (like_node r loops H Special fits k) (like_never r loops H Special fits k) (exp_alike k (exp_alike h d))))
    exp_alike (like.RenumberedExp.call {n = n} {s = s} {g = g} h) d = own_like r loops H Special fits n s (op.Result g) [] itself (each_like (rules.parameters g) 0 h (takes_like r loops H Special fits n s g (like_arguments r loops H Special fits h) d))
    exp_alike (like.RenumberedExp.hidden_call {n = n} {s = s} h) d = each_like rules.values 0 h (asked r loops H Special fits n s _ _ _ _ d)
    exp_alike (like.RenumberedExp.next_input {n = n} {s = s}) d = own_like r loops H Special fits n s (op.Integer Kind.I64) [] itself d
    exp_alike (like.RenumberedExp.variant {n = n} {s = s} {i = i} {v = v} h) d = own_like r loops H Special fits n s (op.Item i) [] itself (each_like (rules.parts_of i v) 0 h (holds_like r loops H Special fits n s i v (like_arguments r loops H Special fits h) d))
    exp_alike (like.RenumberedExp.make {n = n} {s = s} {i = i} h) d = own_like r loops H Special fits n s (op.Item i) [] itself (fields_like i h (has_fields_like r loops H Special fits n s i (like_names r loops H Special fits h) d))
    exp_alike (like.RenumberedExp.print {n = n} {s = s} h) d = own_like r loops H Special fits n s op.Unit [] itself (printed_like r loops H Special fits (like_node r loops H Special fits h) (like_never r loops H Special fits h) (exp_alike h d))
    exp_alike (like.RenumberedExp.block {n = n} {s = s} h) d = join_like r loops H Special fits n s (like_body_never r loops H Special fits h) (after_like r loops H Special fits n s n.site (like_body_never r loops H Special fits h) (like_body_node r loops H Special fits h) (body_alike h (before_like r loops H Special fits n s n.site (like_body_node r loops H Special fits h) d)))
    exp_alike (like.RenumberedExp.if {n = n} {s = s} c b o) d = if_joins_like n s o (is_and (like_body_never r loops H Special fits b) (like_else_never r loops H Special fits o)) (else_like n s o (branch_after_like n s o b (body_alike b (branch_before_like n s o b (tested_like r loops H Special fits (like_node r loops H Special fits c) (like_never r loops H Special fits c) (exp_alike c d))))))
    exp_alike (like.RenumberedExp.if_let {n = n} {s = s} p e b o) d = if_joins_like n s o (is_and (like_body_never r loops H Special fits b) (like_else_never r loops H Special fits o)) (else_like n s o (branch_after_like n s o b (body_alike b (branch_before_like n s o b (against (like_matched r loops H Special fits e) (like_node r loops H Special fits e) p (not_never_like r loops H Special fits (like_node r loops H Special fits e) (like_never r loops H Special fits e) (exp_alike e d)))))))
    exp_alike (like.RenumberedExp.match {n = n} {s = s} e l) d = join_like r loops H Special fits n s (like_all_never r loops H Special fits l) (arms_like n s (like_matched r loops H Special fits e) (like_node r loops H Special fits e) l (not_never_like r loops H Special fits (like_node r loops H Special fits e) (like_never r loops H Special fits e) (exp_alike e d)))
    exp_alike (like.RenumberedExp.loop {n = n} {s = s} {k = k} b) d = loop_given_like n s k (nothing_given_like r loops H Special fits (like_body_node r loops H Special fits b) (like_body_never r loops H Special fits b) (body_alike b d))
    exp_alike (like.RenumberedExp.while {n = n} {s = s} c b) d = own_like r loops H Special fits n s op.Unit [] itself (nothing_given_like r loops H Special fits (like_body_node r loops H Special fits b) (like_body_never r loops H Special fits b) (body_alike b (tested_like r loops H Special fits (like_node r loops H Special fits c) (like_never r loops H Special fits c) (exp_alike c d))))
    exp_alike (like.RenumberedExp.while_let {n = n} {s = s} p e b) d = own_like r loops H Special fits n s op.Unit [] itself (nothing_given_like r loops H Special fits (like_body_node r loops H Special fits b) (like_body_never r loops H Special fits b) (body_alike b (against (like_matched r loops H Special fits e) (like_node r loops H Special fits e) p (not_never_like r loops H Special fits (like_node r loops H Special fits e) (like_never r loops H Special fits e) (exp_alike e d)))))
    exp_alike (like.RenumberedExp.break {n = n} {s = s}) d = never_like r loops H Special fits n s n.site d
    exp_alike (like.RenumberedExp.continue {n = n} {s = s}) d = never_like r loops H Special fits n s n.site d
    exp_alike {ds = ds} {ds' = ds'} (like.RenumberedExp.return {n = n} {s = s} {o = o} {o' = o'} k h) d = never_like r loops H Special fits n s n.site (returned_like h (asking.return_asks n s o o' ds ds' k h d))

    each_like : (w : Listed) (k : ℕ) {es es' : Exps} {ds ds' : List Demand} → RenumberedExps r loops H es es' → R ds ds' → R (rules.of_each f w k es ds) (rules.of_each f' (listed_at w) k es' ds')
    each_like w k like.RenumberedExps.no_exp d = d
    each_like w k (like.RenumberedExps.exp_and h hs) d = each_like w (suc k) hs (each_after_like w h (exp_alike h (each_before_like w k (like_node r loops H Special fits h) d)))

    fields_like : (i : ℕ) {fs fs' : Fields} {ds ds' : List Demand} → RenumberedFields r loops H fs fs' → R ds ds' → R (rules.of_fields f i fs ds) (rules.of_fields f' (r.items i) fs' ds')
    fields_like i like.RenumberedFields.no_field d = d
    fields_like i (like.RenumberedFields.field_and {x = x} h hs) d = fields_like i hs (exp_alike h (expects_like r loops H Special fits (op.FieldOf i x) [] (like_node r loops H Special fits h) d))

    else_like : (n : Node) (s : Span) {o o' : Else} {ds ds' : List Demand} → RenumberedElse r loops H o o' → R ds ds' → R (rules.of_else f n o ds) (rules.of_else f' (node_at r n s) o' ds')
    else_like n s like.RenumberedElse.absent d = d
    else_like n s (like.RenumberedElse.present h) d = after_like r loops H Special fits n s n.site (like_never r loops H Special fits h) (like_node r loops H Special fits h) (exp_alike h (before_like r loops H Special fits n s n.site (like_node r loops H Special fits h) d))

    pub returned_like : {o o' : Else} {ds ds' : List Demand} → RenumberedElse r loops H o o' → R ds ds' → R (rules.of_returned f o ds) (rules.of_returned f' o' ds')
    returned_like like.RenumberedElse.absent d = d
    returned_like (like.RenumberedElse.present h) d = exp_alike h d

    arms_like : (n : Node) (s : Span) {c c' : Matched} {m m' : Node} {l l' : Arms} {ds ds' : List Demand} → MatchedLike r loops H Special fits c c' → NodeAt r m m' → RenumberedArms r loops H l l' → R ds ds' → R (rules.of_arms f n c m l ds) (rules.of_arms f' (node_at r n s) c' m' l' ds')
    arms_like n s c m like.RenumberedArms.no_arm d = d
    arms_like n s c m (like.RenumberedArms.arm_and p h hs) d = arms_like n s c m hs (after_like r loops H Special fits n s n.site (like_never r loops H Special fits h) (like_node r loops H Special fits h) (exp_alike h (before_like r loops H Special fits n s n.site (like_node r loops H Special fits h) (against c m p d))))

    pub body_alike : {b b' : Body} {ds ds' : List Demand} → RenumberedBody r loops H b b' → R ds ds' → R (rules.of_body f b ds) (rules.of_body f' b' ds')
    body_alike {ds = ds} {ds' = ds'} (like.RenumberedBody.other_block {b = b} {b' = b'} h) d = asking.block_asks b b' ds ds' h d
    body_alike (like.RenumberedBody.body {n = n} {s = s} h o) d = join_like r loops H Special fits n s (tail_like r loops H Special fits (some_like r loops H Special fits h) o (like_else_never r loops H Special fits o)) (tail_after_like n s (some_like r loops H Special fits h) o (returned_like o (tail_before_like n s o (statements_like h d))))

    statement_like : {a a' : Statement} {ds ds' : List Demand} → RenumberedStatement r loops H a a' → R ds ds' → R (rules.of_statement f a ds) (rules.of_statement f' a' ds')
    statement_like (like.RenumberedStatement.declares p t) d = declared_like p t d
    statement_like (like.RenumberedStatement.lets p t e) d = initialised_like p t e (exp_alike e (typed_before_like t e d))
    statement_like (like.RenumberedStatement.evaluates {c = c} e) d = evaluated_like c (like_node r loops H Special fits e) (like_never r loops H Special fits e) (exp_alike e d)

    pub statements_like : {ss ss' : Statements} {ds ds' : List Demand} → RenumberedStatements r loops H ss ss' → R ds ds' → R (rules.of_statements f ss ds) (rules.of_statements f' ss' ds')
    statements_like like.RenumberedStatements.no_statement d = d
    statements_like (like.RenumberedStatements.statement_and h hs) d = statements_like hs (statement_like h d)

-- ---- functions

module _ (r : Renumbering) (loops : ℕ → ℕ) (H : Holes) (Special : List Demand → List Demand → Type 0) (fits : Fits r loops H Special) (f : ℕ) (asking : AsksIn r loops H Special f (r.items f)) where
  abbrev S : List Demand → List Demand → Type 0
  S = DemandsLike r Special

  parameter_like : (x : ℕ) {t t' : Written} {ds ds' : List Demand} → RenumberedType r t t' → S ds ds' → S (rules.of_parameter (record { variable = x; typ = t }) ds) (rules.of_parameter (record { variable = r.variables x; typ = t' }) ds')
  parameter_like x h d = given (like_written_node r loops H Special fits h) (whole_type_like r loops H Special fits h d)
    where
      given : {n n' : Node} {ds ds' : List Demand} → NodeAt r n n' → S ds ds'
          → S (asks n (Broken.Mismatch Rule.Equal) false (fact.Equals (subject.Variable x) op.Same (type_of n ∷ []) [] ∷ []) ds) (asks n' (Broken.Mismatch Rule.Equal) false (fact.Equals (subject.Variable (r.variables x)) op.Same (type_of n' ∷ []) [] ∷ []) ds')
      given (renumbered {n = n} {s = s}) d = asked r loops H Special fits n s _ _ _ _ d

  parameters_like : {xs xs' : List Parameter} {ds ds' : List Demand} → RenumberedParameters r xs xs' → S ds ds' → S (rules.of_parameters xs ds) (rules.of_parameters xs' ds')
  parameters_like like.RenumberedParameters.no_parameter d = d
  parameters_like (like.RenumberedParameters.parameter_and {x = x} h hs) d = parameters_like hs (parameter_like x h d)

  result_like : {t t' : Option Written} {ds ds' : List Demand} → RenumberedAnnotation r t t' → S ds ds' → S (rules.of_result t ds) (rules.of_result t' ds')
  result_like like.RenumberedAnnotation.no_type d = d
  result_like (like.RenumberedAnnotation.a_type h) d = whole_type_like r loops H Special fits h d

  never_given_like : {ns ns' : List Node} {ds ds' : List Demand} → RenumberedNodes r ns ns' → S ds ds' → S (rules.of_never_given ns ds) (rules.of_never_given ns' ds')
  never_given_like like.RenumberedNodes.no_node d = d
  never_given_like (like.RenumberedNodes.node_and {n = n} {s = s} hs) d = never_given_like hs (asked r loops H Special fits n s _ _ _ _ d)

  function_from : (i' : ℕ) {xs xs' : List Parameter} {t t' : Option Written} {b b' : Body} {ns ns' : List Node} → Is (r.items f) i' → RenumberedParameters r xs xs' → RenumberedAnnotation r t t' → RenumberedBody r loops H b b' → RenumberedNodes r ns ns'
      → S (rules.demands (record { item = f; params = xs; result = t; body = b; never_given = ns })) (rules.demands (record { item = i'; params = xs'; result = t'; body = b'; never_given = ns' }))
  function_from i' itself x t b n = never_given_like n (body_alike r loops H Special fits f asking b (expects_like r loops H Special fits (op.Result f) [] (like_body_node r loops H Special fits b) (result_like t (parameters_like x like_no_demand))))

  -- of the function with this number
  pub function_alike : {i' : ℕ} {xs xs' : List Parameter} {t t' : Option Written} {b b' : Body} {ns ns' : List Node}
      → RenumberedFunction r loops H (record { item = f; params = xs; result = t; body = b; never_given = ns }) (record { item = i'; params = xs'; result = t'; body = b'; never_given = ns' })
      → S (rules.demands (record { item = f; params = xs; result = t; body = b; never_given = ns })) (rules.demands (record { item = i'; params = xs'; result = t'; body = b'; never_given = ns' }))
  function_alike {i'} h = function_from i' h.item h.params h.result h.body h.never_given

-- ---- in all functions

module _ (r : Renumbering) (loops : ℕ → ℕ) (H : Holes) (Special : List Demand → List Demand → Type 0) (fits : Fits r loops H Special) (asking : Asks r loops H Special) where
  pub its : (f : ℕ) → AsksIn r loops H Special f (r.items f)
  its f = record { asks = asking.asks f; block_asks = asking.block_asks f; given_asks = asking.given_asks f; return_asks = λ n s o o' ds ds' k h d. returns_like r loops H Special fits f n s o o' ds ds' h d }

  pub exp_like : (f : ℕ) {e e' : Exp} {ds ds' : List Demand} → RenumberedExp r loops H e e' → DemandsLike r Special ds ds' → DemandsLike r Special (rules.of_exp f e ds) (rules.of_exp (r.items f) e' ds')
  exp_like f h d = exp_alike r loops H Special fits f (its f) h d

  pub body_like : (f : ℕ) {b b' : Body} {ds ds' : List Demand} → RenumberedBody r loops H b b' → DemandsLike r Special ds ds' → DemandsLike r Special (rules.of_body f b ds) (rules.of_body (r.items f) b' ds')
  body_like f h d = body_alike r loops H Special fits f (its f) h d

  pub function_like : {f f' : Function} → RenumberedFunction r loops H f f' → DemandsLike r Special (rules.demands f) (rules.demands f')
  function_like {f} {f'} h = function_alike r loops H Special fits f.item (its f.item) h
