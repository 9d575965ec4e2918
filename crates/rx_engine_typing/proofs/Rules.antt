-- Each rule asks like things of like nodes.
use Rattle.std.proofs.Common.{ℕ, suc, Bool, true, false, not, ◌||◌, List, [], ◌∷◌, ◌++◌, map, append-nil, subst, Option, Some, None, option_map}
use Rattle.rx_core.specs.declared.types.Span.{Span}
use Rattle.rx_tree.specs.declared.tree.BinaryOp.{BinaryOp}
use Rattle.rx_typed.specs.declared.nodes.Node.{Node}
use Rattle.rx_typed.specs.declared.nodes.Site.{Site}
use Rattle.rx_typed.specs.declared.nodes.Use.{Use}
use Rattle.rx_typed.specs.Named.{Written, WrittenTypes, Pattern, Patterns, FieldPatterns, Exp, root}
use Rattle.rx_typeck_solver.specs.declared.facts.Rule.{Rule}
use Rattle.rx_typeck_solver.specs.declared.facts.Broken.{Broken}
use Rattle.rx_typeck_solver.specs.declared.facts.Subject.{Subject}
use Rattle.rx_typeck_solver.specs.declared.facts.Subject.TheVariants as subject
use Rattle.rx_typeck_solver.specs.declared.facts.Passing.{Passing}
use Rattle.rx_typeck_solver.specs.declared.facts.Op.{Op}
use Rattle.rx_typeck_solver.specs.declared.facts.Op.TheVariants as op
use Rattle.rx_typeck_solver.specs.declared.facts.Test.{Test}
use Rattle.rx_typeck_solver.specs.declared.facts.Test.TheVariants as test
use Rattle.rx_typeck_solver.specs.declared.facts.Fact.{Fact}
use Rattle.rx_typeck_solver.specs.declared.facts.Fact.TheVariants as fact
use Rattle.rx_typeck_solver.specs.declared.facts.Demand.{Demand}
use Rattle.rx_typeck_typed.specs.Asking.{asks, when, typed, type_of}
use Rattle.rx_typeck_typed.specs.Demands as rules
use Rattle.rx_typeck_typed.specs.Demands.{Matched, Listed}
use Rattle.rx_engine_blocks.specs.Renumbering.{Renumbering, node_at, passing_at, subject_at, op_at, fact_at}
use Rattle.rx_engine_blocks.specs.DemandsLike.{Is, FactsLike, DemandsLike}
use Rattle.rx_engine_blocks.specs.DemandsLike.Is.{itself}
use Rattle.rx_engine_typing.specs.Renumbered.NodeAt.{renumbered}
use Rattle.rx_engine_blocks.specs.DemandsLike.FactLike.{like_fact}
use Rattle.rx_engine_blocks.specs.DemandsLike.FactsLike.{like_no_fact, like_more_facts}
use Rattle.rx_engine_blocks.specs.DemandsLike.DemandsLike.{like_more_demands, like_other_demands}
use Rattle.rx_engine_typing.specs.Renumbered as like
use Rattle.rx_engine_typing.specs.Renumbered.{Holes, NodeAt, use_at, use_so, RenumberedType, RenumberedTypes, RenumberedPattern, RenumberedPatterns, RenumberedFieldPatterns, RenumberedExp}
use Rattle.rx_engine_typing.proofs.Looks.{like_written_node, like_written_nodes, like_pattern_node, like_root, like_count, like_field_names, under_like, MatchedLike as matched, MatchedLike, PassingsAt, Fits, Longer, ThroughLike, RootLike}
use Rattle.rx_engine_typing.proofs.Looks.ThroughLike.{same, longer}
use Rattle.rx_engine_typing.proofs.Looks.RootLike.{plain, seen, remade}
use Rattle.rx_engine_typing.proofs.Looks.PassingsAt.{passings}

module _ (r : Renumbering) (loops : ℕ → ℕ) (H : Holes) (Special : List Demand → List Demand → Type 0) (fits : Fits r loops H Special) where
  abbrev R : List Demand → List Demand → Type 0
  R = DemandsLike r Special

  -- ---- one demand

  pub asked : (n : Node) (s : Span) (b b' : Broken) (o : Bool) (f : Fact) {ds ds' : List Demand} → R ds ds' → R (asks n b o (f ∷ []) ds) (asks (node_at r n s) b' o (fact_at r f ∷ []) ds')
  asked n s b b' o f d = like_more_demands d (record { node = itself; unsuffixed = itself; facts = like_more_facts like_fact like_no_fact })

  pub asked_all : (n : Node) (s : Span) (b b' : Broken) (o : Bool) {fs fs' : List Fact} {ds ds' : List Demand} → FactsLike r fs fs' → R ds ds' → R (asks n b o fs ds) (asks (node_at r n s) b' o fs' ds')
  asked_all n s b b' o h d = like_more_demands d (record { node = itself; unsuffixed = itself; facts = h })

  pub facts_then : {fs fs' gs gs' : List Fact} → FactsLike r fs fs' → FactsLike r gs gs' → FactsLike r (fs ++ gs) (fs' ++ gs')
  facts_then like_no_fact k = k
  facts_then (like_more_facts f h) k = like_more_facts f (facts_then h k)

  pub typed_like : (v : Bool) (f : Fact) → FactsLike r (typed v f) (typed v (fact_at r f))
  typed_like true f = like_no_fact
  typed_like false f = like_more_facts like_fact like_no_fact

  -- ---- values and places

  pub value_like : (n : Node) (s : Span) (t : Site) {ds ds' : List Demand} → R ds ds' → R (rules.value_in n t ds) (rules.value_in (node_at r n s) t ds')
  value_like n s Site.Place d = asked n s _ _ _ _ d
  value_like n s Site.Expects d = asked n s _ _ _ _ d
  value_like n s Site.Initialises d = asked n s _ _ _ _ d
  value_like n s Site.Reborrows d = asked n s _ _ _ _ d
  value_like n s Site.Value d = d
  value_like n s Site.Scrutinee d = d

  pub never_like : (n : Node) (s : Span) (t : Site) {ds ds' : List Demand} → R ds ds' → R (rules.never_in n t ds) (rules.never_in (node_at r n s) t ds')
  never_like n s Site.Place d = asked n s _ _ _ _ d
  never_like n s Site.Expects d = d
  never_like n s Site.Initialises d = d
  never_like n s Site.Reborrows d = d
  never_like n s Site.Value d = d
  never_like n s Site.Scrutinee d = d

  -- a test of a place whose variable is seen through a reference
  pub longer_like : Longer r Special → (k : ℕ) (n : Node) (s : Span) (b b' : Broken) (t t' : Test) (xs : List Subject) (anc ps : List Passing) {ds ds' : List Demand} → R ds ds'
      → R (asks n b false (fact.Passes t xs anc ps ∷ []) ds) (asks (node_at r n s) b' false (fact.Passes t' (map (subject_at r) xs) (map (passing_at r) anc) (map (passing_at r) ps ++ record { node = k; all = false } ∷ []) ∷ []) ds')
  longer_like l k n s b b' t t' xs anc ps d = like_other_demands _ _ d (l.lengthen n s b b' t t' xs anc ps k)

  pub place_like : (n : Node) (s : Span) (x x' : ℕ) (t : Site) {ps ps' : List Passing} {ds ds' : List Demand} → ThroughLike r Special ps ps' → R ds ds'
      → R (rules.place_in n x ps t ds) (rules.place_in (node_at r n s) x' ps' t ds')
  place_like n s x x' Site.Value same d = asked n s _ _ _ _ d
  place_like n s x x' Site.Place same d = d
  place_like n s x x' Site.Scrutinee same d = d
  place_like n s x x' Site.Expects same d = asked n s _ _ _ _ (asked n s _ _ _ _ (asked n s _ _ _ _ d))
  place_like n s x x' Site.Initialises same d = asked n s _ _ _ _ (asked n s _ _ _ _ d)
  place_like n s x x' Site.Reborrows same d = asked n s _ _ _ _ (asked n s _ _ _ _ (asked n s _ _ _ _ d))
  place_like n s x x' Site.Value (longer l k) d = longer_like l k n s _ _ _ _ _ _ _ d
  place_like n s x x' Site.Place (longer l k) d = d
  place_like n s x x' Site.Scrutinee (longer l k) d = d
  place_like n s x x' Site.Expects (longer l k) d = longer_like l k n s _ _ _ _ _ _ _ (longer_like l k n s _ _ _ _ _ _ _ (asked n s _ _ _ _ d))
  place_like n s x x' Site.Initialises (longer l k) d = longer_like l k n s _ _ _ _ _ _ _ (asked n s _ _ _ _ d)
  place_like n s x x' Site.Reborrows (longer l k) d = longer_like l k n s _ _ _ _ _ _ _ (longer_like l k n s _ _ _ _ _ _ _ (asked n s _ _ _ _ d))

  -- a demand that the answer adds, and one that it has no more
  extra : (ds ds' : List Demand) (d' : Demand) → Special [] (d' ∷ []) → R ds ds' → R ds (ds' ++ d' ∷ [])
  extra ds ds' d' z d = subst (λ xs. R xs (ds' ++ d' ∷ [])) (append-nil ds) (like_other_demands [] (d' ∷ []) d z)

  fewer : (ds ds' : List Demand) (d : Demand) → Special (d ∷ []) [] → R ds ds' → R (ds ++ d ∷ []) ds'
  fewer ds ds' d z h = subst (λ xs. R (ds ++ d ∷ []) xs) (append-nil ds') (like_other_demands (d ∷ []) [] h z)

  pub writable_like : (n : Node) (s : Span) (x x' : ℕ) {w m w' m' : Bool} {ps ps' : List Passing} {ds ds' : List Demand} → RootLike r Special w m ps w' m' ps' → R ds ds'
      → R (rules.writable n m x ps ds) (rules.writable (node_at r n s) m' x' ps' ds')
  writable_like n s x x' plain d = asked n s _ _ _ _ d
  writable_like n s x x' (seen l k) d = longer_like l k n s _ _ _ _ _ _ _ d
  writable_like n s x x' {m = m} {m' = m'} (remade l) d = extra _ _ _ (l.new n s _ m' _) (fewer _ _ _ (l.lost n _ m _) d)

  assigned_like : (n : Node) (s : Span) (x x' : ℕ) {w m w' m' : Bool} {ps ps' : List Passing} {ds ds' : List Demand} → RootLike r Special w m ps w' m' ps' → R ds ds'
      → R (when (not w) (rules.writable n m x ps) ds) (when (not w') (rules.writable (node_at r n s) m' x' ps') ds')
  assigned_like n s x x' {w = true} plain d = d
  assigned_like n s x x' {w = false} plain d = asked n s _ _ _ _ d
  assigned_like n s x x' {w = true} {m' = m'} (seen l k) d = extra _ _ _ (l.assigned n s _ m' _) d
  assigned_like n s x x' {w = false} (seen l k) d = longer_like l k n s _ _ _ _ _ _ _ d
  assigned_like n s x x' {w = true} (remade l) d = d
  assigned_like n s x x' {w = false} (remade l) d = writable_like n s x x' {w = false} (remade l) d

  pub assignable_like : (n : Node) (s : Span) {p p' : Exp} {ds ds' : List Demand} → RenumberedExp r loops H p p' → R ds ds' → R (rules.assignable n p ds) (rules.assignable (node_at r n s) p' ds')
  assignable_like n s {p} {p'} h d = assigned_like n s (root p).number (root p').number (like_root r loops H Special fits h) d

  -- ---- what has a type of its own

  pub own_like : (n : Node) (s : Span) (o : Op) (xs : List Subject) {xs' : List Subject} {ds ds' : List Demand} → Is (map (subject_at r) xs) xs' → R ds ds'
      → R (rules.own n o xs ds) (rules.own (node_at r n s) (op_at r o) xs' ds')
  own_like n s o xs itself d = value_like n s n.site (asked n s _ _ _ _ d)

  pub expects_like : {n n' : Node} (o : Op) (xs : List Subject) {ds ds' : List Demand} → NodeAt r n n' → R ds ds'
      → R (rules.expects n o xs ds) (rules.expects n' (op_at r o) (map (subject_at r) xs) ds')
  expects_like o xs (renumbered {n = n} {s = s}) d = asked n s _ _ _ _ d

  -- ---- what joins values

  pub joins_like : (n : Node) (s : Span) (t : Site) {ds ds' : List Demand} → R ds ds' → R (rules.joins n t ds) (rules.joins (node_at r n s) t ds')
  joins_like n s Site.Value d = d
  joins_like n s Site.Place d = asked n s _ _ _ _ d
  joins_like n s Site.Scrutinee d = d
  joins_like n s Site.Reborrows d = asked n s _ _ _ _ d
  joins_like n s Site.Expects d = asked n s _ _ _ _ d
  joins_like n s Site.Initialises d = asked n s _ _ _ _ d

  pub join_like : (n : Node) (s : Span) {v v' : Bool} {ds ds' : List Demand} → Is v v' → R ds ds' → R (rules.join n v ds) (rules.join (node_at r n s) v' ds')
  join_like n s {v = true} itself d = never_like n s n.site d
  join_like n s {v = false} itself d = joins_like n s n.site d

  pub before_like : (n : Node) (s : Span) (t : Site) {m m' : Node} {ds ds' : List Demand} → NodeAt r m m' → R ds ds' → R (rules.part_before n t m ds) (rules.part_before (node_at r n s) t m' ds')
  before_like n s Site.Expects (renumbered {n = m} {s = u}) d = asked m u _ _ _ _ d
  before_like n s Site.Initialises (renumbered {n = m} {s = u}) d = asked m u _ _ _ _ d
  before_like n s Site.Value h d = d
  before_like n s Site.Place h d = d
  before_like n s Site.Scrutinee h d = d
  before_like n s Site.Reborrows h d = d

  as_part_like : (n : Node) (s : Span) {v v' : Bool} {m m' : Node} {ds ds' : List Demand} → Is v v' → NodeAt r m m' → R ds ds' → R (rules.as_part n v m ds) (rules.as_part (node_at r n s) v' m' ds')
  as_part_like n s {v = true} itself h d = d
  as_part_like n s {v = false} itself renumbered d = asked n s _ _ _ _ d

  pub after_like : (n : Node) (s : Span) (t : Site) {v v' : Bool} {m m' : Node} {ds ds' : List Demand} → Is v v' → NodeAt r m m' → R ds ds' → R (rules.part_after n t v m ds) (rules.part_after (node_at r n s) t v' m' ds')
  after_like n s Site.Expects i h d = d
  after_like n s Site.Initialises i h d = d
  after_like n s Site.Value i h d = as_part_like n s i h d
  after_like n s Site.Place i h d = as_part_like n s i h d
  after_like n s Site.Scrutinee i h d = as_part_like n s i h d
  after_like n s Site.Reborrows i h d = as_part_like n s i h d

  pub tested_like : {n n' : Node} {v v' : Bool} {ds ds' : List Demand} → NodeAt r n n' → Is v v' → R ds ds' → R (rules.tested n v ds) (rules.tested n' v' ds')
  tested_like {v = true} h itself d = d
  tested_like {v = false} (renumbered {n = n} {s = s}) itself d = asked n s _ _ _ _ d

  pub printed_like : {n n' : Node} {v v' : Bool} {ds ds' : List Demand} → NodeAt r n n' → Is v v' → R ds ds' → R (rules.printed n v ds) (rules.printed n' v' ds')
  printed_like {v = true} h itself d = d
  printed_like {v = false} (renumbered {n = n} {s = s}) itself d = asked n s _ _ _ _ d

  pub nothing_given_like : {n n' : Node} {v v' : Bool} {ds ds' : List Demand} → NodeAt r n n' → Is v v' → R ds ds' → R (rules.nothing_given n v ds) (rules.nothing_given n' v' ds')
  nothing_given_like {v = true} h itself d = d
  nothing_given_like {v = false} (renumbered {n = n} {s = s}) itself d = asked n s _ _ _ _ d

  pub not_never_like : {n n' : Node} {v v' : Bool} {ds ds' : List Demand} → NodeAt r n n' → Is v v' → R ds ds' → R (rules.not_never n v ds) (rules.not_never n' v' ds')
  not_never_like {v = false} h itself d = d
  not_never_like {v = true} (renumbered {n = n} {s = s}) itself d = asked n s _ _ _ _ d

  -- ---- operators

  pub negated_like : (n : Node) (s : Span) {a a' : Node} {x x' : Bool} {ds ds' : List Demand} → NodeAt r a a' → Is x x' → R ds ds' → R (rules.negated n a x ds) (rules.negated (node_at r n s) a' x' ds')
  negated_like n s {x = x} renumbered itself d = value_like n s n.site (asked_all n s _ _ _ (facts_then (typed_like x _) (like_more_facts like_fact like_no_fact)) d)

  pub inverted_like : (n : Node) (s : Span) {a a' : Node} {x x' : Bool} {ds ds' : List Demand} → NodeAt r a a' → Is x x' → R ds ds' → R (rules.inverted n a x ds) (rules.inverted (node_at r n s) a' x' ds')
  inverted_like n s {x = x} renumbered itself d = own_like n s op.Truth [] itself (asked_all n s _ _ _ (typed_like x _) d)

  arithmetic_like : (n : Node) (s : Span) {a a' b b' : Node} {x x' y y' : Bool} {ds ds' : List Demand} → NodeAt r a a' → Is x x' → NodeAt r b b' → Is y y' → R ds ds' → R (rules.arithmetic n a x b y ds) (rules.arithmetic (node_at r n s) a' x' b' y' ds')
  arithmetic_like n s {x = x} {y = y} renumbered itself renumbered itself d = value_like n s n.site (asked_all n s _ _ _ (facts_then (facts_then (typed_like x _) (typed_like y _)) (like_more_facts like_fact like_no_fact)) d)

  equality_like : (n : Node) (s : Span) {a a' b b' : Node} {x x' y y' : Bool} {ds ds' : List Demand} → NodeAt r a a' → Is x x' → NodeAt r b b' → Is y y' → R ds ds' → R (rules.equality n a x b y ds) (rules.equality (node_at r n s) a' x' b' y' ds')
  equality_like n s {x = x} {y = y} renumbered itself renumbered itself d = own_like n s op.Truth [] itself (asked_all n s _ _ _ (facts_then (facts_then (typed_like x _) (typed_like y _)) (typed_like (x || y) _)) d)

  order_like : (n : Node) (s : Span) {a a' b b' : Node} {x x' y y' : Bool} {ds ds' : List Demand} → NodeAt r a a' → Is x x' → NodeAt r b b' → Is y y' → R ds ds' → R (rules.order n a x b y ds) (rules.order (node_at r n s) a' x' b' y' ds')
  order_like n s {x = x} {y = y} renumbered itself renumbered itself d = own_like n s op.Truth [] itself (asked_all n s _ _ _ (facts_then (facts_then (typed_like x _) (typed_like y _)) (typed_like (x || y) _)) d)

  lazy_like : (n : Node) (s : Span) {a a' b b' : Node} {x x' y y' : Bool} {ds ds' : List Demand} → NodeAt r a a' → Is x x' → NodeAt r b b' → Is y y' → R ds ds' → R (rules.lazy n a x b y ds) (rules.lazy (node_at r n s) a' x' b' y' ds')
  lazy_like n s {x = x} {y = y} renumbered itself renumbered itself d = own_like n s op.Truth [] itself (asked_all n s _ _ _ (facts_then (typed_like x _) (typed_like y _)) d)

  pub updated_like : (n : Node) (s : Span) {a a' b b' : Node} {x x' y y' : Bool} {ds ds' : List Demand} → NodeAt r a a' → Is x x' → NodeAt r b b' → Is y y' → R ds ds' → R (rules.updated n a x b y ds) (rules.updated (node_at r n s) a' x' b' y' ds')
  updated_like n s {x = x} {y = y} renumbered itself renumbered itself d = asked_all n s _ _ _ (facts_then (facts_then (typed_like x _) (typed_like y _)) (typed_like (x || y) _)) d

  pub operation_like : (n : Node) (s : Span) (o : BinaryOp) {a a' b b' : Node} {x x' y y' : Bool} {ds ds' : List Demand} → NodeAt r a a' → Is x x' → NodeAt r b b' → Is y y' → R ds ds' → R (rules.operation o n a x b y ds) (rules.operation o (node_at r n s) a' x' b' y' ds')
  operation_like n s BinaryOp.Or h i k j d = lazy_like n s h i k j d
  operation_like n s BinaryOp.And h i k j d = lazy_like n s h i k j d
  operation_like n s BinaryOp.Eq h i k j d = equality_like n s h i k j d
  operation_like n s BinaryOp.Ne h i k j d = equality_like n s h i k j d
  operation_like n s BinaryOp.Lt h i k j d = order_like n s h i k j d
  operation_like n s BinaryOp.Le h i k j d = order_like n s h i k j d
  operation_like n s BinaryOp.Gt h i k j d = order_like n s h i k j d
  operation_like n s BinaryOp.Ge h i k j d = order_like n s h i k j d
  operation_like n s _ h i k j d = arithmetic_like n s h i k j d

  -- whether a variable is `mut` is not looked at where it is named
  pub named_with : (n : Node) (s : Span) (x : Use) (m k : Bool) {ds ds' : List Demand} → R ds ds' → R (rules.named_at n x k ds) (rules.named_at (node_at r n s) (use_so r m k x) k ds')
  named_with n s x m true d = asked n s _ _ _ _ d
  named_with n s x m false d = asked n s _ _ _ _ d

  pub named_like : (n : Node) (s : Span) (x : Use) (k : Bool) {ds ds' : List Demand} → R ds ds' → R (rules.named_at n x k ds) (rules.named_at (node_at r n s) (use_at r x) k ds')
  named_like n s x true d = asked n s _ _ _ _ d
  named_like n s x false d = asked n s _ _ _ _ d

  fits_given_like : (x : ℕ) {e e' : Node} {v v' : Bool} {ds ds' : List Demand} → NodeAt r e e' → Is v v' → R ds ds' → R (rules.fits_given x e v ds) (rules.fits_given (r.variables x) e' v' ds')
  fits_given_like x {v = true} h itself d = d
  fits_given_like x {v = false} (renumbered {n = e} {s = s}) itself d = asked e s _ _ _ _ d

  pub given_like : (n p : Node) (s t : Span) (x : Use) (m : Bool) (c : Option ℕ) {e e' : Node} {v v' : Bool} {ds ds' : List Demand} → NodeAt r e e' → Is v v' → R ds ds'
      → R (rules.given n p x c e v ds) (rules.given (node_at r n s) (node_at r p t) (use_so r m x.known x) (option_map r.nodes c) e' v' ds')
  given_like n p s t x m (Some c) (renumbered {n = e} {s = u}) h d = asked_all p t _ _ _ (like_more_facts like_fact (like_more_facts like_fact like_no_fact)) (asked n s _ _ _ _ (not_never_like (renumbered {n = e} {s = u}) h d))
  given_like n p s t x m None h i d = fits_given_like x.number h i (named_with p t x m x.known d)

  -- ---- types

  lifetimes_like : (n : Node) (s : Span) (i : ℕ) (ls : Option ℕ) {ds ds' : List Demand} → R ds ds' → R (rules.lifetimes_asked n i ls ds) (rules.lifetimes_asked (node_at r n s) (r.items i) ls ds')
  lifetimes_like n s i None d = d
  lifetimes_like n s i (Some k) d = asked n s _ _ _ _ d

  tuple_written : (n : Node) (s : Span) (xs : List Subject) {xs' : List Subject} {ds ds' : List Demand} → Is (map (subject_at r) xs) xs' → R ds ds' → R (rules.written n op.Tuple xs ds) (rules.written (node_at r n s) op.Tuple xs' ds')
  tuple_written n s xs itself d = asked n s _ _ _ _ d

  reference_written : (n : Node) (s : Span) (m : Bool) {t t' : Node} {ds ds' : List Demand} → NodeAt r t t' → R ds ds' → R (rules.written n (op.Referring m) (type_of t ∷ []) ds) (rules.written (node_at r n s) (op.Referring m) (type_of t' ∷ []) ds')
  reference_written n s m renumbered d = asked n s _ _ _ _ d

  pub limits_like : {n n' : Node} {ds ds' : List Demand} → NodeAt r n n' → R ds ds' → R (rules.limits n ds) (rules.limits n' ds')
  limits_like (renumbered {n = n} {s = s}) d = asked n s _ _ _ _ d

  mutual
    pub type_like : {t t' : Written} {ds ds' : List Demand} → RenumberedType r t t' → R ds ds' → R (rules.of_type t ds) (rules.of_type t' ds')
    type_like (like.RenumberedType.a_kind {n = n} {s = s}) d = asked n s _ _ _ _ d
    type_like (like.RenumberedType.a_bool {n = n} {s = s}) d = asked n s _ _ _ _ d
    type_like (like.RenumberedType.a_tuple {n = n} {s = s} {ts = ts} {ts' = ts'} h) d = tuple_written n s _ (like_written_nodes r loops H Special fits h) (types_like h d)
    type_like (like.RenumberedType.a_reference {n = n} {s = s} {m = m} h) d = reference_written n s m (like_written_node r loops H Special fits h) (type_like h d)
    type_like (like.RenumberedType.an_item {n = n} {s = s} {i = i} {ls = ls}) d = asked n s _ _ _ _ (lifetimes_like n s i ls d)

    pub types_like : {ts ts' : WrittenTypes} {ds ds' : List Demand} → RenumberedTypes r ts ts' → R ds ds' → R (rules.of_types ts ds) (rules.of_types ts' ds')
    types_like like.RenumberedTypes.no_written d = d
    types_like (like.RenumberedTypes.written_and h k) d = types_like k (type_like h d)

  pub whole_type_like : {t t' : Written} {ds ds' : List Demand} → RenumberedType r t t' → R ds ds' → R (rules.whole_type t ds) (rules.whole_type t' ds')
  whole_type_like h d = limits_like (like_written_node r loops H Special fits h) (type_like h d)

  -- ---- patterns

  binding_like : (n : Node) (s : Span) {c c' : Matched} {anc anc' : List Passing} {ds ds' : List Demand} → MatchedLike r loops H Special fits c c' → PassingsAt r anc anc' → R ds ds'
      → R (rules.binding_of n anc c ds) (rules.binding_of (node_at r n s) anc' c' ds')
  binding_like n s matched.a_value h d = d
  binding_like n s (matched.a_place same) passings d = asked n s _ _ _ _ (asked n s _ _ _ _ d)
  binding_like n s (matched.an_initialiser same) passings d = asked n s _ _ _ _ (asked n s _ _ _ _ d)
  binding_like n s (matched.a_place (longer l k)) passings d = longer_like l k n s _ _ _ _ _ _ _ (longer_like l k n s _ _ _ _ _ _ _ d)
  binding_like n s (matched.an_initialiser (longer l k)) passings d = longer_like l k n s _ _ _ _ _ _ _ (longer_like l k n s _ _ _ _ _ _ _ d)

  direct_like : (n : Node) (s : Span) (m : Bool) {anc anc' : List Passing} {ds ds' : List Demand} → PassingsAt r anc anc' → R ds ds'
      → R (rules.direct n m anc ds) (rules.direct (node_at r n s) m anc' ds')
  direct_like n s true passings d = asked n s _ _ _ _ d
  direct_like n s false h d = d

  bound_front : (n : Node) (s : Span) (x : ℕ) {anc anc' : List Passing} {ds ds' : List Demand} → PassingsAt r anc anc' → R ds ds'
      → R (asks n (Broken.Mismatch Rule.Equal) false (fact.Equals (subject.Variable x) op.Bound (type_of n ∷ []) anc ∷ []) ds) (asks (node_at r n s) (Broken.Mismatch Rule.Equal) false (fact.Equals (subject.Variable (r.variables x)) op.Bound (type_of (node_at r n s) ∷ []) anc' ∷ []) ds')
  bound_front n s x passings d = asked n s _ _ _ _ d

  bound_like : (n : Node) (s : Span) (x : ℕ) (m : Bool) {c c' : Matched} {anc anc' : List Passing} {ds ds' : List Demand} → MatchedLike r loops H Special fits c c' → PassingsAt r anc anc' → R ds ds'
      → R (rules.bound_at c anc n x m ds) (rules.bound_at c' anc' (node_at r n s) (r.variables x) m ds')
  bound_like n s x m c h d = binding_like n s c h (direct_like n s m h (asked n s _ _ _ _ (bound_front n s x h d)))

  minus_like : (n : Node) (s : Span) (g : Bool) {ds ds' : List Demand} → R ds ds' → R (rules.minus n g ds) (rules.minus (node_at r n s) g ds')
  minus_like n s true d = asked n s _ _ _ _ d
  minus_like n s false d = d

  -- what a pattern's part is
  part_like : {n n' : Node} (o : Op) (xs : List Subject) {ds ds' : List Demand} → NodeAt r n n' → R ds ds' → R (rules.part_is n o xs ds) (rules.part_is n' (op_at r o) (map (subject_at r) xs) ds')
  part_like o xs (renumbered {n = n} {s = s}) d = asked n s _ _ _ _ d

  counted_like : (n : Node) (s : Span) {c c' : ℕ} {ds ds' : List Demand} → Is c c' → R ds ds' → R (rules.pattern_is n (test.TupleBehind c) ds) (rules.pattern_is (node_at r n s) (test.TupleBehind c') ds')
  counted_like n s itself d = asked n s _ _ _ _ d

  pub holds_like : (n : Node) (s : Span) (i v : ℕ) {c c' : ℕ} {ds ds' : List Demand} → Is c c' → R ds ds'
      → R (asks n (Broken.Mismatch Rule.Count) false (fact.Passes (test.Holds i v c) [] [] [] ∷ []) ds) (asks (node_at r n s) (Broken.Mismatch Rule.Count) false (fact.Passes (test.Holds (r.items i) v c') [] [] [] ∷ []) ds')
  holds_like n s i v itself d = asked n s _ _ _ _ d

  pub has_fields_like : (n : Node) (s : Span) (i : ℕ) {xs xs' : List (List ℕ)} {ds ds' : List Demand} → Is xs xs' → R ds ds'
      → R (asks n (Broken.Mismatch Rule.Fields) false (fact.Passes (test.HasFields i xs) [] [] [] ∷ []) ds) (asks (node_at r n s) (Broken.Mismatch Rule.Fields) false (fact.Passes (test.HasFields (r.items i) xs') [] [] [] ∷ []) ds')
  has_fields_like n s i itself d = asked n s _ _ _ _ d

  pub takes_like : (n : Node) (s : Span) (i : ℕ) {c c' : ℕ} {ds ds' : List Demand} → Is c c' → R ds ds'
      → R (asks n (Broken.Mismatch Rule.Count) false (fact.Passes (test.Takes i c) [] [] [] ∷ []) ds) (asks (node_at r n s) (Broken.Mismatch Rule.Count) false (fact.Passes (test.Takes (r.items i) c') [] [] [] ∷ []) ds')
  takes_like n s i itself d = asked n s _ _ _ _ d

  mutual
    pub pattern_like : {c c' : Matched} {anc anc' : List Passing} {p p' : Pattern} {ds ds' : List Demand} → MatchedLike r loops H Special fits c c' → PassingsAt r anc anc' → RenumberedPattern r p p' → R ds ds'
        → R (rules.of_pattern c anc p ds) (rules.of_pattern c' anc' p' ds')
    pattern_like c h like.RenumberedPattern.wild d = d
    pattern_like c h (like.RenumberedPattern.bind {n = n} {s = s} {x = x} {m = m}) d = bound_like n s x m c h d
    pattern_like c h (like.RenumberedPattern.whole_number {n = n} {s = s} {g = g}) d = asked n s _ _ _ _ (asked n s _ _ _ _ (minus_like n s g (asked n s _ _ _ _ d)))
    pattern_like c h (like.RenumberedPattern.truth {n = n} {s = s}) d = asked n s _ _ _ _ d
    pattern_like c h (like.RenumberedPattern.tuple_pattern {n = n} {s = s} k) d = parts_like n s 0 c (under_like r loops H Special fits n s h) k (counted_like n s (like_count r loops H Special fits k) d)
    pattern_like c h (like.RenumberedPattern.variant_pattern {n = n} {s = s} {i = i} {v = v} k) d = variant_parts_like i v 0 c (under_like r loops H Special fits n s h) k (holds_like n s i v (like_count r loops H Special fits k) (asked n s _ _ _ _ d))
    pattern_like c h (like.RenumberedPattern.struct_pattern {n = n} {s = s} {i = i} k) d = field_patterns_like i c (under_like r loops H Special fits n s h) k (has_fields_like n s i (like_field_names r loops H Special fits k) (asked n s _ _ _ _ d))

    parts_like : (n : Node) (s : Span) (k : ℕ) {c c' : Matched} {anc anc' : List Passing} {ps ps' : Patterns} {ds ds' : List Demand} → MatchedLike r loops H Special fits c c' → PassingsAt r anc anc' → RenumberedPatterns r ps ps' → R ds ds'
        → R (rules.of_parts c anc n k ps ds) (rules.of_parts c' anc' (node_at r n s) k ps' ds')
    parts_like n s k c h like.RenumberedPatterns.no_pattern d = d
    parts_like n s k c h (like.RenumberedPatterns.pattern_and p q) d = parts_like n s (suc k) c h q (pattern_like c h p (part_like (op.Part k) (type_of n ∷ []) (like_pattern_node r loops H Special fits p) d))

    variant_parts_like : (i v k : ℕ) {c c' : Matched} {anc anc' : List Passing} {ps ps' : Patterns} {ds ds' : List Demand} → MatchedLike r loops H Special fits c c' → PassingsAt r anc anc' → RenumberedPatterns r ps ps' → R ds ds'
        → R (rules.of_variant_parts c anc i v k ps ds) (rules.of_variant_parts c' anc' (r.items i) v k ps' ds')
    variant_parts_like i v k c h like.RenumberedPatterns.no_pattern d = d
    variant_parts_like i v k c h (like.RenumberedPatterns.pattern_and p q) d = variant_parts_like i v (suc k) c h q (pattern_like c h p (part_like (op.PartOf i v k) [] (like_pattern_node r loops H Special fits p) d))

    field_patterns_like : (i : ℕ) {c c' : Matched} {anc anc' : List Passing} {fs fs' : FieldPatterns} {ds ds' : List Demand} → MatchedLike r loops H Special fits c c' → PassingsAt r anc anc' → RenumberedFieldPatterns r fs fs' → R ds ds'
        → R (rules.of_field_patterns c anc i fs ds) (rules.of_field_patterns c' anc' (r.items i) fs' ds')
    field_patterns_like i c h like.RenumberedFieldPatterns.no_field_pattern d = d
    field_patterns_like i c h (like.RenumberedFieldPatterns.field_pattern_and {x = x} p q) d = field_patterns_like i c h q (pattern_like c h p (part_like (op.FieldOf i x) [] (like_pattern_node r loops H Special fits p) d))

  alike_like : {n n' : Node} (x : Subject) {ds ds' : List Demand} → NodeAt r n n' → R ds ds' → R (rules.part_is n op.Same (x ∷ []) ds) (rules.part_is n' op.Same (subject_at r x ∷ []) ds')
  alike_like x (renumbered {n = n} {s = s}) d = asked n s _ _ _ _ d

  pub whole_pattern_like : {c c' : Matched} (x : Subject) {p p' : Pattern} {ds ds' : List Demand} → MatchedLike r loops H Special fits c c' → RenumberedPattern r p p' → R ds ds'
      → R (rules.whole_pattern c x p ds) (rules.whole_pattern c' (subject_at r x) p' ds')
  whole_pattern_like x c h d = pattern_like c passings h (alike_like x (like_pattern_node r loops H Special fits h) d)
