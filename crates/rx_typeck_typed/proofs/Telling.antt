-- What the demands of an expression, a block, a pattern or a type tell, where they are met.
use Rattle.std.proofs.Common.{◌≡◌, ℕ, suc, Bool, true, false, not, ◌&&◌, List, [], ◌∷◌, ◌++◌, refl, sym, subst, ◌⊎◌, inl, inr, ⊎_elim}
use Rattle.rx_tree.specs.declared.tree.BinaryOp.{BinaryOp}
use Rattle.rx_typed.specs.declared.nodes.Node.{Node}
use Rattle.rx_typed.specs.declared.nodes.Site.{Site}
use Rattle.rx_typed.specs.declared.nodes.Use.{Use}
use Rattle.rx_typed.specs.Named as named
use Rattle.rx_typed.specs.Named.{Written, WrittenTypes, Pattern, Patterns, FieldPatterns, Exp, Else, Arms, Body, Statements, written_node, pattern_node, node_of, body_node, never, body_never, else_never, all_never, some_diverges, root, is_variable}
use Rattle.rx_typed.specs.Elaborated.{variables, variables_in, variables_in_fields}
use Rattle.rx_typeck_solver.specs.declared.facts.Broken.{Broken}
use Rattle.rx_typeck_solver.specs.declared.facts.Subject.{Subject}
use Rattle.rx_typeck_solver.specs.declared.facts.Subject.TheVariants as subject
use Rattle.rx_typeck_solver.specs.declared.facts.Op.{Op}
use Rattle.rx_typeck_solver.specs.declared.facts.Passing.{Passing}
use Rattle.rx_typeck_solver.specs.declared.facts.Fact.{Fact}
use Rattle.rx_typeck_solver.specs.declared.facts.Fact.TheVariants as fact
use Rattle.rx_typeck_solver.specs.declared.facts.Demand.{Demand}
use Rattle.rx_typeck_solver.specs.Facts.{Assignment, KnownItems, MeetsEach}
use Rattle.rx_typeck_solver.specs.Valid.{IsIn, Tells, TellsAny, Told}
use Rattle.rx_typeck_typed.specs.Asking.{Asking, asks, type_of}
use Rattle.rx_typeck_typed.specs.Demands as rules
use Rattle.rx_typeck_typed.specs.Nodes.{type_nodes, types_nodes, pattern_nodes, patterns_nodes, field_patterns_nodes}
use Rattle.rx_typeck_typed.proofs.Adding
use Rattle.rx_typeck_typed.proofs.Adding.{Longer, Adds, longer_same, longer_then, then_adds, asks_add}
use Rattle.rx_typeck_typed.proofs.Meeting.{meets_before, meets_last}

-- ---- lists of numbers

pub in_join : (x : ℕ) (xs ys : List ℕ) → IsIn x (xs ++ ys) → IsIn x xs ⊎ IsIn x ys
in_join x [] ys i = inr i
in_join x (z ∷ xs) ys (inl e) = inl (inl e)
in_join x (z ∷ xs) ys (inr i) = ⊎_elim (λ h. inl (inr h)) (λ h. inr h) (in_join x xs ys i)

pub in_left : (x : ℕ) (xs ys : List ℕ) → IsIn x xs → IsIn x (xs ++ ys)
in_left x [] ys i = absurd i
in_left x (z ∷ xs) ys (inl e) = inl e
in_left x (z ∷ xs) ys (inr i) = inr (in_left x xs ys i)

pub in_right : (x : ℕ) (xs ys : List ℕ) → IsIn x ys → IsIn x (xs ++ ys)
in_right x [] ys i = i
in_right x (z ∷ xs) ys i = inr (in_right x xs ys i)

-- ---- what is told

told_front : (ds es : List Demand) (x : Subject) → Told ds x → Told (ds ++ es) x
told_front [] es x t = absurd t
told_front (d ∷ ds) es x (inl t) = inl t
told_front (d ∷ ds) es x (inr t) = inr (told_front ds es x t)

told_last : (ds : List Demand) (d : Demand) (x : Subject) → TellsAny d.facts x → Told (ds ++ d ∷ []) x
told_last [] d x t = inl t
told_last (e ∷ ds) d x t = inr (told_last ds d x t)

tells_right : (fs gs : List Fact) (x : Subject) → TellsAny gs x → TellsAny (fs ++ gs) x
tells_right [] gs x t = t
tells_right (f ∷ fs) gs x t = inr (tells_right fs gs x t)

pub and_false : (a b : Bool) → (a && b) ≡ false → (a ≡ false) ⊎ (b ≡ false)
and_false true b e = inr e
and_false false b e = inl refl

module _ (K : KnownItems) (A : Assignment) where
  -- the demands tell the subject a type, where they are met
  pub record Sure (ds : List Demand) (x : Subject) : Type 0 where
    pub is : MeetsEach K A ds → Told ds x

  pub sure_longer : {ds ds' : List Demand} {x : Subject} → Longer ds ds' → Sure ds x → Sure ds' x
  sure_longer {ds} {ds'} {x} l s = record { is = λ h. subst (λ (es : List Demand). Told es x) (sym l.1) (told_front ds l.0 x (s.is (meets_before K A ds ds' l h))) }

  pub sure_asked : (n : Node) (b : Broken) (o : Bool) (fs : List Fact) (ds : List Demand) (x : Subject) → TellsAny fs x → Sure (asks n b o fs ds) x
  sure_asked n b o fs ds x t = record { is = λ h. told_last ds _ x t }

  pub sure_refused : (n : Node) (b : Broken) (o : Bool) (ds : List Demand) (x : Subject) → Sure (asks n b o (fact.Never ∷ []) ds) x
  sure_refused n b o ds x = record { is = λ h. let m = meets_last K A ds _ h in absurd m.0 }

  -- behind what adds
  sure_then : (f : Asking) → Adds f → (ds : List Demand) (x : Subject) → Sure ds x → Sure (f ds) x
  sure_then f a ds x s = sure_longer (a ds) s

  own_sure : (n : Node) (o : Op) (xs : List Subject) (ds : List Demand) → Sure (rules.own n o xs ds) (type_of n)
  own_sure n o xs ds = sure_longer (Adding.value_adds n n.site _) (sure_asked n _ _ _ ds (type_of n) (inl refl))

  -- ---- what joins values

  -- what the parts have told of the whole
  abbrev Parted : Site → List Demand → Node → Type 0
  Parted Site.Expects ds n = Unit {0}
  Parted Site.Initialises ds n = Unit {0}
  Parted _ ds n = Sure ds (type_of n)

  parted_longer : (t : Site) (n : Node) (ds ds' : List Demand) → Longer ds ds' → Parted t ds n → Parted t ds' n
  parted_longer Site.Expects n ds ds' l p = tt
  parted_longer Site.Initialises n ds ds' l p = tt
  parted_longer Site.Value n ds ds' l p = sure_longer l p
  parted_longer Site.Place n ds ds' l p = sure_longer l p
  parted_longer Site.Scrutinee n ds ds' l p = sure_longer l p
  parted_longer Site.Reborrows n ds ds' l p = sure_longer l p

  part_sure : (n m : Node) (v : Bool) (ds : List Demand) → v ≡ false → Sure (rules.as_part n v m ds) (type_of n)
  part_sure n m true ds e = absurd (cc)
  part_sure n m false ds e = sure_asked n _ _ _ ds (type_of n) (inl refl)

  part_told : (t : Site) (n m : Node) (v : Bool) (ds : List Demand) → v ≡ false → Parted t (rules.part_after n t v m ds) n
  part_told Site.Expects n m v ds e = tt
  part_told Site.Initialises n m v ds e = tt
  part_told Site.Value n m v ds e = part_sure n m v ds e
  part_told Site.Place n m v ds e = part_sure n m v ds e
  part_told Site.Scrutinee n m v ds e = part_sure n m v ds e
  part_told Site.Reborrows n m v ds e = part_sure n m v ds e

  joins_sure : (t : Site) (n : Node) (ds : List Demand) → Parted t ds n → Sure (rules.joins n t ds) (type_of n)
  joins_sure Site.Value n ds p = p
  joins_sure Site.Place n ds p = sure_refused n _ _ ds (type_of n)
  joins_sure Site.Scrutinee n ds p = p
  joins_sure Site.Reborrows n ds p = sure_longer (asks_add n _ _ _ ds) p
  joins_sure Site.Expects n ds p = sure_asked n _ _ _ ds (type_of n) (inl refl)
  joins_sure Site.Initialises n ds p = sure_asked n _ _ _ ds (type_of n) (inl refl)

  join_sure : (n : Node) (v : Bool) (ds : List Demand) → v ≡ false → Parted n.site ds n → Sure (rules.join n v ds) (type_of n)
  join_sure n true ds e p = absurd (cc)
  join_sure n false ds e p = joins_sure n.site n ds p

  -- ---- types

  pub type_sure : (t : Written) (ds : List Demand) → Sure (rules.of_type t ds) (type_of (written_node t))
  type_sure (named.a_kind n k) ds = sure_asked n _ _ _ ds (type_of n) (inl refl)
  type_sure (named.a_bool n) ds = sure_asked n _ _ _ ds (type_of n) (inl refl)
  type_sure (named.a_tuple n ts) ds = sure_asked n _ _ _ _ (type_of n) (inl refl)
  type_sure (named.a_reference n m t) ds = sure_asked n _ _ _ _ (type_of n) (inl refl)
  type_sure (named.an_item n i ls) ds = sure_asked n _ _ _ _ (type_of n) (inl refl)

  same_node : (m n : ℕ) (ds : List Demand) → n ≡ m → Sure ds (subject.Node m) → Sure ds (subject.Node n)
  same_node m n ds e s = subst (λ k. Sure ds (subject.Node k)) (sym e) s

  mutual
    type_told : (t : Written) (ds : List Demand) (n : ℕ) → IsIn n (type_nodes t) → Sure (rules.of_type t ds) (subject.Node n)
    type_told (named.a_kind m k) ds n (inl e) = same_node m.number n _ e (type_sure (named.a_kind m k) ds)
    type_told (named.a_kind m k) ds n (inr i) = absurd i
    type_told (named.a_bool m) ds n (inl e) = same_node m.number n _ e (type_sure (named.a_bool m) ds)
    type_told (named.a_bool m) ds n (inr i) = absurd i
    type_told (named.a_tuple m ts) ds n (inl e) = same_node m.number n _ e (type_sure (named.a_tuple m ts) ds)
    type_told (named.a_tuple m ts) ds n (inr i) = sure_longer (asks_add m _ _ _ _) (types_told ts ds n i)
    type_told (named.a_reference m b t) ds n (inl e) = same_node m.number n _ e (type_sure (named.a_reference m b t) ds)
    type_told (named.a_reference m b t) ds n (inr i) = sure_longer (asks_add m _ _ _ _) (type_told t ds n i)
    type_told (named.an_item m j ls) ds n (inl e) = same_node m.number n _ e (type_sure (named.an_item m j ls) ds)
    type_told (named.an_item m j ls) ds n (inr i) = absurd i

    types_told : (ts : WrittenTypes) (ds : List Demand) (n : ℕ) → IsIn n (types_nodes ts) → Sure (rules.of_types ts ds) (subject.Node n)
    types_told named.no_written ds n i = absurd i
    types_told (named.written_and t ts) ds n i =
        ⊎_elim (λ h. sure_longer (Adding.types_add ts (rules.of_type t ds)) (type_told t ds n h)) (λ h. types_told ts (rules.of_type t ds) n h) (in_join n (type_nodes t) (types_nodes ts) i)

  pub whole_type_told : (t : Written) (ds : List Demand) (n : ℕ) → IsIn n (type_nodes t) → Sure (rules.whole_type t ds) (subject.Node n)
  whole_type_told t ds n i = sure_longer (asks_add (written_node t) _ _ _ _) (type_told t ds n i)

  -- ---- patterns

  -- the variables and the nodes of a pattern
  pub record PatternTold (ds : List Demand) (xs ns : List ℕ) : Type 0 where
    pub variables : (x : ℕ) → IsIn x xs → Sure ds (subject.Variable x)
    pub nodes : (n : ℕ) → IsIn n ns → Sure ds (subject.Node n)

  nothing_told : (ds : List Demand) → PatternTold ds [] []
  nothing_told ds = record { variables = λ x i. absurd i; nodes = λ n i. absurd i }

  -- a node, in front of others
  node_told : (m : Node) (ds ds' : List Demand) (xs ns : List ℕ) → Sure ds (type_of m) → Longer ds ds' → PatternTold ds' xs ns → PatternTold ds' xs (m.number ∷ ns)
  node_told m ds ds' xs ns s l p = record { variables = p.variables; nodes = λ n i. at n i }
    where
      at : (n : ℕ) → IsIn n (m.number ∷ ns) → Sure ds' (subject.Node n)
      at n (inl e) = same_node m.number n ds' e (sure_longer l s)
      at n (inr i) = p.nodes n i

  told_join : (ds ds' : List Demand) (xs ys ns ms : List ℕ) → PatternTold ds xs ns → Longer ds ds' → PatternTold ds' ys ms → PatternTold ds' (xs ++ ys) (ns ++ ms)
  told_join ds ds' xs ys ns ms a l b = record {
    variables = λ x i. ⊎_elim (λ h. sure_longer l (a.variables x h)) (λ h. b.variables x h) (in_join x xs ys i);
    nodes = λ n i. ⊎_elim (λ h. sure_longer l (a.nodes n h)) (λ h. b.nodes n h) (in_join n ns ms i);
  }

  bound_told : (s : rules.Matched) (anc : List Passing) (n : Node) (x : ℕ) (m : Bool) (ds : List Demand) → PatternTold (rules.bound_at s anc n x m ds) (x ∷ []) []
  bound_told s anc n x m ds = record { variables = λ y i. at y i; nodes = λ n i. absurd i }
    where
      v : Sure (rules.bound_at s anc n x m ds) (subject.Variable x)
      v = sure_longer (Adding.behind_bound s anc n x m _) (sure_asked n _ _ _ ds (subject.Variable x) (inl refl))

      at : (y : ℕ) → IsIn y (x ∷ []) → Sure (rules.bound_at s anc n x m ds) (subject.Variable y)
      at y (inl e) = subst (λ z. Sure (rules.bound_at s anc n x m ds) (subject.Variable z)) (sym e) v
      at y (inr i) = absurd i

  mutual
    pub pattern_told : (s : rules.Matched) (anc : List Passing) (q : Pattern) (ds : List Demand) → Sure ds (type_of (pattern_node q)) → PatternTold (rules.of_pattern s anc q ds) (variables q) (pattern_nodes q)
    pattern_told s anc (named.wild n) ds h = node_told n ds _ _ _ h (longer_same ds) (nothing_told ds)
    pattern_told s anc (named.bind n x m) ds h = node_told n ds _ _ _ h (Adding.bound_adds s anc n x m ds) (bound_told s anc n x m ds)
    pattern_told s anc (named.whole_number n g v k) ds h = node_told n ds _ _ _ h (Adding.literal_adds n g v k ds) (nothing_told _)
    pattern_told s anc (named.truth n b) ds h = node_told n ds _ _ _ h (asks_add n _ _ _ ds) (nothing_told _)
    pattern_told s anc (named.tuple_pattern n ps) ds h = node_told n ds _ _ _ h (Adding.pattern_adds s anc (named.tuple_pattern n ps) ds) (parts_told s _ n 0 ps _)
    pattern_told s anc (named.variant_pattern n i v ps) ds h = node_told n ds _ _ _ h (Adding.pattern_adds s anc (named.variant_pattern n i v ps) ds) (variant_told s _ i v 0 ps _)
    pattern_told s anc (named.struct_pattern n i fs) ds h = node_told n ds _ _ _ h (Adding.pattern_adds s anc (named.struct_pattern n i fs) ds) (fields_told s _ i fs _)

    parts_told : (s : rules.Matched) (anc : List Passing) (n : Node) (k : ℕ) (ps : Patterns) (ds : List Demand) → PatternTold (rules.of_parts s anc n k ps ds) (variables_in ps) (patterns_nodes ps)
    parts_told s anc n k named.no_pattern ds = nothing_told ds
    parts_told s anc n k (named.pattern_and p ps) ds =
        told_join _ _ _ _ _ _ (pattern_told s anc p _ (sure_asked (pattern_node p) _ _ _ ds (type_of (pattern_node p)) (inl refl))) (Adding.parts_add s anc n (suc k) ps _) (parts_told s anc n (suc k) ps _)

    variant_told : (s : rules.Matched) (anc : List Passing) (i v k : ℕ) (ps : Patterns) (ds : List Demand) → PatternTold (rules.of_variant_parts s anc i v k ps ds) (variables_in ps) (patterns_nodes ps)
    variant_told s anc i v k named.no_pattern ds = nothing_told ds
    variant_told s anc i v k (named.pattern_and p ps) ds =
        told_join _ _ _ _ _ _ (pattern_told s anc p _ (sure_asked (pattern_node p) _ _ _ ds (type_of (pattern_node p)) (inl refl))) (Adding.variant_parts_add s anc i v (suc k) ps _) (variant_told s anc i v (suc k) ps _)

    fields_told : (s : rules.Matched) (anc : List Passing) (i : ℕ) (fs : FieldPatterns) (ds : List Demand) → PatternTold (rules.of_field_patterns s anc i fs ds) (variables_in_fields fs) (field_patterns_nodes fs)
    fields_told s anc i named.no_field_pattern ds = nothing_told ds
    fields_told s anc i (named.field_pattern_and x p fs) ds =
        told_join _ _ _ _ _ _ (pattern_told s anc p _ (sure_asked (pattern_node p) _ _ _ ds (type_of (pattern_node p)) (inl refl))) (Adding.field_patterns_add s anc i fs _) (fields_told s anc i fs _)

  pub whole_told : (s : rules.Matched) (x : Subject) (p : Pattern) (ds : List Demand) → PatternTold (rules.whole_pattern s x p ds) (variables p) (pattern_nodes p)
  whole_told s x p ds = pattern_told s [] p _ (sure_asked (pattern_node p) _ _ _ ds (type_of (pattern_node p)) (inl refl))

  -- ---- expressions and blocks that aren't Never

  pub body_sure : (f : ℕ) (b : Body) (ds : List Demand) → body_never b ≡ false → Sure (rules.of_body f b ds) (type_of (body_node b))
  body_sure f (named.body n ss named.absent) ds e = tail_sure (some_diverges ss) e _
    where
      tail_sure : (d : Bool) → d ≡ false → (ds : List Demand) → Sure (rules.join n d (rules.tail_after n d named.absent ds)) (type_of n)
      tail_sure true e ds = absurd (cc)
      tail_sure false e ds = sure_longer (Adding.join_adds n false _) (sure_asked n _ _ _ ds (type_of n) (inl refl))
  body_sure f (named.body n ss (named.present x)) ds e = join_sure n (never x) _ e (part_told n.site n (node_of x) (never x) _ e)

  -- the branches of an `if`
  branches_sure : (f : ℕ) (n : Node) (b : Body) (o : Else) (ds : List Demand) → (body_never b && else_never o) ≡ false → Sure (rules.of_branches f n (b, o) ds) (type_of n)
  branches_sure f n b named.absent ds e = own_sure n _ _ _
  branches_sure f n b (named.present x) ds e =
      let d1 = rules.of_body f b (rules.part_before n n.site (body_node b) ds) in
      let d2 = rules.part_after n n.site (body_never b) (body_node b) d1 in
      let d3 = rules.of_exp f x (rules.part_before n n.site (node_of x) d2) in
      join_sure n (body_never b && never x) _ e
      (⊎_elim (λ l. parted_longer n.site n d2 _ (Adding.else_adds f n (named.present x) d2) (part_told n.site n (body_node b) (body_never b) d1 l))
      (λ r. part_told n.site n (node_of x) (never x) d3 r) (and_false (body_never b) (never x) e))

  arms_sure : (f : ℕ) (n : Node) (s : rules.Matched) (m : Node) (l : Arms) (ds : List Demand) → all_never l ≡ false → Parted n.site (rules.of_arms f n s m l ds) n
  arms_sure f n s m named.no_arm ds e = absurd (cc)
  arms_sure f n s m (named.arm_and p x l) ds e =
      let d1 = rules.of_exp f x (rules.part_before n n.site (node_of x) (rules.whole_pattern s (type_of m) p ds)) in
      let d2 = rules.part_after n n.site (never x) (node_of x) d1 in
      ⊎_elim (λ h. parted_longer n.site n d2 _ (Adding.arms_add f n s m l d2) (part_told n.site n (node_of x) (never x) d1 h)) (λ h. arms_sure f n s m l d2 h) (and_false (never x) (all_never l) e)

  integer_last : (n : Node) (b : Broken) (fs : List Fact) (g : Fact) (ds : List Demand) → Tells g (type_of n) → Sure (rules.value_at n (asks n b false (fs ++ g ∷ []) ds)) (type_of n)
  integer_last n b fs g ds t = sure_longer (Adding.value_adds n n.site _) (sure_asked n b false _ ds (type_of n) (tells_right fs (g ∷ []) (type_of n) (inl t)))

  operation_sure : (o : BinaryOp) (n a : Node) (x : Bool) (b : Node) (y : Bool) (ds : List Demand) → Sure (rules.operation o n a x b y ds) (type_of n)
  operation_sure BinaryOp.Or n a x b y ds = own_sure n _ _ _
  operation_sure BinaryOp.And n a x b y ds = own_sure n _ _ _
  operation_sure BinaryOp.Eq n a x b y ds = own_sure n _ _ _
  operation_sure BinaryOp.Ne n a x b y ds = own_sure n _ _ _
  operation_sure BinaryOp.Lt n a x b y ds = own_sure n _ _ _
  operation_sure BinaryOp.Le n a x b y ds = own_sure n _ _ _
  operation_sure BinaryOp.Gt n a x b y ds = own_sure n _ _ _
  operation_sure BinaryOp.Ge n a x b y ds = own_sure n _ _ _
  operation_sure _ n a x b y ds = integer_last n _ _ _ ds refl

  pub named_sure : (n : Node) (x : Use) (k : Bool) (ds : List Demand) → Sure (rules.named_at n x k ds) (type_of n)
  named_sure n x true ds = sure_asked n _ _ _ ds (type_of n) (inl refl)
  named_sure n x false ds = sure_refused n _ _ ds (type_of n)

  loop_sure : (n : Node) (k : Bool) (ds : List Demand) → not k ≡ false → Sure (rules.loop_given n k ds) (type_of n)
  loop_sure n true ds e = own_sure n _ _ _
  loop_sure n false ds e = absurd (cc)

  pub exp_sure : (f : ℕ) (e : Exp) (ds : List Demand) → never e ≡ false → Sure (rules.of_exp f e ds) (type_of (node_of e))
  exp_sure f (named.int n m v k) ds e = sure_longer (Adding.behind_integer n m v k _) (sure_asked n _ _ _ ds (type_of n) (inl refl))
  exp_sure f (named.bool n b) ds e = own_sure n _ _ _
  exp_sure f (named.tuple n es) ds e = sure_longer (asks_add n _ _ _ _) (own_sure n _ _ _)
  exp_sure f (named.var n x) ds e = sure_longer (Adding.place_adds n _ _ n.site _) (named_sure n x x.known ds)
  exp_sure f (named.field n p x) ds e = sure_longer (Adding.place_adds n _ _ n.site _) (sure_asked n _ _ _ _ (type_of n) (inl refl))
  exp_sure f (named.part n p i) ds e = sure_longer (Adding.place_adds n _ _ n.site _) (sure_asked n _ _ _ _ (type_of n) (inl refl))
  exp_sure f (named.deref n p) ds e = sure_longer (Adding.place_adds n _ _ n.site _) (sure_asked n _ _ _ _ (type_of n) (inl refl))
  exp_sure f (named.negate n x) ds e = integer_last n _ _ _ _ refl
  exp_sure f (named.invert n x) ds e = own_sure n _ _ _
  exp_sure f (named.borrow n m x) ds e = sure_longer (Adding.behind_borrowed n m (root x) _ _) (sure_asked n _ _ _ _ (type_of n) (inl refl))
  exp_sure f (named.binary n o a b) ds e = operation_sure o n _ _ _ _ _
  exp_sure f (named.assign n p x) ds e = own_sure n _ _ _
  exp_sure f (named.gives n p x d y) ds e = own_sure n _ _ _
  exp_sure f (named.update n o p x) ds e = own_sure n _ _ _
  exp_sure f (named.call n g es) ds e = own_sure n _ _ _
  exp_sure f (named.hidden_call n es) ds e = sure_longer (Adding.each_adds f rules.values 0 es _) (sure_refused n _ _ ds (type_of n))
  exp_sure f (named.next_input n) ds e = own_sure n _ _ _
  exp_sure f (named.variant n i v es) ds e = own_sure n _ _ _
  exp_sure f (named.make n i fs) ds e = own_sure n _ _ _
  exp_sure f (named.print n x) ds e = own_sure n _ _ _
  exp_sure f (named.block n b) ds e = join_sure n (body_never b) _ e (part_told n.site n (body_node b) (body_never b) _ e)
  exp_sure f (named.if n c b o) ds e = branches_sure f n b o _ e
  exp_sure f (named.if_let n p x b o) ds e = branches_sure f n b o _ e
  exp_sure f (named.match n x l) ds e = join_sure n (all_never l) _ e (arms_sure f n _ _ l _ e)
  exp_sure f (named.loop n l k b) ds e = loop_sure n k _ e
  exp_sure f (named.while n l c b) ds e = own_sure n _ _ _
  exp_sure f (named.while_let n l p x b) ds e = own_sure n _ _ _
  exp_sure f (named.break n l) ds e = absurd (cc)
  exp_sure f (named.continue n l) ds e = absurd (cc)
  exp_sure f (named.return n o) ds e = absurd (cc)
