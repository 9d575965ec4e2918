-- The variables that occur in the parts of a typed tree, as it is put together (Rust Reference, "Paths", "Identifier patterns").
use Rattle.std.proofs.Common.{◌≡◌, ℕ, suc, Bool, true, false, List, [], ◌∷◌, ◌++◌, map, refl}
use Rattle.rx_core.specs.declared.types.Step.{Step}
use Rattle.rx_core.specs.declared.types.Step.TheVariants as step
use Rattle.rx_tree.specs.declared.tree.BinaryOp.{BinaryOp}
use Rattle.rx_tree.specs.Lists.{Every}
use Rattle.rx_typed.specs.declared.nodes.Node.{Node}
use Rattle.rx_typed.specs.Types.{Typ, integer, boolean, tuple_of, reference, named as named_type, peeled}
use Rattle.rx_typed.specs.Named as numbered
use Rattle.rx_typed.specs.Elaborated as elaborated
use Rattle.rx_typed.specs.Elaborated.{Assigned, Coercion, plain, reborrow, share, Met}
use Rattle.rx_typed.specs.Tree as tree
use Rattle.rx_lower_walks.specs.Matching.{Binding, bindings, bindings_in}
use Rattle.rx_exits_plan.specs.Blocks.{bound}
use Rattle.rx_exits_plan.specs.Occurrences.{Occurrence, the_variable, named_place, all_declared, occurrences, occurrences_in, occurrences_matched, occurrences_armed}
use Rattle.rx_hoist_naming.proofs.Claims.{Claims, OfPattern, OfPatterns, OfFieldPatterns}
use Rattle.rx_hoist_naming.proofs.Good.{every_append}

module _ (C : Claims) (T : Assigned) where
  -- an occurrence of a variable that there is
  abbrev pub V : Occurrence → Type 0
  V o = C.variable (the_variable o)

  -- ---- values

  pub reads : (n : Node) (w : Coercion) (p : tree.Place) → Every V (named_place p) → Every V (occurrences (elaborated.read_as T n w p))
  reads n plain p h = h
  reads n reborrow p h = h
  reads n share p h = h

  pub passes_on : (n : Node) (w : Coercion) (x : tree.Exp) → Every V (occurrences x) → Every V (occurrences (elaborated.passed_as T n w x))
  passes_on n plain x h = h
  passes_on n reborrow x h = h
  passes_on n share x h = h

  pub matches : (b : Bool) (w : Coercion) (e : numbered.Exp) (x : tree.Exp) → (b ≡ true → Every V (named_place (elaborated.place T e))) → Every V (occurrences x)
      → Every V (occurrences_matched (elaborated.matched_as T b w e x))
  matches true plain e x p h = p refl
  matches true reborrow e x p h = h
  matches true share e x p h = h
  matches false plain e x p h = h
  matches false reborrow e x p h = h
  matches false share e x p h = h

  pub in_two : (i j : ℕ) (a b : tree.Exp) → Every V (occurrences a) → Every V (occurrences b) → Every V (occurrences_in (tree.operand_and i a (tree.operand_and j b tree.no_operand)))
  in_two i j a b g h = every_append V (occurrences a) (occurrences b ++ []) g (every_append V (occurrences b) [] h tt)

  pub operates : (n : Node) (o : BinaryOp) (a b : tree.Exp) → Every V (occurrences a) → Every V (occurrences b) → Every V (occurrences (elaborated.operated T n o a b))
  operates n BinaryOp.And a b g h = every_append V (occurrences a) (occurrences b) g h
  operates n BinaryOp.Or a b g h = every_append V (occurrences a) (occurrences b) g h
  operates n BinaryOp.Eq a b g h = in_two 0 1 a b g h
  operates n BinaryOp.Ne a b g h = in_two 0 1 a b g h
  operates n BinaryOp.Lt a b g h = in_two 0 1 a b g h
  operates n BinaryOp.Le a b g h = in_two 0 1 a b g h
  operates n BinaryOp.Gt a b g h = in_two 0 1 a b g h
  operates n BinaryOp.Ge a b g h = in_two 0 1 a b g h
  operates n _ a b g h = in_two 0 1 a b g h

  pub tuples : (n : Node) (es : tree.Operands) → Every V (occurrences_in es) → Every V (occurrences (elaborated.tuple_of T n es))
  tuples n tree.no_operand h = tt
  tuples n (tree.operand_and i e es) h = h

  pub one : (e : tree.Exp) → Every V (occurrences e) → Every V (occurrences_in (elaborated.one_operand e))
  one e h = every_append V (occurrences e) [] h tt

  pub two_ways : (a b : tree.Exp) (p : tree.Pattern) → Every V (all_declared (bound p)) → Every V (occurrences a) → Every V (occurrences b)
      → Every V (occurrences_armed (tree.arm_and p a (tree.arm_and tree.any b tree.no_arm)))
  two_ways a b p d g h = every_append V (all_declared (bound p)) (occurrences a ++ (occurrences b ++ [])) d (every_append V (occurrences a) (occurrences b ++ []) g (every_append V (occurrences b) [] h tt))

  pub tests : (n : Node) (c : tree.Exp) (m : tree.Mark) (a b : tree.Exp) → Every V (occurrences c) → Every V (occurrences a) → Every V (occurrences b) → Every V (occurrences (elaborated.tests n c m a b))
  tests n c m a b f g h =
      let arms = tree.arm_and (tree.exactly n.number (tree.truth true)) a (tree.arm_and tree.any b tree.no_arm) in
      every_append V (occurrences c) (occurrences_armed arms) f (two_ways a b (tree.exactly n.number (tree.truth true)) tt g h)

  pub looks : (m : tree.Mark) (s : tree.Scrutinee) (p : tree.Pattern) (a b : tree.Exp) → Every V (occurrences_matched s) → Every V (all_declared (bound p)) → Every V (occurrences a) → Every V (occurrences b)
      → Every V (occurrences (elaborated.looks m s p a b))
  looks m s p a b f d g h = every_append V (occurrences_matched s) (occurrences_armed (tree.arm_and p a (tree.arm_and tree.any b tree.no_arm))) f (two_ways a b p d g h)

  -- ---- patterns

  abbrev B : Binding → Type 0
  B b = C.variable b.variable

  behind_bind : (t : Typ) (p : tree.Pattern) → ((at : List Step) → Every B (bindings at p)) → (at : List Step) → Every B (bindings at (elaborated.behind_all t p))
  behind_bind (integer k) p h at = h at
  behind_bind boolean p h at = h at
  behind_bind (tuple_of ts) p h at = h at
  behind_bind (reference m t) p h at = behind_bind t p h (at ++ step.Deref m ∷ [])
  behind_bind (named_type i) p h at = h at

  mutual
    binds : (r : Met) (p : numbered.Pattern) → OfPattern C p → (at : List Step) → Every B (bindings at (elaborated.pattern T r p))
    binds r (numbered.wild n) h at = tt
    binds r (numbered.bind n x m) h at = (h, tt)
    binds r (numbered.whole_number n g v k) h at =
        behind_bind (T.typ n.number) (tree.exactly n.number (tree.whole_number (elaborated.kind_in (peeled (T.typ n.number))) (elaborated.with_sign g v))) (λ at. tt) at
    binds r (numbered.truth n b) h at = behind_bind (T.typ n.number) (tree.exactly n.number (tree.truth b)) (λ at. tt) at
    binds r (numbered.tuple_pattern n ps) h at = behind_bind (T.typ n.number) (tree.parts (elaborated.subpatterns T (elaborated.met (T.typ n.number) r) 0 ps)) (λ at. binds_in (elaborated.met (T.typ n.number) r) 0 ps h at) at
    binds r (numbered.variant_pattern n i v ps) h at =
        behind_bind (T.typ n.number) (tree.variant n.number i (elaborated.has_several T.items i) v (elaborated.subpatterns T (elaborated.met (T.typ n.number) r) 0 ps))
        (λ at. binds_in (elaborated.met (T.typ n.number) r) 0 ps h.1 (at ++ step.Variant v ∷ [])) at
    binds r (numbered.struct_pattern n i fs) h at = behind_bind (T.typ n.number) (tree.parts (elaborated.field_patterns T (elaborated.met (T.typ n.number) r) i fs)) (λ at. binds_fields (elaborated.met (T.typ n.number) r) i fs h.1 at) at

    binds_in : (r : Met) (k : ℕ) (ps : numbered.Patterns) → OfPatterns C ps → (at : List Step) → Every B (bindings_in at (elaborated.subpatterns T r k ps))
    binds_in r k numbered.no_pattern h at = tt
    binds_in r k (numbered.pattern_and p ps) h at =
        every_append B (bindings (at ++ step.Field k ∷ []) (elaborated.pattern T r p)) (bindings_in at (elaborated.subpatterns T r (suc k) ps)) (binds r p h.0 (at ++ step.Field k ∷ [])) (binds_in r (suc k) ps h.1 at)

    binds_fields : (r : Met) (i : ℕ) (fs : numbered.FieldPatterns) → OfFieldPatterns C fs → (at : List Step) → Every B (bindings_in at (elaborated.field_patterns T r i fs))
    binds_fields r i numbered.no_field_pattern h at = tt
    binds_fields r i (numbered.field_pattern_and x p fs) h at =
        let k = elaborated.field_in T.items (named_type i) x in
        every_append B (bindings (at ++ step.Field k ∷ []) (elaborated.pattern T r p)) (bindings_in at (elaborated.field_patterns T r i fs)) (binds r p h.0 (at ++ step.Field k ∷ [])) (binds_fields r i fs h.1 at)

  all_of : (bs : List Binding) → Every B bs → Every V (all_declared (map (λ (b : Binding). b.variable) bs))
  all_of [] h = tt
  all_of (b ∷ bs) h = (h.0, all_of bs h.1)

  pub declares : (r : Met) (p : numbered.Pattern) → OfPattern C p → Every V (all_declared (bound (elaborated.pattern T r p)))
  declares r p h = all_of (bindings [] (elaborated.pattern T r p)) (binds r p h [])

  every_declared : (xs ys : List ℕ) → Every V (all_declared xs) → Every V (all_declared ys) → Every V (all_declared (xs ++ ys))
  every_declared [] ys g h = h
  every_declared (x ∷ xs) ys g h = (g.0, every_declared xs ys g.1 h)

  -- the variables of a pattern that is matched with nothing
  mutual
    pub begins : (p : numbered.Pattern) → OfPattern C p → Every V (all_declared (elaborated.variables p))
    begins (numbered.wild n) h = tt
    begins (numbered.bind n x m) h = (h, tt)
    begins (numbered.whole_number n g v k) h = tt
    begins (numbered.truth n b) h = tt
    begins (numbered.tuple_pattern n ps) h = begins_in ps h
    begins (numbered.variant_pattern n i v ps) h = begins_in ps h.1
    begins (numbered.struct_pattern n i fs) h = begins_fields fs h.1

    begins_in : (ps : numbered.Patterns) → OfPatterns C ps → Every V (all_declared (elaborated.variables_in ps))
    begins_in numbered.no_pattern h = tt
    begins_in (numbered.pattern_and p ps) h = every_declared (elaborated.variables p) (elaborated.variables_in ps) (begins p h.0) (begins_in ps h.1)

    begins_fields : (fs : numbered.FieldPatterns) → OfFieldPatterns C fs → Every V (all_declared (elaborated.variables_in_fields fs))
    begins_fields numbered.no_field_pattern h = tt
    begins_fields (numbered.field_pattern_and x p fs) h = every_declared (elaborated.variables p) (elaborated.variables_in_fields fs) (begins p h.0) (begins_fields fs h.1)
