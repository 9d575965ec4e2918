-- An elaborated tree is scoped, and fresh, where the tree with numbers is scoped and has places where places are wanted.
use Rattle.std.proofs.Common.{◌≡◌, ℕ, suc, Bool, true, false, Option, Some, None, List, [], ◌∷◌, ◌++◌, map, refl, sym, subst, ap, ◌∙◌, ◌⊎◌, inl, inr, ⊎_elim, append_assoc, append-nil, ◌&&◌}
use Rattle.rx_core.specs.declared.types.Step.{Step}
use Rattle.rx_core.specs.declared.types.Step.TheVariants as step
use Rattle.rx_tree.specs.declared.tree.BinaryOp.{BinaryOp}
use Rattle.rx_typed.specs.declared.nodes.Node.{Node}
use Rattle.rx_typed.specs.Types as types
use Rattle.rx_typed.specs.Types.{Typ, integer, boolean, tuple_of, reference}
use Rattle.rx_typed.specs.Named as named
use Rattle.rx_typed.specs.Named.{Pattern, Patterns, FieldPatterns, Exp, Exps, Else, Fields, Arms, Body, Statement, Statements, Parameter, Function, is_place, node_of}
use Rattle.rx_typed.specs.Elaborated as elaborated
use Rattle.rx_typed.specs.Elaborated.{Assigned, Coercion, Met, variables, variables_in, variables_in_fields}
use Rattle.rx_typed.specs.Tree as tree
use Rattle.rx_typed.specs.Tree.{Place, variable, own, under}
use Rattle.rx_lower_walks.specs.Matching.{Binding, bindings, bindings_in}
use Rattle.rx_lower_walks.specs.Actions.{Subject, in_place, in_temporary, subject}
use Rattle.rx_lower_walks.specs.Walks as walk
use Rattle.rx_lower_walks.specs.Walks.{Among}
use Rattle.rx_typeck_solver.specs.Valid.{IsIn}
use Rattle.rx_engine_typing.specs.Scoped.{Around, IsNotIn, entered, AllNew, behind, behind_all, ScopedExp, ScopedExps, ScopedElse, ScopedFields, ScopedArms, ScopedBody, ScopedStatement, ScopedStatements, parameter_variables}
use Rattle.rx_engine_typing.specs.Scoped as scope
use Rattle.rx_hoist_meant.specs.Placed.{Placed, PlacedAll, PlacedElse, PlacedFields, PlacedArms, PlacedBody, PlacedStatement, PlacedRow}
use Rattle.rx_meaning_covered.specs.Ways.{HasNoVariant, IsHeld, IsDirect}
use Rattle.rx_meaning_covered.specs.Arms.{IsOther, AllOther}
use Rattle.rx_meaning_covered.specs.Standing.{Standing, StandingAll, StandingScrutinee, StandingArms, StandingBody}
use Rattle.rx_meaning_covered.specs.Scopes.{PlaceIn, variables_of, Scoped, ScopedAll, ScopedScrutinee}
use Rattle.rx_meaning_covered.specs.Scopes as typed
use Rattle.rx_meaning_covered.specs.Covered.{IsDirectSubject}
use Rattle.rx_meaning_covered.proofs.Passing.{among_both}
use Rattle.rx_meaning_sound.specs.Fresh.{ArmsFresh, IsFreshChoice, IsFreshLet, StandsFresh}

-- ---- scopes

-- what is in scope in the tree with numbers is in the typed tree
abbrev Covers : Around → List ℕ → Type 0
Covers xs zs = (x : ℕ) → IsIn x xs → Among x zs

loops_cover : (ls : List ℕ) → Covers ls ls
loops_cover [] x h = absurd h
loops_cover (l ∷ ls) x (inl e) = subst (λ z. Among x (z ∷ ls)) e walk.here
loops_cover (l ∷ ls) x (inr h) = walk.there (loops_cover ls x h)

one_more : (y : ℕ) (xs : Around) (zs : List ℕ) → Covers xs zs → Covers (y ∷ xs) (y ∷ zs)
one_more y xs zs c x (inl e) = subst (λ z. Among x (z ∷ zs)) e walk.here
one_more y xs zs c x (inr h) = walk.there (c x h)

swapped : (x y u : ℕ) (l : List ℕ) → Among x (y ∷ l) → Among x (y ∷ (u ∷ l))
swapped _ y u l walk.here = walk.here
swapped x y u l (walk.there g) = walk.there (walk.there g)

to_front : (y x : ℕ) (ys zs : List ℕ) → Among x (ys ++ (y ∷ zs)) → Among x (y ∷ (ys ++ zs))
to_front y x [] zs h = h
to_front y _ (u ∷ ys) zs walk.here = walk.there walk.here
to_front y x (u ∷ ys) zs (walk.there h) = swapped x y u (ys ++ zs) (to_front y x ys zs h)

entered_cover : (ys : List ℕ) (xs : Around) (zs : List ℕ) → Covers xs zs → Covers (entered xs ys) (ys ++ zs)
entered_cover [] xs zs c x h = c x h
entered_cover (y ∷ ys) xs zs c x h = to_front y x ys zs (entered_cover ys (y ∷ xs) (y ∷ zs) (one_more y xs zs c) x h)

-- a new variable is none of those in scope
new_apart : (xs : Around) (ys : List ℕ) → AllNew xs ys → (x : ℕ) → IsIn x xs → (y : ℕ) → Among y ys → x ≡ y → ⊥
new_apart xs [] h x i y a e = elim a [ ]
new_apart xs (u ∷ ys) h x i _ walk.here e = h.0 (subst (λ z. IsIn z xs) e i)
new_apart xs (u ∷ ys) h x i y (walk.there a) e = new_apart (u ∷ xs) ys h.1 x (inr i) y a e

-- ---- the variables of a pattern

map_both : (bs cs : List Binding) → variables_of (bs ++ cs) ≡ variables_of bs ++ variables_of cs
map_both [] cs = refl
map_both (b ∷ bs) cs = ap (λ z. b.variable ∷ z) (map_both bs cs)

module _ (T : Assigned) where
  behind_variables : (t : Typ) (p : tree.Pattern) (ys : List ℕ) → ((at : List Step) → variables_of (bindings at p) ≡ ys) → (at : List Step) → variables_of (bindings at (elaborated.behind_all t p)) ≡ ys
  behind_variables (integer k) p ys h at = h at
  behind_variables boolean p ys h at = h at
  behind_variables (tuple_of ts) p ys h at = h at
  behind_variables (reference m t) p ys h at = behind_variables t p ys h (at ++ step.Deref m ∷ [])
  behind_variables (types.named i) p ys h at = h at

  mutual
    pattern_variables : (r : Met) (p : Pattern) (at : List Step) → variables_of (bindings at (elaborated.pattern T r p)) ≡ variables p
    pattern_variables r (named.wild n) at = refl
    pattern_variables r (named.bind n x m) at = refl
    pattern_variables r (named.whole_number n g v k) at = behind_variables (T.typ n.number) (tree.exactly n.number (tree.whole_number (elaborated.kind_in (types.peeled (T.typ n.number))) (elaborated.with_sign g v))) [] (λ a. refl) at
    pattern_variables r (named.truth n b) at = behind_variables (T.typ n.number) (tree.exactly n.number (tree.truth b)) [] (λ a. refl) at
    pattern_variables r (named.tuple_pattern n ps) at =
        behind_variables (T.typ n.number) (tree.parts (elaborated.subpatterns T (elaborated.met (T.typ n.number) r) 0 ps)) (variables_in ps) (λ a. parts_variables (elaborated.met (T.typ n.number) r) 0 ps a) at
    pattern_variables r (named.variant_pattern n i v ps) at =
        behind_variables (T.typ n.number) (tree.variant n.number i (elaborated.has_several T.items i) v (elaborated.subpatterns T (elaborated.met (T.typ n.number) r) 0 ps)) (variables_in ps)
        (λ a. parts_variables (elaborated.met (T.typ n.number) r) 0 ps (a ++ step.Variant v ∷ [])) at
    pattern_variables r (named.struct_pattern n i fs) at =
        behind_variables (T.typ n.number) (tree.parts (elaborated.field_patterns T (elaborated.met (T.typ n.number) r) i fs)) (variables_in_fields fs) (λ a. fields_variables (elaborated.met (T.typ n.number) r) i fs a) at

    parts_variables : (r : Met) (k : ℕ) (ps : Patterns) (at : List Step) → variables_of (bindings_in at (elaborated.subpatterns T r k ps)) ≡ variables_in ps
    parts_variables r k named.no_pattern at = refl
    parts_variables r k (named.pattern_and p ps) at =
        map_both (bindings (at ++ step.Field k ∷ []) (elaborated.pattern T r p)) (bindings_in at (elaborated.subpatterns T r (suc k) ps)) ∙
        (ap (λ z. z ++ variables_of (bindings_in at (elaborated.subpatterns T r (suc k) ps))) (pattern_variables r p (at ++ step.Field k ∷ [])) ∙ ap (λ z. variables p ++ z) (parts_variables r (suc k) ps at))

    fields_variables : (r : Met) (i : ℕ) (fs : FieldPatterns) (at : List Step) → variables_of (bindings_in at (elaborated.field_patterns T r i fs)) ≡ variables_in_fields fs
    fields_variables r i named.no_field_pattern at = refl
    fields_variables r i (named.field_pattern_and x p fs) at =
        let k = elaborated.field_in T.items (types.named i) x in
        map_both (bindings (at ++ step.Field k ∷ []) (elaborated.pattern T r p)) (bindings_in at (elaborated.field_patterns T r i fs)) ∙
        (ap (λ z. z ++ variables_of (bindings_in at (elaborated.field_patterns T r i fs))) (pattern_variables r p (at ++ step.Field k ∷ [])) ∙ ap (λ z. variables p ++ z) (fields_variables r i fs at))

  -- ---- places

  abbrev p_of : Exp → Place
  p_of e = elaborated.place T e

  pub no_variant_both : (ss qs : List Step) → HasNoVariant ss → HasNoVariant qs → HasNoVariant (ss ++ qs)
  no_variant_both [] qs h k = k
  no_variant_both (step.Field i ∷ ss) qs h k = no_variant_both ss qs h k
  no_variant_both (step.Variant i ∷ ss) qs h k = absurd h
  no_variant_both (step.Deref m ∷ ss) qs h k = no_variant_both ss qs h k

  pub no_variant_in : (t : Typ) → HasNoVariant (elaborated.dereferences t)
  no_variant_in (integer k) = tt
  no_variant_in boolean = tt
  no_variant_in (tuple_of ts) = tt
  no_variant_in (reference m t) = no_variant_in t
  no_variant_in (types.named i) = tt

  pub no_variant_one : (t : Typ) → HasNoVariant (elaborated.dereference t)
  no_variant_one (integer k) = tt
  no_variant_one boolean = tt
  no_variant_one (tuple_of ts) = tt
  no_variant_one (reference m t) = tt
  no_variant_one (types.named i) = tt

  -- a place of a variable that is in scope, through no variant
  pub record GoodPlace (xs : Around) (p : Place) : Type 0 where
    pub root : ℕ
    pub is : p.root ≡ variable root
    pub here : IsIn root xs
    pub steps : HasNoVariant p.steps

  deeper : (xs : Around) (p : Place) (ss : List Step) → HasNoVariant ss → GoodPlace xs p → GoodPlace xs (under p ss)
  deeper xs p ss n g = record { root = g.root; is = g.is; here = g.here; steps = no_variant_both p.steps ss g.steps n }

  place_good : (xs ls : Around) (e : Exp) → is_place e ≡ true → ScopedExp xs ls e → Placed e → GoodPlace xs (p_of e)
  place_good xs ls (named.var n u) q h k = record { root = u.number; is = refl; here = h; steps = tt }
  place_good xs ls (named.field n e x) q h k =
      deeper xs (p_of e) (elaborated.dereferences (T.typ (node_of e).number) ++ step.Field (elaborated.field_in T.items (types.peeled (T.typ (node_of e).number)) x) ∷ [])
      (no_variant_both (elaborated.dereferences (T.typ (node_of e).number)) (step.Field (elaborated.field_in T.items (types.peeled (T.typ (node_of e).number)) x) ∷ []) (no_variant_in (T.typ (node_of e).number)) tt) (place_good xs ls e k.1 h.0 k.0)
  place_good xs ls (named.part n e i) q h k =
      deeper xs (p_of e) (elaborated.dereferences (T.typ (node_of e).number) ++ step.Field i ∷ []) (no_variant_both (elaborated.dereferences (T.typ (node_of e).number)) (step.Field i ∷ []) (no_variant_in (T.typ (node_of e).number)) tt) (place_good xs ls e k.1 h.0 k.0)
  place_good xs ls (named.deref n e) q h k = deeper xs (p_of e) (elaborated.dereference (T.typ (node_of e).number)) (no_variant_one (T.typ (node_of e).number)) (place_good xs ls e k.1 h.0 k.0)
  place_good xs ls (named.int n m v k0) q h k = absurd (cc)
  place_good xs ls (named.bool n b) q h k = absurd (cc)
  place_good xs ls (named.tuple n es) q h k = absurd (cc)
  place_good xs ls (named.negate n e) q h k = absurd (cc)
  place_good xs ls (named.invert n e) q h k = absurd (cc)
  place_good xs ls (named.borrow n m e) q h k = absurd (cc)
  place_good xs ls (named.binary n o a b) q h k = absurd (cc)
  place_good xs ls (named.assign n p e) q h k = absurd (cc)
  place_good xs ls (named.gives n p u d e) q h k = absurd (cc)
  place_good xs ls (named.update n o p e) q h k = absurd (cc)
  place_good xs ls (named.call n f es) q h k = absurd (cc)
  place_good xs ls (named.hidden_call n es) q h k = absurd (cc)
  place_good xs ls (named.next_input n) q h k = absurd (cc)
  place_good xs ls (named.variant n i v es) q h k = absurd (cc)
  place_good xs ls (named.make n i fs) q h k = absurd (cc)
  place_good xs ls (named.print n e) q h k = absurd (cc)
  place_good xs ls (named.block n b) q h k = absurd (cc)
  place_good xs ls (named.if n c b o) q h k = absurd (cc)
  place_good xs ls (named.if_let n p e b o) q h k = absurd (cc)
  place_good xs ls (named.match n e l) q h k = absurd (cc)
  place_good xs ls (named.loop n l k0 b) q h k = absurd (cc)
  place_good xs ls (named.while n l c b) q h k = absurd (cc)
  place_good xs ls (named.while_let n l p e b) q h k = absurd (cc)
  place_good xs ls (named.break n l) q h k = absurd (cc)
  place_good xs ls (named.continue n l) q h k = absurd (cc)
  place_good xs ls (named.return n o) q h k = absurd (cc)

  same_variable : (x y : ℕ) → ◌≡◌ {A = tree.Root} (variable x) (variable y) → x ≡ y
  same_variable x y e = cc

  place_scoped : (xs : Around) (zs : List ℕ) (p : Place) → Covers xs zs → GoodPlace xs p → PlaceIn zs p
  place_scoped xs zs p c g x e = c x (subst (λ z. IsIn z xs) (same_variable g.root x (sym g.is ∙ e)) g.here)

  place_direct : (xs : Around) (p : Place) → GoodPlace xs p → IsDirect p
  place_direct xs p g = (g.steps, subst (λ z. IsHeld z []) (sym g.is) tt)

  -- ---- trees: scoped, and fresh

  abbrev Fine : List ℕ → List ℕ → tree.Exp → Type 0
  Fine zs ls e = Scoped zs ls e × Standing IsFreshChoice IsFreshLet e

  abbrev FineAll : List ℕ → List ℕ → tree.Operands → Type 0
  FineAll zs ls es = ScopedAll zs ls es × StandingAll IsFreshChoice IsFreshLet es

  abbrev FineBody : List ℕ → List ℕ → tree.Body → Type 0
  FineBody zs ls b = typed.ScopedBody zs ls b × StandingBody IsFreshChoice IsFreshLet b

  abbrev FineArms : List ℕ → List ℕ → tree.Arms → Type 0
  FineArms zs ls l = typed.ScopedArms zs ls l × StandingArms IsFreshChoice IsFreshLet l

  read_fine : (xs : Around) (zs ls : List ℕ) (n : Node) (k : Coercion) (p : Place) → Covers xs zs → GoodPlace xs p → Fine zs ls (elaborated.read_as T n k p)
  read_fine xs zs ls n Coercion.plain p c g = (place_scoped xs zs p c g, place_direct xs p g)
  read_fine xs zs ls n Coercion.reborrow p c g = let d = deeper xs p (step.Deref true ∷ []) tt g in (place_scoped xs zs (under p (step.Deref true ∷ [])) c d, place_direct xs (under p (step.Deref true ∷ [])) d)
  read_fine xs zs ls n Coercion.share p c g = let d = deeper xs p (step.Deref true ∷ []) tt g in (place_scoped xs zs (under p (step.Deref true ∷ [])) c d, place_direct xs (under p (step.Deref true ∷ [])) d)

  passed_fine : (zs ls : List ℕ) (n : Node) (k : Coercion) (e : tree.Exp) → Fine zs ls e → Fine zs ls (elaborated.passed_as T n k e)
  passed_fine zs ls n Coercion.plain e h = h
  passed_fine zs ls n Coercion.reborrow e h = h
  passed_fine zs ls n Coercion.share e h = h

  -- ---- what is matched

  pub record MatchedFine (xs : Around) (zs ls : List ℕ) (c : tree.Scrutinee) : Type 0 where
    pub scoped : ScopedScrutinee zs ls c
    pub stands : StandingScrutinee IsFreshChoice IsFreshLet c
    pub direct : IsDirectSubject (subject c)
    pub other : (ys : List ℕ) → AllNew xs ys → (y : ℕ) → Among y ys → IsOther (subject c) y

  value_matched : (xs : Around) (zs ls : List ℕ) (v : tree.Exp) → Fine zs ls v → MatchedFine xs zs ls (tree.of_value v)
  value_matched xs zs ls v h = record { scoped = h.0; stands = h.1; direct = tt; other = λ ys new y a. tt }

  place_matched : (xs : Around) (zs ls : List ℕ) (m : tree.Mark) (p : Place) → Covers xs zs → GoodPlace xs p → MatchedFine xs zs ls (tree.at_place m p)
  place_matched xs zs ls m p c g = record { scoped = place_scoped xs zs p c g; stands = place_direct xs p g; direct = place_direct xs p g; other = λ ys new y a q. new_apart xs ys new g.root g.here y a (same_variable g.root y (sym g.is ∙ q)) }

  matched_fine : (xs : Around) (zs ls : List ℕ) → Covers xs zs → (b : Bool) (k : Coercion) (e : Exp) → is_place e ≡ b → (v : tree.Exp) → Fine zs ls v → ScopedExp xs ls e → Placed e → MatchedFine xs zs ls (elaborated.matched_as T b k e v)
  matched_fine xs zs ls c true Coercion.plain e q v h sc pl = place_matched xs zs ls (elaborated.mark T (node_of e)) (p_of e) c (place_good xs ls e q sc pl)
  matched_fine xs zs ls c true Coercion.reborrow e q v h sc pl = value_matched xs zs ls v h
  matched_fine xs zs ls c true Coercion.share e q v h sc pl = value_matched xs zs ls v h
  matched_fine xs zs ls c false Coercion.plain e q v h sc pl = value_matched xs zs ls v h
  matched_fine xs zs ls c false Coercion.reborrow e q v h sc pl = value_matched xs zs ls v h
  matched_fine xs zs ls c false Coercion.share e q v h sc pl = value_matched xs zs ls v h

  all_other : (S : Subject) (bs : List Binding) → ((y : ℕ) → Among y (variables_of bs) → IsOther S y) → AllOther S bs
  all_other S [] h = tt
  all_other S (b ∷ bs) h = (h b.variable walk.here, all_other S bs (λ y a. h y (walk.there a)))

  pattern_other : (xs : Around) (S : Subject) (p : Pattern) → ((ys : List ℕ) → AllNew xs ys → (y : ℕ) → Among y ys → IsOther S y) → AllNew xs (variables p) → AllOther S (bindings [] (elaborated.pattern T None p))
  pattern_other xs S p h new = all_other S (bindings [] (elaborated.pattern T None p)) (λ y a. h (variables p) new y (subst (λ z. Among y z) (pattern_variables None p []) a))

  -- what a pattern binds is in scope
  bound_cover : (xs : Around) (zs : List ℕ) (p : Pattern) → Covers xs zs → Covers (entered xs (variables p)) (variables_of (bindings [] (elaborated.pattern T None p)) ++ zs)
  bound_cover xs zs p c = subst (λ z. Covers (entered xs (variables p)) (z ++ zs)) (sym (pattern_variables None p [])) (entered_cover (variables p) xs zs c)

  -- ---- forms

  tuple_fine : (zs ls : List ℕ) (n : Node) (es : tree.Operands) → FineAll zs ls es → Fine zs ls (elaborated.tuple_of T n es)
  tuple_fine zs ls n tree.no_operand h = (tt, tt)
  tuple_fine zs ls n (tree.operand_and i e es) h = h

  operated_fine : (zs ls : List ℕ) (n : Node) (o : BinaryOp) (a b : tree.Exp) → Fine zs ls a → Fine zs ls b → Fine zs ls (elaborated.operated T n o a b)
  operated_fine zs ls n BinaryOp.And a b h k = ((h.0, k.0), (h.1, k.1))
  operated_fine zs ls n BinaryOp.Or a b h k = ((h.0, k.0), (h.1, k.1))
  operated_fine zs ls n BinaryOp.Eq a b h k = ((h.0, (k.0, tt)), (h.1, (k.1, tt)))
  operated_fine zs ls n BinaryOp.Ne a b h k = ((h.0, (k.0, tt)), (h.1, (k.1, tt)))
  operated_fine zs ls n BinaryOp.Lt a b h k = ((h.0, (k.0, tt)), (h.1, (k.1, tt)))
  operated_fine zs ls n BinaryOp.Le a b h k = ((h.0, (k.0, tt)), (h.1, (k.1, tt)))
  operated_fine zs ls n BinaryOp.Gt a b h k = ((h.0, (k.0, tt)), (h.1, (k.1, tt)))
  operated_fine zs ls n BinaryOp.Ge a b h k = ((h.0, (k.0, tt)), (h.1, (k.1, tt)))
  operated_fine zs ls n BinaryOp.Add a b h k = ((h.0, (k.0, tt)), (h.1, (k.1, tt)))
  operated_fine zs ls n BinaryOp.Sub a b h k = ((h.0, (k.0, tt)), (h.1, (k.1, tt)))
  operated_fine zs ls n BinaryOp.Mul a b h k = ((h.0, (k.0, tt)), (h.1, (k.1, tt)))
  operated_fine zs ls n BinaryOp.Div a b h k = ((h.0, (k.0, tt)), (h.1, (k.1, tt)))
  operated_fine zs ls n BinaryOp.Rem a b h k = ((h.0, (k.0, tt)), (h.1, (k.1, tt)))

  tests_fine : (zs ls : List ℕ) (n : Node) (c : tree.Exp) (m : tree.Mark) (a b : tree.Exp) → Fine zs ls c → Fine zs ls a → Fine zs ls b → Fine zs ls (elaborated.tests n c m a b)
  tests_fine zs ls n c m a b h k j = ((h.0, (k.0, (j.0, tt))), (h.1, (tt, (tt, (tt, tt))), (k.1, (j.1, tt))))

  looks_fine : (xs : Around) (zs ls : List ℕ) (m : tree.Mark) (c : tree.Scrutinee) (p : Pattern) (a b : tree.Exp) → MatchedFine xs zs ls c → AllNew xs (variables p) → Fine (variables_of (bindings [] (elaborated.pattern T None p)) ++ zs) ls a → Fine zs ls b
      → Fine zs ls (elaborated.looks m c (elaborated.pattern T None p) a b)
  looks_fine xs zs ls m c p a b h new k j = ((h.scoped, (k.0, (j.0, tt))), (h.stands, (h.direct, (pattern_other xs (subject c) p h.other new, (tt, tt))), (k.1, (j.1, tt))))

  here_in : (l : ℕ) (ls : List ℕ) → Among l (l ∷ ls)
  here_in l ls = walk.here

  mutual
    exp_fine : (xs : Around) (zs ls : List ℕ) → Covers xs zs → (e : Exp) → ScopedExp xs ls e → Placed e → Fine zs ls (elaborated.value T e)
    exp_fine xs zs ls c (named.int n m v k) h q = (tt, tt)
    exp_fine xs zs ls c (named.bool n b) h q = (tt, tt)
    exp_fine xs zs ls c (named.tuple n es) h q = tuple_fine zs ls n (elaborated.operands T 0 es) (operands_fine xs zs ls c 0 es h q)
    exp_fine xs zs ls c (named.var n u) h q = read_fine xs zs ls n (elaborated.coercion_at T n) (p_of (named.var n u)) c (place_good xs ls (named.var n u) refl h q)
    exp_fine xs zs ls c (named.field n e x) h q = read_fine xs zs ls n (elaborated.coercion_at T n) (p_of (named.field n e x)) c (place_good xs ls (named.field n e x) refl h q)
    exp_fine xs zs ls c (named.part n e i) h q = read_fine xs zs ls n (elaborated.coercion_at T n) (p_of (named.part n e i)) c (place_good xs ls (named.part n e i) refl h q)
    exp_fine xs zs ls c (named.deref n e) h q = read_fine xs zs ls n (elaborated.coercion_at T n) (p_of (named.deref n e)) c (place_good xs ls (named.deref n e) refl h q)
    exp_fine xs zs ls c (named.negate n e) h q = let a = exp_fine xs zs ls c e h q in ((a.0, tt), (a.1, tt))
    exp_fine xs zs ls c (named.invert n e) h q = let a = exp_fine xs zs ls c e h q in ((a.0, tt), (a.1, tt))
    exp_fine xs zs ls c (named.borrow n m e) h q =
        let g = place_good xs ls e q.1 h.0 q.0 in passed_fine zs ls n (elaborated.coercion_at T n) (tree.borrow (elaborated.mark T n) m (p_of e)) (place_scoped xs zs (p_of e) c g, place_direct xs (p_of e) g)
    exp_fine xs zs ls c (named.binary n o a b) h q = operated_fine zs ls n o (elaborated.value T a) (elaborated.value T b) (exp_fine xs zs ls c a h.0 q.0) (exp_fine xs zs ls c b h.1 q.1)
    exp_fine xs zs ls c (named.assign n p e) h q = let g = place_good xs ls p q.0.1 h.0.0 q.0.0 in let a = exp_fine xs zs ls c e h.1 q.1 in ((place_scoped xs zs (p_of p) c g, a.0), (place_direct xs (p_of p) g, a.1))
    exp_fine xs zs ls c (named.gives n p u d e) h q =
        let g : GoodPlace xs (own u.number) = record { root = u.number; is = refl; here = h.0; steps = tt } in let a = exp_fine xs zs ls c e h.1 q in ((place_scoped xs zs (own u.number) c g, a.0), (place_direct xs (own u.number) g, a.1))
    exp_fine xs zs ls c (named.update n o p e) h q = let g = place_good xs ls p q.0.1 h.0.0 q.0.0 in let a = exp_fine xs zs ls c e h.1 q.1 in ((place_scoped xs zs (p_of p) c g, a.0), (place_direct xs (p_of p) g, a.1))
    exp_fine xs zs ls c (named.call n f es) h q = passed_fine zs ls n (elaborated.coercion_at T n) (tree.call (elaborated.mark T n) f (elaborated.operands T 0 es)) (operands_fine xs zs ls c 0 es h q)
    exp_fine xs zs ls c (named.hidden_call n es) h q = absurd q
    exp_fine xs zs ls c (named.next_input n) h q = (tt, tt)
    exp_fine xs zs ls c (named.variant n i v es) h q = operands_fine xs zs ls c 0 es h q
    exp_fine xs zs ls c (named.make n i fs) h q = fields_fine xs zs ls c i fs h q
    exp_fine xs zs ls c (named.print n e) h q = exp_fine xs zs ls c e h q
    exp_fine xs zs ls c (named.block n b) h q = body_fine xs zs ls c b h q
    exp_fine xs zs ls c (named.if n e b o) h q =
        tests_fine zs ls n (elaborated.value T e) (elaborated.mark_if T n (named.body_never b && named.else_never o)) (elaborated.body T b) (elaborated.otherwise T n o) (exp_fine xs zs ls c e h.0 q.0) (body_fine xs zs ls c b h.1 q.1) (otherwise_fine xs zs ls c n o h.2 q.2)
    exp_fine xs zs ls c (named.if_let n p e b o) h q =
        looks_fine xs zs ls (elaborated.mark_if T n (named.body_never b && named.else_never o)) (elaborated.matched T e (elaborated.value T e)) p (elaborated.body T b) (elaborated.otherwise T n o)
        (matched_fine xs zs ls c (is_place e) (elaborated.coercion_at T (node_of e)) e refl (elaborated.value T e) (exp_fine xs zs ls c e h.1 q.0) h.1 q.0) h.0
        (body_fine (entered xs (variables p)) (variables_of (bindings [] (elaborated.pattern T None p)) ++ zs) ls (bound_cover xs zs p c) b h.2 q.1) (otherwise_fine xs zs ls c n o h.3 q.2)
    exp_fine xs zs ls c (named.match n e l) h q =
        let m = matched_fine xs zs ls c (is_place e) (elaborated.coercion_at T (node_of e)) e refl (elaborated.value T e) (exp_fine xs zs ls c e h.0 q.0) h.0 q.0 in
        let a = arms_fine xs zs ls c (subject (elaborated.matched T e (elaborated.value T e))) m.other l h.1 q.1 in
        ((m.scoped, a.0.0), (m.stands, (m.direct, a.1), a.0.1))
    exp_fine xs zs ls c (named.loop n l k b) h q = body_fine xs zs (l ∷ ls) c b h.1 q
    exp_fine xs zs ls c (named.while n l e b) h q =
        tests_fine zs (l ∷ ls) n (elaborated.value T e) (elaborated.mark_if T (named.body_node b) (named.body_never b)) (elaborated.body T b) (elaborated.leaves n l) (exp_fine xs zs (l ∷ ls) c e h.1 q.0) (body_fine xs zs (l ∷ ls) c b h.2 q.1) (here_in l ls, tt)
    exp_fine xs zs ls c (named.while_let n l p e b) h q =
        looks_fine xs zs (l ∷ ls) (elaborated.mark_if T (named.body_node b) (named.body_never b)) (elaborated.matched T e (elaborated.value T e)) p (elaborated.body T b) (elaborated.leaves n l)
        (matched_fine xs zs (l ∷ ls) c (is_place e) (elaborated.coercion_at T (node_of e)) e refl (elaborated.value T e) (exp_fine xs zs (l ∷ ls) c e h.2 q.0) h.2 q.0) h.1
        (body_fine (entered xs (variables p)) (variables_of (bindings [] (elaborated.pattern T None p)) ++ zs) (l ∷ ls) (bound_cover xs zs p c) b h.3 q.1) (here_in l ls, tt)
    exp_fine xs zs ls c (named.break n l) h q = (loops_cover ls l h, tt)
    exp_fine xs zs ls c (named.continue n l) h q = (loops_cover ls l h, tt)
    exp_fine xs zs ls c (named.return n o) h q = returned_fine xs zs ls c n o h q

    operands_fine : (xs : Around) (zs ls : List ℕ) → Covers xs zs → (k : ℕ) (es : Exps) → ScopedExps xs ls es → PlacedAll es → FineAll zs ls (elaborated.operands T k es)
    operands_fine xs zs ls c k named.no_exp h q = (tt, tt)
    operands_fine xs zs ls c k (named.exp_and e es) h q = let a = exp_fine xs zs ls c e h.0 q.0 in let b = operands_fine xs zs ls c (suc k) es h.1 q.1 in ((a.0, b.0), (a.1, b.1))

    fields_fine : (xs : Around) (zs ls : List ℕ) → Covers xs zs → (i : ℕ) (fs : Fields) → ScopedFields xs ls fs → PlacedFields fs → FineAll zs ls (elaborated.fields T i fs)
    fields_fine xs zs ls c i named.no_field h q = (tt, tt)
    fields_fine xs zs ls c i (named.field_and x e fs) h q = let a = exp_fine xs zs ls c e h.0 q.0 in let b = fields_fine xs zs ls c i fs h.1 q.1 in ((a.0, b.0), (a.1, b.1))

    otherwise_fine : (xs : Around) (zs ls : List ℕ) → Covers xs zs → (n : Node) (o : Else) → ScopedElse xs ls o → PlacedElse o → Fine zs ls (elaborated.otherwise T n o)
    otherwise_fine xs zs ls c n named.absent h q = (tt, tt)
    otherwise_fine xs zs ls c n (named.present e) h q = exp_fine xs zs ls c e h q

    returned_fine : (xs : Around) (zs ls : List ℕ) → Covers xs zs → (n : Node) (o : Else) → ScopedElse xs ls o → PlacedElse o → Fine zs ls (elaborated.returned T n o)
    returned_fine xs zs ls c n named.absent h q = (tt, tt)
    returned_fine xs zs ls c n (named.present e) h q = exp_fine xs zs ls c e h q

    tail_fine : (xs : Around) (zs ls : List ℕ) → Covers xs zs → (n : Node) (o : Else) → ScopedElse xs ls o → PlacedElse o → Fine zs ls (elaborated.tail T n o)
    tail_fine xs zs ls c n named.absent h q = (tt, tt)
    tail_fine xs zs ls c n (named.present e) h q = exp_fine xs zs ls c e h q

    arms_fine : (xs : Around) (zs ls : List ℕ) → Covers xs zs → (S : Subject) → ((ys : List ℕ) → AllNew xs ys → (y : ℕ) → Among y ys → IsOther S y) → (l : Arms) → ScopedArms xs ls l → PlacedArms l
        → FineArms zs ls (elaborated.arms T l) × ArmsFresh S (elaborated.arms T l)
    arms_fine xs zs ls c S other named.no_arm h q = ((tt, tt), tt)
    arms_fine xs zs ls c S other (named.arm_and p e l) h q =
        let a = exp_fine (entered xs (variables p)) (variables_of (bindings [] (elaborated.pattern T None p)) ++ zs) ls (bound_cover xs zs p c) e h.1 q.0 in let b = arms_fine xs zs ls c S other l h.2 q.1 in
        (((a.0, b.0.0), (a.1, b.0.1)), (pattern_other xs S p other h.0, b.1))

    body_fine : (xs : Around) (zs ls : List ℕ) → Covers xs zs → (b : Body) → ScopedBody xs ls b → PlacedBody b → Fine zs ls (elaborated.body T b)
    body_fine xs zs ls c (named.body n ss o) h q = nested_fine xs zs ls c ss h.0 q.0 (elaborated.tail T n o) (λ ws d. tail_fine (behind_all xs ss) ws ls d n o h.1 q.1)

    nested_fine : (xs : Around) (zs ls : List ℕ) → Covers xs zs → (ss : Statements) → ScopedStatements xs ls ss → PlacedRow ss → (last : tree.Exp) → ((ws : List ℕ) → Covers (behind_all xs ss) ws → Fine ws ls last) → FineBody zs ls (elaborated.nested T ss last)
    nested_fine xs zs ls c named.no_statement h q last k = k zs c
    nested_fine xs zs ls c (named.statement_and (named.declares n p t) ss) h q last k = nested_fine (entered xs (variables p)) (variables p ++ zs) ls (entered_cover (variables p) xs zs c) ss h.1 q.1 last k
    nested_fine xs zs ls c (named.statement_and (named.lets n p t e) ss) h q last k =
        let m = matched_fine xs zs ls c (is_place e) (elaborated.coercion_at T (node_of e)) e refl (elaborated.value T e) (exp_fine xs zs ls c e h.0.1 q.0) h.0.1 q.0 in
        let a = nested_fine (entered xs (variables p)) (variables_of (bindings [] (elaborated.pattern T None p)) ++ zs) ls (bound_cover xs zs p c) ss h.1 q.1 last k in
        ((m.scoped, a.0), (m.stands, (m.direct, pattern_other xs (subject (elaborated.matched T e (elaborated.value T e))) p m.other h.0.0), a.1))
    nested_fine xs zs ls c (named.statement_and (named.evaluates n e s) ss) h q last k = let a = exp_fine xs zs ls c e h.0 q.0 in let b = nested_fine xs zs ls c ss h.1 q.1 last k in ((a.0, b.0), (a.1, b.1))

  -- ---- functions

  nested_gives : (ss : Statements) (m : tree.Mark) (e : tree.Exp) → typed.BodyGives (elaborated.nested T ss (tree.give m e))
  nested_gives named.no_statement m e = tt
  nested_gives (named.statement_and (named.declares n p t) ss) m e = nested_gives ss m e
  nested_gives (named.statement_and (named.lets n p t x) ss) m e = nested_gives ss m e
  nested_gives (named.statement_and (named.evaluates n x s) ss) m e = nested_gives ss m e

  function_gives : (b : Body) → typed.Gives (elaborated.function_body T b)
  function_gives (named.body n ss o) = nested_gives ss (elaborated.no_mark n) (elaborated.tail T n o)

  function_body_fine : (xs : Around) (zs ls : List ℕ) → Covers xs zs → (b : Body) → ScopedBody xs ls b → PlacedBody b → Fine zs ls (elaborated.function_body T b)
  function_body_fine xs zs ls c (named.body n ss o) h q = nested_fine xs zs ls c ss h.0 q.0 (tree.give (elaborated.no_mark n) (elaborated.tail T n o)) (λ ws d. tail_fine (behind_all xs ss) ws ls d n o h.1 q.1)

  same_parameters : (ps : List Parameter) → map (λ (p : tree.Parameter). p.variable) (elaborated.parameters ps) ≡ parameter_variables ps
  same_parameters [] = refl
  same_parameters (p ∷ ps) = ap (λ z. p.variable ∷ z) (same_parameters ps)

  nothing_more : (ys : List ℕ) → Covers (entered [] ys) ys
  nothing_more ys x h = subst (λ z. Among x z) (append-nil ys) (entered_cover ys [] [] (λ u g. absurd g) x h)

  pub function_stands : (f : Function) → scope.ScopedFunction f → PlacedBody f.body → StandsFresh (elaborated.elaborated T f)
  function_stands f h q =
      let a = function_body_fine (entered [] (parameter_variables f.params)) (map (λ (p : tree.Parameter). p.variable) (elaborated.parameters f.params)) []
      (subst (λ z. Covers (entered [] (parameter_variables f.params)) z) (sym (same_parameters f.params)) (nothing_more (parameter_variables f.params))) f.body h.body q in
      record { scoped = a.0; fresh = a.1; gives = function_gives f.body }
