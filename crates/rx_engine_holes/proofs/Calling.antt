-- Statements with a call whose arguments fit meet what is asked, by the types of what is made there; a match on the call too.
use Rattle.std.proofs.Common.{◌≡◌, ℕ, suc, Bool, true, false, not, ◌||◌, IsTrue, List, [], ◌∷◌, ◌++◌, length, Option, Some, None, refl, sym, ap, ◌∙◌, subst, eq-eqb}
use Rattle.rx_core.specs.declared.types.Kind.{Kind}
use Rattle.rx_typed.specs.declared.nodes.Node.{Node}
use Rattle.rx_typed.specs.declared.nodes.Site.{Site}
use Rattle.rx_typed.specs.declared.nodes.Use.{Use}
use Rattle.rx_typed.specs.Types.{copies, integer, boolean, keeps_limits, outline, peeled, reference, references, shape_map, shapes_listed, shapes_map, shapes_of, tuple_of, unit_shape, variant_parts, named as item, no_shape, shape_and, Shapes, Typ}
use Rattle.rx_typed.specs.Named as named
use Rattle.rx_typed.specs.Naming.{passed_on}
use Rattle.rx_typed.specs.Named.{all_never, Arms, Else, Exp, Exps, Patterns, Statement, Statements, Written, WrittenTypes, is_place, never, node_of, some_diverges, written_node}
use Rattle.rx_typeck_solver.specs.declared.facts.Subject.TheVariants as subject
use Rattle.rx_typeck_solver.specs.declared.facts.Passing.{Passing}
use Rattle.rx_typeck_solver.specs.declared.facts.Test.TheVariants as test
use Rattle.rx_typeck_solver.specs.declared.facts.Demand.{Demand}
use Rattle.rx_typeck_solver.specs.Facts as facts
use Rattle.rx_typeck_solver.specs.Facts.{coerced, fixed, is_item, is_lent, is_mutable_reference, is_none, is_tuple, part_of, passed, types_at, KnownItems, MeetsAll, MeetsEach, Assignment}
use Rattle.rx_typeck_typed.specs.Asking as asking
use Rattle.rx_typeck_typed.specs.Asking.{expected, type_of, Asking}
use Rattle.rx_typeck_typed.specs.Demands as rules
use Rattle.rx_typeck_typed.specs.Demands.{count, parameters}
use Rattle.rx_engine_blocks.specs.Signature.{typ_written, typs_written}
use Rattle.rx_engine_blocks.proofs.Meets.{last}
use Rattle.rx_engine_holes.specs.Entries.{with_entries, Entries, Has, Context}
use Rattle.rx_engine_holes.specs.CallFits.{all_written_entries, written_entries, AllLifetimesFit, ArgumentsFit, ArmFits, ArmsFit, EndFits, Ends, GivenFits, JumpFits, LifetimesFit, MatchFits, MembersFit, PartsBind, StatementFits, StatementsFit, ValueFits}
use Rattle.rx_engine_holes.specs.CallFits.GivenFits.{by_itself, borrowed}
use Rattle.rx_engine_holes.specs.CallFits.ArgumentsFit.{no_arguments, more_arguments}
use Rattle.rx_engine_holes.specs.CallFits.MembersFit.{no_members, more_members}
use Rattle.rx_engine_holes.specs.CallFits.ValueFits.{a_call, a_variable, a_tuple, the_unit, a_match}
use Rattle.rx_engine_holes.specs.CallFits.ArmsFit.{no_arms, gives_value, leaves}
use Rattle.rx_engine_holes.specs.CallFits.JumpFits.{a_break, a_continue, a_return, a_return_with, a_jump_behind}
use Rattle.rx_engine_holes.specs.CallFits.PartsBind.{no_parts, more_parts}
use Rattle.rx_engine_holes.specs.CallFits.StatementFits.{done, jumps, bound, several_bound, assigned, given, given_within, declared}
use Rattle.rx_engine_holes.specs.CallFits.Ends.{at_value, at_coercion, at_reborrow}
use Rattle.rx_engine_holes.specs.CallFits.EndFits.{no_tail, a_tail}
use Rattle.rx_engine_holes.specs.Tail.{of_end}
use Rattle.rx_engine_holes.specs.CallFits.StatementsFit.{no_more, a_statement}
use Rattle.rx_engine_holes.proofs.Entering.{has_first, tells_more, Tells}

mutual
  map_itself : (t : Typ) → shape_map (λ k. k) t ≡ t
  map_itself (integer k) = refl
  map_itself boolean = refl
  map_itself (tuple_of ts) = ap tuple_of (maps_itself ts)
  map_itself (reference m t) = ap (reference m) (map_itself t)
  map_itself (item i) = refl

  maps_itself : (ts : Shapes Kind) → shapes_map (λ k. k) ts ≡ ts
  maps_itself no_shape = refl
  maps_itself (shape_and t ts) = ap (λ u. shape_and u (shapes_map (λ k. k) ts)) (map_itself t) ∙ ap (shape_and t) (maps_itself ts)

fixed_is : (o : Option Typ) (t c : Typ) → o ≡ Some t → c ≡ t → fixed (λ k. k) o ≡ Some c
fixed_is o t c i j = ap (fixed (λ k. k)) i ∙ (ap Some (map_itself t) ∙ ap Some (sym j))

or_second : (a b : Bool) → IsTrue b → IsTrue (a || b)
or_second true b h = refl
or_second false b h = h

-- references that were gone through are none
kept_or_lent : (a b : Bool) → IsTrue (a || b || true)
kept_or_lent true b = refl
kept_or_lent false true = refl
kept_or_lent false false = refl

coerced_as : (a b t u : Typ) → a ≡ t → b ≡ u → coerced t u ≡ t → coerced a b ≡ a
coerced_as a b t u i j k = subst (λ x. coerced x b ≡ x) (sym i) (subst (λ y. coerced t y ≡ t) (sym j) k)

as_many : {L : Type 0} (f : Kind → L) (ts : Shapes Kind) → length (shapes_listed (shapes_map f ts)) ≡ length (shapes_listed ts)
as_many f no_shape = refl
as_many f (shape_and t ts) = ap suc (as_many f ts)

module _ (E : KnownItems) (C : Assignment) where
  abbrev pub Meeting : Asking → Type 0
  Meeting a = (ds : List Demand) → MeetsEach E C ds → MeetsEach E C (a ds)

  one : (d : Demand) → MeetsAll E C d.facts → (ds : List Demand) → MeetsEach E C ds → MeetsEach E C (ds ++ d ∷ [])
  one d k ds h = last E C ds d h k

  named_meets : (n : Node) (x : Use) → x.known ≡ true → C (type_of n) ≡ C (subject.Variable x.number) → Meeting (rules.named_at n x x.known)
  named_meets n x k e ds h = subst (λ b. MeetsEach E C (rules.named_at n x b ds)) (sym k) (one _ (ap Some (sym e), tt) ds h)

  -- what the place of a value makes of it
  abbrev pub Placed : Node → Site → Type 0
  Placed n Site.Value = Unit {0}
  Placed n Site.Scrutinee = Unit {0}
  Placed n Site.Expects = coerced (C (type_of n)) (C (expected n)) ≡ C (type_of n)
  Placed n Site.Reborrows = C (expected n) ≡ C (type_of n)
  Placed n _ = ⊥

  lent_meets : (n : Node) (x : ℕ) → Meeting (rules.lendable n x [])
  lent_meets n x ds h = one _ (or_second (not (is_lent (outline (C (type_of n))) (outline (C (expected n))))) true refl, tt) ds h

  kept_meets : (n : Node) → Meeting (rules.kept n test.KeptOrLent [])
  kept_meets n ds h = one _ (kept_or_lent (copies E.items (outline (C (type_of n)))) (is_mutable_reference (outline (C (type_of n)))), tt) ds h

  place_meets : (n : Node) (x : ℕ) (s : Site) → Placed n s → Meeting (rules.place_in n x [] s)
  place_meets n x Site.Value e ds h = one _ (or_second (copies E.items (outline (C (type_of n)))) true refl, tt) ds h
  place_meets n x Site.Scrutinee e ds h = h
  place_meets n x Site.Expects e ds h = lent_meets n x _ (kept_meets n _ (one _ (ap Some e, tt) ds h))
  place_meets n x Site.Reborrows e ds h = lent_meets n x _ (kept_meets n _ (one _ (ap Some (sym e), tt) ds h))
  place_meets n x Site.Place e ds h = absurd e
  place_meets n x Site.Initialises e ds h = absurd e

  value_meets : (n : Node) (s : Site) → Placed n s → Meeting (rules.value_in n s)
  value_meets n Site.Value e ds h = h
  value_meets n Site.Scrutinee e ds h = h
  value_meets n Site.Expects e ds h = one _ (ap Some e, tt) ds h
  value_meets n Site.Reborrows e ds h = one _ (ap Some (sym e), tt) ds h
  value_meets n Site.Place e ds h = absurd e
  value_meets n Site.Initialises e ds h = absurd e

  inner_meets : (k : Node) (x : ℕ) → k.site ≡ Site.Place → Meeting (rules.place_in k x [] k.site)
  inner_meets k x s ds h = subst (λ t. MeetsEach E C (rules.place_in k x [] t ds)) (sym s) h

  writable_meets : (n : Node) (m : Bool) (x : Use) → (m ≡ true → x.mutable ≡ true) → Meeting (asking.when m (rules.writable n x.mutable x.number []))
  writable_meets n false x k ds h = h
  writable_meets n true x k ds h = one _ (subst (λ b. IsTrue (b || false)) (sym (k refl)) refl, tt) ds h

  given_meets : (B : Context) → Tells C B → (f : ℕ) {e : Exp} {u : Typ} {a : Entries} → GivenFits E B e u a → Has C a → Meeting (rules.of_exp f e)
  given_meets B k f (by_itself {n} {x} {t} {u} i y s c) h ds m =
      place_meets n x.number n.site (subst (Placed n) (sym s) (coerced_as _ _ t u h.0 h.1.0 c)) _ (named_meets n x y (h.0 ∙ sym (k _ t i)) ds m)
  given_meets B k f (borrowed {n = n} {k = z} {m = b} {x = x} {t = t} {u = u} i y s p w l c) h ds m =
      value_meets n n.site (subst (Placed n) (sym s) (coerced_as _ _ (reference b t) u h.1.0 h.1.1.0 c)) _
      (writable_meets n b x w _ (one _ (subst (λ v. IsTrue (keeps_limits E.sizes (outline v))) (sym h.1.0) l, tt) _
      (one _ (ap Some (ap (reference b) h.0 ∙ sym h.1.0), tt) _
      (inner_meets z x.number p _ (named_meets z x y (h.0 ∙ sym (k _ t i)) ds m)))))

  expected_is : {B : Context} {e : Exp} {u : Typ} {a : Entries} → GivenFits E B e u a → Has C a → C (expected (node_of e)) ≡ u
  expected_is (by_itself i y s c) h = h.1.0
  expected_is (borrowed i y s p w l c) h = h.1.1.0

  arguments_meet : (B : Context) → Tells C B → (f g k : ℕ) {es : Exps} {a : Entries} → ArgumentsFit E B g k es a → Has C a → Meeting (rules.of_each f (parameters g) k es)
  arguments_meet B j f g k no_arguments h ds m = m
  arguments_meet B j f g k (more_arguments {k = k'} {e = e} {u = u} {a = a} {b = b} i x xs) h ds m =
      let p = has_first C a b h in
      arguments_meet B j f g (suc k) xs p.1 _ (given_meets B j f x p.0 _ (one _ (fixed_is _ u _ i (expected_is x p.0), tt) ds m))

  -- ---- what is wanted of a value of a type where another is expected, at a site

  abbrev Wanted : Node → Site → Typ → Typ → Type 0
  Wanted n Site.Value u t = Unit {0}
  Wanted n Site.Scrutinee u t = Unit {0}
  Wanted n Site.Expects u t = (C (expected n) ≡ u) × (coerced t u ≡ t)
  Wanted n Site.Reborrows u t = C (expected n) ≡ t
  Wanted n _ u t = ⊥

  placed : (n : Node) (s : Site) (u t : Typ) → Wanted n s u t → C (type_of n) ≡ t → Placed n s
  placed n Site.Value u t w e = tt
  placed n Site.Scrutinee u t w e = tt
  placed n Site.Expects u t w e = coerced_as _ _ t u e w.0 w.1
  placed n Site.Reborrows u t w e = w ∙ sym e
  placed n Site.Place u t w e = absurd w
  placed n Site.Initialises u t w e = absurd w

  -- what is known of the place of a jump
  abbrev Awaited : Node → Site → Typ → Type 0
  Awaited n Site.Value u = Unit {0}
  Awaited n Site.Scrutinee u = Unit {0}
  Awaited n Site.Expects u = C (expected n) ≡ u
  Awaited n Site.Reborrows u = Unit {0}
  Awaited n _ u = ⊥

  awaited : (n : Node) (s : Site) (u t : Typ) → Wanted n s u t → Awaited n s u
  awaited n Site.Value u t w = tt
  awaited n Site.Scrutinee u t w = tt
  awaited n Site.Expects u t w = w.0
  awaited n Site.Reborrows u t w = tt
  awaited n Site.Place u t w = absurd w
  awaited n Site.Initialises u t w = absurd w

  never_meets : (n : Node) (s : Site) (u : Typ) → Awaited n s u → Meeting (rules.never_in n s)
  never_meets n Site.Value u w ds h = h
  never_meets n Site.Scrutinee u w ds h = h
  never_meets n Site.Expects u w ds h = h
  never_meets n Site.Reborrows u w ds h = h
  never_meets n Site.Place u w ds h = absurd w
  never_meets n Site.Initialises u w ds h = absurd w

  -- a part of what joins values, where this is expected
  part_before_meets : (n m : Node) (s : Site) (u : Typ) → Awaited n s u → C (expected m) ≡ u → Meeting (rules.part_before n s m)
  part_before_meets n m Site.Value u w e ds h = h
  part_before_meets n m Site.Scrutinee u w e ds h = h
  part_before_meets n m Site.Expects u w e ds h = one _ (ap Some (w ∙ sym e), tt) ds h
  part_before_meets n m Site.Reborrows u w e ds h = h
  part_before_meets n m Site.Place u w e ds h = absurd w
  part_before_meets n m Site.Initialises u w e ds h = absurd w

  -- it is left, or gives the type of the whole
  left_after_meets : (n m : Node) (s : Site) → Meeting (rules.part_after n s true m)
  left_after_meets n m Site.Value ds h = h
  left_after_meets n m Site.Scrutinee ds h = h
  left_after_meets n m Site.Expects ds h = h
  left_after_meets n m Site.Reborrows ds h = h
  left_after_meets n m Site.Place ds h = h
  left_after_meets n m Site.Initialises ds h = h

  part_after_meets : (n m : Node) (s : Site) (u t v : Typ) → Wanted n s u t → C (type_of n) ≡ t → C (type_of m) ≡ v → ArmFits (passed_on s) u t v → Meeting (rules.part_after n s false m)
  part_after_meets n m Site.Value u t v w e k a ds h = one _ (ap Some (k ∙ (a ∙ sym e)), tt) ds h
  part_after_meets n m Site.Scrutinee u t v w e k a ds h = one _ (ap Some (k ∙ (a ∙ sym e)), tt) ds h
  part_after_meets n m Site.Expects u t v w e k a ds h = h
  part_after_meets n m Site.Reborrows u t v w e k a ds h = one _ (ap Some (k ∙ (a.0 ∙ sym e)), tt) ds h
  part_after_meets n m Site.Place u t v w e k a ds h = absurd w
  part_after_meets n m Site.Initialises u t v w e k a ds h = absurd w

  -- its own place
  part_wanted : (n m : Node) (s : Site) (u t v : Typ) → Wanted n s u t → C (expected m) ≡ u → ArmFits (passed_on s) u t v → Wanted m (passed_on s) u v
  part_wanted n m Site.Value u t v w e a = tt
  part_wanted n m Site.Scrutinee u t v w e a = tt
  part_wanted n m Site.Expects u t v w e a = (e, a)
  part_wanted n m Site.Reborrows u t v w e a = e ∙ sym a.1
  part_wanted n m Site.Place u t v w e a = absurd w
  part_wanted n m Site.Initialises u t v w e a = absurd w

  part_awaited : (n m : Node) (s : Site) (u : Typ) → Awaited n s u → C (expected m) ≡ u → Awaited m (passed_on s) u
  part_awaited n m Site.Value u w e = tt
  part_awaited n m Site.Scrutinee u w e = tt
  part_awaited n m Site.Expects u w e = e
  part_awaited n m Site.Reborrows u w e = tt
  part_awaited n m Site.Place u w e = absurd w
  part_awaited n m Site.Initialises u w e = absurd w

  -- the whole
  joins_meet : (n : Node) (s : Site) (u t : Typ) → Wanted n s u t → C (type_of n) ≡ t → MatchFits s u t → Meeting (rules.joins n s)
  joins_meet n Site.Value u t w e m ds h = h
  joins_meet n Site.Scrutinee u t w e m ds h = h
  joins_meet n Site.Expects u t w e m ds h = one _ (ap Some (w.0 ∙ (sym m ∙ sym e)), tt) ds h
  joins_meet n Site.Reborrows u t w e m ds h = one _ (ap Some (e ∙ sym w), tt) ds h
  joins_meet n Site.Place u t w e m ds h = absurd w
  joins_meet n Site.Initialises u t w e m ds h = absurd w

  join_meets : (n : Node) (b : Bool) (u t : Typ) → Wanted n n.site u t → C (type_of n) ≡ t → MatchFits n.site u t → Meeting (rules.join n b)
  join_meets n true u t w e m ds h = never_meets n n.site u (awaited n n.site u t w) ds h
  join_meets n false u t w e m ds h = joins_meet n n.site u t w e m ds h

  -- ---- a value

  value_is : {f : ℕ} {B : Context} {e : Exp} {u t : Typ} {a : Entries} → ValueFits E f B e u t a → Has C a → C (type_of (node_of e)) ≡ t
  value_is (a_call l x r) h = h.0
  value_is (a_variable i y) h = h.0
  value_is (a_tuple x l) h = h.0
  value_is (the_unit s) h = h.0
  value_is (a_match x s p v y m) h = h.0

  members_meet : (B : Context) → Tells C B → (f k : ℕ) {es : Exps} {ts : Shapes Kind} {a : Entries} → MembersFit E B es ts a → Has C a → Meeting (rules.of_each f rules.members k es)
  members_meet B j f k no_members h ds m = m
  members_meet B j f k (more_members {n = n} {x = x} {t = t} i y s xs) h ds m =
      members_meet B j f (suc k) xs h.1 _ (place_meets n x.number n.site (subst (Placed n) (sym s) tt) _ (named_meets n x y (h.0 ∙ sym (j _ t i)) ds m))

  members_are : {B : Context} {es : Exps} {ts : Shapes Kind} {a : Entries} → MembersFit E B es ts a → Has C a → shapes_of (types_at C (rules.exp_nodes es)) ≡ ts
  members_are no_members h = refl
  members_are (more_members {n = n} {t = t} {es = es} i y s xs) h = ap (λ z. shape_and z (shapes_of (types_at C (rules.exp_nodes es)))) h.0 ∙ ap (shape_and t) (members_are xs h.1)

  -- `{}` at a site
  unit_meets : (f : ℕ) (n m : Node) → m.site ≡ passed_on n.site → Wanted n n.site unit_shape unit_shape → C (type_of n) ≡ unit_shape → C (type_of m) ≡ unit_shape → C (expected m) ≡ unit_shape
      → Meeting (rules.of_exp f (named.block n (named.body m named.no_statement named.absent)))
  unit_meets f n m s w e k l ds h =
      let a = fits_itself n.site in
      joins_meet n n.site unit_shape unit_shape w e (whole_itself n.site) _ (part_after_meets n m n.site unit_shape unit_shape unit_shape w e k a _
      (subst (λ z. MeetsEach E C (rules.joins m z (rules.nothing_given m false (rules.part_before n n.site m ds)))) (sym s)
      (joins_meet m (passed_on n.site) unit_shape unit_shape (part_wanted n m n.site unit_shape unit_shape unit_shape w l a) k (whole_itself (passed_on n.site)) _
      (one _ (ap Some (sym k), tt) _ (part_before_meets n m n.site unit_shape (awaited n n.site unit_shape unit_shape w) l ds h)))))
    where
      fits_itself : (s : Site) → ArmFits (passed_on s) unit_shape unit_shape unit_shape
      fits_itself Site.Value = refl
      fits_itself Site.Scrutinee = refl
      fits_itself Site.Expects = refl
      fits_itself Site.Reborrows = (refl, refl)
      fits_itself Site.Place = refl
      fits_itself Site.Initialises = refl

      whole_itself : (s : Site) → MatchFits s unit_shape unit_shape
      whole_itself Site.Value = tt
      whole_itself Site.Scrutinee = tt
      whole_itself Site.Expects = refl
      whole_itself Site.Reborrows = tt
      whole_itself Site.Place = tt
      whole_itself Site.Initialises = tt

  -- ---- what is bound

  direct_meets : (n : Node) (m : Bool) (anc : List Passing) → passed C anc ≡ [] → Meeting (rules.direct n m anc)
  direct_meets n false anc e ds h = h
  direct_meets n true anc e ds h = one _ (subst (λ ms. IsTrue (is_none ms)) (sym e) refl, tt) ds h

  bound_meets : (anc : List Passing) → passed C anc ≡ [] → (n : Node) (d : ℕ) (m : Bool) (t : Typ) → C (type_of n) ≡ t → C (subject.Variable d) ≡ t → IsTrue (keeps_limits E.sizes (outline t))
      → Meeting (rules.bound_at rules.a_value anc n d m)
  bound_meets anc e n d m t i k l ds h = direct_meets n m anc e _ (one _ (subst (λ v. IsTrue (keeps_limits E.sizes (outline v))) (sym k) l, tt) _
      (one _ (ap (λ ms. Some (facts.bound ms (C (type_of n)))) e ∙ ap Some (i ∙ sym k), tt) ds h))

  parts_meet : (p : Node) (ts : Shapes Kind) → C (type_of p) ≡ tuple_of ts → {k : ℕ} {ps : Patterns} {a : Entries} → PartsBind E (shapes_listed ts) k ps a → Has C a
      → Meeting (rules.of_parts rules.a_value (rules.under p []) p k ps)
  parts_meet p ts i no_parts h ds m = m
  parts_meet p ts i (more_parts {k = k} {d = d} {n = n} {m = w} {t = t} g l xs) h ds m =
      parts_meet p ts i xs h.1.1 _ (bound_meets (rules.under p []) (ap (λ v. references v ++ []) i) n d w t h.0 h.1.0 l _
      (one _ (ap (λ v. part_of k (peeled v)) i ∙ (g ∙ ap Some (sym h.0)), tt) ds m))

  variant_parts_meet : (p : Node) (i v : ℕ) → C (type_of p) ≡ item i → {k : ℕ} {ps : Patterns} {a : Entries} → PartsBind E (variant_parts E.items i v) k ps a → Has C a
      → Meeting (rules.of_variant_parts rules.a_value (rules.under p []) i v k ps)
  variant_parts_meet p i v e no_parts h ds m = m
  variant_parts_meet p i v e (more_parts {k = k} {d = d} {n = n} {m = w} {t = t} g l xs) h ds m =
      variant_parts_meet p i v e xs h.1.1 _ (bound_meets (rules.under p []) (ap (λ v. references v ++ []) e) n d w t h.0 h.1.0 l _
      (one _ (fixed_is _ t _ g h.0, tt) ds m))

  -- a variant's pattern for what has the type of a node
  variant_meets : (m p : Node) (i v : ℕ) {ps : Patterns} {a : Entries} → C (type_of m) ≡ item i → C (type_of p) ≡ item i → length (variant_parts E.items i v) ≡ count ps → PartsBind E (variant_parts E.items i v) 0 ps a → Has C a
      → Meeting (rules.whole_pattern rules.a_value (type_of m) (named.variant_pattern p i v ps))
  variant_meets m p i v {ps} k e l x h ds w =
      variant_parts_meet p i v e x h _ (one _ (eq-eqb _ _ l, tt) _ (one _ (subst (λ u. IsTrue (is_item i (peeled (outline u)))) (sym e) (eq-eqb i i refl), tt) _ (one _ (ap Some (k ∙ sym e), tt) ds w)))

  as_value : (e : Exp) → is_place e ≡ false → rules.matched e ≡ rules.a_value
  as_value e p = ap (λ b. rules.matched_if b (node_of e) (named.root e).number (rules.through e)) p

  initialised_meets : (e : Exp) → is_place e ≡ false → never e ≡ false → (p : named.Pattern) → Meeting (rules.whole_pattern rules.a_value (type_of (node_of e)) p) → Meeting (rules.initialised p None e)
  initialised_meets e i v p k ds h = subst (λ b. MeetsEach E C (rules.initialised_by b p (rules.matched e) (node_of e) ds)) (sym v)
      (subst (λ s. MeetsEach E C (rules.whole_pattern s (type_of (node_of e)) p ds)) (sym (as_value e i)) (k ds h))

  -- ---- types that are written

  written_is : (t : Written) → Has C (written_entries t) → C (type_of (written_node t)) ≡ typ_written t
  written_is (named.a_kind n k) h = h.0
  written_is (named.a_bool n) h = h.0
  written_is (named.a_tuple n ts) h = h.0
  written_is (named.a_reference n m t) h = h.0
  written_is (named.an_item n i ls) h = h.0

  all_written : (ts : WrittenTypes) → Has C (all_written_entries ts) → types_at C (rules.written_nodes ts) ≡ typs_written ts
  all_written named.no_written h = refl
  all_written (named.written_and t ts) h =
      let k = has_first C (written_entries t) (all_written_entries ts) h in
      ap (λ u. u ∷ types_at C (rules.written_nodes ts)) (written_is t k.0) ∙ ap (λ us. typ_written t ∷ us) (all_written ts k.1)

  mutual
    type_meets : (t : Written) → LifetimesFit E t → Has C (written_entries t) → Meeting (rules.of_type t)
    type_meets (named.a_kind n k) l h ds m = one _ (ap Some (sym h.0), tt) ds m
    type_meets (named.a_bool n) l h ds m = one _ (ap Some (sym h.0), tt) ds m
    type_meets (named.a_tuple n ts) l h ds m = one _ (ap (λ us. Some (tuple_of (shapes_of us))) (all_written ts h.1) ∙ ap Some (sym h.0), tt) _ (types_meet ts l h.1 ds m)
    type_meets (named.a_reference n b t) l h ds m = one _ (ap (λ u. Some (reference b u)) (written_is t h.1) ∙ ap Some (sym h.0), tt) _ (type_meets t l h.1 ds m)
    type_meets (named.an_item n i None) l h ds m = one _ (ap Some (sym h.0), tt) ds m
    type_meets (named.an_item n i (Some k)) l h ds m = one _ (ap Some (sym h.0), tt) _ (one _ (eq-eqb _ _ l, tt) ds m)

    types_meet : (ts : WrittenTypes) → AllLifetimesFit E ts → Has C (all_written_entries ts) → Meeting (rules.of_types ts)
    types_meet named.no_written l h ds m = m
    types_meet (named.written_and t ts) l h ds m =
        let k = has_first C (written_entries t) (all_written_entries ts) h in types_meet ts l.1 k.1 _ (type_meets t l.0 k.0 ds m)

  -- ---- values, jumps and statements

  matched_meets : (e : Exp) → is_place e ≡ false → (f : ℕ) (n : Node) (l : Arms) → Meeting (rules.of_arms f n rules.a_value (node_of e) l) → Meeting (rules.of_arms f n (rules.matched e) (node_of e) l)
  matched_meets e i f n l k ds h = subst (λ s. MeetsEach E C (rules.of_arms f n s (node_of e) l ds)) (sym (as_value e i)) (k ds h)

  not_never_meets : (n : Node) (b : Bool) → b ≡ false → Meeting (rules.not_never n b)
  not_never_meets n b v ds h = subst (λ z. MeetsEach E C (rules.not_never n z ds)) (sym v) h

  fits_given_meets : (x : ℕ) (n : Node) (b : Bool) → C (type_of n) ≡ C (subject.Variable x) → Meeting (rules.fits_given x n b)
  fits_given_meets x n true e ds h = h
  fits_given_meets x n false e ds h = one _ (ap Some e, tt) ds h

  module _ (f : ℕ) where
    mutual
      fits_meets : (B : Context) → Tells C B → {e : Exp} {u t : Typ} {a : Entries} → ValueFits E f B e u t a → Has C a → Wanted (node_of e) (node_of e).site u t → Meeting (rules.of_exp f e)
      fits_meets B j (a_call {n} {g} {es} {u} {t} {a} l x r) h w ds m =
          value_meets n n.site (placed n n.site u t w h.0) _ (one _ (fixed_is _ t _ r h.0, tt) _ (arguments_meet B j f g 0 x h.1 _ (one _ (eq-eqb _ _ l, tt) ds m)))
      fits_meets B j (a_variable {n} {x} {u} {t} i y) h w ds m = place_meets n x.number n.site (placed n n.site u t w h.0) _ (named_meets n x y (h.0 ∙ sym (j _ t i)) ds m)
      fits_meets B j (a_tuple {n} {es} {u} {ts} x l) h w ds m =
          one _ (subst (λ v. IsTrue (keeps_limits E.sizes (outline v))) (sym h.0) l, tt) _ (value_meets n n.site (placed n n.site u (tuple_of ts) w h.0) _
          (one _ (ap (λ z. Some (tuple_of z)) (members_are x h.1) ∙ ap Some (sym h.0), tt) _ (members_meet B j f 0 x h.1 ds m)))
      fits_meets B j (the_unit {n} {m} s) h w ds k = unit_meets f n m s w h.0 h.1.0 h.1.1.0 ds k
      fits_meets B j (a_match {n} {e} {l} {i} {u} {v} {t} {a} {b} x s p z y k) h w ds m =
          let q = has_first C a b h.1 in
          join_meets n (all_never l) u t w h.0 k _ (matched_meets e p f n l (λ gs g. arms_meet B j n (node_of e) y q.1 (value_is x q.0) w h.0 gs g) _ (not_never_meets (node_of e) (never e) z _
          (fits_meets B j x q.0 (subst (λ z. Wanted (node_of e) z v (item i)) (sym s) tt) ds m)))

      arms_meet : (B : Context) → Tells C B → (n m : Node) {i : ℕ} {u t : Typ} {l : Arms} {a : Entries} → ArmsFit E f B n.site i u t l a → Has C a → C (type_of m) ≡ item i → Wanted n n.site u t → C (type_of n) ≡ t
          → Meeting (rules.of_arms f n rules.a_value m l)
      arms_meet B j n m no_arms h k w y ds g = g
      arms_meet B j n m {i} {u} {t} (gives_value {m = p} {w = z} {ps = ps} {e = e} {v = v} {a = a} {b = b} {c = c} l x r o s q xs) h k w y ds g =
          let d = has_first C a ((expected (node_of e), u) ∷ (b ++ c)) h.1 in let r' = has_first C b c d.1.1 in
          arms_meet B j n m xs r'.1 k w y _ (subst (λ v. MeetsEach E C (rules.part_after n n.site v (node_of e) (rules.of_exp f e (rules.part_before n n.site (node_of e) (rules.whole_pattern rules.a_value (type_of m) (named.variant_pattern p i z ps) ds))))) (sym o)
          (part_after_meets n (node_of e) n.site u t v w y (value_is r r'.0) q _ (fits_meets (with_entries a B) (tells_more C B a j d.0) r r'.0
          (subst (λ z. Wanted (node_of e) z u v) (sym s) (part_wanted n (node_of e) n.site u t v w d.1.0 q)) _
          (part_before_meets n (node_of e) n.site u (awaited n n.site u t w) d.1.0 _ (variant_meets m p i z k h.0 l x d.0 ds g)))))
      arms_meet B j n m {i} {u} {t} (leaves {m = p} {w = z} {ps = ps} {e = e} {a = a} {b = b} {c = c} l x r o s xs) h k w y ds g =
          let d = has_first C a ((expected (node_of e), u) ∷ (b ++ c)) h.1 in let r' = has_first C b c d.1.1 in
          arms_meet B j n m xs r'.1 k w y _ (subst (λ v. MeetsEach E C (rules.part_after n n.site v (node_of e) (rules.of_exp f e (rules.part_before n n.site (node_of e) (rules.whole_pattern rules.a_value (type_of m) (named.variant_pattern p i z ps) ds))))) (sym o)
          (left_after_meets n (node_of e) n.site _ (jump_meets (with_entries a B) (tells_more C B a j d.0) r r'.0
          (subst (λ z. Awaited (node_of e) z u) (sym s) (part_awaited n (node_of e) n.site u (awaited n n.site u t w) d.1.0)) _
          (part_before_meets n (node_of e) n.site u (awaited n n.site u t w) d.1.0 _ (variant_meets m p i z k h.0 l x d.0 ds g)))))

      jump_meets : (B : Context) → Tells C B → {e : Exp} {u : Typ} {a : Entries} → JumpFits E f B e u a → Has C a → Awaited (node_of e) (node_of e).site u → Meeting (rules.of_exp f e)
      jump_meets B j (a_break {n} {l} {u}) h w ds m = never_meets n n.site u w ds m
      jump_meets B j (a_continue {n} {l} {u}) h w ds m = never_meets n n.site u w ds m
      jump_meets B j (a_return {n} {u} r) h w ds m = never_meets n n.site u w _ (one _ (subst (λ o. IsTrue (facts.is_unit o)) (sym r) refl, tt) ds m)
      jump_meets B j (a_return_with {n} {e} {u} {r} {t} {a} i x s c) h w ds m =
          never_meets n n.site u w _ (fits_meets B j x h.1 (subst (λ z. Wanted (node_of e) z r t) (sym s) (h.0, c)) _ (one _ (fixed_is _ r _ i h.0, tt) ds m))
      jump_meets B j (a_jump_behind {n} {m} {ss} {u} {a} s x v) h w ds k =
          subst (λ b. MeetsEach E C (rules.join n b (rules.part_after n n.site b m (rules.join m b (rules.nothing_given m b (rules.of_statements f ss (rules.part_before n n.site m ds))))))) (sym v)
          (never_meets n n.site u w _ (left_after_meets n m n.site _
          (subst (λ z. MeetsEach E C (rules.never_in m z (rules.of_statements f ss (rules.part_before n n.site m ds)))) (sym s) (never_meets m (passed_on n.site) u (part_awaited n m n.site u w h.0) _
          (statements_meet B j x h.1 _ (part_before_meets n m n.site u w h.0 ds k))))))

      statement_meets : (B : Context) → Tells C B → {s : Statement} {a : Entries} → StatementFits E f B s a → Has C a → Meeting (rules.of_statement f s)
      statement_meets B j (done {e = e} {u = u} {t = t} x s) h ds m = fits_meets B j x h (subst (λ z. Wanted (node_of e) z u t) (sym s) tt) ds m
      statement_meets B j (jumps {e = e} {u = u} x s) h ds m = jump_meets B j x h (subst (λ z. Awaited (node_of e) z u) (sym s) tt) ds m
      statement_meets B j (bound {p = p} {d = d} {m = w} {e = e} {u = u} {t = t} x s i v l) h ds m =
          initialised_meets e i v (named.bind p d w) (λ gs g. bound_meets [] refl p d w t h.0 h.1.0 l _ (one _ (ap Some (value_is x h.1.1 ∙ sym h.0), tt) gs g)) _
          (fits_meets B j x h.1.1 (subst (λ z. Wanted (node_of e) z u t) (sym s) tt) ds m)
      statement_meets B j (several_bound {p = p} {ps = ps} {e = e} {u = u} {ts = ts} {a = a} {b = b} x s i v l bs) h ds m =
          let k = has_first C b a h.1 in
          initialised_meets e i v (named.tuple_pattern p ps) (λ gs g. parts_meet p ts h.0 bs k.0 _
          (one _ (subst (λ u. IsTrue (is_tuple (count ps) (peeled (outline u)))) (sym h.0) (eq-eqb _ _ (as_many {L = Unit {0}} (λ k. tt) ts ∙ l)), tt) _ (one _ (ap Some (value_is x k.1 ∙ sym h.0), tt) gs g))) _
          (fits_meets B j x k.1 (subst (λ z. Wanted (node_of e) z u (tuple_of ts)) (sym s) tt) ds m)
      statement_meets B j (assigned {k = k} {p = p} {x = x} {e = e} {t = t} {u = u} i y s z v w c) h ds m =
          value_meets k k.site (subst (Placed k) (sym s) tt) _ (one _ (ap Some (sym h.1.1.0), tt) _
          (fits_meets B j v h.1.1.1 (subst (λ z. Wanted (node_of e) z u t) (sym w) (h.1.0, c)) _ (one _ (ap Some (h.0 ∙ sym h.1.0), tt) _
          (inner_meets p x.number z _ (named_meets p x y (h.0 ∙ sym (j _ u i)) ds m)))))
      statement_meets B j (given {k = k} {p = p} {x = x} {d = d} {e = e} {t = t} i y s v w l) h ds m =
          let q = j (subject.Variable x.number) t i in
          value_meets k k.site (subst (Placed k) (sym s) tt) _ (one _ (ap Some (sym h.1.1.0), tt) _
          (one _ (ap Some (q ∙ sym h.0), (ap Some (q ∙ sym (j (subject.Node d) t y)), tt)) _ (one _ (ap Some (value_is v h.1.1.1 ∙ sym q), tt) _
          (not_never_meets (node_of e) (never e) l _ (fits_meets B j v h.1.1.1 (subst (λ z. Wanted (node_of e) z t t) (sym w) h.1.0) ds m)))))
      statement_meets B j (given_within {k = k} {p = p} {x = x} {e = e} {t = t} i y s v w) h ds m =
          let q = j (subject.Variable x.number) t i in
          value_meets k k.site (subst (Placed k) (sym s) tt) _ (one _ (ap Some (sym h.1.1.0), tt) _
          (fits_given_meets x.number (node_of e) (never e) (value_is v h.1.1.1 ∙ sym q) _ (named_meets p x y (h.0 ∙ sym q) _
          (fits_meets B j v h.1.1.1 (subst (λ z. Wanted (node_of e) z t t) (sym w) h.1.0) ds m))))
      statement_meets B j (declared {p = p} {d = d} {m = b} {w = w} l k) h ds m =
          let i = written_is w h.1.1 in
          bound_meets [] refl p d b (typ_written w) h.0 h.1.0 k _ (one _ (ap Some (i ∙ sym h.0), tt) _
          (one _ (subst (λ v. IsTrue (keeps_limits E.sizes (outline v))) (sym i) k, tt) _ (type_meets w l h.1.1 ds m)))

      pub statements_meet : (B : Context) → Tells C B → {ss : Statements} {a : Entries} → StatementsFit E f B ss a → Has C a → Meeting (rules.of_statements f ss)
      statements_meet B j no_more h ds m = m
      statements_meet B j (a_statement {a = a} {b = b} x xs) h ds m =
          let k = has_first C a b h in
          statements_meet (with_entries a B) (tells_more C B a j k.0) xs k.1 _ (statement_meets B j x k.0 ds m)

  -- ---- the end of a block

  nothing_meets : (n : Node) (d : Bool) → (d ≡ false → C (type_of n) ≡ unit_shape) → Meeting (rules.nothing_given n d)
  nothing_meets n true k ds h = h
  nothing_meets n false k ds h = one _ (ap Some (sym (k refl)), tt) ds h

  ends_before : {B : Context} → Tells C B → (n m : Node) (s : Site) {t u : Typ} → Ends E B n s t u → C (expected m) ≡ u → Meeting (rules.part_before n s m)
  ends_before j n m Site.Value (at_value i) e ds h = h
  ends_before j n m Site.Expects (at_coercion {u = u} i c) e ds h = one _ (ap Some (j (expected n) u i ∙ sym e), tt) ds h
  ends_before j n m Site.Reborrows (at_reborrow i) e ds h = h
  ends_before j n m Site.Place x e ds h = elim x [ ]
  ends_before j n m Site.Scrutinee x e ds h = elim x [ ]
  ends_before j n m Site.Initialises x e ds h = elim x [ ]

  ends_after : {B : Context} → Tells C B → (n m : Node) (s : Site) (v : Bool) → v ≡ false → {t u : Typ} → Ends E B n s t u → C (type_of m) ≡ t → Meeting (rules.part_after n s v m)
  ends_after j n m Site.Value v l (at_value {t = t} i) e ds h = subst (λ b. MeetsEach E C (rules.as_part n b m ds)) (sym l) (one _ (ap Some (e ∙ sym (j (type_of n) t i)), tt) ds h)
  ends_after j n m Site.Expects v l (at_coercion i c) e ds h = h
  ends_after j n m Site.Reborrows v l (at_reborrow {t = t} i) e ds h = subst (λ b. MeetsEach E C (rules.as_part n b m ds)) (sym l) (one _ (ap Some (e ∙ sym (j (type_of n) t i)), tt) ds h)
  ends_after j n m Site.Place v l x e ds h = elim x [ ]
  ends_after j n m Site.Scrutinee v l x e ds h = elim x [ ]
  ends_after j n m Site.Initialises v l x e ds h = elim x [ ]

  ends_wanted : {B : Context} (n m : Node) (s : Site) {t u : Typ} → Ends E B n s t u → C (expected m) ≡ u → Wanted m s u t
  ends_wanted n m Site.Value (at_value i) k = tt
  ends_wanted n m Site.Expects (at_coercion i c) k = (k, c)
  ends_wanted n m Site.Reborrows (at_reborrow i) k = k
  ends_wanted n m Site.Place x k = elim x [ ]
  ends_wanted n m Site.Scrutinee x k = elim x [ ]
  ends_wanted n m Site.Initialises x k = elim x [ ]

  pub end_meets : (B : Context) → Tells C B → (f : ℕ) (n : Node) (d : Bool) {ss : Statements} {o : Else} {a : Entries} → EndFits E f B n d ss o a → Has C a → Meeting (of_end f n d ss o)
  end_meets B j f n d (no_tail {ss = ss} x k) h ds m =
      nothing_meets n (d || some_diverges ss) (λ e. j (type_of n) unit_shape (k e)) _ (statements_meet f B j x h ds m)
  end_meets B j f n d (a_tail {ss = ss} {e = e} {t = t} {u = u} {a = a} {b = b} x y v s z) h ds m =
      let k = has_first C a ((expected (node_of e), u) ∷ b) h in
      let i = value_is y k.1.1 in
      ends_after j n (node_of e) n.site (never e) v z i _
      (fits_meets f (with_entries a B) (tells_more C B a j k.0) y k.1.1 (subst (λ q. Wanted (node_of e) q u t) (sym s) (ends_wanted n (node_of e) n.site z k.1.0)) _
      (ends_before j n (node_of e) n.site z k.1.0 _ (statements_meet f B j x k.0 ds m)))
