-- Variables and borrows of variables fit the types that are expected of them.
use Rattle.std.proofs.Common.{◌≡◌, ℕ, suc, Bool, true, false, List, [], ◌∷◌, ◌++◌, Option, Some, slice_get, refl, sym, ap, ◌∙◌, subst}
use Rattle.rx_core.specs.declared.types.Kind.{Kind}
use Rattle.rx_typed.specs.declared.nodes.Node.{Node}
use Rattle.rx_typed.specs.declared.nodes.Site.{Site}
use Rattle.rx_typed.specs.declared.nodes.Use.{Use}
use Rattle.rx_typed.specs.Types.{Shapes, integer, boolean, tuple_of, reference, named as item, no_shape, shape_and, Typ, shape_map, shapes_map, parameters_declared, variant_parts}
use Rattle.rx_typed.specs.Named as named
use Rattle.rx_typed.specs.Named.{Exp, Exps, node_of}
use Rattle.rx_typeck_solver.specs.declared.facts.Rule.{Rule}
use Rattle.rx_typeck_solver.specs.declared.facts.Op.TheVariants as op
use Rattle.rx_typeck_solver.specs.declared.facts.Subject.TheVariants as subject
use Rattle.rx_typeck_solver.specs.declared.facts.Demand.{Demand}
use Rattle.rx_typeck_solver.specs.Facts.{Assignment, KnownItems, coerced, fixed, MeetsAll, MeetsEach}
use Rattle.rx_typeck_typed.specs.Asking.{Asking, ask, is, when, type_of, expected}
use Rattle.rx_typeck_typed.specs.Demands as rules
use Rattle.rx_typeck_typed.specs.Demands.{Listed, members, values, parameters, parts_of}
use Rattle.rx_engine_blocks.specs.Given.{IsGiven, AreGiven, given_type, FitsType, EachFits}
use Rattle.rx_engine_blocks.proofs.Meets.{first}

mutual
  map_itself : (t : Typ) → shape_map (λ k. k) t ≡ t
  map_itself (integer k) = refl
  map_itself boolean = refl
  map_itself (tuple_of ts) = ap tuple_of (maps_itself ts)
  map_itself (reference m t) = ap (reference m) (map_itself t)
  map_itself (item i) = refl

  maps_itself : (ts : Shapes Kind) → shapes_map (λ k. k) ts ≡ ts
  maps_itself no_shape = refl
  maps_itself (shape_and t ts) = ap (λ u. shape_and u (shapes_map (λ k. k) ts)) (map_itself t) ∙ ap (shape_and t) (maps_itself ts)

some_same : (t u : Typ) → ◌≡◌ {A = Option Typ} (Some t) (Some u) → t ≡ u
some_same t u e = cc

fixed_some : (o : Option Typ) (t e : Typ) → o ≡ Some t → fixed (λ k. k) o ≡ Some e → e ≡ t
fixed_some o t e i h = sym (some_same _ _ (sym (ap (fixed (λ k. k)) i) ∙ h)) ∙ map_itself t

module _ (D : KnownItems) (C : Assignment) where
  abbrev Fronts : Asking → Type 0
  Fronts f = (ds : List Demand) → MeetsEach D C (f ds) → MeetsEach D C ds

  front : (ds : List Demand) (d : Demand) → MeetsEach D C (ds ++ d ∷ []) → MeetsEach D C ds
  front ds d h = (first D C ds (d ∷ []) h).0

  back : (ds : List Demand) (d : Demand) → MeetsEach D C (ds ++ d ∷ []) → MeetsAll D C d.facts
  back ds d h = (first D C ds (d ∷ []) h).1.0

  when_front : (m : Bool) (f : Asking) → Fronts f → Fronts (when m f)
  when_front true f a ds h = a ds h
  when_front false f a ds h = h

  pub value_front : (n : Node) (t : Site) → Fronts (rules.value_in n t)
  value_front n Site.Place ds h = front ds _ h
  value_front n Site.Expects ds h = front ds _ h
  value_front n Site.Initialises ds h = front ds _ h
  value_front n Site.Reborrows ds h = front ds _ h
  value_front n Site.Value ds h = h
  value_front n Site.Scrutinee ds h = h

  pub place_front : (n : Node) (x : ℕ) (t : Site) → Fronts (rules.place_in n x [] t)
  place_front n x Site.Value ds h = front ds _ h
  place_front n x Site.Place ds h = h
  place_front n x Site.Scrutinee ds h = h
  place_front n x Site.Expects ds h = front ds _ (front _ _ (front _ _ h))
  place_front n x Site.Initialises ds h = front ds _ (front _ _ h)
  place_front n x Site.Reborrows ds h = front ds _ (front _ _ (front _ _ h))

  named_front : (n : Node) (x : Use) (k : Bool) → Fronts (rules.named_at n x k)
  named_front n x true ds h = front ds _ h
  named_front n x false ds h = front ds _ h

  pub named_is : (n : Node) (x : Use) (k : Bool) (ds : List Demand) → MeetsEach D C (rules.named_at n x k ds) → C (subject.Node n.number) ≡ C (subject.Variable x.number)
  named_is n x true ds h = sym (some_same _ _ (back ds _ h).0)
  named_is n x false ds h = absurd (back ds _ h).0

  place_fits : (n : Node) (x : ℕ) (ds : List Demand) → MeetsEach D C (rules.place_in n x [] Site.Expects ds) → coerced (C (subject.Node n.number)) (C (subject.Expected n.number)) ≡ C (subject.Node n.number)
  place_fits n x ds h = some_same _ _ (back _ _ (front _ _ (front _ _ h))).0

  value_fits : (n : Node) (ds : List Demand) → MeetsEach D C (rules.value_in n Site.Expects ds) → coerced (C (subject.Node n.number)) (C (subject.Expected n.number)) ≡ C (subject.Node n.number)
  value_fits n ds h = some_same _ _ (back _ _ h).0

  borrowed_front : (n : Node) (m : Bool) (e : Node) (x : Use) → Fronts (rules.borrowed n m e x [])
  borrowed_front n m e x ds h = front ds _ (front _ _ (when_front m (rules.writable n x.mutable x.number []) (λ gs w. front gs _ w) _ (value_front n n.site _ h)))

  borrowed_is : (n : Node) (m : Bool) (e : Node) (x : Use) (ds : List Demand) → MeetsEach D C (rules.borrowed n m e x [] ds) → C (subject.Node n.number) ≡ reference m (C (subject.Node e.number))
  borrowed_is n m e x ds h = sym (some_same _ _ (back ds _ (front _ _ (when_front m (rules.writable n x.mutable x.number []) (λ gs w. front gs _ w) _ (value_front n n.site _ h)))).0)

  abbrev before_value : Node → Bool → Node → Use → Asking
  before_value n m e x ds = when m (rules.writable n x.mutable x.number []) (rules.limits n (ask n Rule.Equal (is (type_of n) (op.Referring m) (type_of e ∷ []) ∷ []) ds))

  pub site_fits : (n : Node) → n.site ≡ Site.Expects → (gs : List Demand) → MeetsEach D C (rules.value_in n n.site gs) → coerced (C (subject.Node n.number)) (C (subject.Expected n.number)) ≡ C (subject.Node n.number)
  site_fits n g gs h = value_fits n gs (subst (λ t. MeetsEach D C (rules.value_in n t gs)) g h)

  -- ---- what is given

  variable_front : (n : Node) (x : Use) (ds : List Demand) → MeetsEach D C (rules.place_in n x.number [] n.site (rules.named_at n x x.known ds)) → MeetsEach D C ds
  variable_front n x ds h = named_front n x x.known ds (place_front n x.number n.site _ h)

  given_front : (f : ℕ) (e : Exp) → IsGiven e → Fronts (rules.of_exp f e)
  given_front f (named.var n x) g ds h = variable_front n x ds h
  given_front f (named.borrow n m (named.var k x)) g ds h = variable_front k x ds (borrowed_front n m k x _ h)
  given_front f _ g ds h = absurd g

  given_fits : (f : ℕ) (e : Exp) → IsGiven e → (ds : List Demand) → MeetsEach D C (rules.of_exp f e ds) → FitsType (given_type C e) (C (expected (node_of e)))
  given_fits f (named.var n x) g ds h =
      let w : MeetsEach D C (rules.place_in n x.number [] Site.Expects (rules.named_at n x x.known ds)) = subst (λ t. MeetsEach D C (rules.place_in n x.number [] t (rules.named_at n x x.known ds))) g h in
      subst (λ t. coerced t (C (subject.Expected n.number)) ≡ t) (named_is n x x.known ds (place_front n x.number Site.Expects _ w)) (place_fits n x.number _ w)
  given_fits f (named.borrow n m (named.var k x)) g ds h =
      let w = borrowed_front n m k x _ h in
      let i : C (subject.Node n.number) ≡ reference m (C (subject.Variable x.number)) = borrowed_is n m k x _ h ∙ ap (reference m) (named_is k x x.known ds (place_front k x.number k.site _ w)) in
      subst (λ t. coerced t (C (subject.Expected n.number)) ≡ t) i (site_fits n g (before_value n m k x (rules.of_exp f (named.var k x) ds)) h)
  given_fits f _ g ds h = absurd g

  pub arguments_front : (f g k : ℕ) (es : Exps) → AreGiven es → Fronts (rules.of_each f (parameters g) k es)
  arguments_front f g k named.no_exp a ds h = h
  arguments_front f g k (named.exp_and e es) a ds h = front ds _ (given_front f e a.0 _ (arguments_front f g (suc k) es a.1 _ h))

  pub arguments_fit : (f g k : ℕ) (es : Exps) → AreGiven es → (ds : List Demand) → MeetsEach D C (rules.of_each f (parameters g) k es ds) → EachFits C (parameters_declared (slice_get D.items g)) k es
  arguments_fit f g k named.no_exp a ds h = tt
  arguments_fit f g k (named.exp_and e es) a ds h =
      let w = arguments_front f g (suc k) es a.1 _ h in
      let x = back ds _ (given_front f e a.0 _ w) in
      (λ t i. subst (FitsType (given_type C e)) (fixed_some _ t _ i x.0) (given_fits f e a.0 _ w), arguments_fit f g (suc k) es a.1 _ h)

  parts_front : (f i v k : ℕ) (es : Exps) → AreGiven es → Fronts (rules.of_each f (parts_of i v) k es)
  parts_front f i v k named.no_exp a ds h = h
  parts_front f i v k (named.exp_and e es) a ds h = front ds _ (given_front f e a.0 _ (parts_front f i v (suc k) es a.1 _ h))

  pub parts_fit : (f i v k : ℕ) (es : Exps) → AreGiven es → (ds : List Demand) → MeetsEach D C (rules.of_each f (parts_of i v) k es ds) → EachFits C (variant_parts D.items i v) k es
  parts_fit f i v k named.no_exp a ds h = tt
  parts_fit f i v k (named.exp_and e es) a ds h =
      let w = parts_front f i v (suc k) es a.1 _ h in
      let x = back ds _ (given_front f e a.0 _ w) in
      (λ t j. subst (FitsType (given_type C e)) (fixed_some _ t _ j x.0) (given_fits f e a.0 _ w), parts_fit f i v (suc k) es a.1 _ h)

  pub call_fits : (f : ℕ) (n : Node) (g : ℕ) (es : Exps) → AreGiven es → (ds : List Demand) → MeetsEach D C (rules.of_exp f (named.call n g es) ds) → EachFits C (parameters_declared (slice_get D.items g)) 0 es
  call_fits f n g es a ds h = arguments_fit f g 0 es a _ (front _ _ (value_front n n.site _ h))

  pub variant_fits : (f : ℕ) (n : Node) (i v : ℕ) (es : Exps) → AreGiven es → (ds : List Demand) → MeetsEach D C (rules.of_exp f (named.variant n i v es) ds) → EachFits C (variant_parts D.items i v) 0 es
  variant_fits f n i v es a ds h = parts_fit f i v 0 es a _ (front _ _ (value_front n n.site _ h))
