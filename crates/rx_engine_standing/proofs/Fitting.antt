-- What stands at a coercion site, and is not Never, fits what is expected there: form by form, by the last that the rules ask of it.
use Rattle.std.proofs.Common.{◌≡◌, ℕ, Bool, true, false, not, ◌&&◌, List, [], ◌∷◌, Some, sym, subst}
use Rattle.rx_tree.specs.declared.tree.BinaryOp.{BinaryOp}
use Rattle.rx_typed.specs.declared.nodes.Node.{Node}
use Rattle.rx_typed.specs.declared.nodes.Site.{Site}
use Rattle.rx_typed.specs.Named as named
use Rattle.rx_typed.specs.Named.{all_never, body_never, never, node_of, Exp, Exps}
use Rattle.rx_typed.specs.Types.{Typ}
use Rattle.rx_typeck_solver.specs.declared.facts.Passing.{Passing}
use Rattle.rx_typeck_solver.specs.declared.facts.Rule.{Rule}
use Rattle.rx_typeck_solver.specs.declared.facts.Fact.TheVariants as fact
use Rattle.rx_typeck_solver.specs.declared.facts.Demand.{Demand}
use Rattle.rx_typeck_solver.specs.declared.facts.Test.TheVariants as test
use Rattle.rx_typeck_solver.specs.Facts.{coerced, Assignment, KnownItems, MeetsEach}
use Rattle.rx_typeck_typed.specs.Asking.{ask, expected, type_of, with_suffix}
use Rattle.rx_typeck_typed.specs.Demands as rules
use Rattle.rx_engine_changed.proofs.Arguments.{fits_itself}
use Rattle.rx_engine_standing.proofs.Earlier.{each_earlier, split}

pub some_is : (t u : Typ) → Some t ≡ Some u → t ≡ u
some_is t u e = cc

module _ (D : KnownItems) (A : Assignment) where
  abbrev pub Fits : Node → Type 0
  Fits n = coerced (A (type_of n)) (A (expected n)) ≡ A (type_of n)

  coerces_fit : (n : Node) (ds : List Demand) → MeetsEach D A (rules.coerces n ds) → Fits n
  coerces_fit n ds m = some_is _ _ (split D A ds (_ ∷ []) m).1.0.0

  value_fits : (n : Node) (s : Site) → s ≡ Site.Expects → (ds : List Demand) → MeetsEach D A (rules.value_in n s ds) → Fits n
  value_fits n Site.Expects e ds m = coerces_fit n ds m
  value_fits n Site.Value e ds m = absurd (cc)
  value_fits n Site.Place e ds m = absurd (cc)
  value_fits n Site.Scrutinee e ds m = absurd (cc)
  value_fits n Site.Initialises e ds m = absurd (cc)
  value_fits n Site.Reborrows e ds m = absurd (cc)

  place_fits : (n : Node) (x : ℕ) (ps : List Passing) (s : Site) → s ≡ Site.Expects → (ds : List Demand) → MeetsEach D A (rules.place_in n x ps s ds) → Fits n
  place_fits n x ps Site.Expects e ds m = coerces_fit n ds (split D A (rules.coerces n ds) (_ ∷ []) (split D A (rules.kept n test.KeptOrLent ps (rules.coerces n ds)) (_ ∷ []) m).0).0
  place_fits n x ps Site.Value e ds m = absurd (cc)
  place_fits n x ps Site.Place e ds m = absurd (cc)
  place_fits n x ps Site.Scrutinee e ds m = absurd (cc)
  place_fits n x ps Site.Initialises e ds m = absurd (cc)
  place_fits n x ps Site.Reborrows e ds m = absurd (cc)

  joins_fit : (n : Node) (s : Site) → s ≡ Site.Expects → (ds : List Demand) → MeetsEach D A (rules.joins n s ds) → A (type_of n) ≡ A (expected n)
  joins_fit n Site.Expects e ds m = sym (some_is _ _ (split D A ds (_ ∷ []) m).1.0.0)
  joins_fit n Site.Value e ds m = absurd (cc)
  joins_fit n Site.Place e ds m = absurd (cc)
  joins_fit n Site.Scrutinee e ds m = absurd (cc)
  joins_fit n Site.Initialises e ds m = absurd (cc)
  joins_fit n Site.Reborrows e ds m = absurd (cc)

  pub joined_as : (n : Node) (v : Bool) → v ≡ false → n.site ≡ Site.Expects → (ds : List Demand) → MeetsEach D A (rules.join n v ds) → A (type_of n) ≡ A (expected n)
  joined_as n true w e ds m = absurd (cc)
  joined_as n false w e ds m = joins_fit n n.site e ds m

  join_fits : (n : Node) (v : Bool) → v ≡ false → n.site ≡ Site.Expects → (ds : List Demand) → MeetsEach D A (rules.join n v ds) → Fits n
  join_fits n v w e ds m = subst (λ (t : Typ). coerced t (A (expected n)) ≡ t) (sym (joined_as n v w e ds m)) (fits_itself (A (expected n)))

  operation_fits : (o : BinaryOp) (n a : Node) (x : Bool) (b : Node) (y : Bool) → n.site ≡ Site.Expects → (ds : List Demand) → MeetsEach D A (rules.operation o n a x b y ds) → Fits n
  operation_fits BinaryOp.Or n a x b y s ds m = value_fits n n.site s _ m
  operation_fits BinaryOp.And n a x b y s ds m = value_fits n n.site s _ m
  operation_fits BinaryOp.Eq n a x b y s ds m = value_fits n n.site s _ m
  operation_fits BinaryOp.Ne n a x b y s ds m = value_fits n n.site s _ m
  operation_fits BinaryOp.Lt n a x b y s ds m = value_fits n n.site s _ m
  operation_fits BinaryOp.Le n a x b y s ds m = value_fits n n.site s _ m
  operation_fits BinaryOp.Gt n a x b y s ds m = value_fits n n.site s _ m
  operation_fits BinaryOp.Ge n a x b y s ds m = value_fits n n.site s _ m
  operation_fits BinaryOp.Add n a x b y s ds m = value_fits n n.site s _ m
  operation_fits BinaryOp.Sub n a x b y s ds m = value_fits n n.site s _ m
  operation_fits BinaryOp.Mul n a x b y s ds m = value_fits n n.site s _ m
  operation_fits BinaryOp.Div n a x b y s ds m = value_fits n n.site s _ m
  operation_fits BinaryOp.Rem n a x b y s ds m = value_fits n n.site s _ m

  loop_fits : (n : Node) (k : Bool) → not k ≡ false → n.site ≡ Site.Expects → (ds : List Demand) → MeetsEach D A (rules.loop_given n k ds) → Fits n
  loop_fits n true w s ds m = value_fits n n.site s _ m
  loop_fits n false w s ds m = absurd (cc)

  pub exp_fits : (f : ℕ) (e : Exp) → never e ≡ false → (node_of e).site ≡ Site.Expects → (ds : List Demand) → MeetsEach D A (rules.of_exp f e ds) → Fits (node_of e)
  exp_fits f (named.int n m v k) w s ds h = value_fits n n.site s _ (split D A (rules.value_at n (ask n Rule.Equal (fact.Integer n.number (with_suffix k) ∷ []) ds)) (_ ∷ []) h).0
  exp_fits f (named.bool n b) w s ds h = value_fits n n.site s _ h
  exp_fits f (named.tuple n es) w s ds h = value_fits n n.site s _ (split D A _ (_ ∷ []) h).0
  exp_fits f (named.var n x) w s ds h = place_fits n _ _ n.site s _ h
  exp_fits f (named.field n e x) w s ds h = place_fits n _ _ n.site s _ h
  exp_fits f (named.part n e i) w s ds h = place_fits n _ _ n.site s _ h
  exp_fits f (named.deref n e) w s ds h = place_fits n _ _ n.site s _ h
  exp_fits f (named.negate n e) w s ds h = value_fits n n.site s _ h
  exp_fits f (named.invert n e) w s ds h = value_fits n n.site s _ h
  exp_fits f (named.borrow n m e) w s ds h = value_fits n n.site s _ h
  exp_fits f (named.binary n o a b) w s ds h = operation_fits o n (node_of a) (never a) (node_of b) (never b) s _ h
  exp_fits f (named.assign n p e) w s ds h = value_fits n n.site s _ h
  exp_fits f (named.gives n p x d e) w s ds h = value_fits n n.site s _ h
  exp_fits f (named.update n o p e) w s ds h = value_fits n n.site s _ h
  exp_fits f (named.call n g es) w s ds h = value_fits n n.site s _ h
  exp_fits f (named.hidden_call n es) w s ds h = absurd (split D A ds (_ ∷ []) (each_earlier D A f rules.values 0 es (ask n Rule.NotFunction (fact.Never ∷ []) ds) h)).1.0.0
  exp_fits f (named.next_input n) w s ds h = value_fits n n.site s _ h
  exp_fits f (named.variant n i v es) w s ds h = value_fits n n.site s _ h
  exp_fits f (named.make n i fs) w s ds h = value_fits n n.site s _ h
  exp_fits f (named.print n e) w s ds h = value_fits n n.site s _ h
  exp_fits f (named.block n b) w s ds h = join_fits n (body_never b) w s _ h
  exp_fits f (named.if n c b named.absent) w s ds h = value_fits n n.site s _ h
  exp_fits f (named.if n c b (named.present e)) w s ds h = join_fits n (body_never b && never e) w s _ h
  exp_fits f (named.if_let n p e b named.absent) w s ds h = value_fits n n.site s _ h
  exp_fits f (named.if_let n p e b (named.present o)) w s ds h = join_fits n (body_never b && never o) w s _ h
  exp_fits f (named.match n e l) w s ds h = join_fits n (all_never l) w s _ h
  exp_fits f (named.loop n l k b) w s ds h = loop_fits n k w s _ h
  exp_fits f (named.while n l c b) w s ds h = value_fits n n.site s _ h
  exp_fits f (named.while_let n l p e b) w s ds h = value_fits n n.site s _ h
  exp_fits f (named.break n l) w s ds h = absurd (cc)
  exp_fits f (named.continue n l) w s ds h = absurd (cc)
  exp_fits f (named.return n o) w s ds h = absurd (cc)
