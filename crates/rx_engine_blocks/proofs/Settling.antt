-- What a part settles by itself has that type in each of its assignments.
use Rattle.std.proofs.Common.{◌≡◌, ℕ, Bool, true, false, List, [], ◌∷◌, ◌++◌, Option, None, Some, ap, sym, ◌∙◌, subst, slice_get}
use Rattle.rx_typed.specs.declared.nodes.Node.{Node}
use Rattle.rx_typed.specs.declared.nodes.Site.{Site}
use Rattle.rx_typed.specs.declared.nodes.Use.{Use}
use Rattle.rx_typed.specs.Types.{integer, boolean, tuple_of, reference, named as item, Typ, outline, parameters_declared, variant_parts}
use Rattle.rx_typed.specs.Named as named
use Rattle.rx_typed.specs.Named.{Exp, Exps, Parameter, Written}
use Rattle.rx_typeck_solver.specs.declared.facts.Subject.{Subject}
use Rattle.rx_typeck_solver.specs.declared.facts.Subject.TheVariants as subject
use Rattle.rx_typeck_solver.specs.declared.facts.Op.TheVariants as op
use Rattle.rx_typeck_solver.specs.declared.facts.Demand.{Demand}
use Rattle.rx_typeck_solver.specs.Facts.{Assignment, KnownItems, MeetsAll, MeetsEach, coerced, made}
use Rattle.rx_typeck_solver.specs.Valid.{Told}
use Rattle.rx_typeck_typed.specs.Demands.{a_value, declared, of_exp, of_parameters, of_statement, whole_pattern}
use Rattle.rx_engine_blocks.specs.Renumbering.{Renumbering, shape_at, subject_at}
use Rattle.rx_engine_blocks.specs.Along.{Viewed, shared}
use Rattle.rx_engine_blocks.specs.Blocks.{Fixes}
use Rattle.rx_engine_blocks.specs.Given.{AreGiven, EachFits, FitsType, given_type}
use Rattle.rx_engine_blocks.specs.Signature.{typ_written, AsWritten}
use Rattle.rx_engine_blocks.specs.Settled.{Gives, IsNumber, IsParameter, Settles}
use Rattle.rx_engine_blocks.specs.Settled.IsParameter.{the_first, a_later}
use Rattle.rx_engine_blocks.specs.Settled.IsNumber.{this_one, one_behind}
use Rattle.rx_engine_blocks.specs.Settled.Gives.{by_itself, borrowed}
use Rattle.rx_engine_blocks.specs.Settled.Settles.{a_parameter, a_declaration, a_result, an_assignment, by_demands, by_value, an_argument, a_part}
use Rattle.rx_engine_blocks.proofs.Meets.{first}
use Rattle.rx_engine_blocks.proofs.Getting.{asked_met, gets_is}
use Rattle.rx_engine_blocks.proofs.Fixing.{declared_is, fitting_is, parameters_are, reference_is}
use Rattle.rx_engine_blocks.proofs.Giving.{arguments_front, call_fits, named_is, place_front, site_fits, value_front, variant_fits}
use Rattle.rx_engine_blocks.proofs.Sites.{coerced_outlined}

its_type : (C : Assignment) {v : ℕ} {t : Written} (xs : List Parameter) → AsWritten C xs → IsParameter v t xs → C (subject.Variable v) ≡ typ_written t
its_type C xs h the_first = h.0
its_type C (x ∷ xs) h (a_later i) = its_type C xs h.1 i

its_fit : (C : Assignment) (ts : List Typ) {e : Exp} {k : ℕ} (j : ℕ) (es : Exps) → EachFits C ts j es → IsNumber e k j es → (u : Typ) → slice_get ts k ≡ Some u → FitsType (given_type C e) u
its_fit C ts j es h this_one u s = h.0 u s
its_fit C ts j (named.exp_and a es) h (one_behind i) u s = its_fit C ts _ es h.1 i u s

gives_type : (C : Assignment) {e : Exp} {v : ℕ} {t u : Typ} → outline (C (subject.Variable v)) ≡ outline t → FitsType (given_type C e) u → Gives e v t u → C (subject.Variable v) ≡ t
gives_type C o h (by_itself {x = x} {t = t} {u = u} f) = fitting_is (C (subject.Variable x.number)) t u o (ap Some h) (ap Some f)
gives_type C o h (borrowed {m = m} {x = x} {t = t}) = reference_is m (C (subject.Variable x.number)) t h

front_met : (E : KnownItems) (C : Assignment) (es gs hs : List Demand) → es ≡ gs ++ hs → MeetsEach E C es → MeetsEach E C gs
front_met E C es gs hs e h = (first E C gs hs (subst (MeetsEach E C) e h)).0

-- two types of one outline that the same type fits are one
expected_is : (u c t : Typ) → outline c ≡ outline t → coerced u c ≡ u → coerced u t ≡ u → c ≡ t
expected_is (reference true a) (reference false b) (reference false d) o h k = cc
expected_is (reference true a) (reference false b) (reference true d) o h k = absurd (cc)
expected_is (reference true a) (reference false b) (integer d) o h k = absurd (cc)
expected_is (reference true a) (reference false b) boolean o h k = absurd (cc)
expected_is (reference true a) (reference false b) (tuple_of d) o h k = absurd (cc)
expected_is (reference true a) (reference false b) (item d) o h k = absurd (cc)
expected_is (reference true a) (reference true b) t o h k = h ∙ sym k ∙ coerced_outlined (reference true a) t (ap outline (sym h) ∙ o)
expected_is (reference true a) (integer b) t o h k = h ∙ sym k ∙ coerced_outlined (reference true a) t (ap outline (sym h) ∙ o)
expected_is (reference true a) boolean t o h k = h ∙ sym k ∙ coerced_outlined (reference true a) t (ap outline (sym h) ∙ o)
expected_is (reference true a) (tuple_of b) t o h k = h ∙ sym k ∙ coerced_outlined (reference true a) t (ap outline (sym h) ∙ o)
expected_is (reference true a) (item b) t o h k = h ∙ sym k ∙ coerced_outlined (reference true a) t (ap outline (sym h) ∙ o)
expected_is (reference false a) c t o h k = h ∙ sym k
expected_is (integer a) c t o h k = h ∙ sym k
expected_is boolean c t o h k = h ∙ sym k
expected_is (tuple_of a) c t o h k = h ∙ sym k
expected_is (item a) c t o h k = h ∙ sym k

module _ (D : KnownItems) (C : Assignment) where
  front : (ds : List Demand) (d : Demand) → MeetsEach D C (ds ++ d ∷ []) → MeetsEach D C ds
  front ds d h = (first D C ds (d ∷ []) h).0

  back : (ds : List Demand) (d : Demand) → MeetsEach D C (ds ++ d ∷ []) → MeetsAll D C d.facts
  back ds d h = (first D C ds (d ∷ []) h).1.0

  same_type : (t u : Typ) → ◌≡◌ {A = Option Typ} (Some t) (Some u) → u ≡ t
  same_type t u e = cc

  -- a variable that is bound to a value
  bound_is : (y : Subject) (k : Node) (x : ℕ) (m : Bool) (ds : List Demand) → MeetsEach D C (whole_pattern a_value y (named.bind k x m) ds) → (C (subject.Variable x) ≡ C y) × MeetsEach D C ds
  bound_is y k x false ds h =
      let g = front _ _ (front _ _ h) in
      (same_type _ _ (back _ _ (front _ _ h)).0 ∙ same_type _ _ (back _ _ g).0, front _ _ g)
  bound_is y k x true ds h =
      let g = front _ _ (front _ _ (front _ _ h)) in
      (same_type _ _ (back _ _ (front _ _ (front _ _ h))).0 ∙ same_type _ _ (back _ _ g).0, front _ _ g)

  -- what a call gives
  result_is : (f : ℕ) (n : Node) (g : ℕ) (given : Exps) (ds : List Demand) (T : Typ) → MeetsEach D C (of_exp f (named.call n g given) ds) → made (λ k. k) D.items (op.Result g) [] [] ≡ Some T
      → C (subject.Node n.number) ≡ T
  result_is f n g given ds T h e = same_type _ _ (sym e ∙ (back _ _ (value_front D C n n.site _ h)).0)

  let_is : (f : ℕ) (q n p : Node) (x : ℕ) (m : Bool) (g : ℕ) (given : Exps) (ds : List Demand) (T : Typ) → MeetsEach D C (of_statement f (named.lets q (named.bind p x m) None (named.call n g given)) ds)
      → made (λ k. k) D.items (op.Result g) [] [] ≡ Some T → C (subject.Variable x) ≡ T
  let_is f q n p x m g given ds T h e =
      let b = bound_is (subject.Node n.number) p x m (of_exp f (named.call n g given) ds) h in
      b.0 ∙ result_is f n g given ds T b.1 e

  -- a variable that is assigned what a call gives
  assigned_is : (f : ℕ) (n p k : Node) (x : Use) (g : ℕ) (given : Exps) (ds : List Demand) (T u : Typ) → MeetsEach D C (of_exp f (named.assign n (named.var p x) (named.call k g given)) ds)
      → AreGiven given → k.site ≡ Site.Expects → made (λ k. k) D.items (op.Result g) [] [] ≡ Some u → coerced u T ≡ u → outline (C (subject.Variable x.number)) ≡ outline T
      → C (subject.Variable x.number) ≡ T
  assigned_is f n p k x g given ds T u h a z e w o =
      let called = front _ _ (value_front D C n n.site _ h) in
      let c : C (subject.Node k.number) ≡ u = result_is f k g given _ u called e in
      let fit = site_fits D C k z _ called in
      let before = front _ _ (arguments_front D C f g 0 given a _ (front _ _ (value_front D C k k.site _ called))) in
      let y : C (subject.Expected k.number) ≡ C (subject.Variable x.number) = same_type _ _ (back _ _ before).0 ∙ named_is D C p x x.known ds (place_front D C p x.number p.site _ (front _ _ before)) in
      expected_is u (C (subject.Variable x.number)) T o (ap (coerced u) (sym y) ∙ ap (λ t. coerced t (C (subject.Expected k.number))) (sym c) ∙ fit ∙ c) w

pub settled_is : (E : KnownItems) (es : List Demand) (C : Assignment) → MeetsEach E C es → (y : Subject) (T : Typ) → outline (C y) ≡ outline T → Settles E es y T → C y ≡ T
settled_is E es C h y T o (a_parameter xs ds e i w) = its_type C xs (parameters_are E C xs [] (front_met E C es (of_parameters xs []) ds e h)) i ∙ w
settled_is E es C h y T o (a_declaration {x = x} k m t ds gs e w) = declared_is E C k x m t ds (front_met E C es (declared (named.bind k x m) (Some t) ds) gs e h) ∙ w
settled_is E es C h y T o (a_result {x = x} f q n p m g given ds gs e w) =
    let_is E C f q n p x m g given ds T (front_met E C es (of_statement f (named.lets q (named.bind p x m) None (named.call n g given)) ds) gs e h) w
settled_is E es C h y T o (an_assignment {u = u} f n p k x g given ds gs e a z i w) =
    assigned_is E C f n p k x g given ds T u (front_met E C es (of_exp f (named.assign n (named.var p x) (named.call k g given)) ds) gs e h) a z i w o
settled_is E es C h y T o (by_demands g) = gets_is E C es h g
settled_is E es C h y T o (by_value {v = v} {k = k} {u = u} g i j l w) =
    let e : C (subject.Expected k) ≡ C (subject.Variable v) = same_type E C _ _ (asked_met E C es h j) ∙ same_type E C _ _ (asked_met E C es h l) in
    let c : C (subject.Node k) ≡ u = gets_is E C es h g in
    let fit : coerced (C (subject.Node k)) (C (subject.Expected k)) ≡ C (subject.Node k) = sym (same_type E C _ _ (asked_met E C es h i)) in
    expected_is u (C (subject.Variable v)) T o (ap (coerced u) (sym e) ∙ ap (λ t. coerced t (C (subject.Expected k))) (sym c) ∙ fit ∙ c) w
settled_is E es C h y T o (an_argument {u = u} f n g given ds gs e a i s w) =
    gives_type C o (its_fit C (parameters_declared (slice_get E.items g)) 0 given (call_fits E C f n g given a ds (front_met E C es (of_exp f (named.call n g given) ds) gs e h)) i u s) w
settled_is E es C h y T o (a_part {u = u} f n i v given ds gs e a j s w) =
    gives_type C o (its_fit C (variant_parts E.items i v) 0 given (variant_fits E C f n i v given a ds (front_met E C es (of_exp f (named.variant n i v given) ds) gs e h)) j u s) w

pub settled_fixes : (r : Renumbering) (view : Viewed) (IsFixed : Subject → Type 0) (E : KnownItems) (A : Assignment) (es : List Demand)
    → ((x : Subject) → IsFixed x → Told es (subject_at r x) → Settles E es (subject_at r x) (shared (view x) (shape_at r (A x)))) → Fixes r view IsFixed E A es
settled_fixes r view IsFixed E A es s = λ C h near o x i t. settled_is E es C h (subject_at r x) (shared (view x) (shape_at r (A x))) (o x t) (s x i t)
