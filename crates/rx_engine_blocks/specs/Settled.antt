-- The variables that a part gives a type by itself: parameters, variables that are declared with a type or by what a call gives, those that are assigned
-- this, and those that are given where a type is expected that is declared (Rust Reference, "Functions", "let statements", "Coercion sites").
use Rattle.std.specs.Prelude.{◌≡◌, ℕ, suc, Bool, List, [], ◌∷◌, ◌++◌, None, Some, slice_get}
use Rattle.rx_typed.specs.declared.nodes.Node.{Node}
use Rattle.rx_typed.specs.declared.nodes.Site.{Site}
use Rattle.rx_typed.specs.declared.nodes.Use.{Use}
use Rattle.rx_typed.specs.Types.{Typ, parameters_declared, reference, variant_parts}
use Rattle.rx_typed.specs.Named as named
use Rattle.rx_typed.specs.Named.{Exp, Exps, Parameter, Written}
use Rattle.rx_typeck_solver.specs.declared.facts.Subject.{Subject}
use Rattle.rx_typeck_solver.specs.declared.facts.Subject.TheVariants as subject
use Rattle.rx_typeck_solver.specs.declared.facts.Op.TheVariants as op
use Rattle.rx_typeck_solver.specs.declared.facts.Fact.TheVariants as fact
use Rattle.rx_typeck_solver.specs.declared.facts.Demand.{Demand}
use Rattle.rx_typeck_solver.specs.Facts.{KnownItems, coerced, made}
use Rattle.rx_typeck_typed.specs.Demands.{declared, of_exp, of_parameters, of_statement}
use Rattle.rx_engine_blocks.specs.Gets.{Gets, IsAsked}
use Rattle.rx_engine_blocks.specs.Given.{AreGiven}
use Rattle.rx_engine_blocks.specs.Signature.{typ_written}

-- one of the parameters, and the type that is written
pub data IsParameter (v : ℕ) (t : Written) : List Parameter → Type 0 where
  the_first : {xs : List Parameter} → IsParameter v t (record { variable = v; typ = t } ∷ xs)
  a_later : {y : Parameter} {xs : List Parameter} → IsParameter v t xs → IsParameter v t (y ∷ xs)

-- the expression with this number, in a list from a number on
pub data IsNumber (e : Exp) (k : ℕ) : ℕ → Exps → Type 0 where
  this_one : {es : Exps} → IsNumber e k k (named.exp_and e es)
  one_behind : {j : ℕ} {a : Exp} {es : Exps} → IsNumber e k (suc j) es → IsNumber e k j (named.exp_and a es)

-- a variable of a type that fits the expected one, or a borrow of one
pub data Gives : Exp → ℕ → Typ → Typ → Type 0 where
  by_itself : {n : Node} {x : Use} {t u : Typ} → coerced t u ≡ t → Gives (named.var n x) x.number t u
  borrowed : {n k : Node} {m : Bool} {x : Use} {t : Typ} → Gives (named.borrow n m (named.var k x)) x.number t (reference m t)

pub data Settles (E : KnownItems) (es : List Demand) : Subject → Typ → Type 0 where
  a_parameter : {v : ℕ} {t : Written} {T : Typ} (xs : List Parameter) (ds : List Demand) → es ≡ of_parameters xs [] ++ ds → IsParameter v t xs → typ_written t ≡ T
      → Settles E es (subject.Variable v) T
  a_declaration : {x : ℕ} {T : Typ} (k : Node) (m : Bool) (t : Written) (ds gs : List Demand) → es ≡ declared (named.bind k x m) (Some t) ds ++ gs → typ_written t ≡ T
      → Settles E es (subject.Variable x) T
  -- what a call gives
  a_result : {x : ℕ} {T : Typ} (f : ℕ) (q n p : Node) (m : Bool) (g : ℕ) (given : Exps) (ds gs : List Demand)
      → es ≡ of_statement f (named.lets q (named.bind p x m) None (named.call n g given)) ds ++ gs → made (λ k. k) E.items (op.Result g) [] [] ≡ Some T → Settles E es (subject.Variable x) T
  -- a variable that is assigned what a call gives, which fits it
  an_assignment : {T u : Typ} (f : ℕ) (n p k : Node) (x : Use) (g : ℕ) (given : Exps) (ds gs : List Demand) → es ≡ of_exp f (named.assign n (named.var p x) (named.call k g given)) ds ++ gs
      → AreGiven given → k.site ≡ Site.Expects → made (λ k. k) E.items (op.Result g) [] [] ≡ Some u → coerced u T ≡ u → Settles E es (subject.Variable x.number) T
  -- what gets its type from what is asked
  by_demands : {x : Subject} {T : Typ} → Gets E es x T → Settles E es x T
  -- a variable that is assigned what fits it
  by_value : {v k p : ℕ} {T u : Typ} → Gets E es (subject.Node k) u → IsAsked (fact.Equals (subject.Node k) op.Coerced (subject.Node k ∷ subject.Expected k ∷ []) []) es
      → IsAsked (fact.Equals (subject.Expected k) op.Same (subject.Node p ∷ []) []) es → IsAsked (fact.Equals (subject.Node p) op.Same (subject.Variable v ∷ []) []) es → coerced u T ≡ u
      → Settles E es (subject.Variable v) T
  an_argument : {v k : ℕ} {T u : Typ} {e : Exp} (f : ℕ) (n : Node) (g : ℕ) (given : Exps) (ds gs : List Demand) → es ≡ of_exp f (named.call n g given) ds ++ gs → AreGiven given
      → IsNumber e k 0 given → slice_get (parameters_declared (slice_get E.items g)) k ≡ Some u → Gives e v T u → Settles E es (subject.Variable v) T
  a_part : {v k : ℕ} {T u : Typ} {e : Exp} (f : ℕ) (n : Node) (i w : ℕ) (given : Exps) (ds gs : List Demand) → es ≡ of_exp f (named.variant n i w given) ds ++ gs → AreGiven given
      → IsNumber e k 0 given → slice_get (variant_parts E.items i w) k ≡ Some u → Gives e v T u → Settles E es (subject.Variable v) T
