-- The argument that the call has for a param, by its form and the types of its nodes, and how both functions have the variable (REM, "Extract
-- method"; Rust Reference, "Call expressions", "Coercion types").
use Rattle.std.specs.Prelude.{◌≡◌, ℕ, Bool, true, false, List, [], ◌∷◌, Some}
use Rattle.rx_typed.specs.declared.nodes.Node.{Node}
use Rattle.rx_typed.specs.declared.nodes.Site.{Site}
use Rattle.rx_typed.specs.declared.nodes.Use.{Use}
use Rattle.rx_typed.specs.Types.{Typ, reference}
use Rattle.rx_typed.specs.Named as named
use Rattle.rx_typed.specs.Named.{Exp, Exps}
use Rattle.rx_typed.specs.Elaborated.{Assigned}
use Rattle.rx_hoist_extraction.specs.NewFunction.{passed}
use Rattle.rx_hoist_plan.specs.PlainPlan.{plain-Mode}
use Rattle.rx_modes_policy.specs.declared.uses.Mode.TheVariants as mode
use Rattle.rx_modes_policy.specs.declared.uses.Mode.{Mode}
use Rattle.rx_engine_simulation.specs.Sights.{Hold, shut, In, How, plain, special, through, copied, viewed, sight, Renaming, sight_of}
use Rattle.rx_engine_made_trees.specs.Nodes.{is_unique}

-- for a param of the type `t`, the variable `y` of the caller
pub data ArgumentFor (T : Assigned) (y : ℕ) (t : Typ) : Mode → Exp → Type 0 where
  -- the variable
  itself : {n : Node} {x : Use} → x.number ≡ y → n.site ≡ Site.Expects → T.typ n.number ≡ t → T.expected n.number ≡ t → ArgumentFor T y t mode.Value (named.var n x)
  again : {n : Node} {x : Use} → x.number ≡ y → n.site ≡ Site.Expects → T.typ n.number ≡ t → T.expected n.number ≡ t → ArgumentFor T y t mode.Reborrow (named.var n x)
  as_shared : {n : Node} {x : Use} → x.number ≡ y → n.site ≡ Site.Expects → T.typ n.number ≡ t → T.expected n.number ≡ passed (plain-Mode mode.View) t → ArgumentFor T y t mode.View (named.var n x)
  -- a borrow of it
  a_borrow : {n k : Node} {x : Use} → x.number ≡ y → n.site ≡ Site.Expects → T.typ n.number ≡ reference false t → ArgumentFor T y t mode.Shared (named.borrow n false (named.var k x))
  a_loan : {n k : Node} {x : Use} → x.number ≡ y → n.site ≡ Site.Expects → T.typ n.number ≡ reference true t → T.expected n.number ≡ passed (plain-Mode mode.Mut) t → ArgumentFor T y t mode.Mut (named.borrow n true (named.var k x))

-- How the caller has the variable of the text, and the new function then. What is unique and moves, or is asked for again by its mode, is reborrowed.
pub data SeenAs (again : Bool) (R : Renaming) (cold : List ℕ) (x y : ℕ) (t : Typ) : Mode → How → Type 0 where
  moved : sight_of R x ≡ Some (sight y special) → (is_unique t ≡ true → again ≡ true) → SeenAs again R cold x y t mode.Value special
  value_copied : sight_of R x ≡ Some (sight y (plain shut)) → In x cold → is_unique t ≡ false → SeenAs again R cold x y t mode.Value copied
  reborrowed : again ≡ true → sight_of R x ≡ Some (sight y (plain shut)) → In x cold → is_unique t ≡ true → SeenAs again R cold x y t mode.Reborrow copied
  looked_at : again ≡ true → sight_of R x ≡ Some (sight y (plain shut)) → In x cold → is_unique t ≡ true → SeenAs again R cold x y t mode.View viewed
  shared : (w : Hold) → sight_of R x ≡ Some (sight y (plain w)) → SeenAs again R cold x y t mode.Shared (through w false)
  lent : (w : Hold) → sight_of R x ≡ Some (sight y (plain w)) → (In x cold → ⊥) → SeenAs again R cold x y t mode.Mut (through w true)

-- param by param
pub data ArgumentsFor (T : Assigned) (again : Bool) (R : Renaming) (cold : List ℕ) : List ℕ → List Mode → Exps → List How → Type 0 where
  no_arguments : ArgumentsFor T again R cold [] [] named.no_exp []
  more_arguments : {x : ℕ} {xs : List ℕ} {m : Mode} {ms : List Mode} {e : Exp} {es : Exps} {h : How} {hs : List How} (y : ℕ) (t : Typ) → SeenAs again R cold x y t m h → ArgumentFor T y t m e
      → ArgumentsFor T again R cold xs ms es hs → ArgumentsFor T again R cold (x ∷ xs) (m ∷ ms) (named.exp_and e es) (h ∷ hs)
