-- Expressions that are found to give the unit do, also with marks in front of jumps; and so do functions.
use Rattle.std.proofs.Common.{◌≡◌, ℕ, Bool, true, false, List, [], ◌∷◌, Option, Some, None, if◌then◌else◌, sym, ap, ◌∙◌, subst, inl, inr}
use Rattle.rx_typed.specs.Tree as tree
use Rattle.rx_typed.specs.Tree.{Mark, Exp, Operands, Scrutinee, Arms, Body, Function}
use Rattle.rx_exits_plan.specs.Points.{leaves, jump_exit}
use Rattle.rx_exits_plan.specs.Marked.{mark_then, is_among}
use Rattle.rx_exits_plan.specs.Changed.{changed, changed_arms, changed_body}
use Rattle.rx_meaning.specs.Values.{element}
use Rattle.rx_meaning.specs.Expressions.{Functions}
use Rattle.rx_engine_simulation.specs.Sights.{In}
use Rattle.rx_engine_simulation.specs.Units.{GivesUnit, of_unit, of_assignment, of_update, of_print, of_call, of_block, of_choice, of_loop, of_jump, of_return, AllGiveUnit, no_arm_gives, each_gives, EndsInUnit, tail_gives, behind_run, behind_declaration, behind_let, ReturnsUnit, in_read, in_borrow, in_share, in_build, in_unit, in_lazy, in_assignment, in_update, in_call, in_input, in_print, in_block, in_choice, in_loop, in_jump, in_return, AllReturnUnit, no_operand_returns, operands_return, MatchedReturnsUnit, in_place, in_value, ArmsReturnUnit, no_arm_returns, arms_return, BodyReturnsUnit, tail_returns, run_returns, declaration_returns, let_returns, UnitFunctions}
use Rattle.rx_engine_related.specs.Running.{passing}
use Rattle.rx_engine_alike.specs.Units.{gives_unit, all_give_unit, ends_in_unit, returns_unit, all_return_unit, matched_returns_unit, arms_return_unit, body_returns_unit, function_returns_unit, all_are_unit}
use Rattle.rx_engine_alike_laws.proofs.Promised.{Says, says, silent, said, so, and_so}
use Rattle.rx_engine_alike_laws.proofs.Variables.{is_in_so}

-- ---- where jumps out of such loops are marked

module _ (U ls : List ℕ) where
  jump_gives : (b : Bool) (m : Mark) (l : ℕ) (again : Bool) → GivesUnit U (if b then mark_then (leaves (jump_exit l again)) (tree.jump m l again) else tree.jump m l again)
  jump_gives true m l again = of_block (behind_run (tail_gives of_jump))
  jump_gives false m l again = of_jump

  mutual
    pub marked_gives_so : (e : Exp) → Says (GivesUnit U (changed (passing ls) e)) (gives_unit U e)
    marked_gives_so (tree.unit m) = says of_unit
    marked_gives_so (tree.assign m p e) = says of_assignment
    marked_gives_so (tree.update m o p e) = says of_update
    marked_gives_so (tree.print m e) = says of_print
    marked_gives_so (tree.call m f es) = so (λ i. of_call i) (is_in_so f U)
    marked_gives_so (tree.block m b) = so (λ i. of_block i) (marked_ends_so b)
    marked_gives_so (tree.choose m c l) = so (λ i. of_choice i) (marked_arms_so l)
    marked_gives_so (tree.loop m l e) = says of_loop
    marked_gives_so (tree.jump m l again) = says (jump_gives (is_among l ls) m l again)
    marked_gives_so (tree.give m e) = says of_return
    marked_gives_so (tree.read m v p) = silent
    marked_gives_so (tree.borrow m b p) = silent
    marked_gives_so (tree.share m e) = silent
    marked_gives_so (tree.build m w es) = silent
    marked_gives_so (tree.lazily m b e f) = silent
    marked_gives_so (tree.input m) = silent

    marked_arms_so : (l : Arms) → Says (AllGiveUnit U (changed_arms (passing ls) l)) (all_give_unit U l)
    marked_arms_so tree.no_arm = says no_arm_gives
    marked_arms_so (tree.arm_and q e l) = and_so (marked_gives_so e) (marked_arms_so l) (λ a b. each_gives a b)

    marked_ends_so : (b : Body) → Says (EndsInUnit U (changed_body (passing ls) b)) (ends_in_unit U b)
    marked_ends_so (tree.ends e) = so (λ g. tail_gives g) (marked_gives_so e)
    marked_ends_so (tree.runs e b) = so (λ g. behind_run g) (marked_ends_so b)
    marked_ends_so (tree.declares n xs b) = so (λ g. behind_declaration g) (marked_ends_so b)
    marked_ends_so (tree.lets n q c b) = so (λ g. behind_let g) (marked_ends_so b)

-- ---- as it is

module _ (U : List ℕ) where
  mutual
    pub gives_unit_so : (e : Exp) → Says (GivesUnit U e) (gives_unit U e)
    gives_unit_so (tree.unit m) = says of_unit
    gives_unit_so (tree.assign m p e) = says of_assignment
    gives_unit_so (tree.update m o p e) = says of_update
    gives_unit_so (tree.print m e) = says of_print
    gives_unit_so (tree.call m f es) = so (λ i. of_call i) (is_in_so f U)
    gives_unit_so (tree.block m b) = so (λ i. of_block i) (ends_in_unit_so b)
    gives_unit_so (tree.choose m c l) = so (λ i. of_choice i) (all_give_unit_so l)
    gives_unit_so (tree.loop m l e) = says of_loop
    gives_unit_so (tree.jump m l again) = says of_jump
    gives_unit_so (tree.give m e) = says of_return
    gives_unit_so (tree.read m v p) = silent
    gives_unit_so (tree.borrow m b p) = silent
    gives_unit_so (tree.share m e) = silent
    gives_unit_so (tree.build m w es) = silent
    gives_unit_so (tree.lazily m b e f) = silent
    gives_unit_so (tree.input m) = silent

    all_give_unit_so : (l : Arms) → Says (AllGiveUnit U l) (all_give_unit U l)
    all_give_unit_so tree.no_arm = says no_arm_gives
    all_give_unit_so (tree.arm_and q e l) = and_so (gives_unit_so e) (all_give_unit_so l) (λ a b. each_gives a b)

    ends_in_unit_so : (b : Body) → Says (EndsInUnit U b) (ends_in_unit U b)
    ends_in_unit_so (tree.ends e) = so (λ g. tail_gives g) (gives_unit_so e)
    ends_in_unit_so (tree.runs e b) = so (λ g. behind_run g) (ends_in_unit_so b)
    ends_in_unit_so (tree.declares n xs b) = so (λ g. behind_declaration g) (ends_in_unit_so b)
    ends_in_unit_so (tree.lets n q c b) = so (λ g. behind_let g) (ends_in_unit_so b)

  -- ---- returns of it

  mutual
    pub returns_unit_so : (e : Exp) → Says (ReturnsUnit U e) (returns_unit U e)
    returns_unit_so (tree.read m v p) = says in_read
    returns_unit_so (tree.borrow m b p) = says in_borrow
    returns_unit_so (tree.share m e) = so (λ r. in_share r) (returns_unit_so e)
    returns_unit_so (tree.build m w es) = so (λ r. in_build r) (all_return_so es)
    returns_unit_so (tree.unit m) = says in_unit
    returns_unit_so (tree.lazily m b e f) = and_so (returns_unit_so e) (returns_unit_so f) (λ r s. in_lazy r s)
    returns_unit_so (tree.assign m p e) = so (λ r. in_assignment r) (returns_unit_so e)
    returns_unit_so (tree.update m o p e) = so (λ r. in_update r) (returns_unit_so e)
    returns_unit_so (tree.call m f es) = so (λ r. in_call r) (all_return_so es)
    returns_unit_so (tree.input m) = says in_input
    returns_unit_so (tree.print m e) = so (λ r. in_print r) (returns_unit_so e)
    returns_unit_so (tree.block m b) = so (λ r. in_block r) (body_returns_so b)
    returns_unit_so (tree.choose m c l) = and_so (matched_returns_so c) (arms_return_so l) (λ r s. in_choice r s)
    returns_unit_so (tree.loop m l e) = so (λ r. in_loop r) (returns_unit_so e)
    returns_unit_so (tree.jump m l again) = says in_jump
    returns_unit_so (tree.give m e) = and_so (gives_unit_so e) (returns_unit_so e) (λ g r. in_return g r)

    all_return_so : (es : Operands) → Says (AllReturnUnit U es) (all_return_unit U es)
    all_return_so tree.no_operand = says no_operand_returns
    all_return_so (tree.operand_and i e es) = and_so (returns_unit_so e) (all_return_so es) (λ r s. operands_return r s)

    matched_returns_so : (c : Scrutinee) → Says (MatchedReturnsUnit U c) (matched_returns_unit U c)
    matched_returns_so (tree.at_place m p) = says in_place
    matched_returns_so (tree.of_value e) = so (λ r. in_value r) (returns_unit_so e)

    arms_return_so : (l : Arms) → Says (ArmsReturnUnit U l) (arms_return_unit U l)
    arms_return_so tree.no_arm = says no_arm_returns
    arms_return_so (tree.arm_and q e l) = and_so (returns_unit_so e) (arms_return_so l) (λ r s. arms_return r s)

    body_returns_so : (b : Body) → Says (BodyReturnsUnit U b) (body_returns_unit U b)
    body_returns_so (tree.ends e) = so (λ r. tail_returns r) (returns_unit_so e)
    body_returns_so (tree.runs e b) = and_so (returns_unit_so e) (body_returns_so b) (λ r s. run_returns r s)
    body_returns_so (tree.declares n xs b) = so (λ r. declaration_returns r) (body_returns_so b)
    body_returns_so (tree.lets n q c b) = and_so (matched_returns_so c) (body_returns_so b) (λ r s. let_returns r s)

-- ---- functions

function_so : (U : List ℕ) (o : Option (Option Function)) → Says ((g : Function) → o ≡ Some (Some g) → ReturnsUnit U g.body) (function_returns_unit U o)
function_so U (Some (Some g)) = so (λ r h e. subst (λ g. ReturnsUnit U g.body) (by e) r) (returns_unit_so U g.body)
  where
    by : {g h : Function} → Some (Some g) ≡ Some (Some h) → g ≡ h
    by e = cc
function_so U (Some None) = says (λ g e. absurd (by e))
  where
    by : {g : Function} → Some None ≡ Some (Some g) → ⊥
    by e = cc
function_so U None = says (λ g e. absurd (by e))
  where
    by : {g : Function} → None ≡ Some (Some g) → ⊥
    by e = cc

all_unit_so : (P : Functions) (U fs : List ℕ) → Says ((f : ℕ) → In f fs → (g : Function) → element P f ≡ Some (Some g) → ReturnsUnit U g.body) (all_are_unit P U fs)
all_unit_so P U [] = says (λ f i. absurd i)
all_unit_so P U (f ∷ fs) = and_so (function_so U (element P f)) (all_unit_so P U fs) (λ a b h i. by a b h i)
  where
    by : ((g : Function) → element P f ≡ Some (Some g) → ReturnsUnit U g.body) → ((h : ℕ) → In h fs → (g : Function) → element P h ≡ Some (Some g) → ReturnsUnit U g.body)
        → (h : ℕ) → In h (f ∷ fs) → (g : Function) → element P h ≡ Some (Some g) → ReturnsUnit U g.body
    by a b h (inl e) g k = a g (ap (λ f. element P f) (sym e) ∙ k)
    by a b h (inr i) g k = b h i g k

pub are_unit_so : (P : Functions) (U : List ℕ) → Says (UnitFunctions P U) (all_are_unit P U U)
are_unit_so P U = all_unit_so P U U

pub are_unit_if : (P : Functions) (U : List ℕ) → all_are_unit P U U ≡ true → UnitFunctions P U
are_unit_if P U e = said (all_are_unit P U U) (are_unit_so P U) e
