-- The match of what the call gives.
use Rattle.std.proofs.Common.{◌≡◌, ℕ, Bool, false, List, Some, sym, subst}
use Rattle.rx_typed.specs.declared.nodes.Node.{Node}
use Rattle.rx_typed.specs.Named as named
use Rattle.rx_typed.specs.Named.{all_never, Exps}
use Rattle.rx_typed.specs.Tree as tree
use Rattle.rx_typed.specs.Elaborated.{arms, Assigned, mark, mark_if, operands, value}
use Rattle.rx_lower_walks.specs.Walks.{Among}
use Rattle.rx_exits_plan.specs.Points.{next}
use Rattle.rx_exits_plan.specs.Asked.{Asked}
use Rattle.rx_exits_plan.specs.Plan.{Plan}
use Rattle.rx_engine_simulation.specs.Sights.{In, Renaming, sight, sight_of, special}
use Rattle.rx_engine_simulation.specs.Jumps.{Jumping}
use Rattle.rx_engine_simulation.specs.Packing.{as_variant, no_way}
use Rattle.rx_engine_simulation.specs.Rereads.{in_call, in_choose, in_value_of, Rereads, RereadsArms}
use Rattle.rx_engine_simulation.proofs.Rereads.{self_all}
use Rattle.rx_engine_related.specs.AboutRun.{special_of}
use Rattle.rx_engine_related.specs.Leaving.{ArmsOf, jumps_of, variant_for}
use Rattle.rx_engine_related.specs.Standing.{call_left, call_matched}
use Rattle.rx_engine_related.specs.Tails.{tail_call_left, tail_call_matched}
use Rattle.rx_engine_made_trees.specs.Nodes.{KeepsItsType}
use Rattle.rx_engine_made_trees.specs.Seen.{OneToOne}
use Rattle.rx_engine_made_trees.specs.Arms.{ArmsFor}
use Rattle.rx_engine_made_trees.specs.Standing.{Called, called_so}
use Rattle.rx_engine_made_trees.specs.Tails.{TailCalled, tail_called_so}
use Rattle.rx_engine_made_trees.proofs.Taking.{call_is}
use Rattle.rx_engine_made_trees.proofs.Arms.{arms_of, arms_read, arms_so, ArmsRead, pick, picked, Picked}

module _ (T : Assigned) (A : Asked) (muts : List Bool) (k : Plan) (R : Renaming) (unit : Bool) (J : Jumping) (m c : Node) (g : ℕ) (es : Exps) (l : named.Arms) (keeps : KeepsItsType T c) where
  abbrev called : tree.Exp
  called = tree.call (mark T c) g (operands T 0 es)

  abbrev matched_with : tree.Arms → tree.Exp
  matched_with r = tree.choose (mark_if T m (all_never l)) (tree.of_value called) r

  is_matched : (r : tree.Arms) → RereadsArms (arms T l) r → Rereads (value T (named.match m (named.call c g es) l)) (matched_with r)
  is_matched r a = in_choose (in_value_of (subst (λ e. Rereads e called) (sym (call_is T c g es keeps)) (in_call (self_all (operands T 0 es))))) a

  goes_on_so : (v : ℕ) (r : tree.Arms) → variant_for k next ≡ Some v → RereadsArms (arms T l) r → ArmsOf A muts k unit J R r → Picked T A muts k R unit false J next r v
      → Called T A muts k J R g es (named.match m (named.call c g es) l) (jumps_of A muts k unit) (as_variant v)
  goes_on_so v r i a o (picked ps z pk w) = called_so (mark T c) (matched_with r) (call_matched unit i o pk w.1 w.2 w.3 w.4) (is_matched r a)

  with_arms : (v : ℕ) → ((x y : ℕ) → sight_of R x ≡ Some (sight y special) → In x (special_of A muts k)) → variant_for k next ≡ Some v → ArmsRead T A muts k R unit false J 0 k.exits l
      → Called T A muts k J R g es (named.match m (named.call c g es) l) (jumps_of A muts k unit) (as_variant v)
  with_arms v s i (arms_read r a so) = goes_on_so v r i a (arms_of T A muts k R unit false J r s so) (pick T A muts k R unit false J 0 k.exits r next v so i)

  pub calls_matched : (v : ℕ) → OneToOne R → ((x y : ℕ) → sight_of R x ≡ Some (sight y special) → In x (special_of A muts k)) → variant_for k next ≡ Some v → ArmsFor T A muts k R unit false J 0 k.exits l
      → Called T A muts k J R g es (named.match m (named.call c g es) l) (jumps_of A muts k unit) (as_variant v)
  calls_matched v one s i a = with_arms v s i (arms_so T A muts k R unit false J 0 k.exits l one a)

  left_so : ((x y : ℕ) → sight_of R x ≡ Some (sight y special) → In x (special_of A muts k)) → (Among next k.exits → ⊥) → ArmsRead T A muts k R unit false J 0 k.exits l
      → Called T A muts k J R g es (named.match m (named.call c g es) l) (jumps_of A muts k unit) no_way
  left_so s none (arms_read r a so) = called_so (mark T c) (matched_with r) (call_left unit none (arms_of T A muts k R unit false J r s so)) (is_matched r a)

  pub calls_left : OneToOne R → ((x y : ℕ) → sight_of R x ≡ Some (sight y special) → In x (special_of A muts k)) → (Among next k.exits → ⊥) → ArmsFor T A muts k R unit false J 0 k.exits l
      → Called T A muts k J R g es (named.match m (named.call c g es) l) (jumps_of A muts k unit) no_way
  calls_left one s none a = left_so s none (arms_so T A muts k R unit false J 0 k.exits l one a)

  -- of a run with its block's tail
  tail_goes_on : (has : Bool) (v : ℕ) (r : tree.Arms) → variant_for k next ≡ Some v → RereadsArms (arms T l) r → ArmsOf A muts k unit J R r → Picked T A muts k R unit has J next r v
      → TailCalled T A muts k J R g es (named.match m (named.call c g es) l) has (jumps_of A muts k unit) (as_variant v)
  tail_goes_on has v r i a o (picked ps z pk w) = tail_called_so (mark T c) (matched_with r) (tail_call_matched unit i o pk w.1 w.2 w.3 w.4) (is_matched r a)

  tail_with_arms : (has : Bool) (v : ℕ) → ((x y : ℕ) → sight_of R x ≡ Some (sight y special) → In x (special_of A muts k)) → variant_for k next ≡ Some v → ArmsRead T A muts k R unit has J 0 k.exits l
      → TailCalled T A muts k J R g es (named.match m (named.call c g es) l) has (jumps_of A muts k unit) (as_variant v)
  tail_with_arms has v s i (arms_read r a so) = tail_goes_on has v r i a (arms_of T A muts k R unit has J r s so) (pick T A muts k R unit has J 0 k.exits r next v so i)

  pub tail_calls_matched : (has : Bool) (v : ℕ) → OneToOne R → ((x y : ℕ) → sight_of R x ≡ Some (sight y special) → In x (special_of A muts k)) → variant_for k next ≡ Some v → ArmsFor T A muts k R unit has J 0 k.exits l
      → TailCalled T A muts k J R g es (named.match m (named.call c g es) l) has (jumps_of A muts k unit) (as_variant v)
  tail_calls_matched has v one s i a = tail_with_arms has v s i (arms_so T A muts k R unit has J 0 k.exits l one a)

  tail_left_so : (has : Bool) → ((x y : ℕ) → sight_of R x ≡ Some (sight y special) → In x (special_of A muts k)) → (Among next k.exits → ⊥) → ArmsRead T A muts k R unit has J 0 k.exits l
      → TailCalled T A muts k J R g es (named.match m (named.call c g es) l) has (jumps_of A muts k unit) no_way
  tail_left_so has s none (arms_read r a so) = tail_called_so (mark T c) (matched_with r) (tail_call_left unit none (arms_of T A muts k R unit has J r s so)) (is_matched r a)

  pub tail_calls_left : (has : Bool) → OneToOne R → ((x y : ℕ) → sight_of R x ≡ Some (sight y special) → In x (special_of A muts k)) → (Among next k.exits → ⊥) → ArmsFor T A muts k R unit has J 0 k.exits l
      → TailCalled T A muts k J R g es (named.match m (named.call c g es) l) has (jumps_of A muts k unit) no_way
  tail_calls_left has one s none a = tail_left_so has s none (arms_so T A muts k R unit has J 0 k.exits l one a)
