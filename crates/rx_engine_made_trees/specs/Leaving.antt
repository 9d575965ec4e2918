-- What stands in the new function for a jump that leaves the run, and for a return: a return of a variant (REM, "Extract method": reified control
-- flow; Rust Reference, "return expressions"), as a tree with numbers; what the text has in front of it are marks.
use Rattle.std.specs.Prelude.{◌≡◌, ℕ, Bool, List, Option, Some}
use Rattle.rx_typed.specs.declared.nodes.Node.{Node}
use Rattle.rx_typed.specs.Named as named
use Rattle.rx_typed.specs.Named.{Exp, Exps, Written}
use Rattle.rx_typed.specs.Tree as tree
use Rattle.rx_typed.specs.Tree.{Mark}
use Rattle.rx_typed.specs.Elaborated.{Assigned, matched, value}
use Rattle.rx_exits_plan.specs.Points.{jump_exit, leaves}
use Rattle.rx_exits_plan.specs.Marked.{mark_then}
use Rattle.rx_engine_simulation.specs.Turns.{Allowance}
use Rattle.rx_engine_simulation.specs.Sights.{IsNew, Renaming}
use Rattle.rx_engine_simulation.specs.Jumps.{Jumping, Pack, with_unit, with_value}
use Rattle.rx_engine_simulation.specs.Like.{LikeExp}
use Rattle.rx_engine_simulation.specs.Units.{GivesUnit}
use Rattle.rx_engine_simulation.specs.Rereads.{Rereads, RereadsMatched}
use Rattle.rx_engine_related.specs.ByForm.{by_form}
use Rattle.rx_engine_related.specs.Leaving.{HaveThere, left}
use Rattle.rx_engine_made_trees.specs.Giving.{NamesAll}

module _ (T : Assigned) (items : ℕ → ℕ) (gain : Allowance) (U : List ℕ) (special : List ℕ) (J : Jumping) (R : Renaming) where
  abbrev pub IsLikeThere : tree.Exp → tree.Exp → Type 0
  IsLikeThere e e' = LikeExp items (left U) gain (by_form special) 0 J R e e'

  pub data ReturnsFor : tree.Exp → Exp → Type 0 where
    for_jump : {m : Mark} {l : ℕ} {again : Bool} {n c : Node} {i : ℕ} {es : Exps} {zs : List ℕ} (p : Pack) → J.leaving l again ≡ Some p → HaveThere R p.outs zs → NamesAll T zs es
        → ReturnsFor (mark_then (leaves (jump_exit l again)) (tree.jump m l again)) (named.return n (named.present (named.variant c i p.variant es)))
    for_return : {m mu : Mark} {n c : Node} {i v : ℕ} → J.returning ≡ with_unit v → ReturnsFor (tree.give m (tree.unit mu)) (named.return n (named.present (named.variant c i v named.no_exp)))
    for_value : {m : Mark} {e e' : tree.Exp} {n c : Node} {i v : ℕ} {f : Exp} → J.returning ≡ with_value v → IsLikeThere e e' → Rereads (value T f) e'
        → ReturnsFor (tree.give m e) (named.return n (named.present (named.variant c i v (named.exp_and f named.no_exp))))
    -- the unit's value is bound in front
    for_unit : {m : Mark} {e e' : tree.Exp} {n b d j p c : Node} {o i v : ℕ} {mutable : Bool} {t : Option Written} {f : Exp} → J.returning ≡ with_unit v → GivesUnit U e → IsNew R o → IsLikeThere e e' → RereadsMatched (matched T f (value T f)) (tree.of_value e')
        → ReturnsFor (tree.give m e) (named.return n (named.present (named.block b (named.body d (named.statement_and (named.lets j (named.bind p o mutable) t f) named.no_statement) (named.present (named.variant c i v named.no_exp))))))

  pub data ReturnedSo (e : tree.Exp) (f : Exp) : Type 0 where
    returned_so : (z : tree.Exp) → Rereads (value T f) z → IsLikeThere e z → ReturnedSo e f
