-- How the new function ends where the run hasn't its block's tail: it gives what is handed out, or never comes to its end; or the run's last statement is its
-- tail (REM, "Extract method": outputs; Rust Reference, "Block expressions").
use Rattle.std.specs.Prelude.{◌≡◌, ℕ, Bool, false, List, Option}
use Rattle.rx_typed.specs.declared.nodes.Node.{Node}
use Rattle.rx_typed.specs.Named as named
use Rattle.rx_typed.specs.Named.{Else, Exp, Statements, Written}
use Rattle.rx_typed.specs.Tree as tree
use Rattle.rx_typed.specs.Elaborated.{matched, tail, value, Assigned}
use Rattle.rx_exits_plan.specs.Points.{leaves, next}
use Rattle.rx_engine_names.specs.NewBody.{last_one}
use Rattle.rx_engine_names.specs.Replaced.{joined}
use Rattle.rx_engine_simulation.specs.Endings.{a_marked, none_left}
use Rattle.rx_engine_simulation.specs.Jumps.{Jumping}
use Rattle.rx_engine_simulation.specs.Packing.{Way}
use Rattle.rx_engine_simulation.specs.Rereads.{Rereads, RereadsMatched}
use Rattle.rx_engine_simulation.specs.Sights.{Renaming}
use Rattle.rx_engine_simulation.specs.Turns.{Allowance}
use Rattle.rx_engine_made_trees.specs.Standing.{EndsTo}
use Rattle.rx_engine_made_trees.specs.Tails.{IsLike, TailEndsTo}

-- a block that binds the unit to a variable in front of what it gives
pub data BindsUnit (x : ℕ) : Exp → Type 0 where
  binds_unit : {b d j p : Node} {mutable : Bool} {t : Option Written} {f g : Exp} → BindsUnit x (named.block b (named.body d (named.statement_and (named.lets j (named.bind p x mutable) t f) named.no_statement) (named.present g)))

module _ (S : Assigned) (items : ℕ → ℕ) (gain : Allowance) (U others : List ℕ) (J : Jumping) (R : Renaming) (n : Node) where
  -- of the run's statements `xs`, whose copy is behind the locals of the new function, whose tail is `o`
  pub data EndCase (xs : Statements) (o : Else) (w : Way) (outs : List ℕ) : Type 0 where
    hands_out : EndsTo S items gain U others J R n o none_left w outs → EndCase xs o w outs
    gives_last : (front : Statements) (m : Node) (e e' : Exp) → xs ≡ joined front (last_one m e false) → o ≡ named.present e'
        → ((z z' : tree.Exp) → IsLike S items gain U others J R z z' → Rereads (tail S n o) z' → EndsTo S items gain U others J R n o (a_marked z (leaves next)) w outs) → EndCase xs o w outs

  -- with the block's tail, which is `e` in the text: the last statements are `lasts`, behind the copy of the run's
  pub record TailCase (e : tree.Exp) (has : Bool) (w : Way) (outs : List ℕ) (ys : Statements) (o : Else) : Type 0 where
    pub front : Statements
    pub lasts : Statements
    pub is : ys ≡ joined front lasts
    pub ends : TailEndsTo S items gain U others J R n e has w outs lasts o

  -- the tail is alike in its copy, read as it is, or as what is bound
  pub record CopyReads (e : tree.Exp) (g : Exp) : Type 0 where
    pub copy : tree.Exp
    pub like : IsLike S items gain U others J R e copy
    pub reads : Rereads (value S g) copy
    pub matches : RereadsMatched (matched S g (value S g)) (tree.of_value copy)
