-- What stands for the run in the answer, and the new function, as trees with numbers and types; what is asked of them (REM, "Extract method").
use Rattle.std.specs.Prelude.{◌≡◌, ℕ, Bool, List, []}
use Rattle.rx_typed.specs.declared.nodes.Node.{Node}
use Rattle.rx_typed.specs.Named as named
use Rattle.rx_typed.specs.Named.{Else, Exp, Exps, Statements}
use Rattle.rx_typed.specs.Tree as tree
use Rattle.rx_typed.specs.Tree.{Body, Mark, Parameter}
use Rattle.rx_typed.specs.Elaborated.{Assigned, function_body, no_mark, operands, tail, value}
use Rattle.rx_exits_plan.specs.Points.{leaves, next}
use Rattle.rx_exits_plan.specs.Asked.{Asked}
use Rattle.rx_exits_plan.specs.Plan.{Plan}
use Rattle.rx_modes_policy.specs.declared.uses.Mode.{Mode}
use Rattle.rx_engine_simulation.specs.Turns.{Allowance}
use Rattle.rx_engine_simulation.specs.Sights.{How, Renaming}
use Rattle.rx_engine_simulation.specs.Jumps.{Jumping}
use Rattle.rx_engine_simulation.specs.Blocks.{before, Stretch}
use Rattle.rx_engine_simulation.specs.Endings.{a_marked, Last, none_left, with_last}
use Rattle.rx_engine_simulation.specs.Packing.{bare, no_way, Way}
use Rattle.rx_engine_simulation.specs.Like.{LikeExp}
use Rattle.rx_engine_simulation.specs.Rereads.{Rereads, RereadsBody}
use Rattle.rx_engine_related.specs.ByForm.{by_form}
use Rattle.rx_engine_related.specs.AboutRun.{special_of}
use Rattle.rx_engine_related.specs.Leaving.{HaveThere, left}
use Rattle.rx_engine_related.specs.Moved.{Ended, Moved}
use Rattle.rx_engine_related.specs.Never.{NeverEnds}
use Rattle.rx_engine_related.specs.Standing.{CallOf, marked_run, RunBecomesCall}
use Rattle.rx_engine_made_trees.specs.Statements.{around, BeginsWith, stretch}
use Rattle.rx_engine_made_trees.specs.Giving.{TailGives}
use Rattle.rx_engine_made_trees.specs.Handing.{DeclaresAll, HandedNames, HandsOver}
use Rattle.rx_engine_made_trees.specs.Entering.{Entered, EnteringNames}

-- the typed expression for the call, alone or matched, where references are read
pub data Called (T : Assigned) (A : Asked) (muts : List Bool) (k : Plan) (J : Jumping) (R : Renaming) (g : ℕ) (es : Exps) (e : Exp) (Ji : Jumping) (w : Way) : Type 0 where
  called_so : (mc : Mark) (z : tree.Exp) → CallOf A muts k J R (tree.call mc g (operands T 0 es)) Ji w z → Rereads (value T e) z → Called T A muts k J R g es e Ji w

module _ (T : Assigned) (items : ℕ → ℕ) (gain : Allowance) (U : List ℕ) (special : List ℕ) (J : Jumping) where
  -- the run's statements in the new function, with its types
  pub data MovedTo (Ra : Renaming) (r : Stretch) (rs : Statements) (Rb : Renaming) : Type 0 where
    moved_to : (r' : Stretch) → Moved items gain U special J Ra r r' Rb → ((b b' : Body) → RereadsBody b b' → RereadsBody (before (stretch T rs) b) (before r' b')) → MovedTo Ra r rs Rb

  -- the tail of its body, whose node is `n`
  pub data EndsTo (R : Renaming) (n : Node) (o : Else) : Last → Way → List ℕ → Type 0 where
    gives_values : {w : Way} {xs zs : List ℕ} → HaveThere R xs zs → TailGives T w zs o → EndsTo R n o none_left w xs
    is_last : {e e' : tree.Exp} → LikeExp items (left U) gain (by_form special) 0 J R e e' → Rereads (tail T n o) e' → EndsTo R n o (a_marked e (leaves next)) bare []
    never_comes : EndsTo R n o none_left no_way []
    is_left : {e e' : tree.Exp} → LikeExp items (left U) gain (by_form special) 0 J R e e' → Rereads (tail T n o) e' → EndsTo R n o (a_marked e (leaves next)) no_way []

  pub data EndedSo (R : Renaming) (n : Node) (o : Else) (l : Last) (w : Way) (xs : List ℕ) : Type 0 where
    ended_so : (end : Body) → Ended items gain U special J R l w xs end → RereadsBody (tree.ends (tree.give (no_mark n) (tail T n o))) end → EndedSo R n o l w xs

-- Of the function with the call, with the types `T`: the call `e` of item `g`, with arguments `es`, and the statements `ss` and `ds` for the run. Of the
-- new function, with the types `S`: params, and a body of locals, the run's statements `rs`, and a tail.
pub record Answered : Type 0 where
  pub T : Assigned
  pub S : Assigned
  pub g : ℕ
  pub es : Exps
  pub e : Exp
  pub ss : Statements
  pub ds : Statements
  pub params : List Parameter
  pub locals : List (ℕ × ℕ)
  pub rs : Statements
  pub all : Statements
  pub node : Node
  pub end : Else

-- What is asked: of the text the run's statements `r`, and what is left of them, `l`, under the jumps `J` with the variables `R`.
pub record Asks (A : Asked) (muts : List Bool) (k : Plan) (modes : List Mode) (items : ℕ → ℕ) (gain : Allowance) (U : List ℕ) (J : Jumping) (R : Renaming) (r : Stretch) (l : Last) (Q : Answered) : Type 0 where
  pub cold : List ℕ
  pub hows : List How
  pub jumps : Jumping
  pub way : Way
  -- where the run ends in the new function, from where that begins
  pub after : Renaming → Renaming
  pub received : List ℕ
  pub redeclared : List ℕ
  -- names and types where the call stands
  pub entering : EnteringNames Q.T gain.strays R cold k modes Q.es hows Q.params Q.locals
  -- the body of the new function by its form (rx_hoist_extraction, numbered)
  pub begins : BeginsWith Q.locals Q.rs Q.all
  -- the run's statements are alike, from where the new function begins: by names and types of the copied run (rx_engine_typing, with holes)
  pub moved : (inside : Renaming) → Entered gain.strays R k modes (operands Q.T 0 Q.es) hows Q.params Q.locals inside → MovedTo Q.S items gain U (special_of A muts k) jumps inside r Q.rs (after inside)
  -- its end gives what is handed out, or is the last of them
  pub ends : (inside : Renaming) → Entered gain.strays R k modes (operands Q.T 0 Q.es) hows Q.params Q.locals inside → EndsTo Q.S items gain U (special_of A muts k) jumps (after inside) Q.node Q.end l way (k.outs next)
  -- by the plan, what does not go on never does by its form (rx_engine_validated)
  pub never : way ≡ no_way → NeverEnds l r
  -- the call, alone or matched
  pub called : Called Q.T A muts k J R Q.g Q.es Q.e jumps way
  -- names behind the run, and the forms of what is done with what is handed out
  pub names : (inside : Renaming) → Entered gain.strays R k modes (operands Q.T 0 Q.es) hows Q.params Q.locals inside → HandedNames A muts k R (after inside) received redeclared
  pub hands : HandsOver Q.T A muts k R Q.e (k.outs next) received Q.ss
  pub declares : DeclaresAll redeclared Q.ds

-- The new function with this body stands for the run: it is the answer's, where references are read.
pub data Stands (A : Asked) (muts : List Bool) (k : Plan) (modes : List Mode) (items : ℕ → ℕ) (gain : Allowance) (U : List ℕ) (J : Jumping) (R Rn : Renaming) (r : Stretch) (l : Last) (Q : Answered) : Type 0 where
  stands : (f : tree.Exp) (h : Body → Body) → Rereads (function_body Q.S (named.body Q.node Q.all Q.end)) f
      → ((rest : Body) → RunBecomesCall A muts k modes items gain U (record { number = Q.g; function = record { params = Q.params; body = f } }) 1 J R Rn rest (λ b. before (marked_run k l r) (with_last l b)) h)
      → ((b b' : Body) → RereadsBody b b' → RereadsBody (around Q.T Q.ss (around Q.T Q.ds b)) (h b')) → Stands A muts k modes items gain U J R Rn r l Q
