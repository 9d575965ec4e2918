-- All together: the new function is called where the run stood.
use Rattle.std.proofs.Common.{◌≡◌, ℕ, Bool, List, [], ◌∷◌, refl, sym, ap, subst}
use Rattle.rx_typed.specs.declared.nodes.Node.{Node}
use Rattle.rx_typed.specs.Named as named
use Rattle.rx_typed.specs.Named.{body_never, Else, Exps, Statement, Statements}
use Rattle.rx_typed.specs.Tree as tree
use Rattle.rx_typed.specs.Tree.{Body}
use Rattle.rx_typed.specs.Elaborated.{Assigned, function_body, mark, mark_if, nested, no_mark, operands, statement, tail, value}
use Rattle.rx_exits_plan.specs.Points.{next}
use Rattle.rx_exits_plan.specs.Asked.{Asked}
use Rattle.rx_exits_plan.specs.Plan.{Plan}
use Rattle.rx_modes_policy.specs.declared.uses.Mode.{Mode}
use Rattle.rx_engine_simulation.specs.Turns.{Allowance}
use Rattle.rx_engine_simulation.specs.Sights.{Renaming}
use Rattle.rx_engine_simulation.specs.Jumps.{Jumping}
use Rattle.rx_engine_simulation.specs.Passing.{inner_jumps}
use Rattle.rx_engine_simulation.specs.Blocks.{before, Stretch, with_locals}
use Rattle.rx_engine_simulation.specs.Endings.{Last, none_left}
use Rattle.rx_engine_simulation.specs.Packing.{bare, Gives, Way}
use Rattle.rx_engine_simulation.specs.Statements.{body_of}
use Rattle.rx_engine_simulation.specs.Rereads.{in_block, in_call, in_declare, in_end, in_give, Rereads, RereadsBody}
use Rattle.rx_engine_simulation.proofs.Rereads.{self_all, self_exp}
use Rattle.rx_engine_related.specs.AboutRun.{special_of}
use Rattle.rx_engine_related.specs.Leaving.{HaveThere}
use Rattle.rx_engine_related.specs.Moved.{gives_last, gives_left, gives_never, gives_outs}
use Rattle.rx_engine_related.specs.Standing.{call_alone, run_becomes_call}
use Rattle.rx_engine_made_trees.specs.Nodes.{KeepsItsType}
use Rattle.rx_engine_made_trees.specs.Statements.{begins_and, begins_here, BeginsWith, stretch}
use Rattle.rx_engine_made_trees.specs.Handing.{behind_call, stands_so, StandsForRun}
use Rattle.rx_engine_made_trees.specs.Entering.{Entered}
use Rattle.rx_engine_made_trees.specs.Standing.{Answered, Asks, Called, called_so, ended_so, EndedSo, EndsTo, gives_values, is_last, is_left, moved_to, MovedTo, never_comes, Stands, stands}
use Rattle.rx_engine_made_trees.proofs.Taking.{call_is, reread, Reread}
use Rattle.rx_engine_made_trees.proofs.Giving.{tail_given}
use Rattle.rx_engine_made_trees.proofs.Handed.{handed_stands}
use Rattle.rx_engine_made_trees.proofs.Entering.{enters_so}

-- ---- the call alone

pub calls_itself : (T : Assigned) (A : Asked) (muts : List Bool) (k : Plan) (J : Jumping) (R : Renaming) (n : Node) (g : ℕ) (es : Exps) → k.exits ≡ next ∷ [] → KeepsItsType T n → Called T A muts k J R g es (named.call n g es) inner_jumps bare
calls_itself T A muts k J R n g es i keeps = called_so (mark T n) (tree.call (mark T n) g (operands T 0 es)) (call_alone i)
    (subst (λ e. Rereads e (tree.call (mark T n) g (operands T 0 es))) (sym (call_is T n g es keeps)) (in_call (self_all (operands T 0 es))))

-- ---- the end of the new function

module _ (T : Assigned) (items : ℕ → ℕ) (gain : Allowance) (U : List ℕ) (special : List ℕ) (J : Jumping) (R : Renaming) (n : Node) (o : Else) where
  with_values : {w : Way} {xs zs : List ℕ} → HaveThere R xs zs → Reread (λ f. Gives w zs f) (tail T n o) → EndedSo T items gain U special J R n o none_left w xs
  with_values h (reread z r g) = ended_so (tree.ends (tree.give (no_mark n) z)) (gives_outs h g) (in_end (in_give r))

  pub ends_so : (l : Last) (w : Way) (xs : List ℕ) → EndsTo T items gain U special J R n o l w xs → EndedSo T items gain U special J R n o l w xs
  ends_so l w xs (gives_values {zs = zs} h g) = with_values h (tail_given T n w zs o g)
  ends_so l w xs (is_last {e' = z} a r) = ended_so (tree.ends (tree.give (no_mark n) z)) (gives_last a) (in_end (in_give r))
  ends_so l w xs never_comes = ended_so (tree.ends (tree.give (no_mark n) (tail T n o))) gives_never (in_end (in_give (self_exp (tail T n o))))
  ends_so l w xs (is_left {e' = z} a r) = ended_so (tree.ends (tree.give (no_mark n) z)) (gives_left a) (in_end (in_give r))

-- ---- the body of the new function

nested_is : (T : Assigned) (ss : Statements) (e : tree.Exp) → nested T ss e ≡ before (stretch T ss) (tree.ends e)
nested_is T named.no_statement e = refl
nested_is T (named.statement_and (named.declares n p t) ss) e = ap (λ b. statement T (named.declares n p t) b) (nested_is T ss e)
nested_is T (named.statement_and (named.lets n p t v) ss) e = ap (λ b. statement T (named.lets n p t v) b) (nested_is T ss e)
nested_is T (named.statement_and (named.evaluates n v c) ss) e = ap (λ b. statement T (named.evaluates n v c) b) (nested_is T ss e)

pub locals_are : (T : Assigned) (ls : List (ℕ × ℕ)) (rest ss : Statements) (e : tree.Exp) → BeginsWith ls rest ss → nested T ss e ≡ with_locals ls (nested T rest e)
locals_are T ls rest ss e begins_here = refl
locals_are T ls rest ss e (begins_and {n = n} {y = y} {ls = ms} {ss = ts} b) = ap (λ b. tree.declares n.number (y ∷ []) b) (locals_are T ms rest ts e b)

pub under_locals : (ls : List (ℕ × ℕ)) (b b' : Body) → RereadsBody b b' → RereadsBody (with_locals ls b) (with_locals ls b')
under_locals [] b b' r = r
under_locals (l ∷ ls) b b' r = in_declare (under_locals ls b b' r)

body_is : (T : Assigned) (n : Node) (ls : List (ℕ × ℕ)) (rest ss : Statements) (o : Else) (r' : Stretch) (end : Body) → BeginsWith ls rest ss → ((b b' : Body) → RereadsBody b b' → RereadsBody (before (stretch T rest) b) (before r' b'))
    → RereadsBody (tree.ends (tree.give (no_mark n) (tail T n o))) end → Rereads (function_body T (named.body n ss o)) (body_of (mark_if T n (body_never (named.body n ss o))) ls r' end)
body_is T n ls rest ss o r' end b f g = in_block (subst (λ c. RereadsBody c (with_locals ls (before r' end))) (sym (locals_are T ls rest ss (tree.give (no_mark n) (tail T n o)) b))
    (under_locals ls (nested T rest (tree.give (no_mark n) (tail T n o))) (before r' end)
    (subst (λ c. RereadsBody c (before r' end)) (sym (nested_is T rest (tree.give (no_mark n) (tail T n o)))) (f (tree.ends (tree.give (no_mark n) (tail T n o))) end g))))

-- ---- all

module _ (A : Asked) (muts : List Bool) (k : Plan) (modes : List Mode) (items : ℕ → ℕ) (gain : Allowance) (U : List ℕ) (J : Jumping) (R : Renaming) (r : Stretch) (l : Last) (Q : Answered) (P : Asks A muts k modes items gain U J R r l Q) where
  joined : (inside : Renaming) → Entered gain.strays R k modes (operands Q.T 0 Q.es) P.hows Q.params Q.locals inside → MovedTo Q.S items gain U (special_of A muts k) P.jumps inside r Q.rs (P.after inside)
      → EndedSo Q.S items gain U (special_of A muts k) P.jumps (P.after inside) Q.node Q.end l P.way (k.outs next) → Called Q.T A muts k J R Q.g Q.es Q.e P.jumps P.way
      → ((z : tree.Exp) → Rereads (value Q.T Q.e) z → StandsForRun Q.T A muts k R (P.after inside) z Q.ss Q.ds (behind_call k R P.received P.redeclared))
      → Stands A muts k modes items gain U J R (behind_call k R P.received P.redeclared) r l Q
  joined inside en (moved_to r' mv f) (ended_so end ed g) (called_so mc z c rc) h = by (h z rc)
    where
      by : StandsForRun Q.T A muts k R (P.after inside) z Q.ss Q.ds (behind_call k R P.received P.redeclared) → Stands A muts k modes items gain U J R (behind_call k R P.received P.redeclared) r l Q
      by (stands_so t hd rd) = stands (body_of (mark_if Q.S Q.node (body_never (named.body Q.node Q.all Q.end))) Q.locals r' end) t (body_is Q.S Q.node Q.locals Q.rs Q.all Q.end r' end P.begins f g)
          (λ rest. run_becomes_call inside (P.after inside) (mark_if Q.S Q.node (body_never (named.body Q.node Q.all Q.end))) Q.locals refl en.enters mv ed P.never c hd) rd

  pub all_stands : Stands A muts k modes items gain U J R (behind_call k R P.received P.redeclared) r l Q
  all_stands = by (enters_so Q.T gain.strays R P.cold k modes Q.es P.hows Q.params Q.locals P.entering)
    where
      by : (inside : Renaming) × Entered gain.strays R k modes (operands Q.T 0 Q.es) P.hows Q.params Q.locals inside → Stands A muts k modes items gain U J R (behind_call k R P.received P.redeclared) r l Q
      by en = joined en.0 en.1 (P.moved en.0 en.1) (ends_so Q.S items gain U (special_of A muts k) P.jumps (P.after en.0) Q.node Q.end l P.way (k.outs next) (P.ends en.0 en.1)) P.called
          (λ z rc. handed_stands Q.T A muts k R (P.after en.0) P.received P.redeclared (P.names en.0 en.1) Q.e z Q.ss Q.ds P.hands P.declares rc)
