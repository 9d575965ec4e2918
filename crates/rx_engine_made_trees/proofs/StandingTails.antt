-- All together, of a run with its block's tail.
use Rattle.std.proofs.Common.{◌≡◌, ℕ, Bool, List, [], ◌∷◌, refl, sym, ap, subst}
use Rattle.rx_typed.specs.declared.nodes.Node.{Node}
use Rattle.rx_typed.specs.Named as named
use Rattle.rx_typed.specs.Named.{body_never, Else, Exps, Statements}
use Rattle.rx_typed.specs.Tree as tree
use Rattle.rx_typed.specs.Tree.{Body}
use Rattle.rx_typed.specs.Elaborated.{Assigned, function_body, mark, mark_if, nested, no_mark, operands, statement, tail, value}
use Rattle.rx_exits_plan.specs.Points.{next}
use Rattle.rx_exits_plan.specs.Asked.{Asked}
use Rattle.rx_exits_plan.specs.Plan.{Plan}
use Rattle.rx_modes_policy.specs.declared.uses.Mode.{Mode}
use Rattle.rx_engine_simulation.specs.Turns.{Allowance}
use Rattle.rx_engine_simulation.specs.Sights.{Renaming}
use Rattle.rx_engine_simulation.specs.Jumps.{Jumping}
use Rattle.rx_engine_simulation.specs.Passing.{inner_jumps}
use Rattle.rx_engine_simulation.specs.Blocks.{before, Stretch, with_locals}
use Rattle.rx_engine_simulation.specs.Endings.{Last}
use Rattle.rx_engine_simulation.specs.Packing.{bare}
use Rattle.rx_engine_simulation.specs.Statements.{body_of}
use Rattle.rx_engine_simulation.specs.Rereads.{in_block, in_call, Rereads, RereadsBody}
use Rattle.rx_engine_simulation.proofs.Rereads.{self_all}
use Rattle.rx_engine_related.specs.AboutRun.{special_of}
use Rattle.rx_engine_related.specs.Tails.{tail_becomes_call, tail_call_alone}
use Rattle.rx_engine_made_trees.specs.Nodes.{KeepsItsType}
use Rattle.rx_engine_made_trees.specs.Statements.{BeginsWith, Behind, nothing_first, one_first, stretch}
use Rattle.rx_engine_made_trees.specs.Entering.{Entered}
use Rattle.rx_engine_made_trees.specs.Standing.{Answered, moved_to, MovedTo}
use Rattle.rx_engine_made_trees.specs.Tails.{AsksTail, stands_for_tail, StandsForTail, tail_called_so, TailCalled, tail_ended_so, TailEndedSo, tail_stands, TailStands}
use Rattle.rx_engine_made_trees.proofs.Taking.{call_is}
use Rattle.rx_engine_made_trees.proofs.Entering.{enters_so}
use Rattle.rx_engine_made_trees.proofs.Standing.{locals_are, under_locals}
use Rattle.rx_engine_made_trees.proofs.Tails.{tail_ends_so, tails_stand}

pub tail_calls_itself : (T : Assigned) (A : Asked) (muts : List Bool) (k : Plan) (J : Jumping) (R : Renaming) (n : Node) (g : ℕ) (es : Exps) (has : Bool) → k.exits ≡ next ∷ [] → KeepsItsType T n
    → TailCalled T A muts k J R g es (named.call n g es) has inner_jumps bare
tail_calls_itself T A muts k J R n g es has i keeps = tail_called_so (mark T n) (tree.call (mark T n) g (operands T 0 es)) (tail_call_alone i)
    (subst (λ e. Rereads e (tree.call (mark T n) g (operands T 0 es))) (sym (call_is T n g es keeps)) (in_call (self_all (operands T 0 es))))

behind_is : (T : Assigned) (ss ts all : Statements) (e : tree.Exp) → Behind ss ts all → nested T all e ≡ before (stretch T ss) (nested T ts e)
behind_is T ss ts all e nothing_first = refl
behind_is T ss ts all e (one_first {a = named.declares n p t} {ss = fs} {all = gs} b) = ap (λ b. statement T (named.declares n p t) b) (behind_is T fs ts gs e b)
behind_is T ss ts all e (one_first {a = named.lets n p t v} {ss = fs} {all = gs} b) = ap (λ b. statement T (named.lets n p t v) b) (behind_is T fs ts gs e b)
behind_is T ss ts all e (one_first {a = named.evaluates n v c} {ss = fs} {all = gs} b) = ap (λ b. statement T (named.evaluates n v c) b) (behind_is T fs ts gs e b)

body_with : (T : Assigned) (n : Node) (ls : List (ℕ × ℕ)) (rs lasts rest all : Statements) (o : Else) (r' : Stretch) (end : Body) → BeginsWith ls rest all → Behind rs lasts rest
    → ((b b' : Body) → RereadsBody b b' → RereadsBody (before (stretch T rs) b) (before r' b')) → RereadsBody (nested T lasts (tree.give (no_mark n) (tail T n o))) end
    → Rereads (function_body T (named.body n all o)) (body_of (mark_if T n (body_never (named.body n all o))) ls r' end)
body_with T n ls rs lasts rest all o r' end b h f g = in_block (subst (λ c. RereadsBody c (with_locals ls (before r' end))) (sym (locals_are T ls rest all (tree.give (no_mark n) (tail T n o)) b))
    (under_locals ls (nested T rest (tree.give (no_mark n) (tail T n o))) (before r' end)
    (subst (λ c. RereadsBody c (before r' end)) (sym (behind_is T rs lasts rest (tree.give (no_mark n) (tail T n o)) h)) (f (nested T lasts (tree.give (no_mark n) (tail T n o))) end g))))

module _ (A : Asked) (muts : List Bool) (k : Plan) (modes : List Mode) (items : ℕ → ℕ) (gain : Allowance) (U : List ℕ) (J : Jumping) (R : Renaming) (r : Stretch) (l : Last) (e : tree.Exp) (Q : Answered) (P : AsksTail A muts k modes items gain U J R r l e Q) where
  joined : (inside : Renaming) → Entered gain.strays R k modes (operands Q.T 0 Q.es) P.hows Q.params Q.locals inside → MovedTo Q.S items gain U (special_of A muts k) P.jumps inside r Q.rs (P.after inside)
      → TailEndedSo Q.S items gain U (special_of A muts k) P.jumps (P.after inside) Q.node e P.has P.way (k.outs next) P.lasts Q.end → TailCalled Q.T A muts k J R Q.g Q.es Q.e P.has P.jumps P.way
      → ((z : tree.Exp) → Rereads (value Q.T Q.e) z → TailStands Q.T A muts k R J (P.after inside) l P.place z P.has P.way (k.outs next) Q.ss Q.ds P.o P.F)
      → StandsForTail A muts k modes items gain U J R r l Q P.place P.o P.F
  joined inside en (moved_to r' mv f) (tail_ended_so end ed g) (tail_called_so mc z c rc) h = by (h z rc)
    where
      by : TailStands Q.T A muts k R J (P.after inside) l P.place z P.has P.way (k.outs next) Q.ss Q.ds P.o P.F → StandsForTail A muts k modes items gain U J R r l Q P.place P.o P.F
      by (tail_stands Rn t hd rd) = stands_for_tail (body_of (mark_if Q.S Q.node (body_never (named.body Q.node Q.all Q.end))) Q.locals r' end) Rn t
          (body_with Q.S Q.node Q.locals Q.rs P.lasts P.rest Q.all Q.end r' end P.begins P.behind f g)
          (λ rest. tail_becomes_call inside (P.after inside) (mark_if Q.S Q.node (body_never (named.body Q.node Q.all Q.end))) Q.locals P.is_tail refl en.enters mv ed P.never c hd) rd

  pub all_tails_stand : StandsForTail A muts k modes items gain U J R r l Q P.place P.o P.F
  all_tails_stand = by (enters_so Q.T gain.strays R P.cold k modes Q.es P.hows Q.params Q.locals P.entering)
    where
      by : (inside : Renaming) × Entered gain.strays R k modes (operands Q.T 0 Q.es) P.hows Q.params Q.locals inside → StandsForTail A muts k modes items gain U J R r l Q P.place P.o P.F
      by en = joined en.0 en.1 (P.moved en.0 en.1) (tail_ends_so Q.S items gain U (special_of A muts k) P.jumps (P.after en.0) Q.node e P.has P.way (k.outs next) P.lasts Q.end (P.ends en.0 en.1)) P.called
          (λ z rc. tails_stand Q.T A muts k R (P.after en.0) J l P.place P.F P.back P.way P.received P.redeclared (k.outs next) P.has Q.e z Q.ss Q.ds P.o (P.names en.0 en.1) refl P.hands rc)
