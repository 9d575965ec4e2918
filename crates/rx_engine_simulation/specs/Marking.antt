-- Trees with marks in front of expressions and of what follows in blocks, and there with reads behind a mark, of variables that were
-- written where a walk of this text comes to it (REM, "Extract method").
use Rattle.std.specs.Prelude.{◌≡◌, ℕ, Bool, false, List, [], ◌∷◌, Option, Some}
use Rattle.rx_tree.specs.declared.tree.BinaryOp.{BinaryOp}
use Rattle.rx_typed.specs.Tree as tree
use Rattle.rx_typed.specs.Tree.{Mark, Making, Place, Pattern, Exp, Operands, Scrutinee, Arms, Body, Function}
use Rattle.rx_exits_plan.specs.Points.{Point}
use Rattle.rx_exits_plan.specs.Marked.{mark_then}
use Rattle.rx_meaning.specs.Values.{element}
use Rattle.rx_meaning.specs.Programs.{Program}
use Rattle.rx_engine_simulation.specs.Turns.{Allowance}
use Rattle.rx_engine_simulation.specs.Histories.{Facts}
use Rattle.rx_engine_simulation.specs.Openings.{no_openings}
use Rattle.rx_engine_simulation.specs.Passed.{let_pass}
use Rattle.rx_engine_simulation.specs.Blocks.{done, before}
use Rattle.rx_engine_simulation.specs.Marks.{with_mark, AreWritten}
use Rattle.rx_engine_simulation.specs.Programs.{About, facts_of, LikeFunction, IsNone}

-- what an expression has: a mark in front of it, or it is told that its value passed
pub data Beside : Type 0 where
  in_front_of : Point → Beside
  behind_value : Beside

abbrev pub marks_before : List Beside → Exp → Exp
marks_before [] e = e
marks_before (in_front_of p ∷ ps) e = mark_then p (marks_before ps e)
marks_before (behind_value ∷ ps) e = let_pass (marks_before ps e)

abbrev pub marks_in : List (Point × List ℕ) → Body → Body
marks_in [] b = b
marks_in (m ∷ ms) b = before (with_mark m.0 m.1 done) (marks_in ms b)

pub data AllWritten (V : Facts) : List (Point × List ℕ) → Type 0 where
  none_read : AllWritten V []
  read_and : {p : Point} {xs : List ℕ} {ms : List (Point × List ℕ)} → AreWritten V p xs → AllWritten V ms → AllWritten V ((p, xs) ∷ ms)

-- the second is the first with marks, in the text of which this is known
mutual
  pub data MarkedExp (V : Facts) : Exp → Exp → Type 0 where
    in_front : {e e1 : Exp} (ps : List Beside) → MarkedInside V e e1 → MarkedExp V e (marks_before ps e1)

  pub data MarkedInside (V : Facts) : Exp → Exp → Type 0 where
    m_read : {m : Mark} {v : Bool} {p : Place} → MarkedInside V (tree.read m v p) (tree.read m v p)
    m_borrow : {m : Mark} {b : Bool} {p : Place} → MarkedInside V (tree.borrow m b p) (tree.borrow m b p)
    m_share : {m : Mark} {e e1 : Exp} → MarkedExp V e e1 → MarkedInside V (tree.share m e) (tree.share m e1)
    m_build : {m : Mark} {w : Making} {es es1 : Operands} → MarkedAll V es es1 → MarkedInside V (tree.build m w es) (tree.build m w es1)
    m_unit : {m : Mark} → MarkedInside V (tree.unit m) (tree.unit m)
    m_lazily : {m : Mark} {b : Bool} {e e1 f f1 : Exp} → MarkedExp V e e1 → MarkedExp V f f1 → MarkedInside V (tree.lazily m b e f) (tree.lazily m b e1 f1)
    m_assign : {m : Mark} {p : Place} {e e1 : Exp} → MarkedExp V e e1 → MarkedInside V (tree.assign m p e) (tree.assign m p e1)
    m_update : {m : Mark} {o : BinaryOp} {p : Place} {e e1 : Exp} → MarkedExp V e e1 → MarkedInside V (tree.update m o p e) (tree.update m o p e1)
    m_call : {m : Mark} {f : ℕ} {es es1 : Operands} → MarkedAll V es es1 → MarkedInside V (tree.call m f es) (tree.call m f es1)
    m_input : {m : Mark} → MarkedInside V (tree.input m) (tree.input m)
    m_print : {m : Mark} {e e1 : Exp} → MarkedExp V e e1 → MarkedInside V (tree.print m e) (tree.print m e1)
    m_block : {m : Mark} {b b1 : Body} → MarkedBody V b b1 → MarkedInside V (tree.block m b) (tree.block m b1)
    m_choose : {m : Mark} {c c1 : Scrutinee} {l l1 : Arms} → MarkedMatched V c c1 → MarkedArms V l l1 → MarkedInside V (tree.choose m c l) (tree.choose m c1 l1)
    m_loop : {m : Mark} {l : ℕ} {e e1 : Exp} → MarkedExp V e e1 → MarkedInside V (tree.loop m l e) (tree.loop m l e1)
    m_jump : {m : Mark} {l : ℕ} {again : Bool} → MarkedInside V (tree.jump m l again) (tree.jump m l again)
    m_give : {m : Mark} {e e1 : Exp} → MarkedExp V e e1 → MarkedInside V (tree.give m e) (tree.give m e1)

  pub data MarkedAll (V : Facts) : Operands → Operands → Type 0 where
    m_no_operand : MarkedAll V tree.no_operand tree.no_operand
    m_operand_and : {i : ℕ} {e e1 : Exp} {es es1 : Operands} → MarkedExp V e e1 → MarkedAll V es es1 → MarkedAll V (tree.operand_and i e es) (tree.operand_and i e1 es1)

  pub data MarkedMatched (V : Facts) : Scrutinee → Scrutinee → Type 0 where
    m_at_place : {m : Mark} {p : Place} → MarkedMatched V (tree.at_place m p) (tree.at_place m p)
    m_of_value : {e e1 : Exp} → MarkedExp V e e1 → MarkedMatched V (tree.of_value e) (tree.of_value e1)

  pub data MarkedArms (V : Facts) : Arms → Arms → Type 0 where
    m_no_arm : MarkedArms V tree.no_arm tree.no_arm
    m_arm_and : {q : Pattern} {e e1 : Exp} {l l1 : Arms} → MarkedExp V e e1 → MarkedArms V l l1 → MarkedArms V (tree.arm_and q e l) (tree.arm_and q e1 l1)

  pub data MarkedBody (V : Facts) : Body → Body → Type 0 where
    in_block : {b b1 : Body} (ms : List (Point × List ℕ)) → AllWritten V ms → MarkedStatement V b b1 → MarkedBody V b (marks_in ms b1)

  pub data MarkedStatement (V : Facts) : Body → Body → Type 0 where
    m_ends : {e e1 : Exp} → MarkedExp V e e1 → MarkedStatement V (tree.ends e) (tree.ends e1)
    m_runs : {e e1 : Exp} {b b1 : Body} → MarkedExp V e e1 → MarkedBody V b b1 → MarkedStatement V (tree.runs e b) (tree.runs e1 b1)
    m_declares : {s : ℕ} {xs : List ℕ} {b b1 : Body} → MarkedBody V b b1 → MarkedStatement V (tree.declares s xs b) (tree.declares s xs b1)
    m_lets : {s : ℕ} {q : Pattern} {c c1 : Scrutinee} {b b1 : Body} → MarkedMatched V c c1 → MarkedBody V b b1 → MarkedStatement V (tree.lets s q c b) (tree.lets s q c1 b1)

-- ---- programs

abbrev pub no_one : About
no_one = record { special = []; asked = [] }

-- what is known of a function of which no variable is elsewhere
abbrev pub facts_alone : Function → Facts
facts_alone g = facts_of g no_one (λ a h x i. absurd i)

abbrev pub without_turns : Allowance
without_turns = record { turns = 0; strays = false }

-- A function and the one with marks; the first is like itself, as each function of an accepted program is: its variables are told apart.
pub data TreeEntry : Option (Option Function) → Option (Option Function) → Type 0 where
  with_marks : {g g1 : Function} (l : LikeFunction (λ f. f) no_openings without_turns g g) → l.about.special ≡ [] → g1.params ≡ g.params → MarkedExp (facts_alone g1) g.body g1.body → TreeEntry (Some (Some g)) (Some (Some g1))
  without_marks : {g : Function} (l : LikeFunction (λ f. f) no_openings without_turns g g) → l.about.special ≡ [] → TreeEntry (Some (Some g)) (Some (Some g))
  no_function : {o o' : Option (Option Function)} → IsNone o → IsNone o' → TreeEntry o o'

-- the text with marks is the second
pub record MarkedTrees (P T : Program) : Type 0 where
  pub entries : (f : ℕ) → TreeEntry (element P.functions f) (element T.functions f)
  pub mains : T.main ≡ P.main
