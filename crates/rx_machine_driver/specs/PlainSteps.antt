-- What the code's steps stand for.
use Rattle.std.specs.Prelude.{true, false, List, [], ◌∷◌, map}
use Rattle.rx_core.specs.declared.types.Step.TheVariants.{Deref}
use Rattle.rx_typed.specs.Tree.{Body, lazy, temporary_place, under, temporary_at}
use Rattle.rx_lower_walks.specs.Actions as actions
use Rattle.rx_lower_walks.specs.Actions.{in_place, in_temporary}
use Rattle.rx_lower_walks.specs.Orders as orders
use Rattle.rx_typed.specs.declared.tree.Stmt.{Stmt}
use Rattle.rx_typed.specs.declared.tree.Expr.{Expr}
use Rattle.rx_typed.specs.declared.tree.Arm.{Arm}
use Rattle.rx_typed.specs.declared.tree.Operand.{Operand}
use Rattle.rx_typed.specs.PlainTree.{plain-Mark, plain-Place, plain-Making, plain-Pattern, plain-Expr, plain-Stmt, plain-Arm, plain-Operand, operands_of, arms_of, nested_of}
use Rattle.rx_typed.specs.Tree.{Operands, no_operand, operand_and, Arms}
use Rattle.rx_meaning.specs.Values as values
use Rattle.rx_machine_running.specs.Running.{nowhere}
use Rattle.rx_machine_values.specs.PlainValues.{plain-Value}
use Rattle.rx_machine_actions.specs.PlainActs.{written_fields}
use Rattle.rx_machine_frames.specs.Frames as frames
use Rattle.rx_machine_driver.specs.declared.next.Work.{Work}
use Rattle.rx_machine_driver.specs.declared.next.Work.TheVariants as work
use Rattle.rx_machine_driver.specs.declared.next.Subject.{Subject}
use Rattle.rx_machine_driver.specs.declared.next.Subject.TheVariants as subject
use Rattle.rx_machine_driver.specs.declared.next.Exit.{Exit}
use Rattle.rx_machine_driver.specs.declared.next.Exit.TheVariants as exit
use Rattle.rx_machine_driver.specs.declared.next.Hole.{Hole}
use Rattle.rx_machine_driver.specs.declared.next.Hole.TheVariants as hole
use Rattle.rx_machine_driver.specs.declared.next.Next.{Next}
use Rattle.rx_machine_driver.specs.declared.next.Next.TheVariants as next

abbrev pub rest_of : List Stmt → Expr → Body
rest_of ss e = nested_of (map plain-Stmt ss) (plain-Expr e)

abbrev pub arms_in : List Arm → Arms
arms_in l = arms_of (map plain-Arm l)

abbrev pub operands_in : List Operand → Operands
operands_in es = operands_of (map plain-Operand es)

abbrev pub plain-Work : Work → frames.Work
plain-Work (work.Makes w es) = frames.makes (plain-Making w) (written_fields es.now)
plain-Work (work.Calls f) = frames.calls f

-- the first of the operands that are left, or what is done with their values
abbrev pub next_operand : frames.Work → List values.Value → Operands → frames.Next
next_operand w vs no_operand = frames.finishes w vs
next_operand w vs (operand_and i e es) = frames.part (frames.operand w vs es) e

-- what is matched, and the values that are held of it
abbrev pub plain-Subject : Subject → actions.Subject
plain-Subject (subject.Place p) = in_place (plain-Place p.now)
plain-Subject (subject.Held n v) = in_temporary (temporary_at n 0)

abbrev pub held_of : Subject → List values.Value
held_of (subject.Place p) = []
held_of (subject.Held n v) = plain-Value v ∷ []

abbrev pub plain-Exit : Exit → orders.Exit
plain-Exit (exit.Breaks n l) = orders.breaks n l
plain-Exit (exit.Continues n l) = orders.continues n l
plain-Exit (exit.Returns n) = orders.returns n

abbrev pub plain-Hole : Hole → frames.Hole
plain-Hole (hole.Operand w vs es) = frames.operand (plain-Work w) (map plain-Value vs) (operands_in es.now)
plain-Hole hole.Shares = frames.shares
plain-Hole (hole.FirstOf b f) = frames.first_of b (plain-Expr f.now)
plain-Hole hole.SecondOf = frames.second_of
plain-Hole (hole.Assigns p) = frames.assigns (plain-Place p.now)
plain-Hole (hole.Updates o p) = frames.updates o (plain-Place p.now)
plain-Hole hole.Prints = frames.prints
plain-Hole (hole.GivesBack n) = frames.gives_back n
plain-Hole (hole.Scrutinee n l) = frames.scrutinee (in_temporary (temporary_at n 0)) (arms_in l.now)
plain-Hole (hole.Statement ss e) = frames.statement (rest_of ss.now e.now)
plain-Hole (hole.Initialiser n p ss e) = frames.initialiser (in_temporary (temporary_at n 0)) (plain-Pattern p.now) (rest_of ss.now e.now)

abbrev pub plain-Next : Next → frames.Next
plain-Next (next.GoesInto e) = frames.goes_into (plain-Expr e.now)
plain-Next (next.Part h e) = frames.part (plain-Hole h) (plain-Expr e.now)
plain-Next (next.Gives v) = frames.gives (plain-Value v)
plain-Next (next.Reads m p) = frames.performs (actions.Read m (plain-Place p.now) nowhere) []
plain-Next (next.Borrows k p) = frames.performs (actions.Borrow k (plain-Place p.now) nowhere) []
plain-Next (next.Shares v) = frames.performs (actions.Borrow false (under (temporary_place nowhere) (Deref true ∷ [])) nowhere) (plain-Value v ∷ [])
plain-Next (next.Writes p v) = frames.performs (actions.Write (plain-Place p.now) nowhere []) (plain-Value v ∷ [])
plain-Next (next.Prints v) = frames.performs (actions.Print nowhere) (plain-Value v ∷ [])
plain-Next next.Inputs = frames.performs (actions.Input nowhere) []
plain-Next (next.Settles v) = frames.performs (actions.Build lazy [] [] nowhere) (plain-Value v ∷ [])
plain-Next (next.Finishes w vs) = frames.finishes (plain-Work w) (map plain-Value vs)
plain-Next (next.RunsBody ss e) = frames.runs_body (rest_of ss.now e.now)
plain-Next (next.Tries s l) = frames.tries (plain-Subject s) (held_of s) (arms_in l.now)
plain-Next (next.Binds s p ss e) = frames.binds (plain-Subject s) (held_of s) (plain-Pattern p.now) (rest_of ss.now e.now)
plain-Next (next.Begins xs ss e) = frames.begins xs.now (rest_of ss.now e.now)
plain-Next (next.Loops m l e) = frames.loops (plain-Mark m.now) l (plain-Expr e.now)
plain-Next (next.Leaves x v) = frames.leaves (plain-Exit x) (plain-Value v)
plain-Next (next.Decides b v f) = frames.decides b (plain-Value v) (plain-Expr f.now)
plain-Next (next.Modifies o p v) = frames.modifies o (plain-Place p.now) (plain-Value v)
