-- Typed trees of the new function that are those of the text as far as initialisation goes, by what is in scope: a congruence over the forms of
-- the typed tree, whose reads, borrows, tests and writes are copies, with openings where orders are known to match. (Rust Reference,
-- "Expressions", "Statements".)
use Rattle.std.specs.Prelude.{◌≡◌, ℕ, Bool, false, List, [], ◌∷◌}
use Rattle.rx_tree.specs.declared.tree.BinaryOp.{BinaryOp}
use Rattle.rx_typed.specs.Tree as tree
use Rattle.rx_typed.specs.Tree.{Place, Pattern, Mark, Making, Temporary, Exp, Operands, Scrutinee, Arms, Body, Function}
use Rattle.rx_lower_walks.specs.Matching.{tests, bindings}
use Rattle.rx_lower_walks.specs.Actions.{Read, Write, Borrow, Subject, subject}
use Rattle.rx_lower_walks.specs.Orders.{order, order_body}
use Rattle.rx_lower_walks.specs.Walks.{Among}
use Rattle.rx_engine_initial.specs.Matching.{Matches}
use Rattle.rx_engine_initial.specs.Variables.{Sides, KnownVariables}
use Rattle.rx_engine_initial.specs.Copies.{IsCopy, InsideSo, world}
use Rattle.rx_engine_initial_forms.specs.Binders.{AlikeDeclared, AlikeParams, AlikeBindings, AlikeTests}

-- the new function's, and the text's
mutual
  pub data AlikeExp (S : Sides) : KnownVariables S → Exp → Exp → Type 0 where
    is_opened : {R : KnownVariables S} {e f : Exp} → ((d t : Temporary) → Matches (world S) R (order e d) (order f t)) → AlikeExp S R e f
    reads : {R : KnownVariables S} {m n : Mark} {v u : Bool} {p q : Place} → ((d t : Temporary) → IsCopy R.variables (Read v p d) (Read u q t)) → AlikeExp S R (tree.read m v p) (tree.read n u q)
    borrows : {R : KnownVariables S} {m n : Mark} {v u : Bool} {p q : Place} → ((d t : Temporary) → IsCopy R.variables (Borrow v p d) (Borrow u q t)) → AlikeExp S R (tree.borrow m v p) (tree.borrow n u q)
    shares : {R : KnownVariables S} {m n : Mark} {e f : Exp} → AlikeExp S R e f → AlikeExp S R (tree.share m e) (tree.share n f)
    builds : {R : KnownVariables S} {m n : Mark} {w z : Making} {es fs : Operands} → AlikeAll S R es fs → AlikeExp S R (tree.build m w es) (tree.build n z fs)
    units : {R : KnownVariables S} {m n : Mark} → AlikeExp S R (tree.unit m) (tree.unit n)
    lazies : {R : KnownVariables S} {m n : Mark} {b c : Bool} {e f g h : Exp} → AlikeExp S R e f → AlikeExp S R g h → AlikeExp S R (tree.lazily m b e g) (tree.lazily n c f h)
    assigns : {R : KnownVariables S} {m n : Mark} {p q : Place} {e f : Exp} → ((d t : Temporary) → IsCopy R.variables (Write p d []) (Write q t [])) → AlikeExp S R e f
        → AlikeExp S R (tree.assign m p e) (tree.assign n q f)
    updates : {R : KnownVariables S} {m n : Mark} {o a : BinaryOp} {p q : Place} {e f : Exp} → ((d t : Temporary) → IsCopy R.variables (Read false p d) (Read false q t))
        → ((d t : Temporary) → IsCopy R.variables (Write p d []) (Write q t [])) → AlikeExp S R e f → AlikeExp S R (tree.update m o p e) (tree.update n a q f)
    calls : {R : KnownVariables S} {m n : Mark} {i j : ℕ} {es fs : Operands} → AlikeAll S R es fs → AlikeExp S R (tree.call m i es) (tree.call n j fs)
    inputs : {R : KnownVariables S} {m n : Mark} → AlikeExp S R (tree.input m) (tree.input n)
    prints : {R : KnownVariables S} {m n : Mark} {e f : Exp} → AlikeExp S R e f → AlikeExp S R (tree.print m e) (tree.print n f)
    blocks : {R : KnownVariables S} {m n : Mark} {b c : Body} → AlikeBody S R b c → AlikeExp S R (tree.block m b) (tree.block n c)
    chooses : {R : KnownVariables S} {m n : Mark} {s t : Scrutinee} {l k : Arms} → AlikeMatched S R s t → AlikeArms S (subject s) (subject t) R l k → AlikeExp S R (tree.choose m s l) (tree.choose n t k)
    loops : {R T : KnownVariables S} {m n : Mark} {l k : ℕ} {e f : Exp} → InsideSo S R T l k → AlikeExp S T e f → AlikeExp S R (tree.loop m l e) (tree.loop n k f)
    jumps : {R : KnownVariables S} {m n : Mark} {l k : ℕ} (again : Bool) → Among (l, k) R.loops → AlikeExp S R (tree.jump m l again) (tree.jump n k again)
    gives : {R : KnownVariables S} {m n : Mark} {e f : Exp} → AlikeExp S R e f → AlikeExp S R (tree.give m e) (tree.give n f)

  pub data AlikeAll (S : Sides) : KnownVariables S → Operands → Operands → Type 0 where
    no_operands : {R : KnownVariables S} → AlikeAll S R tree.no_operand tree.no_operand
    operands_and : {R : KnownVariables S} {i j : ℕ} {e f : Exp} {es fs : Operands} → AlikeExp S R e f → AlikeAll S R es fs → AlikeAll S R (tree.operand_and i e es) (tree.operand_and j f fs)

  pub data AlikeMatched (S : Sides) : KnownVariables S → Scrutinee → Scrutinee → Type 0 where
    at_places : {R : KnownVariables S} {m n : Mark} {p q : Place} → AlikeMatched S R (tree.at_place m p) (tree.at_place n q)
    of_values : {R : KnownVariables S} {e f : Exp} → AlikeExp S R e f → AlikeMatched S R (tree.of_value e) (tree.of_value f)

  pub data AlikeArms (S : Sides) : Subject → Subject → KnownVariables S → Arms → Arms → Type 0 where
    no_arms : {X Y : Subject} {R : KnownVariables S} → AlikeArms S X Y R tree.no_arm tree.no_arm
    arms_and : {X Y : Subject} {R T : KnownVariables S} {p q : Pattern} {e f : Exp} {l k : Arms} → AlikeTests R.variables X Y (tests [] p) (tests [] q) → AlikeBindings S X Y R (bindings [] p) (bindings [] q) T
        → AlikeExp S T e f → AlikeArms S X Y R l k → AlikeArms S X Y R (tree.arm_and p e l) (tree.arm_and q f k)

  pub data AlikeBody (S : Sides) : KnownVariables S → Body → Body → Type 0 where
    is_opened_body : {R : KnownVariables S} {b c : Body} → ((m n : ℕ) (d t : Temporary) → Matches (world S) R (order_body b m d) (order_body c n t)) → AlikeBody S R b c
    ends_in : {R : KnownVariables S} {e f : Exp} → AlikeExp S R e f → AlikeBody S R (tree.ends e) (tree.ends f)
    runs_on : {R : KnownVariables S} {e f : Exp} {b c : Body} → AlikeExp S R e f → AlikeBody S R b c → AlikeBody S R (tree.runs e b) (tree.runs f c)
    declares_all : {R T : KnownVariables S} {s t : ℕ} {xs ys : List ℕ} {b c : Body} → AlikeDeclared S R xs ys T → AlikeBody S T b c → AlikeBody S R (tree.declares s xs b) (tree.declares t ys c)
    lets_in : {R T : KnownVariables S} {i j : ℕ} {p q : Pattern} {s t : Scrutinee} {b c : Body} → AlikeMatched S R s t → AlikeBindings S (subject s) (subject t) R (bindings [] p) (bindings [] q) T
        → AlikeBody S T b c → AlikeBody S R (tree.lets i p s b) (tree.lets j q t c)

-- whole functions: the new one, and the text's
pub record AlikeFunction (S : Sides) (f : Function) : Type 0 where
  pub outside : KnownVariables S
  pub nothing : outside.variables ≡ []
  pub inside : KnownVariables S
  pub params : AlikeParams S outside f.params S.text.params inside
  pub body : AlikeExp S inside f.body S.text.body
