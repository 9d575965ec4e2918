-- Typed parts of two programs that are alike: congruence over the forms of the typed tree (Rust Reference, "Expressions",
-- "Statements"), with openings for what is special. The numbers of nodes, items, loops and variables are renamed; types are not
-- looked at, nor is whether a read moves.
use Rattle.std.specs.Prelude.{◌≡◌, ℕ, ◌+◌, ◌≤◌, Bool, true, false, List, [], ◌∷◌, Some, None}
use Rattle.rx_core.specs.declared.types.Step.TheVariants as step
use Rattle.rx_tree.specs.declared.tree.BinaryOp.{BinaryOp}
use Rattle.rx_typed.specs.Tree as tree
use Rattle.rx_typed.specs.Tree.{Place, Pattern, Mark, Making, Exp, Operands, Scrutinee, Arms, Body, fields_of, own, under}
use Rattle.rx_lower_walks.specs.Matching.{tests, bindings}
use Rattle.rx_lower_walks.specs.Actions.{subject}
use Rattle.rx_engine_simulation.specs.Fits.{Complete, Fitting}
use Rattle.rx_engine_simulation.specs.Turns.{Allowance}
use Rattle.rx_engine_simulation.specs.Histories.{Facts}
use Rattle.rx_engine_simulation.specs.Sights.{viewed, sight, Renaming, sight_of}
use Rattle.rx_engine_simulation.specs.Jumps.{as_return, Jumping, in_loop, loop_of}
use Rattle.rx_engine_simulation.specs.Places.{looking, writing, LikePlace, use_of}
use Rattle.rx_engine_simulation.specs.Binders.{LikeDeclared, LikeBindings, AreBehind, LikeTests}
use Rattle.rx_engine_simulation.specs.Openings.{Openings}

-- With the items of the answer for those of the text, and the credit that each turn gives. The first number is the credit of
-- the part: how many further turns the answer may take in it, loops and calls apart.
mutual
  pub data LikeExp (items : ℕ → ℕ) (O : Openings) (gain : Allowance) (V : Facts) : ℕ → Jumping → Renaming → Exp → Exp → Type 0 where
    opens : {k : ℕ} {J : Jumping} {R : Renaming} {e e' : Exp} {f f' : Exp → Exp} (a i : ℕ) → a + i ≤ k → O.expression V a J R e f f' → LikeExp items O gain V i J R e e' → LikeExp items O gain V k J R (f e) (f' e')
    reads : {k : ℕ} {J : Jumping} {R : Renaming} {m m' : Mark} {v v' : Bool} {p p' : Place} → LikePlace R looking p p' → LikeExp items O gain V k J R (tree.read m v p) (tree.read m' v' p')
    borrows : {k : ℕ} {J : Jumping} {R : Renaming} {m m' : Mark} {b : Bool} {p p' : Place} → LikePlace R (use_of b) p p' → LikeExp items O gain V k J R (tree.borrow m b p) (tree.borrow m' b p')
    -- a reference asked for again, where the answer has a shared one
    views : {k x y : ℕ} {J : Jumping} {R : Renaming} {m m' : Mark} {n moves : Bool} → sight_of R x ≡ Some (sight y viewed) → LikeExp items O gain V k J R (tree.borrow m false (under (own x) (step.Deref n ∷ []))) (tree.read m' moves (own y))
    shares : {k : ℕ} {J : Jumping} {R : Renaming} {m m' : Mark} {e e' : Exp} → LikeExp items O gain V k J R e e' → LikeExp items O gain V k J R (tree.share m e) (tree.share m' e')
    builds : {k : ℕ} {J : Jumping} {R : Renaming} {m m' : Mark} {w : Making} {es es' : Operands} → Fitting w (fields_of es) → LikeAll items O gain V k J R es es' → LikeExp items O gain V k J R (tree.build m w es) (tree.build m' w es')
    -- a value doesn't say which item its struct or enum is
    builds_structs : {k n n' : ℕ} {J : Jumping} {R : Renaming} {m m' : Mark} {es es' : Operands} → Complete (fields_of es) → LikeAll items O gain V k J R es es' → LikeExp items O gain V k J R (tree.build m (tree.struct n) es) (tree.build m' (tree.struct n') es')
    builds_variants : {k n n' v : ℕ} {J : Jumping} {R : Renaming} {m m' : Mark} {es es' : Operands} → Complete (fields_of es) → LikeAll items O gain V k J R es es' → LikeExp items O gain V k J R (tree.build m (tree.variant_of n v) es) (tree.build m' (tree.variant_of n' v) es')
    units : {k : ℕ} {J : Jumping} {R : Renaming} {m m' : Mark} → LikeExp items O gain V k J R (tree.unit m) (tree.unit m')
    lazies : {k : ℕ} {J : Jumping} {R : Renaming} {m m' : Mark} {b : Bool} {e f e' f' : Exp} (i j : ℕ) → i + j ≤ k → LikeExp items O gain V i J R e e' → LikeExp items O gain V j J R f f' → LikeExp items O gain V k J R (tree.lazily m b e f) (tree.lazily m' b e' f')
    assigns : {k : ℕ} {J : Jumping} {R : Renaming} {m m' : Mark} {p p' : Place} {e e' : Exp} → LikePlace R writing p p' → LikeExp items O gain V k J R e e' → LikeExp items O gain V k J R (tree.assign m p e) (tree.assign m' p' e')
    updates : {k : ℕ} {J : Jumping} {R : Renaming} {m m' : Mark} {o : BinaryOp} {p p' : Place} {e e' : Exp} → LikePlace R looking p p' → LikePlace R writing p p' → LikeExp items O gain V k J R e e' → LikeExp items O gain V k J R (tree.update m o p e) (tree.update m' o p' e')
    calls : {k f : ℕ} {J : Jumping} {R : Renaming} {m m' : Mark} {es es' : Operands} → LikeAll items O gain V k J R es es' → LikeExp items O gain V k J R (tree.call m f es) (tree.call m' (items f) es')
    inputs : {k : ℕ} {J : Jumping} {R : Renaming} {m m' : Mark} → LikeExp items O gain V k J R (tree.input m) (tree.input m')
    prints : {k : ℕ} {J : Jumping} {R : Renaming} {m m' : Mark} {e e' : Exp} → LikeExp items O gain V k J R e e' → LikeExp items O gain V k J R (tree.print m e) (tree.print m' e')
    blocks : {k : ℕ} {J : Jumping} {R : Renaming} {m m' : Mark} {b b' : Body} → LikeBody items O gain V k J R b b' → LikeExp items O gain V k J R (tree.block m b) (tree.block m' b')
    chooses : {k : ℕ} {J : Jumping} {R : Renaming} {m m' : Mark} {c c' : Scrutinee} {l l' : Arms} (i j : ℕ) → i + j ≤ k → LikeMatched items O gain V i J R c c' → LikeArms items O gain V j J R c c' l l' → LikeExp items O gain V k J R (tree.choose m c l) (tree.choose m' c' l')
    -- the answer's loop is none of those around; a pass has the credit of its turn
    loops : {k l l' : ℕ} {J : Jumping} {R : Renaming} {m m' : Mark} {e e' : Exp} → ((n : ℕ) → loop_of J.loops n ≡ Some l' → ⊥) → J.leaving l true ≡ None → J.leaving l false ≡ None
        → LikeExp items O gain V gain.turns (in_loop J l l') R e e' → LikeExp items O gain V k J R (tree.loop m l e) (tree.loop m' l' e')
    stays : {k l l' : ℕ} {J : Jumping} {R : Renaming} {m m' : Mark} {again : Bool} → loop_of J.loops l ≡ Some l' → LikeExp items O gain V k J R (tree.jump m l again) (tree.jump m' l' again)
    gives : {k : ℕ} {J : Jumping} {R : Renaming} {m m' : Mark} {e e' : Exp} → J.returning ≡ as_return → LikeExp items O gain V k J R e e' → LikeExp items O gain V k J R (tree.give m e) (tree.give m' e')

  pub data LikeAll (items : ℕ → ℕ) (O : Openings) (gain : Allowance) (V : Facts) : ℕ → Jumping → Renaming → Operands → Operands → Type 0 where
    no_operands : {k : ℕ} {J : Jumping} {R : Renaming} → LikeAll items O gain V k J R tree.no_operand tree.no_operand
    operands_and : {k n : ℕ} {J : Jumping} {R : Renaming} {e e' : Exp} {es es' : Operands} (i j : ℕ) → i + j ≤ k → LikeExp items O gain V i J R e e' → LikeAll items O gain V j J R es es'
        → LikeAll items O gain V k J R (tree.operand_and n e es) (tree.operand_and n e' es')

  -- the place of a scrutinee is related where its arms look at it
  pub data LikeMatched (items : ℕ → ℕ) (O : Openings) (gain : Allowance) (V : Facts) : ℕ → Jumping → Renaming → Scrutinee → Scrutinee → Type 0 where
    at_places : {k : ℕ} {J : Jumping} {R : Renaming} {m m' : Mark} {p p' : Place} → LikeMatched items O gain V k J R (tree.at_place m p) (tree.at_place m' p')
    of_values : {k : ℕ} {J : Jumping} {R : Renaming} {e e' : Exp} → LikeExp items O gain V k J R e e' → LikeMatched items O gain V k J R (tree.of_value e) (tree.of_value e')

  pub data LikeArms (items : ℕ → ℕ) (O : Openings) (gain : Allowance) (V : Facts) : ℕ → Jumping → Renaming → Scrutinee → Scrutinee → Arms → Arms → Type 0 where
    no_arms : {k : ℕ} {J : Jumping} {R : Renaming} {c c' : Scrutinee} → LikeArms items O gain V k J R c c' tree.no_arm tree.no_arm
    arms_and : {k : ℕ} {J : Jumping} {R : Renaming} {c c' : Scrutinee} {q q' : Pattern} {e e' : Exp} {l l' : Arms} (Ra : Renaming) → LikeTests R (subject c) (subject c') (tests [] q) (tests [] q')
        → LikeBindings V (subject c) (subject c') R (bindings [] q) (bindings [] q') Ra → LikeExp items O gain V k J Ra e e' → LikeArms items O gain V k J R c c' l l'
        → LikeArms items O gain V k J R c c' (tree.arm_and q e l) (tree.arm_and q' e' l')

  pub data LikeBody (items : ℕ → ℕ) (O : Openings) (gain : Allowance) (V : Facts) : ℕ → Jumping → Renaming → Body → Body → Type 0 where
    opens_in : {k : ℕ} {J : Jumping} {R Ra : Renaming} {b b' : Body} {f f' : Body → Body} (a i : ℕ) → a + i ≤ k → O.statements V a J R Ra b f f' → LikeBody items O gain V i J Ra b b' → LikeBody items O gain V k J R (f b) (f' b')
    ends_in : {k : ℕ} {J : Jumping} {R : Renaming} {e e' : Exp} → LikeExp items O gain V k J R e e' → LikeBody items O gain V k J R (tree.ends e) (tree.ends e')
    runs_on : {k : ℕ} {J : Jumping} {R : Renaming} {e e' : Exp} {b b' : Body} (i j : ℕ) → i + j ≤ k → LikeExp items O gain V i J R e e' → LikeBody items O gain V j J R b b'
        → LikeBody items O gain V k J R (tree.runs e b) (tree.runs e' b')
    declares_all : {k s s' : ℕ} {J : Jumping} {R : Renaming} {xs ys : List ℕ} {b b' : Body} (Ra : Renaming) → LikeDeclared V R xs ys Ra → LikeBody items O gain V k J Ra b b'
        → LikeBody items O gain V k J R (tree.declares s xs b) (tree.declares s' ys b')
    lets_in : {k s s' : ℕ} {J : Jumping} {R : Renaming} {q q' : Pattern} {c c' : Scrutinee} {b b' : Body} (Ra : Renaming) (i j : ℕ) → i + j ≤ k → LikeMatched items O gain V i J R c c'
        → LikeBindings V (subject c) (subject c') R (bindings [] q) (bindings [] q') Ra → LikeBody items O gain V j J Ra b b' → LikeBody items O gain V k J R (tree.lets s q c b) (tree.lets s' q' c' b')
    -- a place that a variable is bound to is read
    reads_place : {k s' n z y : ℕ} {J : Jumping} {R : Renaming} {m m' : Mark} {v w : Bool} {b b' : Body} → LikeBody items O gain V k J R b (tree.lets s' (tree.bind n z (tree.by_value v)) (tree.of_value (tree.read m' w (own y))) b')
        → LikeBody items O gain V k J R b (tree.lets s' (tree.bind n z (tree.by_value v)) (tree.at_place m (own y)) b')
    -- a pattern looks behind the reference in a place
    looks_behind : {k s' y : ℕ} {J : Jumping} {R : Renaming} {m m' : Mark} {w : Bool} {q' : Pattern} {b b' : Body} (x : ℕ) → sight_of R x ≡ Some (sight y viewed) → AreBehind y (bindings [] q') → LikeBody items O gain V k J R b (tree.lets s' q' (tree.of_value (tree.read m' w (own y))) b')
        → LikeBody items O gain V k J R b (tree.lets s' q' (tree.at_place m (own y)) b')
