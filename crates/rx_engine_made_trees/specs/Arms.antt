-- The match of what the new function gives: an arm for each exit, in the order of the plan (REM, "Extract method": reified control flow; Rust
-- Reference, "match expressions", "break expressions"), as a tree with numbers.
use Rattle.std.specs.Prelude.{◌≡◌, ℕ, suc, Bool, true, false, List, [], ◌∷◌, length, Some}
use Rattle.rx_typed.specs.declared.nodes.Node.{Node}
use Rattle.rx_typed.specs.Types.{named as item}
use Rattle.rx_typed.specs.Named as named
use Rattle.rx_typed.specs.Named.{Arms, Else, Exp, Patterns, Statement, Statements}
use Rattle.rx_typed.specs.Elaborated.{Assigned, has_several}
use Rattle.rx_exits_plan.specs.Points.{breaks, continues, Exit, next, returns}
use Rattle.rx_exits_plan.specs.Asked.{Asked}
use Rattle.rx_exits_plan.specs.Plan.{Plan}
use Rattle.rx_engine_simulation.specs.Sights.{Renaming}
use Rattle.rx_engine_simulation.specs.Jumps.{as_return, Jumping, loop_of}
use Rattle.rx_engine_simulation.specs.Packing.{AreNew, bare}
use Rattle.rx_engine_simulation.specs.Statements.{count}
use Rattle.rx_engine_simulation.specs.Variants.{AllSpecial}
use Rattle.rx_engine_made_trees.specs.Seen.{Distinct}
use Rattle.rx_engine_made_trees.specs.Giving.{GivesThem, NamesVariable, TailGives}
use Rattle.rx_engine_made_trees.specs.Handing.{BindsAll, PutsBack}

-- a jump of the loop `d`, to its next pass or out of it
pub data IsJump (d : ℕ) : Bool → Exp → Type 0 where
  is_break : {n : Node} → IsJump d false (named.break n d)
  is_continue : {n : Node} → IsJump d true (named.continue n d)

-- statements, and one behind them
pub data EndsWith (s : Statement) : Statements → Statements → Type 0 where
  alone : EndsWith s named.no_statement (named.statement_and s named.no_statement)
  behind : {a : Statement} {ss ts : Statements} → EndsWith s ss ts → EndsWith s (named.statement_and a ss) (named.statement_and a ts)

module _ (T : Assigned) (A : Asked) (muts : List Bool) (k : Plan) (R : Renaming) where
  -- the jump, behind what puts these back from where they were received
  pub data JumpsOut (d : ℕ) (again : Bool) : List ℕ → List ℕ → Exp → Type 0 where
    at_once : {e : Exp} → IsJump d again e → JumpsOut d again [] [] e
    in_block : {xs qs : List ℕ} {n m j : Node} {e : Exp} {ss ts : Statements} → IsJump d again e → PutsBack T A muts k R xs qs ss → EndsWith (named.evaluates j e true) ss ts
        → JumpsOut d again xs qs (named.block n (named.body m ts named.absent))

  -- where the run's function gives the unit, or not, and the run has a value, or not
  pub data ArmDoes (unit has : Bool) (J : Jumping) : Exit → List ℕ → Exp → Type 0 where
    goes_on : {qs : List ℕ} {e : Exp} → GivesThem T bare qs e → length qs ≡ count has (k.outs next) → ArmDoes unit has J next qs e
    does_break : {n d : ℕ} {qs : List ℕ} {e : Exp} → loop_of J.loops n ≡ Some d → Distinct (k.outs (breaks n)) → AllSpecial R (k.outs (breaks n)) → JumpsOut d false (k.outs (breaks n)) qs e → ArmDoes unit has J (breaks n) qs e
    does_continue : {n d : ℕ} {qs : List ℕ} {e : Exp} → loop_of J.loops n ≡ Some d → Distinct (k.outs (continues n)) → AllSpecial R (k.outs (continues n)) → JumpsOut d true (k.outs (continues n)) qs e → ArmDoes unit has J (continues n) qs e
    does_return : {n : Node} {o : Else} → unit ≡ true → J.returning ≡ as_return → TailGives T bare [] o → ArmDoes unit has J returns [] (named.return n o)
    returns_value : {n : Node} {q : ℕ} {e : Exp} → unit ≡ false → J.returning ≡ as_return → NamesVariable T q e → ArmDoes unit has J returns (q ∷ []) (named.return n (named.present e))

  -- variants from a number on, of an enum that is no reference; one of several is tested
  pub data ArmsFor (unit has : Bool) (J : Jumping) : ℕ → List Exit → Arms → Type 0 where
    no_arms : {v : ℕ} → ArmsFor unit has J v [] named.no_arm
    an_arm : {v i : ℕ} {p : Node} {ps : Patterns} {e : Exp} {l : Arms} {x : Exit} {xs : List Exit} (qs : List ℕ) → T.typ p.number ≡ item i → ((y : Exit) (ys : List Exit) → xs ≡ y ∷ ys → has_several T.items i ≡ true)
        → BindsAll qs ps → AreNew R qs → ArmDoes unit has J x qs e → ArmsFor unit has J (suc v) xs l → ArmsFor unit has J v (x ∷ xs) (named.arm_and (named.variant_pattern p i v ps) e l)
