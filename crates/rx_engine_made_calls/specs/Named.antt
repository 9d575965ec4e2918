-- An exit of a plan by numbers, as it is told by names: what it hands out, and the loop that it leaves (REM, "Extract method": reified control flow).
use Rattle.std.specs.Prelude.{◌≡◌, ℕ, Bool, true, List, Some}
use Rattle.rx_typed.specs.Types.{Typ}
use Rattle.rx_hoist_extraction.specs.Names.{Names}
use Rattle.rx_hoist_naming.specs.NamedPlan.{named_variable}
use Rattle.rx_typeck_elaborate_parts.specs.Assigning.{shape_of}
use Rattle.rx_typeck_solver.specs.declared.facts.Subject.TheVariants as subject
use Rattle.rx_typeck_solver.specs.Facts.{Assignment}
use Rattle.rx_typeck_typed.specs.declared.typed.TypedFn.{TypedFn}
use Rattle.rx_typeck_typed.specs.Typing.{type_at}
use Rattle.rx_exits_plan.specs.Asked.{Asked}
use Rattle.rx_exits_plan.specs.declared.plan.Exit.{Exit}
use Rattle.rx_exits_plan.specs.declared.plan.Exit.TheVariants as exit
use Rattle.rx_exits_plan.specs.Plan.{Plan}
use Rattle.rx_exits_plan.specs.Points.{breaks, continues, next}
use Rattle.rx_engine_names.specs.Renaming.{Renaming as Pairing}
use Rattle.rx_engine_names.specs.HandedOut.{Handing}
use Rattle.rx_engine_blocks.specs.Renumbering.{Renumbering}
use Rattle.rx_engine_simulation.specs.Sights.{In, Renaming}
use Rattle.rx_engine_simulation.specs.Jumps.{as_return, loop_of, Jumping}
use Rattle.rx_engine_simulation.specs.Variants.{AllSpecial}
use Rattle.rx_engine_made_trees.specs.Seen.{Distinct}
use Rattle.rx_engine_made_calls.specs.Plans.{GoesBack}

-- the type of a variable in the function's tables
abbrev pub type_of_variable : TypedFn → ℕ → Typ
type_of_variable t x = shape_of (type_at t (subject.Variable x))

module _ (ns : Names) (t : TypedFn) (G : Handing) (N : Pairing) (q : Renumbering) (W : Assignment) (A : Asked) (muts : List Bool) (k : Plan) (R : Renaming) (J : Jumping) (ls : List ℕ) where
  -- what jumps hand out goes back to the variables outside
  abbrev pub AllGoBack : List ℕ → Type 0
  AllGoBack outs = (x : ℕ) → In x outs → GoesBack G N q W A muts k R (named_variable ns t x) x

  -- `ls` are the loops round the run
  pub data ExitTold : Exit → List ℕ → Type 0 where
    told_next : {outs : List ℕ} → outs ≡ k.outs next → ExitTold exit.Next outs
    told_break : {l : ℕ} {outs : List ℕ} → outs ≡ k.outs (breaks l) → In l ls → ((d : ℕ) → N.loop l d ≡ true → loop_of J.loops l ≡ Some d) → Distinct (k.outs (breaks l)) → AllSpecial R (k.outs (breaks l)) → AllGoBack outs → ExitTold (exit.Break l) outs
    told_continue : {l : ℕ} {outs : List ℕ} → outs ≡ k.outs (continues l) → In l ls → ((d : ℕ) → N.loop l d ≡ true → loop_of J.loops l ≡ Some d) → Distinct (k.outs (continues l)) → AllSpecial R (k.outs (continues l)) → AllGoBack outs → ExitTold (exit.Continue l) outs
    told_return : {outs : List ℕ} → J.returning ≡ as_return → ExitTold exit.Return outs
