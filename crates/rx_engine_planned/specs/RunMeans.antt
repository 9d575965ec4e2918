-- What is asked besides of the names in a run where it is entered (Rust Reference, "Scopes", "Shadowing"): those of params and locals mean
-- variables, what the run names is its own or one of these, and what it hands out is there.
use Rattle.std.specs.Prelude.{◌≡◌, ℕ, true, false, not, ◌&&◌, ◌||◌, List, [], ◌++◌, Some}
use Rattle.rx_tree.specs.Lists.{Every}
use Rattle.rx_resolve_names.specs.Scopes.{variable_named}
use Rattle.rx_typed.specs.Types.{Typ}
use Rattle.rx_hoist_extraction.specs.Names.{behind_all, is_among, Names}
use Rattle.rx_hoist_extraction.specs.Run.{as_statements, Parts}
use Rattle.rx_hoist_extraction.specs.Plan.{has_exit, names_of, outs_of, to_next}
use Rattle.rx_hoist_extraction.specs.Moved.{referred}
use Rattle.rx_engine_names.specs.Moves.{rounds, Moves}
use Rattle.rx_engine_names.specs.NewFunction.{param_names}
use Rattle.rx_engine_names.specs.NewPlan.{run_claims}
use Rattle.rx_engine_names.specs.Within.{OptionalWithin, StatementsWithin}

-- what the end hands out is declared by the run, or a param or local by value
abbrev pub IsThere : Moves → Names → List ℕ → Type 0
IsThere V own y = ((is_among y own || is_among y V.known) ≡ true) × ((not (is_among y own) && is_among y (referred V.plan.params)) ≡ false)

pub record RunMeans (V : Moves) (run : Parts) : Type 0 where
  pub meant : Every (λ (x : List ℕ). (n : ℕ) × (variable_named V.scope x ≡ Some n)) (param_names V.plan.params ++ names_of V.plan.locals)
  pub reached : (t : Typ) → V.plan.value ≡ Some t → has_exit to_next V.plan.exits ≡ true
  pub handed : Every (IsThere V (behind_all [] (as_statements run.statements))) (names_of (outs_of to_next V.plan.exits))
  pub names : StatementsWithin (run_claims V) [] (rounds V) (as_statements run.statements)
  pub tail_names : OptionalWithin (run_claims V) (behind_all [] (as_statements run.statements)) (rounds V) run.tail
