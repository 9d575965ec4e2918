-- The run's function in the answer is the text's by other numbers but for the block of the run (Rust Reference, "Block expressions"): there
-- the text's statements, with the marks of the run, are related to the answer's.
use Rattle.std.specs.Prelude.{◌≡◌, ℕ, ◌==◌, Bool, true, List}
use Rattle.rx_typed.specs.Tree as tree
use Rattle.rx_typed.specs.Tree.{Mark, Exp, Body}
use Rattle.rx_exits_plan.specs.Asked.{Asked}
use Rattle.rx_exits_plan.specs.Plan.{Plan}
use Rattle.rx_engine_simulation.specs.Turns.{Allowance}
use Rattle.rx_engine_simulation.specs.Sights.{Renaming}
use Rattle.rx_engine_simulation.specs.Jumps.{Jumping}
use Rattle.rx_engine_simulation.specs.Openings.{Openings}
use Rattle.rx_engine_simulation.specs.Like.{LikeBody}
use Rattle.rx_engine_related.specs.AboutRun.{special_of}
use Rattle.rx_engine_related.specs.Running.{running_body}
use Rattle.rx_engine_related.specs.ByForm.{by_form}

-- with such openings in it
pub data RunBlock (A : Asked) (muts : List Bool) (k : Plan) (items : ℕ → ℕ) (O : Openings) (gain : Allowance) : ℕ → Jumping → Renaming → (Exp → Exp) → (Exp → Exp) → Type 0 where
  run_block : {a : ℕ} {J : Jumping} {R : Renaming} {m m' : Mark} {b b' : Body} → (m.node == A.run.block) ≡ true → LikeBody items O gain (by_form (special_of A muts k)) a J R (running_body A.run A.home.around.loops k.params b) b'
      → RunBlock A muts k items O gain a J R (λ e. tree.block m b) (λ e. tree.block m' b')

abbrev pub in_its_block : Asked → List Bool → Plan → (ℕ → ℕ) → Openings → Allowance → Openings
in_its_block A muts k items O gain = record {
  expression = λ V a J R e f g. RunBlock A muts k items O gain a J R f g;
  statements = λ V a J R S b f g. ⊥;
}
