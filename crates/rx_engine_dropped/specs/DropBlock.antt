-- A block of the text whose answer's drops what a call of one function gives and gives the unit: it is related where the answer's block gives what the
-- call gives (Rust Reference, "Block expressions").
use Rattle.std.specs.Prelude.{◌≡◌, ℕ, ◌==◌, Bool, true, List}
use Rattle.rx_typed.specs.Tree as tree
use Rattle.rx_typed.specs.Tree.{Mark, Exp, Operands, Body}
use Rattle.rx_exits_plan.specs.Asked.{Asked}
use Rattle.rx_exits_plan.specs.Plan.{Plan}
use Rattle.rx_engine_simulation.specs.Turns.{Allowance}
use Rattle.rx_engine_simulation.specs.Sights.{Renaming}
use Rattle.rx_engine_simulation.specs.Jumps.{Jumping}
use Rattle.rx_engine_simulation.specs.Openings.{Openings}
use Rattle.rx_engine_simulation.specs.Like.{LikeBody}
use Rattle.rx_engine_simulation.specs.Blocks.{Stretch, before}
use Rattle.rx_engine_related.specs.AboutRun.{special_of}
use Rattle.rx_engine_related.specs.Tailed.{tailed_body}
use Rattle.rx_engine_related.specs.ByForm.{by_form}

-- a block's end, that of a function's body too
pub data DropsCall (N : ℕ) : Body → Body → Type 0 where
  drops_call : {m mu : Mark} {es : Operands} → DropsCall N (tree.runs (tree.call m N es) (tree.ends (tree.unit mu))) (tree.ends (tree.call m N es))
  drops_given : {m mg mu : Mark} {es : Operands} → DropsCall N (tree.runs (tree.call m N es) (tree.ends (tree.give mg (tree.unit mu)))) (tree.ends (tree.give mg (tree.call m N es)))

pub data DropBlock (N : ℕ) (A : Asked) (muts : List Bool) (k : Plan) (items : ℕ → ℕ) (O : Openings) (gain : Allowance) : ℕ → Jumping → Renaming → (Exp → Exp) → (Exp → Exp) → Type 0 where
  drop_block : {a : ℕ} {J : Jumping} {R : Renaming} {m m' : Mark} {b d d1 : Body} (r : Stretch) → (m.node == A.run.block) ≡ true → DropsCall N d d1
      → LikeBody items O gain (by_form (special_of A muts k)) a J R (tailed_body A.run A.home.around.loops k.params b) (before r d1)
      → DropBlock N A muts k items O gain a J R (λ e. tree.block m b) (λ e. tree.block m' (before r d))

abbrev pub in_its_drop_block : ℕ → Asked → List Bool → Plan → (ℕ → ℕ) → Openings → Allowance → Openings
in_its_drop_block N A muts k items O gain = record {
  expression = λ V a J R e f g. DropBlock N A muts k items O gain a J R f g;
  statements = λ V a J R S b f g. ⊥;
}
