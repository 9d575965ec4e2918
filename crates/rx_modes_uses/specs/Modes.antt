-- The modes of a run's params, in their order: what a policy chooses on the uses of each, where they allow a mode. (REM, OOPSLA 2023,
-- "Extract method", the analysis of ownership.)
use Rattle.std.specs.Prelude.{◌≡◌, ℕ, Bool, List, [], ◌∷◌}
use Rattle.rx_exits_plan.specs.Asked.{Asked}
use Rattle.rx_exits_plan.specs.Plan.{Plan}
use Rattle.rx_modes_policy.specs.declared.uses.Mode.{Mode}
use Rattle.rx_modes_policy.specs.declared.uses.Uses.{Uses}
use Rattle.rx_modes_policy.specs.Allowed.{allowed_by, HasMember}
use Rattle.rx_modes_uses.specs.Uses.{IsUses}

-- a param is passed in this mode
pub record PassedIn (A : Asked) (muts : List Bool) (k : Plan) (choice : Uses → Mode) (x : ℕ) (m : Mode) : Type 0 where
  pub uses : Uses
  pub are_uses : IsUses A muts k x uses
  pub some : HasMember (allowed_by uses)
  pub chosen : m ≡ choice uses

pub data Each (Q : ℕ → Mode → Type 0) : List ℕ → List Mode → Type 0 where
  no_more : Each Q [] []
  with : {x : ℕ} {m : Mode} {xs : List ℕ} {ms : List Mode} → Q x m → Each Q xs ms → Each Q (x ∷ xs) (m ∷ ms)

abbrev pub IsModes : Asked → List Bool → Plan → (Uses → Mode) → List Mode → Type 0
IsModes A muts k choice ms = Each (PassedIn A muts k choice) k.params ms
