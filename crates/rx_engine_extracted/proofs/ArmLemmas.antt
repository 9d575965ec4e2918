-- What is asked of an arm's body, by its form.
use Rattle.std.proofs.Common.{◌≡◌, refl, ℕ, Bool, false, ◌&&◌, List, Option, Some, None}
use Rattle.rx_typed.specs.Tree as tree
use Rattle.rx_typed.specs.Tree.{Exp, Body}
use Rattle.rx_engine_simulation.specs.Sights.{Renaming}
use Rattle.rx_engine_simulation.specs.Jumps.{Pack}
use Rattle.rx_engine_related.specs.Leaving.{pack_if}
use Rattle.rx_engine_alike.specs.Read.{as_ends}
use Rattle.rx_engine_alike.specs.Giving.{is_unit}
use Rattle.rx_engine_extracted.specs.Told.{Told}
use Rattle.rx_engine_extracted.specs.Arms.{jumps_to, jumps_last, jumps_bare, jumps_behind}
use Rattle.rx_engine_extracted.specs.Block.{block_of}
use Rattle.rx_engine_extracted.specs.Reading.{runs_first}
use Rattle.rx_engine_extracted.specs.PlainArms.{jumps_in_block}

-- what is said of what is there
abbrev pub is_so : {A : Type 0} → Option A → (A → Bool) → Bool
is_so None f = false
is_so (Some a) f = f a

abbrev pub else_so : {A : Type 0} → Option A → (A → Bool) → Bool → Bool
else_so None f b = b
else_so (Some a) f b = f a

pub last_by : (d : Option ℕ) (again : Bool) (b : Body)
    → jumps_last d again b ≡ is_so (runs_first b) (λ r. is_so (as_ends r.1) (λ u. jumps_to d again r.0 && is_unit u))
last_by d again (tree.ends e) = refl
last_by d again (tree.runs e (tree.ends u)) = refl
last_by d again (tree.runs e (tree.runs f b)) = refl
last_by d again (tree.runs e (tree.declares n xs b)) = refl
last_by d again (tree.runs e (tree.lets n q c b)) = refl
last_by d again (tree.declares n xs b) = refl
last_by d again (tree.lets n q c b) = refl

pub ruleset jumps_rules = (last_by)

pub behind_by : (T : Told) (R Rr : Renaming) (xs os : List ℕ) (d : Option ℕ) (again : Bool) (e : Exp)
    → jumps_behind T R Rr xs os d again e ≡ else_so (block_of e) (λ b. jumps_in_block T R Rr xs os d again b) (jumps_bare xs d again e)
behind_by T R Rr xs os d again (tree.read m v p) = refl
behind_by T R Rr xs os d again (tree.borrow m k p) = refl
behind_by T R Rr xs os d again (tree.share m e) = refl
behind_by T R Rr xs os d again (tree.build m w es) = refl
behind_by T R Rr xs os d again (tree.unit m) = refl
behind_by T R Rr xs os d again (tree.lazily m b e f) = refl
behind_by T R Rr xs os d again (tree.assign m p e) = refl
behind_by T R Rr xs os d again (tree.update m o p e) = refl
behind_by T R Rr xs os d again (tree.call m f es) = refl
behind_by T R Rr xs os d again (tree.input m) = refl
behind_by T R Rr xs os d again (tree.print m e) = refl
behind_by T R Rr xs os d again (tree.block m b) = refl
behind_by T R Rr xs os d again (tree.choose m c l) = refl
behind_by T R Rr xs os d again (tree.loop m l e) = refl
behind_by T R Rr xs os d again (tree.jump m l k) = refl
behind_by T R Rr xs os d again (tree.give m e) = refl

pub ruleset behind_rules = (behind_by)

-- ---- the variant for an exit

abbrev pub variant_in : Option Pack → Option ℕ
variant_in None = None
variant_in (Some p) = Some p.variant

pub variant_packed : (xs : List ℕ) (v : Option ℕ) → variant_in (pack_if xs v) ≡ v
variant_packed xs None = refl
variant_packed xs (Some v) = refl

pub ruleset variant_rules = (variant_packed)
