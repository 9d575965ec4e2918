-- Demands that can be copied where the answer has some subjects as shared references.
use Rattle.std.specs.Prelude.{◌≡◌, ℕ, true, false, List, [], ◌∷◌}
use Rattle.rx_typed.specs.Types.{Typ, reference}
use Rattle.rx_typeck_solver.specs.declared.facts.Subject.{Subject}
use Rattle.rx_typeck_solver.specs.declared.facts.Op.{Op}
use Rattle.rx_typeck_solver.specs.declared.facts.Op.TheVariants as op
use Rattle.rx_typeck_solver.specs.declared.facts.Fact.{Fact}
use Rattle.rx_typeck_solver.specs.declared.facts.Fact.TheVariants as fact
use Rattle.rx_typeck_solver.specs.declared.facts.Demand.{Demand}
use Rattle.rx_typeck_solver.specs.Facts.{Assignment}
use Rattle.rx_engine_blocks.specs.Along.{Viewed}
use Rattle.rx_engine_blocks.specs.Parts.{AllAbout}

-- a step to what stands behind references
pub data Steps : Op → Type 0 where
  to_field : {x : List ℕ} → Steps (op.Field x)
  to_part : {k : ℕ} → Steps (op.Part k)
  to_pointee : Steps op.Pointee

abbrev pub AllTests : List Fact → Type 0
AllTests [] = Unit {0}
AllTests (fact.Passes t xs ps qs ∷ fs) = AllTests fs
AllTests (_ ∷ fs) = ⊥

pub data CopiesWell (view : Viewed) (A : Assignment) : Demand → Type 0 where
  -- about nothing that is viewed
  plainly : {d : Demand} → AllAbout (λ x. view x ≡ false) d.facts → CopiesWell view A d
  -- tests alone
  tests : {d : Demand} → AllTests d.facts → CopiesWell view A d
  -- two that are viewed have one type
  both_viewed : {d : Demand} (x y : Subject) → d.facts ≡ fact.Equals x op.Same (y ∷ []) [] ∷ [] → view x ≡ true → view y ≡ true → CopiesWell view A d
  -- a step from one that is viewed
  a_step : {d : Demand} (x y : Subject) (o : Op) → Steps o → d.facts ≡ fact.Equals x o (y ∷ []) [] ∷ [] → view x ≡ false → CopiesWell view A d
  -- one that is viewed becomes a shared reference
  becomes_shared : {d : Demand} (x e : Subject) (t : Typ) → d.facts ≡ fact.Equals x op.Coerced (x ∷ e ∷ []) [] ∷ [] → view x ≡ true → view e ≡ false → A e ≡ reference false t
      → CopiesWell view A d

abbrev pub EachCopies : Viewed → Assignment → List Demand → Type 0
EachCopies view A [] = Unit {0}
EachCopies view A (d ∷ ds) = CopiesWell view A d × EachCopies view A ds
