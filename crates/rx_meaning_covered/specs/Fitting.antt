-- Patterns that fit the type of what they are matched against (Rust Reference, "Patterns"): each asks for a variant of the enum that is
-- there, says whether that has several, and has no field twice.
use Rattle.std.specs.Prelude.{◌≡◌, ℕ, Some}
use Rattle.rx_core.specs.declared.types.Step.{Step}
use Rattle.rx_typed.specs.Types.{Typ, reference, named, Declarations}
use Rattle.rx_typed.specs.Tree.{Pattern, any, bind, exactly, parts, variant, behind, Subpatterns, no_part, part_and}
use Rattle.rx_typed.specs.Elaborated.{has_several}
use Rattle.rx_meaning_typed.specs.TypedActs.{constant_typ, typ_behind}

abbrev pub IsNotAmong : ℕ → Subpatterns → Type 0
IsNotAmong i no_part = Unit {0}
IsNotAmong i (part_and j p ps) = (i ≡ j → ⊥) × IsNotAmong i ps

abbrev mutual
  pub PatternFits : Declarations → Typ → Pattern → Type 0
  PatternFits D t any = Unit {0}
  PatternFits D t (bind n x m) = Unit {0}
  PatternFits D t (exactly n c) = t ≡ constant_typ c
  PatternFits D t (parts ps) = PartsFit D t ps
  PatternFits D t (variant n i b v ps) = (t ≡ named i) × (b ≡ has_several D i) × ((u : Typ) × (typ_behind D t (Step.Variant v) ≡ Some u) × PartsFit D u ps)
  PatternFits D t (behind m p) = (u : Typ) × (t ≡ reference m u) × PatternFits D u p

  pub PartsFit : Declarations → Typ → Subpatterns → Type 0
  PartsFit D t no_part = Unit {0}
  PartsFit D t (part_and i p ps) = IsNotAmong i ps × ((u : Typ) × (typ_behind D t (Step.Field i) ≡ Some u) × PatternFits D u p) × PartsFit D t ps
