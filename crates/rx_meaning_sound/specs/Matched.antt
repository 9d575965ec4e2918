-- What is matched in a function, by types (Rust Reference, "Match expressions"; "Patterns"; "let statements"): where it goes on it is of the
-- type that its mark says, each part of which has a value, and the patterns fit this type.
use Rattle.std.specs.Prelude.{◌≡◌, [], Some}
use Rattle.rx_typed.specs.Types.{Typ, Declarations}
use Rattle.rx_typed.specs.Tree.{Pattern, Scrutinee, Arms, no_arm, arm_and}
use Rattle.rx_lower_walks.specs.Actions.{subject, part}
use Rattle.rx_lower_walks.specs.Orders.{order_scrutinee}
use Rattle.rx_cover.specs.Choices.{scrutinee_typ}
use Rattle.rx_meaning_keeping.specs.Units.{GoesOn}
use Rattle.rx_meaning_typed.specs.TypedActs.{Typing, place_typ}
use Rattle.rx_meaning_covered.specs.Fitting.{PatternFits}
use Rattle.rx_meaning_covered.specs.Ranged.{IsInhabited}

abbrev pub ArmsOfTyp : Declarations → Typ → Arms → Type 0
ArmsOfTyp D t no_arm = Unit {0}
ArmsOfTyp D t (arm_and p e l) = PatternFits D t p × ArmsOfTyp D t l

-- the type of what is matched
pub record IsMatched (T : Typing) (c : Scrutinee) (t : Typ) : Type 0 where
  pub typed : place_typ T (part (subject c) []) ≡ Some t
  pub marked : scrutinee_typ c ≡ Some t
  pub inhabited : IsInhabited T.declared t

abbrev pub ChoiceTyped : Typing → Scrutinee → Arms → Type 0
ChoiceTyped T c l = GoesOn (order_scrutinee c) → (t : Typ) × IsMatched T c t × ArmsOfTyp T.declared t l

abbrev pub LetTyped : Typing → Scrutinee → Pattern → Type 0
LetTyped T c p = GoesOn (order_scrutinee c) → (t : Typ) × IsMatched T c t × PatternFits T.declared t p
