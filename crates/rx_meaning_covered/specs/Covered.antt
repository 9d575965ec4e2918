-- Programs whose matches are covered by the types of what is matched (Rust Reference, "Match expressions"; "Patterns"; "let statements"),
-- whose variables have begun where they are used, whose calls are of functions, and whose bodies give a value.
use Rattle.std.specs.Prelude.{◌≡◌, ℕ, Bool, true, List, [], ◌∷◌, ◌++◌, Some}
use Rattle.rx_typed.specs.Types.{Typ, Declarations}
use Rattle.rx_typed.specs.Tree.{Temporary, Pattern, Scrutinee, Arms, no_arm, arm_and, Function}
use Rattle.rx_lower_walks.specs.Matching.{bindings}
use Rattle.rx_lower_walks.specs.Actions.{Call, Action, does, Subject, in_place, in_temporary, subject, part}
use Rattle.rx_lower_walks.specs.Orders.{order_function, order_scrutinee}
use Rattle.rx_lower_walks.specs.Walks.{IsWalk, Walk, Out}
use Rattle.rx_cover.specs.Matching.{Covers}
use Rattle.rx_cover.specs.Choices.{scrutinee_typ, patterns_of}
use Rattle.rx_cover.specs.Causes.{CoversTyp}
use Rattle.rx_meaning.specs.Expressions.{Functions}
use Rattle.rx_meaning_keeping.specs.Units.{GoesOn}
use Rattle.rx_meaning_keeping.specs.Keeping.{IsFunction, IsNoAnswer}
use Rattle.rx_meaning_typed.specs.TypedActs.{Typing, place_typ}
use Rattle.rx_meaning_covered.specs.Ways.{IsDirect}
use Rattle.rx_meaning_covered.specs.Arms.{AllOther}
use Rattle.rx_meaning_covered.specs.Standing.{Standing}
use Rattle.rx_meaning_covered.specs.Fitting.{PatternFits}
use Rattle.rx_meaning_covered.specs.Ranged.{IsInhabited, RangesFit}
use Rattle.rx_meaning_covered.specs.Begun.{UsesBegun}

abbrev pub IsDirectSubject : Subject → Type 0
IsDirectSubject (in_place p) = IsDirect p
IsDirectSubject (in_temporary t) = Unit {0}

-- the patterns of arms fit a type, and bind no variable that is matched
abbrev pub ArmsFit : Declarations → Subject → Typ → Arms → Type 0
ArmsFit D S t no_arm = Unit {0}
ArmsFit D S t (arm_and p e l) = (PatternFits D t p × AllOther S (bindings [] p)) × ArmsFit D S t l

-- what is matched has a type, whose values the arms cover
pub record ChoiceFits (T : Typing) (c : Scrutinee) (l : Arms) : Type 0 where
  pub typ : Typ
  pub typed : place_typ T (part (subject c) []) ≡ Some typ
  pub direct : IsDirectSubject (subject c)
  pub arms : ArmsFit T.declared (subject c) typ l
  pub covers : Covers T.declared typ (patterns_of l)
  pub inhabited : IsInhabited T.declared typ

pub record LetFits (T : Typing) (c : Scrutinee) (p : Pattern) : Type 0 where
  pub typ : Typ
  pub typed : place_typ T (part (subject c) []) ≡ Some typ
  pub direct : IsDirectSubject (subject c)
  pub fits : PatternFits T.declared typ p
  pub other : AllOther (subject c) (bindings [] p)
  pub covers : Covers T.declared typ (p ∷ [])
  pub inhabited : IsInhabited T.declared typ

-- what is matched is not of these temporaries
abbrev pub IsNotOf : (Temporary → Bool) → Subject → Type 0
IsNotOf N (in_place p) = Unit {0}
IsNotOf N (in_temporary t) = N t ≡ true → ⊥

-- where what is matched goes on
abbrev pub FitsChoice : (Temporary → Bool) → Typing → Scrutinee → Arms → Type 0
FitsChoice N T c l = GoesOn (order_scrutinee c) → IsNotOf N (subject c) × ChoiceFits T c l

abbrev pub FitsLet : (Temporary → Bool) → Typing → Scrutinee → Pattern → Type 0
FitsLet N T c p = GoesOn (order_scrutinee c) → IsNotOf N (subject c) × LetFits T c p

-- what the matches of a function are covered by
abbrev pub CoversChoice : Declarations → Scrutinee → Arms → Type 0
CoversChoice D c l = CoversTyp D (scrutinee_typ c) (patterns_of l)

abbrev pub CoversLet : Declarations → Scrutinee → Pattern → Type 0
CoversLet D c p = CoversTyp D (scrutinee_typ c) (p ∷ [])

-- what is called on a walk is a function
abbrev pub CallsFunctions : Functions → Function → Type 0
CallsFunctions P F = (w : List Action) (n g : ℕ) (ts : List Temporary) (d : Temporary) → IsWalk F (w ++ does n (Call g ts d) ∷ []) → (G : Function) × IsFunction P g G

-- no walk leaves without a value
abbrev pub Answers : Function → Type 0
Answers F = (o : List Action) (x : Out) → Walk (order_function F) o x → IsNoAnswer x → ⊥

-- of such temporaries for what a minus makes negative
pub record FunctionCovered (N : Temporary → Bool) (P : Functions) (T : Typing) (F : Function) : Type 0 where
  pub standing : Standing (FitsChoice N T) (FitsLet N T) F.body
  pub begun : UsesBegun F
  pub ranges : RangesFit N F
  pub calls : CallsFunctions P F
  pub answers : Answers F

pub record ProgramCovered (N : ℕ → Temporary → Bool) (Ts : ℕ → Typing) (P : Functions) : Type 0 where
  pub functions : (f : ℕ) (F : Function) → IsFunction P f F → FunctionCovered (N f) P (Ts f) F
