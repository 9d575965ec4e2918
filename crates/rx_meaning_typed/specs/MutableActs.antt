-- Actions that write and lend mutably through mutable references alone, by types (Rust Reference, "Borrow operators"; "Assignment
-- expressions"; "Mutability").
use Rattle.std.specs.Prelude.{◌≡◌, ℕ, Bool, true, false, List, [], ◌∷◌, ◌++◌, Some}
use Rattle.rx_core.specs.declared.types.Step.{Step}
use Rattle.rx_typed.specs.Types.{Typ, reference, Declarations}
use Rattle.rx_typed.specs.Tree.{Place, Function}
use Rattle.rx_lower_walks.specs.Actions.{Act, Write, Borrow, Action}
use Rattle.rx_lower_walks.specs.Walks.{IsWalk}
use Rattle.rx_meaning.specs.Expressions.{Functions}
use Rattle.rx_meaning_keeping.specs.Keeping.{IsFunction}
use Rattle.rx_meaning_typed.specs.TypedActs.{Typing, typ_behind, root_typ}

abbrev pub IsMutableStep : Typ → Step → Type 0
IsMutableStep (reference m t) (Step.Deref k) = m ≡ true
IsMutableStep _ _ = Unit {0}

-- each reference on the way
abbrev pub IsMutableAlong : Declarations → Typ → List Step → Type 0
IsMutableAlong D t [] = Unit {0}
IsMutableAlong D t (s ∷ ss) = IsMutableStep t s × ((u : Typ) → typ_behind D t s ≡ Some u → IsMutableAlong D u ss)

abbrev pub IsMutablePlace : Typing → Place → Type 0
IsMutablePlace T p = IsMutableAlong T.declared (root_typ T p.root) p.steps

abbrev pub ActMutable : Typing → Act → Type 0
ActMutable T (Borrow true p d) = IsMutablePlace T p
ActMutable T (Write p t ss) = IsMutablePlace T p
ActMutable T _ = Unit {0}

-- where mutability is told too
abbrev pub ActLends : Bool → Typing → Act → Type 0
ActLends false T a = Unit {0}
ActLends true T a = ActMutable T a

-- each action on a walk of a function of the program
abbrev pub FunctionsLend : Bool → (ℕ → Typing) → Functions → Type 0
FunctionsLend L Ts P = (f : ℕ) (F : Function) → IsFunction P f F → (w : List Action) (a : Action) → IsWalk F (w ++ a ∷ []) → ActLends L (Ts f) a.act
