-- How the assignments of a task come from those of another one, so that what the text's valid one gives is valid.
use Rattle.std.specs.Prelude.{◌≡◌, ◌⊎◌, ℕ}
use Rattle.rx_core.specs.declared.types.Kind.{Kind}
use Rattle.rx_typed.specs.Types.{peeled}
use Rattle.rx_typeck_solver.specs.declared.facts.Subject.TheVariants as subject
use Rattle.rx_typeck_solver.specs.Facts.{Assignment, KnownItems}
use Rattle.rx_typeck_solver.specs.Valid.{Task, Typed, HasKind, IsIn, Agree, Valid}

-- a task that is accepted
abbrev pub Accepted : KnownItems → Task → Type 0
Accepted D task = (A : Assignment) × Valid D task A

-- a task of the text with its valid assignment; a task of the answer, which is a part of it, with the one that comes from it
module _ (D D' : KnownItems) (task task' : Task) (A A' : Assignment) where
  -- literals that have i32 in the text have it here
  abbrev pub Near : Assignment → Type 0
  Near B = (n : ℕ) → IsIn n task'.literals → HasKind D' task' A' n Kind.I32 → HasKind D' task' B n Kind.I32

  -- a literal of the text and one of the part have the same kinds
  abbrev pub Paired : ((B : Assignment) → Typed D' task' B → Near B → Assignment) → ℕ → ℕ → Type 0
  Paired back m n = (peeled (A (subject.Node m)) ≡ peeled (A' (subject.Node n)))
      × ((B : Assignment) (t : Typed D' task' B) (e : Near B) → peeled (back B t e (subject.Node m)) ≡ peeled (B (subject.Node n)))

  pub record Carried : Type 0 where
    pub typed : Typed D' task' A'
    -- an assignment of the part gives one of the whole
    pub back : (B : Assignment) → Typed D' task' B → Near B → Assignment
    pub back_typed : (B : Assignment) (t : Typed D' task' B) (e : Near B) → Typed D task (back B t e)
    -- a literal of the part is one of the text
    pub literal : (n : ℕ) → IsIn n task'.literals → (m : ℕ) × IsIn m task.literals × Paired back m n

  -- and so that another assignment which prefers i32 gives one of the text
  pub record Whole (c : Carried) : Type 0 where
    -- a literal of the text is one of the part, or has the text's kind
    pub other : (m : ℕ) → IsIn m task.literals → ((n : ℕ) × IsIn n task'.literals × Paired c.back m n)
        ⊎ ((B : Assignment) (t : Typed D' task' B) (e : Near B) → peeled (c.back B t e (subject.Node m)) ≡ peeled (A (subject.Node m)))
    -- where the whole agrees, the part does
    pub agree : (B : Assignment) (t : Typed D' task' B) (e : Near B) → Agree D task A (c.back B t e) → Agree D' task' A' B
