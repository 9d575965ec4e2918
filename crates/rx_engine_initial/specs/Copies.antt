-- Which actions of the new function are copies of the text's, by what is in scope; and the two programs as the law on walks has them.
-- (Rust Reference, "Place expressions and value expressions".)
use Rattle.std.specs.Prelude.{◌≡◌, ℕ, Bool, true, false, List, [], ◌∷◌}
use Rattle.rx_core.specs.declared.types.Step.{Step}
use Rattle.rx_core.specs.declared.types.Step.TheVariants as step
use Rattle.rx_typed.specs.Tree.{Root, variable, temporary, Temporary, Place, Making}
use Rattle.rx_lower_walks.specs.Matching.{Check}
use Rattle.rx_lower_walks.specs.Actions.{Act, Declare, Dead, Read, Write, Borrow, Test, Call, Build, Input, Print, Give, Action, does}
use Rattle.rx_lower_walks.specs.Walks.{IsWalk, Among}
use Rattle.rx_facts_tables.specs.Wholes.{placed}
use Rattle.rx_facts_tables.specs.Initialised.{InOrder}
use Rattle.rx_engine_initial.specs.Tracing.{View}
use Rattle.rx_engine_initial.specs.Matching.{World}
use Rattle.rx_engine_initial.specs.Variables.{Kept, as_itself, by_reference, Sides, SameWay, KnownVariables, IsSeen}

-- what is in a temporary, or behind a reference that is there
pub data IsSafe (vs : List Kept) : Place → Type 0 where
  in_temporary : {t : Temporary} {ss : List Step} → IsSafe vs (record { root = temporary t; steps = ss })
  behind_it : {x : ℕ} {k : Bool} {ss : List Step} → Among (by_reference x) vs → IsSafe vs (placed x (step.Deref k ∷ ss))

-- an action of the new function that is in order wherever it stands, and does nothing to facts
pub data IsEasy (vs : List Kept) : Act → Type 0 where
  easy_copy : {p : Place} {d : Temporary} → IsSafe vs p → IsEasy vs (Read false p d)
  easy_take : {v : Bool} {t d : Temporary} {ss : List Step} → IsEasy vs (Read v (record { root = temporary t; steps = ss }) d)
  easy_borrow : {k : Bool} {p : Place} {d : Temporary} → IsSafe vs p → IsEasy vs (Borrow k p d)
  easy_test : {p : Place} {c : Check} → IsSafe vs p → IsEasy vs (Test p c)
  easy_write : {p : Place} {t : Temporary} {ss : List Step} → IsSafe vs p → IsEasy vs (Write p t ss)
  easy_call : {f : ℕ} {ts : List Temporary} {d : Temporary} → IsEasy vs (Call f ts d)
  easy_build : {w : Making} {is : List ℕ} {ts : List Temporary} {d : Temporary} → IsEasy vs (Build w is ts d)
  easy_input : {d : Temporary} → IsEasy vs (Input d)
  easy_print : {t : Temporary} → IsEasy vs (Print t)
  easy_give : {t : Temporary} → IsEasy vs (Give t)

abbrev pub IsOther : Root → ℕ → Type 0
IsOther (variable x) y = x ≡ y → ⊥
IsOther (temporary t) y = Unit {0}

-- an action of the text that neither begins nor writes a variable
abbrev pub LeavesIt : Act → ℕ → Type 0
LeavesIt (Write p t ss) y = IsOther p.root y
LeavesIt (Declare x) y = x ≡ y → ⊥
LeavesIt _ y = Unit {0}

abbrev pub LeavesAll : List Kept → Act → Type 0
LeavesAll vs b = (x y : ℕ) → Among (as_itself x y) vs → LeavesIt b y

-- The first is a copy of the second. What moves here moves there.
pub data IsCopy (vs : List Kept) : Act → Act → Type 0 where
  reads : {x y : ℕ} {v u : Bool} {ss rs : List Step} {d e : Temporary} → Among (as_itself x y) vs → SameWay ss rs → (v ≡ true → u ≡ true)
      → IsCopy vs (Read v (placed x ss) d) (Read u (placed y rs) e)
  writes : {x y : ℕ} {ss rs us ws : List Step} {t u : Temporary} → Among (as_itself x y) vs → SameWay ss rs → IsCopy vs (Write (placed x ss) t us) (Write (placed y rs) u ws)
  borrows : {x y : ℕ} {k l : Bool} {ss rs : List Step} {d e : Temporary} → Among (as_itself x y) vs → SameWay ss rs → IsCopy vs (Borrow k (placed x ss) d) (Borrow l (placed y rs) e)
  tests : {x y : ℕ} {c e : Check} {ss rs : List Step} → Among (as_itself x y) vs → SameWay ss rs → IsCopy vs (Test (placed x ss) c) (Test (placed y rs) e)
  declares : {x y : ℕ} → Among (as_itself x y) vs → IsCopy vs (Declare x) (Declare y)
  ends : {x y : ℕ} → Among (as_itself x y) vs → IsCopy vs (Dead x) (Dead y)
  easily : {a b : Act} → IsEasy vs a → LeavesAll vs b → IsCopy vs a b

-- ---- the two programs

-- a variable begins in both; the scope behind that
pub data BeginsSo (S : Sides) (R T : KnownVariables S) : Action → Action → Type 0 where
  begins_so : {m n x y : ℕ} → T.variables ≡ as_itself x y ∷ R.variables → T.loops ≡ R.loops → BeginsSo S R T (does m (Declare x)) (does n (Declare y))

-- the scope inside of a loop, which is none of those around it
pub record InsideSo (S : Sides) (R T : KnownVariables S) (l k : ℕ) : Type 0 where
  pub variables : T.variables ≡ R.variables
  pub loops : T.loops ≡ (l, k) ∷ R.loops
  pub here : (m j : ℕ) → Among (m, j) R.loops → m ≡ l → ⊥
  pub there : (m j : ℕ) → Among (m, j) R.loops → j ≡ k → ⊥

abbrev pub world : Sides → World
world S = record {
  C = IsWalk S.text;
  Scope = KnownVariables S;
  Seen = λ R V. IsSeen S R.variables V;
  Ok = λ us a. InOrder S.frame S.muts us a;
  Same = λ R a b. IsCopy R.variables a.act b.act;
  Ends = λ R x y. Among (as_itself x y) R.variables;
  Begins = BeginsSo S;
  Loop = λ R l k. Among (l, k) R.loops;
  Inside = InsideSo S;
}
