-- What a walk over two typed trees finds: they are alike, or they are but for one block, which is left open, or they aren't.
use Rattle.std.specs.Prelude.{ℕ, Bool, true, false, List, Option, Some, None}
use Rattle.rx_typed.specs.Tree.{Body}
use Rattle.rx_engine_simulation.specs.Sights.{Renaming}

-- the open block of the text, and the answer's: with the loops around it, and the variables there
pub record Hole : Type 0 where
  pub loops : List (ℕ × ℕ)
  pub inside : Renaming
  pub text : Body
  pub answer : Body

pub data Likeness : Type 0 where
  unlike : Likeness
  alike : Likeness
  alike_but : Hole → Likeness

-- of two parts; one of them may have the open block
abbrev pub both : Likeness → Likeness → Likeness
both unlike b = unlike
both alike b = b
both (alike_but h) alike = alike_but h
both (alike_but h) _ = unlike

abbrev pub provided : Bool → Likeness → Likeness
provided true b = b
provided false b = unlike

-- of what is there
abbrev pub when : {A : Type 0} → Option A → (A → Likeness) → Likeness
when None f = unlike
when (Some a) f = f a

-- the first where this is so, else the second
abbrev pub choose : Bool → Likeness → Likeness → Likeness
choose true a b = a
choose false a b = b

-- a block that is left open, or what is said of it
abbrev pub but_open : Bool → Hole → Likeness → Likeness
but_open true h b = alike_but h
but_open false h b = b

abbrev pub is_alike : Likeness → Bool
is_alike alike = true
is_alike _ = false

-- ---- what is there under a condition, and one after another

abbrev pub if_so : {B : Type 0} → Bool → Option B → Option B
if_so true o = o
if_so false o = None

abbrev pub and_then : {A B : Type 0} → Option A → (A → Option B) → Option B
and_then None f = None
and_then (Some a) f = f a

abbrev pub is_none : {A : Type 0} → Option A → Bool
is_none None = true
is_none (Some a) = false
