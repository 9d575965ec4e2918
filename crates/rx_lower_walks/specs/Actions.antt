-- The actions of a function: what each takes and what it fills.
use Rattle.std.specs.Prelude.{ℕ, Bool, List, [], ◌∷◌, Option, Some, None}
use Rattle.rx_core.specs.declared.types.Step.{Step}
use Rattle.rx_typed.specs.Tree.{Place, Temporary, Mode, by_value, by_reference, Making, Mark, Scrutinee, at_place, of_value, own, temporary_place, under, temporary_at, temporary_of}
use Rattle.rx_lower_walks.specs.Matching.{Check, PartTest, Binding}

pub data Act : Type 0 where
  -- a variable begins, unset; it ends
  Declare : ℕ → Act
  Dead : ℕ → Act
  -- whether it moves, the place, the temporary that gets the value
  Read : Bool → Place → Temporary → Act
  -- the place; the temporary, and the way in it to what is written
  Write : Place → Temporary → List Step → Act
  -- whether it is mutable, the place, the temporary that gets the reference
  Borrow : Bool → Place → Temporary → Act
  -- it holds or fails
  Test : Place → Check → Act
  -- the function's item, the arguments, the temporary that gets the answer
  Call : ℕ → List Temporary → Temporary → Act
  -- what is made, the field of each operand, the operands, the temporary that gets it
  Build : Making → List ℕ → List Temporary → Temporary → Act
  Input : Temporary → Act
  Print : Temporary → Act
  Give : Temporary → Act

-- an act at its node: an action that some walk holds is a site
pub record Action : Type 0 where
  pub node : ℕ
  pub act : Act

abbrev pub does : ℕ → Act → Action
does n a = record { node = n; act = a }

abbrev pub at_mark : Mark → Act → Action
at_mark m a = does m.node a

-- the temporaries that an action uses up
abbrev pub operands : Act → List Temporary
operands (Write p t ss) = t ∷ []
operands (Call f ts d) = ts
operands (Build w is ts d) = ts
operands (Print t) = t ∷ []
operands (Give t) = t ∷ []
operands _ = []

-- the temporary that it fills
abbrev pub filled : Act → Option Temporary
filled (Read m p d) = Some d
filled (Borrow m p d) = Some d
filled (Call f ts d) = Some d
filled (Build w is ts d) = Some d
filled (Input d) = Some d
filled _ = None

-- ---- the actions of a pattern

-- what a pattern is matched against: a place of the text, or a value in its temporary
pub data Subject : Type 0 where
  in_place : Place → Subject
  in_temporary : Temporary → Subject

abbrev pub subject : Scrutinee → Subject
subject (at_place m p) = in_place p
subject (of_value e) = in_temporary (temporary_of e)

abbrev pub part : Subject → List Step → Place
part (in_place p) ss = under p ss
part (in_temporary t) ss = under (temporary_place t) ss

abbrev pub test_of : Subject → PartTest → Action
test_of S t = does t.node (Test (part S t.steps) t.check)

-- A part behind a reference is borrowed; else that of a place is read, and that of a temporary is written from there.
abbrev pub taking : Mode → Subject → List Step → Temporary → Option Act
taking (by_reference k) S ss d = Some (Borrow k (part S ss) d)
taking (by_value v) (in_place p) ss d = Some (Read v (under p ss) d)
taking (by_value v) (in_temporary t) ss d = None

abbrev pub taken : Subject → Binding → Option Act
taken S b = taking b.mode S b.steps (temporary_at b.node 0)

abbrev pub declared : Binding → Action
declared b = does b.node (Declare b.variable)

-- the new variable is written from what was taken, or from the part of the temporary
abbrev pub source : Mode → Subject → List Step → Temporary → Temporary × List Step
source (by_value v) (in_temporary t) ss d = (t, ss)
source _ S ss d = (d, [])

abbrev pub source_of : Subject → Binding → Temporary × List Step
source_of S b = source b.mode S b.steps (temporary_at b.node 0)

abbrev pub written : Subject → Binding → Action
written S b = does b.node (Write (own b.variable) (source_of S b).0 (source_of S b).1)
