-- Steps of resolving: each adds to the tables of an item, or says what is wrong; the first in the order of the text counts.
use Rattle.std.specs.Prelude.{◌≡◌, ◌≢◌, ℕ, suc, false, List, [], ◌∷◌, ◌++◌, Option, Some, None, Result, Ok, Err}
use Rattle.rx_core.specs.declared.types.Span.{Span}
use Rattle.rx_core.specs.declared.types.Position.{Position}
use Rattle.rx_tree.specs.declared.tree.Ident.{Ident}
use Rattle.rx_tree.specs.Plain.{ProgramTree}
use Rattle.rx_resolve_names.specs.declared.resolved.ItemNames.{ItemNames}
use Rattle.rx_resolve_names.specs.declared.resolved.NodeNames.{NodeNames}
use Rattle.rx_resolve_names.specs.declared.resolved.Misnamed.{Misnamed}
use Rattle.rx_resolve_names.specs.declared.resolved.Misnamed.TheVariants as misnamed
use Rattle.rx_resolve_names.specs.declared.table.NumberedName.{NumberedName}
use Rattle.rx_resolve_names.specs.Scopes.{DeclaredNames, declared_as}
use Rattle.rx_resolve_names.specs.Meant.{number, Target, to_loop, out_of_test, nowhere}

abbrev pub Outcome : Type 0 → Type 0
Outcome A = Result A Misnamed

abbrev pub and_then : {A B : Type 0} → Outcome A → (A → Outcome B) → Outcome B
and_then (Ok a) f = f a
and_then (Err e) f = Err e

abbrev pub Naming : Type 0
Naming = ItemNames → Outcome ItemNames

infixr 10 ◌>>◌
abbrev pub ◌>>◌ : Naming → Naming → Naming
f >> g = λ t. and_then (f t) g

abbrev pub nothing : Naming
nothing = λ t. Ok t

-- where names stand: the program, its item, and the lifetimes that the item declares
pub record Inside : Type 0 where
  pub program : ProgramTree
  pub item : ℕ
  -- the lifetimes that the item declares
  pub lifetimes : DeclaredNames

-- ---- numbers of names

abbrev pub known : Option ℕ → Span → Outcome ℕ
known None s = Err (misnamed.Unknown s)
known (Some n) s = Ok n

abbrev pub one : Outcome ℕ → Outcome (List ℕ)
one r = and_then r (λ n. Ok (n ∷ []))

abbrev pub both : Outcome (List ℕ) → Outcome (List ℕ) → Outcome (List ℕ)
both a b = and_then a (λ ns. and_then b (λ ms. Ok (ns ++ ms)))

-- a name that is declared in a list, where no earlier one is the same
abbrev pub declared_behind : DeclaredNames → Ident → ℕ → Option NumberedName → Outcome DeclaredNames
declared_behind ds x n None = Ok (ds ++ (x.name, record { number = number n; span = x.span }) ∷ [])
declared_behind ds x n (Some k) = Err (misnamed.Twice k.span x.span)

abbrev pub declare : DeclaredNames → Ident → ℕ → Outcome DeclaredNames
declare ds x n = declared_behind ds x n (declared_as ds x.name)

-- the loop that a jump leads to: a label that names none is wrong, else the whole jump
abbrev pub led : Span → Option Ident → Target → Outcome ℕ
led s l (to_loop n) = Ok n
led s l out_of_test = Err (misnamed.Label s)
led s None nowhere = Err (misnamed.Label s)
led s (Some x) nowhere = Err (misnamed.Label x.span)

-- ---- tables

abbrev pub with_variable : Span → ItemNames → ItemNames
with_variable s t = record { vars = t.vars ++ s ∷ []; lifetimes = t.lifetimes; loops = t.loops; names = t.names }

abbrev pub with_loop : Position → ItemNames → ItemNames
with_loop p t = record { vars = t.vars; lifetimes = t.lifetimes; loops = t.loops ++ p ∷ []; names = t.names }

abbrev pub with_names : NodeNames → ItemNames → ItemNames
with_names n t = record { vars = t.vars; lifetimes = t.lifetimes; loops = t.loops; names = t.names ++ n ∷ [] }

-- the way to a child of the node at a way
abbrev pub child : List ℕ → ℕ → List ℕ
child at i = at ++ i ∷ []

-- the number of the child behind one
abbrev pub next : ℕ → ℕ
next i = number (suc i)

abbrev pub position : Inside → List ℕ → Position
position I at = record { item = I.item; path = at }

abbrev pub entry : Inside → List ℕ → List ℕ → NodeNames
entry I at ns = record { node = position I at; numbers = ns; hidden = false }

-- the entry of a node that names or declares these; of one that names none there is none
abbrev pub numbered : Inside → List ℕ → List ℕ → Naming
numbered I at [] = nothing
numbered I at (n ∷ ns) = λ t. Ok (with_names (entry I at (n ∷ ns)) t)

abbrev pub names : Inside → List ℕ → Outcome (List ℕ) → Naming
names I at r = λ t. and_then r (λ ns. numbered I at ns t)

-- what a function that resolves ensures: the outcome, unless memory fails
abbrev pub Resolves : {A B : Type 0} → Outcome B → Result A Misnamed → B → Type 0
Resolves outcome (Ok a) new = outcome ≡ Ok new
Resolves outcome (Err e) new = e ≢ misnamed.OutOfMemory → outcome ≡ Err e

-- the same of a function that gives the value
abbrev pub Gives : {A : Type 0} → Outcome A → Result A Misnamed → Type 0
Gives outcome (Ok a) = outcome ≡ Ok a
Gives outcome (Err e) = e ≢ misnamed.OutOfMemory → outcome ≡ Err e
