-- The plan of a run: its exits, the variables that it is given and those that each exit hands out, its value, and what the text
-- around it needs. Each list is in the order of first occurrence in the run. (REM, OOPSLA 2023.)
use Rattle.std.specs.Prelude.{◌≡◌, ◌≢◌, ℕ, Bool, true, false, not, ◌&&◌, ◌||◌, List, [], ◌∷◌, ◌++◌, Option, Some, None}
use Rattle.rx_typed.specs.Types.{Typ, tuple_of, no_shape}
use Rattle.rx_typed.specs.Tree.{Exp, Body, mark_of, temporary_of}
use Rattle.rx_lower_walks.specs.Actions.{Act, Read, Action}
use Rattle.rx_lower_walks.specs.Orders.{order}
use Rattle.rx_lower_walks.specs.Walks.{actions_in, Among}
use Rattle.rx_facts_tables.specs.Setting.{is_behind}
use Rattle.rx_facts_tables.specs.Wholes.{is_variable}
use Rattle.rx_exits_plan.specs.Runs.{Run, inside, last_value}
use Rattle.rx_exits_plan.specs.Points.{Exit, next, returns}
use Rattle.rx_exits_plan.specs.Through.{actions_of}
use Rattle.rx_exits_plan.specs.Occurrences.{has_number, variables_of_run, foreign, is_declared_in_run, is_direct, is_named_behind, those}
use Rattle.rx_exits_plan.specs.Exits.{exits}
use Rattle.rx_exits_plan.specs.Asked.{Asked, IsParam, IsLocal, IsLiveAt}

pub record Plan : Type 0 where
  pub exits : List Exit
  pub params : List ℕ
  pub locals : List ℕ
  pub outs : Exit → List ℕ
  pub value : Option Typ
  pub redeclared : List ℕ
  pub loose : List ℕ

-- those of a list of which something holds, in its order
pub data Chosen (Q : ℕ → Type 0) : List ℕ → List ℕ → Type 0 where
  none : Chosen Q [] []
  taken : {x : ℕ} {l m : List ℕ} → Q x → Chosen Q l m → Chosen Q (x ∷ l) (x ∷ m)
  left : {x : ℕ} {l m : List ℕ} → ¬ (Q x) → Chosen Q l m → Chosen Q (x ∷ l) m

-- ---- variables of the run

abbrev pub variables_of : Asked → List ℕ
variables_of A = variables_of_run A.run A.home.body

-- those that are declared outside
abbrev pub foreign_of : Asked → List ℕ
foreign_of A = foreign A.run A.home.body

-- ---- what it moves, in whole or in part, whether or not some walk comes there

abbrev pub moves : ℕ → Act → Bool
moves x (Read true p d) = is_variable p.root x && not (is_behind p.steps)
moves x _ = false

abbrev pub some_moves : ℕ → List Action → Bool
some_moves x [] = false
some_moves x (a ∷ l) = moves x a.act || some_moves x l

abbrev pub actions_of_value : Option Exp → List Action
actions_of_value None = []
actions_of_value (Some e) = actions_in (order e (temporary_of e))

abbrev pub run_actions : Run → Body → List Action
run_actions r b = actions_of (inside r b) ++ actions_of_value (last_value r b)

abbrev pub is_moved : Asked → ℕ → Bool
is_moved A x = some_moves x (run_actions A.run A.home.body)

-- ---- outs

-- what may be handed out: what the run moves, has as a local, or declares by a statement of its own block
abbrev pub is_offered : Asked → List ℕ → ℕ → Bool
is_offered A locals x = is_moved A x || (has_number x locals || is_direct A.run A.home.body x)

abbrev pub offered : Asked → List ℕ → List ℕ
offered A locals = those (is_offered A locals) (variables_of A)

-- ---- the value: the tail's, where it has one that isn't the unit

abbrev pub but_the_unit : Option Typ → Option Typ
but_the_unit (Some (tuple_of no_shape)) = None
but_the_unit t = t

abbrev pub handed_value : Option Exp → Option Typ
handed_value None = None
handed_value (Some e) = but_the_unit (mark_of e).typ

-- ---- what the text around it needs

-- declared by a statement of its own block, named behind it, and not handed out there
abbrev pub is_redeclared : Asked → List ℕ → ℕ → Bool
is_redeclared A outs x = is_direct A.run A.home.body x && is_named_behind A.run A.home.body x && not (has_number x outs)

-- named outside, also by its declaration
abbrev pub is_named_outside : Asked → ℕ → Bool
is_named_outside A x = not (is_declared_in_run A.run A.home.body x) || is_named_behind A.run A.home.body x

abbrev pub out_of_some : List Exit → (Exit → List ℕ) → ℕ → Bool
out_of_some [] outs x = false
out_of_some (e ∷ es) outs x = has_number x (outs e) || out_of_some es outs x

abbrev pub is_loose : Asked → Plan → ℕ → Bool
is_loose A k x = is_named_outside A x && not (has_number x k.params) && not (out_of_some k.exits k.outs x)

-- ---- the plan

pub record IsPlan (A : Asked) (k : Plan) : Type 0 where
  pub exits : k.exits ≡ exits A.run A.home
  pub params : Chosen (IsParam A) (foreign_of A) k.params
  pub locals : Chosen (IsLocal A) (foreign_of A) k.locals
  pub outs : (e : Exit) → Among e k.exits → e ≢ returns → Chosen (IsLiveAt A k.params e) (offered A k.locals) (k.outs e)
  pub none_returned : k.outs returns ≡ []
  pub none_elsewhere : (e : Exit) → ¬ (Among e k.exits) → k.outs e ≡ []
  pub value : k.value ≡ handed_value (last_value A.run A.home.body)
  pub redeclared : k.redeclared ≡ those (is_redeclared A (k.outs next)) (variables_of A)
  pub loose : k.loose ≡ those (is_loose A k) (variables_of A)
