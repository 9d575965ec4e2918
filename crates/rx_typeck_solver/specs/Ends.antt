-- How the list of demands ends, and what the last passes find.
use Rattle.std.specs.Prelude.{◌≡◌, ℕ, ◌<◌, Bool, true, false, IsTrue, List, get_or, Option, Some, None}
use Rattle.rx_typeck_solver.specs.declared.facts.Subject.TheVariants as subject
use Rattle.rx_typeck_solver.specs.declared.arena.Entry.{Entry}
use Rattle.rx_typeck_solver.specs.declared.tables.Tables.{Tables}
use Rattle.rx_typeck_solver.specs.declared.demands.Failure.{Failure}
use Rattle.rx_typeck_solver.specs.Valid.{IsIn}
use Rattle.rx_typed.specs.Types.{integer, peeled}
use Rattle.rx_typeck_solver.specs.Solver.{Leaf, Fixed, KindOf, Term, State, Root, Found, Found_all, Failed, literal_fine, has_literal, class_fine}
use Rattle.rx_typeck_solver.specs.Parents.{rep_of}
use Rattle.rx_typeck_solver.specs.Tabled.{state_of, Fits, Sized}

abbrev pub HasFailed : Failure → Found → Type 0
HasFailed x (Failed d) = (d.node ≡ x.node) × (d.span ≡ x.span) × (d.broken ≡ x.broken)
HasFailed x _ = ⊥

abbrev pub FoundIs : Option Failure → Found → State → Type 0
FoundIs None f st = f ≡ Found_all st
FoundIs (Some x) f st = HasFailed x f

-- the list of demands was taken
pub record Ended (sizes : List ℕ) (es : List Entry) (t : Tables) (asked : Found) (failure : Option Failure) : Type 0 where
  pub found : FoundIs failure asked (state_of es t)
  pub fits : Fits es t
  pub sized : Sized sizes es

-- each parent is the least of its class
abbrev pub Flat : List ℕ → Type 0
Flat ps = (z : ℕ) → get_or ps z z ≡ rep_of ps z

-- the first literal that isn't fine, or all are
abbrev pub LiteralsAre : State → List ℕ → Option ℕ → Type 0
LiteralsAre st ls None = (n : ℕ) → IsIn n ls → IsTrue (literal_fine st (st.shapes (subject.Node n)))
LiteralsAre st ls (Some n) = IsIn n ls × (literal_fine st (st.shapes (subject.Node n)) ≡ false)

-- the first class that isn't fine, or all are
abbrev pub ClassesAre : State → List ℕ → Option ℕ → Type 0
ClassesAre st ls None = (n : ℕ) → Root st.shapes n → IsTrue (class_fine st ls (st.rep n))
ClassesAre st ls (Some n) = Root st.shapes n × (class_fine st ls (st.rep n) ≡ false)

-- the class of the open integer type behind references, if one is there
abbrev pub class_leaf : State → Leaf → Option ℕ
class_leaf st (Fixed k) = None
class_leaf st (KindOf n) = Some (st.rep n)

abbrev pub class_term : State → Term → Option ℕ
class_term st (integer a) = class_leaf st a
class_term st _ = None

abbrev pub class_behind : State → Option Term → Option ℕ
class_behind st None = None
class_behind st (Some t) = class_term st (peeled t)

-- each class with an unsuffixed literal is marked
abbrev pub MarksAre : State → List ℕ → ℕ → List Bool → Type 0
MarksAre st ls n marks = (c : ℕ) → c < n → get_or marks c false ≡ has_literal st ls c

-- an open node's class is fine, or it isn't
abbrev pub NodeIs : State → List ℕ → ℕ → Bool → Type 0
NodeIs st ls n true = Root st.shapes n → IsTrue (class_fine st ls (st.rep n))
NodeIs st ls n false = Root st.shapes n × (class_fine st ls (st.rep n) ≡ false)
