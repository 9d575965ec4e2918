-- How types are found: shapes in which the integer types of some nodes are left open, in classes.
use Rattle.std.specs.Prelude.{◌≡◌, ℕ, min, max, nat_eq, Bool, true, false, not, ◌&&◌, ◌||◌, if◌then◌else◌, List, [], ◌∷◌, ◌++◌, map, Option, Some, None}
use Rattle.rx_core.specs.declared.types.Kind.{Kind}
use Rattle.rx_typed.specs.Types.{Shape, Shapes, integer, boolean, tuple_of, reference, named, no_shape, shape_and, Typ, unit_shape, shape_map, outline, peeled}
use Rattle.rx_typeck_solver.specs.declared.facts.Kinds.{Kinds}
use Rattle.rx_typeck_solver.specs.declared.facts.Subject.{Subject}
use Rattle.rx_typeck_solver.specs.declared.facts.Subject.TheVariants as subject
use Rattle.rx_typeck_solver.specs.declared.facts.Passing.{Passing}
use Rattle.rx_typeck_solver.specs.declared.facts.Op.{Op}
use Rattle.rx_typeck_solver.specs.declared.facts.Test.{Test}
use Rattle.rx_typeck_solver.specs.declared.facts.Fact.{Fact}
use Rattle.rx_typeck_solver.specs.declared.facts.Fact.TheVariants as fact
use Rattle.rx_typeck_solver.specs.declared.facts.Demand.{Demand}
use Rattle.rx_typeck_solver.specs.Facts.{Assignment, KnownItems, has, made, gone_through, holds}

-- ---- sets of integer types

abbrev pub all_kinds : Kinds
all_kinds = record { u8 = true; u32 = true; u64 = true; i32 = true; i64 = true }

abbrev pub only : Kind → Kinds
only Kind.U8 = record { u8 = true; u32 = false; u64 = false; i32 = false; i64 = false }
only Kind.U32 = record { u8 = false; u32 = true; u64 = false; i32 = false; i64 = false }
only Kind.U64 = record { u8 = false; u32 = false; u64 = true; i32 = false; i64 = false }
only Kind.I32 = record { u8 = false; u32 = false; u64 = false; i32 = true; i64 = false }
only Kind.I64 = record { u8 = false; u32 = false; u64 = false; i32 = false; i64 = true }

abbrev pub others : Kind → Kinds
others Kind.U8 = record all_kinds { u8 = false }
others Kind.U32 = record all_kinds { u32 = false }
others Kind.U64 = record all_kinds { u64 = false }
others Kind.I32 = record all_kinds { i32 = false }
others Kind.I64 = record all_kinds { i64 = false }

abbrev pub meet : Kinds → Kinds → Kinds
meet s t = record { u8 = s.u8 && t.u8; u32 = s.u32 && t.u32; u64 = s.u64 && t.u64; i32 = s.i32 && t.i32; i64 = s.i64 && t.i64 }

abbrev pub some_kind : Kinds → Bool
some_kind s = s.u8 || s.u32 || s.u64 || s.i32 || s.i64

-- the integer type that a class is given: i32 where it can be
abbrev pub pick : Kinds → Kind
pick s = if s.i32 then Kind.I32 else if s.u8 then Kind.U8 else if s.u32 then Kind.U32 else if s.u64 then Kind.U64 else Kind.I64

-- exactly one, where there is one at all
abbrev pub single : Kinds → Bool
single s = not (some_kind (meet s (others (pick s))))

-- ---- what is known

-- the integer type of a shape: a known one, or that of the node of this number, which is open
pub data Leaf : Type 0 where
  Fixed : Kind → Leaf
  KindOf : ℕ → Leaf

abbrev pub Term : Type 0
Term = Shape Leaf

-- each open node has a class, by the number of one of its nodes; a class has a set of integer types
pub record State : Type 0 where
  pub shapes : Subject → Option Term
  pub rep : ℕ → ℕ
  pub set : ℕ → Kinds

abbrev pub upd : {B : Type 0} → ℕ → B → (ℕ → B) → ℕ → B
upd i v f z = if nat_eq z i then v else f z

abbrev pub same_subject : Subject → Subject → Bool
same_subject (subject.Variable x) (subject.Variable y) = nat_eq x y
same_subject (subject.Node x) (subject.Node y) = nat_eq x y
same_subject (subject.Expected x) (subject.Expected y) = nat_eq x y
same_subject _ _ = false

abbrev pub updated : {B : Type 0} → Subject → B → (Subject → B) → Subject → B
updated x v f z = if same_subject z x then v else f z

abbrev pub empty : State
empty = record { shapes = λ x. None; rep = λ n. n; set = λ n. all_kinds }

-- ---- steps

-- a step goes on, refuses, or lacks a type that it reads
pub data Step : Type 0 where
  Go : State → Step
  No : Step
  Stuck : Step

abbrev pub so : Step → (State → Step) → Step
so (Go st) go = go st
so No go = No
so Stuck go = Stuck

abbrev pub go_if : Bool → State → Step
go_if true st = Go st
go_if false st = No

-- the class of a node has these integer types at most
abbrev pub restrict : ℕ → Kinds → State → Step
restrict n s st =
    let both = meet (st.set (st.rep n)) s in
    go_if (some_kind both) (record st { set = upd (st.rep n) both st.set })

-- the second class becomes one with the first
abbrev pub join : ℕ → ℕ → State → Step
join r q st =
    let both = meet (st.set r) (st.set q) in
    go_if (some_kind both) (record { shapes = st.shapes; rep = λ z. upd q r (λ x. x) (st.rep z); set = upd r both st.set })

abbrev pub merge : ℕ → ℕ → State → Step
merge n m st = join (min (st.rep n) (st.rep m)) (max (st.rep n) (st.rep m)) st

abbrev pub unify_leaf : Leaf → Leaf → State → Step
unify_leaf (Fixed k) (Fixed l) st = go_if (has (only k) l) st
unify_leaf (Fixed k) (KindOf m) st = restrict m (only k) st
unify_leaf (KindOf n) (Fixed l) st = restrict n (only l) st
unify_leaf (KindOf n) (KindOf m) st = merge n m st

abbrev mutual
  pub unify : Term → Term → State → Step
  unify (integer a) (integer b) st = unify_leaf a b st
  unify boolean boolean st = Go st
  unify (tuple_of ts) (tuple_of us) st = unify_each ts us st
  unify (reference true t) (reference true u) st = unify t u st
  unify (reference false t) (reference false u) st = unify t u st
  unify (named i) (named j) st = go_if (nat_eq i j) st
  unify _ _ st = No

  pub unify_each : Shapes Leaf → Shapes Leaf → State → Step
  unify_each no_shape no_shape st = Go st
  unify_each (shape_and t ts) (shape_and u us) st = so (unify t u st) (λ s. unify_each ts us s)
  unify_each _ _ st = No

abbrev pub put : Subject → Term → State → State
put x t st = record st { shapes = updated x (Some t) st.shapes }

-- the node is a class of its own; a node that isn't open is that from the start
abbrev pub fresh : ℕ → Kinds → State → Step
fresh n s st = go_if (some_kind s) (record { shapes = updated (subject.Node n) (Some (integer (KindOf n))) st.shapes; rep = st.rep; set = upd n s st.set })

abbrev pub learn : Option Term → Subject → Term → State → Step
learn None x t st = Go (put x t st)
learn (Some a) x t st = unify a t st

abbrev pub leaf_in : Leaf → Kinds → State → Step
leaf_in (Fixed k) s st = go_if (has s k) st
leaf_in (KindOf n) s st = restrict n s st

abbrev pub integer_in : Term → Kinds → State → Step
integer_in (integer a) s st = leaf_in a s st
integer_in _ s st = No

abbrev pub integer_at : Option Term → ℕ → Kinds → State → Step
integer_at None n s st = fresh n s st
integer_at (Some t) n s st = integer_in t s st

abbrev pub behind_at : Option Term → Kinds → State → Step
behind_at None s st = Stuck
behind_at (Some t) s st = integer_in (peeled t) s st

-- what is read: the shapes of subjects, the dereferences at nodes
abbrev pub listed : {A : Type 0} → Option A → Option (List A) → Option (List A)
listed (Some x) (Some xs) = Some (x ∷ xs)
listed _ _ = None

abbrev pub terms_at : {A : Type 0} → (Subject → Option A) → List Subject → Option (List A)
terms_at tab [] = Some []
terms_at tab (x ∷ xs) = listed (tab x) (terms_at tab xs)

abbrev pub gone_at : Option Term → Bool → Option (List Bool) → Option (List Bool)
gone_at (Some t) all (Some ms) = Some (gone_through all t ++ ms)
gone_at _ all _ = None

abbrev pub passed_at : (Subject → Option Term) → List Passing → Option (List Bool)
passed_at tab [] = Some []
passed_at tab (p ∷ ps) = gone_at (tab (subject.Node p.node)) p.all (passed_at tab ps)

abbrev pub equal_to : Option Term → Subject → State → Step
equal_to None x st = No
equal_to (Some t) x st = learn (st.shapes x) x t st

abbrev pub equals : KnownItems → Op → Subject → Option (List Term) → Option (List Bool) → State → Step
equals D o x (Some ts) (Some ms) st = equal_to (made Fixed D.items o ts ms) x st
equals D o x _ _ st = Stuck

abbrev pub passes : KnownItems → Test → Option (List Term) → Option (List Bool) → Option (List Bool) → State → Step
passes D t (Some ts) (Some ms) (Some qs) st = go_if (holds D t (map outline ts) ms qs) st
passes D t _ _ _ st = Stuck

-- one fact
unfoldable pub take : KnownItems → Fact → State → Step
take D (fact.Equals x o xs ps) st = equals D o x (terms_at st.shapes xs) (passed_at st.shapes ps) st
take D (fact.Integer n s) st = integer_at (st.shapes (subject.Node n)) n s st
take D (fact.IntegerBehind n s) st = behind_at (st.shapes (subject.Node n)) s st
take D (fact.Passes t xs ps qs) st = passes D t (terms_at st.shapes xs) (passed_at st.shapes ps) (passed_at st.shapes qs) st
take D fact.Never st = No

abbrev pub take_all : KnownItems → List Fact → State → Step
take_all D [] st = Go st
take_all D (f ∷ fs) st = so (take D f st) (λ s. take_all D fs s)

-- all demands in turn: the state at the end, or the demand that fails
pub data Found : Type 0 where
  Found_all : State → Found
  Failed : Demand → Found
  Lacking : Found

abbrev pub next : Step → Demand → (State → Found) → Found
next (Go st) d go = go st
next No d go = Failed d
next Stuck d go = Lacking

abbrev pub solve : KnownItems → List Demand → State → Found
solve D [] st = Found_all st
solve D (d ∷ ds) st = next (take_all D d.facts st) d (λ s. solve D ds s)

-- ---- the answer

abbrev pub filled_leaf : (ℕ → Kind) → Leaf → Kind
filled_leaf χ (Fixed k) = k
filled_leaf χ (KindOf n) = χ n

abbrev pub filled_by : (ℕ → Kind) → Term → Typ
filled_by χ t = shape_map (filled_leaf χ) t

abbrev pub filled_or : (ℕ → Kind) → Option Term → Typ
filled_or χ None = unit_shape
filled_or χ (Some t) = filled_by χ t

-- the assignment in which each class has the integer type that is chosen for it
abbrev pub chosen : State → (ℕ → Kind) → Assignment
chosen st χ x = filled_or (λ n. χ (st.rep n)) (st.shapes x)

abbrev pub answer : State → Assignment
answer st = chosen st (λ c. pick (st.set c))

-- ---- whether the answer is the only one that prefers i32

-- a class with an unsuffixed literal has one integer type, or can be i32
abbrev pub open_fine : Kinds → Bool
open_fine s = single s || s.i32

abbrev pub leaf_fine : State → Leaf → Bool
leaf_fine st (Fixed k) = true
leaf_fine st (KindOf n) = open_fine (st.set (st.rep n))

abbrev pub term_fine : State → Term → Bool
term_fine st (integer a) = leaf_fine st a
term_fine st _ = true

abbrev pub literal_fine : State → Option Term → Bool
literal_fine st None = true
literal_fine st (Some t) = term_fine st (peeled t)

abbrev pub leaf_is_of : State → ℕ → Leaf → Bool
leaf_is_of st c (Fixed k) = false
leaf_is_of st c (KindOf n) = nat_eq (st.rep n) c

abbrev pub term_is_of : State → ℕ → Term → Bool
term_is_of st c (integer a) = leaf_is_of st c a
term_is_of st c _ = false

abbrev pub literal_is_of : State → ℕ → Option Term → Bool
literal_is_of st c None = false
literal_is_of st c (Some t) = term_is_of st c (peeled t)

abbrev pub has_literal : State → List ℕ → ℕ → Bool
has_literal st [] c = false
has_literal st (n ∷ ns) c = literal_is_of st c (st.shapes (subject.Node n)) || has_literal st ns c

-- a class has one integer type, or an unsuffixed literal
abbrev pub class_fine : State → List ℕ → ℕ → Bool
class_fine st ls c = single (st.set c) || has_literal st ls c

-- the node is open
abbrev pub Root : (Subject → Option Term) → ℕ → Type 0
Root tab n = tab (subject.Node n) ≡ Some (integer (KindOf n))
