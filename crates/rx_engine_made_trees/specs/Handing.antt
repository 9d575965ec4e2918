-- What the call's statements do with what is handed out at the run's end (REM, "Extract method": outputs; Rust Reference, "let statements",
-- "Assignment expressions", "Tuple patterns"): trees with numbers. `R` has the variables outside.
use Rattle.std.specs.Prelude.{◌≡◌, ℕ, Bool, true, false, List, [], ◌∷◌, Option, Some, None}
use Rattle.rx_core.specs.declared.types.Kind.{Kind}
use Rattle.rx_typed.specs.declared.nodes.Node.{Node}
use Rattle.rx_typed.specs.declared.nodes.Use.{Use}
use Rattle.rx_typed.specs.Types.{Shapes, tuple_of}
use Rattle.rx_typed.specs.Named as named
use Rattle.rx_typed.specs.Tree as tree
use Rattle.rx_typed.specs.Tree.{Body}
use Rattle.rx_typed.specs.Named.{Exp, Patterns, Statement, Statements, Written, is_place}
use Rattle.rx_typed.specs.Elaborated.{Assigned}
use Rattle.rx_exits_plan.specs.Asked.{Asked}
use Rattle.rx_exits_plan.specs.Plan.{Plan}
use Rattle.rx_exits_plan.specs.Points.{next}
use Rattle.rx_engine_simulation.specs.Sights.{In, special, sight, Renaming, sight_of}
use Rattle.rx_engine_simulation.specs.Packing.{AreNew}
use Rattle.rx_engine_simulation.specs.Rereads.{RereadsBody}
use Rattle.rx_engine_simulation.specs.Variants.{AllSpecial}
use Rattle.rx_engine_related.specs.AboutRun.{special_of}
use Rattle.rx_engine_related.specs.Handed.{Handed, MayBeAssigned}
use Rattle.rx_engine_made_trees.specs.Nodes.{KeepsItsType}
use Rattle.rx_engine_made_trees.specs.Seen.{AreUnseen, Distinct, handed_back, OneToOne, SameLength, seen_so, specials}
use Rattle.rx_engine_made_trees.specs.Statements.{around}

-- `y = e;`, where `y` has its type or waits for it
pub data AssignsTo (y : ℕ) (e : Exp) : Statement → Type 0 where
  assigns : {n k p : Node} {x : Use} → x.number ≡ y → AssignsTo y e (named.evaluates n (named.assign k (named.var p x) e) true)
  gives : {n k p : Node} {x : Use} {d : Option ℕ} → x.number ≡ y → AssignsTo y e (named.evaluates n (named.gives k p x d e) true)

-- patterns that bind these variables
pub data BindsAll : List ℕ → Patterns → Type 0 where
  binds_none : BindsAll [] named.no_pattern
  binds_and : {n : Node} {o : ℕ} {m : Bool} {os : List ℕ} {ps : Patterns} → BindsAll os ps → BindsAll (o ∷ os) (named.pattern_and (named.bind n o m) ps)

module _ (T : Assigned) (A : Asked) (muts : List Bool) (k : Plan) (R : Renaming) where
  -- each is assigned from where it was received, or it is declared by the run and stays there
  pub data PutsBack : List ℕ → List ℕ → Statements → Type 0 where
    none_back : PutsBack [] [] named.no_statement
    stays_there : {x o : ℕ} {xs os : List ℕ} {ss : Statements} → sight_of R x ≡ None → PutsBack xs os ss → PutsBack (x ∷ xs) (o ∷ os) ss
    is_assigned : {x y o : ℕ} {xs os : List ℕ} {n : Node} {u : Use} {s : Statement} {ss : Statements} → sight_of R x ≡ Some (sight y special) → MayBeAssigned A muts k x → u.number ≡ o → KeepsItsType T n
        → AssignsTo y (named.var n u) s → PutsBack xs os ss → PutsBack (x ∷ xs) (o ∷ os) (named.statement_and s ss)

  -- what `e` gives: nothing, one value, a tuple of several; `os` are variables that are made
  pub data HandsOver (e : Exp) : List ℕ → List ℕ → Statements → Type 0 where
    gives_nothing : {n : Node} → HandsOver e [] [] (named.statement_and (named.evaluates n e true) named.no_statement)
    one_assigned : {x y : ℕ} {s : Statement} → sight_of R x ≡ Some (sight y special) → MayBeAssigned A muts k x → AssignsTo y e s → HandsOver e (x ∷ []) [] (named.statement_and s named.no_statement)
    one_declared : {x o : ℕ} {n p : Node} {m : Bool} {t : Option Written} → sight_of R x ≡ None → is_place e ≡ false → HandsOver e (x ∷ []) (o ∷ []) (named.statement_and (named.lets n (named.bind p o m) t e) named.no_statement)
    several : {x z : ℕ} {xs os : List ℕ} {n p : Node} {ps : Patterns} {t : Option Written} {ts : Shapes Kind} {ss : Statements} → T.typ p.number ≡ tuple_of ts → is_place e ≡ false → BindsAll os ps
        → PutsBack (x ∷ z ∷ xs) os ss → HandsOver e (x ∷ z ∷ xs) os (named.statement_and (named.lets n (named.tuple_pattern p ps) t e) ss)

-- `let y;` for each, without a value
pub data DeclaresAll : List ℕ → Statements → Type 0 where
  declares_none : DeclaresAll [] named.no_statement
  declares_and : {y : ℕ} {ys : List ℕ} {n p : Node} {m : Bool} {t : Option Written} {ss : Statements} → DeclaresAll ys ss → DeclaresAll (y ∷ ys) (named.statement_and (named.declares n (named.bind p y m) t) ss)

-- What is asked of names where the call stands: of the variables outside, `R`, and those of the new function where the run ends there, `Rb`. What is
-- handed out is received in `os`, what is declared again is in `ys`.
pub record HandedNames (A : Asked) (muts : List Bool) (k : Plan) (R Rb : Renaming) (os ys : List ℕ) : Type 0 where
  -- no variable of the answer stands for two: the renaming of rx_engine_names is one to one
  pub one_to_one : OneToOne R
  -- what may be elsewhere is the plan's: so the renaming is chosen where variables begin
  pub all_special : (x y : ℕ) → sight_of R x ≡ Some (sight y special) → In x (special_of A muts k)
  -- of the plan by numbers (rx_exits_plan): what is handed out is listed once, what is declared again once, and apart
  pub outs_distinct : Distinct (k.outs next)
  pub apart : (x : ℕ) → In x k.redeclared → In x (k.outs next) → ⊥
  -- what is declared again is declared in the run, so it is not outside, and has begun in the new function
  pub unseen : AreUnseen R k.redeclared
  pub inside : AllSpecial Rb k.redeclared
  -- what is made is new, and apart: by the numbering of the function with the call (rx_engine_changed)
  pub received_new : AreNew R os
  pub redeclared_new : AreNew R ys
  pub made_apart : (y : ℕ) → In y ys → In y os → ⊥
  pub as_many : SameLength k.redeclared ys

-- what follows has these variables
abbrev pub behind_call : Plan → Renaming → List ℕ → List ℕ → Renaming
behind_call k R os ys = seen_so (handed_back R (k.outs next) os) k.redeclared (specials k.redeclared) ys

-- The statements `ss`, and `ds` behind them, hand over what `z` gives, where references are read in the answer.
pub data StandsForRun (T : Assigned) (A : Asked) (muts : List Bool) (k : Plan) (R Rb : Renaming) (z : tree.Exp) (ss ds : Statements) (Rn : Renaming) : Type 0 where
  stands_so : (f : Body → Body) → Handed A muts k R Rb z Rn f → ((b b' : Body) → RereadsBody b b' → RereadsBody (around T ss (around T ds b)) (f b')) → StandsForRun T A muts k R Rb z ss ds Rn
