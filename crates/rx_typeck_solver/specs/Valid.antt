-- What it means that an assignment is valid, that a demand is broken, and that a type isn't clear.
use Rattle.std.specs.Prelude.{◌≡◌, ◌⊎◌, ℕ, Bool, true, false, if◌then◌else◌, List, [], ◌∷◌}
use Rattle.rx_core.specs.declared.types.Kind.{Kind}
use Rattle.rx_core.specs.declared.types.Span.{Span}
use Rattle.rx_typed.specs.Types.{integer, peeled}
use Rattle.rx_typeck_solver.specs.declared.facts.Broken.{Broken}
use Rattle.rx_typeck_solver.specs.declared.facts.Subject.{Subject}
use Rattle.rx_typeck_solver.specs.declared.facts.Subject.TheVariants as subject
use Rattle.rx_typeck_solver.specs.declared.facts.Fact.{Fact}
use Rattle.rx_typeck_solver.specs.declared.facts.Fact.TheVariants as fact
use Rattle.rx_typeck_solver.specs.declared.facts.Demand.{Demand}
use Rattle.rx_typeck_solver.specs.Facts.{Assignment, KnownItems, MeetsAll, MeetsEach}

-- what the rules ask of a function, and its literals without a suffix, each by its node
pub record Task : Type 0 where
  pub demands : List Demand
  pub literals : List ℕ

-- the literals without a suffix of a list of demands
abbrev pub literals_of : List Demand → List ℕ
literals_of [] = []
literals_of (d ∷ ds) = if d.unsuffixed then d.node ∷ literals_of ds else literals_of ds

-- what a list of demands gives a type: what its facts are about
abbrev pub Tells : Fact → Subject → Type 0
Tells (fact.Equals y o xs ps) x = x ≡ y
Tells (fact.Integer n s) x = x ≡ subject.Node n
Tells _ x = ⊥

abbrev pub TellsAny : List Fact → Subject → Type 0
TellsAny [] x = ⊥
TellsAny (f ∷ fs) x = Tells f x ⊎ TellsAny fs x

abbrev pub Told : List Demand → Subject → Type 0
Told [] x = ⊥
Told (d ∷ ds) x = TellsAny d.facts x ⊎ Told ds x

abbrev pub IsIn : ℕ → List ℕ → Type 0
IsIn n [] = ⊥
IsIn n (m ∷ ms) = (n ≡ m) ⊎ IsIn n ms

module _ (D : KnownItems) (task : Task) where
  abbrev pub Typed : Assignment → Type 0
  Typed A = MeetsEach D A task.demands

  -- the integer type of a literal; that of a pattern may stand behind references
  abbrev pub HasKind : Assignment → ℕ → Kind → Type 0
  HasKind A n k = peeled (A (subject.Node n)) ≡ integer k

  -- two assignments give the literal different integer types
  pub record Open (n : ℕ) : Type 0 where
    pub literal : IsIn n task.literals
    pub one : Assignment
    pub other : Assignment
    pub typed_one : Typed one
    pub typed_other : Typed other
    pub differ : peeled (one (subject.Node n)) ≡ peeled (other (subject.Node n)) → ⊥

  pub record PrefersI32 (A : Assignment) : Type 0 where
    pub typed : Typed A
    pub prefers : (n : ℕ) → Open n → HasKind A n Kind.I32

  abbrev pub Agree : Assignment → Assignment → Type 0
  Agree A B = (x : Subject) → Told task.demands x → A x ≡ B x

  pub record Valid (A : Assignment) : Type 0 where
    pub prefers : PrefersI32 A
    pub only_one : (B : Assignment) → PrefersI32 B → Agree A B

  -- a chosen set of demands: those with the flag true
  abbrev pub MeetsChosen : List Bool → Assignment → List Demand → Type 0
  MeetsChosen [] A ds = Unit {0}
  MeetsChosen (b ∷ bs) A [] = Unit {0}
  MeetsChosen (true ∷ bs) A (d ∷ ds) = MeetsAll D A d.facts × MeetsChosen bs A ds
  MeetsChosen (false ∷ bs) A (d ∷ ds) = MeetsChosen bs A ds

  -- the demands of one rule at one node
  abbrev pub MeetsOne : ℕ → Broken → Assignment → List Demand → Type 0
  MeetsOne n r A [] = Unit {0}
  MeetsOne n r A (d ∷ ds) = (d.node ≡ n → d.broken ≡ r → MeetsAll D A d.facts) × MeetsOne n r A ds

  -- a node breaks a rule: some assignment meets a set of demands, and none meets them and those of this rule at this node
  pub record Breaks (n : ℕ) (r : Broken) : Type 0 where
    pub chosen : List Bool
    pub some : Assignment
    pub met : MeetsChosen chosen some task.demands
    pub none : (A : Assignment) → MeetsChosen chosen A task.demands → MeetsOne n r A task.demands → ⊥

  -- it isn't clear which type is meant: all demands can be met, no assignment is valid, and the node has a type, and is an
  -- open literal, or two assignments that prefer i32 give it different types
  pub record IsUnclear (n : ℕ) : Type 0 where
    pub some : Assignment
    pub typed : Typed some
    pub not_valid : (A : Assignment) → Valid A → ⊥
    pub told : Told task.demands (subject.Node n)
    pub at : Open n ⊎ ((A : Assignment) × (B : Assignment) × PrefersI32 A × PrefersI32 B × (A (subject.Node n) ≡ B (subject.Node n) → ⊥))

-- the span is that of a demand at the node
abbrev pub Asked : List Demand → ℕ → Span → Type 0
Asked [] n s = ⊥
Asked (d ∷ ds) n s = ((d.node ≡ n) × (d.span ≡ s)) ⊎ Asked ds n s
