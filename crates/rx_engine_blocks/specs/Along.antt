-- Assignments of types that correspond by other numbers.
use Rattle.std.specs.Prelude.{◌≡◌, ℕ, Bool, true, false, Option, Some, None, option_map}
use Rattle.rx_typeck_solver.specs.declared.facts.Subject.{Subject}
use Rattle.rx_typeck_solver.specs.declared.facts.Subject.TheVariants as subject
use Rattle.rx_typed.specs.Types.{Typ, reference}
use Rattle.rx_typeck_solver.specs.Facts.{Assignment}
use Rattle.rx_engine_blocks.specs.Renumbering.{Renumbering, shape_at, subject_at}

module _ (r : Renumbering) where
  -- each type of the text is that of the answer
  abbrev pub Along : Assignment → Assignment → Type 0
  Along A A' = (x : Subject) → A' (subject_at r x) ≡ shape_at r (A x)

  -- nodes and variables can be numbered back
  pub record Inverse : Type 0 where
    pub unnode : ℕ → ℕ
    pub unnoded : (n : ℕ) → unnode (r.nodes n) ≡ n
    pub unvariable : ℕ → ℕ
    pub unvaried : (x : ℕ) → unvariable (r.variables x) ≡ x

  abbrev pub unsubject : Inverse → Subject → Subject
  unsubject i (subject.Variable x) = subject.Variable (i.unvariable x)
  unsubject i (subject.Node n) = subject.Node (i.unnode n)
  unsubject i (subject.Expected n) = subject.Expected (i.unnode n)

  abbrev pub renumbered_types : Inverse → Assignment → Assignment
  renumbered_types i A x = shape_at r (A (unsubject i x))

  -- those that come from the text can be
  pub record PartialInverse : Type 0 where
    pub node : ℕ → Option ℕ
    pub node_there : (n : ℕ) → node (r.nodes n) ≡ Some n
    pub variable : ℕ → Option ℕ
    pub variable_there : (x : ℕ) → variable (r.variables x) ≡ Some x
    pub variable_back : (y x : ℕ) → variable y ≡ Some x → y ≡ r.variables x

  abbrev pub subject_back : PartialInverse → Subject → Option Subject
  subject_back u (subject.Variable y) = option_map subject.Variable (u.variable y)
  subject_back u (subject.Node n) = option_map subject.Node (u.node n)
  subject_back u (subject.Expected n) = option_map subject.Expected (u.node n)

-- what the answer has as a shared reference where the text has a mutable one
abbrev pub Viewed : Type 0
Viewed = Subject → Bool

abbrev pub none_viewed : Viewed
none_viewed x = false

abbrev pub shared : Bool → Typ → Typ
shared true (reference m t) = reference false t
shared _ t = t

-- each type of the text is that of the answer, but for what is viewed
abbrev pub Sees : Renumbering → Viewed → Assignment → Assignment → Type 0
Sees r view A A' = (x : Subject) → A' (subject_at r x) ≡ shared (view x) (shape_at r (A x))

-- what is viewed is a mutable reference in the text
abbrev pub MutableAt : Viewed → Assignment → Type 0
MutableAt view A = (x : Subject) → view x ≡ true → (t : Typ) × (A x ≡ reference true t)

-- the text's type of what comes from the text, as it is seen there, else the answer's own
abbrev pub text_or : Renumbering → Viewed → Option Subject → Assignment → Typ → Typ
text_or r view None A t = t
text_or r view (Some x) A t = shared (view x) (shape_at r (A x))

abbrev pub composed : (r : Renumbering) → PartialInverse r → Viewed → Assignment → Assignment → Assignment
composed r u view A V y = text_or r view (subject_back r u y) A (V y)
