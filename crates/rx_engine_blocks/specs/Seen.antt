-- A variable that the answer has behind a reference: `x` of the text is `*y` of the answer. What both ask.
use Rattle.std.specs.Prelude.{◌≡◌, ℕ, Bool, false, List, [], ◌∷◌, ◌++◌, map, Some, None}
use Rattle.rx_core.specs.declared.types.Span.{Span}
use Rattle.rx_typeck_solver.specs.declared.facts.Broken.{Broken}
use Rattle.rx_typeck_solver.specs.declared.facts.Subject.{Subject}
use Rattle.rx_typeck_solver.specs.declared.facts.Subject.TheVariants as subject
use Rattle.rx_typeck_solver.specs.declared.facts.Passing.{Passing}
use Rattle.rx_typeck_solver.specs.declared.facts.Op.TheVariants as op
use Rattle.rx_typeck_solver.specs.declared.facts.Test.{Test}
use Rattle.rx_typeck_solver.specs.declared.facts.Test.TheVariants as test
use Rattle.rx_typeck_solver.specs.declared.facts.Fact.{Fact}
use Rattle.rx_typeck_solver.specs.declared.facts.Fact.TheVariants as fact
use Rattle.rx_typeck_solver.specs.declared.facts.Demand.{Demand}
use Rattle.rx_engine_blocks.specs.Renumbering.{Renumbering, subject_at, passing_at}
use Rattle.rx_engine_blocks.specs.Along.{PartialInverse, Viewed}
use Rattle.rx_engine_blocks.specs.Blocks.{Behind}

abbrev pub a_demand : ℕ → Span → Broken → Fact → Demand
a_demand n s b f = record { node = n; span = s; broken = b; unsuffixed = false; facts = f ∷ [] }

-- what a node asks that is a variable
abbrev pub of_variable : ℕ → Span → Broken → ℕ → Demand
of_variable n s b x = a_demand n s b (fact.Equals (subject.Node n) op.Same (subject.Variable x ∷ []) [])

-- and one that is what a node leads to
abbrev pub of_reference : ℕ → Span → Broken → ℕ → Demand
of_reference n s b k = a_demand n s b (fact.Equals (subject.Node n) op.Pointee (subject.Node k ∷ []) [])

-- a test with the dereference of the node `k` behind the others
abbrev pub longer_test : Renumbering → Test → List Subject → List Passing → List Passing → ℕ → Fact
longer_test r t' xs anc ps k = fact.Passes t' (map (subject_at r) xs) (map (passing_at r) anc) (map (passing_at r) ps ++ record { node = k; all = false } ∷ [])

pub data SeenDemands (r : Renumbering) (u : PartialInverse r) (view : Viewed) (behind : Behind) : List Demand → List Demand → Type 0 where
  -- the variable, with a new node inside
  seen_variable : {n x y k : ℕ} {s s' t : Span} {b c e : Broken} → behind x ≡ Some y → u.node k ≡ None → view (subject.Node n) ≡ false
      → SeenDemands r u view behind (of_variable n s b x ∷ []) (of_variable k s' c y ∷ of_reference (r.nodes n) t e k ∷ [])
  -- a test of a place that stands on it
  longer : {n : ℕ} {s s' : Span} {b c : Broken} {t t' : Test} (xs : List Subject) (anc ps : List Passing) (k : ℕ)
      → SeenDemands r u view behind (a_demand n s b (fact.Passes t xs anc ps) ∷ []) (a_demand (r.nodes n) s' c (longer_test r t' xs anc ps k) ∷ [])
  -- the whole variable is assigned
  assigned : (n : ℕ) {s : Span} {c : Broken} {own : Bool} {qs : List Passing} → SeenDemands r u view behind [] (a_demand (r.nodes n) s c (fact.Passes (test.Writable own) [] [] qs) ∷ [])
