-- What the rules of types ask of patterns (Rust Reference, "Patterns", "Binding modes").
use Rattle.std.specs.Prelude.{ℕ, suc, Bool, true, false, List, [], ◌∷◌, ◌++◌, Option}
use Rattle.rx_core.specs.declared.types.Kind.{Kind}
use Rattle.rx_typed.specs.declared.nodes.Node.{Node}
use Rattle.rx_typed.specs.declared.nodes.Site.{Site}
use Rattle.rx_typed.specs.Named as named
use Rattle.rx_typed.specs.Named.{Pattern, Patterns, FieldPatterns, Exp, pattern_node, node_of, is_place, root}
use Rattle.rx_typeck_solver.specs.declared.facts.Rule.{Rule}
use Rattle.rx_typeck_solver.specs.declared.facts.Broken.TheVariants as broken
use Rattle.rx_typeck_solver.specs.declared.facts.Subject.{Subject}
use Rattle.rx_typeck_solver.specs.declared.facts.Subject.TheVariants as subject
use Rattle.rx_typeck_solver.specs.declared.facts.Op.{Op}
use Rattle.rx_typeck_solver.specs.declared.facts.Op.TheVariants as op
use Rattle.rx_typeck_solver.specs.declared.facts.Test.{Test}
use Rattle.rx_typeck_solver.specs.declared.facts.Test.TheVariants as test
use Rattle.rx_typeck_solver.specs.declared.facts.Passing.{Passing}
use Rattle.rx_typeck_solver.specs.declared.facts.Fact.TheVariants as fact
use Rattle.rx_typeck_typed.specs.Asking.{Asking, ◌>>◌, nothing, asks, ask, ask_mutable, when, type_of, is, alike, passes, all, signed, fitting, with_suffix, is_open}
use Rattle.rx_typeck_typed.specs.rules.Places.{through}

-- what is matched: a value; a place; or a place at a coercion site, which is a value where it is reborrowed
pub data Matched : Type 0 where
  a_value : Matched
  -- the variable, the dereferences that it goes through
  a_place : ℕ → List Passing → Matched
  -- and its node
  an_initialiser : Node → ℕ → List Passing → Matched

abbrev pub matched_in : Site → Node → ℕ → List Passing → Matched
matched_in Site.Initialises n x ps = an_initialiser n x ps
matched_in _ n x ps = a_place x ps

abbrev pub matched_if : Bool → Node → ℕ → List Passing → Matched
matched_if true n x ps = matched_in n.site n x ps
matched_if false n x ps = a_value

abbrev pub matched : Exp → Matched
matched e = matched_if (is_place e) (node_of e) (root e).number (through e)

-- a binding moves nothing from behind a reference, and borrows nothing mutably through a shared one
abbrev pub binding_of : Node → List Passing → Matched → Asking
binding_of n anc a_value = nothing
binding_of n anc (a_place x qs) = ask n Rule.MoveOut (fact.Passes test.BindingKept (type_of n ∷ []) anc qs ∷ [])
    >> ask_mutable n x (fact.Passes test.BindingWritable [] anc qs)
binding_of n anc (an_initialiser e x qs) = ask n Rule.MoveOut (fact.Passes test.BindingKeptOrLent (type_of n ∷ type_of e ∷ []) anc qs ∷ [])
    >> ask_mutable n x (fact.Passes test.BindingWritableOrLent (type_of e ∷ []) anc qs)

-- `mut x` stands behind no reference
abbrev pub direct : Node → Bool → List Passing → Asking
direct n m anc = when m (ask n Rule.PatternOf (fact.Passes test.Direct [] anc [] ∷ []))

-- how many patterns
abbrev pub count : Patterns → ℕ
count named.no_pattern = 0
count (named.pattern_and p ps) = suc (count ps)

abbrev pub field_names : FieldPatterns → List (List ℕ)
field_names named.no_field_pattern = []
field_names (named.field_pattern_and x p fs) = x ∷ field_names fs

-- the references of the patterns round a part, the outermost first
abbrev pub under : Node → List Passing → List Passing
under n anc = anc ++ record { node = n.number; all = true } ∷ []

abbrev pub pattern_is : Node → Test → Asking
pattern_is n t = ask n Rule.PatternOf (passes t (type_of n ∷ []) ∷ [])

-- a minus stands before a literal of a signed kind alone
abbrev pub minus : Node → Bool → Asking
minus n g = when g (ask n Rule.PatternOf (fact.IntegerBehind n.number signed ∷ []))

-- a variable that a pattern declares
abbrev pub bound_at : Matched → List Passing → Node → ℕ → Bool → Asking
bound_at s anc n x m = ask n Rule.Equal (fact.Equals (subject.Variable x) op.Bound (type_of n ∷ []) anc ∷ [])
    >> ask n Rule.Parts (passes test.Limits (subject.Variable x ∷ []) ∷ []) >> direct n m anc >> binding_of n anc s

-- a literal: whether it is negative, the magnitude, the suffix
abbrev pub literal_at : Node → Bool → ℕ → Option Kind → Asking
literal_at n g v k = pattern_is n test.IntegerBehind >> minus n g >> ask n Rule.PatternOf (fact.IntegerBehind n.number (with_suffix k) ∷ [])
    >> asks n broken.Literal (is_open k) (fact.IntegerBehind n.number (fitting g v) ∷ [])

-- a part of a pattern has the type that is made of these
abbrev pub part_is : Node → Op → List Subject → Asking
part_is n o xs = ask n Rule.Equal (is (type_of n) o xs ∷ [])

-- the type of a pattern's node is that of what it is matched against; the whole pattern gives it to the parts
abbrev mutual
  pub of_pattern : Matched → List Passing → Pattern → Asking
  of_pattern s anc (named.wild n) = nothing
  of_pattern s anc (named.bind n x m) = bound_at s anc n x m
  of_pattern s anc (named.whole_number n g v k) = literal_at n g v k
  of_pattern s anc (named.truth n b) = pattern_is n test.TruthBehind
  of_pattern s anc (named.tuple_pattern n ps) = pattern_is n (test.TupleBehind (count ps)) >> of_parts s (under n anc) n 0 ps
  of_pattern s anc (named.variant_pattern n i v ps) = pattern_is n (test.ItemBehind i)
      >> ask n Rule.Count (passes (test.Holds i v (count ps)) [] ∷ []) >> of_variant_parts s (under n anc) i v 0 ps
  of_pattern s anc (named.struct_pattern n i fs) = pattern_is n (test.ItemBehind i)
      >> ask n Rule.Fields (passes (test.HasFields i (field_names fs)) [] ∷ []) >> of_field_patterns s (under n anc) i fs

  -- the parts of a tuple at a node, from a number on
  pub of_parts : Matched → List Passing → Node → ℕ → Patterns → Asking
  of_parts s anc n k named.no_pattern = nothing
  of_parts s anc n k (named.pattern_and p ps) = part_is (pattern_node p) (op.Part k) (type_of n ∷ [])
      >> of_pattern s anc p >> of_parts s anc n (suc k) ps

  pub of_variant_parts : Matched → List Passing → ℕ → ℕ → ℕ → Patterns → Asking
  of_variant_parts s anc i v k named.no_pattern = nothing
  of_variant_parts s anc i v k (named.pattern_and p ps) = part_is (pattern_node p) (op.PartOf i v k) []
      >> of_pattern s anc p >> of_variant_parts s anc i v (suc k) ps

  pub of_field_patterns : Matched → List Passing → ℕ → FieldPatterns → Asking
  of_field_patterns s anc i named.no_field_pattern = nothing
  of_field_patterns s anc i (named.field_pattern_and x p fs) = part_is (pattern_node p) (op.FieldOf i x) []
      >> of_pattern s anc p >> of_field_patterns s anc i fs

-- a tuple, a variant and a struct at a node
abbrev pub tuple_at : Matched → List Passing → Node → Patterns → Asking
tuple_at s anc n ps = pattern_is n (test.TupleBehind (count ps)) >> of_parts s (under n anc) n 0 ps

abbrev pub variant_at : Matched → List Passing → Node → ℕ → ℕ → Patterns → Asking
variant_at s anc n i v ps = pattern_is n (test.ItemBehind i) >> ask n Rule.Count (passes (test.Holds i v (count ps)) [] ∷ [])
    >> of_variant_parts s (under n anc) i v 0 ps

abbrev pub struct_at : Matched → List Passing → Node → ℕ → FieldPatterns → Asking
struct_at s anc n i fs = pattern_is n (test.ItemBehind i) >> ask n Rule.Fields (passes (test.HasFields i (field_names fs)) [] ∷ [])
    >> of_field_patterns s (under n anc) i fs

-- a part of a pattern that has the type that is made of these
abbrev pub part_with : Matched → List Passing → Op → List Subject → Pattern → Asking
part_with s anc o xs p = part_is (pattern_node p) o xs >> of_pattern s anc p

-- a whole pattern, matched against what has the type of a subject
abbrev pub whole_pattern : Matched → Subject → Pattern → Asking
whole_pattern s x p = ask (pattern_node p) Rule.Equal (alike (type_of (pattern_node p)) x ∷ []) >> of_pattern s [] p
