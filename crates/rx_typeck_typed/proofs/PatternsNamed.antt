-- Naming types and patterns: a pattern's variables are those of the numbers that it adds, and none is known before its facts.
use Rattle.std.proofs.Common.{◌≡◌, ℕ, zero, suc, ◌≤◌, ◌<◌, IsTrue, List, [], ◌∷◌, ◌++◌, length, Option, Some, None, refl, ap, subst, ◌⊎◌, inl, inr, ⊎_elim, arith, ◌∙◌, sym}
use Rattle.rx_core.specs.declared.types.Span.{Span}
use Rattle.rx_tree.specs.declared.tree.Ident.{Ident}
use Rattle.rx_tree.specs.Plain as plain
use Rattle.rx_tree.specs.Plain.{TypeTree, TypeTrees, PatternTree, PatternTrees, FieldPatterns}
use Rattle.rx_resolve_names.specs.declared.resolved.NodeNames.{NodeNames}
use Rattle.rx_typed.specs.declared.nodes.Site.{Site}
use Rattle.rx_typed.specs.declared.nodes.Stage.{Stage}
use Rattle.rx_typed.specs.declared.nodes.Declaration.{Declaration}
use Rattle.rx_typed.specs.Naming.{Cursor, taken, an_entry, a_node, declare, is_known, lifetime_entry, of_type, of_types, of_optional_type, of_pattern, of_patterns, of_field_patterns}
use Rattle.rx_typed.specs.Elaborated.{variables, variables_in, variables_in_fields}
use Rattle.rx_typeck_solver.specs.Valid.{IsIn}
use Rattle.rx_typeck_typed.proofs.VariableLemmas.{KnownAt, known_behind}

-- these are the new variables, and none of them is known
pub record Names (c c' : Cursor) (xs : List ℕ) : Type 0 where
  pub unknown : (x : ℕ) → KnownAt c'.variables x → KnownAt c.variables x
  pub grows : c.declared ≤ c'.declared
  pub all : (x : ℕ) → c.declared ≤ x → x < c'.declared → IsIn x xs
  pub counts : c.declared ≡ length c.variables → c'.declared ≡ length c'.variables

in_left : (x : ℕ) (xs ys : List ℕ) → IsIn x xs → IsIn x (xs ++ ys)
in_left x [] ys i = absurd i
in_left x (z ∷ xs) ys (inl e) = inl e
in_left x (z ∷ xs) ys (inr i) = inr (in_left x xs ys i)

in_right : (x : ℕ) (xs ys : List ℕ) → IsIn x ys → IsIn x (xs ++ ys)
in_right x [] ys i = i
in_right x (z ∷ xs) ys i = inr (in_right x xs ys i)

less_or : (x n : ℕ) → (x < n) ⊎ (n ≤ x)
less_or zero zero = inr (omega arith)
less_or zero (suc n) = inl (omega arith)
less_or (suc x) zero = inr (omega arith)
less_or (suc x) (suc n) = ⊎_elim (λ h. inl (omega arith)) (λ h. inr (omega arith)) (less_or x n)

pub names_then : {c c1 c2 : Cursor} {xs ys : List ℕ} → Names c c1 xs → Names c1 c2 ys → Names c c2 (xs ++ ys)
names_then {c} {c1} {c2} {xs} {ys} a b = record {
  unknown = λ x k. a.unknown x (b.unknown x k);
  grows = let p = a.grows in let q = b.grows in omega arith;
  all = λ x l u. ⊎_elim (λ h. in_left x xs ys (a.all x l h)) (λ h. in_right x xs ys (b.all x h u)) (less_or x c1.declared);
  counts = λ e. b.counts (a.counts e);
}

pub same_names : {c c' : Cursor} → c'.variables ≡ c.variables → c'.declared ≡ c.declared → Names c c' []
same_names {c} {c'} e d = record {
  unknown = λ x k. subst (λ vs. KnownAt vs x) e k;
  grows = omega arith;
  all = λ x l u. absurd (omega arith);
  counts = λ i. d ∙ i ∙ ap (λ (vs : List Declaration). length vs) (sym e);
}

pub entry_variables : (ns : List NodeNames) (c : Cursor) → (taken ns c).1.variables ≡ c.variables
entry_variables [] c = refl
entry_variables (n ∷ ns) c = refl

pub entry_declared : (ns : List NodeNames) (c : Cursor) → (taken ns c).1.declared ≡ c.declared
entry_declared [] c = refl
entry_declared (n ∷ ns) c = refl

pub entry_names : (c : Cursor) → Names c (an_entry c).1 []
entry_names c = same_names (entry_variables c.names c) (entry_declared c.names c)

pub node_names : (s : Span) (t : Site) (c : Cursor) → Names c (a_node s t c).1 []
node_names s t c = same_names refl refl

pub longer_by : (vs : List Declaration) (d : Declaration) → length (vs ++ d ∷ []) ≡ suc (length vs)
longer_by [] d = refl
longer_by (v ∷ vs) d = ap suc (longer_by vs d)

pub declare_names : (d : Declaration) (c : Cursor) → (IsTrue (is_known d.stage) → ⊥) → Names c (declare d c).1 (c.declared ∷ [])
declare_names d c n = record {
  unknown = λ x k. ⊎_elim (λ h. h) (λ h. absurd (n h.1)) (known_behind c.variables d x k);
  grows = omega arith;
  all = λ x l u. inl (omega arith);
  counts = λ e. ap suc e ∙ sym (longer_by c.variables d);
}

-- ---- types

lifetime_names : (l : Option Ident) (c : Cursor) → Names c (lifetime_entry l c).1 []
lifetime_names None c = same_names refl refl
lifetime_names (Some l) c = entry_names c

mutual
  pub type_names : (t : TypeTree) (c : Cursor) → Names c (of_type t c).1 []
  type_names (plain.kind_type s k) c = same_names refl refl
  type_names (plain.bool_type s) c = same_names refl refl
  type_names (plain.tuple_type s ts) c = names_then (node_names s Site.Value c) (types_names ts _)
  type_names (plain.ref_type s l m t) c = names_then (node_names s Site.Value c) (names_then (lifetime_names l _) (type_names t _))
  type_names (plain.named_type s x ls) c = names_then (node_names s Site.Value c) (entry_names _)

  pub types_names : (ts : TypeTrees) (c : Cursor) → Names c (of_types ts c).1 []
  types_names plain.no_type c = same_names refl refl
  types_names (plain.type_and t ts) c = names_then (type_names t c) (types_names ts _)

pub optional_type_names : (t : Option TypeTree) (c : Cursor) → Names c (of_optional_type t c).1 []
optional_type_names None c = same_names refl refl
optional_type_names (Some t) c = type_names t c

-- ---- patterns

mutual
  pub pattern_names : (p : PatternTree) (c : Cursor) → Names c (of_pattern p c).1 (variables (of_pattern p c).0)
  pattern_names (plain.wild s) c = same_names refl refl
  pattern_names (plain.bind s x m) c = names_then (node_names s Site.Value c) (names_then (entry_names _) (declare_names (record { mutable = m; stage = Stage.Given }) _ (λ k. absurd (cc))))
  pattern_names (plain.int_pattern s g v k) c = same_names refl refl
  pattern_names (plain.bool_pattern s b) c = same_names refl refl
  pattern_names (plain.tuple_pattern s ps) c = names_then (node_names s Site.Value c) (patterns_names ps _)
  pattern_names (plain.variant_pattern s a v ps) c = names_then (node_names s Site.Value c) (names_then (entry_names _) (patterns_names ps _))
  pattern_names (plain.make_pattern s x fs) c = names_then (node_names s Site.Value c) (names_then (entry_names _) (field_patterns_names fs _))

  pub patterns_names : (ps : PatternTrees) (c : Cursor) → Names c (of_patterns ps c).1 (variables_in (of_patterns ps c).0)
  patterns_names plain.no_pattern c = same_names refl refl
  patterns_names (plain.pattern_and p ps) c = names_then (pattern_names p c) (patterns_names ps _)

  pub field_patterns_names : (fs : FieldPatterns) (c : Cursor) → Names c (of_field_patterns fs c).1 (variables_in_fields (of_field_patterns fs c).0)
  field_patterns_names plain.no_field_pattern c = same_names refl refl
  field_patterns_names (plain.field_pattern_and x p fs) c = names_then (pattern_names p c) (field_patterns_names fs _)
