-- Types, patterns and callees begin no loops, neither where they are resolved nor where they are numbered; a pattern's variables have the
-- next numbers, one by one.
use Rattle.std.proofs.Common.{◌≡◌, ℕ, suc, ◌+◌, ◌≤◌, true, List, [], ◌∷◌, ◌++◌, length, map, slice_get, Option, Some, None, Ok, refl, sym, ap, ◌∙◌, subst, length-append, arith}
use Rattle.rx_tree.specs.declared.tree.Ident.{Ident}
use Rattle.rx_tree.specs.Plain as plain
use Rattle.rx_tree.specs.Plain.{TypeTree, TypeTrees, PatternTree, PatternTrees, FieldPatterns}
use Rattle.rx_tree.specs.Positions.{a_pattern, optional_type_nodes}
use Rattle.rx_tree.specs.Nodes.{below_pattern, within_patterns, within_field_patterns}
use Rattle.rx_resolve_names.specs.Scopes.{DeclaredNames}
use Rattle.rx_resolve_names.specs.declared.resolved.ItemNames.{ItemNames}
use Rattle.rx_resolve_names.specs.declared.resolved.NodeNames.{NodeNames}
use Rattle.rx_resolve_names.specs.Meant.{number}
use Rattle.rx_resolve_names.specs.Steps.{Outcome, Naming, ◌>>◌, nothing, Inside, declare, child, next, with_variable, position, entry, with_names, numbered, names}
use Rattle.rx_resolve_names.specs.Names.{in_lifetime, in_type, in_types, Bound, Binding, binds, also, in_order, in_pattern, in_patterns, in_field_patterns, callee, in_optional_type}
use Rattle.rx_typed.specs.declared.nodes.Site.{Site}
use Rattle.rx_typed.specs.Naming as numbering
use Rattle.rx_typed.specs.Naming.{Cursor, a_node, an_entry, taken, of_type, of_types, of_pattern, of_patterns, of_field_patterns}
use Rattle.rx_typed.specs.Elaborated.{variables, variables_in, variables_in_fields}
use Rattle.rx_lower_walks.specs.Walks.{Among, here, there}
use Rattle.rx_hoist_nodes.specs.Nodes.{within, within_all}
use Rattle.rx_hoist_naming.specs.DeclaredNames.{names_bound}
use Rattle.rx_hoist_extraction.specs.Names as extraction
use Rattle.rx_hoist_extraction.specs.Names.{bound, all_bound, fields_bound}
use Rattle.rx_hoist_naming.proofs.Steps.{named_ok, the_same, bound_append}
use Rattle.rx_hoist_blocks.proofs.Children.{no_child}
use Rattle.rx_hoist_blocks.proofs.Parts as parts
use Rattle.rx_hoist_meant.proofs.Steps.{entry_loops}

-- ---- resolving

abbrev pub Keeps : Naming → Type 0
Keeps f = (t t' : ItemNames) → f t ≡ Ok t' → length t'.loops ≡ length t.loops

abbrev pub BindingKeeps : Binding → Type 0
BindingKeeps f = (b b' : Bound) → f b ≡ Ok b' → length b'.tables.loops ≡ length b.tables.loops

nothing_keeps : Keeps nothing
nothing_keeps t t' e = ap (λ (z : ItemNames). length z.loops) (sym (the_same t t' e))

then_keeps : (f g : Naming) → Keeps f → Keeps g → Keeps (f >> g)
then_keeps f g p q t t' e = let a = named_ok (f t) g t' e in q a.0 t' a.2 ∙ p t a.0 a.1

pub numbered_keeps : (I : Inside) (at ns : List ℕ) → Keeps (numbered I at ns)
numbered_keeps I at [] t t' e = nothing_keeps t t' e
numbered_keeps I at (n ∷ ns) t t' e = ap (λ (z : ItemNames). length z.loops) (sym (the_same (with_names (entry I at (n ∷ ns)) t) t' e))

pub names_keep : (I : Inside) (at : List ℕ) (r : Outcome (List ℕ)) → Keeps (names I at r)
names_keep I at r t t' e = let a = named_ok r (λ ns. numbered I at ns t) t' e in numbered_keeps I at a.0 t t' a.2

lifetime_keeps : (I : Inside) (at : List ℕ) (l : Option Ident) → Keeps (in_lifetime I at l)
lifetime_keeps I at None = nothing_keeps
lifetime_keeps I at (Some l) = names_keep I at _

mutual
  pub type_keeps : (I : Inside) (at : List ℕ) (y : TypeTree) → Keeps (in_type I at y)
  type_keeps I at (plain.kind_type s k) = nothing_keeps
  type_keeps I at (plain.bool_type s) = nothing_keeps
  type_keeps I at (plain.tuple_type s ts) = types_keep I at 0 ts
  type_keeps I at (plain.ref_type s l m y) = then_keeps _ _ (lifetime_keeps I at l) (type_keeps I (child at 0) y)
  type_keeps I at (plain.named_type s x ls) = names_keep I at _

  types_keep : (I : Inside) (at : List ℕ) (i : ℕ) (ys : TypeTrees) → Keeps (in_types I at i ys)
  types_keep I at i plain.no_type = nothing_keeps
  types_keep I at i (plain.type_and y ys) = then_keeps _ _ (type_keeps I (child at i) y) (types_keep I at (next i) ys)

pub optional_type_keeps : (I : Inside) (at : List ℕ) (y : Option TypeTree) → Keeps (in_optional_type I at y)
optional_type_keeps I at None = nothing_keeps
optional_type_keeps I at (Some y) = type_keeps I at y

also_keeps : (f : Naming) → Keeps f → BindingKeeps (also f)
also_keeps f g b b' e =
    let to : ItemNames → Bound = λ t. record { bindings = b.bindings; tables = t } in
    let a = named_ok (f b.tables) (λ t. Ok (to t)) b' e in
    ap (λ (z : Bound). length z.tables.loops) (sym (the_same (to a.0) b' a.2)) ∙ g b.tables a.0 a.1

order_keeps : (f g : Binding) → BindingKeeps f → BindingKeeps g → BindingKeeps (in_order f g)
order_keeps f g p q b b' e = let a = named_ok (f b) g b' e in q a.0 b' a.2 ∙ p b a.0 a.1

binds_keeps : (I : Inside) (at : List ℕ) (x : Ident) → BindingKeeps (binds I at x)
binds_keeps I at x b b' e =
    let n = length b.tables.vars in
    let to : DeclaredNames → Bound = λ ds. record { bindings = ds; tables = with_names (entry I at (number n ∷ [])) (with_variable x.span b.tables) } in
    let a = named_ok (declare b.bindings x n) (λ ds. Ok (to ds)) b' e in
    ap (λ (z : Bound). length z.tables.loops) (sym (the_same (to a.0) b' a.2))

mutual
  pub pattern_keeps : (I : Inside) (at : List ℕ) (p : PatternTree) → BindingKeeps (in_pattern I at p)
  pattern_keeps I at (plain.wild s) = also_keeps nothing nothing_keeps
  pattern_keeps I at (plain.bind s x m) = binds_keeps I at x
  pattern_keeps I at (plain.int_pattern s g v k) = also_keeps nothing nothing_keeps
  pattern_keeps I at (plain.bool_pattern s b) = also_keeps nothing nothing_keeps
  pattern_keeps I at (plain.tuple_pattern s ps) = patterns_keep I at 0 ps
  pattern_keeps I at (plain.variant_pattern s a v ps) = order_keeps _ _ (also_keeps _ (names_keep I at _)) (patterns_keep I at 0 ps)
  pattern_keeps I at (plain.make_pattern s x fs) = order_keeps _ _ (also_keeps _ (names_keep I at _)) (field_patterns_keep I at 0 fs)

  patterns_keep : (I : Inside) (at : List ℕ) (i : ℕ) (ps : PatternTrees) → BindingKeeps (in_patterns I at i ps)
  patterns_keep I at i plain.no_pattern = also_keeps nothing nothing_keeps
  patterns_keep I at i (plain.pattern_and p ps) = order_keeps _ _ (pattern_keeps I (child at i) p) (patterns_keep I at (next i) ps)

  field_patterns_keep : (I : Inside) (at : List ℕ) (i : ℕ) (fs : FieldPatterns) → BindingKeeps (in_field_patterns I at i fs)
  field_patterns_keep I at i plain.no_field_pattern = also_keeps nothing nothing_keeps
  field_patterns_keep I at i (plain.field_pattern_and x p fs) = order_keeps _ _ (pattern_keeps I (child at i) p) (field_patterns_keep I at (next i) fs)

pub callee_keeps : (I : Inside) (at : List ℕ) (x : Ident) (v : Option ℕ) → Keeps (callee I at x v)
callee_keeps I at x (Some n) t t' e = ap (λ (z : ItemNames). length z.loops) (sym (the_same (with_names (record { node = position I at; numbers = n ∷ []; hidden = true }) t) t' e))
callee_keeps I at x None t t' e = names_keep I at _ t t' e

-- ---- numbering

abbrev L : Cursor → ℕ
L c = length c.loops

lifetime_still : (l : Option Ident) (c : Cursor) → L (numbering.lifetime_entry l c).1 ≡ L c
lifetime_still None c = refl
lifetime_still (Some l) c = entry_loops c

mutual
  pub type_still : (y : TypeTree) (c : Cursor) → L (of_type y c).1 ≡ L c
  type_still (plain.kind_type s k) c = refl
  type_still (plain.bool_type s) c = refl
  type_still (plain.tuple_type s ts) c = types_still ts (a_node s Site.Value c).1
  type_still (plain.ref_type s l m y) c = type_still y (numbering.lifetime_entry l (a_node s Site.Value c).1).1 ∙ lifetime_still l (a_node s Site.Value c).1
  type_still (plain.named_type s x ls) c = entry_loops (a_node s Site.Value c).1

  types_still : (ys : TypeTrees) (c : Cursor) → L (of_types ys c).1 ≡ L c
  types_still plain.no_type c = refl
  types_still (plain.type_and y ys) c = types_still ys (of_type y c).1 ∙ type_still y c

pub optional_type_still : (y : Option TypeTree) (c : Cursor) → L (numbering.of_optional_type y c).1 ≡ L c
optional_type_still None c = refl
optional_type_still (Some y) c = type_still y c

mutual
  pub pattern_still : (p : PatternTree) (c : Cursor) → L (of_pattern p c).1 ≡ L c
  pattern_still (plain.wild s) c = refl
  pattern_still (plain.bind s x m) c = entry_loops (a_node s Site.Value c).1
  pattern_still (plain.int_pattern s g v k) c = refl
  pattern_still (plain.bool_pattern s b) c = refl
  pattern_still (plain.tuple_pattern s ps) c = patterns_still ps (a_node s Site.Value c).1
  pattern_still (plain.variant_pattern s a v ps) c = patterns_still ps (an_entry (a_node s Site.Value c).1).1 ∙ entry_loops (a_node s Site.Value c).1
  pattern_still (plain.make_pattern s x fs) c = field_patterns_still fs (an_entry (a_node s Site.Value c).1).1 ∙ entry_loops (a_node s Site.Value c).1

  patterns_still : (ps : PatternTrees) (c : Cursor) → L (of_patterns ps c).1 ≡ L c
  patterns_still plain.no_pattern c = refl
  patterns_still (plain.pattern_and p ps) c = patterns_still ps (of_pattern p c).1 ∙ pattern_still p c

  field_patterns_still : (fs : FieldPatterns) (c : Cursor) → L (of_field_patterns fs c).1 ≡ L c
  field_patterns_still plain.no_field_pattern c = refl
  field_patterns_still (plain.field_pattern_and x p fs) c = field_patterns_still fs (of_pattern p c).1 ∙ pattern_still p c

-- ---- how many nodes

pub pattern_size : (p : PatternTree) (c : Cursor) → (of_pattern p c).1.number ≡ c.number + length (within (a_pattern p))
pattern_size p c = (parts.pattern_walked p c (λ a. [])).size

pub type_size : (y : Option TypeTree) (c : Cursor) → (numbering.of_optional_type y c).1.number ≡ c.number + length (within_all (optional_type_nodes y))
type_size None c = omega arith
type_size (Some y) c = let w = (parts.type_row (Some y) c (λ a. []) [] _ (no_child _ (λ a. []))).size in w

-- ---- the numbers of a pattern's variables

abbrev pub from : {A : Type 0} → ℕ → List A → List ℕ
from n [] = []
from n (x ∷ xs) = n ∷ from (suc n) xs

from_both : {A : Type 0} (n m : ℕ) (xs ys : List A) → m ≡ n + length xs → from n (xs ++ ys) ≡ from n xs ++ from m ys
from_both n m [] ys e = let s : n ≡ m = omega (arith, e) in ap (λ (k : ℕ). from k ys) s
from_both n m (x ∷ xs) ys e = ap (λ (l : List ℕ). n ∷ l) (from_both (suc n) m xs ys (omega (arith, e)))

taken_declared : (ns : List NodeNames) (c : Cursor) → (taken ns c).1.declared ≡ c.declared
taken_declared [] c = refl
taken_declared (n ∷ ns) c = refl

pub entry_declared : (c : Cursor) → (an_entry c).1.declared ≡ c.declared
entry_declared c = taken_declared c.names c

pub record Numbers (xs : extraction.Names) (vs : List ℕ) (c c' : Cursor) : Type 0 where
  pub each : vs ≡ from c.declared xs
  pub behind : c'.declared ≡ c.declared + length xs

no_numbers : (c : Cursor) → Numbers [] [] c c
no_numbers c = record { each = refl; behind = omega arith }

numbers_at : {xs : extraction.Names} {vs : List ℕ} {c d c' : Cursor} → d.declared ≡ c.declared → Numbers xs vs d c' → Numbers xs vs c c'
numbers_at {xs} e h = record { each = h.each ∙ ap (λ (n : ℕ). from n xs) e; behind = h.behind ∙ ap (λ (n : ℕ). n + length xs) e }

two_numbers : {xs ys : extraction.Names} {vs ws : List ℕ} {c d c' : Cursor} → Numbers xs vs c d → Numbers ys ws d c' → Numbers (xs ++ ys) (vs ++ ws) c c'
two_numbers {xs} {ys} {vs} {ws} {c} {d} {c'} g h = record {
  each = (λ j. g.each j ++ h.each j) ∙ sym (from_both c.declared d.declared xs ys g.behind);
  behind = let a = g.behind in let b = h.behind in let l = length-append xs ys in omega (arith, a, b, l);
}

mutual
  pub pattern_numbers : (p : PatternTree) (c : Cursor) → Numbers (bound p) (variables (of_pattern p c).0) c (of_pattern p c).1
  pattern_numbers (plain.wild s) c = record { each = refl; behind = omega arith }
  pattern_numbers (plain.bind s x m) c =
      let e = entry_declared (a_node s Site.Value c).1 in
      record { each = ap (λ (n : ℕ). n ∷ []) e; behind = omega (arith, e) }
  pattern_numbers (plain.int_pattern s g v k) c = record { each = refl; behind = omega arith }
  pattern_numbers (plain.bool_pattern s b) c = record { each = refl; behind = omega arith }
  pattern_numbers (plain.tuple_pattern s ps) c = numbers_at refl (patterns_numbers ps (a_node s Site.Value c).1)
  pattern_numbers (plain.variant_pattern s a v ps) c = numbers_at (entry_declared (a_node s Site.Value c).1) (patterns_numbers ps (an_entry (a_node s Site.Value c).1).1)
  pattern_numbers (plain.make_pattern s x fs) c = numbers_at (entry_declared (a_node s Site.Value c).1) (field_patterns_numbers fs (an_entry (a_node s Site.Value c).1).1)

  patterns_numbers : (ps : PatternTrees) (c : Cursor) → Numbers (all_bound ps) (variables_in (of_patterns ps c).0) c (of_patterns ps c).1
  patterns_numbers plain.no_pattern c = no_numbers c
  patterns_numbers (plain.pattern_and p ps) c = two_numbers (pattern_numbers p c) (patterns_numbers ps (of_pattern p c).1)

  field_patterns_numbers : (fs : FieldPatterns) (c : Cursor) → Numbers (fields_bound fs) (variables_in_fields (of_field_patterns fs c).0) c (of_field_patterns fs c).1
  field_patterns_numbers plain.no_field_pattern c = no_numbers c
  field_patterns_numbers (plain.field_pattern_and x p fs) c = two_numbers (pattern_numbers p c) (field_patterns_numbers fs (of_pattern p c).1)

-- ---- the names that the nodes of a pattern bind

mutual
  pub nodes_bind : (p : PatternTree) → names_bound (a_pattern p ∷ below_pattern p) ≡ bound p
  nodes_bind (plain.wild s) = refl
  nodes_bind (plain.bind s x m) = refl
  nodes_bind (plain.int_pattern s g v k) = refl
  nodes_bind (plain.bool_pattern s b) = refl
  nodes_bind (plain.tuple_pattern s ps) = all_bind ps
  nodes_bind (plain.variant_pattern s a v ps) = all_bind ps
  nodes_bind (plain.make_pattern s x fs) = fields_bind fs

  all_bind : (ps : PatternTrees) → names_bound (within_patterns ps) ≡ all_bound ps
  all_bind plain.no_pattern = refl
  all_bind (plain.pattern_and p ps) = bound_append (a_pattern p ∷ below_pattern p) (within_patterns ps) ∙ (λ j. nodes_bind p j ++ all_bind ps j)

  fields_bind : (fs : FieldPatterns) → names_bound (within_field_patterns fs) ≡ fields_bound fs
  fields_bind plain.no_field_pattern = refl
  fields_bind (plain.field_pattern_and x p fs) = bound_append (a_pattern p ∷ below_pattern p) (within_field_patterns fs) ∙ (λ j. nodes_bind p j ++ fields_bind fs j)

-- ---- those from a number on

pub from_least : {A : Type 0} (n : ℕ) (xs : List A) (x : ℕ) → Among x (from n xs) → n ≤ x
from_least n [] x i = absurd (elim i [ ])
from_least n (y ∷ ys) x i = by i (λ k. from_least (suc n) ys x k) refl
  where
    by : {m : ℕ} → Among x (m ∷ from (suc n) ys) → (Among x (from (suc n) ys) → suc n ≤ x) → m ≡ n → n ≤ x
    by here on e = omega (arith, e)
    by (there k) on e = let l = on k in omega (arith, l)

pub from_most : {A : Type 0} (n : ℕ) (xs : List A) (x : ℕ) → Among x (from n xs) → suc x ≤ n + length xs
from_most n [] x i = absurd (elim i [ ])
from_most n (y ∷ ys) x i = by i (λ k. from_most (suc n) ys x k) refl
  where
    by : {m : ℕ} → Among x (m ∷ from (suc n) ys) → (Among x (from (suc n) ys) → suc x ≤ suc n + length ys) → m ≡ n → suc x ≤ n + suc (length ys)
    by here on e = omega (arith, e)
    by (there k) on e = let l = on k in omega (arith, l)

pub words_from : (names xs : extraction.Names) (n : ℕ) → ((k : ℕ) (x : List ℕ) → slice_get xs k ≡ Some x → slice_get names (n + k) ≡ Some x) → map (λ (k : ℕ). slice_get names k) (from n xs) ≡ map (λ (x : List ℕ). Some x) xs
words_from names [] n h = refl
words_from names (x ∷ xs) n h =
    let zero_is : n + 0 ≡ n = omega arith in
    let first : slice_get names n ≡ Some x = subst (λ (k : ℕ). slice_get names k ≡ Some x) zero_is (h 0 x refl) in
    let rest = words_from names xs (suc n) (λ k y e. let on : n + suc k ≡ suc n + k = omega arith in subst (λ (j : ℕ). slice_get names j ≡ Some y) on (h (suc k) y e)) in
    (λ j. first j ∷ rest j)
