-- The program with a short signature is one, and the same apart from lifetimes.
use Rattle.std.proofs.Common.{◌≡◌, ℕ, zero, suc, Bool, List, [], ◌∷◌, map, Option, Result, Ok, slice_get, refl, sym, ap, ap₂, ◌∙◌, subst}
use mathlib.Core.Path.{fun_ext}
use Rattle.std.specs.Prelude.{filter}
use Rattle.std.proofs.lemmas.Bool.{and_from}
use Rattle.std.proofs.lemmas.Bool.Decides.{same_from_decides}
use Rattle.rx_tree.specs.declared.tree.BoundLifetime.{BoundLifetime}
use Rattle.rx_tree.specs.Plain as plain
use Rattle.rx_tree.specs.Plain.{Function, ItemTree, ProgramTree}
use Rattle.rx_typed.specs.declared.declarations.Decl.{Decl}
use Rattle.rx_typeck_typed.specs.Items.{declared_items}
use Rattle.rx_graph_cycles.specs.Reaches.{IsIn}
use Rattle.rx_compact_lifetimes.specs.Bare.{bare_function, bare_item}
use Rattle.rx_compact_lifetimes.specs.Merged.{merged, mergings_of, first_numbers, IsPreorder}
use Rattle.rx_compact_lifetimes.specs.Elided.{elisions, stays, in_body}
use Rattle.rx_compact_lifetimes.proofs.Bared.{bare_merged_by, bare_elided_by}
use Rattle.rx_compact_lifetimes.proofs.Firsts.{none_equal}
use Rattle.rx_compact.specs.Outliving.{Outlives, itself, by, is_single}
use Rattle.rx_compact.specs.Compacted.{compacted_function, compacted_item, compacted, Tells, IsCompacted}

-- ---- one

ok_is : {A E : Type 0} (a b : A) → ◌≡◌ {A = Result A E} (Ok a) (Ok b) → a ≡ b
ok_is a b e = cc

told_alike : (D : List Decl) (i : ℕ) (o u : ℕ → ℕ → Bool) → Tells D i o → Tells D i u → o ≡ u
told_alike D i o u a b = fun_ext (λ l. fun_ext (λ k. same_from_decides (o l k) (u l k) (a l k) (b l k)))

pub one : (p : ProgramTree) (i : ℕ) (q r : ProgramTree) → IsCompacted p i q → IsCompacted p i r → q ≡ r
one p i q r a b =
    let n : a.names ≡ b.names = ok_is a.names b.names (sym a.meant.names_are ∙ b.meant.names_are) in
    let d : a.declared ≡ b.declared = ok_is a.declared b.declared (sym a.declares.items ∙ subst (λ ns. declared_items p ns 0 p ≡ Ok b.declared) (sym n) b.declares.items) in
    let o : a.outlives ≡ b.outlives = told_alike b.declared i a.outlives b.outlives (subst (λ D. Tells D i a.outlives) d a.tells) b.tells in
    a.same ∙ (ap₂ (λ u D. compacted u (is_single (slice_get D i)) p i) o d ∙ sym b.same)

-- ---- the same apart from lifetimes

bare_compacted : (o : ℕ → ℕ → Bool) (b : Bool) (f : Function) → bare_function (compacted_function o b f) ≡ bare_function f
bare_compacted o b f =
    let m = merged o f in
    bare_elided_by (elisions b (in_body m.body) m) (filter (stays b (in_body m.body) m) m.lifetimes) m
    ∙ bare_merged_by (mergings_of o f) f

item_alike : (o : ℕ → ℕ → Bool) (b : Bool) (x : ItemTree) → bare_item (compacted_item o b x) ≡ bare_item x
item_alike o b (plain.function_item s f) = ap (plain.function_item s) (bare_compacted o b f)
item_alike o b (plain.rt_item s r) = refl
item_alike o b (plain.struct_item s d) = refl
item_alike o b (plain.enum_item s d) = refl

pub alike : (o : ℕ → ℕ → Bool) (b : Bool) (p : ProgramTree) (i : ℕ) → map bare_item (compacted o b p i) ≡ map bare_item p
alike o b [] i = refl
alike o b (x ∷ xs) zero = ap (λ y. y ∷ map bare_item xs) (item_alike o b x)
alike o b (x ∷ xs) (suc i) = ap (λ ys. bare_item x ∷ ys) (alike o b xs i)

-- ---- what is known goes on

goes_on : (D : List Decl) (d : Option Decl) (l k m : ℕ) → Outlives D d l k → Outlives D d k m → Outlives D d l m
goes_on D d l k m itself g = g
goes_on D d l k m (by n h f) g = by n h (goes_on D d n k m f g)

pub is_preorder : (D : List Decl) (i : ℕ) (o : ℕ → ℕ → Bool) → Tells D i o → IsPreorder o
is_preorder D i o t = record {
  itself = λ l. (t l l).1 itself;
  on = λ l k m a b. (t l m).1 (goes_on D (slice_get D i) l k m ((t l k).0 a) ((t k m).0 b));
}

pub none_known : (D : List Decl) (i : ℕ) (o : ℕ → ℕ → Bool) → Tells D i o → (ls : List BoundLifetime) (l k : ℕ) → IsIn (first_numbers o 0 ls) l → IsIn (first_numbers o 0 ls) k
    → Outlives D (slice_get D i) l k → Outlives D (slice_get D i) k l → l ≡ k
none_known D i o t ls l k a b e f = none_equal o ls l k a b (and_from (o l k) (o k l) ((t l k).1 e) ((t k l).1 f))
