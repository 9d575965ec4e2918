-- The lifetimes of a function are declared one after another, each only where none before it has its name.
use Rattle.std.proofs.Common.{◌≡◌, ℕ, zero, suc, ◌+◌, Bool, true, false, List, [], ◌∷◌, ◌++◌, map, Option, Some, None, Result, Ok, Err, refl, sym, ap, subst, ◌∙◌}
use Rattle.std.specs.Prelude.{if◌then◌else◌}
use Rattle.std.specs.Str.{bytes_eq}
use Rattle.std.proofs.lemmas.Bool.{or_from}
use Rattle.std.proofs.lemmas.Bool.Decides.{same_from_decides}
use Rattle.std.proofs.lemmas.Slice.Eq.{bytes_eq-Decides}
use Rattle.rx_core.specs.declared.types.Span.{Span}
use Rattle.rx_tree.specs.declared.tree.BoundLifetime.{BoundLifetime}
use Rattle.rx_tree.specs.declared.tree.Ident.{Ident}
use Rattle.rx_tree.specs.Lists.{nth, Every}
use Rattle.rx_tree.specs.Plain as plain
use Rattle.rx_tree.specs.Plain.{ItemTree, ProgramTree}
use Rattle.rx_resolve_names.specs.declared.table.NumberedName.{NumberedName}
use Rattle.rx_resolve_names.specs.Scopes.{DeclaredNames, declared_as}
use Rattle.rx_resolve_names.specs.declared.resolved.ItemNames.{ItemNames}
use Rattle.rx_resolve_names.specs.Meant.{number, firsts, lifetimes_declared}
use Rattle.rx_resolve_names.specs.Steps.{Outcome, and_then, Inside, both, declare, declared_behind}
use Rattle.rx_resolve_names.specs.Items.{bounds_in, lifetimes_of, in_form, in_item, in_items, apart, in_program}
use Rattle.rx_hoist_extraction.specs.Names.{Names, is_among, Distinct}
use Rattle.rx_repair.specs.Named as named

read_ok : {A B : Type 0} (m : Outcome A) (f : A → Outcome B) (b : B) → and_then m f ≡ Ok b → (a : A) × (m ≡ Ok a) × (f a ≡ Ok b)
read_ok (Ok a) f b e = (a, refl, e)
read_ok (Err x) f b e = absurd (cc)

read_both : (m n : Outcome (List ℕ)) (l : List ℕ) → both m n ≡ Ok l → (k : List ℕ) × (n ≡ Ok k)
read_both m n l e = let a = read_ok m (λ ns. and_then n (λ ms. Ok (ns ++ ms))) l e in
    let b = read_ok n (λ ms. Ok (a.0 ++ ms)) l a.2 in (b.0, b.1)

abbrev names : List BoundLifetime → Names
names ls = map (λ (l : BoundLifetime). l.name.name) ls

abbrev Apart : DeclaredNames → List BoundLifetime → Type 0
Apart ds ls = Every (λ (l : BoundLifetime). declared_as ds l.name.name ≡ None) ls

none_some : {A : Type 0} (a : A) → ◌≡◌ {A = Option A} (Some a) None → ⊥
none_some a e = cc

split_last : (ds : DeclaredNames) (k : List ℕ × NumberedName) (x : List ℕ) → declared_as (ds ++ k ∷ []) x ≡ None → (declared_as ds x ≡ None) × (bytes_eq x k.0 ≡ false)
split_last [] k x e = by (bytes_eq x k.0) e
  where
    by : (b : Bool) → (if b then Some k.1 else None) ≡ None → (◌≡◌ {A = Option NumberedName} None None) × (b ≡ false)
    by true h = absurd (none_some k.1 h)
    by false h = (refl, refl)
split_last (d ∷ ds) k x e = by (bytes_eq x d.0) e (split_last ds k x)
  where
    by : (b : Bool) → (if b then Some d.1 else declared_as (ds ++ k ∷ []) x) ≡ None
        → (declared_as (ds ++ k ∷ []) x ≡ None → (declared_as ds x ≡ None) × (bytes_eq x k.0 ≡ false)) → ((if b then Some d.1 else declared_as ds x) ≡ None) × (bytes_eq x k.0 ≡ false)
    by true h r = absurd (none_some d.1 h)
    by false h r = r h

sides : (x y : List ℕ) → bytes_eq x y ≡ bytes_eq y x
sides x y = same_from_decides (bytes_eq x y) (bytes_eq y x) (bytes_eq-Decides x y)
    ((λ e. sym ((bytes_eq-Decides y x).0 e)), (λ e. (bytes_eq-Decides y x).1 (sym e)))

all_front : (ds : DeclaredNames) (k : List ℕ × NumberedName) (ls : List BoundLifetime) → Apart (ds ++ k ∷ []) ls → Apart ds ls
all_front ds k [] h = tt
all_front ds k (l ∷ ls) h = ((split_last ds k l.name.name h.0).0, all_front ds k ls h.1)

none_same : (ds : DeclaredNames) (k : List ℕ × NumberedName) (ls : List BoundLifetime) → Apart (ds ++ k ∷ []) ls → is_among k.0 (names ls) ≡ false
none_same ds k [] h = refl
none_same ds k (l ∷ ls) h = or_from (bytes_eq k.0 l.name.name) (is_among k.0 (names ls)) (sides k.0 l.name.name ∙ (split_last ds k l.name.name h.0).1) (none_same ds k ls h.1)

declared_new : (ds : DeclaredNames) (x : Ident) (n : ℕ) (es : DeclaredNames) → declare ds x n ≡ Ok es → (k : NumberedName) × (declared_as ds x.name ≡ None) × (es ≡ ds ++ (x.name, k) ∷ [])
declared_new ds x n es e = by (declared_as ds x.name) e
  where
    by : (o : Option NumberedName) → declared_behind ds x n o ≡ Ok es → (k : NumberedName) × (o ≡ None) × (es ≡ ds ++ (x.name, k) ∷ [])
    by None h = (record { number = number n; span = x.span }, refl, cc)
    by (Some k) h = absurd (cc)

module _ (I : Inside) where
  declared_apart : (ds : DeclaredNames) (n : ℕ) (ls : List BoundLifetime) (ns : List ℕ) → lifetimes_of I ds n ls ≡ Ok ns → Apart ds ls × Distinct (names ls)
  declared_apart ds n [] ns e = (tt, tt)
  declared_apart ds n (l ∷ ls) ns e =
      let a = read_ok (declare ds l.name n) (λ es. both (bounds_in I l.bounds) (lifetimes_of I es (suc n) ls)) ns e in
      let b = read_both (bounds_in I l.bounds) (lifetimes_of I a.0 (suc n) ls) ns a.2 in
      let d = declared_new ds l.name n a.0 a.1 in
      let r = declared_apart a.0 (suc n) ls b.0 b.1 in
      let h : Apart (ds ++ (l.name.name, d.0) ∷ []) ls = subst (λ es. Apart es ls) d.2 r.0 in
      ((d.1, all_front ds (l.name.name, d.0) ls h), (none_same ds (l.name.name, d.0) ls h, r.1))

item_apart : (p : ProgramTree) (n : ℕ) (i : ItemTree) (x : ItemNames) → in_item p n i ≡ Ok x → Distinct (named.lifetimes_of (Some i))
item_apart p n (plain.rt_item s r) x e = tt
item_apart p n (plain.struct_item s d) x e = tt
item_apart p n (plain.enum_item s d) x e = tt
item_apart p n (plain.function_item s f) x e =
    let I : Inside = record { program = p; item = number n; lifetimes = firsts [] 0 (lifetimes_declared (plain.function_item s f)) } in
    let a = read_ok (lifetimes_of I [] 0 f.lifetimes) _ x e in (declared_apart I [] 0 f.lifetimes a.0 a.1).1

items_apart : (p : ProgramTree) (n : ℕ) (is : ProgramTree) (xs : List ItemNames) → in_items p n is ≡ Ok xs → (k : ℕ) → Distinct (named.lifetimes_of (nth is k))
items_apart p n [] xs e k = tt
items_apart p n (i ∷ is) xs e k =
    let a = read_ok (in_item p n i) (λ x. and_then (in_items p (suc n) is) (λ xs. Ok (x ∷ xs))) xs e in
    let b = read_ok (in_items p (suc n) is) (λ xs. Ok (a.0 ∷ xs)) xs a.2 in
    at a.0 a.1 k (λ m. items_apart p (suc n) is b.0 b.1 m)
  where
    at : (x : ItemNames) → in_item p n i ≡ Ok x → (k : ℕ) → ((m : ℕ) → Distinct (named.lifetimes_of (nth is m))) → Distinct (named.lifetimes_of (nth (i ∷ is) k))
    at x h zero r = item_apart p n i x h
    at x h (suc k) r = r k

pub all_distinct : (p : ProgramTree) (ns : List ItemNames) → in_program p ≡ Ok ns → (n : ℕ) → Distinct (named.lifetimes_of (nth p n))
all_distinct p ns e n = let a = read_ok (apart _ 0 p) (λ _. in_items p 0 p) ns e in items_apart p 0 p ns a.2 n
