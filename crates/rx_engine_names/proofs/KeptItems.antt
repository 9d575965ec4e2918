-- Items of a program are found in another that has new items behind one function: behind these they have greater numbers. By
-- induction on the items in front.
use Rattle.std.proofs.lemmas.Bool.{le-leb, lt-leb}
use Rattle.std.proofs.Common.{◌≡◌, ℕ, suc, ◌+◌, ◌≤◌, ◌<◌, arith, length, Bool, true, false, if◌then◌else◌, List, [], ◌∷◌, ◌++◌, Option, Some, None, Ok, refl, sym, ap, ◌∙◌, ◌⊎◌, inl, inr, codes}
use Rattle.rx_core.specs.declared.types.Span.{Span}
use Rattle.rx_tree.specs.declared.tree.Ident.{Ident}
use Rattle.rx_tree.specs.Plain as plain
use Rattle.rx_tree.specs.Plain.{Function, ItemTree, ProgramTree}
use Rattle.rx_resolve_names.specs.Scopes.{DeclaredNames}
use Rattle.rx_resolve_names.specs.Meant.{type_name, function_name, has_name, item_named, as_type, as_struct, as_enum, as_rt, as_function, variants_of, number_in}
use Rattle.rx_resolve_names.specs.Steps.{Outcome, and_then, known, one, both}
use Rattle.rx_engine_names.specs.Insertion.{NotNamed, Inserted, past, number_there}
use Rattle.rx_engine_names.proofs.SideBySide.{named_ok, the_same}
use Rattle.rx_engine_names.proofs.Fitting.{FitItems, Fits}

-- ---- what is found

-- what is found in the first is found in the second, at the number that a map tells; of structs, enums and `rt` it is the same item
pub record Keeps (items : ℕ → ℕ) (P Q : ProgramTree) : Type 0 where
  pub types : (x : List ℕ) (n : ℕ) (i : ItemTree) → item_named type_name 0 P x ≡ Some (n, i) → item_named type_name 0 Q x ≡ Some (items n, i)
  pub functions : (x : List ℕ) (n : ℕ) (i : ItemTree) → item_named function_name 0 P x ≡ Some (n, i) → (j : ItemTree) × (item_named function_name 0 Q x ≡ Some (items n, j))

-- ---- kinds of items

pub known_some : (o : Option ℕ) (s : Span) (n : ℕ) → known o s ≡ Ok n → o ≡ Some n
known_some None s n e = absurd (cc)
known_some (Some m) s n e = ap (λ (z : ℕ). Some z) (the_same m n e)

-- a kind of item tells the item's number
abbrev TellsNumber : (Option (ℕ × ItemTree) → Option ℕ) → Type 0
TellsNumber kind = (o : Option (ℕ × ItemTree)) (n : ℕ) → kind o ≡ Some n → (i : ItemTree) × (o ≡ Some (n, i)) × ((m : ℕ) → kind (Some (m, i)) ≡ Some m)

type_tells : TellsNumber as_type
type_tells None n e = absurd (cc)
type_tells (Some (k, plain.struct_item s d)) n e = (plain.struct_item s d, ap (λ (z : ℕ). Some (z, plain.struct_item s d)) (let h : k ≡ n = cc in h), λ m. refl)
type_tells (Some (k, plain.enum_item s d)) n e = (plain.enum_item s d, ap (λ (z : ℕ). Some (z, plain.enum_item s d)) (let h : k ≡ n = cc in h), λ m. refl)
type_tells (Some (k, plain.rt_item s r)) n e = absurd (cc)
type_tells (Some (k, plain.function_item s f)) n e = absurd (cc)

struct_tells : TellsNumber as_struct
struct_tells None n e = absurd (cc)
struct_tells (Some (k, plain.struct_item s d)) n e = (plain.struct_item s d, ap (λ (z : ℕ). Some (z, plain.struct_item s d)) (let h : k ≡ n = cc in h), λ m. refl)
struct_tells (Some (k, plain.enum_item s d)) n e = absurd (cc)
struct_tells (Some (k, plain.rt_item s r)) n e = absurd (cc)
struct_tells (Some (k, plain.function_item s f)) n e = absurd (cc)

enum_tells : TellsNumber as_enum
enum_tells None n e = absurd (cc)
enum_tells (Some (k, plain.enum_item s d)) n e = (plain.enum_item s d, ap (λ (z : ℕ). Some (z, plain.enum_item s d)) (let h : k ≡ n = cc in h), λ m. refl)
enum_tells (Some (k, plain.struct_item s d)) n e = absurd (cc)
enum_tells (Some (k, plain.rt_item s r)) n e = absurd (cc)
enum_tells (Some (k, plain.function_item s f)) n e = absurd (cc)

rt_tells : TellsNumber as_rt
rt_tells None n e = absurd (cc)
rt_tells (Some (k, plain.rt_item s r)) n e = (plain.rt_item s r, ap (λ (z : ℕ). Some (z, plain.rt_item s r)) (let h : k ≡ n = cc in h), λ m. refl)
rt_tells (Some (k, plain.enum_item s d)) n e = absurd (cc)
rt_tells (Some (k, plain.struct_item s d)) n e = absurd (cc)
rt_tells (Some (k, plain.function_item s f)) n e = absurd (cc)

function_tells : TellsNumber as_function
function_tells None n e = absurd (cc)
function_tells (Some (k, i)) n e = (i, ap (λ (z : ℕ). Some (z, i)) (let h : k ≡ n = cc in h), λ m. refl)

-- ---- names in both

-- a struct, an enum or `rt`
type_fits : (f : ℕ → ℕ) (P Q : ProgramTree) → Keeps f P Q → (kind : Option (ℕ × ItemTree) → Option ℕ) → TellsNumber kind → (x : List ℕ) (s : Span) (n : ℕ) → known (kind (item_named type_name 0 P x)) s ≡ Ok n
    → (m : ℕ) × (known (kind (item_named type_name 0 Q x)) s ≡ Ok m) × (f n ≡ m)
type_fits f P Q k kind tells x s n e =
    let a = tells (item_named type_name 0 P x) n (known_some (kind (item_named type_name 0 P x)) s n e) in
    (f n, ap (λ (o : Option (ℕ × ItemTree)). known (kind o) s) (k.types x n a.0 a.1) ∙ ap (λ (o : Option ℕ). known o s) (a.2 (f n)), refl)

function_fits : (f : ℕ → ℕ) (P Q : ProgramTree) → Keeps f P Q → (x : List ℕ) (s : Span) (n : ℕ) → known (as_function (item_named function_name 0 P x)) s ≡ Ok n
    → (m : ℕ) × (known (as_function (item_named function_name 0 Q x)) s ≡ Ok m) × (f n ≡ m)
function_fits f P Q k x s n e =
    let a = function_tells (item_named function_name 0 P x) n (known_some (as_function (item_named function_name 0 P x)) s n e) in
    (f n, ap (λ (o : Option (ℕ × ItemTree)). known (as_function o) s) (k.functions x n a.0 a.1).1, refl)

abbrev variant_found : Option (ℕ × ItemTree) → Ident → Ident → Outcome (List ℕ)
variant_found o a v = both (one (known (as_enum o) a.span)) (one (known (number_in (variants_of o) v.name) v.span))

variants_fit : (f : ℕ → ℕ) (P Q : ProgramTree) → Keeps f P Q → (a v : Ident) (ns : List ℕ) → variant_found (item_named type_name 0 P a.name) a v ≡ Ok ns
    → (n m j : ℕ) × (ns ≡ n ∷ j ∷ []) × (variant_found (item_named type_name 0 Q a.name) a v ≡ Ok (m ∷ j ∷ [])) × (f n ≡ m)
variants_fit f P Q k a v ns e =
    let o = item_named type_name 0 P a.name in
    let g : List ℕ → Outcome (List ℕ) = λ ns. and_then (one (known (number_in (variants_of o) v.name) v.span)) (λ ms. Ok (ns ++ ms)) in
    let x = named_ok (one (known (as_enum o) a.span)) g ns e in
    let y = named_ok (known (as_enum o) a.span) (λ n. Ok (n ∷ [])) x.0 x.1 in
    let z = named_ok (one (known (number_in (variants_of o) v.name) v.span)) (λ ms. Ok (x.0 ++ ms)) ns x.2 in
    let w = named_ok (known (number_in (variants_of o) v.name) v.span) (λ n. Ok (n ∷ [])) z.0 z.1 in
    let t = enum_tells o y.0 (known_some (as_enum o) a.span y.0 y.1) in
    let m = f y.0 in
    let same : ns ≡ y.0 ∷ w.0 ∷ [] = sym (the_same (x.0 ++ z.0) ns z.2) ∙ ap (λ (l : List ℕ). l ++ z.0) (sym (the_same (y.0 ∷ []) x.0 y.2)) ∙ ap (λ (l : List ℕ). y.0 ∷ l) (sym (the_same (w.0 ∷ []) z.0 w.2)) in
    let number : known (number_in (variants_of (Some (m, t.0))) v.name) v.span ≡ Ok w.0 = ap (λ (q : Option (ℕ × ItemTree)). known (number_in (variants_of q) v.name) v.span) (sym t.1) ∙ w.1 in (
      y.0,
      m,
      w.0,
      same,
      ap (λ (q : Option (ℕ × ItemTree)). variant_found q a v) (k.types a.name y.0 t.0 t.1)
          ∙ ap (λ (q : Option ℕ). both (one (known q a.span)) (one (known (number_in (variants_of (Some (m, t.0))) v.name) v.span))) (t.2 m)
          ∙ ap (λ (q : Outcome ℕ). both (one (Ok m)) (one q)) number,
      refl,
    )

-- what is kept tells what names of items mean in both
pub items_keep : (f : ℕ → ℕ) (P Q : ProgramTree) → Keeps f P Q → (a b : ℕ) (ls ms : DeclaredNames) → FitItems f (record { program = P; item = a; lifetimes = ls }) (record { program = Q; item = b; lifetimes = ms })
items_keep f P Q k a b ls ms = record {
  types = λ x n e. type_fits f P Q k as_type type_tells x.name x.span n e;
  structs = λ x n e. type_fits f P Q k as_struct struct_tells x.name x.span n e;
  variants = λ a v ns e. variants_fit f P Q k a v ns e;
  functions = λ x n e. function_fits f P Q k x.name x.span n e;
  input = λ s n e. type_fits f P Q k as_rt rt_tells (codes "rt") s n e;
}

-- what is kept tells what names mean in both, in an item with the same lifetimes
pub keeps_fits : (f : ℕ → ℕ) (P Q : ProgramTree) → Keeps f P Q → (a b : ℕ) (ls : DeclaredNames) → Fits f (record { program = P; item = a; lifetimes = ls }) (record { program = Q; item = b; lifetimes = ls })
keeps_fits f P Q k a b ls = record {
  items_fit = items_keep f P Q k a b ls ls;
  lifetimes = λ l n e. (n, e, tt);
}

-- a program keeps itself
abbrev pub itself : ℕ → ℕ
itself n = n

pub keeps_itself : (P : ProgramTree) → Keeps itself P P
keeps_itself P = record { types = λ x n i e. e; functions = λ x n i e. (i, e) }

-- ---- new items behind a function

some_same : (a b : ℕ × ItemTree) → Some a ≡ Some b → a ≡ b
some_same a b e = cc

-- so many further on
found_on : (name : ItemTree → Option Ident) (x : List ℕ) (n k many : ℕ) (i : ItemTree) (is : ProgramTree) → item_named name n is x ≡ Some (k, i)
    → (n ≤ k) × (item_named name (n + many) is x ≡ Some (k + many, i))
found_on name x n k many i [] e = absurd (cc)
found_on name x n k many i (j ∷ is) e = by (has_name x (name j)) e (found_on name x (suc n) k many i is)
  where
    by : (b : Bool) → (if b then Some (n, j) else item_named name (suc n) is x) ≡ Some (k, i)
        → (item_named name (suc n) is x ≡ Some (k, i) → (suc n ≤ k) × (item_named name (suc n + many) is x ≡ Some (k + many, i)))
        → (n ≤ k) × ((if b then Some (n + many, j) else item_named name (suc (n + many)) is x) ≡ Some (k + many, i))
    by true e r = let s = some_same (n, j) (k, i) e in let h : n ≡ k = ap (λ (z : ℕ × ItemTree). z.0) s in
        (omega (arith, h), ap (λ (z : ℕ × ItemTree). Some (z.0 + many, z.1)) s)
    by false e r = let h = r e in let l : suc n ≤ k = h.0 in let one : suc (n + many) ≡ suc n + many = omega arith in
        (omega (arith, l), ap (λ z. item_named name z is x) one ∙ h.1)

past_new : (name : ItemTree → Option Ident) (x : List ℕ) (m : ℕ) (o : Option (ℕ × ItemTree)) (new is : ProgramTree) → NotNamed name x new → item_named name (m + length new) is x ≡ o → item_named name m (new ++ is) x ≡ o
past_new name x m o [] is h e = let none : m + 0 ≡ m = omega arith in ap (λ z. item_named name z is x) (sym none) ∙ e
past_new name x m o (g ∷ new) is h e = let one : suc m + length new ≡ m + suc (length new) = omega arith in
    ap (λ (b : Bool). if b then Some (m, g) else item_named name (suc m) (new ++ is) x) h.0
    ∙ past_new name x (suc m) o new is h.1 (ap (λ z. item_named name z is x) one ∙ e)

in_front : (k n many : ℕ) → n ≤ k → past k many n ≡ n
in_front k n many l = ap (λ (b : Bool). if b then n else n + many) (le-leb n k l)

further : (k n many : ℕ) → k < n → past k many n ≡ n + many
further k n many l = ap (λ (b : Bool). if b then n else n + many) (lt-leb n k l)

-- the function has the same name, or none, in the list; its number is q
found_behind : (name : ItemTree → Option Ident) (x : List ℕ) (q n k : ℕ) (i f f' : ItemTree) (before new is : ProgramTree) → name f' ≡ name f → NotNamed name x new → q ≡ n + length before
    → item_named name n (before ++ (f ∷ is)) x ≡ Some (k, i)
    → (j : ItemTree) × (item_named name n (before ++ (f' ∷ (new ++ is))) x ≡ Some (past q (length new) k, j)) × ((j ≡ i) ⊎ (has_name x (name f) ≡ true))
found_behind name x q n k i f f' [] new is s h p e = by (has_name x (name f)) refl (ap (has_name x) s) e
  where
    by : (b : Bool) → has_name x (name f) ≡ b → has_name x (name f') ≡ has_name x (name f) → (if b then Some (n, f) else item_named name (suc n) is x) ≡ Some (k, i)
        → (j : ItemTree) × (item_named name n (f' ∷ (new ++ is)) x ≡ Some (past q (length new) k, j)) × ((j ≡ i) ⊎ (has_name x (name f) ≡ true))
    by true is_b same e =
        let k_is : n ≡ k = ap (λ (z : ℕ × ItemTree). z.0) (some_same (n, f) (k, i) e) in
        let l : k ≤ q = omega (arith, k_is, p) in
        (f', ap (λ (b : Bool). if b then Some (n, f') else item_named name (suc n) (new ++ is) x) (same ∙ is_b) ∙ ap (λ z. Some (z, f')) (k_is ∙ sym (in_front q k (length new) l)), inr is_b)
    by false is_b same e =
        let r = found_on name x (suc n) k (length new) i is e in
        let lo : suc n ≤ k = r.0 in let l : q < k = omega (arith, lo, p) in (
          i,
          ap (λ (b : Bool). if b then Some (n, f') else item_named name (suc n) (new ++ is) x) (same ∙ is_b)
              ∙ past_new name x (suc n) (Some (k + length new, i)) new is h r.1 ∙ ap (λ z. Some (z, i)) (sym (further q k (length new) l)),
          inl refl,
        )
found_behind name x q n k i f f' (j ∷ before) new is s h p e =
    let on : q ≡ suc n + length before = omega (arith, p) in
    by (has_name x (name j)) e (found_behind name x q (suc n) k i f f' before new is s h on)
  where
    by : (b : Bool) → (if b then Some (n, j) else item_named name (suc n) (before ++ (f ∷ is)) x) ≡ Some (k, i)
        → (item_named name (suc n) (before ++ (f ∷ is)) x ≡ Some (k, i) → (j : ItemTree) × (item_named name (suc n) (before ++ (f' ∷ (new ++ is))) x ≡ Some (past q (length new) k, j)) × ((j ≡ i) ⊎ (has_name x (name f) ≡ true)))
        → (z : ItemTree) × ((if b then Some (n, j) else item_named name (suc n) (before ++ (f' ∷ (new ++ is))) x) ≡ Some (past q (length new) k, z)) × ((z ≡ i) ⊎ (has_name x (name f) ≡ true))
    by true e r =
        let z = some_same (n, j) (k, i) e in let k_is : n ≡ k = ap (λ (z : ℕ × ItemTree). z.0) z in
        let l : k ≤ q = omega (arith, k_is, p) in
        (j, ap (λ z. Some (z, j)) (k_is ∙ sym (in_front q k (length new) l)), inl (ap (λ (z : ℕ × ItemTree). z.1) z))
    by false e r = r e

pub inserted_keeps : (P Q : ProgramTree) (c : Inserted P Q) → Keeps (number_there c) P Q
inserted_keeps P Q c = let q = length c.before in let zero_first : q ≡ 0 + q = omega arith in record {
  types = λ x n i e.
      let r = found_behind type_name x q 0 n i (plain.function_item c.place c.old) (plain.function_item c.place c.changed) c.before c.new c.behind refl (c.fresh_types x n i e) zero_first (ap (λ (p : ProgramTree). item_named type_name 0 p x) (sym c.first) ∙ e) in
      ap (λ (p : ProgramTree). item_named type_name 0 p x) c.second ∙ r.1 ∙ ap (λ (j : ItemTree). Some (number_there c n, j)) (same r.0 i r.2);
  functions = λ x n i e.
      let r = found_behind function_name x q 0 n i (plain.function_item c.place c.old) (plain.function_item c.place c.changed) c.before c.new c.behind (ap (λ (z : Ident). Some z) c.name) (c.fresh_functions x n i e) zero_first (ap (λ (p : ProgramTree). item_named function_name 0 p x) (sym c.first) ∙ e) in
      (r.0, ap (λ (p : ProgramTree). item_named function_name 0 p x) c.second ∙ r.1);
}
  where
    same : (j i : ItemTree) → (j ≡ i) ⊎ (false ≡ true) → j ≡ i
    same j i (inl e) = e
    same j i (inr e) = absurd (cc)
