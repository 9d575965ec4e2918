-- Types with the names of a row: what is behind so many names is the row without them.
use Rattle.std.proofs.Common.{◌≡◌, ℕ, zero, suc, ◌+◌, Bool, List, [], ◌∷◌, Option, Some, None, map, drop, get_or, refl, sym, ap, ap₂, ◌∙◌, arith}
use Rattle.std.proofs.Math.Seq.{drop-nil}
use Rattle.rx_core.specs.declared.types.Span.{Span}
use Rattle.rx_core.specs.declared.types.Kind.{Kind}
use Rattle.rx_tree.specs.declared.tree.Ident.{Ident}
use Rattle.rx_tree.specs.Plain as plain
use Rattle.rx_tree.specs.Plain.{TypeTree, TypeTrees, ProgramTree}
use Rattle.rx_tree.specs.PlainOf.{types_of}
use Rattle.rx_typed.specs.Types.{Typ, Shape, Shapes, integer, boolean, tuple_of, reference, named, no_shape, shape_and, shapes_of}
use Rattle.rx_hoist_extraction.specs.Names.{Names}
use Rattle.rx_hoist_extraction.specs.Made.{ident}
use Rattle.rx_hoist_extraction.specs.WrittenTypes.{name_of, lifetimes_of, positions, all_positions, positions_of, lifetimes_from, list_if_any, full, all_full, each_full, elided, all_elided}
use Rattle.rx_hoist_made.specs.Rows.{nth_name, fulls, elideds, if_any}

pub list_if_any_is : (ls : List Ident) → list_if_any ls ≡ if_any (map (λ l. Some l) ls)
list_if_any_is [] = refl
list_if_any_is (l ∷ ls) = refl

-- ---- rows

pub drop_drop : {A : Type 0} (m n : ℕ) (l : List A) → drop (m + n) l ≡ drop n (drop m l)
drop_drop zero n l = let e : zero + n ≡ n = omega arith in ap (λ k. drop k l) e
drop_drop (suc m) n [] = drop-nil (suc m + n) ∙ sym (drop-nil n)
drop_drop (suc m) n (x ∷ l) = let e : suc m + n ≡ suc (m + n) = omega arith in ap (λ k. drop k (x ∷ l)) e ∙ drop_drop m n l

pub nth_behind : (m k : ℕ) (names : Names) → nth_name (drop m names) k ≡ nth_name names (m + k)
nth_behind zero k names = let e : k ≡ zero + k = omega arith in ap (nth_name names) e
nth_behind (suc m) k [] = none k
  where
    none : (k : ℕ) → nth_name [] k ≡ nth_name [] (suc m + k)
    none k = refl
nth_behind (suc m) k (x ∷ names) = let e : suc (m + k) ≡ suc m + k = omega arith in nth_behind m k names ∙ ap (nth_name (x ∷ names)) e

-- ---- a row that begins further on

lifetimes_moved : (s : Span) (r q : ℕ → List ℕ) (m n many : ℕ) → ((k : ℕ) → q k ≡ r (m + k)) → lifetimes_from s q n many ≡ lifetimes_from s r (m + n) many
lifetimes_moved s r q m n zero h = refl
lifetimes_moved s r q m n (suc many) h = let e : m + suc n ≡ suc (m + n) = omega arith in
    ap₂ (λ x l. ident s x ∷ l) (h n) (lifetimes_moved s r q m (suc n) many h ∙ ap (λ k. lifetimes_from s r k many) e)

mutual
  pub full_moved : (P : ProgramTree) (s : Span) (r q : ℕ → List ℕ) (m n : ℕ) → ((k : ℕ) → q k ≡ r (m + k)) → (t : Shape Kind) → full P s q n t ≡ full P s r (m + n) t
  full_moved P s r q m n h (integer k) = refl
  full_moved P s r q m n h boolean = refl
  full_moved P s r q m n h (tuple_of ts) = ap (plain.tuple_type s) (all_full_moved P s r q m n h ts)
  full_moved P s r q m n h (reference b t) = let e : m + suc n ≡ suc (m + n) = omega arith in
      ap₂ (λ x u. plain.ref_type s (Some (ident s x)) b u) (h n) (full_moved P s r q m (suc n) h t ∙ ap (λ k. full P s r k t) e)
  full_moved P s r q m n h (named i) = ap (λ ls. plain.named_type s (ident s (name_of P i)) (list_if_any ls)) (lifetimes_moved s r q m n (lifetimes_of P i) h)

  all_full_moved : (P : ProgramTree) (s : Span) (r q : ℕ → List ℕ) (m n : ℕ) → ((k : ℕ) → q k ≡ r (m + k)) → (ts : Shapes Kind) → all_full P s q n ts ≡ all_full P s r (m + n) ts
  all_full_moved P s r q m n h no_shape = refl
  all_full_moved P s r q m n h (shape_and t ts) = let e : m + (n + positions P t) ≡ m + n + positions P t = omega arith in
      ap₂ plain.type_and (full_moved P s r q m n h t) (all_full_moved P s r q m (n + positions P t) h ts ∙ ap (λ k. all_full P s r k ts) e)

fulls_moved : (P : ProgramTree) (s : Span) (r q : ℕ → List ℕ) (m n : ℕ) → ((k : ℕ) → q k ≡ r (m + k)) → (ts : List Typ) → fulls P s q n ts ≡ fulls P s r (m + n) ts
fulls_moved P s r q m n h [] = refl
fulls_moved P s r q m n h (t ∷ ts) = let e : m + (n + positions P t) ≡ m + n + positions P t = omega arith in
    ap₂ (λ x l. x ∷ l) (full_moved P s r q m n h t) (fulls_moved P s r q m (n + positions P t) h ts ∙ ap (λ k. fulls P s r k ts) e)

-- ---- the same where the names in front are dropped

pub lifetimes_behind : (s : Span) (m many : ℕ) (names : Names) → lifetimes_from s (nth_name (drop m names)) 0 many ≡ lifetimes_from s (nth_name names) m many
lifetimes_behind s m many names = let e : m + 0 ≡ m = omega arith in
    lifetimes_moved s (nth_name names) (nth_name (drop m names)) m 0 many (λ k. nth_behind m k names) ∙ ap (λ k. lifetimes_from s (nth_name names) k many) e

pub full_behind : (P : ProgramTree) (s : Span) (m : ℕ) (names : Names) (t : Typ) → full P s (nth_name (drop m names)) 0 t ≡ full P s (nth_name names) m t
full_behind P s m names t = let e : m + 0 ≡ m = omega arith in
    full_moved P s (nth_name names) (nth_name (drop m names)) m 0 (λ k. nth_behind m k names) t ∙ ap (λ k. full P s (nth_name names) k t) e

pub fulls_behind : (P : ProgramTree) (s : Span) (m : ℕ) (names : Names) (ts : List Typ) → fulls P s (nth_name (drop m names)) 0 ts ≡ fulls P s (nth_name names) m ts
fulls_behind P s m names ts = let e : m + 0 ≡ m = omega arith in
    fulls_moved P s (nth_name names) (nth_name (drop m names)) m 0 (λ k. nth_behind m k names) ts ∙ ap (λ k. fulls P s (nth_name names) k ts) e

-- ---- lists of types

pub all_full_is : (P : ProgramTree) (s : Span) (r : ℕ → List ℕ) (n : ℕ) (ts : List Typ) → all_full P s r n (shapes_of ts) ≡ types_of (fulls P s r n ts)
all_full_is P s r n [] = refl
all_full_is P s r n (t ∷ ts) = ap (plain.type_and (full P s r n t)) (all_full_is P s r (n + positions P t) ts)

pub each_full_is : (P : ProgramTree) (s : Span) (r : ℕ → List ℕ) (n : ℕ) (ts : List Typ) → each_full P s r n ts ≡ types_of (fulls P s r n ts)
each_full_is P s r n [] = refl
each_full_is P s r n (t ∷ ts) = ap (plain.type_and (full P s r n t)) (each_full_is P s r (n + positions P t) ts)

pub all_positions_is : (P : ProgramTree) (ts : List Typ) → all_positions P (shapes_of ts) ≡ positions_of P ts
all_positions_is P [] = refl
all_positions_is P (t ∷ ts) = ap (λ n. positions P t + n) (all_positions_is P ts)

pub all_elided_is : (P : ProgramTree) (s : Span) (ts : List Typ) → all_elided P s (shapes_of ts) ≡ types_of (elideds P s ts)
all_elided_is P s [] = refl
all_elided_is P s (t ∷ ts) = ap (plain.type_and (elided P s t)) (all_elided_is P s ts)

pub ruleset row_rules = (all_full_is, all_positions_is)

pub ruleset elided_rules = (all_elided_is)

-- ---- one step on

pub next_lifetime : (s : Span) (row : Names) (many : ℕ) → lifetimes_from s (nth_name row) 0 (suc many) ≡ ident s (nth_name row 0) ∷ lifetimes_from s (nth_name (drop 1 row)) 0 many
next_lifetime s row many = ap (λ l. ident s (nth_name row 0) ∷ l) (sym (lifetimes_behind s 1 many row))

pub next_typ : (P : ProgramTree) (s : Span) (row more : Names) (t : Typ) (ts : List Typ) → more ≡ drop (positions P t) row
    → fulls P s (nth_name row) 0 (t ∷ ts) ≡ full P s (nth_name row) 0 t ∷ fulls P s (nth_name more) 0 ts
next_typ P s row more t ts e = let none : 0 + positions P t ≡ positions P t = omega arith in
    ap (λ l. full P s (nth_name row) 0 t ∷ l)
    (ap (λ n. fulls P s (nth_name row) n ts) none ∙ sym (fulls_behind P s (positions P t) row ts) ∙ ap (λ r. fulls P s (nth_name r) 0 ts) (sym e))

pub next_rest : (P : ProgramTree) (row more : Names) (t : Typ) (ts : List Typ) → more ≡ drop (positions P t) row
    → drop (positions_of P (t ∷ ts)) row ≡ drop (positions_of P ts) more
next_rest P row more t ts e = drop_drop (positions P t) (positions_of P ts) row ∙ ap (drop (positions_of P ts)) (sym e)

pub full_next : (P : ProgramTree) (s : Span) (row : Names) (m : Bool) (t : Typ)
    → full P s (nth_name row) 0 (reference m t) ≡ plain.ref_type s (Some (ident s (nth_name row 0))) m (full P s (nth_name (drop 1 row)) 0 t)
full_next P s row m t = ap (plain.ref_type s (Some (ident s (nth_name row 0))) m) (sym (full_behind P s 1 row t))
