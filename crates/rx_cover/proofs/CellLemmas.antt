-- Parts of patterns and rows, one after another.
use Rattle.std.proofs.Common.{◌≡◌, ℕ, zero, suc, ◌+◌, ◌<◌, nat_eq, Bool, true, false, if◌then◌else◌, List, [], ◌∷◌, map, drop, length, get_or, refl, sym, ap, ◌∙◌, arith, add-one, eq-eqb, ne_eqb}
use Rattle.std.proofs.Common.{drop-cons}
use Rattle.rx_typed.specs.declared.tree.Subpattern.{Subpattern}
use Rattle.rx_typed.specs.PlainTree.{plain-Pattern, plain-Subpattern, subpatterns_of}
use Rattle.rx_typed.proofs.Rules.{subpattern_by_parts}
use Rattle.rx_typed.specs.Tree.{Pattern, Subpatterns}
use Rattle.std.proofs.Common.{◌++◌}
use Rattle.rx_cover.specs.declared.heads.Cell.{Cell}
use Rattle.rx_cover.specs.PlainCells.{plain-Cell, plain-Row, plain-Column}
use Rattle.rx_cover.specs.declared.matrix.Column.{Column}
use Rattle.rx_typed.specs.Types.{Typ}
use Rattle.rx_cover.specs.Matrices.{Row, asks, mark_parts, mark_one, kept_parts, rest_of, kept_types}
use Rattle.rx_cover.specs.Matching.{part_of}

-- what is said of the items from a number on, by the item there
pub at_next : {A : Type 0} {B : Type 0} (f : List A → B) (xs : List A) (i : ℕ) (x : A) → i < length xs → x ≡ get_or xs i x → f (drop i xs) ≡ f (x ∷ drop (i + 1) xs)
at_next f xs i x less is = ap f (drop-cons xs i x less ∙ ap (λ y. y ∷ drop (suc i) xs) (sym is) ∙ ap (λ n. x ∷ drop n xs) (sym (add-one i)))

abbrev pub among : List Subpattern → ℕ → Pattern
among ps n = part_of (subpatterns_of (map plain-Subpattern ps)) n

pub part_next : (ps : List Subpattern) (i n : ℕ) (p : Subpattern) → i < length ps → p ≡ get_or ps i p
    → among (drop i ps) n ≡ (if nat_eq p.field n then plain-Pattern p.pattern else among (drop (i + 1) ps) n)
part_next ps i n p less is = at_next (λ l. among l n) ps i p less is ∙ rw (subpattern_by_parts p) refl

pub part_found : (ps : List Subpattern) (i n : ℕ) (p : Subpattern) → i < length ps → p ≡ get_or ps i p → p.field ≡ n → among (drop i ps) n ≡ plain-Pattern p.pattern
part_found ps i n p less is e = part_next ps i n p less is ∙ rw (eq-eqb p.field n e) refl

pub part_later : (ps : List Subpattern) (i n : ℕ) (p : Subpattern) → i < length ps → p ≡ get_or ps i p → (p.field ≡ n → ⊥) → among (drop i ps) n ≡ among (drop (i + 1) ps) n
part_later ps i n p less is e = part_next ps i n p less is ∙ rw (ne_eqb p.field n e) refl

-- ---- marks

pub mark_next : (ps : List Subpattern) (i : ℕ) (p : Subpattern) (mask : List Bool) → i < length ps → p ≡ get_or ps i p
    → mark_parts mask (subpatterns_of (map plain-Subpattern (drop i ps))) ≡ mark_parts (mark_one mask p.field (asks (plain-Pattern p.pattern))) (subpatterns_of (map plain-Subpattern (drop (i + 1) ps)))
mark_next ps i p mask less is = at_next (λ l. mark_parts mask (subpatterns_of (map plain-Subpattern l))) ps i p less is ∙ rw (subpattern_by_parts p) refl

-- ---- rows

pub map_append : {A B : Type 0} (f : A → B) (xs ys : List A) → map f (xs ++ ys) ≡ map f xs ++ map f ys
map_append f [] ys = refl
map_append f (x ∷ xs) ys = ap (λ l. f x ∷ l) (map_append f xs ys)

pub one_behind : {A : Type 0} (xs : List A) (x : A) (ys : List A) → (xs ++ x ∷ []) ++ ys ≡ xs ++ (x ∷ ys)
one_behind [] x ys = refl
one_behind (z ∷ xs) x ys = ap (λ l. z ∷ l) (one_behind xs x ys)

-- one more cell behind a row
pub row_with : (row new : List Cell) (x : Cell) (ys : Row) → new ≡ row ++ x ∷ [] → plain-Row new ++ ys ≡ plain-Row row ++ (plain-Cell x ∷ ys)
row_with row new x ys e = ap (λ l. plain-Row l ++ ys) e ∙ ap (λ l. l ++ ys) (map_append plain-Cell row (x ∷ [])) ∙ one_behind (plain-Row row) (plain-Cell x) ys

pub kept_here : (mask : List Bool) (i : ℕ) (ps : Subpatterns) (rest : Row) → i < length mask → get_or mask i false ≡ true
    → kept_parts (drop i mask) i ps rest ≡ part_of ps i ∷ kept_parts (drop (i + 1) mask) (i + 1) ps rest
kept_here mask i ps rest less is = at_next (λ l. kept_parts l i ps rest) mask i true less (sym (other mask i less is)) ∙ ap (λ n. part_of ps i ∷ kept_parts (drop (i + 1) mask) n ps rest) (sym (add-one i))
  where
    other : (m : List Bool) (i : ℕ) → i < length m → get_or m i false ≡ true → get_or m i true ≡ true
    other [] i l e = absurd (omega (arith, l))
    other (b ∷ m) zero l e = e
    other (b ∷ m) (suc i) l e = other m i (omega (arith, l)) e

pub kept_not : (mask : List Bool) (i : ℕ) (ps : Subpatterns) (rest : Row) → i < length mask → get_or mask i true ≡ false
    → kept_parts (drop i mask) i ps rest ≡ kept_parts (drop (i + 1) mask) (i + 1) ps rest
kept_not mask i ps rest less is = at_next (λ l. kept_parts l i ps rest) mask i false less (sym (other mask i less is)) ∙ ap (λ n. kept_parts (drop (i + 1) mask) n ps rest) (sym (add-one i))
  where
    other : (m : List Bool) (i : ℕ) → i < length m → get_or m i true ≡ false → get_or m i false ≡ false
    other [] i l e = absurd (omega (arith, l))
    other (b ∷ m) zero l e = e
    other (b ∷ m) (suc i) l e = other m i (omega (arith, l)) e

pub rest_is : (r : List Cell) → plain-Row (drop 1 r) ≡ rest_of (plain-Row r)
rest_is [] = refl
rest_is (c ∷ r) = refl

-- ---- columns

pub kept_types_append : (mask : List Bool) (us ts : List Typ) → kept_types mask us [] ++ ts ≡ kept_types mask us ts
kept_types_append [] us ts = refl
kept_types_append (true ∷ m) [] ts = refl
kept_types_append (false ∷ m) [] ts = refl
kept_types_append (true ∷ m) (u ∷ us) ts = ap (λ l. u ∷ l) (kept_types_append m us ts)
kept_types_append (false ∷ m) (u ∷ us) ts = kept_types_append m us ts

pub kept_types_next : (mask : List Bool) (us : List Column) (i : ℕ) (b : Bool) (x : Column) → i < length mask → i < length us → b ≡ get_or mask i b → x ≡ get_or us i x
    → kept_types (drop i mask) (map plain-Column (drop i us)) [] ≡ kept_types (b ∷ []) (plain-Column x ∷ []) [] ++ kept_types (drop (i + 1) mask) (map plain-Column (drop (i + 1) us)) []
kept_types_next mask us i b x l m e f =
    at_next (λ ms. kept_types ms (map plain-Column (drop i us)) []) mask i b l e
    ∙ at_next (λ xs. kept_types (b ∷ drop (i + 1) mask) (map plain-Column xs) []) us i x m f
    ∙ split b
  where
    split : (b : Bool) → kept_types (b ∷ drop (i + 1) mask) (plain-Column x ∷ map plain-Column (drop (i + 1) us)) [] ≡ kept_types (b ∷ []) (plain-Column x ∷ []) [] ++ kept_types (drop (i + 1) mask) (map plain-Column (drop (i + 1) us)) []
    split true = refl
    split false = refl

pub bool_at : (mask : List Bool) (i : ℕ) (b c : Bool) → i < length mask → get_or mask i b ≡ get_or mask i c
bool_at [] i b c l = absurd (omega (arith, l))
bool_at (x ∷ m) zero b c l = refl
bool_at (x ∷ m) (suc i) b c l = bool_at m i b c (omega (arith, l))
