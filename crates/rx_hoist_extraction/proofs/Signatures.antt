-- The lifetimes of new items. A type that is written in full has the names of the row in order, by induction on it; so have lists
-- of types, each from where the one before ended. Names of the row are distinct, and none of the text's.
use Rattle.std.proofs.Common.{◌≡◌, ℕ, zero, suc, ◌+◌, ◌≤◌, ◌<◌, ◌^◌, Bool, true, false, List, [], ◌∷◌, ◌++◌, length, Option, Some, map, refl, sym, subst, ap, ap₂, ◌∙◌, arith, codes}
use Rattle.std.specs.Prelude.{if◌then◌else◌}
use Rattle.std.specs.Str.{bytes_eq}
use Rattle.std.proofs.lemmas.Bool.{or_from, or_parts, or_left, or_right}
use Rattle.std.proofs.lemmas.Slice.Eq.{bytes_eq-Decides}
use Rattle.rx_core.specs.declared.types.Span.{Span}
use Rattle.rx_core.specs.declared.types.Kind.{Kind}
use Rattle.rx_tree.specs.declared.tree.Ident.{Ident}
use Rattle.rx_tree.specs.declared.tree.BoundLifetime.{BoundLifetime}
use Rattle.rx_tree.specs.Lists.{Every}
use Rattle.rx_tree.specs.Nodes.{within_statements, within_optional}
use Rattle.rx_tree.specs.Plain as plain
use Rattle.rx_tree.specs.Plain.{ProgramTree}
use Rattle.rx_resolve_names.specs.Meant.{Around}
use Rattle.rx_typed.specs.Types.{Typ, Shape, Shapes, integer, boolean, tuple_of, reference, named, no_shape, shape_and, shapes_of}
use Rattle.rx_hoist_extraction.specs.Names.{Names, is_among, Distinct}
use Rattle.rx_hoist_extraction.specs.Run.{Parts, as_statements}
use Rattle.rx_hoist_extraction.specs.Plan.{Bounds, Plan, Param, Leaving, has_enum, enum_name}
use Rattle.rx_hoist_extraction.specs.Values.{types_of, next_values}
use Rattle.rx_hoist_extraction.specs.Fresh.{fresh_lifetime}
use Rattle.rx_hoist_extraction.specs.Made.{ident}
use Rattle.rx_hoist_extraction.specs.WrittenTypes.{name_of, positions, all_positions, positions_of, lifetimes_of, lifetimes_from, list_if_any, full, all_full, each_full}
use Rattle.rx_hoist_extraction.specs.NewEnum.{fields_at, all_fields, enum_positions, variants, new_enum}
use Rattle.rx_hoist_extraction.specs.NewFunction.{passed, passed_types, new_parameters, parameter_positions, joined_type, full_if_any, enum_type, result_positions, signature_positions, lifetimes_at_all, firsts_of, copied_lifetimes, new_lifetimes, shorts_of, new_function}
use Rattle.rx_hoist_extraction.proofs.FreshNames.{unlike, fresh_is_free, fresh_differ}
use Rattle.rx_hoist_extraction.specs.OwnLifetimes.{lifetimes_in, lifetimes_in_all, lifetimes_if_any, in_parameters, in_variants, in_signature, idents, declared_lifetimes}

-- ---- rows

abbrev some_of : List Ident → List (Option Ident)
some_of ls = map (λ x. Some x) ls

some_both : (a b : List Ident) → some_of (a ++ b) ≡ some_of a ++ some_of b
some_both [] b = refl
some_both (x ∷ a) b = ap (λ ys. Some x ∷ ys) (some_both a b)

longer : (s : Span) (r : ℕ → List ℕ) (n a b : ℕ) → lifetimes_from s r n (a + b) ≡ lifetimes_from s r n a ++ lifetimes_from s r (n + a) b
longer s r n zero b = let none : 0 + b ≡ b = omega arith in
    let same : n ≡ n + 0 = omega arith in ap (lifetimes_from s r n) none ∙ ap (λ m. lifetimes_from s r m b) same
longer s r n (suc a) b = let more : suc a + b ≡ suc (a + b) = omega arith in
    let from : suc n + a ≡ n + suc a = omega arith in
    ap (lifetimes_from s r n) more ∙ ap (λ ys. record { span = s; name = r n } ∷ ys) (longer s r (suc n) a b)
    ∙ ap (λ m. lifetimes_from s r n (suc a) ++ lifetimes_from s r m b) from

-- two parts of a row, one behind the other
joined_rows : (s : Span) (r : ℕ → List ℕ) (n a b : ℕ) → some_of (lifetimes_from s r n a) ++ some_of (lifetimes_from s r (n + a) b) ≡ some_of (lifetimes_from s r n (a + b))
joined_rows s r n a b = sym (some_both (lifetimes_from s r n a) (lifetimes_from s r (n + a) b)) ∙ ap some_of (sym (longer s r n a b))

-- ---- types in full

listed_all : (s : Span) (x : Ident) (ls : List Ident) → lifetimes_in (plain.named_type s x (list_if_any ls)) ≡ some_of ls
listed_all s x [] = refl
listed_all s x (l ∷ ls) = refl

mutual
  full_names : (P : ProgramTree) (s : Span) (r : ℕ → List ℕ) (n : ℕ) (t : Shape Kind) → lifetimes_in (full P s r n t) ≡ some_of (lifetimes_from s r n (positions P t))
  full_names P s r n (integer k) = refl
  full_names P s r n boolean = refl
  full_names P s r n (tuple_of ts) = all_full_names P s r n ts
  full_names P s r n (reference m t) = ap (λ ys. Some (record { span = s; name = r n }) ∷ ys) (full_names P s r (suc n) t)
  full_names P s r n (named i) = listed_all s (ident s (name_of P i)) (lifetimes_from s r n (lifetimes_of P i))

  all_full_names : (P : ProgramTree) (s : Span) (r : ℕ → List ℕ) (n : ℕ) (ts : Shapes Kind)
      → lifetimes_in_all (all_full P s r n ts) ≡ some_of (lifetimes_from s r n (all_positions P ts))
  all_full_names P s r n no_shape = refl
  all_full_names P s r n (shape_and t ts) = ap₂ (λ a b. a ++ b) (full_names P s r n t) (all_full_names P s r (n + positions P t) ts)
      ∙ joined_rows s r n (positions P t) (all_positions P ts)

each_full_names : (P : ProgramTree) (s : Span) (r : ℕ → List ℕ) (n : ℕ) (ts : List Typ) → lifetimes_in_all (each_full P s r n ts) ≡ some_of (lifetimes_from s r n (positions_of P ts))
each_full_names P s r n [] = refl
each_full_names P s r n (t ∷ ts) = ap₂ (λ a b. a ++ b) (full_names P s r n t) (each_full_names P s r (n + positions P t) ts)
    ∙ joined_rows s r n (positions P t) (positions_of P ts)

-- ---- the enum

pub positions_both : (P : ProgramTree) (ts us : List Typ) → positions_of P (ts ++ us) ≡ positions_of P ts + positions_of P us
positions_both P [] us = omega arith
positions_both P (t ∷ ts) us = omega (arith, positions_both P ts us)

variants_names : (P : ProgramTree) (pl : Plan) (s : Span) (n : ℕ) (xs : List Leaving)
    → in_variants (variants P pl s n xs) ≡ some_of (lifetimes_from s (fresh_lifetime pl.lifetimes) n (positions_of P (all_fields pl xs)))
variants_names P pl s n [] = refl
variants_names P pl s n (x ∷ xs) = let row = fresh_lifetime pl.lifetimes in
    let ts = fields_at pl x in
    ap₂ (λ a b. a ++ b) (each_full_names P s row n ts) (variants_names P pl s (n + positions_of P ts) xs)
    ∙ joined_rows s row n (positions_of P ts) (positions_of P (all_fields pl xs))
    ∙ ap (λ k. some_of (lifetimes_from s row n k)) (sym (positions_both P ts (all_fields pl xs)))

pub enum_names : (P : ProgramTree) (pl : Plan) (s : Span) → in_variants (new_enum P pl s).variants ≡ some_of (new_enum P pl s).lifetimes
enum_names P pl s = variants_names P pl s 0 pl.exits

-- ---- the signature

parameters_names : (P : ProgramTree) (pl : Plan) (s : Span) (n : ℕ) (xs : List Param)
    → in_parameters (new_parameters P pl s n xs) ≡ some_of (lifetimes_from s (fresh_lifetime pl.lifetimes) n (positions_of P (passed_types xs)))
parameters_names P pl s n [] = refl
parameters_names P pl s n (x ∷ xs) = let row = fresh_lifetime pl.lifetimes in
    let t = passed x.mode x.variable.typ in
    ap₂ (λ a b. a ++ b) (full_names P s row n t) (parameters_names P pl s (n + positions P t) xs)
    ∙ joined_rows s row n (positions P t) (positions_of P (passed_types xs))

pub shapes_positions : (P : ProgramTree) (ts : List Typ) → all_positions P (shapes_of ts) ≡ positions_of P ts
shapes_positions P [] = refl
shapes_positions P (t ∷ ts) = ap (λ k. positions P t + k) (shapes_positions P ts)

joined_names : (P : ProgramTree) (pl : Plan) (s : Span) (n : ℕ) (ts : List Typ)
    → lifetimes_if_any (full_if_any P pl s n (joined_type ts)) ≡ some_of (lifetimes_from s (fresh_lifetime pl.lifetimes) n (positions_of P ts))
joined_names P pl s n [] = refl
joined_names P pl s n (t ∷ []) = let row = fresh_lifetime pl.lifetimes in
    let one : positions P t ≡ positions P t + 0 = omega arith in
    full_names P s row n t ∙ ap (λ k. some_of (lifetimes_from s row n k)) one
joined_names P pl s n (t ∷ u ∷ ts) = let row = fresh_lifetime pl.lifetimes in
    full_names P s row n (tuple_of (shapes_of (t ∷ u ∷ ts))) ∙ ap (λ k. some_of (lifetimes_from s row n k)) (shapes_positions P (t ∷ u ∷ ts))

result_at : (P : ProgramTree) (pl : Plan) (s : Span) (n : ℕ) (b : Bool)
    → lifetimes_if_any (if b then Some (enum_type P pl s n) else full_if_any P pl s n (joined_type (types_of (next_values pl))))
    ≡ some_of (lifetimes_from s (fresh_lifetime pl.lifetimes) n (if b then enum_positions P pl else positions_of P (types_of (next_values pl))))
result_at P pl s n true = listed_all s (ident s (enum_name pl)) (lifetimes_from s (fresh_lifetime pl.lifetimes) n (enum_positions P pl))
result_at P pl s n false = joined_names P pl s n (types_of (next_values pl))

pub signature_names : (P : ProgramTree) (pl : Plan) (bs : Bounds) (s : Span) (ls : List Around) (p : Parts)
    → in_signature (new_function P pl bs s ls p) ≡ some_of (lifetimes_from s (fresh_lifetime pl.lifetimes) 0 (signature_positions P pl))
signature_names P pl bs s ls p = let names = fresh_lifetime pl.lifetimes in
    let m = parameter_positions P pl in
    let k = result_positions P pl in
    let none : m ≡ 0 + m = omega arith in
    ap₂ (λ a b. a ++ b) (parameters_names P pl s 0 pl.params) (result_at P pl s m (has_enum pl.exits))
    ∙ ap (λ n. some_of (lifetimes_from s names 0 m) ++ some_of (lifetimes_from s names n k)) none
    ∙ joined_rows s names 0 m k

-- ---- what is declared

idents_both : (a b : List Ident) → idents (a ++ b) ≡ idents a ++ idents b
idents_both [] b = refl
idents_both (x ∷ a) b = ap (λ ys. x.name ∷ ys) (idents_both a b)

bounded : (f : Ident → List Ident) (ls : List Ident) → map (λ (l : BoundLifetime). l.name.name) (map (λ (l : Ident). record { name = l; bounds = f l }) ls) ≡ idents ls
bounded f [] = refl
bounded f (l ∷ ls) = ap (λ ys. l.name ∷ ys) (bounded f ls)

pub declared_names : (P : ProgramTree) (pl : Plan) (bs : Bounds) (s : Span) (ls : List Around) (p : Parts)
    → declared_lifetimes (new_function P pl bs s ls p)
    ≡ idents (copied_lifetimes p) ++ idents (lifetimes_from s (fresh_lifetime pl.lifetimes) 0 (signature_positions P pl))
declared_names P pl bs s ls p = let all = new_lifetimes P pl s p in
    bounded (λ l. shorts_of s bs all l.name) all ∙ idents_both (copied_lifetimes p) (lifetimes_from s (fresh_lifetime pl.lifetimes) 0 (signature_positions P pl))

-- ---- distinct

among_both : (x : List ℕ) (xs ys : Names) → is_among x xs ≡ false → is_among x ys ≡ false → is_among x (xs ++ ys) ≡ false
among_both x [] ys a b = b
among_both x (y ∷ xs) ys a b = let p = or_parts (bytes_eq x y) (is_among x xs) a in
    or_from (bytes_eq x y) (is_among x (xs ++ ys)) p.0 (among_both x xs ys p.1 b)

apart_row : (s : Span) (taken : Names) (n m many : ℕ) → n < m → length taken + (m + many) ≤ 2 ^ 64
    → is_among (fresh_lifetime taken n) (idents (lifetimes_from s (fresh_lifetime taken) m many)) ≡ false
apart_row s taken n m zero l b = refl
apart_row s taken n m (suc many) l b = let rest = idents (lifetimes_from s (fresh_lifetime taken) (suc m) many) in
    or_from (bytes_eq (fresh_lifetime taken n) (fresh_lifetime taken m)) (is_among (fresh_lifetime taken n) rest)
    (unlike (fresh_lifetime taken n) (fresh_lifetime taken m) (fresh_differ (codes "'r") taken n m l (omega arith)))
    (apart_row s taken n (suc m) many (omega arith) (omega arith))

row_distinct : (s : Span) (taken : Names) (n many : ℕ) → length taken + (n + many) ≤ 2 ^ 64 → Distinct (idents (lifetimes_from s (fresh_lifetime taken) n many))
row_distinct s taken n zero b = tt
row_distinct s taken n (suc many) b = (apart_row s taken n (suc n) many (omega arith) (omega arith), row_distinct s taken (suc n) many (omega arith))

-- none of a row is taken
row_apart : (s : Span) (taken : Names) (x : List ℕ) → is_among x taken ≡ true → (n many : ℕ) → length taken + (n + many) ≤ 2 ^ 64
    → is_among x (idents (lifetimes_from s (fresh_lifetime taken) n many)) ≡ false
row_apart s taken x e n zero b = refl
row_apart s taken x e n (suc many) b = or_from (bytes_eq x (fresh_lifetime taken n)) (is_among x (idents (lifetimes_from s (fresh_lifetime taken) (suc n) many)))
    (unlike x (fresh_lifetime taken n) (λ same. let free : is_among (fresh_lifetime taken n) taken ≡ false = fresh_is_free (codes "'r") taken n (omega arith) in
    let is : is_among (fresh_lifetime taken n) taken ≡ true = subst (λ y. is_among y taken ≡ true) same e in
    let clash : true ≡ false = sym is ∙ free in cc))
    (row_apart s taken x e (suc n) many (omega arith))

both_distinct : (xs ys : Names) → Distinct xs → Distinct ys → Every (λ x. is_among x ys ≡ false) xs → Distinct (xs ++ ys)
both_distinct [] ys d e a = e
both_distinct (x ∷ xs) ys d e a = (among_both x xs ys d.0 a.0, both_distinct xs ys d.1 e a.1)

-- those that the run names, each once

found_at : (found : Names) (l : Ident) (ls : List Ident) (x : List ℕ) (b : Bool) → is_among l.name found ≡ b → is_among x found ≡ true
    → (is_among x (idents (firsts_of found ls)) ≡ false) → (is_among x (idents (firsts_of (l.name ∷ found) ls)) ≡ false)
    → is_among x (idents (firsts_of found (l ∷ ls))) ≡ false
found_at found l ls x true e i h k = rw e h
found_at found l ls x false e i h k = rw e (or_from (bytes_eq x l.name) (is_among x (idents (firsts_of (l.name ∷ found) ls)))
    (unlike x l.name (λ same. let is : is_among l.name found ≡ true = subst (λ y. is_among y found ≡ true) same i in
    let clash : true ≡ false = sym is ∙ e in cc)) k)

not_again : (found : Names) (ls : List Ident) (x : List ℕ) → is_among x found ≡ true → is_among x (idents (firsts_of found ls)) ≡ false
not_again found [] x i = refl
not_again found (l ∷ ls) x i = found_at found l ls x (is_among l.name found) refl i (not_again found ls x i)
    (not_again (l.name ∷ found) ls x (or_right (bytes_eq x l.name) (is_among x found) i))

once_at : (found : Names) (l : Ident) (ls : List Ident) (b : Bool) → is_among l.name found ≡ b → Distinct (idents (firsts_of found ls))
    → Distinct (idents (firsts_of (l.name ∷ found) ls)) → Distinct (idents (firsts_of found (l ∷ ls)))
once_at found l ls true e d k = rw e d
once_at found l ls false e d k = rw e (not_again (l.name ∷ found) ls l.name (or_left (bytes_eq l.name l.name) (is_among l.name found) ((bytes_eq-Decides l.name l.name).1 refl)), k)

once : (found : Names) (ls : List Ident) → Distinct (idents (firsts_of found ls))
once found [] = tt
once found (l ∷ ls) = once_at found l ls (is_among l.name found) refl (once found ls) (once (l.name ∷ found) ls)

all_apart : (s : Span) (taken : Names) (many : ℕ) → length taken + many ≤ 2 ^ 64 → (xs : Names) → Every (λ x. is_among x taken ≡ true) xs
    → Every (λ x. is_among x (idents (lifetimes_from s (fresh_lifetime taken) 0 many)) ≡ false) xs
all_apart s taken many b [] a = tt
all_apart s taken many b (x ∷ xs) a = (row_apart s taken x a.0 0 many (omega arith), all_apart s taken many b xs a.1)

pub declared_once : (P : ProgramTree) (pl : Plan) (bs : Bounds) (s : Span) (ls : List Around) (p : Parts) → length pl.lifetimes + signature_positions P pl ≤ 2 ^ 64
    → Every (λ x. is_among x pl.lifetimes ≡ true) (idents (copied_lifetimes p)) → Distinct (declared_lifetimes (new_function P pl bs s ls p))
declared_once P pl bs s ls p b a = let copied = idents (copied_lifetimes p) in
    let many = signature_positions P pl in
    subst Distinct (sym (declared_names P pl bs s ls p))
    (both_distinct copied (idents (lifetimes_from s (fresh_lifetime pl.lifetimes) 0 many))
    (once [] (lifetimes_at_all (within_statements (as_statements p.statements) ++ within_optional p.tail)))
    (row_distinct s pl.lifetimes 0 many (omega arith))
    (all_apart s pl.lifetimes many b copied a))

pub enum_once : (P : ProgramTree) (pl : Plan) (s : Span) → length pl.lifetimes + enum_positions P pl ≤ 2 ^ 64 → Distinct (idents (new_enum P pl s).lifetimes)
enum_once P pl s b = row_distinct s pl.lifetimes 0 (enum_positions P pl) (omega arith)
