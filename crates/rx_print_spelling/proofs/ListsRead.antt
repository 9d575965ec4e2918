-- The tokens of lists of any elements, with commas between them or behind each, are derived as the list: by recursion on the list.
use Rattle.std.proofs.Common.{◌≡◌, ℕ, ◌+◌, List, [], ◌∷◌, ◌++◌, codes, length, map, refl, ap, subst, ◌∙◌, arith}
use Rattle.rx_tree.specs.Lists.{Every}
use Rattle.rx_lex.specs.Tok.{Tok}
use Rattle.rx_parse_grammar.specs.grammar.Words.{IsListOf, no_element, last_element, element}
use Rattle.rx_print_spelling.specs.Pieces.{Piece, mark, line, indent, separated, entries, entries_of}
use Rattle.rx_print_spelling.specs.Levels.{deepest}
use Rattle.rx_print_spelling.proofs.Pieces.{places, past, places-append}
use Rattle.rx_print_spelling.proofs.Derives.{Derives, mark_at}

-- how elements are derived, what of them is compared, what they are spelled with and how many levels they have
pub record Kind (A C : Type 0) : Type 1 where
  pub judgement : List Tok → A → ℕ → Type 0
  pub view : A → C
  pub spelled : A → List Piece
  pub level : A → ℕ

abbrev pub ReadsOne : {A C : Type 0} → Kind A C → A → Type 0
ReadsOne k x = (at : ℕ) → Derives (λ us y. k.judgement us y (k.level x)) k.view (places at (k.spelled x)) (k.view x)

abbrev pub AsListOf : {A C : Type 0} → Kind A C → List Tok → List A → ℕ → Type 0
AsListOf k ts xs h = Derives (λ us ys. IsListOf k.judgement us ys h) (map k.view) ts (map k.view xs)

pub separated_read : {A C : Type 0} (k : Kind A C) (P : A → Type 0) → ((x : A) → P x → ReadsOne k x) → (xs : List A) → Every P xs → (at : ℕ)
    → AsListOf k (places at (separated (map k.spelled xs))) xs (deepest (map k.level xs))
separated_read k P one [] f at = record { tree = []; derived = no_element; same = refl }
separated_read k P one (x ∷ []) f at =
    let a = one x f.0 at in
    record {
      tree = a.tree ∷ [];
      derived = subst (λ h. IsListOf k.judgement (places at (k.spelled x)) (a.tree ∷ []) h) (omega arith) (last_element a.derived);
      same = ap (λ y. y ∷ []) a.same;
    }
separated_read k P one (x ∷ z ∷ xs) f at =
    let ps = k.spelled x in
    let a = one x f.0 at in
    let b = separated_read k P one (z ∷ xs) f.1 (past at ps + 1 + 1) in
    record {
      tree = a.tree ∷ b.tree;
      derived = element (places at ps) (places (past at ps + 1 + 1) (separated (map k.spelled (z ∷ xs)))) (mark_at (past at ps) (codes ",")) a.tree b.tree _ _ a.derived (refl, refl) b.derived
          (places-append at ps _);
      same = ap (λ y. y ∷ map k.view b.tree) a.same ∙ ap (λ l. k.view x ∷ l) b.same;
    }

pub entries_read : {A C : Type 0} (k : Kind A C) (P : A → Type 0) → ((x : A) → P x → ReadsOne k x) → (xs : List A) → Every P xs → (at : ℕ)
    → AsListOf k (places at (entries (map k.spelled xs))) xs (deepest (map k.level xs))
entries_read k P one [] f at = record { tree = []; derived = no_element; same = refl }
entries_read k P one (x ∷ xs) f at =
    let ps = k.spelled x in
    let from : ℕ = at + length (10 ∷ indent 1) in
    let a = one x f.0 from in
    let b = entries_read k P one xs f.1 (past from ps + 1) in
    record {
      tree = a.tree ∷ b.tree;
      derived = element (places from ps) (places (past from ps + 1) (entries (map k.spelled xs))) (mark_at (past from ps) (codes ",")) a.tree b.tree _ _ a.derived (refl, refl) b.derived
          (places-append from ps (mark (codes ",") ∷ entries (map k.spelled xs)));
      same = ap (λ y. y ∷ map k.view b.tree) a.same ∙ ap (λ l. k.view x ∷ l) b.same;
    }

pub entries_places : (pss : List (List Piece)) (at : ℕ)
    → (n : ℕ) × (places at (entries_of pss) ≡ mark_at at (codes "{") ∷ (places (at + 1) (entries pss) ++ mark_at n (codes "}") ∷ []))
entries_places [] at = (at + 1, refl)
entries_places (ps ∷ more) at =
    (past (at + 1) (entries (ps ∷ more)) + length (10 ∷ indent 0), ap (λ l. mark_at at (codes "{") ∷ l) (places-append (at + 1) (entries (ps ∷ more)) (line 0 ∷ mark (codes "}") ∷ [])))

-- at least one element
pub record SomeOf {A C : Type 0} (k : Kind A C) (ts : List Tok) (x : A) (xs : List A) (h : ℕ) : Type 0 where
  pub first : A
  pub more : List A
  pub derived : IsListOf k.judgement ts (first ∷ more) h
  pub same : map k.view (first ∷ more) ≡ map k.view (x ∷ xs)

pub some_of : {A C : Type 0} (k : Kind A C) (ts : List Tok) (x : A) (xs : List A) (h : ℕ) → AsListOf k ts (x ∷ xs) h → SomeOf k ts x xs h
some_of k ts x xs h r = by r.tree r.derived r.same
  where
    by : (ys : List _) → IsListOf k.judgement ts ys h → map k.view ys ≡ map k.view (x ∷ xs) → SomeOf k ts x xs h
    by [] d e = absurd (cc)
    by (y ∷ ys) d e = record { first = y; more = ys; derived = d; same = e }

-- where no element has a level
pub no_levels : {A : Type 0} (xs : List A) → deepest (map (λ (x : A). 0) xs) ≡ 0
no_levels [] = refl
no_levels (x ∷ xs) = let e = no_levels xs in omega (arith, e)
