-- A run of statements in a row that stands in the tree: in front of it, its own, behind it, from scope to scope.
use Rattle.std.proofs.Common.{◌≡◌, ℕ, zero, suc, List, [], ◌∷◌, ◌++◌, take, drop, reverse, map, Some, None, slice_get, get_or, refl, sym, ap, ◌∙◌, subst}
use Rattle.std.proofs.lemmas.List.{map-append}
use Rattle.std.proofs.lemmas.Option.{get_or_from_slice_get}
use Rattle.rx_tree.specs.Plain as plain
use Rattle.rx_tree.specs.Lists.{listed}
use Rattle.rx_resolve_names.specs.Meant.{Around}
use Rattle.rx_resolve_names.specs.Steps.{Inside}
use Rattle.rx_typed.specs.Named as named
use Rattle.rx_typed.specs.Elaborated as elaborated
use Rattle.rx_typed.specs.Elaborated.{Assigned, variables}
use Rattle.rx_typed.specs.Tree as tree
use Rattle.rx_exits_plan.specs.Blocks as marks
use Rattle.rx_exits_plan.specs.Blocks.{declared_by_all, statements, tail}
use Rattle.rx_exits_plan.specs.Spots as spots
use Rattle.rx_exits_plan.specs.Spots.{with_variables}
use Rattle.rx_exits_plan.specs.Exits.{past}
use Rattle.rx_hoist_extraction.specs.Names as source
use Rattle.rx_hoist_extraction.specs.Names.{Names}
use Rattle.rx_hoist_extraction.specs.Run.{as_statements}
use Rattle.rx_hoist_meant.proofs.TypedNames.{bound_is}
use Rattle.rx_hoist_meant.specs.Stands as stands
use Rattle.rx_hoist_meant.specs.Stands.{StandsRow}
use Rattle.rx_hoist_meant.specs.Placed.{PlacedRow}
use Rattle.rx_engine_tied.proofs.Covers.{elaborated_row, elaborated_statement}

-- ---- lists of statements

as_listed : (ss : plain.Statements) → as_statements (listed ss) ≡ ss
as_listed plain.no_statement = refl
as_listed (plain.statement_and a ss) = ap (λ (x : plain.Statements). plain.statement_and a x) (as_listed ss)

pub listed_back : (xs : List plain.Statement) → listed (as_statements xs) ≡ xs
listed_back [] = refl
listed_back (x ∷ xs) = ap (λ (z : List plain.Statement). x ∷ z) (listed_back xs)

-- ---- the statements of a tree with numbers, in the typed tree

pub statements_are : (T : Assigned) (xs : named.Statements) (last : tree.Exp) → statements (elaborated.nested T xs last) ≡ elaborated_row T xs
statements_are T named.no_statement last = refl
statements_are T (named.statement_and (named.declares n p t) xs) last = ap (λ (l : List marks.Statement). elaborated_statement T (named.declares n p t) ∷ l) (statements_are T xs last)
statements_are T (named.statement_and (named.lets n p t e) xs) last = ap (λ (l : List marks.Statement). elaborated_statement T (named.lets n p t e) ∷ l) (statements_are T xs last)
statements_are T (named.statement_and (named.evaluates n e b) xs) last = ap (λ (l : List marks.Statement). elaborated_statement T (named.evaluates n e b) ∷ l) (statements_are T xs last)

pub tail_is : (T : Assigned) (xs : named.Statements) (last : tree.Exp) → tail (elaborated.nested T xs last) ≡ last
tail_is T named.no_statement last = refl
tail_is T (named.statement_and (named.declares n p t) xs) last = tail_is T xs last
tail_is T (named.statement_and (named.lets n p t e) xs) last = tail_is T xs last
tail_is T (named.statement_and (named.evaluates n e b) xs) last = tail_is T xs last

module _ (I : Inside) (ns : Names) (T : Assigned) where
  -- ---- a row in two parts

  pub record Cut (vs : List ℕ) (ls : List Around) (i j : ℕ) (l : List plain.Statement) (t : List marks.Statement) (after : List ℕ) (n : ℕ) : Type 0 where
    pub middle : List ℕ
    pub at : ℕ
    pub front : named.Statements
    pub back : named.Statements
    pub first : StandsRow I ns vs ls i at (as_statements (take n l)) front middle
    pub rest : StandsRow I ns middle ls at j (as_statements (drop n l)) back after
    pub first_placed : PlacedRow front
    pub rest_placed : PlacedRow back
    pub first_is : elaborated_row T front ≡ take n t
    pub rest_is : elaborated_row T back ≡ drop n t

  pub cut : {vs after : List ℕ} {ls : List Around} {i j : ℕ} {ss : plain.Statements} {xs : named.Statements} (n : ℕ) → StandsRow I ns vs ls i j ss xs after → PlacedRow xs → Cut vs ls i j (listed ss) (elaborated_row T xs) after n
  cut {vs} {after} {ls} {i} {j} {ss} {xs} zero h p = record {
    middle = vs;
    at = i;
    front = named.no_statement;
    back = xs;
    first = stands.s_no_statement;
    rest = subst (λ (z : plain.Statements). StandsRow I ns vs ls i j z xs after) (sym (as_listed ss)) h;
    first_placed = tt;
    rest_placed = p;
    first_is = refl;
    rest_is = refl;
  }
  cut {vs} {i = i} (suc n) stands.s_no_statement p = record {
    middle = vs;
    at = i;
    front = named.no_statement;
    back = named.no_statement;
    first = stands.s_no_statement;
    rest = stands.s_no_statement;
    first_placed = tt;
    rest_placed = tt;
    first_is = refl;
    rest_is = refl;
  }
  cut (suc n) (stands.s_statement_and {x = x} g h) p =
      let c = cut n h p.1 in record {
        middle = c.middle;
        at = c.at;
        front = named.statement_and x c.front;
        back = c.back;
        first = stands.s_statement_and g c.first;
        rest = c.rest;
        first_placed = (p.0, c.first_placed);
        rest_placed = c.rest_placed;
        first_is = ap (λ (l : List marks.Statement). elaborated_statement T x ∷ l) c.first_is;
        rest_is = c.rest_is;
      }

  -- ---- in three parts, the middle one of so many statements from a number on

  pub record Parted (vs : List ℕ) (ls : List Around) (i j : ℕ) (l : List plain.Statement) (t : List marks.Statement) (after : List ℕ) (n m : ℕ) : Type 0 where
    -- in scope where the run begins, and where it ends
    pub base : List ℕ
    pub end : List ℕ
    pub begins : ℕ
    pub ends : ℕ
    pub front : named.Statements
    pub run : named.Statements
    pub back : named.Statements
    pub first : StandsRow I ns vs ls i begins (as_statements (take n l)) front base
    pub middle : StandsRow I ns base ls begins ends (as_statements (take m (drop n l))) run end
    pub rest : StandsRow I ns end ls ends j (as_statements (drop m (drop n l))) back after
    pub first_placed : PlacedRow front
    pub middle_placed : PlacedRow run
    pub rest_placed : PlacedRow back
    pub first_is : elaborated_row T front ≡ take n t
    pub middle_is : elaborated_row T run ≡ take m (drop n t)
    pub rest_is : elaborated_row T back ≡ drop m (drop n t)

  pub parted : {vs after : List ℕ} {ls : List Around} {i j : ℕ} {ss : plain.Statements} {xs : named.Statements} (n m : ℕ) → StandsRow I ns vs ls i j ss xs after → PlacedRow xs → Parted vs ls i j (listed ss) (elaborated_row T xs) after n m
  parted {vs} {after} {ls} {i} {j} {ss} {xs} n m h p =
      let c = cut n h p in
      let d : Cut c.middle ls c.at j (drop n (listed ss)) (drop n (elaborated_row T xs)) after m =
      subst (λ (l : List plain.Statement). Cut c.middle ls c.at j l (drop n (elaborated_row T xs)) after m) (listed_back (drop n (listed ss)))
      (subst (λ (t : List marks.Statement). Cut c.middle ls c.at j (listed (as_statements (drop n (listed ss)))) t after m) c.rest_is (cut m c.rest c.rest_placed)) in record {
        base = c.middle;
        end = d.middle;
        begins = c.at;
        ends = d.at;
        front = c.front;
        run = d.front;
        back = d.back;
        first = c.first;
        middle = d.first;
        rest = d.rest;
        first_placed = c.first_placed;
        middle_placed = d.first_placed;
        rest_placed = d.rest_placed;
        first_is = c.first_is;
        middle_is = d.first_is;
        rest_is = d.rest_is;
      }

  -- ---- what stands round a row, and behind it

  pub past_scope : {vs after : List ℕ} {ls : List Around} {i j : ℕ} {ss : plain.Statements} {xs : named.Statements} → StandsRow I ns vs ls i j ss xs after → (ar : spots.Around) → ar.scope ≡ vs → (past (elaborated_row T xs) ar).scope ≡ after
  past_scope stands.s_no_statement ar e = e
  past_scope (stands.s_statement_and (stands.s_declares {P = P} q d f) h) ar e = past_scope h (with_variables (variables P) ar) (ap (λ (l : List ℕ). reverse (variables P) ++ l) e)
  past_scope (stands.s_statement_and (stands.s_lets {P = P} q d f g) h) ar e =
      let t = marks.bound (elaborated.pattern T None P) in
      past_scope h (with_variables t ar) ((λ k. reverse (sym (bound_is T None P) k) ++ e k))
  past_scope (stands.s_statement_and (stands.s_evaluates q g) h) ar e = past_scope h (with_variables [] ar) e

  -- ---- what direct statements declare

  two_rows : (xs ys : Names) (ks ms : List ℕ) → map (λ (x : List ℕ). Some x) xs ≡ map (λ (k : ℕ). slice_get ns k) ks → map (λ (x : List ℕ). Some x) ys ≡ map (λ (k : ℕ). slice_get ns k) ms
      → map (λ (x : List ℕ). Some x) (xs ++ ys) ≡ map (λ (k : ℕ). slice_get ns k) (ks ++ ms)
  two_rows xs ys ks ms e f = map-append (λ (x : List ℕ). Some x) xs ys ∙ (λ j. e j ++ f j) ∙ sym (map-append (λ (k : ℕ). slice_get ns k) ks ms)

  pub declared_names : {vs after : List ℕ} {ls : List Around} {i j : ℕ} {ss : plain.Statements} {xs : named.Statements} → StandsRow I ns vs ls i j ss xs after → map (λ (x : List ℕ). Some x) (source.declared_by (listed ss)) ≡ map (λ (k : ℕ). slice_get ns k) (declared_by_all (elaborated_row T xs))
  declared_names stands.s_no_statement = refl
  declared_names (stands.s_statement_and {ss = ss} {xs = xs} (stands.s_declares {p = p} {P = P} q d f) h) =
      two_rows (source.bound p) (source.declared_by (listed ss)) (variables P) (declared_by_all (elaborated_row T xs)) (sym d.words) (declared_names h)
  declared_names (stands.s_statement_and {ss = ss} {xs = xs} (stands.s_lets {p = p} {P = P} q d f g) h) =
      two_rows (source.bound p) (source.declared_by (listed ss)) (marks.bound (elaborated.pattern T None P)) (declared_by_all (elaborated_row T xs)) (sym d.words ∙ ap (map (λ (k : ℕ). slice_get ns k)) (bound_is T None P)) (declared_names h)
  declared_names (stands.s_statement_and (stands.s_evaluates q g) h) = declared_names h

  -- names of numbers
  words_of : (xs : Names) (ks : List ℕ) → map (λ (x : List ℕ). Some x) xs ≡ map (λ (k : ℕ). slice_get ns k) ks → xs ≡ map (λ (k : ℕ). get_or ns k []) ks
  words_of [] [] e = refl
  words_of [] (k ∷ ks) e = absurd (cc)
  words_of (x ∷ xs) [] e = absurd (cc)
  words_of (x ∷ xs) (k ∷ ks) e =
      let first : Some x ≡ slice_get ns k = cc in
      let rest : map (λ (x : List ℕ). Some x) xs ≡ map (λ (k : ℕ). slice_get ns k) ks = cc in
      let word : x ≡ get_or ns k [] = sym (get_or_from_slice_get ns k x [] (sym first)) in
      (λ j. word j ∷ words_of xs ks rest j)

  pub declared_words : (l : List plain.Statement) {vs after : List ℕ} {ls : List Around} {i j : ℕ} {xs : named.Statements} → StandsRow I ns vs ls i j (as_statements l) xs after → source.declared_by l ≡ map (λ (k : ℕ). get_or ns k []) (declared_by_all (elaborated_row T xs))
  declared_words l {xs = xs} h =
      sym (ap source.declared_by (listed_back l)) ∙ words_of (source.declared_by (listed (as_statements l))) (declared_by_all (elaborated_row T xs)) (declared_names h)
