-- Patterns whose names have a meaning, as parts of trees with numbers: from what rx_hoist_meant shows of them. Their variables have the
-- next numbers, so they are none of those in scope.
use Rattle.std.proofs.Common.{◌≡◌, ℕ, suc, ◌+◌, ◌≤◌, ◌<◌, List, [], ◌∷◌, ◌++◌, length, map, reverse, slice_get, Some, Ok, refl, sym, ap, ◌∙◌, subst, append-nil, arith}
use Rattle.std.proofs.lemmas.Grind.{reverse_onto}
use Rattle.rx_core.specs.declared.types.Span.{Span}
use Rattle.rx_tree.specs.Plain.{PatternTree}
use Rattle.rx_tree.specs.Positions.{a_pattern}
use Rattle.rx_tree.specs.Nodes.{below_pattern}
use Rattle.rx_resolve_names.specs.Scopes.{DeclaredNames, Variables, entered}
use Rattle.rx_resolve_names.specs.declared.resolved.ItemNames.{ItemNames}
use Rattle.rx_resolve_names.specs.declared.resolved.NodeNames.{NodeNames}
use Rattle.rx_resolve_names.specs.Steps.{Inside}
use Rattle.rx_resolve_names.specs.Names.{Bound as BoundSoFar, in_pattern}
use Rattle.rx_typed.specs.Naming.{Cursor, not_declared, of_pattern}
use Rattle.rx_typed.specs.Elaborated.{variables}
use Rattle.rx_lower_walks.specs.Walks.{Among, here, there}
use Rattle.rx_hoist_nodes.specs.Nodes.{within}
use Rattle.rx_hoist_extraction.specs.Names as extraction
use Rattle.rx_hoist_extraction.specs.Names.{bound}
use Rattle.rx_hoist_naming.proofs.Claims.{Claims}
use Rattle.rx_hoist_naming.proofs.Steps.{binds}
use Rattle.rx_hoist_naming.proofs.TypeLemmas.{Sees}
use Rattle.rx_hoist_meant.proofs.Scopes.{Bound, ScopeIs, entered_is}
use Rattle.rx_hoist_meant.proofs.NamedPatterns as meant
use Rattle.rx_hoist_meant.specs.Stands.{StandsPattern}
use Rattle.rx_hoist_meant.proofs.Steps.{Part, counted_too, Takes}
use Rattle.rx_hoist_meant.proofs.Loops.{from, from_least, from_most, nodes_bind, pattern_keeps, pattern_numbers, pattern_size, pattern_still, words_from}

-- ---- scopes

abbrev pub Below : ℕ → List ℕ → Type 0
Below n vs = (x : ℕ) → Among x vs → x < n

-- either front or back
pub among_split : {A : Type 0} (x : A) (xs ys : List A) (C : Type 0) → Among x (xs ++ ys) → (Among x xs → C) → (Among x ys → C) → C
among_split x [] ys C i f g = g i
among_split {A} x (y ∷ xs) ys C i f g = by i (λ j. f j) (λ k. among_split x xs ys C k (λ j. f (there j)) g)
  where
    by : {z : A} → Among x (z ∷ (xs ++ ys)) → (Among x (z ∷ xs) → C) → (Among x (xs ++ ys) → C) → C
    by here f on = f here
    by (there k) f on = on k

pub among_left : {A : Type 0} {x : A} (xs ys : List A) → Among x xs → Among x (xs ++ ys)
among_left _ ys here = here
among_left _ ys (there h) = there (among_left _ ys h)

pub among_right : {A : Type 0} {x : A} (xs ys : List A) → Among x ys → Among x (xs ++ ys)
among_right [] ys h = h
among_right (z ∷ xs) ys h = there (among_right xs ys h)

pub none_among : {A : Type 0} {x : A} → Among x [] → ⊥
none_among h = elim h [ ]

pub among_reversed : {A : Type 0} (x : A) (xs : List A) → Among x (reverse xs) → Among x xs
among_reversed x [] i = absurd (none_among i)
among_reversed {A} x (y ∷ xs) i =
    let j = subst (λ (l : List A). Among x l) (reverse_onto xs y []) i in
    among_split x (reverse xs) (y ∷ []) (Among x (y ∷ xs)) j (λ k. there (among_reversed x xs k)) (λ k. last k)
  where
    last : {z : A} → Among x (z ∷ []) → Among x (z ∷ xs)
    last here = here
    last (there k) = absurd (none_among k)

pub reversed_among : {A : Type 0} (x : A) (xs : List A) → Among x xs → Among x (reverse xs)
reversed_among x [] i = absurd (none_among i)
reversed_among {A} x (y ∷ xs) i = subst (λ (l : List A). Among x l) (sym (reverse_onto xs y [])) (by i (λ k. reversed_among x xs k))
  where
    by : {z : A} → Among x (z ∷ xs) → (Among x xs → Among x (reverse xs)) → Among x (reverse xs ++ z ∷ [])
    by {z} here on = among_right (reverse xs) (z ∷ []) here
    by {z} (there k) on = among_left (reverse xs) (z ∷ []) (on k)

pub below_more : (n m : ℕ) (vs : List ℕ) → n ≤ m → Below n vs → Below m vs
below_more n m vs l h x i = let k = h x i in omega (arith, k, l)

pub below_entered : (n m : ℕ) (xs : extraction.Names) (vs : List ℕ) → m ≡ n + length xs → Below n vs → Below m (reverse (from n xs) ++ vs)
below_entered n m xs vs e h x i =
    among_split x (reverse (from n xs)) vs (x < m) i (λ k. let l = from_most n xs x (among_reversed x (from n xs) k) in omega (arith, l, e)) (λ k. let l = h x k in omega (arith, l, e))

-- ---- a pattern

module _ (C : Claims) (I : Inside) (N M : ℕ) (small : N ≤ 4294967295) (S : Sees C I N) (names : List (List ℕ)) where
  -- what is shown of it: its numbers, and what is in scope behind it
  pub record PatternPart (p : PatternTree) (t : ItemNames) (b1 : BoundSoFar) : Type 0 where
    pub part : (vs : List ℕ) → (length t.vars ≤ N → Below (length t.vars) vs) → Part N M t b1.tables (binds (a_pattern p ∷ below_pattern p))
        (λ es. (i : ℕ) → Takes i (λ j c. StandsPattern names vs i j p c × (variables c ≡ from (length t.vars) (bound p))) t b1.tables es (of_pattern p))
    pub scope : (vs : List ℕ) (sc : Variables) → length b1.tables.vars ≤ N → ScopeIs names vs sc → ScopeIs names (reverse (from (length t.vars) (bound p)) ++ vs) (entered sc b1.bindings)
    pub count : length b1.tables.vars ≡ length t.vars + length (bound p)
    pub same_loops : length b1.tables.loops ≡ length t.loops

  -- a cursor where the tables stand
  there_is : ItemNames → List NodeNames → Cursor
  there_is t es = record { number = 0; spans = []; loops = []; declared = length t.vars; variables = map (λ (s : Span). not_declared) t.vars; names = es; annotations = [] }

  pub pattern_part : (at : List ℕ) (p : PatternTree) (t : ItemNames) (b1 : BoundSoFar) → Bound names (length t.vars) (a_pattern p ∷ below_pattern p) → in_pattern I at p (record { bindings = []; tables = t }) ≡ Ok b1 → PatternPart p t b1
  unfolding there_is
  pattern_part at p t b1 h e =
      let b0 : BoundSoFar = record { bindings = []; tables = t } in
      let P = meant.pattern_taken C I N small S names at p b0 b1 h e in
      let nodes = a_pattern p ∷ below_pattern p in
      let keeps = pattern_keeps I at p b0 b1 e in
      let bind_count : binds nodes ≡ length (bound p) = ap (λ (l : extraction.Names). length l) (nodes_bind p) in
      let count = P.part.count in
      let words : (k : ℕ) (x : List ℕ) → slice_get (bound p) k ≡ Some x → slice_get names (length t.vars + k) ≡ Some x =
      λ k x g. h.each k x (subst (λ (l : extraction.Names). slice_get l k ≡ Some x) (sym (nodes_bind p)) g) in
      let numbers : length b1.tables.vars ≤ N → P.numbers ≡ from (length t.vars) (bound p) = λ most.
      let c = there_is t P.part.added in
      let x = (P.part.numbers most).holds c [] (refl, lengths t.vars) (sym (append-nil P.part.added)) in
      sym x.fits ∙ (pattern_numbers p c).each in
      record {
        part = λ vs below. record {
          added = P.part.added;
          grown = P.part.grown;
          count = P.part.count;
          rising = omega (arith, keeps);
          numbers = λ most less i. record {
            holds = λ c rest q d e.
                let old_one = counted_too (length (within (a_pattern p))) (P.part.numbers most) (λ c. pattern_size p c) (λ c. pattern_still p c) keeps i in
                let x = old_one.holds c rest q d e in
                let few : length t.vars ≤ N = omega (arith, most, count) in
                let is : variables (of_pattern p c).0 ≡ from (length t.vars) (bound p) = (pattern_numbers p c).each ∙ ap (λ (n : ℕ). from n (bound p)) d.0 in
                record {
                  fits = (
                    record {
                      size = x.fits.0;
                      words = ap (λ (l : List ℕ). map (λ (k : ℕ). slice_get names k) l) is ∙ words_from names (bound p) (length t.vars) words;
                      fresh = λ y k l. clash (length t.vars) y (from_least (length t.vars) (bound p) y (subst (λ (l : List ℕ). Among y l) is k)) (below few y l);
                    },
                    is,
                  );
                  stands = x.stands;
                  left = x.left;
                };
          };
        };
        scope = λ vs sc most s. subst (λ (l : List ℕ). ScopeIs names (reverse l ++ vs) (entered sc b1.bindings)) (numbers most)
            (subst (λ (ds : DeclaredNames). ScopeIs names (reverse P.numbers ++ vs) (entered sc ds)) (sym P.adds) (entered_is names P.numbers P.new vs sc (P.are most) s));
        count = omega (arith, count, bind_count);
        same_loops = keeps;
      }
    where
      lengths : (xs : List Span) → length (map (λ (s : Span). not_declared) xs) ≡ length xs
      lengths [] = refl
      lengths (x ∷ xs) = ap suc (lengths xs)

      clash : (n y : ℕ) → n ≤ y → y < n → ⊥
      clash n y l m = omega (arith, l, m)
