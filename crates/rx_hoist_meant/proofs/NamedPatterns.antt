-- Patterns whose names have a meaning: the variables that one binds have the numbers and the names that resolving enters into scope.
use Rattle.std.proofs.Common.{◌≡◌, ℕ, suc, ◌+◌, ◌≤◌, ◌<◌, Bool, List, [], ◌∷◌, ◌++◌, length, Option, Some, None, slice_get, Ok, refl, sym, ap, ◌∙◌, subst, append-nil, append_assoc, arith}
use Rattle.rx_core.specs.declared.types.Span.{Span}
use Rattle.rx_tree.specs.declared.tree.Ident.{Ident}
use Rattle.rx_tree.specs.Plain as plain
use Rattle.rx_tree.specs.Plain.{PatternTree, PatternTrees, FieldPatterns}
use Rattle.rx_tree.specs.Positions.{a_pattern}
use Rattle.rx_tree.specs.Nodes.{below_pattern, within_patterns, within_field_patterns}
use Rattle.rx_resolve_names.specs.declared.table.NumberedName.{NumberedName}
use Rattle.rx_resolve_names.specs.Scopes.{DeclaredNames, declared_as}
use Rattle.rx_resolve_names.specs.declared.resolved.ItemNames.{ItemNames}
use Rattle.rx_resolve_names.specs.Meant.{number}
use Rattle.rx_resolve_names.specs.Steps.{Naming, nothing, Inside, one, declare, declared_behind, child, next, with_variable, entry, with_names, numbered, names as naming}
use Rattle.rx_resolve_names.specs.Names.{variant_in, struct_in, Bound as BoundSoFar, Binding, binds as binding, also, in_order, in_pattern, in_patterns, in_field_patterns}
use Rattle.rx_typed.specs.declared.nodes.Site.{Site}
use Rattle.rx_typed.specs.declared.nodes.Stage.{Stage}
use Rattle.rx_typed.specs.Naming as numbering
use Rattle.rx_typed.specs.Naming.{first, second, of_pattern, of_patterns, of_field_patterns}
use Rattle.rx_typed.specs.Named as named
use Rattle.rx_typed.specs.Elaborated.{variables, variables_in, variables_in_fields}
use Rattle.rx_hoist_naming.proofs.Claims.{Claims}
use Rattle.rx_hoist_naming.proofs.Steps.{named_ok, the_same, binds, binds_append, Takes, takes_then, takes_give, takes_map, takes_node, takes_made, takes_new, takes_entry, one_more, Part, in_turn, from_zero, restated, entry_part}
use Rattle.rx_hoist_naming.proofs.TypeLemmas.{Sees, one_part}
use Rattle.rx_hoist_meant.proofs.Scopes.{Bound, front_of, behind_of, NumbersAre, both_numbers}

-- the greatest number that is kept
abbrev pub most : ℕ
most = 4294967295

pub kept : (n k : ℕ) → n < k → k ≤ 4294967295 → number n ≡ n
kept n k l m = omega (arith, l, m)

pub declared_behind_is : (ds new : DeclaredNames) (x : Ident) (n : ℕ) (o : Option NumberedName) → declared_behind ds x n o ≡ Ok new → new ≡ ds ++ (x.name, record { number = number n; span = x.span }) ∷ []
declared_behind_is ds new x n None e = sym (the_same _ _ e)
declared_behind_is ds new x n (Some k) e = absurd (cc)

module _ (C : Claims) (I : Inside) (N : ℕ) (small : N ≤ 4294967295) (S : Sees C I N) (names : List (List ℕ)) where
  -- what was bound from the first tables to the second: the numbers, and the names in scope
  pub record Binds {A : Type 0} (b b1 : BoundSoFar) (k : ℕ) (T : List ℕ → A → Type 0) (m : numbering.Numbering A) : Type 0 where
    pub numbers : List ℕ
    pub new : DeclaredNames
    pub adds : b1.bindings ≡ b.bindings ++ new
    pub are : length b1.tables.vars ≤ N → NumbersAre names numbers new
    pub part : Part N b.tables b1.tables k (λ es. Takes (T numbers) b.tables b1.tables es m)

  abbrev OfOne : List ℕ → named.Pattern → Type 0
  OfOne ns p = variables p ≡ ns

  abbrev OfMany : List ℕ → named.Patterns → Type 0
  OfMany ns p = variables_in p ≡ ns

  abbrev OfFields : List ℕ → named.FieldPatterns → Type 0
  OfFields ns p = variables_in_fields p ≡ ns

  abbrev pub PatternTaken : PatternTree → BoundSoFar → BoundSoFar → Type 0
  PatternTaken p b b1 = Binds b b1 (binds (a_pattern p ∷ below_pattern p)) OfOne (of_pattern p)

  unchanged : {A : Type 0} (b b1 : BoundSoFar) (T : List ℕ → A → Type 0) (m : numbering.Numbering A) → also nothing b ≡ Ok b1 → Takes (T []) b.tables b.tables [] m → Binds b b1 0 T m
  unchanged b b1 T m e k = subst (λ (v : BoundSoFar). Binds b v 0 T m) (the_same b b1 e)
      (record { numbers = []; new = []; adds = sym (append-nil b.bindings); are = λ _. tt; part = record { added = []; grown = sym (append-nil b.tables.names); count = omega arith; numbers = λ _. k } })

  -- names first, then what may bind
  order_ok : (f : Naming) (g : Binding) (b b1 : BoundSoFar) → in_order (also f) g b ≡ Ok b1 → (t : ItemNames) × (f b.tables ≡ Ok t) × (g (record { bindings = b.bindings; tables = t }) ≡ Ok b1)
  order_ok f g b b1 e =
      let to : ItemNames → BoundSoFar = λ t. record { bindings = b.bindings; tables = t } in
      let x = named_ok (also f b) g b1 e in let y = named_ok (f b.tables) (λ t. Ok (to t)) x.0 x.1 in
      (y.0, y.1, ap g (the_same (to y.0) x.0 y.2) ∙ x.2)

  bind_taken : (at : List ℕ) (s : Span) (x : Ident) (w : Bool) (b b1 : BoundSoFar) → Bound names (length b.tables.vars) (a_pattern (plain.bind s x w) ∷ []) → binding I at x b ≡ Ok b1 → PatternTaken (plain.bind s x w) b b1
  bind_taken at s x w b b1 h e =
      let n = length b.tables.vars in
      let X = entry I at (number n ∷ []) in
      let to : DeclaredNames → BoundSoFar = λ ds. record { bindings = ds; tables = with_names X (with_variable x.span b.tables) } in
      let d = named_ok (declare b.bindings x n) (λ ds. Ok (to ds)) b1 e in
      let m : length (to d.0).tables.vars ≡ suc n = one_more b.tables.vars x.span in
      let zero : n + 0 ≡ n = omega arith in
      let word : slice_get names n ≡ Some x.name = subst (λ (i : ℕ). slice_get names i ≡ Some x.name) zero (h.each 0 x.name refl) in
      subst (λ (v : BoundSoFar). PatternTaken (plain.bind s x w) b v) (the_same (to d.0) b1 d.2) (record {
        numbers = n ∷ [];
        new = (x.name, record { number = number n; span = x.span }) ∷ [];
        adds = declared_behind_is b.bindings d.0 x n (declared_as b.bindings x.name) d.1;
        are = λ most. (sym (kept n N (omega (arith, m, most)) small), word, tt);
        part = record {
          added = X ∷ [];
          grown = refl;
          count = omega (arith, m);
          numbers = λ most. takes_node s Site.Value (λ i q. takes_then (takes_entry X) (λ c r. takes_map (λ y. named.bind i y w)
              (takes_new (with_names X b.tables) (to d.0).tables (record { mutable = w; stage = Stage.Given }) (λ (y : ℕ). y ≡ n) m refl)
              (λ y v. ap (λ (z : ℕ). z ∷ []) v)));
        };
      })

  two : (b b1 b2 : BoundSoFar) (xs ys : DeclaredNames) → b1.bindings ≡ b.bindings ++ xs → b2.bindings ≡ b1.bindings ++ ys → b2.bindings ≡ b.bindings ++ (xs ++ ys)
  two b b1 b2 xs ys d e = e ∙ ap (λ (l : DeclaredNames). l ++ ys) d ∙ append_assoc b.bindings xs ys

  mutual
    pub pattern_taken : (at : List ℕ) (p : PatternTree) (b b1 : BoundSoFar) → Bound names (length b.tables.vars) (a_pattern p ∷ below_pattern p) → in_pattern I at p b ≡ Ok b1 → PatternTaken p b b1
    pattern_taken at (plain.wild s) b b1 h e = unchanged b b1 OfOne (of_pattern (plain.wild s)) e (takes_made s Site.Value named.wild (λ n q. refl))
    pattern_taken at (plain.bind s x w) b b1 h e = bind_taken at s x w b b1 h e
    pattern_taken at (plain.int_pattern s g v k) b b1 h e = unchanged b b1 OfOne (of_pattern (plain.int_pattern s g v k)) e (takes_made s Site.Value (λ n. named.whole_number n g v k) (λ n q. refl))
    pattern_taken at (plain.bool_pattern s w) b b1 h e = unchanged b b1 OfOne (of_pattern (plain.bool_pattern s w)) e (takes_made s Site.Value (λ n. named.truth n w) (λ n q. refl))
    pattern_taken at (plain.tuple_pattern s ps) b b1 h e =
        let A = patterns_taken at 0 ps b b1 h e in
        record { numbers = A.numbers; new = A.new; adds = A.adds; are = A.are; part = restated A.part refl (λ es k. takes_node s Site.Value (λ n q. takes_map (named.tuple_pattern n) k (λ c x. x))) }
    pattern_taken at (plain.variant_pattern s c v ps) b b1 h e =
        let x = order_ok (naming I at (variant_in I c v)) (in_patterns I at 0 ps) b b1 e in
        let y = named_ok (variant_in I c v) (λ ns. numbered I at ns b.tables) x.0 x.1 in
        let f = S.variants c v y.0 y.1 in
        let A = entry_part N I at b.tables x.0 f.0 (f.1 ∷ []) (variant_in I c v) (y.1 ∙ ap (λ (l : List ℕ). Ok l) f.2) x.1 in
        let n = A.count in
        let B = patterns_taken at 0 ps (record { bindings = b.bindings; tables = x.0 }) b1 (behind_of names (length x.0.vars) [] (within_patterns ps) n h) x.2 in
        record {
          numbers = B.numbers;
          new = B.new;
          adds = B.adds;
          are = B.are;
          part = in_turn A B.part (from_zero (binds (within_patterns ps))) (λ es fs k l. takes_node s Site.Value (λ n q. takes_then k (λ y r. takes_map (named.variant_pattern n (first y.0) (second y.0)) l (λ ps w. w))));
        }
    pattern_taken at (plain.make_pattern s x fs) b b1 h e =
        let y = order_ok (naming I at (one (struct_in I x))) (in_field_patterns I at 0 fs) b b1 e in
        let A = one_part N I at b.tables y.0 (struct_in I x) y.1 in
        let n = A.part.count in
        let B = field_patterns_taken at 0 fs (record { bindings = b.bindings; tables = y.0 }) b1 (behind_of names (length y.0.vars) [] (within_field_patterns fs) n h) y.2 in
        record {
          numbers = B.numbers;
          new = B.new;
          adds = B.adds;
          are = B.are;
          part = in_turn A.part B.part (from_zero (binds (within_field_patterns fs))) (λ es gs k l. takes_node s Site.Value (λ n q. takes_then k (λ y r. takes_map (named.struct_pattern n (first y.0)) l (λ fs w. w))));
        }

    patterns_taken : (at : List ℕ) (i : ℕ) (ps : PatternTrees) (b b1 : BoundSoFar) → Bound names (length b.tables.vars) (within_patterns ps) → in_patterns I at i ps b ≡ Ok b1 → Binds b b1 (binds (within_patterns ps)) OfMany (of_patterns ps)
    patterns_taken at i plain.no_pattern b b1 h e = unchanged b b1 OfMany (of_patterns plain.no_pattern) e (takes_give named.no_pattern refl)
    patterns_taken at i (plain.pattern_and p ps) b b1 h e =
        let x = named_ok (in_pattern I (child at i) p b) (in_patterns I at (next i) ps) b1 e in
        let A = pattern_taken (child at i) p b x.0 (front_of names (a_pattern p ∷ below_pattern p) (within_patterns ps) h) x.1 in
        let B = patterns_taken at (next i) ps x.0 b1 (behind_of names (length x.0.tables.vars) (a_pattern p ∷ below_pattern p) (within_patterns ps) A.part.count h) x.2 in
        let n = B.part.count in
        record {
          numbers = A.numbers ++ B.numbers;
          new = A.new ++ B.new;
          adds = two b x.0 b1 A.new B.new A.adds B.adds;
          are = λ most. both_numbers names A.numbers B.numbers A.new B.new (A.are (omega (arith, n, most))) (B.are most);
          part = in_turn A.part B.part (binds_append (a_pattern p ∷ below_pattern p) (within_patterns ps)) (λ es fs k l. takes_then k (λ c r. takes_map (named.pattern_and c) l (λ d w. (λ j. r j ++ w j))));
        }

    field_patterns_taken : (at : List ℕ) (i : ℕ) (fs : FieldPatterns) (b b1 : BoundSoFar) → Bound names (length b.tables.vars) (within_field_patterns fs) → in_field_patterns I at i fs b ≡ Ok b1
        → Binds b b1 (binds (within_field_patterns fs)) OfFields (of_field_patterns fs)
    field_patterns_taken at i plain.no_field_pattern b b1 h e = unchanged b b1 OfFields (of_field_patterns plain.no_field_pattern) e (takes_give named.no_field_pattern refl)
    field_patterns_taken at i (plain.field_pattern_and y p fs) b b1 h e =
        let x = named_ok (in_pattern I (child at i) p b) (in_field_patterns I at (next i) fs) b1 e in
        let A = pattern_taken (child at i) p b x.0 (front_of names (a_pattern p ∷ below_pattern p) (within_field_patterns fs) h) x.1 in
        let B = field_patterns_taken at (next i) fs x.0 b1 (behind_of names (length x.0.tables.vars) (a_pattern p ∷ below_pattern p) (within_field_patterns fs) A.part.count h) x.2 in
        let n = B.part.count in
        record {
          numbers = A.numbers ++ B.numbers;
          new = A.new ++ B.new;
          adds = two b x.0 b1 A.new B.new A.adds B.adds;
          are = λ most. both_numbers names A.numbers B.numbers A.new B.new (A.are (omega (arith, n, most))) (B.are most);
          part = in_turn A.part B.part (binds_append (a_pattern p ∷ below_pattern p) (within_field_patterns fs)) (λ es fs k l. takes_then k (λ c r. takes_map (named.field_pattern_and y.name c) l (λ d w. (λ j. r j ++ w j))));
        }
