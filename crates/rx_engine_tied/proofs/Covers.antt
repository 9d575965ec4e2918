-- What the typed tree of a part of a run names that was in scope where the run begins, and where it jumps beyond the run, the part's text
-- names and jumps to: along the relation of the text and its tree with numbers, by induction.
use Rattle.std.proofs.Common.{◌≡◌, ℕ, suc, ◌==◌, Bool, true, false, ◌&&◌, if◌then◌else◌, List, [], ◌∷◌, ◌++◌, get_or, Option, Some, None, slice_get, refl, sym, ap, subst, append_assoc}
use Rattle.std.proofs.lemmas.List.{map-append}
use Rattle.std.proofs.lemmas.Option.{get_or_from_slice_get}
use Rattle.rx_tree.specs.declared.tree.Ident.{Ident}
use Rattle.rx_tree.specs.declared.tree.BinaryOp.{BinaryOp}
use Rattle.rx_tree.specs.Plain as plain
use Rattle.rx_tree.specs.Plain.{Expression}
use Rattle.rx_resolve_names.specs.Meant.{Around, a_loop, a_test, target, to_loop}
use Rattle.rx_resolve_names.specs.Steps.{Inside}
use Rattle.rx_typed.specs.declared.nodes.Node.{Node}
use Rattle.rx_typed.specs.Named as named
use Rattle.rx_typed.specs.Named.{Exp, is_place, node_of}
use Rattle.rx_typed.specs.Elaborated as elaborated
use Rattle.rx_typed.specs.Elaborated.{Assigned, Coercion, variables}
use Rattle.rx_typed.specs.Tree as tree
use Rattle.rx_lower_walks.specs.Walks.{Among, here, there}
use Rattle.rx_exits_plan.specs.Blocks as marks
use Rattle.rx_exits_plan.specs.Blocks.{bound, written_tail}
use Rattle.rx_exits_plan.specs.Spots as spots
use Rattle.rx_exits_plan.specs.Spots.{Spot, with_loop, with_variables, spots_in, spots_matched, spots_armed, spots_of}
use Rattle.rx_exits_plan.specs.Exits.{spots_in_statements}
use Rattle.rx_exits_plan.specs.Occurrences.{all_declared, declared, declared_among, in_statements, named_place, names, Occurrence, occurrences, occurrences_armed, occurrences_in, occurrences_matched, occurrences_of, the_variable, variables_among}
use Rattle.rx_hoist_extraction.specs.Names as source
use Rattle.rx_hoist_extraction.specs.Names.{behind_all, is_among, Names}
use Rattle.rx_hoist_extraction.specs.Moved.{leaves}
use Rattle.rx_hoist_naming.specs.NamedPlan.{place_of}
use Rattle.rx_hoist_meant.proofs.TypedNames.{bound_is}
use Rattle.rx_hoist_meant.specs.Stands as stands
use Rattle.rx_hoist_meant.specs.Stands.{StandsPattern, StandsExp, StandsExps, StandsElse, StandsArguments, StandsFields, StandsArms, StandsBody, StandsRow, loop_numbers}
use Rattle.rx_hoist_meant.specs.Placed.{Placed, PlacedAll, PlacedElse, PlacedFields, PlacedArms, PlacedBody, PlacedRow}
use Rattle.rx_hoist_meant.specs.Scoped.{NoneTwice}
use Rattle.rx_hoist_meant.proofs.Patterns.{among_left, among_right, among_split, none_among}
use Rattle.rx_engine_called.specs.Outside.{a_break, a_continue, a_name, break_if, continue_if, name_unless, Outer, outside, outside_all, outside_arguments, outside_arms, outside_body, outside_fields, outside_optional, outside_statements}
use Rattle.rx_engine_tied.proofs.Since as since
use Rattle.rx_engine_tied.proofs.Since.{in_loop, in_test, Rounds, rounds_have, Since, leads_out}

-- a statement of the tree
abbrev pub elaborated_statement : Assigned → named.Statement → marks.Statement
elaborated_statement T (named.declares n p t) = marks.begins n.number (variables p)
elaborated_statement T (named.lets n p t e) = marks.binds n.number (elaborated.pattern T None p) (elaborated.matched T e (elaborated.value T e))
elaborated_statement T (named.evaluates n e b) = marks.does (elaborated.value T e)

abbrev pub elaborated_row : Assigned → named.Statements → List marks.Statement
elaborated_row T named.no_statement = []
elaborated_row T (named.statement_and a ss) = elaborated_statement T a ∷ elaborated_row T ss

declared_both : (os ps : List Occurrence) → declared_among (os ++ ps) ≡ declared_among os ++ declared_among ps
declared_both [] ps = refl
declared_both (names x ∷ os) ps = declared_both os ps
declared_both (declared x ∷ os) ps = ap (λ (l : List ℕ). x ∷ l) (declared_both os ps)

declared_are : (xs : List ℕ) → declared_among (all_declared xs) ≡ xs
declared_are [] = refl
declared_are (x ∷ xs) = ap (λ (l : List ℕ). x ∷ l) (declared_are xs)

module _ (I : Inside) (ns : Names) (T : Assigned) (base : List ℕ) (round : List Around) (once : NoneTwice (loop_numbers round)) where
  -- ---- what is read off a part of the tree, by what its text says

  abbrev Jumps : ℕ → Bool → List Outer → Type 0
  Jumps l false w = (x : Option Ident) × Among (a_break x (place_of l (loop_numbers round))) w
  Jumps l true w = (x : Option Ident) × Among (a_continue x (place_of l (loop_numbers round))) w

  pub record Covers (os : List Occurrence) (ss : List Spot) (w : List Outer) : Type 0 where
    pub told : (x : ℕ) → Among x (variables_among os) → Among x base → Among (a_name (get_or ns x [])) w
    pub jumps : (a : spots.Around) (n l : ℕ) (again : Bool) → Among (spots.a_jump a n l again) ss → Among l (loop_numbers round) → Jumps l again w
    -- what is declared there is new
    pub fresh : (x : ℕ) → Among x (declared_among os) → Among x base → ⊥

  abbrev Goes : List Outer → List Outer → Type 0
  Goes v w = (x : Outer) → Among x v → Among x w

  jumps_in : (l : ℕ) (again : Bool) (v w : List Outer) → Goes v w → Jumps l again v → Jumps l again w
  jumps_in l false v w g j = (j.0, g _ j.1)
  jumps_in l true v w g j = (j.0, g _ j.1)

  pub covers_in : {os : List Occurrence} {ss : List Spot} {v w : List Outer} → Goes v w → Covers os ss v → Covers os ss w
  covers_in {v = v} {w = w} g c = record { told = λ x i b. g _ (c.told x i b); jumps = λ a n l again i b. jumps_in l again v w g (c.jumps a n l again i b); fresh = c.fresh }

  pub none : (w : List Outer) → Covers [] [] w
  none w = record { told = λ x i b. absurd (none_among i); jumps = λ a n l again i b. absurd (none_among i); fresh = λ x i b. none_among i }

  pub join : {os ps : List Occurrence} {ss ts : List Spot} {w : List Outer} → Covers os ss w → Covers ps ts w → Covers (os ++ ps) (ss ++ ts) w
  join {os} {ps} {ss} {ts} {w} c d = record {
    told = λ x i b. among_split x (variables_among os) (variables_among ps) (Among (a_name (get_or ns x [])) w) (subst (Among x) (map-append the_variable os ps) i) (λ j. c.told x j b) (λ j. d.told x j b);
    jumps = λ a n l again i b. among_split (spots.a_jump a n l again) ss ts (Jumps l again w) i (λ j. c.jumps a n l again j b) (λ j. d.jumps a n l again j b);
    fresh = λ x i b. among_split x (declared_among os) (declared_among ps) ⊥ (subst (Among x) (declared_both os ps) i) (λ j. c.fresh x j b) (λ j. d.fresh x j b);
  }

  pub both : {os ps : List Occurrence} {ss ts : List Spot} {v w : List Outer} → Covers os ss v → Covers ps ts w → Covers (os ++ ps) (ss ++ ts) (v ++ w)
  both {v = v} {w = w} c d = join (covers_in (λ x i. among_left v w i) c) (covers_in (λ x i. among_right v w i) d)

  -- further on in a row
  both_on : {os ps : List Occurrence} {ss ts : List Spot} (v r w : List Outer) → Covers os ss v → Covers ps ts (r ++ w) → Covers (os ++ ps) (ss ++ ts) ((v ++ r) ++ w)
  both_on v r w c d = covers_in (λ x i. subst (Among x) (sym (append_assoc v r w)) i) (both c d)

  first_of : {os : List Occurrence} {ss : List Spot} (v w : List Outer) → Covers os ss v → Covers os ss (v ++ w)
  first_of v w c = covers_in (λ x i. among_left v w i) c

  second_of : {os : List Occurrence} {ss : List Spot} (v w : List Outer) → Covers os ss w → Covers os ss (v ++ w)
  second_of v w c = covers_in (λ x i. among_right v w i) c

  alone : {os : List Occurrence} {ss : List Spot} {w : List Outer} → Covers os ss w → Covers (os ++ []) (ss ++ []) w
  alone {w = w} c = join c (none w)

  -- what is declared is new
  declared_covers : {os : List Occurrence} {ss : List Spot} {w : List Outer} (xs : List ℕ) → ((x : ℕ) → Among x xs → Among x base → ⊥) → Covers os ss w → Covers (all_declared xs ++ os) ss w
  declared_covers {w = w} xs new c =
      let first : Covers (all_declared xs) [] w = record { told = λ x i b. absurd (new x (is_declared xs x i) b); jumps = λ a n l again i b. absurd (none_among i); fresh = λ x i b. new x (subst (Among x) (declared_are xs) i) b } in
      join first c
    where
      is_declared : (xs : List ℕ) (x : ℕ) → Among x (variables_among (all_declared xs)) → Among x xs
      is_declared [] x i = absurd (none_among i)
      is_declared (y ∷ xs) x i = at i (is_declared xs x)
        where
          at : {z : ℕ} → Among x (z ∷ variables_among (all_declared xs)) → (Among x (variables_among (all_declared xs)) → Among x xs) → Among x (z ∷ xs)
          at here on = here
          at (there j) on = there (on j)

  -- ends and blocks are no jumps
  pub with_return : {os : List Occurrence} {ss : List Spot} {w : List Outer} (ar : spots.Around) (m : ℕ) → Covers os ss w → Covers os (ss ++ spots.a_return ar m ∷ []) w
  with_return {os} {ss} {w} ar m c = record {
    told = c.told;
    jumps = λ a n l again i b. among_split (spots.a_jump a n l again) ss (spots.a_return ar m ∷ []) (Jumps l again w) i (λ j. c.jumps a n l again j b) (λ j. absurd (not_return j));
    fresh = c.fresh;
  }
    where
      not_return : {a : spots.Around} {n l : ℕ} {again : Bool} → Among (spots.a_jump a n l again) (spots.a_return ar m ∷ []) → ⊥
      not_return (there i) = none_among i

  with_block : {os : List Occurrence} {ss : List Spot} {w : List Outer} (ar : spots.Around) (m : ℕ) (d : tree.Body) → Covers os ss w → Covers os (spots.a_block ar m d ∷ ss) w
  with_block ar m d c = record { told = c.told; jumps = λ a n l again i b. c.jumps a n l again (behind i) b; fresh = c.fresh }
    where
      behind : {a : spots.Around} {n l : ℕ} {again : Bool} {ss : List Spot} → Among (spots.a_jump a n l again) (spots.a_block ar m d ∷ ss) → Among (spots.a_jump a n l again) ss
      behind (there i) = i

  -- ---- forms

  abbrev V : Exp → tree.Exp
  V a = elaborated.value T a

  reads : (ar : spots.Around) (n : Node) (k : Coercion) (p : tree.Place) {w : List Outer} → Covers (named_place p) [] w → Covers (occurrences (elaborated.read_as T n k p)) (spots.spots ar (elaborated.read_as T n k p)) w
  reads ar n elaborated.plain p c = c
  reads ar n elaborated.reborrow p c = c
  reads ar n elaborated.share p c = c

  passes : (ar : spots.Around) (n : Node) (k : Coercion) (e : tree.Exp) {w : List Outer} → Covers (occurrences e) (spots.spots ar e) w → Covers (occurrences (elaborated.passed_as T n k e)) (spots.spots ar (elaborated.passed_as T n k e)) w
  passes ar n elaborated.plain e c = c
  passes ar n elaborated.reborrow e c = c
  passes ar n elaborated.share e c = c

  matched_covers : (ar : spots.Around) (a : Exp) (b : Bool) (k : Coercion) (w : List Outer) → (b ≡ true → Covers (named_place (elaborated.place T a)) [] w) → Covers (occurrences (V a)) (spots.spots ar (V a)) w
      → Covers (occurrences_matched (elaborated.matched_as T b k a (V a))) (spots_matched ar (elaborated.matched_as T b k a (V a))) w
  matched_covers ar a true elaborated.plain w p c = p refl
  matched_covers ar a true elaborated.reborrow w p c = c
  matched_covers ar a true elaborated.share w p c = c
  matched_covers ar a false elaborated.plain w p c = c
  matched_covers ar a false elaborated.reborrow w p c = c
  matched_covers ar a false elaborated.share w p c = c

  operated_covers : (ar : spots.Around) (n : Node) (o : BinaryOp) (x y : tree.Exp) {v w : List Outer} → Covers (occurrences x) (spots.spots ar x) v → Covers (occurrences y) (spots.spots ar y) w
      → Covers (occurrences (elaborated.operated T n o x y)) (spots.spots ar (elaborated.operated T n o x y)) (v ++ w)
  operated_covers ar n BinaryOp.And x y c d = both c d
  operated_covers ar n BinaryOp.Or x y c d = both c d
  operated_covers ar n BinaryOp.Eq x y c d = both c (alone d)
  operated_covers ar n BinaryOp.Ne x y c d = both c (alone d)
  operated_covers ar n BinaryOp.Lt x y c d = both c (alone d)
  operated_covers ar n BinaryOp.Le x y c d = both c (alone d)
  operated_covers ar n BinaryOp.Gt x y c d = both c (alone d)
  operated_covers ar n BinaryOp.Ge x y c d = both c (alone d)
  operated_covers ar n _ x y c d = both c (alone d)

  tuple_covers : (ar : spots.Around) (n : Node) (es : tree.Operands) {w : List Outer} → Covers (occurrences_in es) (spots_in ar es) w → Covers (occurrences (elaborated.tuple_of T n es)) (spots.spots ar (elaborated.tuple_of T n es)) w
  tuple_covers ar n tree.no_operand c = c
  tuple_covers ar n (tree.operand_and k e es) c = c

  choice : (ar : spots.Around) (m : tree.Mark) (x : tree.Scrutinee) (q : tree.Pattern) (b o : tree.Exp) {w : List Outer} → ((x : ℕ) → Among x (bound q) → Among x base → ⊥) → Covers (occurrences_matched x) (spots_matched ar x) w
      → Covers (occurrences b) (spots.spots (with_variables (bound q) ar) b) w → Covers (occurrences o) (spots.spots (with_variables [] ar) o) w
      → Covers (occurrences (tree.choose m x (tree.arm_and q b (tree.arm_and tree.any o tree.no_arm)))) (spots.spots ar (tree.choose m x (tree.arm_and q b (tree.arm_and tree.any o tree.no_arm)))) w
  choice ar m x q b o new c d e = join c (declared_covers (bound q) new (join d (alone e)))

  -- no variable is bound
  nothing_new : (x : ℕ) → Among x [] → Among x base → ⊥
  nothing_new x i b = none_among i

  pattern_new : {vs : List ℕ} {own : Names} {i j : ℕ} {p : plain.PatternTree} {P : named.Pattern} (r : elaborated.Met) → StandsPattern ns vs i j p P → Since ns base vs own → (x : ℕ) → Among x (bound (elaborated.pattern T r P)) → Among x base → ⊥
  pattern_new {P = P} r h s x i b = h.fresh x (subst (Among x) (sym (bound_is T r P)) i) (since.in_scope ns s x b)

  variables_new : {vs : List ℕ} {own : Names} {i j : ℕ} {p : plain.PatternTree} {P : named.Pattern} → StandsPattern ns vs i j p P → Since ns base vs own → (x : ℕ) → Among x (variables P) → Among x base → ⊥
  variables_new h s x i b = h.fresh x i (since.in_scope ns s x b)

  -- a name
  names_one : {vs : List ℕ} {own : Names} (k : ℕ) (y : List ℕ) → Since ns base vs own → slice_get ns k ≡ Some y → (Among k base → is_among y own ≡ false) → Covers (names k ∷ []) [] (name_unless (is_among y own) y)
  names_one {vs} {own} k y s e out = record { told = λ x i b. at i b; jumps = λ a n l again i b. absurd (none_among i); fresh = λ x i b. none_among i }
    where
      it : Among k base → Among (a_name (get_or ns k [])) (name_unless (is_among y own) y)
      it b = subst (λ (z : Bool). Among (a_name (get_or ns k [])) (name_unless z y)) (sym (out b)) (subst (λ (z : List ℕ). Among (a_name (get_or ns k [])) (a_name z ∷ [])) (get_or_from_slice_get ns k y [] e) here)

      at : {x : ℕ} → Among x (k ∷ []) → Among x base → Among (a_name (get_or ns x [])) (name_unless (is_among y own) y)
      at here b = it b
      at (there i) b = absurd (none_among i)

  -- a jump
  breaks_one : {ls ms : List Around} (ar : spots.Around) (m k : ℕ) (l : Option Ident) → Rounds round ls ms → target l ls ≡ to_loop k → Covers [] (spots.a_jump ar m k false ∷ []) (break_if l (leaves l ms))
  breaks_one {ls} {ms} ar m k l h e = record { told = λ x i b. absurd (none_among i); jumps = λ a n j again i b. at i b; fresh = λ x i b. none_among i }
    where
      at : {a : spots.Around} {n j : ℕ} {again : Bool} → Among (spots.a_jump a n j again) (spots.a_jump ar m k false ∷ []) → Among j (loop_numbers round) → Jumps j again (break_if l (leaves l ms))
      at here b = (l, subst (λ (o : Option ℕ). Among (a_break l (place_of k (loop_numbers round))) (break_if l o)) (sym (leads_out once h l k e b)) here)
      at (there i) b = absurd (none_among i)

  continues_one : {ls ms : List Around} (ar : spots.Around) (m k : ℕ) (l : Option Ident) → Rounds round ls ms → target l ls ≡ to_loop k → Covers [] (spots.a_jump ar m k true ∷ []) (continue_if l (leaves l ms))
  continues_one {ls} {ms} ar m k l h e = record { told = λ x i b. absurd (none_among i); jumps = λ a n j again i b. at i b; fresh = λ x i b. none_among i }
    where
      at : {a : spots.Around} {n j : ℕ} {again : Bool} → Among (spots.a_jump a n j again) (spots.a_jump ar m k true ∷ []) → Among j (loop_numbers round) → Jumps j again (continue_if l (leaves l ms))
      at here b = (l, subst (λ (o : Option ℕ). Among (a_continue l (place_of k (loop_numbers round))) (continue_if l o)) (sym (leads_out once h l k e b)) here)
      at (there i) b = absurd (none_among i)

  -- the way out of a loop of the run
  way_out : {ls ms : List Around} (ar : spots.Around) (m k : ℕ) (w : List Outer) → (Among k (loop_numbers ls) → ⊥) → Rounds round ls ms → Covers [] (spots.a_jump ar m k false ∷ []) w
  way_out {ls} {ms} ar m k w new h = record { told = λ x i b. absurd (none_among i); jumps = λ a n j again i b. at i b; fresh = λ x i b. none_among i }
    where
      at : {a : spots.Around} {n j : ℕ} {again : Bool} → Among (spots.a_jump a n j again) (spots.a_jump ar m k false ∷ []) → Among j (loop_numbers round) → Jumps j again w
      at here b = absurd (new (rounds_have h k b))
      at (there i) b = absurd (none_among i)

  -- a place
  pub place_covers : (ms : List Around) {vs : List ℕ} {ls : List Around} {own : Names} {i j : ℕ} {e : Expression} {a : Exp} → StandsExp I ns vs ls i j e a → Placed a → is_place a ≡ true → Since ns base vs own → Covers (named_place (elaborated.place T a)) [] (outside own ms e)
  place_covers ms (stands.s_var {x = x} {u = u} q w h) p t s = names_one u.number x s w (λ b. since.not_own ns s u.number x w h b)
  place_covers ms (stands.s_field q h) p t s = place_covers ms h p.0 p.1 s
  place_covers ms (stands.s_part q h) p t s = place_covers ms h p.0 p.1 s
  place_covers ms (stands.s_deref q h) p t s = place_covers ms h p.0 p.1 s
  place_covers ms (stands.s_int q) p t s = absurd (cc)
  place_covers ms (stands.s_bool q) p t s = absurd (cc)
  place_covers ms (stands.s_tuple q h) p t s = absurd (cc)
  place_covers ms (stands.s_negate q h) p t s = absurd (cc)
  place_covers ms (stands.s_invert q h) p t s = absurd (cc)
  place_covers ms (stands.s_borrow q h) p t s = absurd (cc)
  place_covers ms (stands.s_binary q g h) p t s = absurd (cc)
  place_covers ms (stands.s_assign q g h) p t s = absurd (cc)
  place_covers ms (stands.s_gives q w m h) p t s = absurd (cc)
  place_covers ms (stands.s_update q g h) p t s = absurd (cc)
  place_covers ms (stands.s_call q d h) p t s = absurd (cc)
  place_covers ms (stands.s_hidden q h) p t s = absurd (cc)
  place_covers ms (stands.s_input q) p t s = absurd (cc)
  place_covers ms (stands.s_variant q h) p t s = absurd (cc)
  place_covers ms (stands.s_make q h) p t s = absurd (cc)
  place_covers ms (stands.s_print q h) p t s = absurd (cc)
  place_covers ms (stands.s_block q h) p t s = absurd (cc)
  place_covers ms (stands.s_if q f g h) p t s = absurd (cc)
  place_covers ms (stands.s_if_let q d f g h) p t s = absurd (cc)
  place_covers ms (stands.s_match q g h) p t s = absurd (cc)
  place_covers ms (stands.s_loop q n h) p t s = absurd (cc)
  place_covers ms (stands.s_while q n g h) p t s = absurd (cc)
  place_covers ms (stands.s_while_let q n d g h) p t s = absurd (cc)
  place_covers ms (stands.s_break q h) p t s = absurd (cc)
  place_covers ms (stands.s_continue q h) p t s = absurd (cc)
  place_covers ms (stands.s_return q h) p t s = absurd (cc)

  -- ---- all forms

  -- what was bound since, behind statements
  pub since_row : {vs after : List ℕ} {ls : List Around} {own : Names} {i k : ℕ} {ss : plain.Statements} {xs : named.Statements} → StandsRow I ns vs ls i k ss xs after → Since ns base vs own → Since ns base after (behind_all own ss)
  since_row stands.s_no_statement s = s
  since_row (stands.s_statement_and (stands.s_declares q d e) h) s = since_row h (since.since_pattern ns d s)
  since_row (stands.s_statement_and (stands.s_lets q d e g) h) s = since_row h (since.since_pattern ns d s)
  since_row (stands.s_statement_and (stands.s_evaluates q g) h) s = since_row h s

  mutual
    pub exp_covers : {vs : List ℕ} {ls ms : List Around} {own : Names} {i j : ℕ} {e : Expression} {a : Exp} → StandsExp I ns vs ls i j e a → Placed a → Since ns base vs own → Rounds round ls ms → (ar : spots.Around)
        → Covers (occurrences (V a)) (spots.spots ar (V a)) (outside own ms e)
    exp_covers (stands.s_int q) p s r ar = none _
    exp_covers (stands.s_bool q) p s r ar = none _
    exp_covers (stands.s_tuple {n = n} {xs = xs} q h) p s r ar = tuple_covers ar n (elaborated.operands T 0 xs) (exps_cover 0 h p s r ar)
    exp_covers (stands.s_var {n = n} {x = x} {u = u} q w h) p s r ar = reads ar n (elaborated.coercion_at T n) (elaborated.place T (named.var n u)) (names_one u.number x s w (λ b. since.not_own ns s u.number x w h b))
    exp_covers {ms = ms} (stands.s_field {n = n} {a = a} {x = x} q h) p s r ar = reads ar n (elaborated.coercion_at T n) (elaborated.place T (named.field n a x.name)) (place_covers ms h p.0 p.1 s)
    exp_covers {ms = ms} (stands.s_part {n = n} {a = a} {k = k} q h) p s r ar = reads ar n (elaborated.coercion_at T n) (elaborated.place T (named.part n a k)) (place_covers ms h p.0 p.1 s)
    exp_covers {ms = ms} (stands.s_deref {n = n} {a = a} q h) p s r ar = reads ar n (elaborated.coercion_at T n) (elaborated.place T (named.deref n a)) (place_covers ms h p.0 p.1 s)
    exp_covers (stands.s_negate q h) p s r ar = alone (exp_covers h p s r ar)
    exp_covers (stands.s_invert q h) p s r ar = alone (exp_covers h p s r ar)
    exp_covers {ms = ms} (stands.s_borrow {n = n} {m = m} {a = a} q h) p s r ar = passes ar n (elaborated.coercion_at T n) (tree.borrow (elaborated.mark T n) m (elaborated.place T a)) (place_covers ms h p.0 p.1 s)
    exp_covers (stands.s_binary {n = n} {o = o} {a = a} {b = b} q g h) p s r ar = operated_covers ar n o (V a) (V b) (exp_covers g p.0 s r ar) (exp_covers h p.1 s r ar)
    exp_covers {ms = ms} (stands.s_assign q g h) p s r ar = both (place_covers ms g p.0.0 p.0.1 s) (exp_covers h p.1 s r ar)
    exp_covers (stands.s_gives {x = x} {u = u} q w m h) p s r ar = both (names_one u.number x s w (λ b. since.not_own ns s u.number x w m b)) (exp_covers h p s r ar)
    exp_covers {ms = ms} (stands.s_update q g h) p s r ar = both (place_covers ms g p.0.0 p.0.1 s) (exp_covers h p.1 s r ar)
    exp_covers (stands.s_call {n = n} {k = f} {xs = xs} q d h) p s r ar = passes ar n (elaborated.coercion_at T n) (tree.call (elaborated.mark T n) f (elaborated.operands T 0 xs)) (exps_cover 0 h p s r ar)
    exp_covers (stands.s_hidden q h) p s r ar = absurd p
    exp_covers (stands.s_input q) p s r ar = none _
    exp_covers (stands.s_variant q h) p s r ar = arguments_cover h p s r ar
    exp_covers (stands.s_make {k = k} q h) p s r ar = fields_cover k h p s r ar
    exp_covers (stands.s_print q h) p s r ar = exp_covers h p s r ar
    exp_covers (stands.s_block q h) p s r ar = body_covers h p s r ar
    exp_covers {ms = ms} {own = own} (stands.s_if {n = n} {c = c} {C = C} {b = b} {B = B} {o = o} {O = O} q f g h) p s r ar =
        let m = elaborated.mark_if T n (named.body_never B && named.else_never O) in
        let t = tree.exactly n.number (tree.truth true) in
        let u = outside own ms c in
        let v = outside_body own ms b in
        let w = outside_optional own ms o in
        choice ar m (tree.of_value (V C)) t (elaborated.body T B) (elaborated.otherwise T n O) nothing_new (first_of u (v ++ w) (exp_covers f p.0 s r ar))
        (second_of u (v ++ w) (first_of v w (body_covers g p.1 s r (with_variables [] ar)))) (second_of u (v ++ w) (second_of v w (otherwise_covers n h p.2 s r (with_variables [] ar))))
    exp_covers {ms = ms} {own = own} (stands.s_if_let {n = n} {p = y} {P = P} {e = e} {a = a} {b = b} {B = B} {o = o} {O = O} q d f g h) p s r ar =
        let m = elaborated.mark_if T n (named.body_never B && named.else_never O) in
        let t = elaborated.pattern T None P in
        let u = outside own ms e in
        let v = outside_body (source.bound y ++ own) ms b in
        let w = outside_optional own ms o in
        choice ar m (elaborated.matched T a (V a)) t (elaborated.body T B) (elaborated.otherwise T n O) (pattern_new None d s)
        (first_of u (v ++ w) (matched_covers ar a (is_place a) (elaborated.coercion_at T (node_of a)) u (λ z. place_covers ms f p.0 z s) (exp_covers f p.0 s r ar)))
        (second_of u (v ++ w) (first_of v w (body_covers g p.1 (since.since_pattern ns d s) r (with_variables (bound t) ar))))
        (second_of u (v ++ w) (second_of v w (otherwise_covers n h p.2 s r (with_variables [] ar))))
    exp_covers {ms = ms} {own = own} (stands.s_match {e = e} {a = a} q g h) p s r ar =
        both (matched_covers ar a (is_place a) (elaborated.coercion_at T (node_of a)) (outside own ms e) (λ z. place_covers ms g p.0 z s) (exp_covers g p.0 s r ar)) (arms_cover h p.1 s r ar)
    exp_covers (stands.s_loop {k = k} q new h) p s r ar = body_covers h p s (in_loop new r) (with_loop k ar)
    exp_covers {ms = ms} {own = own} (stands.s_while {n = n} {l = l} {k = k} {c = c} {C = C} {b = b} {B = B} q new g h) p s r ar =
        let m = elaborated.mark_if T (named.body_node B) (named.body_never B) in
        let t = tree.exactly n.number (tree.truth true) in
        let a2 = with_loop k ar in
        let u = outside own (a_test ∷ a_loop l 0 ∷ ms) c in
        let v = outside_body own (a_loop l 0 ∷ ms) b in
        choice a2 m (tree.of_value (V C)) t (elaborated.body T B) (elaborated.leaves n k) nothing_new (first_of u v (exp_covers g p.0 s (in_test (in_loop new r)) a2))
        (second_of u v (body_covers h p.1 s (in_loop new r) (with_variables [] a2))) (way_out (with_variables [] a2) n.number k (u ++ v) new r)
    exp_covers {ms = ms} {own = own} (stands.s_while_let {n = n} {l = l} {k = k} {p = y} {P = P} {e = e} {a = a} {b = b} {B = B} q new d g h) p s r ar =
        let m = elaborated.mark_if T (named.body_node B) (named.body_never B) in
        let t = elaborated.pattern T None P in
        let a2 = with_loop k ar in
        let u = outside own (a_test ∷ a_loop l 0 ∷ ms) e in
        let v = outside_body (source.bound y ++ own) (a_loop l 0 ∷ ms) b in
        choice a2 m (elaborated.matched T a (V a)) t (elaborated.body T B) (elaborated.leaves n k) (pattern_new None d s)
        (first_of u v (matched_covers a2 a (is_place a) (elaborated.coercion_at T (node_of a)) u (λ z. place_covers (a_test ∷ a_loop l 0 ∷ ms) g p.0 z s) (exp_covers g p.0 s (in_test (in_loop new r)) a2)))
        (second_of u v (body_covers h p.1 (since.since_pattern ns d s) (in_loop new r) (with_variables (bound t) a2))) (way_out (with_variables [] a2) n.number k (u ++ v) new r)
    exp_covers (stands.s_break {n = n} {l = l} {k = k} q h) p s r ar = breaks_one ar n.number k l r h
    exp_covers (stands.s_continue {n = n} {l = l} {k = k} q h) p s r ar = continues_one ar n.number k l r h
    exp_covers (stands.s_return {n = n} q h) p s r ar = with_return ar n.number (returned_covers n h p s r ar)

    exps_cover : {vs : List ℕ} {ls ms : List Around} {own : Names} {i j : ℕ} {es : plain.Expressions} {xs : named.Exps} (k : ℕ) → StandsExps I ns vs ls i j es xs → PlacedAll xs → Since ns base vs own → Rounds round ls ms → (ar : spots.Around)
        → Covers (occurrences_in (elaborated.operands T k xs)) (spots_in ar (elaborated.operands T k xs)) (outside_all own ms es)
    exps_cover k stands.s_no_exp p s r ar = none _
    exps_cover k (stands.s_exp_and g h) p s r ar = both (exp_covers g p.0 s r ar) (exps_cover (suc k) h p.1 s r ar)

    otherwise_covers : {vs : List ℕ} {ls ms : List Around} {own : Names} {i j : ℕ} {o : plain.OptionalExpression} {O : named.Else} (n : Node) → StandsElse I ns vs ls i j o O → PlacedElse O → Since ns base vs own → Rounds round ls ms → (ar : spots.Around)
        → Covers (occurrences (elaborated.otherwise T n O)) (spots.spots ar (elaborated.otherwise T n O)) (outside_optional own ms o)
    otherwise_covers n stands.s_absent p s r ar = none _
    otherwise_covers n (stands.s_present h) p s r ar = exp_covers h p s r ar

    returned_covers : {vs : List ℕ} {ls ms : List Around} {own : Names} {i j : ℕ} {o : plain.OptionalExpression} {O : named.Else} (n : Node) → StandsElse I ns vs ls i j o O → PlacedElse O → Since ns base vs own → Rounds round ls ms → (ar : spots.Around)
        → Covers (occurrences (elaborated.returned T n O)) (spots.spots ar (elaborated.returned T n O)) (outside_optional own ms o)
    returned_covers n stands.s_absent p s r ar = none _
    returned_covers n (stands.s_present h) p s r ar = exp_covers h p s r ar

    pub tail_covers : {vs : List ℕ} {ls ms : List Around} {own : Names} {i j : ℕ} {o : plain.OptionalExpression} {O : named.Else} (n : Node) → StandsElse I ns vs ls i j o O → PlacedElse O → Since ns base vs own → Rounds round ls ms → (ar : spots.Around)
        → Covers (occurrences (elaborated.tail T n O)) (spots.spots ar (elaborated.tail T n O)) (outside_optional own ms o)
    tail_covers n stands.s_absent p s r ar = none _
    tail_covers n (stands.s_present h) p s r ar = exp_covers h p s r ar

    arguments_cover : {vs : List ℕ} {ls ms : List Around} {own : Names} {i j : ℕ} {es : plain.OptionalExpressions} {xs : named.Exps} → StandsArguments I ns vs ls i j es xs → PlacedAll xs → Since ns base vs own → Rounds round ls ms → (ar : spots.Around)
        → Covers (occurrences_in (elaborated.operands T 0 xs)) (spots_in ar (elaborated.operands T 0 xs)) (outside_arguments own ms es)
    arguments_cover stands.s_no_list p s r ar = none _
    arguments_cover (stands.s_list h) p s r ar = exps_cover 0 h p s r ar

    fields_cover : {vs : List ℕ} {ls ms : List Around} {own : Names} {i j : ℕ} {fs : plain.FieldExpressions} {xs : named.Fields} (k : ℕ) → StandsFields I ns vs ls i j fs xs → PlacedFields xs → Since ns base vs own → Rounds round ls ms → (ar : spots.Around)
        → Covers (occurrences_in (elaborated.fields T k xs)) (spots_in ar (elaborated.fields T k xs)) (outside_fields own ms fs)
    fields_cover k stands.s_no_field p s r ar = none _
    fields_cover k (stands.s_field_and g h) p s r ar = both (exp_covers g p.0 s r ar) (fields_cover k h p.1 s r ar)

    arms_cover : {vs : List ℕ} {ls ms : List Around} {own : Names} {i j : ℕ} {l : plain.Arms} {L : named.Arms} → StandsArms I ns vs ls i j l L → PlacedArms L → Since ns base vs own → Rounds round ls ms → (ar : spots.Around)
        → Covers (occurrences_armed (elaborated.arms T L)) (spots_armed ar (elaborated.arms T L)) (outside_arms own ms l)
    arms_cover stands.s_no_arm p s r ar = none _
    arms_cover (stands.s_arm_and {P = P} d g h) p s r ar =
        let t = elaborated.pattern T None P in
        declared_covers (bound t) (pattern_new None d s) (both (exp_covers g p.0 (since.since_pattern ns d s) r (with_variables (bound t) ar)) (arms_cover h p.1 s r ar))

    body_covers : {vs : List ℕ} {ls ms : List Around} {own : Names} {i j : ℕ} {b : plain.Body} {B : named.Body} → StandsBody I ns vs ls i j b B → PlacedBody B → Since ns base vs own → Rounds round ls ms → (ar : spots.Around)
        → Covers (occurrences (elaborated.body T B)) (spots.spots ar (elaborated.body T B)) (outside_body own ms b)
    body_covers {ms = ms} {own = own} (stands.s_body {n = n} {ss = ss} {xs = xs} {o = o} {O = O} q c g h) p s r ar =
        with_block ar n.number (elaborated.nested T xs (elaborated.tail T n O))
        (nested_covers g p.0 s r ar (elaborated.tail T n O) (outside_optional (behind_all own ss) ms o) (λ a'. tail_covers n h p.1 (since_row g s) r a'))

    nested_covers : {vs after : List ℕ} {ls ms : List Around} {own : Names} {i k : ℕ} {ss : plain.Statements} {xs : named.Statements} → StandsRow I ns vs ls i k ss xs after → PlacedRow xs → Since ns base vs own → Rounds round ls ms → (ar : spots.Around)
        → (last : tree.Exp) (w : List Outer) → ((a' : spots.Around) → Covers (occurrences last) (spots.spots a' last) w)
        → Covers (occurrences_of (elaborated.nested T xs last)) (spots_of ar (elaborated.nested T xs last)) (outside_statements own ms ss ++ w)
    nested_covers stands.s_no_statement p s r ar last w f = f ar
    nested_covers (stands.s_statement_and (stands.s_declares {P = P} q d e) h) p s r ar last w f =
        declared_covers (variables P) (variables_new d s) (nested_covers h p.1 (since.since_pattern ns d s) r (with_variables (variables P) ar) last w f)
    nested_covers {ms = ms} {own = own} (stands.s_statement_and {ss = ss} (stands.s_lets {p = y} {P = P} {e = e} {a = a} q d l g) h) p s r ar last w f =
        let t = elaborated.pattern T None P in
        let u = outside own ms e in
        declared_covers (bound t) (pattern_new None d s) (both_on u (outside_statements (source.bound y ++ own) ms ss) w
        (matched_covers ar a (is_place a) (elaborated.coercion_at T (node_of a)) u (λ z. place_covers ms g p.0 z s) (exp_covers g p.0 s r ar))
        (nested_covers h p.1 (since.since_pattern ns d s) r (with_variables (bound t) ar) last w f))
    nested_covers {ms = ms} {own = own} (stands.s_statement_and {ss = ss} (stands.s_evaluates {e = e} q g) h) p s r ar last w f =
        both_on (outside own ms e) (outside_statements own ms ss) w (exp_covers g p.0 s r ar) (nested_covers h p.1 s r ar last w f)

  -- ---- of a run

  pub statements_cover : {vs after : List ℕ} {ls ms : List Around} {own : Names} {i k : ℕ} {ss : plain.Statements} {xs : named.Statements} → StandsRow I ns vs ls i k ss xs after → PlacedRow xs → Since ns base vs own → Rounds round ls ms → (ar : spots.Around)
      → Covers (in_statements (elaborated_row T xs)) (spots_in_statements ar (elaborated_row T xs)) (outside_statements own ms ss)
  statements_cover stands.s_no_statement p s r ar = none _
  statements_cover (stands.s_statement_and (stands.s_declares {P = P} q d e) h) p s r ar =
      declared_covers (variables P) (variables_new d s) (statements_cover h p.1 (since.since_pattern ns d s) r (with_variables (variables P) ar))
  statements_cover {ms = ms} {own = own} (stands.s_statement_and (stands.s_lets {P = P} {e = e} {a = a} q d l g) h) p s r ar =
      let t = elaborated.pattern T None P in
      both (declared_covers (bound t) (pattern_new None d s) (matched_covers ar a (is_place a) (elaborated.coercion_at T (node_of a)) (outside own ms e) (λ z. place_covers ms g p.0 z s) (exp_covers g p.0 s r ar)))
      (statements_cover h p.1 (since.since_pattern ns d s) r (with_variables (bound t) ar))
  statements_cover (stands.s_statement_and (stands.s_evaluates q g) h) p s r ar = both (exp_covers g p.0 s r ar) (statements_cover h p.1 s r ar)

  less : {os : List Occurrence} {ss : List Spot} {w : List Outer} (ts : List Spot) → Covers os (ss ++ ts) w → Covers os ss w
  less {ss = ss} ts c = record { told = c.told; jumps = λ a n l again i b. c.jumps a n l again (among_left ss ts i) b; fresh = c.fresh }

  -- the value of a run that has the block's tail
  pub written_covers : (m : ℕ) (ar : spots.Around) (e : tree.Exp) {w : List Outer} → Covers (occurrences e) (spots.spots ar e) w → Covers (occurrences (written_tail m e)) (spots.spots ar (written_tail m e)) w
  written_covers m ar (tree.give n e) {w} c = by (n.node == m)
    where
      by : (b : Bool) → Covers (occurrences (if b then e else tree.give n e)) (spots.spots ar (if b then e else tree.give n e)) w
      by true = less (spots.a_return ar n.node ∷ []) c
      by false = c
  written_covers m ar _ c = c
