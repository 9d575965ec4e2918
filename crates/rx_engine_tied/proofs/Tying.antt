-- What a run of the typed tree names of the variables that are in scope where it begins, its text names; its jumps are the text's, and its
-- direct statements declare the same names. What the text names behind the run is named there in the tree; where the run declares it, it is
-- what a direct statement of the run declares.
use Rattle.std.proofs.Common.{◌≡◌, ℕ, ◌+◌, ◌==◌, Bool, true, false, ◌||◌, if◌then◌else◌, List, [], ◌∷◌, ◌++◌, map, reverse, get_or, Option, Some, None, slice_get, refl, sym, ap, ◌∙◌, subst, ◌⊎◌, inl, inr, append_assoc, append-nil}
use Rattle.std.proofs.lemmas.Bool.{eq-eqb}
use Rattle.std.proofs.lemmas.List.{map-append, reverse-append}
use Rattle.std.proofs.lemmas.Option.{get_or_from_slice_get}
use Rattle.rx_tree.specs.declared.tree.Ident.{Ident}
use Rattle.rx_tree.specs.Lists.{statements, tail}
use Rattle.rx_tree.specs.Plain as plain
use Rattle.rx_tree.specs.Plain.{Body}
use Rattle.rx_resolve_names.specs.Meant.{Around, as_function, function_name, item_named}
use Rattle.rx_resolve_names.specs.Steps.{Inside}
use Rattle.rx_typed.specs.Named as named
use Rattle.rx_typed.specs.Elaborated as elaborated
use Rattle.rx_typed.specs.Elaborated.{Assigned, variables}
use Rattle.rx_typed.specs.Tree as tree
use Rattle.rx_lower_walks.specs.Walks.{Among, here, there}
use Rattle.rx_exits_plan.specs.Blocks as marks
use Rattle.rx_exits_plan.specs.Blocks.{declared_by_all}
use Rattle.rx_exits_plan.specs.Points.{breaks, continues, returns}
use Rattle.rx_exits_plan.specs.Runs as runs
use Rattle.rx_exits_plan.specs.Runs.{Home, inside}
use Rattle.rx_exits_plan.specs.Spots as spots
use Rattle.rx_exits_plan.specs.Spots.{Spot}
use Rattle.rx_exits_plan.specs.Asked.{Asked}
use Rattle.rx_exits_plan.specs.Exits.{at_start, exits, Jump}
use Rattle.rx_exits_plan.specs.Occurrences.{drops, firsts, has_number, in_run, in_statements, is_direct, is_named_behind, occurrences, the_variable, variables_among, variables_of_run}
use Rattle.rx_exits.specs.Refusing.{same_name}
use Rattle.rx_hoist_extraction.specs.Names.{behind_all, declared_by, is_among, Names}
use Rattle.rx_hoist_extraction.specs.Run as extraction
use Rattle.rx_hoist_extraction.specs.Run.{as_statements, chosen, chosen_parts}
use Rattle.rx_hoist_naming.specs.NamedPlan.{place_of}
use Rattle.rx_hoist_meant.specs.NamesMeant.{MeansIt}
use Rattle.rx_hoist_meant.specs.Stands as stands
use Rattle.rx_hoist_meant.specs.Stands.{IsFunction, loop_numbers, StandsRow}
use Rattle.rx_hoist_meant.specs.Scoped.{IsLast}
use Rattle.rx_hoist_meant.proofs.Patterns.{among_left, among_reversed, among_right, among_split, none_among, reversed_among}
use Rattle.rx_hoist_meant.proofs.TypedNames.{bound_is}
use Rattle.rx_engine_names.specs.Within.{OptionalWithin, StatementsWithin}
use Rattle.rx_engine_names.proofs.Scoped.{among_append}
use Rattle.rx_engine_called.specs.Outside.{a_break, a_continue, a_name, outside_of}
use Rattle.rx_engine_called.specs.Tied.{tied_behind}
use Rattle.rx_engine_tied.proofs.Since as since
use Rattle.rx_engine_tied.proofs.Since.{none_since, Since}
use Rattle.rx_engine_tied.proofs.Covers as covers
use Rattle.rx_engine_tied.proofs.Covers.{elaborated_row}
use Rattle.rx_engine_tied.proofs.Rows as rows
use Rattle.rx_engine_tied.proofs.Exits as exiting
use Rattle.rx_engine_tied.proofs.Exits.{Comes, of_jump, of_return, run_spots}
use Rattle.rx_engine_tied.proofs.Runs as standing
use Rattle.rx_engine_tied.proofs.Runs.{Seated}
use Rattle.rx_engine_tied.proofs.Tells as telling
use Rattle.rx_engine_tied.proofs.Tells.{any_round}

-- ---- lists of numbers

drops_among : (x y : ℕ) (l : List ℕ) → Among x (drops y l) → Among x l
drops_among x y [] i = i
drops_among x y (z ∷ l) i = by (z == y) i (drops_among x y l)
  where
    at : {w : ℕ} → Among x (w ∷ drops y l) → (Among x (drops y l) → Among x l) → Among x (w ∷ l)
    at here on = here
    at (there j) on = there (on j)

    by : (b : Bool) → Among x (if b then drops y l else z ∷ drops y l) → (Among x (drops y l) → Among x l) → Among x (z ∷ l)
    by true i on = there (on i)
    by false i on = at i on

pub firsts_among : (x : ℕ) (l : List ℕ) → Among x (firsts l) → Among x l
firsts_among x [] i = i
firsts_among x (y ∷ l) i = at i (firsts_among x l)
  where
    at : {w : ℕ} → Among x (w ∷ drops w (firsts l)) → (Among x (firsts l) → Among x l) → Among x (w ∷ l)
    at here on = here
    at {w} (there j) on = there (on (drops_among x w (firsts l) j))

pub has_it : (x : ℕ) (l : List ℕ) → Among x l → has_number x l ≡ true
has_it x [] i = absurd (none_among i)
has_it x (y ∷ l) i = by i (has_it x l)
  where
    or_second : (a b : Bool) → b ≡ true → (a || b) ≡ true
    or_second true b e = refl
    or_second false b e = e

    by : {w : ℕ} → Among x (w ∷ l) → (Among x l → has_number x l ≡ true) → ((x == w) || has_number x l) ≡ true
    by here on = ap (λ (b : Bool). b || has_number x l) (eq-eqb x x refl)
    by {w} (there j) on = or_second (x == w) (has_number x l) (on j)

one_word : (x y : List ℕ) → ◌≡◌ {A = Option (List ℕ)} (Some x) (Some y) → x ≡ y
one_word x y e = cc

-- ---- the jumps of a run

one_break : (k l : ℕ) → breaks l ≡ breaks k → k ≡ l
one_break k l e = cc

one_continue : (k l : ℕ) → continues l ≡ continues k → k ≡ l
one_continue k l e = cc

no_continue : (l k : ℕ) → breaks l ≡ continues k → ⊥
no_continue l k e = cc

no_break : (l k : ℕ) → continues l ≡ breaks k → ⊥
no_break l k e = cc

no_return : (l : ℕ) → breaks l ≡ returns → ⊥
no_return l e = cc

not_returns : (l : ℕ) → continues l ≡ returns → ⊥
not_returns l e = cc

broken_at : (ss : List Spot) (j : Jump) → Comes ss j → (l : ℕ) → breaks l ≡ j.exit → (a : spots.Around) × (n : ℕ) × Among (spots.a_jump a n l false) ss
broken_at ss _ (of_jump {a = a} {n = n} {l = k} {again = false} i) l e = (a, n, subst (λ (z : ℕ). Among (spots.a_jump a n z false) ss) (one_break k l e) i)
broken_at ss _ (of_jump {l = k} {again = true} i) l e = absurd (no_continue l k e)
broken_at ss _ (of_return i) l e = absurd (no_return l e)

continued_at : (ss : List Spot) (j : Jump) → Comes ss j → (l : ℕ) → continues l ≡ j.exit → (a : spots.Around) × (n : ℕ) × Among (spots.a_jump a n l true) ss
continued_at ss _ (of_jump {a = a} {n = n} {l = k} {again = true} i) l e = (a, n, subst (λ (z : ℕ). Among (spots.a_jump a n z true) ss) (one_continue k l e) i)
continued_at ss _ (of_jump {l = k} {again = false} i) l e = absurd (no_break l k e)
continued_at ss _ (of_return i) l e = absurd (not_returns l e)

-- ---- what a row declares

module _ (I : Inside) (ns : Names) (T : Assigned) where
  one_row : (xs ys vs : List ℕ) → reverse ys ++ (reverse xs ++ vs) ≡ reverse (xs ++ ys) ++ vs
  one_row xs ys vs = sym (append_assoc (reverse ys) (reverse xs) vs) ∙ ap (λ (l : List ℕ). l ++ vs) (sym (reverse-append xs ys))

  -- in front of what was in scope, all new
  pub declared_front : {vs after : List ℕ} {ls : List Around} {i j : ℕ} {ss : plain.Statements} {xs : named.Statements} → StandsRow I ns vs ls i j ss xs after → after ≡ reverse (declared_by_all (elaborated_row T xs)) ++ vs
  declared_front stands.s_no_statement = refl
  declared_front (stands.s_statement_and {vs = vs} {xs = xs} (stands.s_declares {P = P} q d e) h) = declared_front h ∙ one_row (variables P) (declared_by_all (elaborated_row T xs)) vs
  declared_front (stands.s_statement_and {vs = vs} {xs = xs} (stands.s_lets {P = P} q d e g) h) =
      declared_front h ∙ one_row (variables P) (declared_by_all (elaborated_row T xs)) vs ∙ ap (λ (l : List ℕ). reverse (l ++ declared_by_all (elaborated_row T xs)) ++ vs) (bound_is T None P)
  declared_front (stands.s_statement_and (stands.s_evaluates q g) h) = declared_front h

  pub declared_new : {vs after : List ℕ} {ls : List Around} {i j : ℕ} {ss : plain.Statements} {xs : named.Statements} → StandsRow I ns vs ls i j ss xs after → (k : ℕ) → Among k (declared_by_all (elaborated_row T xs)) → Among k vs → ⊥
  declared_new stands.s_no_statement k i m = none_among i
  declared_new (stands.s_statement_and {vs = vs} {xs = xs} (stands.s_declares {P = P} q d e) h) k i m =
      among_split k (variables P) (declared_by_all (elaborated_row T xs)) ⊥ i (λ j. d.fresh k j m) (λ j. declared_new h k j (among_right (reverse (variables P)) vs m))
  declared_new (stands.s_statement_and {vs = vs} {xs = xs} (stands.s_lets {P = P} q d e g) h) k i m =
      among_split k (marks.bound (elaborated.pattern T None P)) (declared_by_all (elaborated_row T xs)) ⊥ i (λ j. d.fresh k (subst (Among k) (sym (bound_is T None P)) j) m)
      (λ j. declared_new h k j (among_right (reverse (variables P)) vs m))
  declared_new (stands.s_statement_and (stands.s_evaluates q g) h) k i m = declared_new h k i m

-- one behind the other
since_both : (ns : Names) {base end vs : List ℕ} {a b : Names} → Since ns end vs a → Since ns base end b → Since ns base vs (a ++ b)
since_both ns {base} {end} {vs} {a} {b} s t = record {
  front = s.front ++ t.front;
  whole = s.whole ∙ ap (λ (l : List ℕ). s.front ++ l) t.whole ∙ sym (append_assoc s.front t.front base);
  words = λ x h. of_word x (either (is_among x a) (is_among x b) (sym (among_append x a b) ∙ h));
  named = λ k i. among_split k s.front t.front ((x : List ℕ) × (slice_get ns k ≡ Some x) × (is_among x (a ++ b) ≡ true)) i
      (λ j. let r = s.named k j in (r.0, r.1, among_append r.0 a b ∙ or_first (is_among r.0 a) (is_among r.0 b) r.2))
      (λ j. let r = t.named k j in (r.0, r.1, among_append r.0 a b ∙ or_second (is_among r.0 a) (is_among r.0 b) r.2));
  apart = λ k i m. among_split k s.front t.front ⊥ i (λ j. s.apart k j (since.in_scope ns t k m)) (λ j. t.apart k j m);
}
  where
    either : (p q : Bool) → (p || q) ≡ true → (p ≡ true) ⊎ (q ≡ true)
    either true q e = inl refl
    either false q e = inr e

    or_first : (p q : Bool) → p ≡ true → (p || q) ≡ true
    or_first true q e = refl
    or_first false q e = absurd (cc)

    or_second : (p q : Bool) → q ≡ true → (p || q) ≡ true
    or_second true q e = refl
    or_second false q e = e

    of_word : (x : List ℕ) → (is_among x a ≡ true) ⊎ (is_among x b ≡ true) → (k : ℕ) × Among k (s.front ++ t.front) × (slice_get ns k ≡ Some x)
    of_word x (inl h) = let r = s.words x h in (r.0, among_left s.front t.front r.1, r.2)
    of_word x (inr h) = let r = t.words x h in (r.0, among_right s.front t.front r.1, r.2)

-- ---- a run in its block

module _ (I : Inside) (ns : Names) (run : runs.Run) (home : Home) (r : extraction.Run) (b : Body) {labels : List (Option Ident)} (S : Seated I ns run home r b labels) where
  -- what is named in the run and in scope where it begins is named in its text
  pub names_there : (x : ℕ) → Among x (variables_of_run run home.body) → Among x (at_start run home).scope → Among (a_name (get_or ns x [])) (outside_of labels (chosen_parts r b))
  names_there x i m =
      (standing.run_covers I ns run home r b S).told x (firsts_among x (variables_among (in_run run home.body)) i) (subst (Among x) (standing.start_scope I ns run home r b S) m)

  pub declares_there : declared_by (chosen_parts r b).statements ≡ map (λ (x : ℕ). get_or ns x []) (declared_by_all (inside run home.body))
  declares_there = rows.declared_words I ns S.types (chosen r (statements b)) S.middle ∙ ap (λ (l : List marks.Statement). map (λ (x : ℕ). get_or ns x []) (declared_by_all l)) S.middle_is

  pub breaks_there : (l : ℕ) → Among (breaks l) (exits run home) → (x : Option Ident) × Among (a_break x (place_of l home.around.loops)) (outside_of labels (chosen_parts r b))
  breaks_there l i =
      let j = exiting.exit_jump run home (breaks l) i (λ e. cc) in
      let c = broken_at (run_spots run home) j.0 (exiting.jump_comes home.around.loops (run_spots run home) j.0 j.1) l j.2 in
      let m = subst (Among l) S.loops (exiting.exit_loop run home (breaks l) l (inl refl) i) in
      let t = (standing.run_covers I ns run home r b S).jumps c.0 c.1 l false c.2 m in
      (t.0, subst (λ (ls : List ℕ). Among (a_break t.0 (place_of l ls)) (outside_of labels (chosen_parts r b))) (sym S.loops) t.1)

  pub continues_there : (l : ℕ) → Among (continues l) (exits run home) → (x : Option Ident) × Among (a_continue x (place_of l home.around.loops)) (outside_of labels (chosen_parts r b))
  continues_there l i =
      let j = exiting.exit_jump run home (continues l) i (λ e. cc) in
      let c = continued_at (run_spots run home) j.0 (exiting.jump_comes home.around.loops (run_spots run home) j.0 j.1) l j.2 in
      let m = subst (Among l) S.loops (exiting.exit_loop run home (continues l) l (inr refl) i) in
      let t = (standing.run_covers I ns run home r b S).jumps c.0 c.1 l true c.2 m in
      (t.0, subst (λ (ls : List ℕ). Among (a_continue t.0 (place_of l ls)) (outside_of labels (chosen_parts r b))) (sym S.loops) t.1)

  -- ---- behind it

  -- what the run declares, in front of what was in scope
  abbrev own : Names
  own = declared_by (chosen_parts r b).statements

  abbrev own_numbers : List ℕ
  own_numbers = declared_by_all (elaborated_row S.types S.own)

  pub own_words : map (λ (k : ℕ). slice_get ns k) own_numbers ≡ map (λ (x : List ℕ). Some x) own
  own_words = sym (sym (ap (λ (l : List plain.Statement). map (λ (x : List ℕ). Some x) (declared_by l)) (rows.listed_back (chosen r (statements b)))) ∙ rows.declared_names I ns S.types S.middle)

  pub since_run : Since ns S.base S.end own
  since_run =
      let s : Since ns S.base (reverse own_numbers ++ S.base) (own ++ []) = since.since_bound ns own_numbers own own_words (λ k i m. declared_new I ns S.types S.middle k i m) (none_since ns S.base) in
      subst (λ (l : List ℕ). Since ns S.base l own) (sym (declared_front I ns S.types S.middle)) (subst (λ (x : Names). Since ns S.base (reverse own_numbers ++ S.base) x) (append-nil own) s)

  -- the number of a name of the run's own
  own_number : (x : List ℕ) → is_among x own ≡ true → (k : ℕ) × Among k own_numbers × (slice_get ns k ≡ Some x)
  own_number x h = since.words_number ns own_numbers own own_words x h

  own_ends : (k : ℕ) → Among k own_numbers → Among k S.end
  own_ends k i = subst (Among k) (sym (declared_front I ns S.types S.middle)) (among_left (reverse own_numbers) S.base (reversed_among k own_numbers i))

  -- a variable from in front of the text behind it that has a name of the run's own is one of these
  direct : {vs : List ℕ} {a : Names} → Since ns S.end vs a → (x : List ℕ) (k : ℕ) → slice_get ns k ≡ Some x → MeansIt (same_name ns) vs k → is_among x a ≡ false → is_among x own ≡ true → Among k own_numbers
  direct {vs} {a} s x k e m h o =
      among_split k (reverse own_numbers) S.base (Among k own_numbers) (subst (Among k) (declared_front I ns S.types S.middle) (since.from_outside ns s k x e m h)) (λ i. among_reversed k own_numbers i)
      (λ i. let n = since.not_own ns (since_both ns s since_run) k x e m i in let y = among_append x a own ∙ (λ j. h j || o j) in absurd (cc))

  -- what a text behind the run names: a word; where the run declares it, a variable of a direct statement of the run
  module _ (q : Asked) (is_q : q.run ≡ run) (is_home : q.home ≡ home) (words : Names) (is_word : (k : ℕ) (x : List ℕ) → slice_get ns k ≡ Some x → is_among x words ≡ true)
      (is_callee : (x : List ℕ) (n : ℕ) → as_function (item_named function_name 0 I.program x) ≡ Some n → is_among x words ≡ true) where
    abbrev Behind : ℕ → Type 0
    Behind k = is_named_behind q.run q.home.body k ≡ true

    own_direct : (k : ℕ) → Among k own_numbers → is_direct q.run q.home.body k ≡ true
    own_direct k i =
        let z : declared_by_all (inside q.run q.home.body) ≡ own_numbers = (λ j. declared_by_all (inside (is_q j) (is_home j).body)) ∙ ap declared_by_all (sym S.middle_is) in
        ap (has_number k) z ∙ has_it k own_numbers i

    tells_behind : telling.Tells I ns S.types S.end any_round (tied_behind words ns q own) Behind (λ a l again. Unit {0}) (Unit {0})
    tells_behind = record {
      variable = λ vs a s x k e m n h. (is_word k x e, λ o. let i = direct s x k e m h o in (k, own_direct k i, n, get_or_from_slice_get ns k x [] e));
      name = λ vs a s x n f. (is_callee x n f.found, not_of_run vs a s x n f (is_among x own) refl);
      broken = λ vs a ls ms s h l k e ar same j. tt;
      continued = λ vs a ls ms s h l k e ar same j. tt;
      returned = λ l. tt;
      annotation = λ y. tt;
      block = λ a ms c. tt;
    }
      where
        not_of_run : (vs : List ℕ) (a : Names) → Since ns S.end vs a → (x : List ℕ) (n : ℕ) → IsFunction I ns vs x n → (o : Bool) → is_among x own ≡ o → is_among x own ≡ false
        not_of_run vs a s x n f true o = let r = own_number x o in absurd (f.unnamed r.0 (since.in_scope ns s r.0 (own_ends r.0 r.1)) r.2)
        not_of_run vs a s x n f false o = o

    pub behind_there : run.tail ≡ false → StatementsWithin (tied_behind words ns q own) [] [] (as_statements (extraction.behind r (statements b)))
        × OptionalWithin (tied_behind words ns q own) (behind_all [] (as_statements (extraction.behind r (statements b)))) [] (tail b)
    behind_there to_end = (
      telling.statements_told I ns S.types S.end any_round (tied_behind words ns q own) Behind (λ a l again. Unit {0}) (Unit {0}) tells_behind S.rest S.rest_placed (none_since ns S.end) tt (record { scope = S.end; loops = loop_numbers S.around }) (record { scope = refl; loops = refl })
          (record { named = λ x i. named_so x (first_named x i); jumped = λ a n l again i. tt; left = λ a n i. tt }),
      telling.tail_told I ns S.types S.end any_round (tied_behind words ns q own) Behind (λ a l again. Unit {0}) (Unit {0}) tells_behind S.node S.last S.last_placed
          (covers.since_row I ns S.types S.end S.around S.once S.rest (none_since ns S.end)) tt (record { scope = S.after; loops = loop_numbers S.around }) (record { scope = refl; loops = refl })
          (record { named = λ x i. named_so x (last_named S.is_last x i); jumped = λ a n l again i. tt; left = λ a n i. tt }),
    )
      where
        named_so : (x : ℕ) → Among x (variables_among (in_statements (runs.behind run home.body) ++ occurrences (marks.tail home.body))) → is_named_behind q.run q.home.body x ≡ true
        named_so x i =
            (λ j. has_number x (variables_among (in_statements (runs.behind (is_q j) (is_home j).body) ++ (if (is_q j).tail then [] else occurrences (marks.tail (is_home j).body)))))
            ∙ ap (λ (t : Bool). has_number x (variables_among (in_statements (runs.behind run home.body) ++ (if t then [] else occurrences (marks.tail home.body))))) to_end
            ∙ has_it x (variables_among (in_statements (runs.behind run home.body) ++ occurrences (marks.tail home.body))) i

        first_named : (x : ℕ) → Among x (variables_among (in_statements (elaborated_row S.types S.back))) → Among x (variables_among (in_statements (runs.behind run home.body) ++ occurrences (marks.tail home.body)))
        first_named x i =
            let front = in_statements (runs.behind run home.body) in
            let rest = occurrences (marks.tail home.body) in
            subst (Among x) (sym (map-append the_variable front rest)) (among_left (variables_among front) (variables_among rest) (subst (λ (l : List marks.Statement). Among x (variables_among (in_statements l))) S.rest_is i))

        last_named : IsLast S.types S.node S.value (marks.tail home.body) → (x : ℕ) → Among x (variables_among (occurrences (elaborated.tail S.types S.node S.value))) → Among x (variables_among (in_statements (runs.behind run home.body) ++ occurrences (marks.tail home.body)))
        last_named (inl e) x i =
            let front = in_statements (runs.behind run home.body) in
            let rest = occurrences (marks.tail home.body) in
            subst (Among x) (sym (map-append the_variable front rest)) (among_right (variables_among front) (variables_among rest) (subst (λ (z : tree.Exp). Among x (variables_among (occurrences z))) (sym e) i))
        last_named (inr e) x i =
            let front = in_statements (runs.behind run home.body) in
            let rest = occurrences (marks.tail home.body) in
            subst (Among x) (sym (map-append the_variable front rest)) (among_right (variables_among front) (variables_among rest) (subst (λ (z : tree.Exp). Among x (variables_among (occurrences z))) (sym e) i))
