-- A run of the text in the typed tree of its function: its statements, those in front of it and those behind it stand in the tree from scope
-- to scope. So what the run names of the variables that are in scope where it begins, and its jumps, are named and made in its text.
use Rattle.std.proofs.Common.{◌≡◌, ℕ, suc, ◌+◌, ◌-◌, ◌≤◌, nat_le, ◌==◌, Bool, true, false, if◌then◌else◌, List, [], length, take, drop, Option, Some, None, refl, sym, ap, ◌∙◌, subst, inl, inr, arith, take_all, drop-drop, drop_of_length-le, length-drop}
use Rattle.std.proofs.lemmas.Bool.{le-leb, leb-true, eqb-true, eq-eqb}
use Rattle.rx_tree.specs.declared.tree.Ident.{Ident}
use Rattle.rx_tree.specs.Plain as plain
use Rattle.rx_tree.specs.Lists.{listed, statements, tail}
use Rattle.rx_resolve_names.specs.Meant.{Around}
use Rattle.rx_resolve_names.specs.Steps.{Inside}
use Rattle.rx_typed.specs.declared.nodes.Node.{Node}
use Rattle.rx_typed.specs.Named as named
use Rattle.rx_typed.specs.Elaborated as elaborated
use Rattle.rx_typed.specs.Elaborated.{Assigned}
use Rattle.rx_typed.specs.Tree as tree
use Rattle.rx_exits_plan.specs.Blocks as marks
use Rattle.rx_exits_plan.specs.Blocks.{written_tail}
use Rattle.rx_exits_plan.specs.Runs as runs
use Rattle.rx_exits_plan.specs.Runs.{Home, inside, last_value}
use Rattle.rx_exits_plan.specs.Spots as spots
use Rattle.rx_exits_plan.specs.Spots.{Spot}
use Rattle.rx_exits_plan.specs.Exits.{at_end, at_start, past, spots_in_statements, spots_in_value}
use Rattle.rx_exits_plan.specs.Occurrences.{in_run, in_statements, in_value, Occurrence, occurrences}
use Rattle.rx_hoist_nodes.specs.TypedRun.{statements_from}
use Rattle.rx_hoist_extraction.specs.Names.{behind_all, Names}
use Rattle.rx_hoist_extraction.specs.Run as extraction
use Rattle.rx_hoist_extraction.specs.Run.{as_statements, chosen, chosen_parts, goes_past, numbered, tail_if}
use Rattle.rx_hoist_meant.specs.Stands as stands
use Rattle.rx_hoist_meant.specs.Stands.{BlockComes, loop_labels, loop_numbers, StandsBody, StandsElse, StandsRow}
use Rattle.rx_hoist_meant.specs.Placed.{PlacedBody, PlacedElse, PlacedRow}
use Rattle.rx_hoist_meant.specs.Scoped.{IsLast, NoneTwice}
use Rattle.rx_engine_called.specs.Outside.{Outer, outside_of, outside_optional, outside_statements}
use Rattle.rx_engine_tied.proofs.Since.{none_since, Since, at_run}
use Rattle.rx_engine_tied.proofs.Covers as covers
use Rattle.rx_engine_tied.proofs.Covers.{Covers, elaborated_row}
use Rattle.rx_engine_tied.proofs.Rows as rows
use Rattle.rx_engine_tied.proofs.Exits.{run_spots}

-- ---- how many statements

row_length : (T : Assigned) {I : Inside} {ns : Names} {vs after : List ℕ} {ls : List Around} {i j : ℕ} {ss : plain.Statements} {xs : named.Statements} → StandsRow I ns vs ls i j ss xs after → length (elaborated_row T xs) ≡ length (listed ss)
row_length T stands.s_no_statement = refl
row_length T (stands.s_statement_and g h) = ap suc (row_length T h)

-- with the tail a run has all that is left
same_taken : {A : Type 0} (first last : ℕ) (t : Bool) (l : List A) → first ≤ last → (t ≡ true → last ≡ length l) → take (last + 1 - first) (drop first l) ≡ take (statements_from first last t) (drop first l)
same_taken first last false l h e = let q : last + 1 - first ≡ suc last - first = omega arith in ap (λ (n : ℕ). take n (drop first l)) q
same_taken first last true l h e =
    let q = e refl in
    let d = length-drop first l in
    take_all (last + 1 - first) (drop first l) (omega (arith, q, d, h)) ∙ sym (take_all (last - first) (drop first l) (omega (arith, q, d, h)))

same_dropped : {A : Type 0} (first last : ℕ) (t : Bool) (l : List A) → first ≤ last → (t ≡ true → last ≡ length l) → drop (last + 1 - first) (drop first l) ≡ drop (statements_from first last t) (drop first l)
same_dropped first last false l h e = let q : last + 1 - first ≡ suc last - first = omega arith in ap (λ (n : ℕ). drop n (drop first l)) q
same_dropped first last true l h e =
    let q = e refl in
    let d = length-drop first l in
    drop_of_length-le (drop first l) {i = last + 1 - first} (omega (arith, q, d, h)) ∙ sym (drop_of_length-le (drop first l) {i = last - first} (omega (arith, q, d, h)))

behind_is : {A : Type 0} (first last : ℕ) (l : List A) → first ≤ last → drop (last + 1) l ≡ drop (last + 1 - first) (drop first l)
behind_is first last l h = let q : first + (last + 1 - first) ≡ last + 1 = omega (arith, h) in sym (drop-drop (last + 1 - first) first l ∙ ap (λ (n : ℕ). drop n l) q)

goes_to_end : (last n : ℕ) (t : Bool) → t ≡ (last == n) → last ≤ n → nat_le n last ≡ t
goes_to_end last n t e h = by (nat_le n last) refl (last == n) refl
  where
    by : (b : Bool) → nat_le n last ≡ b → (c : Bool) → (last == n) ≡ c → nat_le n last ≡ t
    by b f true g = let s = eqb-true last n g in le-leb n last (omega (arith, s)) ∙ sym (e ∙ g)
    by false f false g = f ∙ sym (e ∙ g)
    by true f false g = let k = leb-true n last f in let s : last ≡ n = omega (arith, k, h) in let z = eq-eqb last n s in absurd (cc)

-- ---- a run in its block

pub record Seated (I : Inside) (ns : Names) (run : runs.Run) (home : Home) (r : extraction.Run) (b : plain.Body) (labels : List (Option Ident)) : Type 0 where
  pub types : Assigned
  -- in scope where the block begins, where the run begins, where it ends, and behind all statements
  pub variables : List ℕ
  pub base : List ℕ
  pub end : List ℕ
  pub after : List ℕ
  pub around : List Around
  pub scope : home.around.scope ≡ variables
  pub loops : home.around.loops ≡ loop_numbers around
  pub once : NoneTwice (loop_numbers around)
  pub labels_are : loop_labels around ≡ labels
  pub comes : BlockComes I ns variables around b
  pub number : ℕ
  pub begins : ℕ
  pub ends : ℕ
  pub behind : ℕ
  pub size : ℕ
  pub front : named.Statements
  pub own : named.Statements
  pub back : named.Statements
  pub node : Node
  pub value : named.Else
  pub node_is : node.number ≡ run.block
  pub number_is : number ≡ run.block
  pub first : StandsRow I ns variables around (suc number) begins (as_statements (extraction.in_front r (statements b))) front base
  pub middle : StandsRow I ns base around begins ends (as_statements (chosen r (statements b))) own end
  pub rest : StandsRow I ns end around ends behind (as_statements (extraction.behind r (statements b))) back after
  pub last : StandsElse I ns after around behind size (tail b) value
  pub first_placed : PlacedRow front
  pub middle_placed : PlacedRow own
  pub rest_placed : PlacedRow back
  pub last_placed : PlacedElse value
  pub first_is : elaborated_row types front ≡ runs.in_front run home.body
  pub middle_is : elaborated_row types own ≡ inside run home.body
  pub rest_is : elaborated_row types back ≡ runs.behind run home.body
  pub is_last : IsLast types node value (marks.tail home.body)
  -- where it goes to the block's end nothing follows it
  pub to_end : goes_past r (statements b) ≡ run.tail
  pub none_behind : run.tail ≡ true → extraction.behind r (statements b) ≡ []

-- the run of the tree, by its parts
pub record IsRun (run : runs.Run) (r : extraction.Run) (b : plain.Body) : Type 0 where
  pub first : run.first ≡ r.first
  pub count : run.count ≡ statements_from r.first r.last run.tail
  pub tail : run.tail ≡ (r.last == length (statements b))
  pub forward : r.first ≤ r.last
  pub within : r.last ≤ length (statements b)

pub seated : (I : Inside) (ns : Names) (T : Assigned) (run : runs.Run) (home : Home) (r : extraction.Run) {vs : List ℕ} {ls : List Around} {number size : ℕ} {b : plain.Body} {n : Node} {xs : named.Statements} {O : named.Else} (last : tree.Exp)
    → StandsBody I ns vs ls number size b (named.body n xs O) → PlacedBody (named.body n xs O) → IsLast T n O last → home.around.scope ≡ vs → home.around.loops ≡ loop_numbers ls → NoneTwice (loop_numbers ls) → number ≡ run.block
    → home.body ≡ elaborated.nested T xs last → IsRun run r b → {labels : List (Option Ident)} → loop_labels ls ≡ labels → Seated I ns run home r b labels
seated I ns T run home r {vs} {ls} {number} {size} {n = n} {xs = xs} {O = O} last (stands.s_body {k = k} {ss = ss} {after = after} {o = o} q c g h) placed is scope loops once block body run_is labels_are =
    let m = r.last + 1 - r.first in
    let p = rows.parted I ns T r.first m g placed.0 in
    let there : marks.statements home.body ≡ elaborated_row T xs = ap marks.statements body ∙ rows.statements_are T xs last in
    let many = row_length T g in
    let to_the_end : run.tail ≡ true → r.last ≡ length (elaborated_row T xs) = λ e. let z = eqb-true r.last (length (listed ss)) (sym run_is.tail ∙ e) in z ∙ sym many in
    let count : statements_from r.first r.last run.tail ≡ run.count = sym run_is.count in
    record {
      types = T;
      variables = vs;
      base = p.base;
      end = p.end;
      after = after;
      around = ls;
      scope = scope;
      loops = loops;
      once = once;
      labels_are = labels_are;
      comes = c;
      number = number;
      begins = p.begins;
      ends = p.ends;
      behind = k;
      size = size;
      front = p.front;
      own = p.run;
      back = p.back;
      node = n;
      value = O;
      node_is = q ∙ block;
      number_is = block;
      first = p.first;
      middle = p.middle;
      rest = subst (λ (l : List plain.Statement). StandsRow I ns p.end ls p.ends k (as_statements l) p.back after) (sym (behind_is r.first r.last (listed ss) run_is.forward)) p.rest;
      last = h;
      first_placed = p.first_placed;
      middle_placed = p.middle_placed;
      rest_placed = p.rest_placed;
      last_placed = placed.1;
      first_is = p.first_is ∙ (λ j. take (sym run_is.first j) (sym there j));
      middle_is = p.middle_is ∙ same_taken r.first r.last run.tail (elaborated_row T xs) run_is.forward to_the_end ∙ (λ j. take (count j) (drop (sym run_is.first j) (sym there j)));
      rest_is = p.rest_is ∙ same_dropped r.first r.last run.tail (elaborated_row T xs) run_is.forward to_the_end ∙ (λ j. drop (count j) (drop (sym run_is.first j) (sym there j)));
      is_last = subst (λ (e : tree.Exp). IsLast T n O e) (sym (ap marks.tail body ∙ rows.tail_is T xs last)) is;
      to_end = goes_to_end r.last (length (listed ss)) run.tail run_is.tail run_is.within;
      none_behind = λ e. let z = eqb-true r.last (length (listed ss)) (sym run_is.tail ∙ e) in drop_of_length-le (listed ss) {i = r.last + 1} (omega (arith, z));
    }

module _ (I : Inside) (ns : Names) (run : runs.Run) (home : Home) (r : extraction.Run) (b : plain.Body) {labels : List (Option Ident)} (S : Seated I ns run home r b labels) where
  abbrev T : Assigned
  T = S.types

  abbrev Over : List Occurrence → List Spot → List Outer → Type 0
  Over os ss w = Covers I ns T S.base S.around S.once os ss w

  -- what is in scope where the run begins, and the loops there
  pub start_scope : (at_start run home).scope ≡ S.base
  start_scope = ap (λ (l : List marks.Statement). (past l home.around).scope) (sym S.first_is) ∙ rows.past_scope I ns T S.first home.around S.scope

  -- what was bound since, where the block's tail is of the run
  pub last_since : run.tail ≡ true → Since ns S.base S.after (behind_all [] (as_statements (chosen r (statements b))))
  last_since e =
      let s = covers.since_row I ns T S.base S.around S.once S.rest (covers.since_row I ns T S.base S.around S.once S.middle (none_since ns S.base)) in
      subst (λ (l : List plain.Statement). Since ns S.base S.after (behind_all (behind_all [] (as_statements (chosen r (statements b)))) (as_statements l))) (S.none_behind e) s

  tail_cover : (ar : spots.Around) → run.tail ≡ true → Over (occurrences (marks.tail home.body)) (spots.spots ar (marks.tail home.body)) (outside_optional (behind_all [] (as_statements (chosen r (statements b)))) (numbered 1 (loop_labels S.around)) (tail b))
  tail_cover ar e = by S.is_last
    where
      by : IsLast T S.node S.value (marks.tail home.body) → Over (occurrences (marks.tail home.body)) (spots.spots ar (marks.tail home.body)) (outside_optional (behind_all [] (as_statements (chosen r (statements b)))) (numbered 1 (loop_labels S.around)) (tail b))
      by (inl q) =
          subst (λ (z : tree.Exp). Over (occurrences z) (spots.spots ar z) (outside_optional (behind_all [] (as_statements (chosen r (statements b)))) (numbered 1 (loop_labels S.around)) (tail b))) (sym q)
          (covers.tail_covers I ns T S.base S.around S.once S.node S.last S.last_placed (last_since e) at_run ar)
      by (inr q) =
          subst (λ (z : tree.Exp). Over (occurrences z) (spots.spots ar z) (outside_optional (behind_all [] (as_statements (chosen r (statements b)))) (numbered 1 (loop_labels S.around)) (tail b))) (sym q)
          (covers.with_return I ns T S.base S.around S.once ar S.node.number (covers.tail_covers I ns T S.base S.around S.once S.node S.last S.last_placed (last_since e) at_run ar))

  value_covers : (ar : spots.Around) → Over (in_value (last_value run home.body)) (spots_in_value ar (last_value run home.body)) (outside_optional (behind_all [] (as_statements (chosen r (statements b)))) (numbered 1 (loop_labels S.around)) (chosen_parts r b).tail)
  value_covers ar = by run.tail refl (goes_past r (statements b)) S.to_end (tail_cover ar)
    where
      by : (t : Bool) → run.tail ≡ t → (p : Bool) → p ≡ run.tail
          → (run.tail ≡ true → Over (occurrences (marks.tail home.body)) (spots.spots ar (marks.tail home.body)) (outside_optional (behind_all [] (as_statements (chosen r (statements b)))) (numbered 1 (loop_labels S.around)) (tail b)))
          → Over (in_value (if t then Some (written_tail run.block (marks.tail home.body)) else None)) (spots_in_value ar (if t then Some (written_tail run.block (marks.tail home.body)) else None))
          (outside_optional (behind_all [] (as_statements (chosen r (statements b)))) (numbered 1 (loop_labels S.around)) (tail_if p (tail b)))
      by false e false f k = covers.none I ns T S.base S.around S.once _
      by false e true f k = absurd (cc)
      by true e false f k = absurd (cc)
      by true e true f k = covers.written_covers I ns T S.base S.around S.once run.block ar (marks.tail home.body) (k e)

  pub run_covers : Over (in_run run home.body) (run_spots run home) (outside_of labels (chosen_parts r b))
  run_covers =
      subst (λ (z : List (Option Ident)). Over (in_run run home.body) (run_spots run home) (outside_of z (chosen_parts r b))) S.labels_are
      (covers.both I ns T S.base S.around S.once
      (subst (λ (l : List marks.Statement). Over (in_statements l) (spots_in_statements (at_start run home) l) (outside_statements [] (numbered 1 (loop_labels S.around)) (as_statements (chosen r (statements b))))) S.middle_is
      (covers.statements_cover I ns T S.base S.around S.once S.middle S.middle_placed (none_since ns S.base) at_run (at_start run home)))
      (value_covers (at_end run home)))
