-- A run is come to in its block: the statements in front of it first, then its own; its tail is the block's, or none.
use Rattle.std.proofs.Common.{◌≡◌, ℕ, ◌+◌, ◌≤◌, Bool, true, false, List, [], ◌∷◌, ◌++◌, length, Option, Some, Ok, refl, sym, ap, ◌∙◌, subst, arith}
use Rattle.std.proofs.Math.ListN.{drop_of_length-le}
use Rattle.std.proofs.lemmas.Bool.{leb-true}
use Rattle.rx_core.specs.declared.types.Span.{Span}
use Rattle.rx_tree.specs.declared.tree.Ident.{Ident}
use Rattle.rx_tree.specs.Lists.{listed, statements, tail}
use Rattle.rx_tree.specs.Plain as plain
use Rattle.rx_tree.specs.Plain.{Body, Function, OptionalExpression, ProgramTree, Statement, Statements}
use Rattle.rx_tree.specs.Positions.{a_block, descend}
use Rattle.rx_resolve_names.specs.Scopes.{Variables}
use Rattle.rx_resolve_names.specs.declared.resolved.ItemNames.{ItemNames}
use Rattle.rx_resolve_names.specs.Meant.{number, Around}
use Rattle.rx_resolve_names.specs.Steps.{and_then, child, next, Inside, Outcome}
use Rattle.rx_resolve_names.specs.Names.{in_block, in_optional, in_statement, in_statements, Scoped}
use Rattle.rx_resolve_names.specs.Items.{in_item}
use Rattle.rx_hoist_extraction.specs.Run.{as_statements, behind, chosen, goes_past, in_front, labels_round, tail_if, Run}
use Rattle.rx_engine_names.specs.Moves.{labels_of}
use Rattle.rx_engine_names.specs.Placed.{inside_of}
use Rattle.rx_engine_names.specs.Reached.{BlockReached, RunReached}
use Rattle.rx_engine_names.proofs.SideBySide.{named_ok, the_same}
use Rattle.rx_engine_names.proofs.CallsFit.{run_splits}
use Rattle.rx_engine_names.proofs.ReachedBlocks.{block_reached}

module _ (I : Inside) (ls : List Around) (at : List ℕ) where
  record RowSplit (sc : Variables) (i : ℕ) (xs ys : List Statement) (t : ItemNames) (r : Scoped) : Type 0 where
    middle : Scoped
    from : ℕ
    first : in_statements I sc ls at i (as_statements xs) t ≡ Ok middle
    second : in_statements I middle.scope ls at from (as_statements ys) middle.tables ≡ Ok r

  row_split : (sc : Variables) (i : ℕ) (xs ys : List Statement) (t : ItemNames) (r : Scoped) → in_statements I sc ls at i (as_statements (xs ++ ys)) t ≡ Ok r → RowSplit sc i xs ys t r
  row_split sc i [] ys t r h = record { middle = record { scope = sc; tables = t }; from = i; first = refl; second = h }
  row_split sc i (x ∷ xs) ys t r h =
      let a = named_ok (in_statement I sc ls (child at i) x t) (λ m. in_statements I m.scope ls at (next i) (as_statements (xs ++ ys)) m.tables) r h in
      let b = row_split a.0.scope (next i) xs ys a.0.tables r a.2 in
      record { middle = b.middle; from = b.from; first = ap (λ (o : Outcome Scoped). and_then o (λ m. in_statements I m.scope ls at (next i) (as_statements xs) m.tables)) a.1 ∙ b.first; second = b.second }

  -- the tail of the run where nothing or something follows it
  run_ends : (past : Bool) (sc : Variables) (i : ℕ) (rest : List Statement) (t : ItemNames) (r : Scoped) (o : OptionalExpression) (to : List ℕ) (u : ItemNames) → (past ≡ true → rest ≡ [])
      → in_statements I sc ls at i (as_statements rest) t ≡ Ok r → in_optional I r.scope ls to o r.tables ≡ Ok u → (v : ItemNames) × (in_optional I sc ls to (tail_if past o) t ≡ Ok v)
  run_ends false sc i rest t r o to u none h k = (t, refl)
  run_ends true sc i rest t r o to u none h k =
      let e : record { scope = sc; tables = t } ≡ r = the_same (record { scope = sc; tables = t }) r (subst (λ (l : List Statement). in_statements I sc ls at i (as_statements l) t ≡ Ok r) (none refl) h) in
      (u, subst (λ (m : Scoped). in_optional I m.scope ls to o m.tables ≡ Ok u) (sym e) k)

run_in_block : (I : Inside) (labels : List (Option Ident)) (r : Run) (b : Body) → r.first ≤ r.last + 1 → BlockReached I labels b → RunReached I labels r b
run_in_block I labels r (plain.body s ss o) forward h =
    let l = listed ss in
    let to = child h.at (number (length l)) in
    let x = named_ok (in_statements I h.scope h.around h.at 0 ss h.before) (λ m. in_optional I m.scope h.around to o m.tables) h.end h.resolves in
    let a = row_split I h.around h.at h.scope 0 (in_front r l) (chosen r l ++ behind r l) h.before x.0
    (subst (λ (z : Statements). in_statements I h.scope h.around h.at 0 z h.before ≡ Ok x.0) (sym (run_splits r ss forward)) x.1) in
    let c = row_split I h.around h.at a.middle.scope a.from (chosen r l) (behind r l) a.middle.tables x.0 a.second in
    let e = run_ends I h.around h.at (goes_past r l) c.middle.scope c.from (behind r l) c.middle.tables x.0 o to h.end (λ past. drop_of_length-le l (omega (arith, leb-true (length l) r.last past))) c.second x.2 in
    record {
      scope = h.scope;
      around = h.around;
      at = h.at;
      before = h.before;
      middle = a.middle;
      front = a.first;
      from = a.from;
      end = c.middle;
      resolves = c.first;
      tail_at = to;
      after = e.0;
      ends = e.1;
      labels_are = h.labels_are;
    }

pub run_reached : (p : ProgramTree) (n : ℕ) (s : Span) (f : Function) (t : ItemNames) → in_item p n (plain.function_item s f) ≡ Ok t → (r : Run) → r.first ≤ r.last + 1 → (b : Body) → descend (Some (a_block f.body)) r.way ≡ Some (a_block b)
    → RunReached (inside_of p n s f) (labels_round r f) r b
run_reached p n s f t h r forward b d = run_in_block (inside_of p n s f) (labels_round r f) r b forward (block_reached p n s f t h r.way b d)
