-- The new function of the extraction from its text.
use Rattle.std.proofs.Common.{◌≡◌, ℕ, ◌≤◌, true, List, [], ◌++◌, refl, ap, ◌∙◌}
use Rattle.std.specs.Prelude.{◌≢◌}
use Rattle.std.specs.List.{list_all}
use Rattle.rx_core.specs.declared.types.Span.{Span}
use Rattle.rx_tree.specs.Plain as plain
use Rattle.rx_tree.specs.Plain.{OptionalExpression, Statement, Statements, ProgramTree}
use Rattle.rx_tree.specs.PlainOf.{statements_of}
use Rattle.rx_tree.specs.Lists.{Every, listed}
use Rattle.rx_lex.specs.Tok.{Tok}
use Rattle.rx_lex.specs.Tokens.{Lexes}
use Rattle.rx_typed.specs.Types.{levels}
use Rattle.rx_resolve_names.specs.Meant.{Around}
use Rattle.rx_hoist_extraction.specs.Names.{Names, bound_by, behind_all}
use Rattle.rx_hoist_extraction.specs.Run.{Parts, block_of}
use Rattle.rx_hoist_extraction.specs.Plan.{Variable, Bounds, Plan}
use Rattle.rx_hoist_extraction.specs.NewBody.{declared, moved_parts, next_outs, ended, new_parts}
use Rattle.rx_hoist_extraction.specs.NewFunction.{new_function}
use Rattle.rx_hoist_extraction.specs.Changed.{Changes, changed_statement, changed_statements, changed_optional}
use Rattle.rx_hoist_extraction.specs.Moved.{moving}
use Rattle.rx_hoist_extraction.specs.FormedPlan.{FormedPlan}
use Rattle.rx_splice_laws.specs.Indent.{is_level}
use Rattle.rx_splice_laws.specs.MovedBy.{moved_by, pins_of, moved_statements, moved_tail, PinsLow}
use Rattle.rx_splice_laws.specs.RunEnd.{end_by}
use Rattle.rx_splice_laws.specs.SplicedRun.{Part}
use Rattle.rx_splice_laws.specs.EndRead.{RunTokens, edits_by_end, run_on_lines, ValueLow}
use Rattle.rx_splice_laws.specs.ItemRead.{pinned_parts, FormedHeader, ReadNewItem}
use Rattle.rx_splice_laws.proofs.RunValue.{as_listed}
use Rattle.rx_splice_laws.proofs.BodyEnds.{body_ends}
use Rattle.rx_splice_laws.proofs.NewItems.{new_items}

-- changes keep what a statement binds
same_bound : (C : Changes) (own : Names) (ls : List Around) (a : Statement) → bound_by (changed_statement C own ls a) ≡ bound_by a
same_bound C own ls (plain.let_statement s p t o) = refl
same_bound C own ls (plain.expression_statement s e b) = refl

same_behind : (C : Changes) (own new : Names) (ls : List Around) (ss : Statements) → behind_all new (changed_statements C own ls ss) ≡ behind_all new ss
same_behind C own new ls plain.no_statement = refl
same_behind C own new ls (plain.statement_and a ss) =
    ap (λ (xs : Names). behind_all (xs ++ new) (changed_statements C (bound_by a ++ own) ls ss)) (same_bound C own ls a)
    ∙ same_behind C (bound_by a ++ own) (bound_by a ++ new) ls ss

module _ (P : ProgramTree) (pl : Plan) (r : Span) (ls : List Around) (ss : List Statement) (o : OptionalExpression) where
  abbrev moved_run : Parts
  moved_run = record { statements = listed (moved_statements P pl r ls (statements_of ss)); tail = moved_tail P pl r ls (statements_of ss) o }

  moved_so : moved_parts (moving pl r) ls (pinned_parts P pl r ls ss o) ≡ moved_run
  moved_so =
      let C = moving pl r in
      let D = pins_of P r pl.pins in
      let S = statements_of ss in
      let X = changed_statements D [] ls S in
      let T = changed_optional D (behind_all [] S) ls o in
      ap (λ (Z : Statements). let m : Parts = record { statements = listed (changed_statements C [] ls Z); tail = changed_optional C (behind_all [] Z) ls T } in m) (as_listed X)
      ∙ ap (λ (xs : Names). let m : Parts = record { statements = listed (changed_statements C [] ls X); tail = changed_optional C xs ls T } in m) (same_behind D [] [] ls S)

  pub new_functions : (bs : Bounds) → FormedPlan P pl → PinsLow pl.pins → ValueLow pl.value → Every (λ (v : Variable). levels v.typ ≤ 130) pl.locals
      → (text : List ℕ) (all ts : List Tok) (h : ℕ) → FormedHeader (new_function P pl bs r ls (pinned_parts P pl r ls ss o)) → Lexes text all → Part all ts → ts ≢ [] → RunTokens ts ss o h
      → (ind : List ℕ) → list_all is_level ind ≡ true → (at : ℕ)
      → ReadNewItem (new_function P pl bs r ls (pinned_parts P pl r ls ss o)) (declared P r pl.locals)
      (run_on_lines ind text ts (edits_by_end (moved_by P pl r) all ts ls ss o (end_by P pl r pl.value ss o))) (end_by P pl r pl.value ss o).tail h at
  new_functions bs F L V W text all ts h H d p n i ind l at =
      new_items (new_function P pl bs r ls (pinned_parts P pl r ls ss o)) (declared P r pl.locals) r
      (run_on_lines ind text ts (edits_by_end (moved_by P pl r) all ts ls ss o (end_by P pl r pl.value ss o))) (end_by P pl r pl.value ss o).tail
      (ended P pl r pl.value moved_run.statements moved_run.tail (next_outs pl r)) h H (ap (λ (m : Parts). block_of r (new_parts P pl r m)) moved_so)
      (body_ends P pl r F L V W text all ts ls h d p n ind l ss o i) at
