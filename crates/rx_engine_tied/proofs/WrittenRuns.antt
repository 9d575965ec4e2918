-- A run whose block resolves in the text is come to in the same scope where kinds and types are written out in its function.
use Rattle.std.proofs.Common.{◌≡◌, ℕ, zero, suc, ◌+◌, ◌≤◌, List, [], ◌∷◌, ◌++◌, take, Option, Some, None, Ok, refl, sym, ap, ◌∙◌, subst}
use Rattle.rx_core.specs.declared.types.Span.{Span}
use Rattle.rx_tree.specs.declared.tree.Ident.{Ident}
use Rattle.rx_tree.specs.Lists.{listed, statements}
use Rattle.rx_tree.specs.Plain as plain
use Rattle.rx_tree.specs.Plain.{Body, Function, ProgramTree, Statements}
use Rattle.rx_tree.specs.Positions.{a_block, descend}
use Rattle.rx_resolve_names.specs.Scopes.{Variables}
use Rattle.rx_resolve_names.specs.declared.resolved.ItemNames.{ItemNames}
use Rattle.rx_resolve_names.specs.Meant.{Around, firsts, lifetimes_declared, number}
use Rattle.rx_resolve_names.specs.Steps.{Inside}
use Rattle.rx_resolve_names.specs.Names.{in_block}
use Rattle.rx_resolve_names.specs.Items.{in_program}
use Rattle.rx_hoist_extraction.specs.Changed.{changed_body, changed_statements}
use Rattle.rx_hoist_extraction.specs.Names.{behind_all, bound, Names}
use Rattle.rx_hoist_extraction.specs.Pinned.{pinned_function, pinning}
use Rattle.rx_hoist_extraction.specs.Plan.{Pins}
use Rattle.rx_hoist_extraction.specs.Run.{as_block, as_statements, in_front, labels_round, Run, run_block}
use Rattle.rx_engine_names.specs.KeptWays.{KeepsMaybe}
use Rattle.rx_engine_names.specs.Moves.{labels_of}
use Rattle.rx_engine_names.specs.Placed.{inside_of}
use Rattle.rx_engine_names.specs.Reached.{RunReached}
use Rattle.rx_engine_names.specs.WrittenOut.{PinsName}
use Rattle.rx_engine_names.proofs.BehindStatements.{Covers}
use Rattle.rx_engine_called.proofs.WrittenOut.{led}
use Rattle.rx_engine_tied.proofs.Copies.{run_comes, written_block}

-- ---- what is bound in front of the run stays

module _ (P : ProgramTree) (place : Span) (pins : Pins) where
  front_binds : (own mine : Names) (round : List Around) (n : ℕ) (ss : Statements)
      → behind_all own (as_statements (take n (listed (changed_statements (pinning P place pins) mine round ss)))) ≡ behind_all own (as_statements (take n (listed ss)))
  front_binds own mine round zero plain.no_statement = refl
  front_binds own mine round (suc n) plain.no_statement = refl
  front_binds own mine round zero (plain.statement_and a ss) = refl
  front_binds own mine round (suc n) (plain.statement_and (plain.let_statement s p y o) ss) = front_binds (bound p ++ own) (bound p ++ mine) round n ss
  front_binds own mine round (suc n) (plain.statement_and (plain.expression_statement s e b) ss) = front_binds own mine round n ss

  block_binds : (r : Run) (mine : Names) (round : List Around) (b : Body) → behind_all [] (as_statements (in_front r (statements (changed_body (pinning P place pins) mine round b)))) ≡ behind_all [] (as_statements (in_front r (statements b)))
  block_binds r mine round (plain.body s ss o) = front_binds [] mine round r.first ss

-- ---- the run

-- come to in a scope in which a name means what it meant where the block begins, or what is bound in front of the run
pub record WrittenRun (I : Inside) (labels : List (Option Ident)) (r : Run) (b c : Body) (sc : Variables) (ls : List Around) : Type 0 where
  pub reached : RunReached I labels r c
  pub around : reached.around ≡ ls
  pub covers : Covers (behind_all [] (as_statements (in_front r (statements b)))) sc reached.middle.scope

in_place : (I : Inside) (labels : List (Option Ident)) (r : Run) (b c : Body) (sc : Variables) (ls : List Around) (at : List ℕ) (t u : ItemNames) → r.first ≤ r.last + 1 → labels_of ls ≡ labels
    → behind_all [] (as_statements (in_front r (statements c))) ≡ behind_all [] (as_statements (in_front r (statements b))) → in_block I sc ls at c t ≡ Ok u → WrittenRun I labels r b c sc ls
in_place I labels r b c sc ls at t u forward are binds e =
    let x = run_comes I r c forward sc ls at t u e in
    subst (λ (l : List (Option Ident)). WrittenRun I l r b c sc ls) are (record { reached = x.reached; around = x.around; covers = subst (λ (l : Names). Covers l sc x.reached.middle.scope) binds x.covers })

pub written_run : (P : ProgramTree) (ts : List ItemNames) → in_program P ≡ Ok ts → (item : ℕ) (place : Span) (pins : Option Pins) → PinsName P pins → (s : Span) (f : Function) (r : Run) (b : Body) → descend (Some (a_block f.body)) r.way ≡ Some (a_block b)
    → KeepsMaybe pins (Some (a_block f.body)) r.way → r.first ≤ r.last + 1 → (sc : Variables) (ls : List Around) (at : List ℕ) (t u : ItemNames) → in_block (inside_of P item s f) sc ls at b t ≡ Ok u → labels_of ls ≡ labels_round r f
    → WrittenRun (inside_of P item s (pinned_function P place pins f)) (labels_round r (pinned_function P place pins f)) r b (run_block r (pinned_function P place pins f)) sc ls
written_run P ts all item place None named s f r b way kept forward sc ls at t u e are =
    let same : run_block r f ≡ b = ap as_block way in
    in_place (inside_of P item s f) (labels_round r f) r b (run_block r f) sc ls at t u forward are (ap (λ (c : Body). behind_all [] (as_statements (in_front r (statements c)))) same)
    (subst (λ (c : Body). in_block (inside_of P item s f) sc ls at c t ≡ Ok u) (sym same) e)
written_run P ts all item place (Some pins) named s f r b way kept forward sc ls at t u e are =
    let g = pinned_function P place (Some pins) f in
    let x = led P place pins r.way (a_block f.body) (a_block g.body) b ([], [], refl) way kept in
    let c = changed_body (pinning P place pins) x.mine x.round b in
    let same : run_block r g ≡ c = ap as_block x.leads in
    let z = written_block P ts all (number item) (firsts [] 0 (lifetimes_declared (plain.function_item s f))) place pins named sc ls at b t u e x.mine x.round in
    in_place (inside_of P item s g) (labels_round r g) r b (run_block r g) sc ls at t z.0 forward (are ∙ sym (x.labels []))
    (ap (λ (d : Body). behind_all [] (as_statements (in_front r (statements d)))) same ∙ block_binds P place pins r x.mine x.round b)
    (subst (λ (d : Body). in_block (inside_of P item s g) sc ls at d t ≡ Ok z.0) (sym same) z.1)
