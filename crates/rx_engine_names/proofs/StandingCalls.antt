-- The call of the new function, alone or with one value that is assigned or bound, stands for a run.
use Rattle.std.proofs.Common.{◌≡◌, ℕ, Bool, List, [], ◌∷◌, length, Option, Some, Ok, refl, ap}
use Rattle.rx_tree.specs.Plain as plain
use Rattle.rx_tree.specs.Plain.{OptionalExpression, Statement}
use Rattle.rx_resolve_names.specs.Scopes.{Variables, variable_named}
use Rattle.rx_resolve_names.specs.declared.resolved.ItemNames.{ItemNames}
use Rattle.rx_resolve_names.specs.Meant.{number, Around}
use Rattle.rx_resolve_names.specs.Steps.{Outcome, and_then, Inside, known, one, child, entry, with_names, with_variable}
use Rattle.rx_resolve_names.specs.Names.{in_expression, Scoped}
use Rattle.rx_hoist_extraction.specs.Names.{Names, behind_all}
use Rattle.rx_hoist_extraction.specs.Run.{as_statements}
use Rattle.rx_hoist_extraction.specs.Made.{binding, done, assignment, let_value}
use Rattle.rx_hoist_extraction.specs.Call.{bare_call}
use Rattle.rx_engine_names.specs.Renaming.{Made}
use Rattle.rx_engine_names.specs.Within.{OptionalWithin, StatementsWithin}
use Rattle.rx_engine_names.specs.Calls.{Calls, ParamsMeant, FunctionMeant, bound_to}
use Rattle.rx_engine_names.specs.Replaced.{NamesAlike, only, Keeps, Stands, StandsLast}
use Rattle.rx_engine_names.proofs.SideBySide.{then_ok}
use Rattle.rx_engine_names.proofs.Alone.{makes_entry}
use Rattle.rx_engine_names.proofs.MadeCalls.{made_call}

keeps_all : (M : Made) → Keeps M M
keeps_all M = record { variables = λ n m h. h; loops = λ n m h. h; passages = λ x h. h }

module _ (C : Calls) (I' : Inside) (ls' : List Around) (M : Made) (sc' sc : Variables) (f : FunctionMeant C I' sc') (h : ParamsMeant C M sc' C.plan.params) (names : Names) (behind : List Statement) (o : OptionalExpression) where
  -- `call;`
  pub call_stands : NamesAlike M names sc sc' → StatementsWithin (only names sc sc') names [] (as_statements behind) → OptionalWithin (only names sc sc') (behind_all names (as_statements behind)) [] o
      → (at' : List ℕ) (i' : ℕ) (u : ItemNames) → Stands I' ls' M sc' at' i' (done C.place (bare_call C.plan C.place) ∷ []) sc behind o u
  call_stands n w e at' i' u =
      let A = made_call (λ n. n) C I' sc' ls' M (child (child at' i') 0) f h u in
      let to : ItemNames → Scoped = λ t. record { scope = sc'; tables = t } in
      let rest : Outcome ItemNames → Outcome Scoped = λ o. and_then (and_then o (λ t. Ok (to t))) (λ r. Ok r) in record {
        names = names;
        made = M;
        stays = keeps_all M;
        scope = sc';
        tables = A.table;
        resolves = ap rest A.answer;
        alike = n;
        follows = w;
        ends = e;
      }

  -- `x = call;`
  pub assignment_stands : (x : List ℕ) (m : ℕ) → variable_named sc' x ≡ Some m → NamesAlike M names sc sc' → StatementsWithin (only names sc sc') names [] (as_statements behind) → OptionalWithin (only names sc sc') (behind_all names (as_statements behind)) [] o
      → (at' : List ℕ) (i' : ℕ) (u : ItemNames) → Stands I' ls' M sc' at' i' (assignment C.place x (bare_call C.plan C.place) ∷ []) sc behind o u
  assignment_stands x m is n w e at' i' u =
      let at2 = child (child at' i') 0 in
      let B = makes_entry {items = λ n. n} {M = M} I' (child at2 0) u m [] (one (known (variable_named sc' x) C.place)) (ap (λ (o : Option ℕ). one (known o C.place)) is) in
      let A = made_call (λ n. n) C I' sc' ls' M (child at2 1) f h B.table in
      let to : ItemNames → Scoped = λ t. record { scope = sc'; tables = t } in
      let rest : Outcome ItemNames → Outcome Scoped = λ o. and_then (and_then o (λ t. Ok (to t))) (λ r. Ok r) in record {
        names = names;
        made = M;
        stays = keeps_all M;
        scope = sc';
        tables = A.table;
        resolves = ap rest (then_ok (in_expression I' sc' ls' (child at2 0) (plain.var C.place x)) (in_expression I' sc' ls' (child at2 1) (bare_call C.plan C.place)) u B.table A.table B.answer A.answer);
        alike = n;
        follows = w;
        ends = e;
      }

  -- `let x = call;`
  pub let_stands : (x : List ℕ) (m : Bool) (at' : List ℕ) (i' : ℕ) (u : ItemNames) (now : Made) → Keeps M now → NamesAlike now names sc (bound_to x u sc') → StatementsWithin (only names sc (bound_to x u sc')) names [] (as_statements behind)
      → OptionalWithin (only names sc (bound_to x u sc')) (behind_all names (as_statements behind)) [] o → Stands I' ls' M sc' at' i' (let_value C.place (binding C.place x m) (bare_call C.plan C.place) ∷ []) sc behind o u
  let_stands x m at' i' u now g n w e =
      let at2 = child at' i' in
      let A = made_call (λ n. n) C I' sc' ls' M (child at2 1) f h (with_names (entry I' (child at2 0) (number (length u.vars) ∷ [])) (with_variable C.place u)) in
      let to : ItemNames → Scoped = λ t. record { scope = bound_to x u sc'; tables = t } in
      let rest : Outcome ItemNames → Outcome Scoped = λ o. and_then (and_then o (λ t. Ok (to t))) (λ r. Ok r) in record {
        names = names;
        made = now;
        stays = g;
        scope = bound_to x u sc';
        tables = A.table;
        resolves = ap rest A.answer;
        alike = n;
        follows = w;
        ends = e;
      }

-- `call` as the tail
pub tail_stands : (C : Calls) (I' : Inside) (ls' : List Around) (M : Made) (sc' : Variables) → FunctionMeant C I' sc' → ParamsMeant C M sc' C.plan.params → (at' : List ℕ) (i' : ℕ) (way : List ℕ) (u : ItemNames)
    → StandsLast I' ls' sc' at' i' way [] (plain.present (bare_call C.plan C.place)) u
tail_stands C I' ls' M sc' f h at' i' way u =
    let A = made_call (λ n. n) C I' sc' ls' M way f h u in record { end = record { scope = sc'; tables = u }; goes = refl; tables = A.table; ends = A.answer }
