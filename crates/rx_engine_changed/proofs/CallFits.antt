-- The statements of the call that stand in a function by one numbering fit, where the text's variables stand where it comes to the run.
use Rattle.std.proofs.Common.{◌≡◌, ◌<◌, ℕ, Bool, List, sym, subst}
use Rattle.rx_tree.specs.Plain.{OptionalExpression, Statement}
use Rattle.rx_resolve_names.specs.Meant.{number}
use Rattle.rx_resolve_names.specs.Steps.{Inside}
use Rattle.rx_typed.specs.declared.nodes.Node.{Node}
use Rattle.rx_typed.specs.declared.nodes.Site.{Site}
use Rattle.rx_typed.specs.Named.{some_diverges, Function}
use Rattle.rx_typed.specs.Naming.{of_optional, of_statements, Cursor}
use Rattle.rx_hoist_extraction.specs.Run.{as_statements}
use Rattle.rx_hoist_extraction.specs.Values.{next_values}
use Rattle.rx_typeck_solver.specs.Facts.{Assignment, KnownItems}
use Rattle.rx_engine_names.specs.Renaming.{Renaming}
use Rattle.rx_engine_names.specs.HandedOut.{Handing}
use Rattle.rx_engine_names.specs.HandsOver.{told_handed, told_last}
use Rattle.rx_engine_blocks.specs.Renumbering.{node_at}
use Rattle.rx_engine_holes.specs.CallFits.{EndFits, StatementsFit}
use Rattle.rx_engine_holes.specs.Entries.{of_text, Entries}
use Rattle.rx_engine_typing.specs.Renumbered.{no_holes}
use Rattle.rx_engine_changed.specs.Beside.{first_own, paired, Instead, IsPiece}
use Rattle.rx_engine_changed.specs.HandedTypes.{EndStands, ItemsDeclare, NextAgrees}
use Rattle.rx_engine_changed.specs.Once.{ByOneNumbering, IsToldCall, IsToldLast}
use Rattle.rx_engine_changed.specs.Round.{as_mutable, round}
use Rattle.rx_engine_changed.specs.Spots.{spot, NumberedElse}
use Rattle.rx_engine_changed.specs.TextStands.{handing_here, handing_last, TextStands}
use Rattle.rx_engine_changed.proofs.Handed.{end_fits, run_fits}
use Rattle.rx_engine_changed.proofs.Spots.{optional_numbered, statements_numbered}
use Rattle.rx_engine_changed.proofs.TextStands.{call_stands}

module _ (R : Renaming) (G : Handing) (I I' : Inside) (C : Cursor → Cursor → Type 0) (D : Node → Bool → Cursor → Cursor → Type 0) (front run call : List Statement) (f g : Function) where
  pub call_fits : (x : ByOneNumbering R (IsToldCall R as_mutable (told_handed G) I I' C front run call) (λ q. round no_holes q) f g) → (E : KnownItems) (A : Assignment)
      → ItemsDeclare E x.numbers.by (handing_here G x.such) (x.numbers.by.items f.item) → NextAgrees (handing_here G x.such) → ((k : ℕ) → k < (of_statements (as_statements call) x.such.is_call.cursor').1.declared → number k ≡ k)
      → TextStands A E x.numbers.by (handing_here G x.such) x.such.is_call.cursor
      → (made : Entries) × StatementsFit E (x.numbers.by.items f.item) (of_text x.numbers.by x.numbers.back A) (of_statements (as_statements call) x.such.is_call.cursor').0 made
  call_fits x E A items agrees few there =
      let y = x.such in let c' = y.is_call.cursor' in
      let in_front : (n n' : ℕ) → IsPiece (paired n n') x.made → n' < c'.number = λ n n' z. subst (λ (i : Instead). n' < first_own i) y.is_call.is (x.in_front n n' z) in
      run_fits E (x.numbers.by.items f.item) x.numbers.by (handing_here G y) R items agrees x.follows.items _ y.stands.told.0 (of_text x.numbers.by x.numbers.back A) (spot c') (spot (of_statements (as_statements call) c').1)
      (call_stands R x.numbers x.follows A x.made y.is_call.cursor c' y.is_call.step x.correspond in_front E (handing_here G y) (spot (of_statements (as_statements call) c').1) few there) y.stands.told.2 (statements_numbered (as_statements call) c')

  pub last_call_fits : (tail last : OptionalExpression) (x : ByOneNumbering R (IsToldLast R as_mutable (told_last G) I I' D front run call tail last) (λ q. round no_holes q) f g) → (E : KnownItems) (A : Assignment)
      → ItemsDeclare E x.numbers.by (handing_last G x.such) (x.numbers.by.items f.item) → NextAgrees (handing_last G x.such)
      → ((k : ℕ) → k < (of_optional x.such.is_call.site last (of_statements (as_statements call) x.such.is_call.cursor').1).1.declared → number k ≡ k) → TextStands A E x.numbers.by (handing_last G x.such) x.such.is_call.cursor
      → EndStands E x.numbers.by (of_text x.numbers.by x.numbers.back A) (node_at x.numbers.by x.such.is_call.node x.such.is_call.node.span) (some_diverges x.such.is_call.front) (of_statements (as_statements call) x.such.is_call.cursor').0 (next_values G.call.plan)
      → (made : Entries) × EndFits E (x.numbers.by.items f.item) (of_text x.numbers.by x.numbers.back A) (node_at x.numbers.by x.such.is_call.node x.such.is_call.node.span) (some_diverges x.such.is_call.front)
      (of_statements (as_statements call) x.such.is_call.cursor').0 (of_optional x.such.is_call.site last (of_statements (as_statements call) x.such.is_call.cursor').1).0 made
  last_call_fits tail last x E A items agrees few there end =
      let y = x.such in let c' = y.is_call.cursor' in let S = of_statements (as_statements call) c' in let O = of_optional y.is_call.site last S.1 in
      let in_front : (n n' : ℕ) → IsPiece (paired n n') x.made → n' < c'.number = λ n n' z. subst (λ (i : Instead). n' < first_own i) y.is_call.is (x.in_front n n' z) in
      end_fits E (x.numbers.by.items f.item) x.numbers.by (handing_last G y) R items agrees x.follows.items _ y.stands.told.0.0 (of_text x.numbers.by x.numbers.back A) (spot c') (spot S.1) (spot O.1)
      (node_at x.numbers.by y.is_call.node y.is_call.node.span) (some_diverges y.is_call.front)
      (call_stands R x.numbers x.follows A x.made y.is_call.cursor c' y.is_call.step x.correspond in_front E (handing_last G y) (spot O.1) few there) y.stands.told.0.2 y.stands.told.1 (statements_numbered (as_statements call) c')
      (subst (λ (t : Site). NumberedElse (spot S.1) t O.0 (spot O.1)) (sym y.is_call.sited) (optional_numbered last y.is_call.site S.1)) end
