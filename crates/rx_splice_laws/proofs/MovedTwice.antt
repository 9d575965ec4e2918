-- What the plan makes of a run in one walk is what the extraction makes of it: pinned, then moved.
use Rattle.std.proofs.Common.{◌≡◌, ℕ, List, [], Option, Some, None, refl, ap, ◌∙◌}
use Rattle.std.specs.Prelude.{option_map}
use Rattle.rx_core.specs.declared.types.Span.{Span}
use Rattle.rx_core.specs.declared.types.Kind.{Kind}
use Rattle.rx_tree.specs.declared.tree.Ident.{Ident}
use Rattle.rx_tree.specs.Plain as plain
use Rattle.rx_tree.specs.Plain.{TypeTree, PatternTree, Expression, OptionalExpression, Statements, ProgramTree}
use Rattle.rx_resolve_names.specs.Meant.{Around}
use Rattle.rx_hoist_extraction.specs.Names.{behind_all}
use Rattle.rx_hoist_extraction.specs.Plan as planned
use Rattle.rx_hoist_extraction.specs.Plan.{Pins, Plan}
use Rattle.rx_hoist_extraction.specs.Changed.{Changes, changed_statements, changed_optional}
use Rattle.rx_hoist_extraction.specs.Pinned as pinned
use Rattle.rx_hoist_extraction.specs.Moved.{leaves, moved_break, moved_continue, moved_return, moving}
use Rattle.rx_splice_laws.specs.Moving.{run_changes, jump_or, return_of, pinned_suffix, pinned_type}
use Rattle.rx_splice_laws.specs.MovedBy.{jump_to, kind_at, type_at, moved_by, pins_of, moved_statements, moved_tail}
use Rattle.rx_splice_laws.proofs.Twice.{Both, pinning_by, both_statements, both_optional}

abbrev pub kinds_of : Option Pins → Span → Option Kind → Option Kind
kinds_of None s k = k
kinds_of (Some pins) s k = pinned.pinned_suffix pins s k

abbrev pub types_of : ProgramTree → Span → Option Pins → PatternTree → Option TypeTree → Option TypeTree
types_of P r None p t = t
types_of P r (Some pins) p t = pinned.pinned_type P r pins p t

module _ (P : ProgramTree) (pl : Plan) (r : Span) where
  breaks : (s : Span) (l : Option Ident) (o : Option ℕ) → jump_or (moved_by P pl r) (plain.break s l) (option_map (λ k. jump_to pl (planned.to_break k)) o) ≡ moved_break pl r s l o
  breaks s l None = refl
  breaks s l (Some k) = refl

  continues : (s : Span) (l : Option Ident) (o : Option ℕ) → jump_or (moved_by P pl r) (plain.continue s l) (option_map (λ k. jump_to pl (planned.to_continue k)) o) ≡ moved_continue pl r s l o
  continues s l None = refl
  continues s l (Some k) = refl

  returns : (s : Span) (o : OptionalExpression) → return_of (moved_by P pl r) s o ≡ moved_return pl r s o
  returns s plain.absent = refl
  returns s (plain.present e) = refl

  pub kinds : (o : Option Pins) (s : Span) (k : Option Kind) → pinned_suffix k (kind_at o s) ≡ kinds_of o s k
  kinds None s None = refl
  kinds None s (Some k) = refl
  kinds (Some pins) s None = refl
  kinds (Some pins) s (Some k) = refl

  pub types : (o : Option Pins) (p : PatternTree) (t : Option TypeTree) → pinned_type t (type_at P r o p) ≡ types_of P r o p t
  types None p None = refl
  types None p (Some t) = refl
  types (Some pins) p None = refl
  types (Some pins) p (Some t) = refl

  one_walk : Both (moving pl r) (run_changes (moved_by P pl r)) (kinds_of pl.pins) (types_of P r pl.pins)
  one_walk = record {
    variable = λ own s x. refl;
    breaking = λ ls s l. breaks s l (leaves l ls);
    continuing = λ ls s l. continues s l (leaves l ls);
    returning = returns;
    kind = kinds pl.pins;
    typing = types pl.pins;
    blocks = λ b c. refl;
    moved_blocks = λ b c. refl;
  }

  pub same_pins : (o : Option Pins) → pinning_by (kinds_of o) (types_of P r o) ≡ pins_of P r o
  same_pins None = refl
  same_pins (Some pins) = refl

  pub statements_moved : (ls : List Around) (ss : Statements) → changed_statements (run_changes (moved_by P pl r)) [] ls ss ≡ moved_statements P pl r ls ss
  statements_moved ls ss =
      both_statements (moving pl r) (run_changes (moved_by P pl r)) (kinds_of pl.pins) (types_of P r pl.pins) one_walk [] ls ss
      ∙ ap (λ (D : Changes). changed_statements (moving pl r) [] ls (changed_statements D [] ls ss)) (same_pins pl.pins)

  pub tail_moved : (ls : List Around) (ss : Statements) (o : OptionalExpression)
      → changed_optional (run_changes (moved_by P pl r)) (behind_all [] ss) ls o ≡ moved_tail P pl r ls ss o
  tail_moved ls ss o =
      both_optional (moving pl r) (run_changes (moved_by P pl r)) (kinds_of pl.pins) (types_of P r pl.pins) one_walk (behind_all [] ss) ls o
      ∙ ap (λ (D : Changes). changed_optional (moving pl r) (behind_all [] ss) ls (changed_optional D (behind_all [] ss) ls o)) (same_pins pl.pins)
