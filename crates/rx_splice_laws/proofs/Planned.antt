-- What a formed plan decides of a run's text is spelled with words.
use Rattle.std.proofs.Common.{◌≡◌, ℕ, suc, ◌≤◌, List, [], ◌∷◌, Option, Some, None, refl, sym, subst, Bool, true, false}
use Rattle.std.specs.Prelude.{option_map, if◌then◌else◌}
use Rattle.rx_core.specs.declared.types.Span.{Span}
use Rattle.rx_tree.specs.Lists.{Every}
use Rattle.rx_tree.specs.Plain as plain
use Rattle.rx_tree.specs.Plain.{TypeTree, PatternTree, ProgramTree}
use Rattle.rx_tree.specs.Spans.{pattern_span}
use Rattle.rx_typed.specs.Types.{Typ, levels}
use Rattle.rx_resolve_names.specs.Meant.{a_loop}
use Rattle.rx_print_spelling.specs.Formed.{Formed, FormedType}
use Rattle.rx_print_spelling.specs.Levels.{type_levels}
use Rattle.rx_hoist_extraction.specs.Run.{same_place}
use Rattle.rx_hoist_extraction.specs.Plan as planned
use Rattle.rx_hoist_extraction.specs.Plan.{Pins, Plan}
use Rattle.rx_hoist_extraction.specs.WrittenTypes.{elided}
use Rattle.rx_hoist_extraction.specs.Pinned.{at_place}
use Rattle.rx_hoist_extraction.specs.Moved.{leaves}
use Rattle.rx_hoist_extraction.specs.FormedPlan.{TypeSpells, PinsSpell, FormedPlan}
use Rattle.rx_hoist_extraction.proofs.FormedBodies.{run_places}
use Rattle.rx_hoist_extraction.proofs.FormedSignatures.{elided_formed}
use Rattle.rx_hoist_extraction.proofs.WrittenLevels.{elided_levels}
use Rattle.rx_splice_laws.specs.Moving.{Jump, jump_of}
use Rattle.rx_splice_laws.specs.MovedBy.{jump_to, type_at, moved_by, PinsLow}
use Rattle.rx_hoist_extraction.proofs.MadeNames.{variable_is_identifier}
use Rattle.rx_splice_laws.proofs.InPlaces.{EndsBare}
use Rattle.rx_splice_laws.proofs.ElidedBare.{elided_bare}
use Rattle.rx_splice_laws.proofs.Fitting.{Spelt}

-- what is told of all that is pinned holds of what is pinned at a place
chosen : (Q : Typ → Type 0) (b : Bool) (u : Typ) (o : Option Typ) (t : Typ) → Q u → ((e : o ≡ Some t) → Q t) → (if b then Some u else o) ≡ Some t → Q t
chosen Q true u o t h f e = let m : u ≡ t = cc in subst Q m h
chosen Q false u o t h f e = f e

placed : (Q : Typ → Type 0) (ps : List (Span × Typ)) (s : Span) (t : Typ) → Every (λ (p : Span × Typ). Q p.1) ps → at_place ps s ≡ Some t → Q t
placed Q [] s t h e = absurd (cc)
placed Q (p ∷ ps) s t h e = chosen Q (same_place p.0 s) p.1 (at_place ps s) t h.0 (λ k. placed Q ps s t h.1 k) e

written : (P : ProgramTree) (r : Span) (o : Option Typ) (y : TypeTree) → option_map (elided P r) o ≡ Some y → (t : Typ) × (o ≡ Some t) × (y ≡ elided P r t)
written P r None y e = absurd (cc)
written P r (Some t) y e = (t, refl, cc)

pinned_formed : (P : ProgramTree) (r : Span) (o : Option Pins) (p : PatternTree) (y : TypeTree) → PinsSpell P o → PinsLow o → type_at P r o p ≡ Some y → FormedType y × (type_levels y ≤ 130) × EndsBare y
pinned_formed P r None p y h l e = absurd (cc)
pinned_formed P r (Some pins) p y h l e =
    let w = written P r (at_place pins.types (pattern_span p)) y e in (
      subst FormedType (sym w.2) (elided_formed P r w.0 (placed (TypeSpells P) pins.types (pattern_span p) w.0 h w.1)),
      subst (λ (z : TypeTree). type_levels z ≤ 130) (sym w.2) (subst (λ n. n ≤ 130) (sym (elided_levels P r w.0)) (placed (λ (t : Typ). levels t ≤ 130) pins.types (pattern_span p) w.0 l w.1)),
      subst EndsBare (sym w.2) (elided_bare P r w.0 (placed (TypeSpells P) pins.types (pattern_span p) w.0 h w.1)).alone,
    )

module _ (P : ProgramTree) (pl : Plan) (r : Span) (F : FormedPlan P pl) (L : PinsLow pl.pins) where
  jumps : (x : ℕ → planned.Exit) → ((k : ℕ) → Formed (jump_of (moved_by P pl r) (jump_to pl (x k)))) → (o : Option ℕ) (e : Jump) → option_map (λ k. jump_to pl (x k)) o ≡ Some e
      → Formed (jump_of (moved_by P pl r) e)
  jumps x f None e i = absurd (cc)
  jumps x f (Some k) e i = let m : jump_to pl (x k) ≡ e = cc in subst (λ (j : Jump). Formed (jump_of (moved_by P pl r) j)) m (f k)

  pub plan_spelt : Spelt (moved_by P pl r)
  plan_spelt = record {
    breaks = λ ls l e i. jumps planned.to_break (λ k. (run_places P pl F r).breaking (a_loop None (suc k) ∷ []) r None tt) (leaves l ls) e i;
    continues = λ ls l e i. jumps planned.to_continue (λ k. (run_places P pl F r).continuing (a_loop None (suc k) ∷ []) r None tt) (leaves l ls) e i;
    returns = (run_places P pl F r).returning r plain.absent tt;
    first_out = variable_is_identifier pl.identifiers 0 F.fresh_variable;
    types = λ p y i. pinned_formed P r pl.pins p y F.pins L i;
  }
