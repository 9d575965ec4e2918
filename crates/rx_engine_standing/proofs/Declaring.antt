-- What the new items declare, field by field of what a call asks of them.
use Rattle.std.proofs.Common.{◌≡◌, ℕ, suc, ◌≤◌, ◌<◌, true, if◌then◌else◌, List, length, map, Option, Some, None, option_map, slice_get, sym, ap, ◌∙◌, subst, arith}
use Rattle.std.specs.Prelude.{IsTrue}
use Rattle.rx_tree.specs.Lists.{Every}
use Rattle.rx_tree.specs.Plain.{Function, ProgramTree}
use Rattle.rx_resolve_names.specs.Meant.{number, Around}
use Rattle.rx_resolve_names.specs.Scopes.{Variables}
use Rattle.rx_typed.specs.Types.{enum_declared, function_declared, keeps_limits, levels, named as item, outline, parameters_declared, parts, parts_declared, result_declared, rt_declared, struct_declared, variant_parts, variants_declared, Declared, Typ, VariantDeclared}
use Rattle.rx_typeck_solver.specs.Facts.{KnownItems}
use Rattle.rx_hoist_extraction.specs.Run.{Run}
use Rattle.rx_hoist_extraction.specs.Plan.{has_enum, Leaving, Plan, Variable}
use Rattle.rx_hoist_extraction.specs.Values.{next_values, types_of, value_type, values_at, values_of, Value}
use Rattle.rx_hoist_extraction.specs.Extraction.{new_number}
use Rattle.rx_engine_names.specs.Extractions.{handing_there}
use Rattle.rx_engine_names.specs.HandedOut.{Handing}
use Rattle.rx_engine_names.specs.HandsOver.{at_place}
use Rattle.rx_engine_names.specs.NewFunction.{place_of}
use Rattle.rx_engine_blocks.specs.Renumbering.{declared_at, shape_at, Renumbering}
use Rattle.rx_engine_blocks.specs.Knows.{Knows}
use Rattle.rx_engine_declared.specs.NewItems.{declared_enum, declared_exit, declared_function}
use Rattle.rx_engine_declared.proofs.Sizes.{parts_stay}
use Rattle.rx_engine_kept.proofs.SameLimits.{levels_stay}
use Rattle.rx_engine_changed.specs.HandedTypes.{handed_type, ItemsDeclare, KeepsLimits}
use Rattle.rx_engine_standing.specs.PlanFits.{PlanFits}
use Rattle.rx_engine_standing.proofs.Lists.{each}
use Rattle.rx_engine_standing.proofs.Limits.{keeps_outline, keeps_with, low_keeps, Low}
use Rattle.rx_engine_standing.proofs.Exits.{all_listed, at_place_of, place_below, Listed}
use Rattle.rx_engine_standing.proofs.Values.{are_low, joins}

few_number : (n : ℕ) → n < 4294967296 → number n ≡ n
few_number n h = omega (arith, h)

module _ (P : ProgramTree) (r : Run) (pl : Plan) (g : Function) (sc : Variables) (ls : List Around) (q : Renumbering) (D E : KnownItems) (k : Knows q D E) where
  abbrev G : Handing
  G = at_place (handing_there r pl g) sc ls

  -- a result by other numbers
  own_result : (o : Option Declared) (t : Typ) → result_declared o ≡ Some t → result_declared (option_map (declared_at q) o) ≡ Some (shape_at q t)
  own_result None t e = absurd (cc)
  own_result (Some rt_declared) t e = absurd (cc)
  own_result (Some (struct_declared c l fs)) t e = absurd (cc)
  own_result (Some (enum_declared c l vs)) t e = absurd (cc)
  own_result (Some (function_declared ps u)) t e = ap (λ (o : Option Typ). option_map (shape_at q) o) e

  -- the limits of the text's type
  limits_stay : (t : Typ) → keeps_limits E.sizes (outline (shape_at q t)) ≡ keeps_limits D.sizes (outline t)
  limits_stay t =
      keeps_outline E.sizes (shape_at q t)
      ∙ ap (λ n. keeps_with n (levels (shape_at q t))) (parts_stay q E.sizes t ∙ ap (λ (W : ℕ → ℕ). parts W t) (λ i n. k.sizes n i))
      ∙ ap (λ n. keeps_with (parts D.sizes t) n) (levels_stay q t)
      ∙ sym (keeps_outline D.sizes t)

  variant_there : length pl.exits ≤ 4294967296 → slice_get E.items (suc r.item) ≡ Some (declared_enum q P pl) → (x : Leaving) → Listed pl.exits x
      → variant_parts E.items (suc r.item) (number (place_of x.exit pl.exits)) ≡ map (shape_at q) (types_of (values_of pl x))
  variant_there few e x l =
      let n = place_of x.exit pl.exits in
      let below = place_below x.exit pl.exits l.there in
      ap (λ (o : Option Declared). parts_declared (slice_get (variants_declared o) (number n))) e
      ∙ ap (λ (m : ℕ). parts_declared (slice_get (map (declared_exit q pl) pl.exits) m)) (few_number n (omega (arith, few, below)))
      ∙ ap (λ (o : Option VariantDeclared). parts_declared o) (at_place_of (declared_exit q pl) x.exit pl.exits l.there)
      ∙ ap (λ (vs : List Variable). map (shape_at q) (types_of (values_at pl x.exit vs))) l.outs

  module _ (Z : ℕ → ℕ) (fits : PlanFits Z D pl) where
    low_kept : (t : Typ) → Low Z t → KeepsLimits E q t
    low_kept t l = low_keeps q E.sizes Z (λ i. subst (λ (n : ℕ). n ≤ Z i) (sym (k.sizes i)) (fits.sizes i)) t l

    values_kept : (hs : List Value) → Every (λ (h : Value). Low Z (value_type h)) hs → Every (λ (v : Value). KeepsLimits E q (value_type v)) hs
    values_kept hs a = each (λ (h : Value). Low Z (value_type h)) (λ (v : Value). KeepsLimits E q (value_type v)) (λ v l. low_kept (value_type v) l) hs a

    pub items_declare : slice_get E.items (new_number r pl) ≡ Some (declared_function q (suc r.item) pl) → (has_enum pl.exits ≡ true → slice_get E.items (suc r.item) ≡ Some (declared_enum q P pl))
        → result_declared (slice_get D.items r.item) ≡ Some pl.result → ItemsDeclare E q G (q.items r.item)
    items_declare f e own =
        let low = are_low Z pl fits.levels fits.parts fits.exits in
        record {
          parameters = ap (λ (o : Option Declared). parameters_declared o) f;
          result = ap (λ (o : Option Declared). result_declared o) f ∙ ap (λ (t : Typ). Some (if has_enum pl.exits then item (suc r.item) else shape_at q t)) (sym (joins (next_values pl)));
          variants = λ h. each (Listed pl.exits) (λ (x : Leaving). variant_parts E.items G.enum (G.variant x.exit) ≡ map (shape_at q) (types_of (values_of pl x))) (variant_there fits.few (e h)) pl.exits (all_listed pl.exits fits.exits);
          own = ap (λ (o : Option Declared). result_declared o) (k.items r.item) ∙ own_result (slice_get D.items r.item) pl.result own;
          values = values_kept (next_values pl) low.values;
          handed = low_kept (handed_type (next_values pl)) low.handed;
          exits = each (λ (x : Leaving). Every (λ (h : Value). Low Z (value_type h)) (values_of pl x)) (λ (x : Leaving). Every (λ (v : Value). KeepsLimits E q (value_type v)) (values_of pl x)) (λ x a. values_kept (values_of pl x) a) pl.exits low.exits;
          redeclared = each (λ (v : Variable). IsTrue (keeps_limits D.sizes (outline v.typ))) (λ (v : Variable). KeepsLimits E q v.typ) (λ v h. limits_stay v.typ ∙ h) pl.redeclared fits.redeclared;
        }
