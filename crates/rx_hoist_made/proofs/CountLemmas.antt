-- Counts of lifetime positions.
use Rattle.std.proofs.Common.{◌≡◌, ℕ, ◌+◌, ◌<◌, Bool, true, false, List, [], ◌∷◌, length, map, get_or, drop, refl, ap, ◌∙◌, arith}
use Rattle.std.specs.Prelude.{◌↔◌, IsTrue}
use Rattle.rx_core.specs.declared.types.Ty.{Ty}
use Rattle.rx_tree.specs.Plain.{ProgramTree}
use Rattle.rx_typed.specs.Types.{Typ, integer, boolean, tuple_of, reference, named, shapes_of}
use Rattle.rx_typed.specs.PlainTypes.{plain-Ty}
use Rattle.rx_hoist_plan.specs.declared.plan.Leaving.{Leaving}
use Rattle.rx_hoist_plan.specs.PlainPlan.{plain-Leaving}
use Rattle.rx_hoist_extraction.specs.Plan.{Plan, is_unit}
use Rattle.rx_hoist_extraction.specs.WrittenTypes.{positions, positions_of}
use Rattle.rx_hoist_extraction.specs.NewEnum.{all_fields, fields_at}
use Rattle.rx_hoist_extraction.specs.NewFunction.{viewed}
use Rattle.rx_hoist_extraction.proofs.Signatures.{positions_both}
use Rattle.rx_hoist_made.proofs.Dropped.{drop_is}

pub viewed_positions : (P : ProgramTree) (t : Typ) → positions P (viewed t) ≡ positions P t
viewed_positions P (integer k) = refl
viewed_positions P boolean = refl
viewed_positions P (tuple_of ts) = refl
viewed_positions P (reference m t) = refl
viewed_positions P (named i) = refl

-- the unit has no parts
pub no_parts : (b : Bool) (ts : List Ty) → (IsTrue b ↔ (ts ≡ [])) → b ≡ is_unit (tuple_of (shapes_of (map plain-Ty ts)))
no_parts true [] h = refl
no_parts true (t ∷ ts) h = let e : t ∷ ts ≡ [] = h.0 refl in absurd (omega (arith, ap length e))
no_parts false [] h = h.1 refl
no_parts false (t ∷ ts) h = refl

-- what an exit and those behind it hand out
pub exit_here : (P : ProgramTree) (pl : Plan) (xs : List Leaving) (i : ℕ) (x : Leaving) → i < length xs → x ≡ get_or xs i x
    → positions_of P (all_fields pl (map plain-Leaving (drop i xs)))
    ≡ positions_of P (fields_at pl (plain-Leaving x)) + positions_of P (all_fields pl (map plain-Leaving (drop (i + 1) xs)))
exit_here P pl xs i x l e = ap (λ (ys : List Leaving). positions_of P (all_fields pl (map plain-Leaving ys))) (drop_is xs i x l e)
    ∙ positions_both P (fields_at pl (plain-Leaving x)) (all_fields pl (map plain-Leaving (drop (i + 1) xs)))
