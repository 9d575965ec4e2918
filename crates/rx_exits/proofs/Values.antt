-- Whether a value is handed out, by its type.
use Rattle.std.proofs.Common.{◌≡◌, ◌≢◌, ◌↔◌, ℕ, Bool, sym, true, false, not, List, [], ◌∷◌, map, Some, None, option_map, refl, ap, ◌∙◌}
use Rattle.std.proofs.lemmas.Bool.{false≢true}
use Rattle.std.specs.Option.{is_some}
use Rattle.rx_core.specs.declared.types.Kind.{Kind}
use Rattle.rx_core.specs.declared.types.Ty.{Ty}
use Rattle.rx_core.specs.declared.types.Ty.TheVariants as ty
use Rattle.rx_typed.specs.Types.{Typ, integer, boolean, tuple_of, reference, named, no_shape, shape_and, shapes_of}
use Rattle.rx_typed.specs.PlainTypes.{plain-Ty, typ_integer, typ_boolean, typ_tuple, typ_shared, typ_mut, typ_item}
use Rattle.rx_typed.specs.Tree.{Mark}
use Rattle.rx_typed.specs.declared.tree.Expr.{Expr}
use Rattle.rx_typed.specs.PlainTree.{plain-Expr}
use Rattle.rx_exits_plan.specs.Plan.{but_the_unit, handed_value}
use Rattle.rx_exits_tree.proofs.Shapes.{expr_mark}
use Rattle.rx_exits.specs.Planning.{is_unit}

pub unit_integer : (k : Kind) → is_unit (plain-Ty (ty.Int k)) ≡ false
unit_integer k = ap is_unit (typ_integer k)

pub unit_boolean : is_unit (plain-Ty ty.Bool) ≡ false
unit_boolean = ap is_unit typ_boolean

pub unit_shared : (l : ℕ) (t : Ty) → is_unit (plain-Ty (ty.Shared l t)) ≡ false
unit_shared l t = ap is_unit (typ_shared l t)

pub unit_mut : (l : ℕ) (t : Ty) → is_unit (plain-Ty (ty.Mut l t)) ≡ false
unit_mut l t = ap is_unit (typ_mut l t)

pub unit_item : (i : ℕ) (ls : List ℕ) → is_unit (plain-Ty (ty.Adt i ls)) ≡ false
unit_item i ls = ap is_unit (typ_item i ls)

pub unit_empty : (ts : List Ty) → ts ≡ [] → is_unit (plain-Ty (ty.Tuple ts)) ≡ true
unit_empty ts e = ap is_unit (typ_tuple ts) ∙ ap (λ us. is_unit (tuple_of (shapes_of (map plain-Ty us)))) e

pub unit_parts : (ts : List Ty) → ts ≢ [] → is_unit (plain-Ty (ty.Tuple ts)) ≡ false
unit_parts [] ne = absurd (ne refl)
unit_parts (t ∷ ts) ne = ap is_unit (typ_tuple (t ∷ ts))

pub unit_tuple : (t : Ty) (ts : List Ty) (b : Bool) → t ≡ ty.Tuple ts → (b ≡ true) ↔ (ts ≡ []) → b ≡ is_unit (plain-Ty t)
unit_tuple t ts true is told = sym (ap (λ u. is_unit (plain-Ty u)) is ∙ unit_empty ts (told.0 refl))
unit_tuple t ts false is told = sym (ap (λ u. is_unit (plain-Ty u)) is ∙ unit_parts ts (λ e. false≢true (told.1 e)))

pub ruleset unit_rules = (unit_integer, unit_boolean, unit_shared, unit_mut, unit_item)

-- ---- values

pub handed_type : (t : Typ) → is_some (but_the_unit (Some t)) ≡ not (is_unit t)
handed_type (tuple_of no_shape) = refl
handed_type (tuple_of (shape_and t ts)) = refl
handed_type (integer k) = refl
handed_type boolean = refl
handed_type (reference m t) = refl
handed_type (named i) = refl

pub handed_some : (e : Expr) (t : Ty) → e.mark.ty ≡ Some t → is_some (handed_value (Some (plain-Expr e))) ≡ not (is_unit (plain-Ty t))
handed_some e t is = ap (λ (m : Mark). is_some (but_the_unit m.typ)) (expr_mark e) ∙ ap (λ o. is_some (but_the_unit (option_map plain-Ty o))) is ∙ handed_type (plain-Ty t)

pub handed_none : (e : Expr) → e.mark.ty ≡ None → is_some (handed_value (Some (plain-Expr e))) ≡ false
handed_none e is = ap (λ (m : Mark). is_some (but_the_unit m.typ)) (expr_mark e) ∙ ap (λ o. is_some (but_the_unit (option_map plain-Ty o))) is
