-- The type without lifetimes of a type of the code, and the declarations of those of the code.
use Rattle.std.specs.Prelude.{◌≡◌, ℕ, true, false, List, map}
use Rattle.std.proofs.Common.{ap, sym, ◌∙◌}
use Rattle.rx_core.specs.declared.types.Kind.{Kind}
use Rattle.rx_core.specs.declared.types.Ty.{Ty, Ty-F, fold-Ty, fold-roll-Ty}
use Rattle.rx_core.specs.declared.types.Ty.TheOpen as form
use Rattle.rx_core.specs.declared.types.Ty.TheVariants as ty
use Rattle.rx_typed.specs.declared.declarations.Decl.{Decl}
use Rattle.rx_typed.specs.declared.declarations.Decl.TheVariants as decl
use Rattle.rx_typed.specs.declared.declarations.FieldDecl.{FieldDecl}
use Rattle.rx_typed.specs.declared.declarations.VariantDecl.{VariantDecl}
use Rattle.rx_typed.specs.Types.{Typ, integer, boolean, tuple_of, reference, named, shapes_of, FieldDeclared}
use Rattle.rx_typed.specs.Types.{VariantDeclared, Declared, Declarations, rt_declared, struct_declared, enum_declared}
use Rattle.rx_typed.specs.Types.{function_declared}

abbrev pub typ_step : Ty-F Typ → Typ
typ_step (form.Int k) = integer k
typ_step form.Bool = boolean
typ_step (form.Tuple ts) = tuple_of (shapes_of ts)
typ_step (form.Shared l t) = reference false t
typ_step (form.Mut l t) = reference true t
typ_step (form.Adt i ls) = named i

unfoldable pub plain-Ty : Ty → Typ
plain-Ty = fold-Ty Typ typ_step

pub typ_integer : (k : Kind) → plain-Ty (ty.Int k) ≡ integer k
unfolding plain-Ty
typ_integer k = ap (λ (x : Ty). fold-Ty Typ typ_step x) (sym (ty.rolls-Int k)) ∙ fold-roll-Ty Typ typ_step (form.Int k)

pub typ_boolean : plain-Ty ty.Bool ≡ boolean
unfolding plain-Ty
typ_boolean = ap (λ (x : Ty). fold-Ty Typ typ_step x) (sym ty.rolls-Bool) ∙ fold-roll-Ty Typ typ_step form.Bool

pub typ_tuple : (ts : List Ty) → plain-Ty (ty.Tuple ts) ≡ tuple_of (shapes_of (map plain-Ty ts))
unfolding plain-Ty
typ_tuple ts =
    ap (λ (x : Ty). fold-Ty Typ typ_step x) (sym (ty.rolls-Tuple ts)) ∙ fold-roll-Ty Typ typ_step (form.Tuple ts)

pub typ_shared : (l : ℕ) (t : Ty) → plain-Ty (ty.Shared l t) ≡ reference false (plain-Ty t)
unfolding plain-Ty
typ_shared l t =
    ap (λ (x : Ty). fold-Ty Typ typ_step x) (sym (ty.rolls-Shared l t)) ∙ fold-roll-Ty Typ typ_step (form.Shared l t)

pub typ_mut : (l : ℕ) (t : Ty) → plain-Ty (ty.Mut l t) ≡ reference true (plain-Ty t)
unfolding plain-Ty
typ_mut l t =
    ap (λ (x : Ty). fold-Ty Typ typ_step x) (sym (ty.rolls-Mut l t)) ∙ fold-roll-Ty Typ typ_step (form.Mut l t)

pub typ_item : (i : ℕ) (ls : List ℕ) → plain-Ty (ty.Adt i ls) ≡ named i
unfolding plain-Ty
typ_item i ls =
    ap (λ (x : Ty). fold-Ty Typ typ_step x) (sym (ty.rolls-Adt i ls)) ∙ fold-roll-Ty Typ typ_step (form.Adt i ls)

-- ---- declarations

abbrev pub plain-FieldDecl : FieldDecl → FieldDeclared
plain-FieldDecl f = record { name = f.name; typ = plain-Ty f.ty }

abbrev pub plain-VariantDecl : VariantDecl → VariantDeclared
plain-VariantDecl v = record { name = v.name; parts = map plain-Ty v.parts }

abbrev pub plain-Decl : Decl → Declared
plain-Decl decl.Rt = rt_declared
plain-Decl (decl.Struct c l vs fs) = struct_declared c l (map plain-FieldDecl fs)
plain-Decl (decl.Enum c l vs ds) = enum_declared c l (map plain-VariantDecl ds)
plain-Decl (decl.Func l ps t bs) = function_declared (map plain-Ty ps) (plain-Ty t)

abbrev pub declarations : List Decl → Declarations
declarations ds = map plain-Decl ds
