-- The types that `let`s write are the same apart from spans.
use Rattle.std.proofs.Common.{◌≡◌, ℕ, suc, List, [], ◌∷◌, ◌++◌, map, None, Ok, Err, slice_get, refl, sym, ap, subst, ◌∙◌}
use Rattle.rx_core.specs.declared.types.Ty.{Ty}
use Rattle.rx_tree.specs.Plain.{ProgramTree}
use Rattle.rx_tree.specs.Erase.{erase_pattern, erase_program}
use Rattle.rx_resolve_names.specs.declared.resolved.NodeNames.{NodeNames}
use Rattle.rx_typed.specs.declared.declarations.Decl.{Decl}
use Rattle.rx_typed.specs.PlainTypes.{declarations}
use Rattle.rx_typed.specs.Types as types
use Rattle.rx_typed.specs.Regions.{region-Ty, RegionTyp}
use Rattle.rx_typed.specs.Elaborated.{field_in, met, Met}
use Rattle.rx_typed.specs.Named as named
use Rattle.rx_typed.specs.Naming.{of_pattern, Annotation}
use Rattle.rx_typeck_elaborate_parts.specs.Entries.{in_front}
use Rattle.rx_typeck_typed.specs.Steps.{Outcome, Reading}
use Rattle.rx_typeck_typed.specs.Items.{begins}
use Rattle.rx_typeck_typed.specs.Lets.{let_type, read}
use Rattle.rx_typeck_typed.specs.Bindings.{annotated, behind, bindings, bound, fields, of_let, of_lets, part, parts, peeled}
use Rattle.rx_engine_typing.specs.Renumbered as like
use Rattle.rx_check_laws.proofs.Cursors.{ap2, bare_annotation, Same}
use Rattle.rx_check_laws.proofs.Numbered.{pattern_alike, AllPatterns, APattern, FieldsAlike}
use Rattle.rx_check_laws.proofs.Declared.{both_well, both_wrong, in_let, let_alike, type_like, Agrees}

module _ (D : List Decl) (free : ℕ) where
  mutual
    bindings_same : (r : Met) {p p' : named.Pattern} (t : RegionTyp) → APattern p p' → bindings D free r p t ≡ bindings D free r p' t
    bindings_same r t like.RenumberedPattern.wild = refl
    bindings_same r t like.RenumberedPattern.bind = refl
    bindings_same r t like.RenumberedPattern.whole_number = refl
    bindings_same r t like.RenumberedPattern.truth = refl
    bindings_same r t (like.RenumberedPattern.tuple_pattern h) = parts_same _ _ 0 _ h
    bindings_same r t (like.RenumberedPattern.variant_pattern h) = parts_same _ _ 0 _ h
    bindings_same r t (like.RenumberedPattern.struct_pattern {i = i} h) = fields_same _ i _ h

    parts_same : (r : Met) (v : _) (k : ℕ) {ps ps' : named.Patterns} (t : RegionTyp) → AllPatterns ps ps' → parts D free r v k ps t ≡ parts D free r v k ps' t
    parts_same r v k t like.RenumberedPatterns.no_pattern = refl
    parts_same r v k t (like.RenumberedPatterns.pattern_and h g) = ap2 (λ (xs ys : List (ℕ × RegionTyp)). xs ++ ys) (bindings_same r (part D v k t) h) (parts_same r v (suc k) t g)

    fields_same : (r : Met) (i : ℕ) {fs fs' : named.FieldPatterns} (t : RegionTyp) → FieldsAlike fs fs' → fields D free r i fs t ≡ fields D free r i fs' t
    fields_same r i t like.RenumberedFieldPatterns.no_field_pattern = refl
    fields_same r i t (like.RenumberedFieldPatterns.field_pattern_and {x = x} h g) = ap2 (λ (xs ys : List (ℕ × RegionTyp)). xs ++ ys) (bindings_same r _ h) (fields_same r i t g)

read_there : (r r' : Outcome (Ty × Reading)) → Agrees r r' → read r ≡ read r'
read_there _ _ both_well = refl
read_there _ _ both_wrong = refl

one_beginning : (a : Annotation) → Same (in_front a) (in_front (bare_annotation a))
one_beginning a = record { number = refl; loops = refl; declared = refl; variables = refl; names = refl; annotations = refl }

let_same : (p : ProgramTree) (D : List Decl) (free : ℕ) (a : Annotation) → of_let p D free a ≡ of_let (erase_program p) D free (bare_annotation a)
let_same p D free a =
    let h = pattern_alike a.pattern (in_front a) (in_front (bare_annotation a)) (one_beginning a) in
    bindings_same D free None _ h.0 ∙ ap (λ (t : Ty). bindings D free None (of_pattern (erase_pattern a.pattern) (in_front (bare_annotation a))).0 (region-Ty t)) (typ h.1.names)
  where
    typ : (behind a).names ≡ (behind (bare_annotation a)).names → let_type p free a.typ (behind a).names ≡ let_type (erase_program p) free (bare_annotation a).typ (behind (bare_annotation a)).names
    typ e = read_there _ _ (type_like p (in_let.0 free) (let_alike free) a.typ (begins (behind a).names free)) ∙ ap (λ (ns : List NodeNames). let_type (erase_program p) free (bare_annotation a).typ ns) e

lets_same : (p : ProgramTree) (D : List Decl) (free : ℕ) (as' : List Annotation) → of_lets p D free as' ≡ of_lets (erase_program p) D free (map bare_annotation as')
lets_same p D free [] = refl
lets_same p D free (a ∷ more) = ap2 (λ (xs ys : List (ℕ × RegionTyp)). xs ++ ys) (let_same p D free a) (lets_same p D free more)

pub annotated_same : (p : ProgramTree) (D : List Decl) (i : ℕ) (xs ys : List Annotation) → map bare_annotation xs ≡ ys → annotated p D i xs ≡ annotated (erase_program p) D i ys
annotated_same p D i xs ys h = lets_same p D _ xs ∙ ap (annotated (erase_program p) D i) h
