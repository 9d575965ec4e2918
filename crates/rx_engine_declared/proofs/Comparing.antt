-- What is declared by one text in two programs, where names of items mean in the second what they do in the first by other numbers:
-- the types are those of the first with the items renumbered. By induction on the text.
use Rattle.std.proofs.Common.{◌≡◌, ℕ, List, [], ◌∷◌, length, map, Option, Some, None, refl, sym, ap, ◌∙◌}
use Rattle.rx_tree.specs.declared.tree.Ident.{Ident}
use Rattle.rx_tree.specs.Plain as plain
use Rattle.rx_tree.specs.Plain.{TypeTree, TypeTrees, FieldOf, VariantOf, Parameter, ItemTree, ProgramTree}
use Rattle.rx_resolve_names.specs.Meant.{number, type_name, item_named, as_type}
use Rattle.rx_resolve_names.specs.Steps.{known}
use Rattle.rx_typed.specs.Types.{Typ, reference, tuple_of, named, shapes_of, shape_and, FieldDeclared, VariantDeclared, Declared, struct_declared, enum_declared, function_declared}
use Rattle.rx_typeck_typed.specs.Items.{derives_copy}
use Rattle.rx_engine_names.proofs.KeptItems.{Keeps, keeps_fits, known_some}
use Rattle.rx_engine_blocks.specs.Renumbering.{Renumbering, shape_at, shapes_at, field_at, variant_at, declared_at}
use Rattle.rx_engine_declared.specs.Denoting.{Denotes, DenoteEach}
use Rattle.rx_engine_declared.specs.Declaring.{AreFields, AreVariants, AreParameters, IsResult, DeclaresAs}

module _ (r : Renumbering) (P Q : ProgramTree) (k : Keeps r.items P Q) where
  pub shapes_are : (ts : List Typ) → shapes_of (map (shape_at r) ts) ≡ shapes_at r (shapes_of ts)
  shapes_are [] = refl
  shapes_are (t ∷ ts) = ap (λ z. shape_and (shape_at r t) z) (shapes_are ts)

  -- a name of a struct or enum
  pub name_stays : (x : Ident) (i : ℕ) → as_type (item_named type_name 0 P x.name) ≡ Some i → as_type (item_named type_name 0 Q x.name) ≡ Some (r.items i)
  name_stays x i e =
      let z = (keeps_fits r.items P Q k 0 0 []).items_fit.types x i (ap (λ (o : Option ℕ). known o x.span) e) in
      known_some (as_type (item_named type_name 0 Q x.name)) x.span z.0 z.1 ∙ ap (λ (m : ℕ). Some m) (sym z.2)

  one_of : (i j : ℕ) → ◌≡◌ {A = Option ℕ} (Some i) (Some j) → i ≡ j
  one_of i j e = cc

  mutual
    pub type_stays : (y : TypeTree) (t u : Typ) → Denotes P y t → Denotes Q y u → u ≡ shape_at r t
    type_stays (plain.kind_type s n) t u d e = e ∙ ap (shape_at r) (sym d)
    type_stays (plain.bool_type s) t u d e = e ∙ ap (shape_at r) (sym d)
    type_stays (plain.tuple_type s ys) t u d e =
        e.1 ∙ ap (λ ts. tuple_of (shapes_of ts)) (types_stay ys d.0 e.0 d.2 e.2) ∙ ap (λ z. tuple_of z) (shapes_are d.0) ∙ ap (shape_at r) (sym d.1)
    type_stays (plain.ref_type s l m y) t u d e = e.1 ∙ ap (λ z. reference m z) (type_stays y d.0 e.0 d.2 e.2) ∙ ap (shape_at r) (sym d.1)
    type_stays (plain.named_type s x ls) t u d e =
        let same : e.0 ≡ r.items d.0 = one_of e.0 (r.items d.0) (sym e.2 ∙ name_stays x d.0 d.2) in
        e.1 ∙ ap (λ i. named i) same ∙ ap (shape_at r) (sym d.1)

    pub types_stay : (ys : TypeTrees) (ts us : List Typ) → DenoteEach P ys ts → DenoteEach Q ys us → us ≡ map (shape_at r) ts
    types_stay plain.no_type ts us d e = e ∙ ap (map (shape_at r)) (sym d)
    types_stay (plain.type_and y ys) ts us d e =
        e.2 ∙ ap (λ z. z ∷ e.1) (type_stays y d.0 e.0 d.3 e.3) ∙ ap (λ z. shape_at r d.0 ∷ z) (types_stay ys d.1 e.1 d.4 e.4) ∙ ap (map (shape_at r)) (sym d.2)

  fields_stay : (fs : List FieldOf) (ds es : List FieldDeclared) → AreFields P fs ds → AreFields Q fs es → es ≡ map (field_at r) ds
  fields_stay [] ds es d e = e ∙ ap (map (field_at r)) (sym d)
  fields_stay (f ∷ fs) ds es d e =
      e.2 ∙ ap (λ t. record { name = f.name.name; typ = t } ∷ e.1) (type_stays f.typ d.0 e.0 d.3 e.3)
      ∙ ap (λ z. record { name = f.name.name; typ = shape_at r d.0 } ∷ z) (fields_stay fs d.1 e.1 d.4 e.4) ∙ ap (map (field_at r)) (sym d.2)

  variants_stay : (vs : List VariantOf) (ds es : List VariantDeclared) → AreVariants P vs ds → AreVariants Q vs es → es ≡ map (variant_at r) ds
  variants_stay [] ds es d e = e ∙ ap (map (variant_at r)) (sym d)
  variants_stay (v ∷ vs) ds es d e =
      e.2 ∙ ap (λ ts. record { name = v.name.name; parts = ts } ∷ e.1) (types_stay v.types d.0 e.0 d.3 e.3)
      ∙ ap (λ z. record { name = v.name.name; parts = map (shape_at r) d.0 } ∷ z) (variants_stay vs d.1 e.1 d.4 e.4) ∙ ap (map (variant_at r)) (sym d.2)

  parameters_stay : (xs : List Parameter) (ts us : List Typ) → AreParameters P xs ts → AreParameters Q xs us → us ≡ map (shape_at r) ts
  parameters_stay [] ts us d e = e ∙ ap (map (shape_at r)) (sym d)
  parameters_stay (x ∷ xs) ts us d e =
      e.2 ∙ ap (λ z. z ∷ e.1) (type_stays x.typ d.0 e.0 d.3 e.3) ∙ ap (λ z. shape_at r d.0 ∷ z) (parameters_stay xs d.1 e.1 d.4 e.4) ∙ ap (map (shape_at r)) (sym d.2)

  result_stays : (y : Option TypeTree) (t u : Typ) → IsResult P y t → IsResult Q y u → u ≡ shape_at r t
  result_stays None t u d e = e ∙ ap (shape_at r) (sym d)
  result_stays (Some y) t u d e = type_stays y t u d e

  pub declared_stays : (i : ItemTree) (D E : Declared) → DeclaresAs P i D → DeclaresAs Q i E → E ≡ declared_at r D
  declared_stays (plain.rt_item s x) D E d e = e ∙ ap (declared_at r) (sym d)
  declared_stays (plain.struct_item s x) D E d e =
      e.1 ∙ ap (λ fs. struct_declared (derives_copy x.derives) (number (length x.lifetimes)) fs) (fields_stay x.fields d.0 e.0 d.2 e.2) ∙ ap (declared_at r) (sym d.1)
  declared_stays (plain.enum_item s x) D E d e =
      e.1 ∙ ap (λ vs. enum_declared (derives_copy x.derives) (number (length x.lifetimes)) vs) (variants_stay x.variants d.0 e.0 d.2 e.2) ∙ ap (declared_at r) (sym d.1)
  declared_stays (plain.function_item s f) D E d e =
      e.2 ∙ ap (λ ts. function_declared ts e.1) (parameters_stay f.params d.0 e.0 d.3 e.3)
      ∙ ap (λ t. function_declared (map (shape_at r) d.0) t) (result_stays f.result d.1 e.1 d.4 e.4) ∙ ap (declared_at r) (sym d.2)
