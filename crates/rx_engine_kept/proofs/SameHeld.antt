-- What declarations hold is what the items hold by their text, so where no item reaches itself by its text none does by what it declares.
use Rattle.std.proofs.Common.{◌≡◌, ℕ, zero, suc, List, [], ◌∷◌, ◌++◌, Option, Some, None, Ok, slice_get, refl, sym, ap, ◌∙◌, subst, append_assoc}
use Rattle.rx_tree.specs.Plain as plain
use Rattle.rx_tree.specs.Plain.{TypeTree, TypeTrees, FieldOf, VariantOf, ItemTree, ProgramTree}
use Rattle.rx_graph_cycles.specs.Reaches.{targets, IsIn, NoCycle}
use Rattle.rx_resolve_names.specs.declared.resolved.ItemNames.{ItemNames}
use Rattle.rx_resolve_names.specs.Items.{in_program}
use Rattle.rx_resolve_names.specs.Holding as text
use Rattle.rx_resolve_names.specs.Holding.{if_found, held_in, held_among, held_by_fields, held_by_variants}
use Rattle.rx_typed.specs.Types.{Typ, shapes_of, FieldDeclared, VariantDeclared, Declared, Declarations}
use Rattle.rx_typed.specs.PlainTypes.{declarations}
use Rattle.rx_typed.specs.declared.declarations.Decl.{Decl}
use Rattle.rx_typed_declarations.specs.Held.{named_in, named_among, field_types, variant_types, held_by, held_by_each}
use Rattle.rx_typeck_typed.specs.Items.{declared_items}
use Rattle.rx_engine_names.proofs.NoCycles.{to_target, no_cycle_before}
use Rattle.rx_engine_declared.specs.Denoting.{Denotes, DenoteEach}
use Rattle.rx_engine_declared.specs.Declaring.{AreFields, AreVariants, DeclaresAs}
use Rattle.rx_engine_declared.proofs.Stands.{Tells, tells}
use Rattle.rx_engine_declared.proofs.Extractions.{got}

-- the names in types one behind others
named_both : (ts us : List Typ) → named_among (shapes_of (ts ++ us)) ≡ named_among (shapes_of ts) ++ named_among (shapes_of us)
named_both [] us = refl
named_both (t ∷ ts) us = ap (λ (z : List ℕ). named_in t ++ z) (named_both ts us) ∙ sym (append_assoc (named_in t) (named_among (shapes_of ts)) (named_among (shapes_of us)))

module _ (Q : ProgramTree) where
  mutual
    type_holds : (y : TypeTree) (t : Typ) → Denotes Q y t → named_in t ≡ held_in Q y
    type_holds (plain.kind_type s k) t d = ap named_in d
    type_holds (plain.bool_type s) t d = ap named_in d
    type_holds (plain.tuple_type s ys) t d = ap named_in d.1 ∙ types_hold ys d.0 d.2
    type_holds (plain.ref_type s l m y) t d = ap named_in d.1 ∙ type_holds y d.0 d.2
    type_holds (plain.named_type s x ls) t d = ap named_in d.1 ∙ ap if_found (sym d.2)

    types_hold : (ys : TypeTrees) (ts : List Typ) → DenoteEach Q ys ts → named_among (shapes_of ts) ≡ held_among Q ys
    types_hold plain.no_type ts d = ap (λ (z : List Typ). named_among (shapes_of z)) d
    types_hold (plain.type_and y ys) ts d =
        ap (λ (z : List Typ). named_among (shapes_of z)) d.2
        ∙ ap (λ (z : List ℕ). z ++ named_among (shapes_of d.1)) (type_holds y d.0 d.3) ∙ ap (λ (z : List ℕ). held_in Q y ++ z) (types_hold ys d.1 d.4)

  fields_hold : (fs : List FieldOf) (ds : List FieldDeclared) → AreFields Q fs ds → named_among (shapes_of (field_types ds)) ≡ held_by_fields Q fs
  fields_hold [] ds d = ap (λ (z : List FieldDeclared). named_among (shapes_of (field_types z))) d
  fields_hold (f ∷ fs) ds d =
      ap (λ (z : List FieldDeclared). named_among (shapes_of (field_types z))) d.2
      ∙ ap (λ (z : List ℕ). z ++ named_among (shapes_of (field_types d.1))) (type_holds f.typ d.0 d.3) ∙ ap (λ (z : List ℕ). held_in Q f.typ ++ z) (fields_hold fs d.1 d.4)

  variants_hold : (vs : List VariantOf) (ds : List VariantDeclared) → AreVariants Q vs ds → named_among (shapes_of (variant_types ds)) ≡ held_by_variants Q vs
  variants_hold [] ds d = ap (λ (z : List VariantDeclared). named_among (shapes_of (variant_types z))) d
  variants_hold (v ∷ vs) ds d =
      ap (λ (z : List VariantDeclared). named_among (shapes_of (variant_types z))) d.2 ∙ named_both d.0 (variant_types d.1)
      ∙ ap (λ (z : List ℕ). z ++ named_among (shapes_of (variant_types d.1))) (types_hold v.types d.0 d.3) ∙ ap (λ (z : List ℕ). held_among Q v.types ++ z) (variants_hold vs d.1 d.4)

  item_holds : (i : ItemTree) (D : Declared) → DeclaresAs Q i D → held_by D ≡ text.held_by Q i
  item_holds (plain.rt_item s r) D d = ap held_by d
  item_holds (plain.struct_item s x) D d = ap held_by d.1 ∙ fields_hold x.fields d.0 d.2
  item_holds (plain.enum_item s x) D d = ap held_by d.1 ∙ variants_hold x.variants d.0 d.2
  item_holds (plain.function_item s f) D d = ap held_by d.2

-- what an edge leads from
edge_from : (D : Declarations) (n j : ℕ) → IsIn (targets (held_by_each D) n) j → (d : Declared) × (slice_get D n ≡ Some d) × IsIn (held_by d) j
edge_from [] n j h = absurd h
edge_from (d ∷ ds) zero j h = (d, refl, h)
edge_from (d ∷ ds) (suc n) j h = edge_from ds n j h

pub finite_by_text : (Q : ProgramTree) (ms : List ItemNames) (es : List Decl) → in_program Q ≡ Ok ms → declared_items Q ms 0 Q ≡ Ok es → NoCycle (text.held_in_tree Q) → NoCycle (held_by_each (declarations es))
finite_by_text Q ms es m e none = no_cycle_before (λ (n : ℕ). n) (text.held_in_tree Q) (held_by_each (declarations es)) (λ n j h. (j, refl, λ i same. subst (λ (z : ℕ). IsIn (targets (text.held_in_tree Q) z) j) same (edge n j h))) none
  where
    edge : (n j : ℕ) → IsIn (targets (held_by_each (declarations es)) n) j → IsIn (targets (text.held_in_tree Q) n) j
    edge n j h = let a = edge_from (declarations es) n j h in by n j a.0 a.1 a.2 (slice_get Q n) refl (tells Q ms es m e n)
      where
        by : (n j : ℕ) (d : Declared) → slice_get (declarations es) n ≡ Some d → IsIn (held_by d) j → (o : Option ItemTree) → slice_get Q n ≡ o → Tells Q o (slice_get (declarations es) n) → IsIn (targets (text.held_in_tree Q) n) j
        by n j d at h None is t = absurd (let bad = sym at ∙ t in cc)
        by n j d at h (Some i) is t =
            let same : t.0 ≡ d = one t.0 d (sym t.1 ∙ at) in
            to_target (text.held_by Q) Q n j i (sym (got Q n) ∙ is) (subst (λ (z : List ℕ). IsIn z j) (item_holds Q i t.0 t.2) (subst (λ (z : Declared). IsIn (held_by z) j) (sym same) h))
          where
            one : (x y : Declared) → ◌≡◌ {A = Option Declared} (Some x) (Some y) → x ≡ y
            one x y e = cc
