-- The types that an extraction writes out denote those of its plan, and so its new items declare what the plan tells. By induction on
-- types, params and exits.
use Rattle.std.proofs.Common.{◌≡◌, ℕ, zero, suc, ◌+◌, Bool, true, false, List, [], ◌∷◌, length, map, Option, Some, None, Ok, if◌then◌else◌, refl, sym, ap, ◌∙◌}
use Rattle.rx_core.specs.declared.types.Span.{Span}
use Rattle.rx_core.specs.declared.types.Kind.{Kind}
use Rattle.rx_tree.specs.Lists.{Every}
use Rattle.rx_tree.specs.Plain as plain
use Rattle.rx_tree.specs.Plain.{ItemTree, ProgramTree}
use Rattle.rx_resolve_names.specs.declared.resolved.ItemNames.{ItemNames}
use Rattle.rx_resolve_names.specs.Meant.{number, type_name, item_named, as_type, Around}
use Rattle.rx_resolve_names.specs.Items.{in_program}
use Rattle.rx_typed.specs.Types as types
use Rattle.rx_typed.specs.Types.{Typ, Shape, Shapes, integer, boolean, tuple_of, reference, no_shape, shape_and, shapes_of, shapes_listed, Declared, enum_declared}
use Rattle.rx_hoist_naming.specs.Words.{NamesTypes, NameTypes}
use Rattle.rx_hoist_extraction.specs.Run.{Parts}
use Rattle.rx_hoist_extraction.specs.Plan.{Leaving, Mode, by_value, by_reborrow, by_view, by_shared, by_mut, Param, Bounds, Plan, has_enum, enum_name}
use Rattle.rx_hoist_extraction.specs.Values.{next_values, types_of}
use Rattle.rx_hoist_extraction.specs.Fresh.{fresh_lifetime}
use Rattle.rx_hoist_extraction.specs.Made.{ident}
use Rattle.rx_hoist_extraction.specs.WrittenTypes.{name_of, positions, positions_of, lifetimes_from, full, all_full, each_full}
use Rattle.rx_hoist_extraction.specs.NewEnum.{fields_at, enum_positions, variants, new_enum}
use Rattle.rx_hoist_extraction.specs.NewFunction.{passed, passed_types, new_parameters, joined_type, full_if_any, enum_type, new_result, parameter_positions, new_function}
use Rattle.rx_engine_names.specs.NewPlan.{TypesNamed}
use Rattle.rx_engine_names.proofs.KeptItems.{Keeps, itself, keeps_itself, known_some}
use Rattle.rx_engine_names.proofs.FoundTypes.{type_finds}
use Rattle.rx_engine_names.proofs.NewItems.{next_named, fields_named}
use Rattle.rx_engine_blocks.specs.Renumbering.{Renumbering, shape_at, shapes_at}
use Rattle.rx_engine_declared.specs.Denoting.{Denotes, DenoteEach}
use Rattle.rx_engine_declared.specs.Declaring.{AreVariants, AreParameters, IsResult, DeclaresAs}
use Rattle.rx_engine_declared.specs.NewItems.{or_unit, result_type, declared_function, declared_exit, declared_enum}
use Rattle.rx_engine_declared.proofs.Comparing.{name_stays, declared_stays}

-- ---- what a text declares is one thing

as_it_is : Renumbering
as_it_is = record { nodes = itself; variables = itself; items = itself }

pub one_declared : (Q : ProgramTree) (i : ItemTree) (D E : Declared) → DeclaresAs Q i D → DeclaresAs Q i E → E ≡ D
unfolding as_it_is
one_declared Q i D E d e = declared_stays as_it_is Q Q (keeps_itself Q) i D E d e ∙ sym (declared_stays as_it_is Q Q (keeps_itself Q) i D D d d)

-- ---- types that are written out

pub counted : (s : Span) (fresh : ℕ → List ℕ) (n many : ℕ) → length (lifetimes_from s fresh n many) ≡ many
counted s fresh n zero = refl
counted s fresh n (suc many) = ap suc (counted s fresh (suc n) many)

-- what is passed names what the variable's type does
pub passed_named : (P : ProgramTree) (m : Mode) (t : Typ) → NamesTypes P t → NamesTypes P (passed m t)
passed_named P by_value t h = h
passed_named P by_reborrow t h = h
passed_named P by_view (integer k) h = h
passed_named P by_view boolean h = h
passed_named P by_view (tuple_of ts) h = h
passed_named P by_view (reference m t) h = h
passed_named P by_view (types.named i) h = h
passed_named P by_shared t h = h
passed_named P by_mut t h = h

each_named : (P : ProgramTree) (ts : List Typ) → Every (λ (t : Typ). NamesTypes P t) ts → NameTypes P (shapes_of ts)
each_named P [] h = tt
each_named P (t ∷ ts) h = (h.0, each_named P ts h.1)

pub joined_named : (P : ProgramTree) (ts : List Typ) → Every (λ (t : Typ). NamesTypes P t) ts → NamesTypes P (or_unit (joined_type ts))
joined_named P [] h = tt
joined_named P (t ∷ []) h = h.0
joined_named P (t ∷ u ∷ ts) h = each_named P (t ∷ u ∷ ts) h

module _ (r : Renumbering) (P Q : ProgramTree) (k : Keeps r.items P Q) (ts : List ItemNames) (whole : in_program P ≡ Ok ts) where
  listed : (us : Shapes Kind) → shapes_at r us ≡ shapes_of (map (shape_at r) (shapes_listed us))
  listed no_shape = refl
  listed (shape_and t us) = ap (λ z. shape_and (shape_at r t) z) (listed us)

  mutual
    full_denotes : (s : Span) (fresh : ℕ → List ℕ) (n : ℕ) (t : Shape Kind) → NamesTypes P t → Denotes Q (full P s fresh n t) (shape_at r t)
    full_denotes s fresh n (integer z) h = refl
    full_denotes s fresh n boolean h = refl
    full_denotes s fresh n (tuple_of us) h = (map (shape_at r) (shapes_listed us), ap (λ z. tuple_of z) (listed us), all_denote s fresh n us h)
    full_denotes s fresh n (reference m t) h = (shape_at r t, refl, full_denotes s fresh (suc n) t h)
    full_denotes s fresh n (types.named i) h =
        let x = ident s (name_of P i) in
        (r.items i, refl, name_stays r P Q k x i (known_some (as_type (item_named type_name 0 P x.name)) x.span i (type_finds P ts whole 0 [] (types.named i) h s)))

    all_denote : (s : Span) (fresh : ℕ → List ℕ) (n : ℕ) (us : Shapes Kind) → NameTypes P us → DenoteEach Q (all_full P s fresh n us) (map (shape_at r) (shapes_listed us))
    all_denote s fresh n no_shape h = refl
    all_denote s fresh n (shape_and t us) h =
        (shape_at r t, map (shape_at r) (shapes_listed us), refl, full_denotes s fresh n t h.0, all_denote s fresh (n + positions P t) us h.1)

  each_denotes : (s : Span) (fresh : ℕ → List ℕ) (n : ℕ) (us : List Typ) → Every (λ (t : Typ). NamesTypes P t) us → DenoteEach Q (each_full P s fresh n us) (map (shape_at r) us)
  each_denotes s fresh n [] h = refl
  each_denotes s fresh n (t ∷ us) h = (shape_at r t, map (shape_at r) us, refl, full_denotes s fresh n t h.0, each_denotes s fresh (n + positions P t) us h.1)

  module _ (pl : Plan) (s : Span) (N : TypesNamed P pl) where
    parameters_are : (n : ℕ) (xs : List Param) → Every (λ (x : Param). NamesTypes P x.variable.typ) xs → AreParameters Q (new_parameters P pl s n xs) (map (shape_at r) (passed_types xs))
    parameters_are n [] h = refl
    parameters_are n (x ∷ xs) h =
        let t = passed x.mode x.variable.typ in (
          shape_at r t,
          map (shape_at r) (passed_types xs),
          refl,
          full_denotes s (fresh_lifetime pl.lifetimes) n t (passed_named P x.mode x.variable.typ h.0),
          parameters_are (n + positions P t) xs h.1,
        )

    variants_are : (n : ℕ) (xs : List Leaving) → Every (λ (x : Leaving). Every (λ (t : Typ). NamesTypes P t) (fields_at pl x)) xs → AreVariants Q (variants P pl s n xs) (map (declared_exit r pl) xs)
    variants_are n [] h = refl
    variants_are n (x ∷ xs) h = (
      map (shape_at r) (fields_at pl x),
      map (declared_exit r pl) xs,
      refl,
      each_denotes s (fresh_lifetime pl.lifetimes) n (fields_at pl x) h.0,
      variants_are (n + positions_of P (fields_at pl x)) xs h.1,
    )

    pub enum_is : DeclaresAs Q (plain.enum_item s (new_enum P pl s)) (declared_enum r P pl)
    enum_is = (
      map (declared_exit r pl) pl.exits,
      ap (λ n. enum_declared false (number n) (map (declared_exit r pl) pl.exits)) (sym (counted s (fresh_lifetime pl.lifetimes) 0 (enum_positions P pl))),
      variants_are 0 pl.exits (fields_named P pl N pl.exits N.outs),
    )

    result_is : (enum : ℕ) → (has_enum pl.exits ≡ true → as_type (item_named type_name 0 Q (enum_name pl)) ≡ Some enum) → (n : ℕ) → IsResult Q (new_result P pl s n) (result_type r enum pl)
    result_is enum found n = by (has_enum pl.exits) refl
      where
        joined : (o : Option Typ) → NamesTypes P (or_unit o) → IsResult Q (full_if_any P pl s n o) (shape_at r (or_unit o))
        joined None h = refl
        joined (Some t) h = full_denotes s (fresh_lifetime pl.lifetimes) n t h

        by : (b : Bool) → has_enum pl.exits ≡ b
            → IsResult Q (if b then Some (enum_type P pl s n) else full_if_any P pl s n (joined_type (types_of (next_values pl)))) (if b then types.named enum else shape_at r (or_unit (joined_type (types_of (next_values pl)))))
        by true e = (enum, refl, found e)
        by false e = joined (joined_type (types_of (next_values pl))) (joined_named P (types_of (next_values pl)) (next_named P pl N))

    pub function_is : (enum : ℕ) → (has_enum pl.exits ≡ true → as_type (item_named type_name 0 Q (enum_name pl)) ≡ Some enum) → (bs : Bounds) (ls : List Around) (p : Parts)
        → DeclaresAs Q (plain.function_item s (new_function P pl bs s ls p)) (declared_function r enum pl)
    function_is enum found bs ls p =
        (map (shape_at r) (passed_types pl.params), result_type r enum pl, refl, parameters_are 0 pl.params N.params, result_is enum found (parameter_positions P pl))
