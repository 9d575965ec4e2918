-- What an extraction declares keeps what is asked of declarations: what is derived, the limits, the main function.
use Rattle.std.proofs.Common.{◌≡◌, ℕ, suc, ◌+◌, ◌<◌, nat_le, Bool, true, ◌&&◌, List, [], ◌∷◌, length, map, Option, Some, None, option_map, Ok, slice_get, inl, inr, ◌⊎◌, refl, sym, ap, ◌∙◌, subst, arith}
use Rattle.std.proofs.lemmas.Bool.{le-leb}
use Rattle.rx_core.specs.declared.types.Span.{Span}
use Rattle.rx_tree.specs.Lists.{nth}
use Rattle.rx_tree.specs.Plain as plain
use Rattle.rx_tree.specs.Plain.{Function, ItemTree, ProgramTree}
use Rattle.rx_tree.specs.Spans.{program_span}
use Rattle.rx_graph_cycles.specs.Reaches.{NoCycle}
use Rattle.rx_resolve_names.specs.declared.resolved.ItemNames.{ItemNames}
use Rattle.rx_resolve_names.specs.Items.{in_program}
use Rattle.rx_resolve_names.specs.Holding as text
use Rattle.rx_typed.specs.Types.{Declared, Declarations}
use Rattle.rx_typed.specs.PlainTypes.{declarations}
use Rattle.rx_typed.specs.declared.declarations.Decl.{Decl}
use Rattle.rx_typed_declarations.specs.Held.{held_by_each}
use Rattle.rx_typed_declarations.specs.Sizes.{declared_parts, Sized}
use Rattle.rx_typeck_typed.specs.Steps.{on_ok}
use Rattle.rx_typeck_typed.specs.Items.{declared_item, declared_items, entries_of}
use Rattle.rx_typeck_typed.specs.Limits.{item_fits, variants_fit}
use Rattle.rx_typeck_typed.specs.Programs.{holds_copies, may_derive, derived_at, derived, Fits, Declares}
use Rattle.rx_hoist_extraction.specs.Run.{Run}
use Rattle.rx_hoist_extraction.specs.Plan.{Bounds, Plan, has_enum}
use Rattle.rx_hoist_extraction.specs.Limits.{enum_parts}
use Rattle.rx_hoist_extraction.specs.Pinned.{pinned_function}
use Rattle.rx_hoist_extraction.specs.Extraction.{made_enum, made_function, added, new_number, extraction}
use Rattle.rx_engine_names.specs.NewNames.{AreFree}
use Rattle.rx_engine_names.specs.NewPlan.{TypesNamed}
use Rattle.rx_engine_names.specs.Insertion.{past}
use Rattle.rx_engine_names.proofs.ExtractionItems.{extraction_inserted}
use Rattle.rx_engine_blocks.specs.Renumbering.{Renumbering, declared_at}
use Rattle.rx_engine_declared.specs.NewItems.{declared_exit, declared_enum, declared_function}
use Rattle.rx_engine_declared.proofs.Reading.{read_ok, read_same}
use Rattle.rx_engine_declared.proofs.Sizes.{sized_before}
use Rattle.rx_engine_declared.proofs.Stands.{Tells, tells}
use Rattle.rx_engine_declared.proofs.Knowing.{items_stay}
use Rattle.rx_engine_declared.proofs.Extractions.{same_signature, function_declared_there, enum_declared_there}
use Rattle.rx_engine_kept.specs.EnumFits.{EnumFits}
use Rattle.rx_engine_kept.proofs.Places.{Origin, of_old, of_new, origin}
use Rattle.rx_engine_kept.proofs.SameHeld.{finite_by_text}
use Rattle.rx_engine_kept.proofs.SameLimits.{fit_each, each_fits, derive_each, each_derived, fits_stay, exits_parts, exits_low, holds_stay}
use Rattle.rx_engine_kept.proofs.Main.{main_there}
use Rattle.rx_engine_kept.proofs.AllDeclared.{one_item, numbers_are, stays_there, new_there}

-- as many as there are items
count_declared : (p : ProgramTree) (ns : List ItemNames) (n : ℕ) (is : ProgramTree) (ds : List Decl) → declared_items p ns n is ≡ Ok ds → length ds ≡ length is
count_declared p ns n [] ds e = ap length (sym (read_same [] ds e))
count_declared p ns n (i ∷ is) ds e =
    let a = read_ok (declared_item p (entries_of (slice_get ns n)) i) (λ d. on_ok (declared_items p ns (suc n) is) (λ ds. Ok (d ∷ ds))) ds e in
    let b = read_ok (declared_items p ns (suc n) is) (λ ds. Ok (a.0 ∷ ds)) ds a.2 in
    ap length (sym (read_same (a.0 ∷ b.0) ds b.2)) ∙ ap suc (count_declared p ns (suc n) is b.0 b.1)

count_plain : (ds : List Decl) → length (declarations ds) ≡ length ds
count_plain [] = refl
count_plain (d ∷ ds) = ap suc (count_plain ds)

-- what may be derived is told by what is held
derived_same : (D E : Declarations) (o u : Option Declared) (i : ItemTree) → holds_copies E u ≡ holds_copies D o → derived E u i ≡ derived D o i
derived_same D E o u (plain.rt_item s r) h = refl
derived_same D E o u (plain.struct_item s d) h = ap (λ (b : Bool). derived_at d.name.span (may_derive d.derives b)) h
derived_same D E o u (plain.enum_item s d) h = ap (λ (b : Bool). derived_at d.name.span (may_derive d.derives b)) h
derived_same D E o u (plain.function_item s f) h = refl

module _ (P : ProgramTree) (r : Run) (pl : Plan) (bs : Bounds) (s : Span) (f : Function) (there : nth P r.item ≡ Some (plain.function_item s f)) (free : AreFree P pl) (N : TypesNamed P pl)
    (ns ms : List ItemNames) (n : in_program P ≡ Ok ns) (m : in_program (extraction P r pl bs) ≡ Ok ms) (ds es : List Decl) (d : Declares P ns ds) (e : declared_items (extraction P r pl bs) ms 0 (extraction P r pl bs) ≡ Ok es) where
  abbrev Q : ProgramTree
  Q = extraction P r pl bs

  abbrev D : Declarations
  D = declarations ds

  abbrev E : Declarations
  E = declarations es

  abbrev ren : Renumbering
  ren = record { nodes = λ k. k; variables = λ k. k; items = past r.item (added pl) }

  stays : (i : ℕ) → slice_get E (past r.item (added pl) i) ≡ option_map (declared_at ren) (slice_get D i)
  stays = subst (λ (h : ℕ → ℕ). (i : ℕ) → slice_get E (h i) ≡ option_map (declared_at (record { nodes = λ k. k; variables = λ k. k; items = h })) (slice_get D i))
      (numbers_are P r pl bs s f there free N ns ms n m ds d.items)
      (items_stay P Q (extraction_inserted P r pl bs s f there free) (same_signature P r pl bs s f there free) (λ k. k) (λ k. k) ns ms ds es n m d.items e)

  -- ---- what is derived

  old_derived : (i : ℕ) (it : ItemTree) → slice_get Q (past r.item (added pl) i) ≡ Some it → derived E (slice_get E (past r.item (added pl) i)) it ≡ Ok tt
  old_derived i it at = by (stays_there P r pl bs s f there free N ns ms n m ds d.items i)
    where
      by : (slice_get Q (past r.item (added pl) i) ≡ slice_get P i) ⊎ ((slice_get P i ≡ Some (plain.function_item (extraction_inserted P r pl bs s f there free).place (extraction_inserted P r pl bs s f there free).old))
          × (slice_get Q (past r.item (added pl) i) ≡ Some (plain.function_item (extraction_inserted P r pl bs s f there free).place (extraction_inserted P r pl bs s f there free).changed)))
          → derived E (slice_get E (past r.item (added pl) i)) it ≡ Ok tt
      by (inl h) =
          let here : 0 + i ≡ i = omega arith in
          derived_same D E (slice_get D i) (slice_get E (past r.item (added pl) i)) it (ap (holds_copies E) (stays i) ∙ holds_stay ren D E stays (slice_get D i))
          ∙ subst (λ (k : ℕ). derived D (slice_get D k) it ≡ Ok tt) here (each_derived D 0 P d.fits.derived_well i it (sym h ∙ at))
      by (inr h) = subst (λ (z : ItemTree). derived E (slice_get E (past r.item (added pl) i)) z ≡ Ok tt) (one_item _ it (sym h.1 ∙ at)) refl

  derived_there : (j : ℕ) → Origin r.item (added pl) j → (it : ItemTree) → slice_get Q j ≡ Some it → derived E (slice_get E j) it ≡ Ok tt
  derived_there j (of_old i) it at = old_derived i it at
  derived_there j (of_new i l) it at = by (new_there P r pl bs s f there free N ns ms n m ds d.items i l)
    where
      by : ((has_enum pl.exits ≡ true) × (slice_get Q (suc (r.item + i)) ≡ Some (made_enum P r pl)) × (suc (r.item + i) ≡ suc r.item))
          ⊎ ((slice_get Q (suc (r.item + i)) ≡ Some (made_function P r pl bs (pinned_function P r.span pl.pins f))) × (suc (r.item + i) ≡ new_number r pl)) → derived E (slice_get E (suc (r.item + i))) it ≡ Ok tt
      by (inl h) = subst (λ (z : ItemTree). derived E (slice_get E (suc (r.item + i))) z ≡ Ok tt) (one_item (made_enum P r pl) it (sym h.1 ∙ at)) refl
      by (inr h) = subst (λ (z : ItemTree). derived E (slice_get E (suc (r.item + i))) z ≡ Ok tt) (one_item (made_function P r pl bs (pinned_function P r.span pl.pins f)) it (sym h.0 ∙ at)) refl

  -- ---- limits

  module _ (apart : NoCycle (held_by_each D)) (fits : EnumFits D pl) (W : ℕ → ℕ) (z : Sized E W) where
    abbrev before : ℕ → ℕ
    before i = W (past r.item (added pl) i)

    sized : Sized D before
    sized = sized_before ren W D E stays z

    -- an item of the program
    old_fits : (i : ℕ) → item_fits (before i) (slice_get D i) ≡ true
    old_fits i = by (slice_get P i) refl (tells P ns ds n d.items i)
      where
        by : (o : Option ItemTree) → slice_get P i ≡ o → Tells P o (slice_get D i) → item_fits (before i) (slice_get D i) ≡ true
        by None is t = ap (item_fits (before i)) t
        by (Some it) is t =
            let here : 0 + i ≡ i = omega arith in
            subst (λ (k : ℕ). item_fits (before k) (slice_get D k) ≡ true) here
            (each_fits before D 0 P (sym (d.fits.limited.each apart before sized)) i it is)

    enum_parts_there : (k : ℕ) → slice_get E k ≡ Some (declared_enum ren P pl) → W k ≡ enum_parts before pl
    enum_parts_there k at = z k ∙ ap (declared_parts W) at ∙ ap suc (exits_parts ren W pl pl.exits)

    enum_item_fits : (k : ℕ) → has_enum pl.exits ≡ true → slice_get E k ≡ Some (declared_enum ren P pl) → item_fits (W k) (slice_get E k) ≡ true
    enum_item_fits k h at =
        let x = fits h in
        ap (item_fits (W k)) at
        ∙ ap (λ (w : ℕ). nat_le w 4096 && variants_fit (map (declared_exit ren pl) pl.exits)) (enum_parts_there k at)
        ∙ ap (λ (b : Bool). b && variants_fit (map (declared_exit ren pl) pl.exits)) (le-leb (enum_parts before pl) 4096 (x.0 before sized))
        ∙ exits_low ren pl pl.exits x.1

    function_item_fits : (k : ℕ) → slice_get E k ≡ Some (declared_function ren (suc r.item) pl) → item_fits (W k) (slice_get E k) ≡ true
    function_item_fits k at = ap (item_fits (W k)) at ∙ ap (λ (w : ℕ). nat_le w 4096 && true) (z k ∙ ap (declared_parts W) at)

    each_there : (j : ℕ) → Origin r.item (added pl) j → item_fits (W j) (slice_get E j) ≡ true
    each_there j (of_old i) = ap (item_fits (before i)) (stays i) ∙ fits_stay ren (before i) (slice_get D i) ∙ old_fits i
    each_there j (of_new i l) = by (new_there P r pl bs s f there free N ns ms n m ds d.items i l)
      where
        by : ((has_enum pl.exits ≡ true) × (slice_get Q (suc (r.item + i)) ≡ Some (made_enum P r pl)) × (suc (r.item + i) ≡ suc r.item))
            ⊎ ((slice_get Q (suc (r.item + i)) ≡ Some (made_function P r pl bs (pinned_function P r.span pl.pins f))) × (suc (r.item + i) ≡ new_number r pl)) → item_fits (W (suc (r.item + i))) (slice_get E (suc (r.item + i))) ≡ true
        by (inl h) = enum_item_fits (suc (r.item + i)) h.0 (ap (slice_get E) h.2 ∙ enum_declared_there P r pl bs s f there free (λ k. k) (λ k. k) N ns ms es n m e h.0)
        by (inr h) = function_item_fits (suc (r.item + i)) (ap (slice_get E) h.1 ∙ function_declared_there P r pl bs s f there free (λ k. k) (λ k. k) N ns ms es n m e)

  pub extraction_fits : NoCycle (held_by_each D) → length Q < 4294967296 → NoCycle (text.held_in_tree Q) → EnumFits D pl → Fits Q E
  extraction_fits apart small none fits =
      let finite = finite_by_text Q ms es m e none in
      let many : length E ≡ length Q = count_plain es ∙ count_declared Q ms 0 Q es e in
      record {
        numbered = subst (λ (k : ℕ). k < 4294967296) (sym many) small;
        derived_well = derive_each E 0 Q (λ j it at. let here : j ≡ 0 + j = omega arith in subst (λ (k : ℕ). derived E (slice_get E k) it ≡ Ok tt) here (derived_there j (origin r.item (added pl) j) it at));
        limited = record {
          endless = λ k first. absurd (finite k first.0);
          each = λ _ W z. sym (fit_each W E 0 Q (λ j. each_there apart fits W z j (origin r.item (added pl) j)));
        };
        has_main = main_there P r pl bs s f there free (program_span P) (program_span Q) d.fits.has_main;
      }
