-- What an extraction declares: what the program does, by other numbers of items, and its new items.
use Rattle.std.proofs.Common.{◌≡◌, ℕ, zero, suc, true, List, [], ◌∷◌, Option, Some, Ok, slice_get, refl, sym, ap, ◌∙◌, subst}
use Rattle.rx_core.specs.declared.types.Span.{Span}
use Rattle.rx_tree.specs.Lists.{nth}
use Rattle.rx_tree.specs.Plain as plain
use Rattle.rx_tree.specs.Plain.{Function, ItemTree, ProgramTree}
use Rattle.rx_resolve_names.specs.declared.resolved.ItemNames.{ItemNames}
use Rattle.rx_resolve_names.specs.Items.{in_program}
use Rattle.rx_resolve_names.specs.Meant.{type_name, item_named, as_type}
use Rattle.rx_typed.specs.Types.{Declared}
use Rattle.rx_typed.specs.PlainTypes.{declarations}
use Rattle.rx_typed.specs.declared.declarations.Decl.{Decl}
use Rattle.rx_typed_declarations.specs.Sizes.{Sized, IsSizes}
use Rattle.rx_typeck_solver.specs.Stepping.{known}
use Rattle.rx_typeck_typed.specs.Items.{declared_items}
use Rattle.rx_hoist_extraction.specs.Run.{Run, run_parts, loops_round}
use Rattle.rx_hoist_extraction.specs.Plan.{Bounds, Plan, has_enum, enum_name}
use Rattle.rx_hoist_extraction.specs.Pinned.{pinned_function}
use Rattle.rx_hoist_extraction.specs.Extraction.{made_enum, made_function, added, new_number, extraction}
use Rattle.rx_hoist_extraction.proofs.NewItemsAt.{new_function_at, new_enum_at}
use Rattle.rx_engine_names.specs.NewNames.{AreFree}
use Rattle.rx_engine_names.specs.NewPlan.{TypesNamed}
use Rattle.rx_engine_names.specs.Insertion.{Inserted, past, number_there}
use Rattle.rx_engine_names.proofs.KeptItems.{Keeps, inserted_keeps}
use Rattle.rx_engine_names.proofs.ExtractionItems.{extraction_inserted, function_inserted, numbers_there}
use Rattle.rx_engine_names.proofs.NewPrograms.{enum_stands}
use Rattle.rx_engine_blocks.specs.Renumbering.{Renumbering}
use Rattle.rx_engine_blocks.specs.Knows.{Knows}
use Rattle.rx_engine_declared.specs.Declaring.{DeclaresAs, SameSignature}
use Rattle.rx_engine_declared.specs.NewItems.{declared_function, declared_enum}
use Rattle.rx_engine_declared.proofs.Stands.{Tells, tells}
use Rattle.rx_engine_declared.proofs.Knowing.{all_known}
use Rattle.rx_engine_declared.proofs.MadeItems.{one_declared, enum_is, function_is}

pub got : {A : Type 0} (xs : List A) (n : ℕ) → slice_get xs n ≡ nth xs n
got [] n = refl
got (x ∷ xs) zero = refl
got (x ∷ xs) (suc n) = got xs n

module _ (P : ProgramTree) (r : Run) (pl : Plan) (bs : Bounds) (s : Span) (f : Function) (there : nth P r.item ≡ Some (plain.function_item s f)) (free : AreFree P pl) where
  abbrev Q : ProgramTree
  Q = extraction P r pl bs

  abbrev c : Inserted P Q
  c = extraction_inserted P r pl bs s f there free

  abbrev g : Function
  g = pinned_function P r.span pl.pins f

  pub same_signature : SameSignature c.old c.changed
  same_signature =
      let x = function_inserted P r pl bs s f there free in
      record {
        params = ap (λ (h : Function). h.params) x.1 ∙ ap (λ (h : Function). h.params) (sym x.0);
        result = ap (λ (h : Function). h.result) x.1 ∙ ap (λ (h : Function). h.result) (sym x.0);
      }

  numbers : number_there c ≡ past r.item (added pl)
  numbers = λ i n. numbers_there P r pl bs s f there free n i

  keeps : Keeps (past r.item (added pl)) P Q
  keeps = subst (λ (h : ℕ → ℕ). Keeps h P Q) numbers (inserted_keeps P Q c)

  module _ (nodes variables : ℕ → ℕ) where
    abbrev ren : Renumbering
    ren = record { nodes = nodes; variables = variables; items = past r.item (added pl) }

    pub extraction_known : (ns ms : List ItemNames) (ds es : List Decl) → in_program P ≡ Ok ns → in_program Q ≡ Ok ms → declared_items P ns 0 P ≡ Ok ds → declared_items Q ms 0 Q ≡ Ok es
        → (W : ℕ → ℕ) → Sized (declarations es) W → (sizes sizes' : List ℕ) → IsSizes (declarations ds) sizes → IsSizes (declarations es) sizes' → Knows ren (known ds sizes) (known es sizes')
    extraction_known ns ms ds es n m d e W z sizes sizes' t t' =
        subst (λ (h : ℕ → ℕ). Knows (record { nodes = nodes; variables = variables; items = h }) (known ds sizes) (known es sizes')) numbers
        (all_known P Q c same_signature nodes variables ns ms ds es n m d e W z sizes sizes' t t')

    -- an item that stands there declares what its text does
    declares : (ms : List ItemNames) (es : List Decl) → in_program Q ≡ Ok ms → declared_items Q ms 0 Q ≡ Ok es → (j : ℕ) (i : ItemTree) → nth Q j ≡ Some i → (D : Declared) → DeclaresAs Q i D → slice_get (declarations es) j ≡ Some D
    declares ms es m e j i at D d =
        let x = subst (λ (o : Option ItemTree). Tells Q o (slice_get (declarations es) j)) (got Q j ∙ at) (tells Q ms es m e j) in
        x.1 ∙ ap (λ (z : Declared). Some z) (one_declared Q i D x.0 d x.2)

    module _ (N : TypesNamed P pl) (ns ms : List ItemNames) (es : List Decl) (n : in_program P ≡ Ok ns) (m : in_program Q ≡ Ok ms) (e : declared_items Q ms 0 Q ≡ Ok es) where
      found : has_enum pl.exits ≡ true → as_type (item_named type_name 0 Q (enum_name pl)) ≡ Some (suc r.item)
      found h = ap as_type (enum_stands P r pl bs s f there free h)

      pub function_declared_there : slice_get (declarations es) (new_number r pl) ≡ Some (declared_function ren (suc r.item) pl)
      function_declared_there =
          declares ms es m e (new_number r pl) (made_function P r pl bs g) (new_function_at P r pl bs s f there) (declared_function ren (suc r.item) pl)
          (function_is ren P Q keeps ns n pl r.span N (suc r.item) found bs (loops_round r g) (run_parts r g))

      pub enum_declared_there : has_enum pl.exits ≡ true → slice_get (declarations es) (suc r.item) ≡ Some (declared_enum ren P pl)
      enum_declared_there h =
          declares ms es m e (suc r.item) (made_enum P r pl) (new_enum_at P r pl bs s f there h) (declared_enum ren P pl)
          (enum_is ren P Q keeps ns n pl r.span N)
