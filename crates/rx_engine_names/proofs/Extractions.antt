-- An extraction as a whole: the names of the new items are found, so what is asked of the text speaks of its own names alone.
use Rattle.std.proofs.Common.{◌≡◌, ℕ, suc, Bool, true, false, List, [], ◌∷◌, Ok, refl, subst}
use Rattle.rx_core.specs.declared.types.Span.{Span}
use Rattle.rx_tree.specs.Lists.{nth, Every}
use Rattle.rx_tree.specs.Plain as plain
use Rattle.rx_tree.specs.Plain.{Function, ProgramTree}
use Rattle.rx_resolve_names.specs.Scopes.{Variables}
use Rattle.std.proofs.Common.{Some}
use Rattle.rx_resolve_names.specs.declared.resolved.ItemNames.{ItemNames}
use Rattle.rx_resolve_names.specs.Meant.{number, as_function, function_name, item_named, Around}
use Rattle.rx_resolve_names.specs.Steps.{Inside}
use Rattle.rx_resolve_names.specs.Names.{variant_in}
use Rattle.rx_resolve_names.specs.Items.{in_item}
use Rattle.rx_resolve_names.specs.Causes.{Meant}
use Rattle.rx_hoist_extraction.specs.Run.{run_parts, Run}
use Rattle.rx_hoist_extraction.specs.Plan.{enum_name, exit_name, has_enum, Bounds, Leaving, Plan}
use Rattle.rx_hoist_extraction.specs.Made.{ident}
use Rattle.rx_hoist_extraction.specs.Pinned.{pinned_function}
use Rattle.rx_hoist_extraction.specs.Extraction.{extraction, with_call}
use Rattle.rx_engine_names.specs.Insertion.{number_there, Inserted}
use Rattle.rx_engine_names.specs.NewNames.{AreFree}
use Rattle.rx_engine_names.specs.WrittenOut.{PinsName}
use Rattle.rx_engine_names.specs.Placed.{inside_of}
use Rattle.rx_engine_names.specs.HandedOut.{Handing}
use Rattle.rx_engine_names.specs.HandsOver.{HandsOut}
use Rattle.rx_engine_names.specs.CalledRuns.{RunStands, TextSays, TextSaysLast}
use Rattle.rx_engine_names.specs.Extractions.{goes_to_end, handing_there, moves_there, Called, CallNames, ExtractionAlike, NamesHandedOut, RunNames, RunSays}
use Rattle.rx_engine_names.proofs.KeptItems.{inserted_keeps, keeps_itself}
use Rattle.rx_engine_names.proofs.KeptPrograms.{same_function}
use Rattle.rx_engine_names.proofs.ExtractionItems.{extraction_inserted, extraction_resolves, numbers_there}
use Rattle.rx_engine_names.proofs.PinnedFunctions.{pinned_function_alike}
use Rattle.rx_engine_names.proofs.FoundFunctions.{new_function_found}
use Rattle.rx_engine_names.proofs.CalledFunctions.{called_last, called_within}
use Rattle.rx_engine_names.proofs.NewEnums.{every_exit_named}
use Rattle.rx_engine_names.proofs.NewItems.{new_function_alike}
use Rattle.rx_engine_names.proofs.NewPrograms.{enum_stands, new_items_resolve}
use Rattle.rx_engine_names.proofs.NoNewCycles.{no_new_cycle}

handed_out : (G : Handing) (I' : Inside) → as_function (item_named function_name 0 I'.program G.call.plan.name) ≡ Some G.call.number
    → (has_enum G.call.plan.exits ≡ true → Every (λ (x : Leaving). variant_in I' (ident G.call.place (enum_name G.call.plan)) (ident G.call.place (exit_name x.exit)) ≡ Ok (G.enum ∷ G.variant x.exit ∷ [])) G.call.plan.exits)
    → NamesHandedOut G → HandsOut G I'
handed_out G I' e v h = record {
  function = e;
  unnamed = h.unnamed;
  params = h.params;
  variants = v;
  exits = h.exits;
  values = h.values;
  received = h.received;
  redeclared = h.redeclared;
  fresh_exits = h.fresh_exits;
  fresh_values = h.fresh_values;
}

module _ (p : ProgramTree) (r : Run) (pl : Plan) (bs : Bounds) (s : Span) (f : Function) (there : nth p r.item ≡ Some (plain.function_item s f)) (free : AreFree p pl) (loops : List Around) (scope : Variables) where
  abbrev g : Function
  g = pinned_function p r.span pl.pins f

  abbrev q : ProgramTree
  q = extraction p r pl bs

  abbrev inserted : Inserted p q
  inserted = extraction_inserted p r pl bs s f there free

  abbrev I' : Inside
  I' = inside_of q r.item s g

  module _ (ts : List ItemNames) (m : Meant p ts) (run : RunNames p r pl g loops scope) (t : ItemNames) (comes : in_item p r.item (plain.function_item s f) ≡ Ok t) (pins : PinsName p pl.pins) (call : CallNames p r pl s g) where
    found : as_function (item_named function_name 0 q pl.name) ≡ Some (handing_there r pl g).call.number
    found = new_function_found p r pl bs s f there free

    variants : has_enum pl.exits ≡ true → Every (λ (x : Leaving). variant_in I' (ident r.span (enum_name pl)) (ident r.span (exit_name x.exit)) ≡ Ok ((handing_there r pl g).enum ∷ (handing_there r pl g).variant x.exit ∷ [])) pl.exits
    variants = every_exit_named p q (moves_there r pl loops scope) (λ h. enum_stands p r pl bs s f there free h) run.plan.exits_apart (λ x. refl) I' refl

    text_says : (b : Bool) → goes_to_end r g ≡ b → RunSays b p s g r pl → (u : ItemNames) → in_item p r.item (plain.function_item s g) ≡ Ok u → Called b p q inserted s g r pl u
    text_says false e says u k = called_within p q inserted ts m.names_are r.item r.item s g r pl (handing_there r pl g).call.number (handing_there r pl g).enum (handing_there r pl g).variant call.redeclared call.alone call.stands e says.0
        (λ sc around at t a b i free_name front chosen labels. handed_out _ I' found variants (says.1 sc around at t a b i free_name front chosen labels)) u k
    text_says true e says u k = called_last p q inserted ts m.names_are r.item r.item s g r pl (handing_there r pl g).call.number (handing_there r pl g).enum (handing_there r pl g).variant call.redeclared call.alone call.stands e
        (λ sc around at t a b i free_name front chosen path t' ends labels. handed_out _ I' found variants (says sc around at t a b i free_name front chosen path t' ends labels)) u k

    resolved : (b : Bool) (u : ItemNames) → Called b p q inserted s g r pl u → (v : ItemNames) × (in_item q r.item (plain.function_item s (with_call p r pl g)) ≡ Ok v)
    resolved false u h = (h.0, h.1)
    resolved true u h = (h.0, h.1)

    pub extraction_alike : ExtractionAlike p r pl bs inserted s f t loops scope run
    extraction_alike =
        let k = pinned_function_alike (λ k. k) p p (keeps_itself p) ts m.names_are r.span pl.pins pins r.item r.item s f t comes in
        let c = text_says (goes_to_end r g) refl call.says k.0 k.1 in
        let v = resolved (goes_to_end r g) k.0 c in
        let new = new_items_resolve p r pl bs s f there free loops scope run.round run.plan ts m.names_are run.item run.lifetimes run.at run.from run.before run.end run.resolves run.tail_at run.after run.ends run.names run.tail_names in
        let all = extraction_resolves p r pl bs s f there free ts m.names_are v.0 new.0 v.1 new.1 in
        record {
          names = all.0;
          meant = record { names_are = all.1; finite = no_new_cycle p r pl bs s f there free ts m.names_are run.plan.types m.finite };
          numbers = numbers_there p r pl bs s f there free;
          stays = same_function (number_there inserted) p q (inserted_keeps p q inserted);
          pinned = k.0;
          pinned_resolves = k.1;
          pinned_alike = k.2;
          called = c;
          made = new_function_alike p q inserted ts m.names_are pl bs r.span loops scope (suc r.item) (run_parts r g) run.plan (λ h. enum_stands p r pl bs s f there free h) (handing_there r pl g).call.number run.item run.lifetimes run.at run.from run.before run.end
              run.resolves run.tail_at run.after run.ends run.names run.tail_names;
        }
