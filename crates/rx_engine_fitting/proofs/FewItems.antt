-- A text has no more items than bytes, and an extraction no more than two more.
use Rattle.std.proofs.Common.{◌≡◌, ℕ, suc, ◌+◌, ◌≤◌, ◌<◌, Bool, true, false, if◌then◌else◌, List, [], ◌∷◌, ◌++◌, length, take, drop, Some, refl, ap, arith, length-append}
use Rattle.rx_core.specs.declared.types.Span.{Span}
use Rattle.rx_tree.specs.Lists.{nth}
use Rattle.rx_tree.specs.Plain as plain
use Rattle.rx_tree.specs.Plain.{Function, ItemTree, ProgramTree}
use Rattle.rx_parse_grammar.specs.grammar.Items.{Parses}
use Rattle.rx_hoist_extraction.specs.Run.{Run}
use Rattle.rx_hoist_extraction.specs.Plan.{Bounds, Plan, has_enum}
use Rattle.rx_hoist_extraction.specs.Pinned.{pinned_function}
use Rattle.rx_hoist_extraction.specs.Extraction.{extraction, in_two, made_enum, made_function, with_call}
use Rattle.rx_hoist_extraction.proofs.NewItemsAt.{items_are}
use Rattle.rx_engine_names.proofs.ExtractionItems.{parts_of}
use Rattle.rx_engine_extraction.proofs.FewItems.{item_below}

-- where the number of each item is below a bound, there are no more
items_below : (p : ProgramTree) (m k : ℕ) → ((n : ℕ) (i : ItemTree) → nth p n ≡ Some i → m + n < k) → m ≤ k → m + length p ≤ k
items_below [] m k h l = omega (arith, l)
items_below (i ∷ is) m k h l =
    let one : m + 0 < k = h 0 i refl in
    let rest = items_below is (suc m) k (λ n j e. let x : m + suc n < k = h (suc n) j e in omega (arith, x)) (omega (arith, one)) in
    omega (arith, rest)

pub text_items : (bytes : List ℕ) (p : ProgramTree) → Parses bytes p → length p ≤ length bytes
text_items bytes p q = let z = items_below p 0 (length bytes) (λ n i e. let x = item_below bytes p n i q e in omega (arith, x)) (omega arith) in omega (arith, z)

pub extraction_items : (P : ProgramTree) (r : Run) (pl : Plan) (bs : Bounds) (s : Span) (f : Function) → nth P r.item ≡ Some (plain.function_item s f) → length (extraction P r pl bs) ≤ length P + 2
extraction_items P r pl bs s f there =
    let g = pinned_function P r.span pl.pins f in
    let before = take r.item P in let behind = drop (suc r.item) P in
    let x = ap length (parts_of P r.item (plain.function_item s f) there).0 in
    let y = ap length (items_are P r pl bs s f there) in
    let a = length-append before (plain.function_item s f ∷ behind) in
    let b = length-append before (in_two P r pl bs s g ++ behind) in
    let d = length-append (in_two P r pl bs s g) behind in
    let z = few (has_enum pl.exits) in
    omega (arith, x, y, a, b, d, z)
  where
    few : (b : Bool) → length (plain.function_item s (with_call P r pl (pinned_function P r.span pl.pins f)) ∷ (if b then made_enum P r pl ∷ made_function P r pl bs (pinned_function P r.span pl.pins f) ∷ [] else made_function P r pl bs (pinned_function P r.span pl.pins f) ∷ [])) ≤ 3
    few true = omega arith
    few false = omega arith
