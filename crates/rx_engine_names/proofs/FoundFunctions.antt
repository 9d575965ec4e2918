-- The new function is found by its name in the extraction, where no function of the program has it: the items in front have others.
use Rattle.std.proofs.Common.{◌≡◌, ℕ, zero, suc, ◌+◌, Bool, true, false, if◌then◌else◌, List, [], ◌∷◌, ◌++◌, length, take, drop, Option, Some, None, refl, sym, ap, ◌∙◌, subst, arith, zero-add}
use Rattle.std.proofs.lemmas.Slice.Eq.{bytes_eq-Decides}
use Rattle.rx_core.specs.declared.types.Span.{Span}
use Rattle.rx_tree.specs.declared.tree.Ident.{Ident}
use Rattle.rx_tree.specs.Lists.{Every, nth}
use Rattle.rx_tree.specs.Plain as plain
use Rattle.rx_tree.specs.Plain.{Function, ItemTree, ProgramTree}
use Rattle.rx_resolve_names.specs.Meant.{function_name, has_name, item_named, as_function}
use Rattle.rx_hoist_extraction.specs.Run.{Run}
use Rattle.rx_hoist_extraction.specs.Plan.{Bounds, Plan, has_enum}
use Rattle.rx_hoist_extraction.specs.Pinned.{pinned_function}
use Rattle.rx_hoist_extraction.specs.Extraction.{with_call, made_function, made_enum, new_items, new_number, extraction}
use Rattle.rx_hoist_extraction.proofs.FreshNames.{unlike}
use Rattle.rx_hoist_extraction.proofs.NewItemsAt.{items_are}
use Rattle.rx_engine_names.specs.NewNames.{Other, AreFree}

has_another : (x : List ℕ) (o : Option Ident) → Other x o → has_name x o ≡ false
has_another x None h = refl
has_another x (Some y) h = unlike x y.name h

-- items without the name are passed by
passed_by : (x : List ℕ) (k : ℕ) (i : ItemTree) (is : ProgramTree) → Other x (function_name i) → item_named function_name k (i ∷ is) x ≡ item_named function_name (suc k) is x
passed_by x k i is h = ap (λ (b : Bool). if b then Some (k, i) else item_named function_name (suc k) is x) (has_another x (function_name i) h)

all_passed_by : (x : List ℕ) (k : ℕ) (xs ys : ProgramTree) → Every (λ i. Other x (function_name i)) xs → item_named function_name k (xs ++ ys) x ≡ item_named function_name (length xs + k) ys x
all_passed_by x k [] ys h = ap (λ (n : ℕ). item_named function_name n ys x) (sym (zero-add k))
all_passed_by x k (i ∷ is) ys h =
    passed_by x k i (is ++ ys) h.0 ∙ all_passed_by x (suc k) is ys h.1 ∙ ap (λ (n : ℕ). item_named function_name n ys x) (let e : length is + suc k ≡ suc (length is) + k = omega arith in e)

every_taken : (W : ItemTree → Type 0) (n : ℕ) (is : ProgramTree) → Every W is → Every W (take n is)
every_taken W zero is h = tt
every_taken W (suc n) [] h = tt
every_taken W (suc n) (i ∷ is) h = (h.0, every_taken W n is h.1)

one_of : (W : ItemTree → Type 0) (n : ℕ) (is : ProgramTree) (i : ItemTree) → nth is n ≡ Some i → Every W is → W i
one_of W n [] i e h = absurd (cc)
one_of W zero (j ∷ is) i e h = subst W (let s : j ≡ i = cc in s) h.0
one_of W (suc n) (j ∷ is) i e h = one_of W n is i e h.1

taken_count : (n : ℕ) (is : ProgramTree) (i : ItemTree) → nth is n ≡ Some i → length (take n is) ≡ n
taken_count n [] i e = absurd (cc)
taken_count zero (j ∷ is) i e = refl
taken_count (suc n) (j ∷ is) i e = ap suc (taken_count n is i e)

pub new_function_found : (P : ProgramTree) (r : Run) (pl : Plan) (bs : Bounds) (s : Span) (f : Function) → nth P r.item ≡ Some (plain.function_item s f) → AreFree P pl → as_function (item_named function_name 0 (extraction P r pl bs) pl.name) ≡ Some (new_number r pl)
new_function_found P r pl bs s f at free =
    let g = pinned_function P r.span pl.pins f in let front = take r.item P in let rest = drop (suc r.item) P in let x = pl.name in
    let old : ItemTree = plain.function_item s (with_call P r pl g) in let new = new_items P r pl bs g in
    ap (λ (is : ProgramTree). as_function (item_named function_name 0 is x)) (items_are P r pl bs s f at)
    ∙ ap as_function (all_passed_by x 0 front (old ∷ (new ++ rest)) (every_taken (λ i. Other x (function_name i)) r.item P free.function)
    ∙ passed_by x (length front + 0) old (new ++ rest) (one_of (λ i. Other x (function_name i)) r.item P (plain.function_item s f) at free.function))
    ∙ by (has_enum pl.exits) (length front) (taken_count r.item P (plain.function_item s f) at) rest
  where
    by : (b : Bool) (n : ℕ) → n ≡ r.item → (rest : ProgramTree)
        → as_function (item_named function_name (suc (n + 0)) ((if b then made_enum P r pl ∷ made_function P r pl bs (pinned_function P r.span pl.pins f) ∷ [] else made_function P r pl bs (pinned_function P r.span pl.pins f) ∷ []) ++ rest) pl.name) ≡ Some (r.item + (if b then 2 else 1))
    by false n e rest =
        let g = made_function P r pl bs (pinned_function P r.span pl.pins f) in
        ap (λ (b : Bool). as_function (if b then Some (suc (n + 0), g) else item_named function_name (suc (suc (n + 0))) rest pl.name)) ((bytes_eq-Decides pl.name pl.name).1 refl) ∙ ap (λ (k : ℕ). Some k) (let d : suc (n + 0) ≡ r.item + 1 = omega (arith, e) in d)
    by true n e rest =
        let g = made_function P r pl bs (pinned_function P r.span pl.pins f) in
        ap (λ (b : Bool). as_function (if b then Some (suc (suc (n + 0)), g) else item_named function_name (suc (suc (suc (n + 0)))) rest pl.name)) ((bytes_eq-Decides pl.name pl.name).1 refl)
        ∙ ap (λ (k : ℕ). Some k) (let d : suc (suc (n + 0)) ≡ r.item + 2 = omega (arith, e) in d)
