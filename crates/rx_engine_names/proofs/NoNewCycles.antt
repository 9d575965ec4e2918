-- No struct or enum of an extraction reaches itself where none of the program does: by cases on where an item stands.
use Rattle.std.proofs.lemmas.Bool.{leb-true, leb-false}
use Rattle.std.proofs.Common.{◌≡◌, ℕ, suc, ◌+◌, ◌-◌, ◌≤◌, ◌<◌, arith, nat_le, Bool, true, false, if◌then◌else◌, List, [], ◌∷◌, ◌++◌, Option, Some, Ok, ◌⊎◌, inl, inr, refl, sym, ap, ◌∙◌, subst}
use Rattle.rx_core.specs.declared.types.Span.{Span}
use Rattle.rx_core.specs.declared.types.Kind as kinds
use Rattle.rx_tree.specs.Lists.{Every, nth}
use Rattle.rx_tree.specs.Plain as plain
use Rattle.rx_tree.specs.Plain.{Function, ItemTree, ProgramTree}
use Rattle.rx_graph_cycles.specs.Reaches.{targets, IsIn, NoCycle}
use Rattle.rx_resolve_names.specs.Scopes.{DeclaredNames}
use Rattle.rx_resolve_names.specs.declared.resolved.ItemNames.{ItemNames}
use Rattle.rx_resolve_names.specs.Meant.{type_name, item_named, as_type}
use Rattle.rx_resolve_names.specs.Steps.{Inside}
use Rattle.rx_resolve_names.specs.Items.{in_items, in_program, Lists, apart}
use Rattle.rx_resolve_names.specs.Holding.{if_found, held_in, held_among, held_by_variants, held_by, held_in_tree}
use Rattle.rx_typed.specs.Types as types
use Rattle.rx_typed.specs.Types.{Typ, Shape, Shapes, integer, boolean, tuple_of, reference, no_shape, shape_and}
use Rattle.rx_hoist_extraction.specs.Run.{Run, loops_round, run_parts}
use Rattle.rx_hoist_extraction.specs.NewFunction.{new_function}
use Rattle.rx_hoist_extraction.specs.Plan.{Plan, Bounds, Leaving, has_enum}
use Rattle.rx_hoist_extraction.specs.Fresh.{fresh_lifetime}
use Rattle.rx_hoist_extraction.specs.Made.{ident}
use Rattle.rx_hoist_extraction.specs.WrittenTypes.{name_of, positions, positions_of, full, all_full, each_full}
use Rattle.rx_hoist_extraction.specs.NewEnum.{fields_at, variants}
use Rattle.rx_hoist_extraction.specs.Pinned.{pinned_function}
use Rattle.rx_hoist_extraction.specs.Extraction.{extraction, added, made_enum, made_function, with_call}
use Rattle.rx_hoist_extraction.proofs.NewItemsAt.{old_changed, new_function_at, new_enum_at, front_stays, behind_moved}
use Rattle.rx_engine_names.specs.NewNames.{AreFree}
use Rattle.rx_engine_names.specs.Insertion.{past, number_there}
use Rattle.rx_engine_names.specs.NewPlan.{TypesNamed}
use Rattle.rx_engine_names.proofs.SideBySide.{named_ok}
use Rattle.rx_engine_names.proofs.Fitting.{FitItems}
use Rattle.rx_engine_names.proofs.KeptItems.{known_some, inserted_keeps, items_keep}
use Rattle.rx_engine_names.proofs.FoundTypes.{Finds, FindAll, type_finds}
use Rattle.rx_engine_names.proofs.ExtractionItems.{extraction_inserted, numbers_there}
use Rattle.rx_engine_names.proofs.NewItems.{fields_named, fields_found}
use Rattle.rx_engine_names.proofs.NoCycles.{in_one_of, HeldBefore, item_before, items_there, target_of, to_target, EdgesBefore, no_cycle_before, past_is}

order : (a b : ℕ) → (a < b) ⊎ ((a ≡ b) ⊎ (b < a))
order a b = by (nat_le b a) refl (nat_le a b) refl
  where
    by : (c : Bool) → nat_le b a ≡ c → (d : Bool) → nat_le a b ≡ d → (a < b) ⊎ ((a ≡ b) ⊎ (b < a))
    by false e d f = inl (leb-false b a e)
    by true e true f = let p : b ≤ a = leb-true b a e in let q : a ≤ b = leb-true a b f in let same : a ≡ b = omega (arith, p, q) in inr (inl same)
    by true e false f = inr (inr (leb-false a b f))

-- ---- what the enum of exits holds was there before

abbrev WereThere : (ℕ → ℕ) → List ℕ → Type 0
WereThere f qs = (j : ℕ) → IsIn qs j → (k : ℕ) × (j ≡ f k)

there_both : (f : ℕ → ℕ) (qs qs1 : List ℕ) → WereThere f qs → WereThere f qs1 → WereThere f (qs ++ qs1)
there_both f qs qs1 h k j i = by (in_one_of qs qs1 j i)
  where
    by : IsIn qs j ⊎ IsIn qs1 j → (n : ℕ) × (j ≡ f n)
    by (inl e) = h j e
    by (inr e) = k j e

module _ (f : ℕ → ℕ) (P Q : ProgramTree) (I I' : Inside) (F : FitItems f I I') (there : I'.program ≡ Q) (s : Span) (row : ℕ → List ℕ) where
  mutual
    full_there : (n : ℕ) (y : Shape kinds.Kind) → Finds I P y → WereThere f (held_in I'.program (full P s row n y))
    full_there n (integer k) g = λ j i. absurd i
    full_there n boolean g = λ j i. absurd i
    full_there n (tuple_of ys) g = all_there n ys g
    full_there n (reference m y) g = full_there (suc n) y g
    full_there n (types.named i) g =
        let r = F.types (ident s (name_of P i)) i (g s) in
        let q = known_some (as_type (item_named type_name 0 I'.program (name_of P i))) s r.0 r.1 in
        subst (λ (o : Option ℕ). WereThere f (if_found o)) (sym q) (λ j e. one r.0 j e r.2)
      where
        one : (m j : ℕ) → IsIn (m ∷ []) j → f i ≡ m → (k : ℕ) × (j ≡ f k)
        one m j (inl same) e = (i, sym same ∙ sym e)
        one m j (inr h) e = absurd h

    all_there : (n : ℕ) (ys : Shapes kinds.Kind) → FindAll I P ys → WereThere f (held_among I'.program (all_full P s row n ys))
    all_there n no_shape g = λ j i. absurd i
    all_there n (shape_and y ys) g =
        there_both f (held_in I'.program (full P s row n y)) (held_among I'.program (all_full P s row (n + positions P y) ys)) (full_there n y g.0) (all_there (n + positions P y) ys g.1)

  each_there : (n : ℕ) (ts : List Typ) → Every (λ (t : Typ). Finds I P t) ts → WereThere f (held_among I'.program (each_full P s row n ts))
  each_there n [] g = λ j i. absurd i
  each_there n (t ∷ ts) g = there_both f (held_in I'.program (full P s row n t)) (held_among I'.program (each_full P s row (n + positions P t) ts)) (full_there n t g.0) (each_there (n + positions P t) ts g.1)

variants_there : (f : ℕ → ℕ) (P Q : ProgramTree) (pl : Plan) (s : Span) (I : Inside) → FitItems f I (record { program = Q; item = 0; lifetimes = [] }) → (n : ℕ) (xs : List Leaving) → Every (λ (x : Leaving). Every (λ (t : Typ). Finds I P t) (fields_at pl x)) xs
    → WereThere f (held_by_variants Q (variants P pl s n xs))
variants_there f P Q pl s I F n [] g = λ j i. absurd i
variants_there f P Q pl s I F n (x ∷ xs) g =
    there_both f (held_among Q (each_full P s (fresh_lifetime pl.lifetimes) n (fields_at pl x))) (held_by_variants Q (variants P pl s (n + positions_of P (fields_at pl x)) xs))
    (each_there f P Q I (record { program = Q; item = 0; lifetimes = [] }) F refl s (fresh_lifetime pl.lifetimes) n (fields_at pl x) g.0) (variants_there f P Q pl s I F (n + positions_of P (fields_at pl x)) xs g.1)

-- ---- the extraction

module _ (P : ProgramTree) (r : Run) (pl : Plan) (bs : Bounds) (s : Span) (f : Function) (there : nth P r.item ≡ Some (plain.function_item s f)) (free : AreFree P pl) (ts : List ItemNames) (whole : in_program P ≡ Ok ts) (typed : TypesNamed P pl) where
  abbrev Q : ProgramTree
  Q = extraction P r pl bs

  abbrev g : Function
  g = pinned_function P r.span pl.pins f

  abbrev items : ℕ → ℕ
  items n = past r.item (added pl) n

  fits : (a b : ℕ) (ls ms : DeclaredNames) → FitItems items (record { program = P; item = a; lifetimes = ls }) (record { program = Q; item = b; lifetimes = ms })
  fits a b ls ms =
      let c = extraction_inserted P r pl bs s f there free in
      let F = items_keep (number_there c) P Q (inserted_keeps P Q c) a b ls ms in
      let same = numbers_there P r pl bs s f there free in record {
        types = λ x n e. let z = F.types x n e in (z.0, z.1, sym (same n) ∙ z.2);
        structs = λ x n e. let z = F.structs x n e in (z.0, z.1, sym (same n) ∙ z.2);
        variants = λ x v ns e. let z = F.variants x v ns e in (z.0, z.1, z.2, z.3, z.4, sym (same z.0) ∙ z.5);
        functions = λ x n e. let z = F.functions x n e in (z.0, z.1, sym (same n) ∙ z.2);
        input = λ p n e. let z = F.input p n e in (z.0, z.1, sym (same n) ∙ z.2);
      }

  abbrev none : Lists
  none = record { types = []; functions = [] }

  all_items : in_items P 0 P ≡ Ok ts
  all_items = (named_ok (apart none 0 P) (λ _. in_items P 0 P) ts whole).2

  -- an item of the program holds what it held
  old_item : (n : ℕ) (i : ItemTree) → nth P n ≡ Some i → HeldBefore items (held_by P i) (held_by Q i)
  old_item n i at = let T = items_there P 0 n P ts i all_items at in item_before items P Q (0 + n) i T.0 T.1 (λ a ls. fits a a ls ls)

  enum_there : WereThere items (held_by Q (made_enum P r pl))
  enum_there =
      let I : Inside = record { program = P; item = 0; lifetimes = [] } in
      variants_there items P Q pl r.span I (fits 0 0 [] []) 0 pl.exits (fields_found P pl I (type_finds P ts whole 0 []) pl.exits (fields_named P pl typed pl.exits typed.outs))

  abbrev EdgeAt : ℕ → ℕ → Type 0
  EdgeAt n j = (k : ℕ) × (j ≡ items k) × ((m : ℕ) → n ≡ items m → IsIn (targets (held_in_tree P) m) k)

  -- in front, and behind
  edge_of : (n m : ℕ) (i : ItemTree) (j : ℕ) → nth P m ≡ Some i → IsIn (held_by Q i) j → ((z : ℕ) → n ≡ items z → z ≡ m) → EdgeAt n j
  edge_of n m i j at h only =
      let b = old_item m i at j h in (b.0, b.1, λ z e. subst (λ (w : ℕ). IsIn (targets (held_in_tree P) w) b.0) (sym (only z e)) (to_target (held_by P) P m b.0 i at b.2))

  -- an item that holds nothing
  nothing_held : (i : ItemTree) (fn : Span × Function) (j : ℕ) → i ≡ plain.function_item fn.0 fn.1 → IsIn (held_by Q i) j → ⊥
  nothing_held i fn j e h = subst (λ (z : ItemTree). IsIn (held_by Q z) j) e h

  some_item : (a b : ItemTree) → ◌≡◌ {A = Option ItemTree} (Some a) (Some b) → a ≡ b
  some_item a b e = cc

  -- only this number becomes that
  only_front : (n z : ℕ) → n < r.item → ((z ≤ r.item) × (n ≡ z)) ⊎ ((r.item < z) × (n ≡ z + added pl)) → z ≡ n
  only_front n z l (inl k) = sym k.1
  only_front n z l (inr k) = let p : r.item < z = k.0 in let q : n ≡ z + added pl = k.1 in omega (arith, l, p, q)

  only_behind : (n m z : ℕ) → r.item < m → n ≡ m + added pl → ((z ≤ r.item) × (n ≡ z)) ⊎ ((r.item < z) × (n ≡ z + added pl)) → z ≡ m
  only_behind n m z l same (inl k) = let p : z ≤ r.item = k.0 in let q : n ≡ z = k.1 in omega (arith, l, same, p, q)
  only_behind n m z l same (inr k) = let q : n ≡ z + added pl = k.1 in omega (arith, same, q)

  no_old : (n z : ℕ) → r.item < n → n < r.item + added pl → ((z ≤ r.item) × (n ≡ z)) ⊎ ((r.item < z) × (n ≡ z + added pl)) → ⊥
  no_old n z l u (inl k) = let p : z ≤ r.item = k.0 in let q : n ≡ z = k.1 in omega (arith, l, p, q)
  no_old n z l u (inr k) = let p : r.item < z = k.0 in let q : n ≡ z + added pl = k.1 in omega (arith, u, p, q)

  -- between the function and the new function stands the enum
  between : (n j : ℕ) (i : ItemTree) → nth Q n ≡ Some i → IsIn (held_by Q i) j → r.item < n → (b : Bool) → has_enum pl.exits ≡ b → n < r.item + (if b then 2 else 1) → EdgeAt n j
  between n j i at h l true has u =
      let same : n ≡ suc r.item = omega (arith, l, u) in
      let two : added pl ≡ 2 = ap (λ (b : Bool). if b then 2 else 1) has in
      let is : i ≡ made_enum P r pl = some_item i (made_enum P r pl) (sym at ∙ ap (nth Q) same ∙ new_enum_at P r pl bs s f there has) in
      let k = enum_there j (subst (λ (z : ItemTree). IsIn (held_by Q z) j) is h) in
      (k.0, k.1, λ z e. absurd (no_old n z l (omega (arith, u, two)) (past_is r.item (added pl) z n e)))
  between n j i at h l false has u = absurd (let c : n < r.item + 1 = u in omega (arith, l, c))

  edge_there : (n j : ℕ) (i : ItemTree) → nth Q n ≡ Some i → IsIn (held_by Q i) j → EdgeAt n j
  edge_there n j i at h = from (order n r.item)
    where
      behind : (n < r.item + added pl) ⊎ ((n ≡ r.item + added pl) ⊎ (r.item + added pl < n)) → r.item < n → EdgeAt n j
      behind (inl u) l = between n j i at h l (has_enum pl.exits) refl u
      behind (inr (inl same)) l = absurd (nothing_held i (r.span, new_function P pl bs r.span (loops_round r g) (run_parts r g)) j (some_item i (made_function P r pl bs g) (sym at ∙ ap (nth Q) same ∙ new_function_at P r pl bs s f there)) h)
      behind (inr (inr u)) l =
          let far : r.item < n - added pl = omega (arith, u) in
          let same : n ≡ (n - added pl) + added pl = omega (arith, u) in
          edge_of n (n - added pl) i j (sym (behind_moved P r pl bs s f there (n - added pl) far) ∙ ap (nth Q) (sym same) ∙ at) h (λ z e. only_behind n (n - added pl) z far same (past_is r.item (added pl) z n e))

      from : (n < r.item) ⊎ ((n ≡ r.item) ⊎ (r.item < n)) → EdgeAt n j
      from (inl l) = edge_of n n i j (sym (front_stays P r pl bs n l) ∙ at) h (λ z e. only_front n z l (past_is r.item (added pl) z n e))
      from (inr (inl same)) = absurd (nothing_held i (s, with_call P r pl g) j (some_item i (plain.function_item s (with_call P r pl g)) (sym at ∙ ap (nth Q) same ∙ old_changed P r pl bs s f there)) h)
      from (inr (inr l)) = behind (order n (r.item + added pl)) l

  edges_there : EdgesBefore items (held_in_tree P) (held_in_tree Q)
  edges_there n j h = let t = target_of (held_by Q) Q n j h in edge_there n j t.0 t.1 t.2

  pub no_new_cycle : NoCycle (held_in_tree P) → NoCycle (held_in_tree Q)
  no_new_cycle h = no_cycle_before items (held_in_tree P) (held_in_tree Q) edges_there h
