-- What is known of the items of a program is known of them in one with new items behind a function, whose signature stays.
use Rattle.std.proofs.Common.{◌≡◌, ℕ, suc, ◌+◌, ◌-◌, Bool, List, ◌∷◌, ◌++◌, length, Option, Some, None, option_map, Ok, slice_get, inl, inr, ◌⊎◌, if◌then◌else◌, sym, ap, ◌∙◌, subst, arith}
use Rattle.std.specs.Prelude.{nat_le}
use Rattle.std.proofs.lemmas.Bool.{le-leb, lt-leb}
use Rattle.rx_core.specs.declared.types.Span.{Span}
use Rattle.rx_tree.specs.Plain as plain
use Rattle.rx_tree.specs.Plain.{TypeTree, Parameter, Function, ItemTree, ProgramTree}
use Rattle.rx_resolve_names.specs.declared.resolved.ItemNames.{ItemNames}
use Rattle.rx_resolve_names.specs.Items.{in_program}
use Rattle.rx_typed.specs.Types.{Declared}
use Rattle.rx_typed.specs.PlainTypes.{declarations}
use Rattle.rx_typed.specs.declared.declarations.Decl.{Decl}
use Rattle.rx_typed_declarations.specs.Sizes.{Sized, IsSizes}
use Rattle.rx_typeck_solver.specs.Stepping.{known}
use Rattle.rx_typeck_typed.specs.Items.{declared_items}
use Rattle.rx_engine_names.specs.Insertion.{Inserted, past, number_there}
use Rattle.rx_engine_names.proofs.KeptItems.{inserted_keeps}
use Rattle.rx_engine_blocks.specs.Renumbering.{Renumbering, declared_at}
use Rattle.rx_engine_blocks.specs.Knows.{Knows}
use Rattle.rx_engine_declared.specs.Declaring.{AreParameters, IsResult, DeclaresAs, SameSignature}
use Rattle.rx_engine_declared.proofs.Comparing.{declared_stays}
use Rattle.rx_engine_declared.proofs.Sizes.{sizes_stay}
use Rattle.rx_engine_declared.proofs.Stands.{Place, in_front, there, further, place, item_stays, Tells, tells}

-- ---- items have other numbers, which tell them

before : ℕ → ℕ → ℕ → ℕ
before k many n = if nat_le n k then n else n - many

back : (k many n : ℕ) → before k many (past k many n) ≡ n
unfolding before
back k many n = by (place k n)
  where
    by : {n : ℕ} → Place k n → (if nat_le (past k many n) k then past k many n else past k many n - many) ≡ n
    by {n} (in_front l) =
        let here : past k many n ≡ n = ap (λ (b : Bool). if b then n else n + many) (le-leb n k (omega (arith, l))) in
        ap (λ m. if nat_le m k then m else m - many) here ∙ ap (λ (b : Bool). if b then n else n - many) (le-leb n k (omega (arith, l)))
    by there =
        let here : past k many k ≡ k = ap (λ (b : Bool). if b then k else k + many) (le-leb k k (omega arith)) in
        ap (λ m. if nat_le m k then m else m - many) here ∙ ap (λ (b : Bool). if b then k else k - many) (le-leb k k (omega arith))
    by (further d) =
        let n = suc d + k in
        let here : past k many n ≡ n + many = ap (λ (b : Bool). if b then n else n + many) (lt-leb n k (omega arith)) in
        let less : n + many - many ≡ n = omega arith in
        ap (λ m. if nat_le m k then m else m - many) here ∙ ap (λ (b : Bool). if b then n + many else n + many - many) (lt-leb (n + many) k (omega arith)) ∙ less

-- ---- what is declared

-- a function with the same signature declares the same
like_signature : (Q : ProgramTree) (s : Span) (f g : Function) → SameSignature f g → (D : Declared) → DeclaresAs Q (plain.function_item s g) D → DeclaresAs Q (plain.function_item s f) D
like_signature Q s f g same D d = (
  d.0,
  d.1,
  d.2,
  subst (λ (xs : List Parameter). AreParameters Q xs d.0) same.params d.3,
  subst (λ (y : Option TypeTree). IsResult Q y d.1) same.result d.4,
)

module _ (P Q : ProgramTree) (c : Inserted P Q) (same : SameSignature c.old c.changed) (nodes variables : ℕ → ℕ) where
  abbrev r : Renumbering
  r = record { nodes = nodes; variables = variables; items = number_there c }

  -- of one item
  by_item : (o : Option ItemTree) (a b : Option Declared) → Tells P o a → Tells Q o b → b ≡ option_map (declared_at r) a
  by_item None a b d e = e ∙ ap (option_map (declared_at r)) (sym d)
  by_item (Some i) a b d e = e.1 ∙ ap (λ (D : Declared). Some D) (declared_stays r P Q (inserted_keeps P Q c) i d.0 e.0 d.2 e.2) ∙ ap (option_map (declared_at r)) (sym d.1)

  pub items_stay : (ns ms : List ItemNames) (ds es : List Decl) → in_program P ≡ Ok ns → in_program Q ≡ Ok ms → declared_items P ns 0 P ≡ Ok ds → declared_items Q ms 0 Q ≡ Ok es
      → (i : ℕ) → slice_get (declarations es) (number_there c i) ≡ option_map (declared_at r) (slice_get (declarations ds) i)
  items_stay ns ms ds es n m d e i = by (item_stays c.before c.new c.behind (plain.function_item c.place c.old) (plain.function_item c.place c.changed) i)
    where
      here : Tells P (slice_get P i) (slice_get (declarations ds) i)
      here = tells P ns ds n d i

      later : Tells Q (slice_get Q (number_there c i)) (slice_get (declarations es) (number_there c i))
      later = tells Q ms es m e (number_there c i)

      by : (slice_get (c.before ++ (plain.function_item c.place c.changed ∷ (c.new ++ c.behind))) (number_there c i) ≡ slice_get (c.before ++ (plain.function_item c.place c.old ∷ c.behind)) i)
          ⊎ ((slice_get (c.before ++ (plain.function_item c.place c.old ∷ c.behind)) i ≡ Some (plain.function_item c.place c.old))
          × (slice_get (c.before ++ (plain.function_item c.place c.changed ∷ (c.new ++ c.behind))) (number_there c i) ≡ Some (plain.function_item c.place c.changed)))
          → slice_get (declarations es) (number_there c i) ≡ option_map (declared_at r) (slice_get (declarations ds) i)
      by (inl h) =
          let one : slice_get Q (number_there c i) ≡ slice_get P i = ap (λ (p : ProgramTree). slice_get p (number_there c i)) c.second ∙ h ∙ ap (λ (p : ProgramTree). slice_get p i) (sym c.first) in
          by_item (slice_get P i) (slice_get (declarations ds) i) (slice_get (declarations es) (number_there c i)) here
          (subst (λ (o : Option ItemTree). Tells Q o (slice_get (declarations es) (number_there c i))) one later)
      by (inr h) =
          let a = subst (λ (o : Option ItemTree). Tells P o (slice_get (declarations ds) i)) (ap (λ (p : ProgramTree). slice_get p i) c.first ∙ h.0) here in
          let b = subst (λ (o : Option ItemTree). Tells Q o (slice_get (declarations es) (number_there c i))) (ap (λ (p : ProgramTree). slice_get p (number_there c i)) c.second ∙ h.1) later in
          by_item (Some (plain.function_item c.place c.old)) (slice_get (declarations ds) i) (slice_get (declarations es) (number_there c i)) a
          (b.0, b.1, like_signature Q c.place c.old c.changed same b.0 b.2)

  pub all_known : (ns ms : List ItemNames) (ds es : List Decl) → in_program P ≡ Ok ns → in_program Q ≡ Ok ms → declared_items P ns 0 P ≡ Ok ds → declared_items Q ms 0 Q ≡ Ok es
      → (W : ℕ → ℕ) → Sized (declarations es) W → (sizes sizes' : List ℕ) → IsSizes (declarations ds) sizes → IsSizes (declarations es) sizes' → Knows r (known ds sizes) (known es sizes')
  all_known ns ms ds es n m d e W z sizes sizes' t t' =
      let stays = items_stay ns ms ds es n m d e in
      record {
        items = stays;
        sizes = sizes_stay r (declarations ds) (declarations es) stays W z sizes sizes' t t';
        unitem = before (length c.before) (length c.new);
        unnamed = back (length c.before) (length c.new);
      }
