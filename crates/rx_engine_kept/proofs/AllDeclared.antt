-- Each item of an extraction is declared: those that stay as in the program, the function with the call by its signature, and the new ones.
use Rattle.std.proofs.Common.{◌≡◌, ℕ, zero, suc, ◌+◌, ◌<◌, Bool, true, false, if◌then◌else◌, List, [], ◌∷◌, ◌++◌, length, Option, Some, Ok, slice_get, inl, inr, ◌⊎◌, refl, sym, ap, ◌∙◌, subst, arith}
use Rattle.rx_core.specs.declared.types.Span.{Span}
use Rattle.rx_tree.specs.Lists.{nth}
use Rattle.rx_tree.specs.Plain as plain
use Rattle.rx_tree.specs.Plain.{Parameter, TypeTree, Function, ItemTree, ProgramTree}
use Rattle.rx_resolve_names.specs.declared.resolved.ItemNames.{ItemNames}
use Rattle.rx_resolve_names.specs.Meant.{type_name, item_named, as_type}
use Rattle.rx_resolve_names.specs.Items.{in_item, in_items, in_program, apart}
use Rattle.rx_typed.specs.declared.declarations.Decl.{Decl}
use Rattle.rx_typeck_typed.specs.Steps as steps
use Rattle.rx_typeck_typed.specs.Steps.{on_ok}
use Rattle.rx_typeck_typed.specs.Written.{lifetimes_of}
use Rattle.rx_typeck_typed.specs.Items.{declared_item, declared_items, entries_of}
use Rattle.rx_hoist_naming.proofs.Programs.{TableAt, table_at}
use Rattle.rx_hoist_extraction.specs.Run.{Run, run_parts, loops_round}
use Rattle.rx_hoist_extraction.specs.Plan.{Bounds, Plan, has_enum, enum_name}
use Rattle.rx_hoist_extraction.specs.Fresh.{fresh_lifetime}
use Rattle.rx_hoist_extraction.specs.NewEnum.{enum_positions}
use Rattle.rx_hoist_extraction.specs.Pinned.{pinned_function}
use Rattle.rx_hoist_extraction.specs.Extraction.{made_enum, made_function, added, new_number, extraction}
use Rattle.rx_hoist_extraction.proofs.NewItemsAt.{new_function_at, new_enum_at}
use Rattle.rx_engine_names.specs.NewNames.{AreFree}
use Rattle.rx_engine_names.specs.NewPlan.{TypesNamed}
use Rattle.rx_engine_names.specs.Insertion.{Inserted, past, number_there}
use Rattle.rx_engine_names.proofs.SideBySide.{named_ok}
use Rattle.rx_engine_names.proofs.KeptItems.{Keeps, inserted_keeps}
use Rattle.rx_engine_names.proofs.ExtractionItems.{extraction_inserted, function_inserted, numbers_there}
use Rattle.rx_engine_names.proofs.NewPrograms.{enum_stands}
use Rattle.rx_engine_declared.proofs.MadeItems.{counted}
use Rattle.rx_engine_declared.proofs.Stands.{item_stays, DeclaredThere, declared_there}
use Rattle.rx_engine_declared.proofs.Extractions.{got, same_signature}
use Rattle.rx_engine_kept.proofs.Places.{Origin, of_old, of_new, origin}
use Rattle.rx_engine_kept.proofs.BothDeclared.{item_there, function_there}
use Rattle.rx_engine_kept.proofs.MadeDeclared.{enum_made, function_made}

-- ---- lists of items

abbrev pub ItemDeclared : ProgramTree → List ItemNames → ℕ → ItemTree → Type 0
ItemDeclared p ns n i = (e : Decl) × (declared_item p (entries_of (slice_get ns n)) i ≡ Ok e)

pub all_declared : (p : ProgramTree) (ns : List ItemNames) (n : ℕ) (is : ProgramTree) → ((j : ℕ) (i : ItemTree) → slice_get is j ≡ Some i → ItemDeclared p ns (n + j) i) → (es : List Decl) × (declared_items p ns n is ≡ Ok es)
all_declared p ns n [] h = ([], refl)
all_declared p ns n (i ∷ is) h =
    let here : n + 0 ≡ n = omega arith in
    let a = subst (λ (m : ℕ). ItemDeclared p ns m i) here (h 0 i refl) in
    let more = all_declared p ns (suc n) is (λ j x e. let on : n + suc j ≡ suc n + j = omega arith in subst (λ (m : ℕ). ItemDeclared p ns m x) on (h (suc j) x e)) in (
      a.0 ∷ more.0,
      ap (λ (o : steps.Outcome Decl). on_ok o (λ d. on_ok (declared_items p ns (suc n) is) (λ ds. Ok (d ∷ ds)))) a.1
          ∙ ap (λ (o : steps.Outcome (List Decl)). on_ok o (λ ds. Ok (a.0 ∷ ds))) more.1,
    )

-- the names of an item of a program that resolves
pub table_of : (p : ProgramTree) (ns : List ItemNames) → in_program p ≡ Ok ns → (j : ℕ) (i : ItemTree) → slice_get p j ≡ Some i → TableAt p ns 0 j i
table_of p ns e j i at = table_at p 0 p ns j i (named_ok (apart (record { types = []; functions = [] }) 0 p) (λ _. in_items p 0 p) ns e).2 at

-- what stands at a number is one
pub one_item : (i j : ItemTree) → ◌≡◌ {A = Option ItemTree} (Some i) (Some j) → i ≡ j
one_item i j e = cc

module _ (P : ProgramTree) (r : Run) (pl : Plan) (bs : Bounds) (s : Span) (f : Function) (there : nth P r.item ≡ Some (plain.function_item s f)) (free : AreFree P pl) (N : TypesNamed P pl)
    (ns ms : List ItemNames) (n : in_program P ≡ Ok ns) (m : in_program (extraction P r pl bs) ≡ Ok ms) (ds : List Decl) (d : declared_items P ns 0 P ≡ Ok ds) where
  abbrev Q : ProgramTree
  Q = extraction P r pl bs

  abbrev c : Inserted P Q
  c = extraction_inserted P r pl bs s f there free

  abbrev g : Function
  g = pinned_function P r.span pl.pins f

  abbrev items : ℕ → ℕ
  items = past r.item (added pl)

  pub numbers_are : number_there c ≡ items
  numbers_are = λ i j. numbers_there P r pl bs s f there free j i

  keeps : Keeps items P Q
  keeps = subst (λ (h : ℕ → ℕ). Keeps h P Q) numbers_are (inserted_keeps P Q c)

  same_lifetimes : c.changed.lifetimes ≡ c.old.lifetimes
  same_lifetimes = let x = function_inserted P r pl bs s f there free in ap (λ (h : Function). h.lifetimes) x.1 ∙ ap (λ (h : Function). h.lifetimes) (sym x.0)

  -- what stands at the number of an item of the program
  pub stays_there : (i : ℕ) → (slice_get Q (items i) ≡ slice_get P i) ⊎ ((slice_get P i ≡ Some (plain.function_item c.place c.old)) × (slice_get Q (items i) ≡ Some (plain.function_item c.place c.changed)))
  stays_there i = by (item_stays c.before c.new c.behind (plain.function_item c.place c.old) (plain.function_item c.place c.changed) i)
    where
      at : slice_get Q (items i) ≡ slice_get (c.before ++ (plain.function_item c.place c.changed ∷ (c.new ++ c.behind))) (number_there c i)
      at = ap (λ (h : ℕ → ℕ). slice_get Q (h i)) (sym numbers_are) ∙ ap (λ (p : ProgramTree). slice_get p (number_there c i)) c.second

      by : (slice_get (c.before ++ (plain.function_item c.place c.changed ∷ (c.new ++ c.behind))) (number_there c i) ≡ slice_get (c.before ++ (plain.function_item c.place c.old ∷ c.behind)) i)
          ⊎ ((slice_get (c.before ++ (plain.function_item c.place c.old ∷ c.behind)) i ≡ Some (plain.function_item c.place c.old))
          × (slice_get (c.before ++ (plain.function_item c.place c.changed ∷ (c.new ++ c.behind))) (number_there c i) ≡ Some (plain.function_item c.place c.changed)))
          → (slice_get Q (items i) ≡ slice_get P i) ⊎ ((slice_get P i ≡ Some (plain.function_item c.place c.old)) × (slice_get Q (items i) ≡ Some (plain.function_item c.place c.changed)))
      by (inl h) = inl (at ∙ h ∙ ap (λ (p : ProgramTree). slice_get p i) (sym c.first))
      by (inr h) = inr (ap (λ (p : ProgramTree). slice_get p i) c.first ∙ h.0, at ∙ h.1)

  -- an item of the program, and what is declared of it
  declared_before : (i : ℕ) (it : ItemTree) → slice_get P i ≡ Some it → (t : ItemNames) × (x : Decl) × (in_item P i it ≡ Ok t) × (declared_item P t.names it ≡ Ok x)
  declared_before i it at =
      let t = table_of P ns n i it at in
      let here : 0 + i ≡ i = omega arith in
      let x = subst (λ (o : Option ItemTree). DeclaredThere P ns (0 + i) o (slice_get ds i)) at (declared_there P ns 0 P ds d i) in (
        t.table,
        x.0,
        ap (λ (k : ℕ). in_item P k it) (sym here) ∙ t.named,
        ap (λ (o : Option ItemNames). declared_item P (entries_of o) it) (sym (ap (λ (k : ℕ). slice_get ns k) here ∙ t.stands)) ∙ x.2,
      )

  -- by the names of its number
  by_table : (j : ℕ) (it : ItemTree) (t : TableAt Q ms 0 j it) → (e : Decl) × (declared_item Q t.table.names it ≡ Ok e) → ItemDeclared Q ms j it
  by_table j it t e = (e.0, ap (λ (o : Option ItemNames). declared_item Q (entries_of o) it) t.stands ∙ e.1)

  old_declared : (i : ℕ) (it : ItemTree) → slice_get Q (items i) ≡ Some it → ItemDeclared Q ms (items i) it
  old_declared i it at = by (stays_there i)
    where
      t : TableAt Q ms 0 (items i) it
      t = table_of Q ms m (items i) it at

      by : (slice_get Q (items i) ≡ slice_get P i) ⊎ ((slice_get P i ≡ Some (plain.function_item c.place c.old)) × (slice_get Q (items i) ≡ Some (plain.function_item c.place c.changed))) → ItemDeclared Q ms (items i) it
      by (inl h) =
          let x = declared_before i it (sym h ∙ at) in
          by_table (items i) it t (item_there P Q items keeps i (0 + items i) it x.0 t.table x.1 x.2 t.named x.3)
      by (inr h) =
          let x = declared_before i (plain.function_item c.place c.old) h.0 in
          let same : plain.function_item c.place c.changed ≡ it = one_item (plain.function_item c.place c.changed) it (sym h.1 ∙ at) in
          let sig = same_signature P r pl bs s f there free in
          let u = subst (λ (z : ItemTree). in_item Q (0 + items i) z ≡ Ok t.table) (sym same) t.named in
          by_table (items i) it t (subst (λ (z : ItemTree). (e : Decl) × (declared_item Q t.table.names z ≡ Ok e)) same
          (function_there P Q items keeps i (0 + items i) c.place c.place c.old c.changed x.0 t.table x.1 same_lifetimes sig.params sig.result x.2 u x.3))

  -- the enum of exits, where there is one
  enum_counts : has_enum pl.exits ≡ true → (j : ℕ) × (as_type (item_named type_name 0 Q (enum_name pl)) ≡ Some j) × (length (lifetimes_of (slice_get Q j)) ≡ enum_positions P pl)
  enum_counts h = (
    suc r.item,
    ap as_type (enum_stands P r pl bs s f there free h),
    ap (λ (o : Option ItemTree). length (lifetimes_of o)) (got Q (suc r.item) ∙ new_enum_at P r pl bs s f there h) ∙ counted r.span (fresh_lifetime pl.lifetimes) 0 (enum_positions P pl),
  )

  enum_declared_here : (j : ℕ) (it : ItemTree) → slice_get Q j ≡ Some it → slice_get Q j ≡ Some (made_enum P r pl) → ItemDeclared Q ms j it
  enum_declared_here j it at is =
      let t = table_of Q ms m j (made_enum P r pl) is in
      let x = by_table j (made_enum P r pl) t (enum_made P Q items keeps ns n pl N r.span (0 + j) t.table t.named) in
      subst (λ (z : ItemTree). ItemDeclared Q ms j z) (one_item (made_enum P r pl) it (sym is ∙ at)) x

  function_declared_here : (j : ℕ) (it : ItemTree) → slice_get Q j ≡ Some it → slice_get Q j ≡ Some (made_function P r pl bs g) → ItemDeclared Q ms j it
  function_declared_here j it at is =
      let i = made_function P r pl bs g in
      let t = table_of Q ms m j i is in
      let x = by_table j i t (function_made P Q items keeps ns n pl N r.span enum_counts bs (loops_round r g) (run_parts r g) (0 + j) t.table t.named) in
      subst (λ (z : ItemTree). ItemDeclared Q ms j z) (one_item i it (sym is ∙ at)) x

  -- what a new item is
  pub new_there : (i : ℕ) → i < added pl → ((has_enum pl.exits ≡ true) × (slice_get Q (suc (r.item + i)) ≡ Some (made_enum P r pl)) × (suc (r.item + i) ≡ suc r.item)) ⊎ ((slice_get Q (suc (r.item + i)) ≡ Some (made_function P r pl bs g)) × (suc (r.item + i) ≡ new_number r pl))
  new_there i l = by (has_enum pl.exits) refl i l
    where
      function_at : (k : ℕ) → k ≡ new_number r pl → slice_get Q k ≡ Some (made_function P r pl bs g)
      function_at k e = ap (slice_get Q) e ∙ got Q (new_number r pl) ∙ new_function_at P r pl bs s f there

      enum_at : (k : ℕ) → k ≡ suc r.item → has_enum pl.exits ≡ true → slice_get Q k ≡ Some (made_enum P r pl)
      enum_at k e h = ap (slice_get Q) e ∙ got Q (suc r.item) ∙ new_enum_at P r pl bs s f there h

      by : (b : Bool) → has_enum pl.exits ≡ b → (i : ℕ) → i < (if b then 2 else 1)
          → ((has_enum pl.exits ≡ true) × (slice_get Q (suc (r.item + i)) ≡ Some (made_enum P r pl)) × (suc (r.item + i) ≡ suc r.item)) ⊎ ((slice_get Q (suc (r.item + i)) ≡ Some (made_function P r pl bs g)) × (suc (r.item + i) ≡ new_number r pl))
      by true h zero l = let at : suc (r.item + 0) ≡ suc r.item = omega arith in inl (h, enum_at (suc (r.item + 0)) at h, at)
      by true h (suc zero) l =
          let many : added pl ≡ 2 = ap (λ (b : Bool). if b then 2 else 1) h in
          let at : suc (r.item + 1) ≡ r.item + added pl = omega (arith, many) in inr (function_at (suc (r.item + 1)) at, at)
      by true h (suc (suc i)) l = absurd (omega (arith, l))
      by false h zero l =
          let many : added pl ≡ 1 = ap (λ (b : Bool). if b then 2 else 1) h in
          let at : suc (r.item + 0) ≡ r.item + added pl = omega (arith, many) in inr (function_at (suc (r.item + 0)) at, at)
      by false h (suc i) l = absurd (omega (arith, l))

  item_declared : (j : ℕ) → Origin r.item (added pl) j → (it : ItemTree) → slice_get Q j ≡ Some it → ItemDeclared Q ms j it
  item_declared j (of_old i) it at = old_declared i it at
  item_declared j (of_new i l) it at = by (new_there i l)
    where
      by : ((has_enum pl.exits ≡ true) × (slice_get Q (suc (r.item + i)) ≡ Some (made_enum P r pl)) × (suc (r.item + i) ≡ suc r.item)) ⊎ ((slice_get Q (suc (r.item + i)) ≡ Some (made_function P r pl bs g)) × (suc (r.item + i) ≡ new_number r pl))
          → ItemDeclared Q ms (suc (r.item + i)) it
      by (inl h) = enum_declared_here (suc (r.item + i)) it at h.1
      by (inr h) = function_declared_here (suc (r.item + i)) it at h.0

  pub extraction_declared : (es : List Decl) × (declared_items Q ms 0 Q ≡ Ok es)
  extraction_declared = all_declared Q ms 0 Q (λ j it at. let here : j ≡ 0 + j = omega arith in subst (λ (k : ℕ). ItemDeclared Q ms k it) here (item_declared j (origin r.item (added pl) j) it at))
