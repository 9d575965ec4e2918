-- Each function that stays is, by the items of both programs, a function with a like tree.
use Rattle.std.specs.Prelude.{nat_eq}
use Rattle.std.proofs.Common.{◌≡◌, ℕ, ◌+◌, Bool, true, false, if◌then◌else◌, List, [], ◌++◌, length, Option, Some, slice_get, Ok, refl, sym, ap, ◌∙◌, subst, eq-eqb, eqb-true, arith}
use Rattle.std.proofs.lemmas.Bool.{le-leb}
use Rattle.rx_core.specs.declared.types.Span.{Span}
use Rattle.rx_tree.specs.Plain as plain
use Rattle.rx_tree.specs.Plain.{ItemTree, ProgramTree, Function}
use Rattle.rx_tree.specs.Size.{IsNumbered}
use Rattle.rx_resolve_names.specs.declared.resolved.ItemNames.{ItemNames}
use Rattle.rx_resolve_names.specs.declared.resolved.NodeNames.{NodeNames}
use Rattle.rx_resolve_names.specs.Causes.{Meant}
use Rattle.rx_resolve_names.specs.Items.{in_item, in_items, apart}
use Rattle.rx_typed.specs.Tree as tree
use Rattle.rx_typed.specs.Types.{Declarations}
use Rattle.rx_typed.specs.PlainTypes.{declarations}
use Rattle.rx_typed.specs.Naming.{function_named}
use Rattle.rx_typed.specs.PlainTree.{plain-TypedTree}
use Rattle.rx_typed_declarations.proofs.Polarities.{same_declared}
use Rattle.rx_typeck_solver.specs.Ordered.{Orderly}
use Rattle.rx_typeck_typed.specs.Demands.{task}
use Rattle.rx_typeck_typed.specs.declared.typed.Typed.{Typed}
use Rattle.rx_typeck_typed.specs.declared.typed.TypedFn.{TypedFn}
use Rattle.rx_typeck_typed.specs.Typing.{entries, variables_at, known_in, Given, FunctionTyped, IsTyped}
use Rattle.rx_machine.specs.Functions.{typed_functions, program_of}
use Rattle.rx_meaning.specs.Values.{element}
use Rattle.rx_hoist_naming.proofs.Programs.{table_at}
use Rattle.rx_meaning_accepted.proofs.Fields.{fields_apart}
use Rattle.rx_engine_names.specs.Insertion.{past, number_there, Inserted}
use Rattle.rx_engine_blocks.specs.Knows.{Knows}
use Rattle.rx_engine_simulation.specs.Turns.{Allowance}
use Rattle.rx_engine_simulation.specs.Openings.{Openings}
use Rattle.rx_engine_simulation.specs.Programs.{LikeEntry, LikePrograms, functions, neither}
use Rattle.rx_engine_typing.proofs.Steps.{named_ok}
use Rattle.rx_engine_typing.proofs.Counting.{few_names}
use Rattle.rx_engine_validated.specs.Kept.{kept}
use Rattle.rx_engine_validated.specs.Typed.{given_by}
use Rattle.rx_engine_validated.specs.Changed.{ChangedAlike}
use Rattle.rx_engine_validated.proofs.Programs.{function_stays}
use Rattle.rx_engine_validated.proofs.Entries.{FunctionAt, EntryAt, function_there, nothing_there, entry_at, item_stays, item_between}

same_function_item : (s s' : Span) (f f' : Function) → ◌≡◌ {A = Option ItemTree} (Some (plain.function_item s f)) (Some (plain.function_item s' f')) → (s ≡ s') × (f ≡ f')
same_function_item s s' f f' e = (cc, cc)

by_text : (G : Given) (j : ℕ) (s s' : Span) (f f' : Function) (ns : List NodeNames) (vs : List Span) (g : TypedFn) → s ≡ s' → f ≡ f' → FunctionTyped G j s f ns vs g → FunctionTyped G j s' f' ns vs g
by_text G j s s' f f' ns vs g e d h = subst (λ (s : Span). FunctionTyped G j s f' ns vs g) e (subst (λ (f : Function). FunctionTyped G j s f ns vs g) d h)

number_here : (k many : ℕ) → past k many k ≡ k
number_here k many = ap (λ (b : Bool). if b then k else k + many) (le-leb k k (omega arith))

module _ (orderly : (i : ℕ) (s : Span) (f : Function) (ns : List NodeNames) → Orderly (task (function_named i s f ns))) (p q : ProgramTree) (ns ms : List ItemNames) (t u : Typed) (few : IsNumbered p) (meant : Meant p ns) (meant' : Meant q ms) (a : IsTyped p ns t) (b : IsTyped q ms u) (c : Inserted p q)
    (k : Knows (kept (number_there c)) (known_in (given_by p ns t a)) (known_in (given_by q ms u b))) (O : Openings) (gain : Allowance) where
  abbrev G : Given
  G = given_by p ns t a

  abbrev H : Given
  H = given_by q ms u b

  stands_there : (j : ℕ) → (j ≡ length c.before → ⊥) → slice_get q (number_there c j) ≡ slice_get p j
  stands_there j n = ap (λ (l : ProgramTree). slice_get l (number_there c j)) c.second ∙ item_stays c.before c.new c.behind (plain.function_item c.place c.old) (plain.function_item c.place c.changed) j n ∙ ap (λ (l : ProgramTree). slice_get l j) (sym c.first)

  -- a typed function with its own table
  record Tabled (P : ProgramTree) (G' : Given) (j : ℕ) (s : Span) (f : Function) (g : TypedFn) (ts : List ItemNames) : Type 0 where
    table : ItemNames
    stands : slice_get ts j ≡ Some table
    named : in_item P j (plain.function_item s f) ≡ Ok table
    checked : FunctionTyped G' j s f table.names table.vars g

  tabled : (P : ProgramTree) (ts : List ItemNames) (G' : Given) → Meant P ts → (j : ℕ) (s : Span) (f : Function) (g : TypedFn) → slice_get P j ≡ Some (plain.function_item s f)
      → FunctionTyped G' (0 + j) s f (entries (slice_get ts (0 + j))) (variables_at (slice_get ts (0 + j))) g → Tabled P G' j s f g ts
  tabled P ts G' means j s f g at h =
      let T = table_at P 0 P ts j (plain.function_item s f) (named_ok {A = Unit {0}} (apart (record { types = []; functions = [] }) 0 P) (λ _. in_items P 0 P) ts means.names_are).2 at in
      let zero : 0 + j ≡ j = omega arith in
      record {
        table = T.table;
        stands = T.stands;
        named = subst (λ (n : ℕ). in_item P n (plain.function_item s f) ≡ Ok T.table) zero T.named;
        checked = subst (λ (o : Option ItemNames). FunctionTyped G' j s f (entries o) (variables_at o) g) T.stands
            (subst (λ (n : ℕ). FunctionTyped G' n s f (entries (slice_get ts n)) (variables_at (slice_get ts n)) g) zero h);
      }

  both_there : (j : ℕ) → (j ≡ length c.before → ⊥) → FunctionAt G ns 0 j p (typed_functions (declarations a.declared) t.functions) → FunctionAt H ms 0 (number_there c j) q (typed_functions (declarations b.declared) u.functions)
      → LikeEntry (number_there c) O gain (element (typed_functions (declarations a.declared) t.functions) j) (element (typed_functions (declarations b.declared) u.functions) (number_there c j))
  both_there j n h h' =
      let same = same_function_item h'.span h.span h'.function h.function (sym h'.at ∙ stands_there j n ∙ h.at) in
      let X = tabled p ns G meant j h.span h.function h.typed h.at h.checked in
      let there : slice_get q (number_there c j) ≡ Some (plain.function_item h.span h.function) = stands_there j n ∙ h.at in
      let checked' = subst (λ (s : Span). FunctionTyped H (0 + number_there c j) s h.function (entries (slice_get ms (0 + number_there c j))) (variables_at (slice_get ms (0 + number_there c j))) h'.typed) same.0
      (subst (λ (f : Function). FunctionTyped H (0 + number_there c j) h'.span f (entries (slice_get ms (0 + number_there c j))) (variables_at (slice_get ms (0 + number_there c j))) h'.typed) same.1 h'.checked) in
      let Y = tabled q ms H meant' (number_there c j) h.span h.function h'.typed there checked' in
      let l = function_stays orderly p q c j h.span h.function X.table Y.table X.named Y.named (few_names p few j j h.span h.function X.table h.at X.named) G H k (λ i. fields_apart p ns a.declared meant a.declares.items i) X.table.vars Y.table.vars h.typed h'.typed X.checked Y.checked O gain in
      subst (λ (o : Option (Option tree.Function)). LikeEntry (number_there c) O gain o (element (typed_functions (declarations b.declared) u.functions) (number_there c j))) (sym h.stands)
      (subst (λ (o : Option (Option tree.Function)). LikeEntry (number_there c) O gain (Some (Some (plain-TypedTree h.typed.tree))) o) (sym h'.stands) (functions l))

  entries_alike : (j : ℕ) → (j ≡ length c.before → ⊥) → EntryAt G ns 0 j p (typed_functions (declarations a.declared) t.functions) → EntryAt H ms 0 (number_there c j) q (typed_functions (declarations b.declared) u.functions)
      → LikeEntry (number_there c) O gain (element (typed_functions (declarations a.declared) t.functions) j) (element (typed_functions (declarations b.declared) u.functions) (number_there c j))
  entries_alike j n (function_there h) (function_there h') = both_there j n h h'
  entries_alike j n (nothing_there h) (nothing_there h') = neither h.stands h'.stands
  entries_alike j n (function_there h) (nothing_there h') = absurd (h'.at h.span h.function (stands_there j n ∙ h.at))
  entries_alike j n (nothing_there h) (function_there h') = absurd (h.at h'.span h'.function (sym (stands_there j n) ∙ h'.at))

  in_programs : (m m' i j : ℕ) → LikeEntry (number_there c) O gain (element (typed_functions (declarations a.declared) t.functions) i) (element (typed_functions (declarations b.declared) u.functions) j)
      → LikeEntry (number_there c) O gain (element (program_of t m).functions i) (element (program_of u m').functions j)
  in_programs m m' i j h =
      subst (λ (D : Declarations). LikeEntry (number_there c) O gain (element (typed_functions D t.functions) i) (element (program_of u m').functions j)) (sym (same_declared t.decls.items a.declared a.same))
      (subst (λ (D : Declarations). LikeEntry (number_there c) O gain (element (typed_functions (declarations a.declared) t.functions) i) (element (typed_functions D u.functions) j)) (sym (same_declared u.decls.items b.declared b.same)) h)

  pub all_stay : (m m' j : ℕ) → (j ≡ length c.before → ⊥) → LikeEntry (number_there c) O gain (element (program_of t m).functions j) (element (program_of u m').functions (number_there c j))
  all_stay m m' j n = in_programs m m' j (number_there c j)
      (entries_alike j n (entry_at G p ns 0 p a.declared t.functions a.declares.items a.functions j) (entry_at H q ms 0 q b.declared u.functions b.declares.items b.functions (number_there c j)))

  -- ---- the function that is changed

  old_there : slice_get p (length c.before) ≡ Some (plain.function_item c.place c.old)
  old_there = ap (λ (l : ProgramTree). slice_get l (length c.before)) c.first ∙ item_between c.before (plain.function_item c.place c.old) c.behind

  changed_there : slice_get q (length c.before) ≡ Some (plain.function_item c.place c.changed)
  changed_there = ap (λ (l : ProgramTree). slice_get l (length c.before)) c.second ∙ item_between c.before (plain.function_item c.place c.changed) (c.new ++ c.behind)

  both_changed : ChangedAlike p q c G H O gain → FunctionAt G ns 0 (length c.before) p (typed_functions (declarations a.declared) t.functions) → FunctionAt H ms 0 (length c.before) q (typed_functions (declarations b.declared) u.functions)
      → LikeEntry (number_there c) O gain (element (typed_functions (declarations a.declared) t.functions) (length c.before)) (element (typed_functions (declarations b.declared) u.functions) (length c.before))
  both_changed w h h' =
      let k = length c.before in
      let same = same_function_item h.span c.place h.function c.old (sym h.at ∙ old_there) in
      let same' = same_function_item h'.span c.place h'.function c.changed (sym h'.at ∙ changed_there) in
      let X = tabled p ns G meant k c.place c.old h.typed old_there (by_text G (0 + k) h.span c.place h.function c.old (entries (slice_get ns (0 + k))) (variables_at (slice_get ns (0 + k))) h.typed same.0 same.1 h.checked) in
      let Y = tabled q ms H meant' k c.place c.changed h'.typed changed_there (by_text H (0 + k) h'.span c.place h'.function c.changed (entries (slice_get ms (0 + k))) (variables_at (slice_get ms (0 + k))) h'.typed same'.0 same'.1 h'.checked) in
      let l = w X.table Y.table X.named Y.named h.typed h'.typed X.checked Y.checked in
      subst (λ (o : Option (Option tree.Function)). LikeEntry (number_there c) O gain o (element (typed_functions (declarations b.declared) u.functions) k)) (sym h.stands)
      (subst (λ (o : Option (Option tree.Function)). LikeEntry (number_there c) O gain (Some (Some (plain-TypedTree h.typed.tree))) o) (sym h'.stands) (functions l))

  changed_alike : ChangedAlike p q c G H O gain → EntryAt G ns 0 (length c.before) p (typed_functions (declarations a.declared) t.functions) → EntryAt H ms 0 (length c.before) q (typed_functions (declarations b.declared) u.functions)
      → LikeEntry (number_there c) O gain (element (typed_functions (declarations a.declared) t.functions) (length c.before)) (element (typed_functions (declarations b.declared) u.functions) (length c.before))
  changed_alike w (function_there h) (function_there h') = both_changed w h h'
  changed_alike w (nothing_there h) o = absurd (h.at c.place c.old old_there)
  changed_alike w (function_there h) (nothing_there h') = absurd (h'.at c.place c.changed changed_there)

  pub programs_alike : ChangedAlike p q c G H O gain → (m : ℕ) → LikePrograms (number_there c) O gain (program_of t m) (program_of u (number_there c m))
  programs_alike w m = record { all = λ j. at j (nat_eq j (length c.before)) refl; mains = refl }
    where
      at : (j : ℕ) (d : Bool) → nat_eq j (length c.before) ≡ d → LikeEntry (number_there c) O gain (element (program_of t m).functions j) (element (program_of u (number_there c m)).functions (number_there c j))
      at j false e = all_stay m (number_there c m) j (λ same. let y : nat_eq j (length c.before) ≡ true = eq-eqb j (length c.before) same in absurd (cc))
      at j true e = let same = eqb-true j (length c.before) e in
          subst (λ (i : ℕ). LikeEntry (number_there c) O gain (element (program_of t m).functions i) (element (program_of u (number_there c m)).functions (number_there c i))) (sym same)
          (subst (λ (i : ℕ). LikeEntry (number_there c) O gain (element (program_of t m).functions (length c.before)) (element (program_of u (number_there c m)).functions i)) (sym (number_here (length c.before) (length c.new)))
          (in_programs m (number_there c m) (length c.before) (length c.before)
          (changed_alike w (entry_at G p ns 0 p a.declared t.functions a.declares.items a.functions (length c.before)) (entry_at H q ms 0 q b.declared u.functions b.declares.items b.functions (length c.before)))))
