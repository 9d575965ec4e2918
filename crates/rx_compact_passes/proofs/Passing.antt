-- A program with a short signature passes coverage and initialisation exactly where it did.
use Rattle.std.proofs.Common.{◌≡◌, ◌↔◌, ℕ, suc, ◌<◌, Bool, List, [], ◌∷◌, length, Result, Ok, unwrap_or, refl, sym, ap, subst, ◌∙◌, arith, slice_get}
use Rattle.rx_tree.specs.Plain.{ProgramTree}
use Rattle.rx_tree.specs.Size.{IsNumbered}
use Rattle.rx_graph_cycles.specs.Reaches.{NoCycle}
use Rattle.rx_resolve_names.specs.declared.resolved.ItemNames.{ItemNames}
use Rattle.rx_resolve_names.specs.Causes.{Meant}
use Rattle.rx_typed.specs.declared.declarations.Decl.{Decl}
use Rattle.rx_typed.specs.Types.{Declarations}
use Rattle.rx_typed.specs.PlainTypes.{declarations}
use Rattle.rx_typed_declarations.specs.Held.{held_by_each}
use Rattle.rx_typed_declarations.specs.Sizes.{Sized, IsSizes}
use Rattle.rx_typed_declarations.proofs.Polarities.{same_declared}
use Rattle.rx_typeck_solver.specs.Cells.{sizes_of}
use Rattle.rx_typeck_solver.specs.Stepping.{known}
use Rattle.rx_typeck_typed.specs.Programs.{Fits, Declares}
use Rattle.rx_typeck_typed.specs.Typing.{Given, FunctionsTyped, IsTyped}
use Rattle.rx_typeck_typed.specs.declared.typed.Typed.{Typed}
use Rattle.rx_typeck_typed.specs.declared.typed.TypedFn.{TypedFn}
use Rattle.rx_lower_walks.specs.Pieces.{graph}
use Rattle.rx_cover.specs.Choices.{choices_of}
use Rattle.rx_cover.specs.Causes.{AllCovered}
use Rattle.rx_facts.specs.Functions.{IsInitialised}
use Rattle.rx_facts.specs.Passing.{AllAre, Each}
use Rattle.rx_check.specs.Passes.{matches_of, FunctionsCovered}
use Rattle.rx_compact.specs.Outliving.{is_single}
use Rattle.rx_compact.specs.Compacted.{compacted, Tells, IsCompacted}
use Rattle.rx_compact_laws.specs.ShortNames.{NamesStay}
use Rattle.rx_compact_laws.proofs.ShortNames.{names_stay}
use Rattle.rx_compact_types.specs.ShortTyped.{ShortProgram}
use Rattle.rx_compact_types.proofs.Programs.{short_tables}
use Rattle.rx_compact_passes.specs.PassAlike.{SameSites, PassAlike}
use Rattle.rx_compact_passes.proofs.Alike.{FunctionAlike, all_alike, initialised_alike}

ok_is : {A E : Type 0} (a b : A) → ◌≡◌ {A = Result A E} (Ok a) (Ok b) → a ≡ b
ok_is a b e = cc

same_list : (xs ys : List ℕ) → length xs ≡ length ys → ((i : ℕ) → i < length xs → slice_get xs i ≡ slice_get ys i) → xs ≡ ys
same_list [] [] long each = refl
same_list [] (y ∷ ys) long each = absurd (omega (arith, long))
same_list (x ∷ xs) [] long each = absurd (omega (arith, long))
same_list (x ∷ xs) (y ∷ ys) long each =
    let here : x ≡ y = ap (λ o. unwrap_or o 0) (each 0 (omega arith)) in
    let more : xs ≡ ys = same_list xs ys (omega (arith, long)) (λ i less. each (suc i) (omega (arith, less))) in
    λ j. here j ∷ more j

-- ---- the functions, one after another

covered_same : (D E : Declarations) → E ≡ D → (ts us : List TypedFn) → Each FunctionAlike ts us → FunctionsCovered D ts ↔ FunctionsCovered E us
covered_same D E e [] [] s = (λ a. tt, λ a. tt)
covered_same D E e [] (u ∷ us) s = absurd s
covered_same D E e (t ∷ ts) [] s = absurd s
covered_same D E e (t ∷ ts) (u ∷ us) s =
    let r = covered_same D E e ts us s.1 in
    let m : matches_of u ≡ matches_of t = ap (λ b. choices_of b.body) s.0.bodies in (
      λ a. (subst (λ D. AllCovered D (matches_of u)) (sym e) (subst (λ c. AllCovered D c) (sym m) a.0), r.0 a.1),
      λ a. (subst (λ c. AllCovered D c) m (subst (λ D. AllCovered D (matches_of u)) e a.0), r.1 a.1),
    )

sites_same : (ts us : List TypedFn) → Each FunctionAlike ts us → Each SameSites ts us
sites_same [] [] s = tt
sites_same [] (u ∷ us) s = absurd s
sites_same (t ∷ ts) [] s = absurd s
sites_same (t ∷ ts) (u ∷ us) s = (record { sites = ap graph s.0.bodies }, sites_same ts us s.1)

initialised_same : (D E : Declarations) → E ≡ D → (parts : ℕ → ℕ) (ts us : List TypedFn) → Each FunctionAlike ts us → AllAre (IsInitialised D parts) ts ↔ AllAre (IsInitialised E parts) us
initialised_same D E e parts [] [] s = (λ a. tt, λ a. tt)
initialised_same D E e parts [] (u ∷ us) s = absurd s
initialised_same D E e parts (t ∷ ts) [] s = absurd s
initialised_same D E e parts (t ∷ ts) (u ∷ us) s =
    let h = initialised_alike D E e parts t u s.0 in
    let r = initialised_same D E e parts ts us s.1 in
    (λ a. (h.0 a.0, r.0 a.1), λ a. (h.1 a.0, r.1 a.1))

-- ---- the program

module _ (finite : (p : ProgramTree) (D : Declarations) → Fits p D → NoCycle (held_by_each D)) (some : (D : Declarations) → NoCycle (held_by_each D) → (P : ℕ → ℕ) × Sized D P) where
  one_table : (D : Declarations) (xs ys : List ℕ) → NoCycle (held_by_each D) → IsSizes D xs → IsSizes D ys → xs ≡ ys
  one_table D xs ys none x y = let s = some D none in
      same_list xs ys (x.whole ∙ sym y.whole) (λ i less. let within : i < length D = omega (arith, less, x.whole) in
      x.each s.0 s.1 i within ∙ sym (y.each s.0 s.1 i within))

  module _ (p : ProgramTree) (i : ℕ) (names : List ItemNames) (meant : Meant p names) (small : IsNumbered p) (ds : List Decl) (declares : Declares p names ds) (o : ℕ → ℕ → Bool) (tells : Tells ds i o)
      (s : ShortProgram p i (compacted o (is_single (slice_get ds i)) p i) names ds) (t u : Typed) (a : IsTyped p names t) (b : IsTyped (compacted o (is_single (slice_get ds i)) p i) s.news u) where
    same_plain : declarations b.declared ≡ declarations a.declared
    same_plain = ap declarations (ok_is b.declared s.declares.new (sym b.declares.items ∙ s.declares.declares.items)) ∙ (s.declares.same ∙ ap declarations (ok_is ds a.declared (sym declares.items ∙ a.declares.items)))

    pub functions_alike : Each FunctionAlike t.functions u.functions
    functions_alike =
        let single = is_single (slice_get ds i) in
        let q = compacted o single p i in
        let N : NamesStay o single p i names = names_stay o single p i names meant in
        let n : s.news ≡ N.news = ok_is s.news N.news (sym s.meant.names_are ∙ N.meant.names_are) in
        let z : b.sizes ≡ a.sizes = one_table (declarations a.declared) b.sizes a.sizes (finite p (declarations a.declared) a.declares.fits) (subst (λ D. IsSizes D b.sizes) same_plain b.is_sizes) a.is_sizes in
        let k : known b.declared b.sizes ≡ known a.declared a.sizes = λ j. record { items = same_plain j; sizes = sizes_of (z j) } in
        let G : Given = record { program = p; declared = a.declared; sizes = a.sizes } in
        let H : Given = record { program = q; declared = b.declared; sizes = b.sizes } in
        all_alike G H k o single names N.news i N.others 0 p i (omega arith) (short_tables p i names meant small ds declares o tells) t.functions u.functions a.functions (subst (λ ns. FunctionsTyped H ns 0 q u.functions) n b.functions)

    pub plain_alike : declarations u.decls.items ≡ declarations t.decls.items
    plain_alike = same_declared u.decls.items b.declared b.same ∙ (same_plain ∙ sym (same_declared t.decls.items a.declared a.same))

    made : PassAlike t u
    made = record {
      declared = plain_alike;
      covered = covered_same (declarations t.decls.items) (declarations u.decls.items) plain_alike t.functions u.functions functions_alike;
      sites = sites_same t.functions u.functions functions_alike;
      initialised = λ parts. initialised_same (declarations t.decls.items) (declarations u.decls.items) plain_alike parts t.functions u.functions functions_alike;
    }

  pub pass_alike : (p : ProgramTree) (i : ℕ) (q : ProgramTree) (c : IsCompacted p i q) → IsNumbered p → (s : ShortProgram p i q c.names c.declared) (t u : Typed) → IsTyped p c.names t → IsTyped q s.news u → PassAlike t u
  pass_alike p i q c small s t u a b =
      subst (λ q. (s : ShortProgram p i q c.names c.declared) → IsTyped q s.news u → PassAlike t u) (sym c.same) (λ s b. made p i c.names c.meant small c.declared c.declares c.outlives c.tells s t u a b) s b
