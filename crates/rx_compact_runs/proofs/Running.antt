-- Programs with the same typed trees are one program of the meaning.
use Rattle.std.proofs.Common.{◌≡◌, ℕ, zero, suc, Bool, true, false, List, [], ◌∷◌, map, Some, Result, Ok, refl, sym, ap, ap₂, subst, ◌∙◌, if◌then◌else◌, slice_get}
use Rattle.rx_tree.specs.Plain as plain
use Rattle.rx_tree.specs.Plain.{ItemTree, ProgramTree}
use Rattle.rx_tree.specs.Size.{IsNumbered}
use Rattle.rx_resolve_names.specs.declared.resolved.ItemNames.{ItemNames}
use Rattle.rx_typed.specs.Types.{Declarations}
use Rattle.rx_typed.specs.PlainTypes.{declarations}
use Rattle.rx_typed.specs.PlainTree.{plain-TypedTree}
use Rattle.rx_typed_declarations.specs.Variance.{unrecorded}
use Rattle.rx_typed_declarations.proofs.Polarities.{same_declared}
use Rattle.rx_typeck_solver.specs.Facts.{KnownItems}
use Rattle.rx_typeck_solver.specs.Stepping.{known}
use Rattle.rx_typeck_typed.specs.Typing.{IsTyped}
use Rattle.rx_typeck_typed.specs.declared.typed.Typed.{Typed}
use Rattle.rx_typeck_typed.specs.declared.typed.TypedFn.{TypedFn}
use Rattle.rx_typeck_typed.specs.WellTyped.{WellTyped, TypedFunction, functions_of, EachIsOf}
use Rattle.rx_meaning.specs.Programs.{is_main, main_in}
use Rattle.rx_machine.specs.Functions.{is_function, first_of, behind, typed_functions, program_of}
use Rattle.rx_check.specs.Front.{IsCheckedOf, Judged}
use Rattle.rx_compact.specs.Outliving.{is_single}
use Rattle.rx_compact.specs.Compacted.{compacted_item, compacted, IsCompacted}
use Rattle.rx_compact_types.specs.ShortTyped.{SameFunctions, ShortProgram}

-- ---- trees

abbrev pub SameTrees : List TypedFn → List TypedFn → Type 0
SameTrees [] [] = Unit {0}
SameTrees (t ∷ ts) (u ∷ us) = (plain-TypedTree u.tree ≡ plain-TypedTree t.tree) × SameTrees ts us
SameTrees _ _ = ⊥

trees_same : (K J : KnownItems) (ts us : List TypedFn) (fs gs : List TypedFunction) → EachIsOf K ts fs → EachIsOf J us gs → SameFunctions fs gs → SameTrees ts us
trees_same K J [] [] [] [] a b s = tt
trees_same K J (t ∷ ts) (u ∷ us) (f ∷ fs) (g ∷ gs) a b s = (b.0.body ∙ (s.0.body ∙ sym a.0.body), trees_same K J ts us fs gs a.1 b.1 s.1)
trees_same K J [] us (f ∷ fs) gs a b s = absurd a
trees_same K J (t ∷ ts) us [] gs a b s = absurd a
trees_same K J [] us [] (g ∷ gs) a b s = absurd s
trees_same K J [] (u ∷ us) [] [] a b s = absurd b
trees_same K J (t ∷ ts) us (f ∷ fs) [] a b s = absurd s
trees_same K J (t ∷ ts) [] (f ∷ fs) (g ∷ gs) a b s = absurd b

first_same : (b : Bool) (ts us : List TypedFn) → SameTrees ts us → first_of b us ≡ first_of b ts
first_same true [] [] s = refl
first_same true (t ∷ ts) (u ∷ us) s = ap (λ f. Some f) s.0
first_same true [] (u ∷ us) s = absurd s
first_same true (t ∷ ts) [] s = absurd s
first_same false ts us s = refl

behind_same : (b : Bool) (ts us : List TypedFn) → SameTrees ts us → SameTrees (behind b ts) (behind b us)
behind_same true [] [] s = tt
behind_same true (t ∷ ts) (u ∷ us) s = s.1
behind_same true [] (u ∷ us) s = absurd s
behind_same true (t ∷ ts) [] s = absurd s
behind_same false ts us s = s

pub functions_same : (D : Declarations) (ts us : List TypedFn) → SameTrees ts us → typed_functions D us ≡ typed_functions D ts
functions_same [] ts us s = refl
functions_same (d ∷ ds) ts us s = ap₂ (λ f fs. f ∷ fs) (first_same (is_function d) ts us s)
    (functions_same ds (behind (is_function d) ts) (behind (is_function d) us) (behind_same (is_function d) ts us s))

-- ---- `main`

module _ (o : ℕ → ℕ → Bool) (single : Bool) where
  main_same : (x : ItemTree) → is_main (compacted_item o single x) ≡ is_main x
  main_same (plain.function_item s f) = refl
  main_same (plain.rt_item s r) = refl
  main_same (plain.struct_item s d) = refl
  main_same (plain.enum_item s d) = refl

  pub main_stays : (xs : ProgramTree) (m n : ℕ) → main_in (compacted o single xs m) n ≡ main_in xs n
  main_stays [] m n = refl
  main_stays (x ∷ xs) zero n = ap (λ b. if b then n else main_in xs (suc n)) (main_same x)
  main_stays (x ∷ xs) (suc m) n = ap (λ k. if is_main x then n else k) (main_stays xs m (suc n))

-- ---- programs

pub ok_is : {A E : Type 0} (a b : A) → ◌≡◌ {A = Result A E} (Ok a) (Ok b) → a ≡ b
ok_is a b e = cc

-- a typed program is well-typed, and its functions are those of each way to see it
abbrev pub Typings : Type 0
Typings = (p : ProgramTree) (names : List ItemNames) (t : Typed) → IsTyped p names t → WellTyped p names

abbrev pub Ones : Type 0
Ones = (p : ProgramTree) (names : List ItemNames) (t : Typed) → IsTyped p names t → (w : WellTyped p names)
    → (map unrecorded t.decls.items ≡ map unrecorded w.declared) × EachIsOf (known w.declared w.sizes) t.functions (functions_of p names w)

module _ (typings : Typings) (ones : Ones) where
  pub one_program : (p : ProgramTree) (i : ℕ) (q : ProgramTree) (c : IsCompacted p i q) (s : ShortProgram p i q c.names c.declared) (t u : Typed) → IsTyped p c.names t → IsTyped q s.news u
      → (m : ℕ) → program_of u m ≡ program_of t m
  one_program p i q c s t u a b m =
      let w = typings p c.names t a in
      let r = s.typed.there w in
      let v = r.0 in
      let x = ones p c.names t a w in
      let y = ones q s.news u b v in
      let d : declarations v.declared ≡ declarations w.declared =
      ap declarations (ok_is v.declared s.declares.new (sym v.declares.items ∙ s.declares.declares.items)) ∙ (s.declares.same ∙ ap declarations (ok_is c.declared w.declared (sym c.declares.items ∙ w.declares.items))) in
      let e : declarations u.decls.items ≡ declarations t.decls.items =
      same_declared u.decls.items v.declared y.0 ∙ (d ∙ sym (same_declared t.decls.items w.declared x.0)) in
      ap (λ fs. record { functions = fs; main = m }) (ap (λ D. typed_functions D u.functions) e
      ∙ functions_same (declarations t.decls.items) t.functions u.functions
      (trees_same (known w.declared w.sizes) (known v.declared v.sizes) t.functions u.functions (functions_of p c.names w) (functions_of q s.news v) x.1 y.1 r.1))

  pub accepted_alike : ((p : ProgramTree) (i : ℕ) (q : ProgramTree) (c : IsCompacted p i q) → IsNumbered p → ShortProgram p i q c.names c.declared)
      → (p : ProgramTree) (i : ℕ) (q : ProgramTree) → IsCompacted p i q → (x y : Judged) → IsCheckedOf p x → IsCheckedOf q y
      → program_of y.front.typed y.front.main ≡ program_of x.front.typed x.front.main
  accepted_alike short p i q c x y a b =
      let s = short p i q c a.front.numbered in
      let f = a.front.accepted in
      let g = b.front.accepted in
      let n : f.names ≡ c.names = ok_is f.names c.names (sym f.meant.names_are ∙ c.meant.names_are) in
      let k : g.names ≡ s.news = ok_is g.names s.news (sym g.meant.names_are ∙ s.meant.names_are) in
      let m : y.front.main ≡ x.front.main = b.front.main ∙ (ap (λ q. main_in q 0) c.same ∙ (main_stays c.outlives (is_single (slice_get c.declared i)) p i 0 ∙ sym a.front.main)) in
      ap (program_of y.front.typed) m
      ∙ one_program p i q c s x.front.typed y.front.typed (subst (λ ns. IsTyped p ns x.front.typed) n f.typed) (subst (λ ns. IsTyped q ns y.front.typed) k g.typed) x.front.main
