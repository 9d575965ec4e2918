-- Programs that are equal apart from spans are one program of the meaning, and so is the text of a short signature.
use Rattle.std.proofs.Common.{◌≡◌, ℕ, suc, Bool, List, [], ◌∷◌, map, refl, sym, ap, subst, ◌∙◌, if◌then◌else◌, slice_get}
use Rattle.rx_core.specs.Bytes.{same_bytes}
use Rattle.rx_tree.specs.Plain as plain
use Rattle.rx_tree.specs.Plain.{ItemTree, ProgramTree}
use Rattle.rx_tree.specs.Erase.{erase_item, erase_program, SameProgram}
use Rattle.rx_tree.specs.Size.{IsNumbered}
use Rattle.rx_resolve_names.specs.declared.resolved.ItemNames.{ItemNames}
use Rattle.rx_typed.specs.PlainTypes.{declarations}
use Rattle.rx_typed.specs.PlainTree.{plain-TypedTree}
use Rattle.rx_typed_declarations.proofs.Polarities.{same_declared}
use Rattle.rx_typeck_solver.specs.Facts.{KnownItems}
use Rattle.rx_typeck_solver.specs.Stepping.{known}
use Rattle.rx_typeck_typed.specs.Typing.{IsTyped}
use Rattle.rx_typeck_typed.specs.declared.typed.Typed.{Typed}
use Rattle.rx_typeck_typed.specs.declared.typed.TypedFn.{TypedFn}
use Rattle.rx_typeck_typed.specs.WellTyped.{functions_of, EachIsOf, TypedFunction}
use Rattle.rx_meaning.specs.Programs.{is_main, main_in}
use Rattle.rx_machine.specs.Functions.{program_of, typed_functions}
use Rattle.rx_check.specs.Front.{IsCheckedOf, Judged}
use Rattle.rx_check_laws.specs.SameTyped.{SameFunctions, SameTyped}
use Rattle.rx_compact.specs.Outliving.{is_single}
use Rattle.rx_compact.specs.Compacted.{IsCompacted}
use Rattle.rx_compact_types.specs.ShortTyped.{ShortProgram}
use Rattle.rx_compact_runs.proofs.Running.{functions_same, main_stays, ok_is, one_program, Ones, SameTrees, Typings}
use Rattle.rx_compact_texts.proofs.Accepted.{Ignores}

-- ---- trees

same_trees : (ts us : List TypedFn) → SameFunctions ts us → SameTrees ts us
same_trees [] [] s = tt
same_trees (t ∷ ts) (u ∷ us) s = (ap (λ (f : TypedFn). plain-TypedTree f.tree) s.0, same_trees ts us s.1)
same_trees [] (u ∷ us) s = absurd s
same_trees (t ∷ ts) [] s = absurd s

same_typed : (t u : Typed) → SameTyped t u → (m : ℕ) → program_of u m ≡ program_of t m
same_typed t u s m =
    ap (λ fs. record { functions = fs; main = m }) (ap (λ d. typed_functions (declarations d.items) u.functions) s.declared
    ∙ functions_same (declarations t.decls.items) t.functions u.functions (same_trees t.functions u.functions s.functions))

-- two typed programs of one text
one_tree : (K : KnownItems) (ts us : List TypedFn) (fs : List TypedFunction) → EachIsOf K ts fs → EachIsOf K us fs → SameTrees ts us
one_tree K [] [] [] a b = tt
one_tree K (t ∷ ts) (u ∷ us) (f ∷ fs) a b = (b.0.body ∙ sym a.0.body, one_tree K ts us fs a.1 b.1)
one_tree K [] us (f ∷ fs) a b = absurd a
one_tree K (t ∷ ts) us [] a b = absurd a
one_tree K [] (u ∷ us) [] a b = absurd b
one_tree K (t ∷ ts) [] (f ∷ fs) a b = absurd b

module _ (typings : Typings) (ones : Ones) where
  one_typed : (p : ProgramTree) (names : List ItemNames) (t u : Typed) → IsTyped p names t → IsTyped p names u → (m : ℕ) → program_of u m ≡ program_of t m
  one_typed p names t u a b m =
      let w = typings p names t a in let x = ones p names t a w in let y = ones p names u b w in
      let e : declarations u.decls.items ≡ declarations t.decls.items = same_declared u.decls.items w.declared y.0 ∙ sym (same_declared t.decls.items w.declared x.0) in
      ap (λ fs. record { functions = fs; main = m }) (ap (λ D. typed_functions D u.functions) e
      ∙ functions_same (declarations t.decls.items) t.functions u.functions (one_tree (known w.declared w.sizes) t.functions u.functions (functions_of p names w) x.1 y.1))

-- ---- `main`

erased_main : (x : ItemTree) → is_main (erase_item x) ≡ is_main x
erased_main (plain.function_item s f) = refl
erased_main (plain.rt_item s r) = refl
erased_main (plain.struct_item s d) = refl
erased_main (plain.enum_item s d) = refl

main_erased : (xs : ProgramTree) (n : ℕ) → main_in (erase_program xs) n ≡ main_in xs n
main_erased [] n = refl
main_erased (x ∷ xs) n =
    ap (λ b. if b then n else main_in (erase_program xs) (suc n)) (erased_main x) ∙ ap (λ k. if is_main x then n else k) (main_erased xs (suc n))

same_main : (p q : ProgramTree) → SameProgram p q → main_in q 0 ≡ main_in p 0
same_main p q s = sym (main_erased q 0) ∙ ap (λ z. main_in z 0) (sym s) ∙ main_erased p 0

-- ---- programs

module _ (typings : Typings) (ones : Ones) (ignores : Ignores) where
  pub spans_run_alike : (p q : ProgramTree) → SameProgram p q → (x y : Judged) → IsCheckedOf p x → IsCheckedOf q y → program_of y.front.typed y.front.main ≡ program_of x.front.typed x.front.main
  spans_run_alike p q same x y a b =
      let t = x.front.typed in let v = ignores p q same t (record { front = a.front.accepted; borrows = a.borrows }) in let u = v.0 in
      let f = v.1.front in let g = b.front.accepted in
      let n : g.names ≡ f.names = ok_is g.names f.names (sym g.meant.names_are ∙ f.meant.names_are) in
      let m : y.front.main ≡ x.front.main = b.front.main ∙ (same_main p q same ∙ sym a.front.main) in
      ap (program_of y.front.typed) m ∙ one_typed typings ones q f.names u y.front.typed f.typed (subst (λ ns. IsTyped q ns y.front.typed) n g.typed) x.front.main ∙ same_typed t u v.2 x.front.main

  pub short_text_runs_alike : ((p : ProgramTree) (i : ℕ) (q : ProgramTree) (c : IsCompacted p i q) → IsNumbered p → ShortProgram p i q c.names c.declared)
      → (p : ProgramTree) (i : ℕ) (q x : ProgramTree) → IsCompacted p i q → SameProgram x q → (j k : Judged) → IsCheckedOf p j → IsCheckedOf x k
      → program_of k.front.typed k.front.main ≡ program_of j.front.typed j.front.main
  short_text_runs_alike short p i q x c same j k a b =
      let s = short p i q c a.front.numbered in let f = a.front.accepted in
      let v = ignores x q same k.front.typed (record { front = b.front.accepted; borrows = b.borrows }) in let u = v.0 in let g = v.1.front in
      let n : f.names ≡ c.names = ok_is f.names c.names (sym f.meant.names_are ∙ c.meant.names_are) in
      let l : g.names ≡ s.news = ok_is g.names s.news (sym g.meant.names_are ∙ s.meant.names_are) in
      let m : k.front.main ≡ j.front.main
      = b.front.main ∙ (sym (same_main x q same) ∙ (ap (λ z. main_in z 0) c.same ∙ (main_stays c.outlives (is_single (slice_get c.declared i)) p i 0 ∙ sym a.front.main))) in
      ap (program_of k.front.typed) m ∙ sym (same_typed k.front.typed u v.2 j.front.main)
      ∙ one_program typings ones p i q c s j.front.typed u (subst (λ ns. IsTyped p ns j.front.typed) n f.typed) (subst (λ ns. IsTyped q ns u) l g.typed) j.front.main
