-- The main function of an extraction is that of its program, with the call where the run is its own: the new function has another name.
use Rattle.std.proofs.Common.{◌≡◌, ℕ, suc, Bool, true, false, if◌then◌else◌, List, [], ◌∷◌, ◌++◌, take, drop, Option, Some, None, Ok, refl, sym, ap, ◌∙◌, subst, bytes_eq, codes}
use Rattle.rx_core.specs.declared.types.Span.{Span}
use Rattle.rx_tree.specs.Lists.{Every, nth}
use Rattle.rx_tree.specs.Plain as plain
use Rattle.rx_tree.specs.Plain.{Function, ItemTree, ProgramTree}
use Rattle.rx_resolve_names.specs.Meant.{function_name}
use Rattle.rx_typeck_typed.specs.Programs.{main_or, main_of, main_fits}
use Rattle.rx_hoist_extraction.specs.Run.{Run}
use Rattle.rx_hoist_extraction.specs.Plan.{Bounds, Plan, has_enum}
use Rattle.rx_hoist_extraction.specs.Pinned.{pinned_function}
use Rattle.rx_hoist_extraction.specs.Extraction.{made_enum, made_function, new_items, with_call, extraction}
use Rattle.rx_hoist_extraction.proofs.NewItemsAt.{items_are}
use Rattle.rx_engine_names.specs.NewNames.{Other, AreFree}
use Rattle.rx_engine_names.proofs.ExtractionItems.{parts_of}
use Rattle.rx_engine_names.proofs.NewScopes.{is_name}

-- ---- where it is looked for

any_place : (s u : Span) (o : Option Function) → main_fits s o ≡ Ok tt → main_fits u o ≡ Ok tt
any_place s u None e = absurd (cc)
any_place s u (Some f) e = e

behind_one : (s : Span) (i : ItemTree) (a b : Option Function) → (main_fits s a ≡ Ok tt → main_fits s b ≡ Ok tt) → main_fits s (main_or i a) ≡ Ok tt → main_fits s (main_or i b) ≡ Ok tt
behind_one s (plain.rt_item t r) a b h e = h e
behind_one s (plain.struct_item t d) a b h e = h e
behind_one s (plain.enum_item t d) a b h e = h e
behind_one s (plain.function_item t f) a b h e = by (bytes_eq f.name.name (codes "main")) e
  where
    by : (c : Bool) → main_fits s (if c then Some f else a) ≡ Ok tt → main_fits s (if c then Some f else b) ≡ Ok tt
    by true e = e
    by false e = h e

behind_all : (s : Span) (is : ProgramTree) (xs ys : ProgramTree) → (main_fits s (main_of xs) ≡ Ok tt → main_fits s (main_of ys) ≡ Ok tt) → main_fits s (main_of (is ++ xs)) ≡ Ok tt → main_fits s (main_of (is ++ ys)) ≡ Ok tt
behind_all s [] xs ys h e = h e
behind_all s (i ∷ is) xs ys h e = behind_one s i (main_of (is ++ xs)) (main_of (is ++ ys)) (behind_all s is xs ys h) e

-- a name that no function has is not that of the main one
not_main : (s : Span) (x : List ℕ) (is : ProgramTree) → Every (λ i. Other x (function_name i)) is → main_fits s (main_of is) ≡ Ok tt → bytes_eq x (codes "main") ≡ false
not_main s x [] h e = absurd (cc)
not_main s x (plain.rt_item t r ∷ is) h e = not_main s x is h.1 e
not_main s x (plain.struct_item t d ∷ is) h e = not_main s x is h.1 e
not_main s x (plain.enum_item t d ∷ is) h e = not_main s x is h.1 e
not_main s x (plain.function_item t f ∷ is) h e = by (bytes_eq f.name.name (codes "main")) refl e (not_main s x is h.1)
  where
    other : bytes_eq f.name.name (codes "main") ≡ true → (b : Bool) → bytes_eq x (codes "main") ≡ b → b ≡ false
    other m true g = absurd (h.0 (is_name x (codes "main") g ∙ sym (is_name f.name.name (codes "main") m)))
    other m false g = refl

    by : (b : Bool) → bytes_eq f.name.name (codes "main") ≡ b → main_fits s (if b then Some f else main_of is) ≡ Ok tt → (main_fits s (main_of is) ≡ Ok tt → bytes_eq x (codes "main") ≡ false) → bytes_eq x (codes "main") ≡ false
    by true m e rest = other m (bytes_eq x (codes "main")) refl
    by false m e rest = rest e

module _ (P : ProgramTree) (r : Run) (pl : Plan) (bs : Bounds) (s : Span) (f : Function) (there : nth P r.item ≡ Some (plain.function_item s f)) (free : AreFree P pl) where
  abbrev g : Function
  g = pinned_function P r.span pl.pins f

  new_ones : (is : ProgramTree) → bytes_eq pl.name (codes "main") ≡ false → main_of (new_items P r pl bs g ++ is) ≡ main_of is
  new_ones is e = by (has_enum pl.exits)
    where
      function : (o : Option Function) (h : Function) → (if bytes_eq pl.name (codes "main") then Some h else o) ≡ o
      function o h = ap (λ (b : Bool). if b then Some h else o) e

      by : (b : Bool) → main_of ((if b then made_enum P r pl ∷ made_function P r pl bs g ∷ [] else made_function P r pl bs g ∷ []) ++ is) ≡ main_of is
      by true = function (main_of is) _
      by false = function (main_of is) _

  pub main_there : (a b : Span) → main_fits a (main_of P) ≡ Ok tt → main_fits b (main_of (extraction P r pl bs)) ≡ Ok tt
  main_there a b e =
      let none = not_main a pl.name P free.function e in
      let parts = (parts_of P r.item (plain.function_item s f) there).0 in
      let before = take r.item P in let behind = drop (suc r.item) P in
      let e' = subst (λ (p : ProgramTree). main_fits a (main_of p) ≡ Ok tt) parts e in
      let z = behind_all a before (plain.function_item s f ∷ behind) (plain.function_item s (with_call P r pl g) ∷ (new_items P r pl bs g ++ behind)) (changed behind none) e' in
      any_place a b (main_of (extraction P r pl bs)) (subst (λ (p : ProgramTree). main_fits a (main_of p) ≡ Ok tt) (sym (items_are P r pl bs s f there)) z)
    where
      changed : (behind : ProgramTree) → bytes_eq pl.name (codes "main") ≡ false → main_fits a (main_of (plain.function_item s f ∷ behind)) ≡ Ok tt → main_fits a (main_of (plain.function_item s (with_call P r pl g) ∷ (new_items P r pl bs g ++ behind))) ≡ Ok tt
      changed behind none e = by (bytes_eq f.name.name (codes "main")) e
        where
          by : (c : Bool) → main_fits a (if c then Some f else main_of behind) ≡ Ok tt → main_fits a (if c then Some (with_call P r pl g) else main_of (new_items P r pl bs g ++ behind)) ≡ Ok tt
          by true e = e
          by false e = subst (λ (o : Option Function). main_fits a o ≡ Ok tt) (sym (new_ones behind none)) e
