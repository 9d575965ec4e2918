-- An extraction without bounds, repaired, is the extraction with these bounds: at its new function by the list of lifetimes, and
-- elsewhere nothing is changed.
use Rattle.std.proofs.Common.{◌≡◌, ◌≢◌, ℕ, zero, suc, ◌+◌, ◌<◌, Bool, true, false, List, [], ◌∷◌, ◌++◌, length, map, Some, refl, sym, subst, ap, ap₂, ◌∙◌, arith}
use Rattle.std.specs.Prelude.{if◌then◌else◌}
use Rattle.rx_core.specs.declared.types.Bound.{Bound}
use Rattle.rx_core.specs.declared.types.Span.{Span}
use Rattle.rx_tree.specs.declared.tree.Ident.{Ident}
use Rattle.rx_tree.specs.declared.tree.BoundLifetime.{BoundLifetime}
use Rattle.rx_tree.specs.Plain as plain
use Rattle.rx_tree.specs.Plain.{Function, ItemTree, ProgramTree}
use Rattle.rx_tree.specs.Lists.{nth, Every}
use Rattle.rx_hoist_extraction.specs.Names.{Names, Distinct}
use Rattle.rx_hoist_extraction.specs.OwnLifetimes.{idents, declared_lifetimes}
use Rattle.rx_hoist_extraction.specs.Run.{Run, loops_round, run_parts}
use Rattle.rx_hoist_extraction.specs.Plan.{Plan, Bounds, has_enum}
use Rattle.rx_hoist_extraction.specs.Pinned.{pinned_function}
use Rattle.rx_hoist_extraction.specs.NewFunction.{new_function, new_lifetimes, with_bounds, shorts_of}
use Rattle.rx_hoist_extraction.specs.Extraction.{with_call, made_function, made_enum, added, new_number, in_two, at_function, extraction}
use Rattle.rx_hoist_extraction.proofs.NewItemsAt.{new_function_at}
use Rattle.rx_repair.specs.Repaired.{repaired_item, repaired}
use Rattle.rx_repair.specs.Named.{named, lifetimes_of, named_at}
use Rattle.rx_repair.proofs.Numbers.{list_repaired}

-- ---- at one item

at_place : (bs : List Bound) (F G : Span → Function → ProgramTree) (k : ℕ) (P : ProgramTree) (n : ℕ) (s : Span) (f : Function) → nth P n ≡ Some (plain.function_item s f)
    → ((is : ProgramTree) → repaired (F s f ++ is) k bs ≡ G s f ++ is) → repaired (at_function n F P) (n + k) bs ≡ at_function n G P
at_place bs F G k [] n s f e h = absurd (cc)
at_place bs F G k (plain.function_item t g ∷ is) zero s f e h = let place : t ≡ s = cc in
    let body : g ≡ f = cc in
    let none : 0 + k ≡ k = omega arith in
    ap (λ m. repaired (F t g ++ is) m bs) none ∙ (ap₂ (λ a b. repaired (F a b ++ is) k bs) place body ∙ (h is ∙ ap₂ (λ a b. G a b ++ is) (sym place) (sym body)))
at_place bs F G k (plain.rt_item t r ∷ is) zero s f e h = absurd (cc)
at_place bs F G k (plain.struct_item t d ∷ is) zero s f e h = absurd (cc)
at_place bs F G k (plain.enum_item t d ∷ is) zero s f e h = absurd (cc)
at_place bs F G k (i ∷ is) (suc n) s f e h = let more : suc n + k ≡ suc (n + k) = omega arith in
    ap (λ m. repaired (i ∷ at_function n F is) m bs) more ∙ ap (λ r. i ∷ r) (at_place bs F G k is n s f e h)

-- behind an item and maybe an enum
among_new : (bs : List Bound) (b : Bool) (old e bare made : ItemTree) → repaired_item bs bare ≡ made → (is : ProgramTree)
    → repaired ((old ∷ (if b then e ∷ bare ∷ [] else bare ∷ [])) ++ is) (if b then 2 else 1) bs ≡ (old ∷ (if b then e ∷ made ∷ [] else made ∷ [])) ++ is
among_new bs true old e bare made m is = ap (λ x. old ∷ e ∷ x ∷ is) m
among_new bs false old e bare made m is = ap (λ x. old ∷ x ∷ is) m

-- ---- names of the list that is declared

declared_are : (s : Span) (bs : Bounds) (all ls : List Ident)
    → map (λ (l : BoundLifetime). l.name.name) (map (λ (l : Ident). record { name = l; bounds = shorts_of s bs all l.name }) ls) ≡ idents ls
declared_are s bs all [] = refl
declared_are s bs all (l ∷ ls) = ap (λ r. l.name ∷ r) (declared_are s bs all ls)

module _ (P : ProgramTree) (r : Run) (pl : Plan) (bs : List Bound) (s : Span) (f : Function) (there : nth P r.item ≡ Some (plain.function_item s f)) where
  abbrev g : Function
  g = pinned_function P r.span pl.pins f

  abbrev own : List Ident
  own = new_lifetimes P pl r.span (run_parts r g)

  names_are : lifetimes_of (nth (extraction P r pl []) (new_number r pl)) ≡ idents own
  names_are = ap lifetimes_of (new_function_at P r pl [] s f there) ∙ declared_are r.span [] own own

  abbrev bounds : Bounds
  bounds = named_at (extraction P r pl []) (new_number r pl) bs

  made_repaired : Distinct (idents own) → Every (λ (x : List ℕ). x ≢ []) (idents own)
      → repaired_item bs (made_function P r pl [] g) ≡ made_function P r pl (named (idents own) bs) g
  made_repaired once words =
      ap (λ (ls : List BoundLifetime). plain.function_item r.span (record (new_function P pl [] r.span (loops_round r g) (run_parts r g)) { lifetimes = ls }))
      (list_repaired r.span bs own once words)

  pub repaired_extraction : Distinct (lifetimes_of (nth (extraction P r pl []) (new_number r pl)))
      → Every (λ (x : List ℕ). x ≢ []) (lifetimes_of (nth (extraction P r pl []) (new_number r pl)))
      → repaired (extraction P r pl []) (new_number r pl) bs ≡ extraction P r pl bounds
  repaired_extraction once words =
      let d = subst (λ xs. Distinct xs) names_are once in
      let w = subst (λ (xs : Names). Every (λ (x : List ℕ). x ≢ []) xs) names_are words in
      at_place bs (λ t h. in_two P r pl [] t (pinned_function P r.span pl.pins h)) (λ t h. in_two P r pl (named (idents own) bs) t (pinned_function P r.span pl.pins h))
      (added pl) P r.item s f there (among_new bs (has_enum pl.exits) (plain.function_item s (with_call P r pl g)) (made_enum P r pl)
      (made_function P r pl [] g) (made_function P r pl (named (idents own) bs) g) (made_repaired d w))
      ∙ ap (λ (xs : Names). extraction P r pl (named xs bs)) (sym names_are)
