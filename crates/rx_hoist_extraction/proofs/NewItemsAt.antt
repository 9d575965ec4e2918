-- Where the items of the extraction stand: what is in front of the function of the run and behind it is the old program's. By
-- induction on the items in front.
use Rattle.std.proofs.Common.{◌≡◌, ℕ, zero, suc, ◌+◌, ◌-◌, ◌<◌, Bool, true, false, List, [], ◌∷◌, ◌++◌, Some, take, drop, refl, ap, ap₂, ◌∙◌, arith}
use Rattle.std.specs.Prelude.{if◌then◌else◌}
use Rattle.rx_core.specs.declared.types.Span.{Span}
use Rattle.rx_tree.specs.Plain as plain
use Rattle.rx_tree.specs.Plain.{Function, ItemTree, ProgramTree}
use Rattle.rx_tree.specs.Lists.{nth}
use Rattle.rx_hoist_extraction.specs.Run.{Run}
use Rattle.rx_hoist_extraction.specs.Plan.{Bounds, Plan, has_enum}
use Rattle.rx_hoist_extraction.specs.Pinned.{pinned_function}
use Rattle.rx_hoist_extraction.specs.Extraction.{with_call, made_function, made_enum, added, new_number, in_two, at_function, extraction}

-- ---- what becomes of one function

front_at : (F : Span → Function → ProgramTree) (P : ProgramTree) (n k : ℕ) → k < n → nth (at_function n F P) k ≡ nth P k
front_at F [] n k l = refl
front_at F (i ∷ is) zero k l = absurd (omega arith)
front_at F (i ∷ is) (suc n) zero l = refl
front_at F (i ∷ is) (suc n) (suc k) l = front_at F is n k (omega arith)

there_at : (F : Span → Function → ProgramTree) (P : ProgramTree) (n : ℕ) (s : Span) (f : Function) → nth P n ≡ Some (plain.function_item s f)
    → at_function n F P ≡ take n P ++ (F s f ++ drop (suc n) P)
there_at F [] n s f e = absurd (cc)
there_at F (plain.function_item t g ∷ is) zero s f e = let place : t ≡ s = cc in
    let body : g ≡ f = cc in
    ap₂ (λ a b. F a b ++ is) place body
there_at F (plain.rt_item t r ∷ is) zero s f e = absurd (cc)
there_at F (plain.struct_item t d ∷ is) zero s f e = absurd (cc)
there_at F (plain.enum_item t d ∷ is) zero s f e = absurd (cc)
there_at F (i ∷ is) (suc n) s f e = ap (λ ys. i ∷ ys) (there_at F is n s f e)

-- ---- places in lists

nth_front : {A : Type 0} (xs : List A) (n : ℕ) (x : A) → nth xs n ≡ Some x → (ys : List A) (k : ℕ) → nth (take n xs ++ ys) (n + k) ≡ nth ys k
nth_front [] n x e ys k = absurd (cc)
nth_front (y ∷ xs) zero x e ys k = let none : 0 + k ≡ k = omega arith in ap (nth ys) none
nth_front (y ∷ xs) (suc n) x e ys k = let more : suc n + k ≡ suc (n + k) = omega arith in ap (nth (y ∷ (take n xs ++ ys))) more ∙ nth_front xs n x e ys k

nth_drop : {A : Type 0} (xs : List A) (n k : ℕ) → nth (drop n xs) k ≡ nth xs (n + k)
nth_drop xs zero k = let none : k ≡ 0 + k = omega arith in ap (nth xs) none
nth_drop [] (suc n) k = refl
nth_drop (x ∷ xs) (suc n) k = let more : suc (n + k) ≡ suc n + k = omega arith in nth_drop xs n k ∙ ap (nth (x ∷ xs)) more

behind_two : {A : Type 0} (x y : A) (ys : List A) (k : ℕ) → nth (x ∷ y ∷ ys) (2 + k) ≡ nth ys k
behind_two x y ys k = let more : 2 + k ≡ suc (suc k) = omega arith in ap (nth (x ∷ y ∷ ys)) more

behind_three : {A : Type 0} (x y z : A) (ys : List A) (k : ℕ) → nth (x ∷ y ∷ z ∷ ys) (3 + k) ≡ nth ys k
behind_three x y z ys k = let more : 3 + k ≡ suc (suc (suc k)) = omega arith in ap (nth (x ∷ y ∷ z ∷ ys)) more

-- behind an item and one or two new ones
past : {A : Type 0} (b : Bool) (x e n : A) (ys : List A) (k : ℕ) → nth ((x ∷ (if b then e ∷ n ∷ [] else n ∷ [])) ++ ys) (suc (if b then 2 else 1) + k) ≡ nth ys k
past true x e n ys k = behind_three x e n ys k
past false x e n ys k = behind_two x n ys k

-- ---- the extraction

module _ (P : ProgramTree) (r : Run) (pl : Plan) (bs : Bounds) (s : Span) (f : Function) (there : nth P r.item ≡ Some (plain.function_item s f)) where
  abbrev g : Function
  g = pinned_function P r.span pl.pins f

  abbrev rest : ProgramTree
  rest = drop (suc r.item) P

  pub items_are : extraction P r pl bs ≡ take r.item P ++ (in_two P r pl bs s g ++ rest)
  items_are = there_at (λ s f. in_two P r pl bs s (pinned_function P r.span pl.pins f)) P r.item s f there

  from_there : (k : ℕ) → nth (extraction P r pl bs) (r.item + k) ≡ nth (in_two P r pl bs s g ++ rest) k
  from_there k = ap (λ Q. nth Q (r.item + k)) items_are
      ∙ nth_front P r.item (plain.function_item s f) there (in_two P r pl bs s g ++ rest) k

  pub old_changed : nth (extraction P r pl bs) r.item ≡ Some (plain.function_item s (with_call P r pl g))
  old_changed = let none : r.item ≡ r.item + 0 = omega arith in ap (nth (extraction P r pl bs)) none ∙ from_there 0

  pub new_function_at : nth (extraction P r pl bs) (new_number r pl) ≡ Some (made_function P r pl bs g)
  new_function_at = from_there (added pl) ∙ by (has_enum pl.exits) refl
    where
      by : (b : Bool) → has_enum pl.exits ≡ b
          → nth (in_two P r pl bs s g ++ rest) (added pl) ≡ Some (made_function P r pl bs g)
      by true e = rw e refl
      by false e = rw e refl

  pub new_enum_at : has_enum pl.exits ≡ true → nth (extraction P r pl bs) (suc r.item) ≡ Some (made_enum P r pl)
  new_enum_at e = let one : suc r.item ≡ r.item + 1 = omega arith in ap (nth (extraction P r pl bs)) one ∙ from_there 1 ∙ rw e refl

  pub behind_moved : (k : ℕ) → r.item < k → nth (extraction P r pl bs) (k + added pl) ≡ nth P k
  behind_moved k l = let far : k + added pl ≡ r.item + (suc (added pl) + (k - suc r.item)) = omega (arith, l) in
      let whole : suc r.item + (k - suc r.item) ≡ k = omega (arith, l) in
      ap (nth (extraction P r pl bs)) far
      ∙ from_there (suc (added pl) + (k - suc r.item))
      ∙ past (has_enum pl.exits) (plain.function_item s (with_call P r pl g)) (made_enum P r pl) (made_function P r pl bs g) rest (k - suc r.item)
      ∙ nth_drop P (suc r.item) (k - suc r.item)
      ∙ ap (nth P) whole

pub front_stays : (P : ProgramTree) (r : Run) (pl : Plan) (bs : Bounds) (k : ℕ) → k < r.item → nth (extraction P r pl bs) k ≡ nth P k
front_stays P r pl bs k l = front_at (λ s f. in_two P r pl bs s (pinned_function P r.span pl.pins f)) P r.item k l
