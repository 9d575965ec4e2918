-- The loop that a jump leads to, from the nearest loop or test outwards; and the loops round a run by their labels.
use Rattle.std.proofs.Common.{◌≡◌, ℕ, zero, suc, ◌-◌, ◌<◌, ◌≤◌, Bool, true, false, List, [], ◌∷◌, ◌++◌, length, map, take, drop, get_or, Option, Some, None, refl, ap, sym, ◌∙◌, cond, arith}
use Rattle.std.proofs.Math.Seq.{take-suc, drop-cons}
use Rattle.rx_tree.specs.declared.tree.Ident.{Ident}
use Rattle.rx_resolve_names.specs.Meant.{Around, a_loop, Target, to_loop, out_of_test, nowhere, through_test, is_meant, target}
use Rattle.rx_hoist_extraction.specs.Run.{numbered}
use Rattle.rx_hoist_extraction.specs.Moved.{beyond, leaves}
use Rattle.rx_hoist_changes.specs.declared.jumps.Around as code
use Rattle.rx_hoist_changes.specs.declared.jumps.Around.TheVariants as form
use Rattle.rx_hoist_changes.specs.Standing.{around_of, around_behind}
use Rattle.rx_hoist_changes.proofs.ScopeLemmas.{around_push}

pub outside_is : (n : ℕ) → 0 < n → Some (n - 1) ≡ beyond (to_loop n)
outside_is zero h = absurd (omega (arith, h))
outside_is (suc k) h = ap (λ m. Some m) (omega arith)

pub inside_is : (n : ℕ) → n ≤ 0 → None ≡ beyond (to_loop n)
inside_is zero h = refl
inside_is (suc k) h = absurd (omega (arith, h))

beyond_test : (t : Target) → beyond (through_test t) ≡ None
beyond_test nowhere = refl
beyond_test out_of_test = refl
beyond_test (to_loop n) = refl

module _ (wanted : Option Ident) where
  last_at : (l : List code.Around) (left k : ℕ) (x d : code.Around) → left ≡ suc k → k < length l → get_or l k d ≡ x
      → leaves wanted (around_behind [] (take left l)) ≡ leaves wanted (around_of x ∷ around_behind [] (take k l))
  last_at l left k x d next within is =
      ap (λ n. leaves wanted (around_behind [] (take n l))) next
      ∙ ap (λ t. leaves wanted (around_behind [] t)) (take-suc l k d within ∙ ap (λ y. take k l ++ y ∷ []) is)
      ∙ ap (leaves wanted) (around_push [] (take k l) x)

  -- a test ends the search
  pub at_test : (l : List code.Around) (left k : ℕ) (d : code.Around) (r : Option ℕ) → left ≡ suc k → k < length l → get_or l k d ≡ form.Test
      → leaves wanted (around_behind [] (take left l)) ≡ r → None ≡ r
  at_test l left k d r next within is before =
      sym (beyond_test (target wanted (around_behind [] (take k l)))) ∙ sym (last_at l left k form.Test d next within is) ∙ before

  meant_at : (l : List code.Around) (left k : ℕ) (x d : code.Around) (m : Option Ident) (n : ℕ) (b : Bool) → left ≡ suc k → k < length l → get_or l k d ≡ x → around_of x ≡ a_loop m n
      → is_meant wanted m ≡ b → leaves wanted (around_behind [] (take left l)) ≡ beyond (cond b (to_loop n) (target wanted (around_behind [] (take k l))))
  meant_at l left k x d m n b next within is loop same =
      last_at l left k x d next within is
      ∙ ap (λ a. leaves wanted (a ∷ around_behind [] (take k l))) loop
      ∙ ap (λ c. beyond (cond c (to_loop n) (target wanted (around_behind [] (take k l))))) same

  -- a loop that is not the one
  pub past_loop : (l : List code.Around) (left k : ℕ) (x d : code.Around) (m : Option Ident) (n : ℕ) (r : Option ℕ) → left ≡ suc k → k < length l → get_or l k d ≡ x → around_of x ≡ a_loop m n
      → is_meant wanted m ≡ false → leaves wanted (around_behind [] (take left l)) ≡ r → leaves wanted (around_behind [] (take k l)) ≡ r
  past_loop l left k x d m n r next within is loop other before = sym (meant_at l left k x d m n false next within is loop other) ∙ before

  -- the loop
  pub at_loop : (l : List code.Around) (left k : ℕ) (x d : code.Around) (m : Option Ident) (n : ℕ) (r : Option ℕ) → left ≡ suc k → k < length l → get_or l k d ≡ x → around_of x ≡ a_loop m n
      → is_meant wanted m ≡ true → leaves wanted (around_behind [] (take left l)) ≡ r → beyond (to_loop n) ≡ r
  at_loop l left k x d m n r next within is loop same before = sym (meant_at l left k x d m n true next within is loop same) ∙ before

-- one more loop of those round a run
pub round_next : {A : Type 0} (f : A → Option Ident) (labels : List A) (left k : ℕ) (x d : A) (so_far : List code.Around) (next : code.Around) → left ≡ suc k → k < length labels
    → get_or labels k d ≡ x → around_of next ≡ a_loop (f x) left → around_behind [] so_far ≡ numbered (suc left) (map f (drop left labels))
    → around_behind [] (so_far ++ next ∷ []) ≡ numbered (suc k) (map f (drop k labels))
round_next f labels left k x d so_far next more within is loop before =
    around_push [] so_far next
    ∙ ap (λ a. a ∷ around_behind [] so_far) loop
    ∙ ap (λ t. a_loop (f x) left ∷ t) before
    ∙ ap (λ n. a_loop (f x) n ∷ numbered (suc n) (map f (drop n labels))) more
    ∙ sym (ap (λ l. numbered (suc k) (map f l)) (drop-cons labels k d within ∙ ap (λ y. y ∷ drop (suc k) labels) is))

-- all of them
pub round_whole : {A : Type 0} (f : A → Option Ident) (labels : List A) (left : ℕ) (so_far : List code.Around) → around_behind [] so_far ≡ numbered (suc left) (map f (drop left labels)) → left ≤ 0
    → around_behind [] so_far ≡ numbered 1 (map f labels)
round_whole f labels zero so_far before none = before
round_whole f labels (suc k) so_far before none = absurd (omega (arith, none))
