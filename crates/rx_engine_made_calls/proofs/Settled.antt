-- Of a run that is refused for no variable, with the modes of a policy: its modes fit, and a renaming that is chosen where variables begin serves.
use Rattle.std.proofs.Common.{if◌then◌else◌, ◌≡◌, ◌⊎◌, inl, inr, ℕ, Bool, true, false, not, ◌==◌, ◌&&◌, ◌||◌, List, [], ◌∷◌, ◌++◌, Some, None, Option, slice_get, refl, sym, ap, ◌∙◌, subst}
use Rattle.std.specs.Bool.{Decides}
use Rattle.std.proofs.lemmas.Bool.Decides.{Decides-eqb}
use Rattle.rx_typed.specs.Types.{boolean, integer, named as item, reference, tuple_of, Typ}
use Rattle.rx_lower_walks.specs.Walks.{here, there, Among}
use Rattle.rx_facts_tables.proofs.Fronts.{not_so}
use Rattle.rx_exits_plan.specs.Asked.{Asked}
use Rattle.rx_exits_plan.specs.MixedInit.{MixedInit}
use Rattle.rx_exits_plan.specs.Occurrences.{drops, firsts, has_number, is_declared_in_run, is_direct, is_named_behind, in_run, those, variables_among}
use Rattle.rx_exits_plan.specs.PartlyMoved.{PartlyMoved}
use Rattle.rx_exits_plan.specs.Plan.{foreign_of, is_moved, is_offered, is_redeclared, left, none, taken, variables_of, Chosen, IsPlan, Plan}
use Rattle.rx_exits_plan.specs.Points.{breaks, continues, next, returns, Exit}
use Rattle.rx_exits_plan.proofs.Every.{param_or_local}
use Rattle.rx_modes_policy.specs.declared.uses.Mode.{Mode}
use Rattle.rx_modes_policy.specs.declared.uses.Uses.{Uses}
use Rattle.rx_modes_policy.specs.Allowed.{allowed_by, HasMember, IsMember}
use Rattle.rx_modes_uses.specs.Modes.{no_more, with, Each, IsModes}
use Rattle.rx_modes_uses.specs.Uses.{IsMutableReference, VariableHasType}
use Rattle.rx_modes_given.specs.GivenAway.{is_changed_behind, is_given_away, is_mut, is_mutable_reference}
use Rattle.rx_modes_given.proofs.Telling.{given_told}
use Rattle.rx_engine_simulation.specs.Sights.{special, sight, How, In, Renaming, Sight, sight_of}
use Rattle.rx_engine_simulation.specs.Variants.{AllSpecial}
use Rattle.rx_engine_related.specs.AboutRun.{handed, special_of}
use Rattle.rx_engine_related.proofs.Choosing.{a_local, again, an_out, chosen_is, Elsewhere, elsewhere_named, given_param, in_list, of_those, out_is, special_is, to_those}
use Rattle.rx_engine_related.proofs.Outs.{none_direct}
use Rattle.rx_engine_made_trees.specs.Nodes.{is_unique}
use Rattle.rx_engine_made_trees.specs.Seen.{AreUnseen, Distinct}
use Rattle.rx_engine_made_calls.specs.RunNames.{RunNames}
use Rattle.rx_engine_made_calls.specs.Seeing.{asks_again, cold_of, copies, has_here, has_there, HasMode, IsChosen, IsOutside, lends, looks, ModeFits, moves, shares, stays_shut}
use Rattle.rx_engine_made_calls.proofs.Modes.{modes_fit}
use Rattle.rx_engine_made_calls.proofs.Seeing.{all_special_so, has_in, in_front, in_has, outside_special, param_in, shut_so}
use Rattle.rx_engine_made_calls.proofs.Telling.{clash, one_some}

-- ---- lists

or_cases : (a b : Bool) → (a || b) ≡ true → (a ≡ true) ⊎ (b ≡ true)
or_cases true b e = inl refl
or_cases false b e = inr e

and_second : (a b : Bool) → (a && b) ≡ true → b ≡ true
and_second true b e = e
and_second false b e = absurd (clash refl e)

and_first : (a b : Bool) → (a && b) ≡ true → a ≡ true
and_first true b e = refl
and_first false b e = absurd (clash refl e)

in_of : {x : ℕ} {l : List ℕ} → Among x l → In x l
in_of here = inl refl
in_of (there i) = inr (in_of i)

in_drops : (x z : ℕ) (l : List ℕ) → In z (drops x l) → In z l × (z ≡ x → ⊥)
in_drops x z [] i = absurd i
in_drops x z (y ∷ l) i = by (y == x) (Decides-eqb y x).1 i (in_drops x z l)
  where
    by : (b : Bool) → (y ≡ x → b ≡ true) → In z (if b then drops x l else y ∷ drops x l) → (In z (drops x l) → In z l × (z ≡ x → ⊥)) → In z (y ∷ l) × (z ≡ x → ⊥)
    by true f i rest = let r = rest i in (inr r.0, r.1)
    by false f (inl e) rest = (inl e, λ s. clash refl (f (sym e ∙ s)))
    by false f (inr i) rest = let r = rest i in (inr r.0, r.1)

drops_distinct : (x : ℕ) (l : List ℕ) → Distinct l → Distinct (drops x l)
drops_distinct x [] d = tt
drops_distinct x (y ∷ l) d = by (y == x) (drops_distinct x l d.1)
  where
    by : (b : Bool) → Distinct (drops x l) → Distinct (if b then drops x l else y ∷ drops x l)
    by true r = r
    by false r = (λ i. d.0 (in_drops x y l i).0, r)

firsts_distinct : (l : List ℕ) → Distinct (firsts l)
firsts_distinct [] = tt
firsts_distinct (x ∷ xs) = (λ i. (in_drops x x (firsts xs) i).1 refl, drops_distinct x (firsts xs) (firsts_distinct xs))

those_distinct : (f : ℕ → Bool) (l : List ℕ) → Distinct l → Distinct (those f l)
those_distinct f [] d = tt
those_distinct f (y ∷ l) d = by (f y) (those_distinct f l d.1)
  where
    by : (b : Bool) → Distinct (those f l) → Distinct (if b then y ∷ those f l else those f l)
    by true r = (λ i. d.0 (in_of (of_those f l (in_list i)).0), r)
    by false r = r

chosen_distinct : {Q : ℕ → Type 0} {l m : List ℕ} → Chosen Q l m → Distinct l → Distinct m
chosen_distinct none d = tt
chosen_distinct (taken q c) d = (λ i. d.0 (in_of (chosen_is c (in_list i)).0), chosen_distinct c d.1)
chosen_distinct (left q c) d = chosen_distinct c d.1

unseen_first : (l : List ℕ) → Distinct l → AreUnseen [] l
unseen_first [] d = tt
unseen_first (x ∷ l) d = (refl, d.0, unseen_first l d.1)

unseen_all : (R : Renaming) (l : List ℕ) → Distinct l → ((x : ℕ) → In x l → sight_of R x ≡ None) → AreUnseen R l
unseen_all R [] d f = tt
unseen_all R (x ∷ l) d f = (f x (inl refl), d.0, unseen_all R l d.1 (λ y i. f y (inr i)))

next_or_not : (l : List Exit) → Among next l ⊎ (Among next l → ⊥)
next_or_not [] = inr (λ i. elim i [ ])
next_or_not (next ∷ l) = inl here
next_or_not (breaks n ∷ l) = by (next_or_not l)
  where
    not_first : (Among next l → ⊥) → Among next (breaks n ∷ l) → ⊥
    not_first other (there i) = other i

    by : Among next l ⊎ (Among next l → ⊥) → Among next (breaks n ∷ l) ⊎ (Among next (breaks n ∷ l) → ⊥)
    by (inl i) = inl (there i)
    by (inr other) = inr (not_first other)
next_or_not (continues n ∷ l) = by (next_or_not l)
  where
    not_first : (Among next l → ⊥) → Among next (continues n ∷ l) → ⊥
    not_first other (there i) = other i

    by : Among next l ⊎ (Among next l → ⊥) → Among next (continues n ∷ l) ⊎ (Among next (continues n ∷ l) → ⊥)
    by (inl i) = inl (there i)
    by (inr other) = inr (not_first other)
next_or_not (returns ∷ l) = by (next_or_not l)
  where
    not_first : (Among next l → ⊥) → Among next (returns ∷ l) → ⊥
    not_first other (there i) = other i

    by : Among next l ⊎ (Among next l → ⊥) → Among next (returns ∷ l) ⊎ (Among next (returns ∷ l) → ⊥)
    by (inl i) = inl (there i)
    by (inr other) = inr (not_first other)

-- ---- modes

each_has : {Q : ℕ → Mode → Type 0} {x : ℕ} {m : Mode} {xs : List ℕ} {ms : List Mode} → Each Q xs ms → HasMode x m xs ms → Q x m
each_has no_more h = elim h [ ]
each_has (with q c) has_here = q
each_has (with q c) (has_there h) = each_has c h

unique_is : (A : Asked) (x : ℕ) (t : Typ) → VariableHasType A x t → (b : Bool) → Decides b (IsMutableReference A x) → is_unique t ≡ b
unique_is A x t h true d = let z = d.0 refl in ap is_unique (one_some t (reference true z.0) (one_some (Some t) (Some (reference true z.0)) (sym h ∙ z.1)))
unique_is A x (integer k) h false d = refl
unique_is A x boolean h false d = refl
unique_is A x (tuple_of ts) h false d = refl
unique_is A x (item i) h false d = refl
unique_is A x (reference false t) h false d = refl
unique_is A x (reference true t) h false d = absurd (clash refl (d.1 (t, h)))

cold_mode : (A : Asked) (muts : List Bool) (x : ℕ) (xs : List ℕ) (ms : List Mode) → In x (cold_of A muts xs ms) → (m : Mode) × HasMode x m xs ms × (stays_shut A muts x m ≡ true)
cold_mode A muts x [] ms i = absurd i
cold_mode A muts x (z ∷ xs) [] i = absurd i
cold_mode A muts x (z ∷ xs) (n ∷ ms) i = by (stays_shut A muts z n) refl i (cold_mode A muts x xs ms)
  where
    by : (b : Bool) → stays_shut A muts z n ≡ b → In x (if b then z ∷ cold_of A muts xs ms else cold_of A muts xs ms) → (In x (cold_of A muts xs ms) → (m : Mode) × HasMode x m xs ms × (stays_shut A muts x m ≡ true))
        → (m : Mode) × HasMode x m (z ∷ xs) (n ∷ ms) × (stays_shut A muts x m ≡ true)
    by true e (inl s) rest = (n, subst (λ (z : ℕ). HasMode x n (z ∷ xs) (n ∷ ms)) s has_here, ap (λ (z : ℕ). stays_shut A muts z n) s ∙ e)
    by true e (inr i) rest = let r = rest i in (r.0, has_there r.1, r.2)
    by false e i rest = let r = rest i in (r.0, has_there r.1, r.2)

-- what is moved is given away
given_if_moved : (A : Asked) (muts : List Bool) (x : ℕ) → is_moved A x ≡ true → is_given_away A muts x ≡ true
given_if_moved A muts x e = ap (λ (b : Bool). b || (is_changed_behind A x && not (is_mutable_reference (slice_get A.frame.types x) || is_mut (slice_get muts x)))) e

module _ (A : Asked) (muts : List Bool) (k : Plan) (p : IsPlan A k) (apart : (x : ℕ) → Among x k.params → Among x k.locals → ⊥) where
  undeclared : (x : ℕ) → Among x k.params → is_declared_in_run A.run A.home.body x ≡ false
  undeclared x i = not_so _ (of_those (λ (y : ℕ). not (is_declared_in_run A.run A.home.body y)) (variables_of A) (chosen_is p.params i).0).1

  -- a param that stays in its place
  not_special : (x : ℕ) → Among x k.params → is_given_away A muts x ≡ false → In x (special_of A muts k) → ⊥
  not_special x i stays s = by (special_is A muts k p x s)
    where
      declared : is_direct A.run A.home.body x ≡ true → ⊥
      declared e = clash (none_direct A x (undeclared x i)) e

      of_rest : (has_number x k.locals ≡ true) ⊎ (is_direct A.run A.home.body x ≡ true) → ⊥
      of_rest (inl e) = apart x i (in_list (in_has x k.locals e))
      of_rest (inr e) = declared e

      offered_so : (is_moved A x ≡ true) ⊎ ((has_number x k.locals || is_direct A.run A.home.body x) ≡ true) → ⊥
      offered_so (inl e) = clash stays (given_if_moved A muts x e)
      offered_so (inr e) = of_rest (or_cases (has_number x k.locals) (is_direct A.run A.home.body x) e)

      by : Elsewhere A muts k p x → ⊥
      by (given_param j e) = clash stays e
      by (a_local j) = apart x i j
      by (an_out e j o) = offered_so (or_cases (is_moved A x) _ (of_those (is_offered A k.locals) (variables_of A) (out_is A k p e j x o).0).1)
      by (again j) =
          let z = (of_those (is_redeclared A (k.outs next)) (variables_of A) (subst (λ (l : List ℕ). Among x l) p.redeclared j)).1 in
          declared (and_first (is_direct A.run A.home.body x) (is_named_behind A.run A.home.body x) (and_first (is_direct A.run A.home.body x && is_named_behind A.run A.home.body x) (not (has_number x (k.outs next))) z))

  module _ (choice : Uses → Mode) (allowed : (u : Uses) → HasMember (allowed_by u) → IsMember (choice u) (allowed_by u)) (ms : List Mode) (modes : IsModes A muts k choice ms) where
    pub settled_fits : (x : ℕ) (m : Mode) (t : Typ) → VariableHasType A x t → HasMode x m k.params ms → ModeFits A muts k true x t m
    settled_fits x m t h i =
        let z = each_has modes i in
        subst (ModeFits A muts k true x t) (sym z.chosen)
        (modes_fit A muts k x t z.uses (choice z.uses) (given_told A muts k x z.uses z.are_uses) (unique_is A x t h z.uses.mut_ref z.are_uses.mut_ref) (not_special x (in_list (param_in i))) (allowed z.uses z.some))

    not_special_fits : {x : ℕ} {m : Mode} {t : Typ} → ModeFits A muts k true x t m → stays_shut A muts x m ≡ true → In x (special_of A muts k) → ⊥
    not_special_fits (moves e a) s = absurd (clash (ap not e) s)
    not_special_fits (copies e o u) s = o
    not_special_fits (asks_again o a u) s = o
    not_special_fits (looks o a u) s = o
    not_special_fits (shares o) s = absurd (clash refl s)
    not_special_fits (lends o) s = absurd (clash refl s)

    -- ---- the renaming

    in_rest : (x : ℕ) (xs ys : List ℕ) → In x ys → In x (xs ++ ys)
    in_rest x [] ys i = i
    in_rest x (z ∷ xs) ys i = inr (in_rest x xs ys i)

    distinct_foreign : Distinct (foreign_of A)
    distinct_foreign = those_distinct (λ (y : ℕ). not (is_declared_in_run A.run A.home.body y)) (variables_of A) (firsts_distinct (variables_among (in_run A.run A.home.body)))

    -- what the run's end hands out, if it is an exit
    distinct_outs : Distinct (k.outs next)
    distinct_outs = by (next_or_not k.exits)
      where
        by : Among next k.exits ⊎ (Among next k.exits → ⊥) → Distinct (k.outs next)
        by (inl i) = chosen_distinct (p.outs next i (λ e. cc)) (those_distinct (is_offered A k.locals) (variables_of A) (firsts_distinct (variables_among (in_run A.run A.home.body))))
        by (inr other) = subst Distinct (sym (p.none_elsewhere next other)) tt

    distinct_again : Distinct k.redeclared
    distinct_again = subst Distinct (sym p.redeclared) (those_distinct (is_redeclared A (k.outs next)) (variables_of A) (firsts_distinct (variables_among (in_run A.run A.home.body))))

    again_is : (x : ℕ) → In x k.redeclared → is_redeclared A (k.outs next) x ≡ true
    again_is x i = (of_those (is_redeclared A (k.outs next)) (variables_of A) (subst (λ (l : List ℕ). Among x l) p.redeclared (in_list i))).1

    again_direct : (x : ℕ) → In x k.redeclared → is_direct A.run A.home.body x ≡ true
    again_direct x i = and_first (is_direct A.run A.home.body x) (is_named_behind A.run A.home.body x) (and_first (is_direct A.run A.home.body x && is_named_behind A.run A.home.body x) (not (has_number x (k.outs next))) (again_is x i))

    again_not_out : (x : ℕ) → In x k.redeclared → has_number x (k.outs next) ≡ false
    again_not_out x i = not_so (has_number x (k.outs next)) (and_second (is_direct A.run A.home.body x && is_named_behind A.run A.home.body x) (not (has_number x (k.outs next))) (again_is x i))

    module _ (R : Renaming) (chosen : IsChosen A muts k ms R) (out : IsOutside A k R) where
      not_seen : (x : ℕ) (o : Option Sight) → sight_of R x ≡ o → is_direct A.run A.home.body x ≡ true → sight_of R x ≡ None
      not_seen x None e d = e
      not_seen x (Some s) e d = absurd (clash (none_direct A x (out.undeclared x s e)) d)

      local_special : AllSpecial R k.locals
      local_special x i =
          let z = out.locals x i in (z.0, z.2 ∙ ap (λ (w : How). Some (sight z.0 w)) (chosen x z.0 z.1 z.2 ∙ outside_special A muts k ms x (in_rest x (those (is_given_away A muts) k.params) (k.locals ++ (handed k.exits k.outs ++ k.redeclared)) (in_front x k.locals (handed k.exits k.outs ++ k.redeclared) i))))

      enters : ((x : ℕ) → MixedInit A x → ⊥) → ((x : ℕ) → PartlyMoved A k x → ⊥) → (x y : ℕ) → sight_of R x ≡ Some (sight y special) → In x k.params ⊎ In x k.locals
      enters sure whole x y s = by (param_or_local A k x p (to_those (λ (y : ℕ). not (is_declared_in_run A.run A.home.body y)) (variables_of A) (elsewhere_named A muts k p x (special_is A muts k p x (all_special_so A muts k ms R chosen true x y s))) (ap not (out.undeclared x (sight y special) s))) (sure x) (whole x))
        where
          by : Among x k.params ⊎ Among x k.locals → In x k.params ⊎ In x k.locals
          by (inl i) = inl (in_of i)
          by (inr i) = inr (in_of i)

      cold_so : ((x : ℕ) → Among x k.params → (t : Typ) × VariableHasType A x t) → (x : ℕ) → In x (cold_of A muts k.params ms) → (In x (special_of A muts k) → ⊥) × ((y : ℕ) × (w : How) × (sight_of R x ≡ Some (sight y w)))
      cold_so types x i =
          let z = cold_mode A muts x k.params ms i in let a = param_in z.1 in let t = types x (in_list a) in
          (not_special_fits (settled_fits x z.0 t.0 t.1 z.1) z.2, out.params x a)

      pub settled_names : ((x : ℕ) → Among x k.params → (t : Typ) × VariableHasType A x t) → ((x : ℕ) → MixedInit A x → ⊥) → ((x : ℕ) → PartlyMoved A k x → ⊥) → RunNames k R (cold_of A muts k.params ms)
      settled_names types sure whole = record {
        params_distinct = unseen_first k.params (chosen_distinct p.params distinct_foreign);
        locals_distinct = unseen_first k.locals (chosen_distinct p.locals distinct_foreign);
        params_apart = λ x i j. apart x (in_list j) (in_list i);
        outs_distinct = distinct_outs;
        outs_apart = λ x i j. clash (again_not_out x i) (has_in x (k.outs next) j);
        shut = shut_so A muts k ms R chosen true (cold_so types);
        locals_special = local_special;
        specials_enter = enters sure whole;
        unseen = unseen_all R k.redeclared distinct_again (λ x i. not_seen x (sight_of R x) refl (again_direct x i));
      }
