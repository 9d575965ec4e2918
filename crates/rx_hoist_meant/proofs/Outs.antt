-- The outs of an exit, by the jumps that take it: an exit but the run's end is taken by one.
use Rattle.std.proofs.Common.{◌≡◌, ℕ, Bool, true, false, ◌||◌, if◌then◌else◌, List, [], ◌∷◌, ◌++◌, get_or, Some, refl, sym, ap, subst, ◌⊎◌, inl, inr, eqb-true}
use Rattle.rx_lower_walks.specs.Walks.{Among, here, there}
use Rattle.rx_exits_plan.specs.Points.{Exit, next, breaks, continues, returns, same_exit}
use Rattle.rx_exits_plan.specs.Asked.{Asked}
use Rattle.rx_exits_plan.specs.Diverging.{run_diverges}
use Rattle.rx_exits_plan.specs.Exits.{Jump, jumps, at_end, is_taken, where_taken, of_loops}
use Rattle.rx_exits_plan.specs.Plan.{Plan, IsPlan}
use Rattle.rx_exits_plan.specs.Shadowed.{meant, at_jump, at_the_end}
use Rattle.rx_exits.specs.Refusing.{NoneShadowed, same_name}
use Rattle.rx_hoist_meant.proofs.Meaning.{not_another, own_names}

among_either : {A : Type 0} {x : A} (fs bs : List A) → Among x (fs ++ bs) → Among x fs ⊎ Among x bs
among_either [] bs h = inr h
among_either (a ∷ fs) bs here = inl here
among_either (a ∷ fs) bs (there h) = elim (among_either fs bs h) [ inl i ↦ inl (there i) | inr i ↦ inr i ]

only : {A : Type 0} (e x : A) → Among e (x ∷ []) → e ≡ x
only _ x here = refl
only e x (there h) = absurd (elim h [ ])

-- ---- an exit that is taken

is_that : (e f : Exit) → same_exit e f ≡ true → e ≡ f
is_that next next h = refl
is_that next (breaks l) h = absurd (cc)
is_that next (continues l) h = absurd (cc)
is_that next returns h = absurd (cc)
is_that (breaks l) (breaks k) h = ap breaks (eqb-true l k h)
is_that (breaks l) next h = absurd (cc)
is_that (breaks l) (continues k) h = absurd (cc)
is_that (breaks l) returns h = absurd (cc)
is_that (continues l) (continues k) h = ap continues (eqb-true l k h)
is_that (continues l) next h = absurd (cc)
is_that (continues l) (breaks k) h = absurd (cc)
is_that (continues l) returns h = absurd (cc)
is_that returns returns h = refl
is_that returns next h = absurd (cc)
is_that returns (breaks l) h = absurd (cc)
is_that returns (continues l) h = absurd (cc)

where_is : (e x : Exit) (js : List Jump) → Among e (where_taken x js) → is_taken e js ≡ true
where_is e x js h = by (is_taken x js) refl h
  where
    by : (b : Bool) → is_taken x js ≡ b → Among e (if b then x ∷ [] else []) → is_taken e js ≡ true
    by true t h = subst (λ (y : Exit). is_taken y js ≡ true) (sym (only e x h)) t
    by false t h = absurd (elim h [ ])

of_loops_taken : (e : Exit) (ls : List ℕ) (js : List Jump) → Among e (of_loops ls js) → is_taken e js ≡ true
of_loops_taken e [] js h = absurd (elim h [ ])
of_loops_taken e (l ∷ ls) js h =
    elim (among_either (where_taken (breaks l) js) (where_taken (continues l) js ++ of_loops ls js) h) [
      | inl i ↦ where_is e (breaks l) js i
      | inr i ↦ elim (among_either (where_taken (continues l) js) (of_loops ls js) i) [ inl k ↦ where_is e (continues l) js k | inr k ↦ of_loops_taken e ls js k ]
    ]

taker : (e : Exit) (js : List Jump) → is_taken e js ≡ true → (j : Jump) × Among j js × (e ≡ j.exit)
taker e [] h = absurd (cc)
taker e (j ∷ js) h = by (same_exit e j.exit) refl h (λ k. taker e js k)
  where
    by : (b : Bool) → same_exit e j.exit ≡ b → (b || is_taken e js) ≡ true → (is_taken e js ≡ true → (j : Jump) × Among j js × (e ≡ j.exit)) → (i : Jump) × Among i (j ∷ js) × (e ≡ i.exit)
    by true s h later = (j, here, is_that e j.exit s)
    by false s h later = let x = later h in (x.0, there x.1, x.2)

-- ---- outs

pub out_at_jump : (A : Asked) (k : Plan) (names : List (List ℕ)) → NoneShadowed A k (same_name names)
    → (j : Jump) → Among j (jumps A.run A.home) → (x : ℕ) → Among x (k.outs j.exit) → meant (same_name names) x j.scope ≡ Some x
out_at_jump A k names none j i x o = not_another (meant (same_name names) x j.scope) x (λ n. none x (at_jump j i o n))

pub out_at_end : (A : Asked) (k : Plan) (names : List (List ℕ)) → NoneShadowed A k (same_name names)
    → Among next k.exits → (x : ℕ) → Among x (k.outs next) → meant (same_name names) x (at_end A.run A.home).scope ≡ Some x
out_at_end A k names none i x o = not_another (meant (same_name names) x (at_end A.run A.home).scope) x (λ n. none x (at_the_end i o n))

module _ (A : Asked) (k : Plan) (names : List (List ℕ)) (none : NoneShadowed A k (same_name names)) where
  abbrev Apart : Exit → Type 0
  Apart e = (x y : ℕ) → Among x (k.outs e) → Among y (k.outs e) → get_or names x [] ≡ get_or names y [] → x ≡ y

  of_taken : (e : Exit) → is_taken e (jumps A.run A.home) ≡ true → Apart e
  of_taken e t x y a b same =
      let j = taker e (jumps A.run A.home) t in
      let i = subst (λ (f : Exit). Among x (k.outs f)) j.2 a in
      let l = subst (λ (f : Exit). Among y (k.outs f)) j.2 b in
      own_names names x y j.0.scope (out_at_jump A k names none j.0 j.1 x i) (out_at_jump A k names none j.0 j.1 y l) same

  of_end : Among next k.exits → Apart next
  of_end i x y a b same = own_names names x y (at_end A.run A.home).scope (out_at_end A k names none i x a) (out_at_end A k names none i y b) same

  its_end : (e : Exit) → Among e (if run_diverges A.run A.home.body then [] else next ∷ []) → e ≡ next
  its_end e h = by (run_diverges A.run A.home.body) h
    where
      by : (b : Bool) → Among e (if b then [] else next ∷ []) → e ≡ next
      by true h = absurd (elim h [ ])
      by false h = only e next h

  pub outs_apart : IsPlan A k → (e : Exit) → Among e k.exits → Apart e
  outs_apart p e i =
      let h = subst (λ (es : List Exit). Among e es) p.exits i in
      let js = jumps A.run A.home in
      elim (among_either (if run_diverges A.run A.home.body then [] else next ∷ []) (of_loops A.home.around.loops js ++ where_taken returns js) h) [
        | inl l ↦ subst Apart (sym (its_end e l)) (of_end (subst (λ (f : Exit). Among f k.exits) (its_end e l) i))
        | inr l ↦ elim (among_either (of_loops A.home.around.loops js) (where_taken returns js) l) [
          | inl m ↦ of_taken e (of_loops_taken e A.home.around.loops js m)
          | inr m ↦ of_taken e (where_is e returns js m)
        ]
      ]
