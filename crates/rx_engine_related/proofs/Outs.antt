-- What an exit hands out and the run does not declare is declared `mut`, or a local: it is moved by the run otherwise, and live behind it,
-- and such a param has no mode unless it is declared `mut`.
use Rattle.std.proofs.Common.{◌≡◌, ◌⊎◌, inl, inr, ℕ, ◌==◌, Bool, true, false, not, ◌&&◌, ◌||◌, if◌then◌else◌, List, [], ◌∷◌, ◌++◌, Option, Some, None, slice_get, refl, sym, ap, ◌∙◌, subst, true≢false}
use Rattle.std.specs.Bool.{Decides}
use Rattle.std.proofs.lemmas.Bool.Decides.{Decides-eqb}
use Rattle.rx_lower_walks.specs.Walks.{Among, here, there}
use Rattle.rx_facts_tables.proofs.Fronts.{not_so}
use Rattle.rx_exits_plan.specs.Blocks.{Statement, does, begins, binds, bound, declared_by_all}
use Rattle.rx_exits_plan.specs.Runs.{inside, last_value}
use Rattle.rx_exits_plan.specs.Points.{Exit}
use Rattle.rx_exits_plan.specs.Occurrences.{has_number, all_declared, occurrences, occurrences_matched, in_statements, in_run, in_value, is_declared_in_run, is_direct}
use Rattle.rx_exits_plan.specs.Asked.{Asked}
use Rattle.rx_exits_plan.specs.Plan.{Plan, IsPlan, variables_of, foreign_of, is_moved, is_offered}
use Rattle.rx_exits_plan.specs.MixedInit.{MixedInit}
use Rattle.rx_exits_plan.specs.PartlyMoved.{PartlyMoved}
use Rattle.rx_exits_plan.proofs.Every.{param_or_local}
use Rattle.rx_modes_policy.specs.declared.uses.Mode.{Mode}
use Rattle.rx_modes_policy.specs.declared.uses.Uses.{Uses}
use Rattle.rx_modes_policy.specs.declared.choices.ModeChoice.{ModeChoice}
use Rattle.rx_modes_policy.specs.Allowed.{one, none, first_row, rows_written, rows_through, rows_read, allowed_by, HasMember}
use Rattle.rx_modes_policy.specs.declared.uses.Mode.TheVariants as mode
use Rattle.rx_modes_uses.specs.First.{First, this, later}
use Rattle.rx_modes_uses.specs.Uses.{IsDeclaredMut, IsLiveOut, IsSetIn, IsUses}
use Rattle.rx_modes_uses.specs.Modes.{Each, no_more, with, IsModes}
use Rattle.rx_modes_uses.specs.NotMut.{NotMut}
use Rattle.rx_modes_uses.proofs.Deciding.{told, are_uses}
use Rattle.rx_modes_uses.proofs.Planned.{same_moves}
use Rattle.rx_modes_uses.proofs.Table.{none_has_none}
use Rattle.rx_engine_related.proofs.Choosing.{of_those, out_is}
use Rattle.rx_engine_related.proofs.Setting.{either}
use Rattle.rx_engine_related.proofs.Undeclared.{Away, away_front, away_rest, away_of}

-- ---- lists

number_among : (x : ℕ) (l : List ℕ) → has_number x l ≡ true → Among x l
number_among x [] e = absurd (true≢false (sym e))
number_among x (y ∷ l) e = by (λ q. number_among x l q) (either (x == y) (has_number x l) e)
  where
    by : (has_number x l ≡ true → Among x l) → ((x == y) ≡ true) ⊎ (has_number x l ≡ true) → Among x (y ∷ l)
    by ih (inl q) = subst (λ z. Among x (z ∷ l)) ((Decides-eqb x y).0 q) here
    by ih (inr q) = there (ih q)

at_one : {Q : ℕ → Mode → Type 0} {xs : List ℕ} {ms : List Mode} {x : ℕ} → Each Q xs ms → Among x xs → (m : Mode) × Q x m
at_one no_more i = elim i [ ]
at_one (with {m = m} q c) here = (m, q)
at_one (with q c) (there i) = at_one c i

none_first : {Q : ℕ → Type 0} (l : List ℕ) → ((y : ℕ) → ¬ (First Q l y)) → (x : ℕ) → Among x l → ¬ (Q x)
none_first [] n x i = elim i [ ]
none_first (_ ∷ l) n x here = λ q. n x (this q)
none_first (y ∷ l) n x (there i) = none_first l (λ z f. n z (later (λ q. n y (this q)) f)) x i

-- ---- what the run's own statements declare, it declares

neither : (x : ℕ) (l m : List ℕ) → has_number x l ≡ false → has_number x m ≡ false → has_number x (l ++ m) ≡ false
neither x [] m e f = f
neither x (y ∷ l) m e f = by (x == y) e (λ q. neither x l m q f)
  where
    by : (b : Bool) → b || has_number x l ≡ false → (has_number x l ≡ false → has_number x (l ++ m) ≡ false) → b || has_number x (l ++ m) ≡ false
    by true q g = q
    by false q g = g q

not_listed : (x : ℕ) (l : List ℕ) → Away x (all_declared l) → has_number x l ≡ false
not_listed x [] h = refl
not_listed x (y ∷ l) h = by (x == y) refl (not_listed x l h.1)
  where
    by : (b : Bool) → (x == y) ≡ b → has_number x l ≡ false → b || has_number x l ≡ false
    by true q e = absurd (h.0 ((Decides-eqb x y).0 q))
    by false q e = e

not_direct : (x : ℕ) (ss : List Statement) → Away x (in_statements ss) → has_number x (declared_by_all ss) ≡ false
not_direct x [] h = refl
not_direct x (does e ∷ ss) h = not_direct x ss (away_rest x (occurrences e) (in_statements ss) h)
not_direct x (begins s ys ∷ ss) h = neither x ys (declared_by_all ss) (not_listed x ys (away_front x (all_declared ys) (in_statements ss) h))
    (not_direct x ss (away_rest x (all_declared ys) (in_statements ss) h))
not_direct x (binds s p c ∷ ss) h =
    let i = away_front x (all_declared (bound p) ++ occurrences_matched c) (in_statements ss) h in
    neither x (bound p) (declared_by_all ss) (not_listed x (bound p) (away_front x (all_declared (bound p)) (occurrences_matched c) i))
    (not_direct x ss (away_rest x (all_declared (bound p) ++ occurrences_matched c) (in_statements ss) h))

-- what the run doesn't declare is declared by none of its own statements
pub none_direct : (A : Asked) (x : ℕ) → is_declared_in_run A.run A.home.body x ≡ false → is_direct A.run A.home.body x ≡ false
none_direct A x h = not_direct x (inside A.run A.home.body) (away_front x (in_statements (inside A.run A.home.body)) (in_value (last_value A.run A.home.body)) (away_of x (in_run A.run A.home.body) h))

-- ---- of a plan

module _ (A : Asked) (muts : List Bool) (k : Plan) (p : IsPlan A k) (e : Exit) (i : Among e k.exits) (x : ℕ) (o : Among x (k.outs e)) (named : Among x (foreign_of A)) where
  live : IsLiveOut A k x
  live = (e, i, (out_is A k p e i x o).1)

  undeclared : is_direct A.run A.home.body x ≡ false
  undeclared = none_direct A x (not_so (is_declared_in_run A.run A.home.body x) (of_those (λ y. not (is_declared_in_run A.run A.home.body y)) (variables_of A) named).1)

  moved_or_local : (is_moved A x ≡ true) ⊎ Among x k.locals
  moved_or_local = by (either (is_moved A x) (has_number x k.locals || is_direct A.run A.home.body x) (of_those (is_offered A k.locals) (variables_of A) (out_is A k p e i x o).0).1)
    where
      of_rest : (has_number x k.locals ≡ true) ⊎ (is_direct A.run A.home.body x ≡ true) → (is_moved A x ≡ true) ⊎ Among x k.locals
      of_rest (inl q) = inr (number_among x k.locals q)
      of_rest (inr q) = absurd (true≢false (sym q ∙ undeclared))

      by : (is_moved A x ≡ true) ⊎ ((has_number x k.locals || is_direct A.run A.home.body x) ≡ true) → (is_moved A x ≡ true) ⊎ Among x k.locals
      by (inl q) = inl q
      by (inr q) = of_rest (either (has_number x k.locals) (is_direct A.run A.home.body x) q)

  -- it has a mode only if it is declared `mut`
  mode_is_mut : (u : Uses) → IsUses A muts k x u → is_moved A x ≡ true → HasMember (allowed_by u) → IsDeclaredMut muts x
  mode_is_mut u are moved some = by u.declared_mut refl
    where
      rest : ModeChoice
      rest = if u.moved then one mode.Value else first_row (rows_written u ++ (rows_through u ++ rows_read u))

      by : (b : Bool) → u.declared_mut ≡ b → IsDeclaredMut muts x
      by true q = are.declared_mut.0 q
      by false q =
          let all : (u.moved && u.live_out && not u.declared_mut) ≡ true =
          ap (λ b. b && u.live_out && not u.declared_mut) (same_moves A muts k x u are ∙ moved) ∙ ap (λ b. b && not u.declared_mut) (are.live_out.1 live) ∙ ap not q in
          absurd (none_has_none (subst (λ b. HasMember (if b then none else rest)) all some))

  module _ (sure : ¬ (MixedInit A x)) (whole : ¬ (PartlyMoved A k x)) where
    -- where each param has a mode
    pub out_by_modes : (choice : Uses → Mode) (ms : List Mode) → IsModes A muts k choice ms → (slice_get muts x ≡ Some true) ⊎ Among x k.locals
    out_by_modes choice ms modes = by moved_or_local (param_or_local A k x p named sure whole)
      where
        by : (is_moved A x ≡ true) ⊎ Among x k.locals → Among x k.params ⊎ Among x k.locals → (slice_get muts x ≡ Some true) ⊎ Among x k.locals
        by (inr l) q = inr l
        by (inl m) (inr l) = inr l
        by (inl m) (inl q) = let z = at_one modes q in inl (mode_is_mut z.1.uses z.1.are_uses m z.1.some)

    -- where none is refused for having none
    refused_if : ((y : ℕ) → ¬ (NotMut A muts k y)) → is_moved A x ≡ true → Among x k.params → ¬ (IsDeclaredMut muts x) → ⊥
    refused_if allowed moved param fixed = at false ((λ q. absurd (true≢false (sym q))), λ s. absurd (at true ((λ q. s), λ q. refl)))
      where
        at : (set : Bool) → Decides set (IsSetIn A x) → ⊥
        at set d =
            let u = told A muts x true set in
            let are = are_uses A muts k x true set ((λ q. live), λ q. refl) d in
            none_first k.params allowed x param (record { uses = u; are_uses = are; none = λ some. fixed (mode_is_mut u are moved some) })

    pub out_unrefused : ((y : ℕ) → ¬ (NotMut A muts k y)) → (slice_get muts x ≡ Some true) ⊎ Among x k.locals
    out_unrefused allowed = by moved_or_local (param_or_local A k x p named sure whole) (slice_get muts x) refl
      where
        not_mut : (o : Option Bool) → slice_get muts x ≡ o → (o ≡ Some true → ⊥) → IsDeclaredMut muts x → ⊥
        not_mut o q n m = n (sym q ∙ m)

        by : (is_moved A x ≡ true) ⊎ Among x k.locals → Among x k.params ⊎ Among x k.locals → (o : Option Bool) → slice_get muts x ≡ o → (slice_get muts x ≡ Some true) ⊎ Among x k.locals
        by (inr l) q o s = inr l
        by (inl m) (inr l) o s = inr l
        by (inl m) (inl q) (Some true) s = inl s
        by (inl m) (inl q) (Some false) s = absurd (refused_if allowed m q (not_mut (Some false) s (λ c. absurd (cc))))
        by (inl m) (inl q) None s = absurd (refused_if allowed m q (not_mut None s (λ c. absurd (cc))))
