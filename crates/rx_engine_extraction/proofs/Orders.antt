-- The conditions are in one order: of two that differ one stands in front of the other, and what holds of all in front of a condition
-- holds of an earlier one, and of all in front of that.
use Rattle.std.proofs.Common.{◌≡◌, ℕ, zero, suc, ◌<◌, ◌⊎◌, inl, inr, refl, sym, ◌∙◌, subst, ap, arith}
use Rattle.std.proofs.lemmas.Bool.{cases_order}
use Rattle.rx_tree.specs.Lists.{Every}
use Rattle.rx_engine_extraction.specs.Conditions.{Condition, before, selects, word, unused, reached, left, settled, whole, visible, passable, unmoved, few_parameters, few_lifetimes, few_levels, few_parts, few_numbers, fits, few_sites, few_positions, fits_bounded, known, legal, readable, few_bytes, confirmed}

abbrev pub number : Condition → ℕ
number selects = 0
number word = 1
number unused = 2
number reached = 3
number left = 4
number settled = 5
number whole = 6
number visible = 7
number passable = 8
number unmoved = 9
number few_parameters = 10
number few_lifetimes = 11
number few_levels = 12
number few_parts = 13
number few_numbers = 14
number fits = 15
number few_sites = 16
number few_positions = 17
number fits_bounded = 18
number known = 19
number legal = 20
number readable = 21
number few_bytes = 22
number confirmed = 23

abbrev condition_of : ℕ → Condition
condition_of zero = selects
condition_of (suc zero) = word
condition_of (suc (suc zero)) = unused
condition_of (suc (suc (suc zero))) = reached
condition_of (suc (suc (suc (suc zero)))) = left
condition_of (suc (suc (suc (suc (suc zero))))) = settled
condition_of (suc (suc (suc (suc (suc (suc zero)))))) = whole
condition_of (suc (suc (suc (suc (suc (suc (suc zero))))))) = visible
condition_of (suc (suc (suc (suc (suc (suc (suc (suc zero)))))))) = passable
condition_of (suc (suc (suc (suc (suc (suc (suc (suc (suc zero))))))))) = unmoved
condition_of (suc (suc (suc (suc (suc (suc (suc (suc (suc (suc zero)))))))))) = few_parameters
condition_of (suc (suc (suc (suc (suc (suc (suc (suc (suc (suc (suc zero))))))))))) = few_lifetimes
condition_of (suc (suc (suc (suc (suc (suc (suc (suc (suc (suc (suc (suc zero)))))))))))) = few_levels
condition_of (suc (suc (suc (suc (suc (suc (suc (suc (suc (suc (suc (suc (suc zero))))))))))))) = few_parts
condition_of (suc (suc (suc (suc (suc (suc (suc (suc (suc (suc (suc (suc (suc (suc zero)))))))))))))) = few_numbers
condition_of (suc (suc (suc (suc (suc (suc (suc (suc (suc (suc (suc (suc (suc (suc (suc zero))))))))))))))) = fits
condition_of (suc (suc (suc (suc (suc (suc (suc (suc (suc (suc (suc (suc (suc (suc (suc (suc zero)))))))))))))))) = few_sites
condition_of (suc (suc (suc (suc (suc (suc (suc (suc (suc (suc (suc (suc (suc (suc (suc (suc (suc zero))))))))))))))))) = few_positions
condition_of (suc (suc (suc (suc (suc (suc (suc (suc (suc (suc (suc (suc (suc (suc (suc (suc (suc (suc zero)))))))))))))))))) = fits_bounded
condition_of (suc (suc (suc (suc (suc (suc (suc (suc (suc (suc (suc (suc (suc (suc (suc (suc (suc (suc (suc zero))))))))))))))))))) = known
condition_of (suc (suc (suc (suc (suc (suc (suc (suc (suc (suc (suc (suc (suc (suc (suc (suc (suc (suc (suc (suc zero)))))))))))))))))))) = legal
condition_of (suc (suc (suc (suc (suc (suc (suc (suc (suc (suc (suc (suc (suc (suc (suc (suc (suc (suc (suc (suc (suc zero))))))))))))))))))))) = readable
condition_of (suc (suc (suc (suc (suc (suc (suc (suc (suc (suc (suc (suc (suc (suc (suc (suc (suc (suc (suc (suc (suc (suc zero)))))))))))))))))))))) = few_bytes
condition_of _ = confirmed

back : (c : Condition) → condition_of (number c) ≡ c
back selects = refl
back word = refl
back unused = refl
back reached = refl
back left = refl
back settled = refl
back whole = refl
back visible = refl
back passable = refl
back unmoved = refl
back few_parameters = refl
back few_lifetimes = refl
back few_levels = refl
back few_parts = refl
back few_numbers = refl
back fits = refl
back few_sites = refl
back few_positions = refl
back fits_bounded = refl
back known = refl
back legal = refl
back readable = refl
back few_bytes = refl
back confirmed = refl

one_number : (c k : Condition) → number c ≡ number k → c ≡ k
one_number c k e = sym (back c) ∙ ap condition_of e ∙ back k

-- a condition, and all in front of it
pub record Both (P : Condition → Type 0) (c : Condition) : Type 0 where
  pub it : P c
  pub front : Every P (before c)

-- in front of the next condition stand a condition and those in front of it
step : (P : Condition → Type 0) (c k : Condition) → (number c < number k → Every P (before k) → Both P c) → number c < suc (number k) → P k → Every P (before k) → Both P c
step P c k go lt h f = by (cases_order (number c) (number k))
  where
    by : (number c ≡ number k) ⊎ ((number c < number k) ⊎ (number k < number c)) → Both P c
    by (inl e) = subst (λ q. Both P q) (sym (one_number c k e)) (record { it = h; front = f })
    by (inr (inl l)) = go l f
    by (inr (inr l)) = absurd (omega (arith, lt, l))

module _ (P : Condition → Type 0) (c : Condition) where
  at_selects : number c < 0 → Every P (before selects) → Both P c
  at_selects l f = absurd (omega (arith, l))

  at_word : number c < 1 → Every P (before word) → Both P c
  at_word l f = step P c selects at_selects l f.0 f.1

  at_unused : number c < 2 → Every P (before unused) → Both P c
  at_unused l f = step P c word at_word l f.0 f.1

  at_reached : number c < 3 → Every P (before reached) → Both P c
  at_reached l f = step P c unused at_unused l f.0 f.1

  at_left : number c < 4 → Every P (before left) → Both P c
  at_left l f = step P c reached at_reached l f.0 f.1

  at_settled : number c < 5 → Every P (before settled) → Both P c
  at_settled l f = step P c left at_left l f.0 f.1

  at_whole : number c < 6 → Every P (before whole) → Both P c
  at_whole l f = step P c settled at_settled l f.0 f.1

  at_visible : number c < 7 → Every P (before visible) → Both P c
  at_visible l f = step P c whole at_whole l f.0 f.1

  at_passable : number c < 8 → Every P (before passable) → Both P c
  at_passable l f = step P c visible at_visible l f.0 f.1

  at_unmoved : number c < 9 → Every P (before unmoved) → Both P c
  at_unmoved l f = step P c passable at_passable l f.0 f.1

  at_few_parameters : number c < 10 → Every P (before few_parameters) → Both P c
  at_few_parameters l f = step P c unmoved at_unmoved l f.0 f.1

  at_few_lifetimes : number c < 11 → Every P (before few_lifetimes) → Both P c
  at_few_lifetimes l f = step P c few_parameters at_few_parameters l f.0 f.1

  at_few_levels : number c < 12 → Every P (before few_levels) → Both P c
  at_few_levels l f = step P c few_lifetimes at_few_lifetimes l f.0 f.1

  at_few_parts : number c < 13 → Every P (before few_parts) → Both P c
  at_few_parts l f = step P c few_levels at_few_levels l f.0 f.1

  at_few_numbers : number c < 14 → Every P (before few_numbers) → Both P c
  at_few_numbers l f = step P c few_parts at_few_parts l f.0 f.1

  at_fits : number c < 15 → Every P (before fits) → Both P c
  at_fits l f = step P c few_numbers at_few_numbers l f.0 f.1

  at_few_sites : number c < 16 → Every P (before few_sites) → Both P c
  at_few_sites l f = step P c fits at_fits l f.0 f.1

  at_few_positions : number c < 17 → Every P (before few_positions) → Both P c
  at_few_positions l f = step P c few_sites at_few_sites l f.0 f.1

  at_fits_bounded : number c < 18 → Every P (before fits_bounded) → Both P c
  at_fits_bounded l f = step P c few_positions at_few_positions l f.0 f.1

  at_known : number c < 19 → Every P (before known) → Both P c
  at_known l f = step P c fits_bounded at_fits_bounded l f.0 f.1

  at_legal : number c < 20 → Every P (before legal) → Both P c
  at_legal l f = step P c known at_known l f.0 f.1

  at_readable : number c < 21 → Every P (before readable) → Both P c
  at_readable l f = step P c legal at_legal l f.0 f.1

  at_few_bytes : number c < 22 → Every P (before few_bytes) → Both P c
  at_few_bytes l f = step P c readable at_readable l f.0 f.1

  at_confirmed : number c < 23 → Every P (before confirmed) → Both P c
  at_confirmed l f = step P c few_bytes at_few_bytes l f.0 f.1

  pub earlier : (k : Condition) → number c < number k → Every P (before k) → Both P c
  earlier selects l f = at_selects l f
  earlier word l f = at_word l f
  earlier unused l f = at_unused l f
  earlier reached l f = at_reached l f
  earlier left l f = at_left l f
  earlier settled l f = at_settled l f
  earlier whole l f = at_whole l f
  earlier visible l f = at_visible l f
  earlier passable l f = at_passable l f
  earlier unmoved l f = at_unmoved l f
  earlier few_parameters l f = at_few_parameters l f
  earlier few_lifetimes l f = at_few_lifetimes l f
  earlier few_levels l f = at_few_levels l f
  earlier few_parts l f = at_few_parts l f
  earlier few_numbers l f = at_few_numbers l f
  earlier fits l f = at_fits l f
  earlier few_sites l f = at_few_sites l f
  earlier few_positions l f = at_few_positions l f
  earlier fits_bounded l f = at_fits_bounded l f
  earlier known l f = at_known l f
  earlier legal l f = at_legal l f
  earlier readable l f = at_readable l f
  earlier few_bytes l f = at_few_bytes l f
  earlier confirmed l f = at_confirmed l f

-- of two conditions that differ one stands in front of the other
pub in_order : (c k : Condition) → (c ≡ k) ⊎ ((number c < number k) ⊎ (number k < number c))
in_order c k = by (cases_order (number c) (number k))
  where
    by : (number c ≡ number k) ⊎ ((number c < number k) ⊎ (number k < number c)) → (c ≡ k) ⊎ ((number c < number k) ⊎ (number k < number c))
    by (inl e) = inl (one_number c k e)
    by (inr l) = inr l
