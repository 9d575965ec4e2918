-- Of a function that is initialised: a variable of which a part is set was written as a whole since it was last lost; and one that was
-- not is not used.
use Rattle.std.proofs.Common.{◌≡◌, ◌⊎◌, inl, inr, ℕ, ◌+◌, Bool, true, false, not, ◌&&◌, ◌||◌, nat_le, nat_lt, nat_eq, ◌==◌, List, [], ◌∷◌, refl, sym, ap, ◌∙◌, subst, true≢false, eqb-true, arith}
use Rattle.std.proofs.lemmas.Bool.{eqb-false}
use Rattle.std.proofs.lemmas.Bool.Decides.{Decides-eqb}
use Rattle.rx_core.specs.declared.types.Step.{Step}
use Rattle.rx_typed.specs.Tree.{Root, variable, temporary, Place, Temporary, Function, own}
use Rattle.rx_typed.specs.TypedPlaces.{is_front, same_steps}
use Rattle.rx_lower_walks.specs.Actions.{Act, Declare, Dead, Read, Write, Borrow, Test, Call, Build, Input, Print, Give, Action}
use Rattle.rx_facts_tables.specs.Along.{after}
use Rattle.rx_facts_tables.specs.Places.{Frame, Located, spot_parts, is_part}
use Rattle.rx_facts_tables.proofs.Walking.{nothing_there}
use Rattle.rx_facts_tables.specs.Setting.{is_behind, sets, unsets, setting}
use Rattle.rx_facts_tables.specs.Wholes.{placed, is_variable, is_all, regains, loses, standing, begins, assigns}
use Rattle.rx_facts_tables.specs.Wholes as wholes
use Rattle.rx_facts_tables.specs.Initialised.{Initialised}
use Rattle.rx_facts_tables.proofs.Fronts.{both_true}
use Rattle.rx_facts_tables.proofs.Numbers.{in_between}
use Rattle.rx_meaning_keeping.proofs.Parts.{Parted}
use Rattle.rx_engine_simulation.specs.Histories.{IsRoot, IsWhole, Declares, WritesWhole, Written}
use Rattle.rx_engine_simulation.specs.Programs.{back, IsHistory}
use Rattle.rx_engine_related.proofs.Since.{since, after_back, next_walk, older}

-- ---- truth values

pub either : (a b : Bool) → a || b ≡ true → (a ≡ true) ⊎ (b ≡ true)
either true b e = inl refl
either false b e = inr e

pub or_right : (a b : Bool) → b ≡ true → a || b ≡ true
or_right true b e = refl
or_right false b e = e

kept : (u l s t : Bool) → (l ≡ true → u ≡ true) → (s ≡ true → t ≡ true) → not u && s ≡ true → not l && t ≡ true
kept true l s t f g e = absurd (true≢false (sym e))
kept false true s t f g e = absurd (true≢false (sym (f refl)))
kept false false s t f g e = g e

itself : (x : ℕ) → (x == x) ≡ true
itself x = (Decides-eqb x x).1 refl

-- ---- parts

none_there : (F : Frame) (t : Temporary) (ss : List Step) (n : ℕ) → is_part F (record { root = temporary t; steps = ss }) n ≡ true → ⊥
none_there F t ss n e = let h = sym (ap (λ (l : Located). nat_le l.first n && nat_lt n (l.first + spot_parts F.sizes l.spot)) (nothing_there F.declared F.sizes ss 0)) ∙ e in let b = in_between 0 0 n h in omega (arith, b.0, b.1)

module _ (F : Frame) (parts : Parted F) (x n : ℕ) (is : is_part F (own x) n ≡ true) where
  -- a place that has it is of the variable
  of_it : (r : Root) (ss : List Step) → is_part F (record { root = r; steps = ss }) n ≡ true → r ≡ variable x
  of_it (temporary t) ss e = absurd (none_there F t ss n e)
  of_it (variable y) ss e = by (nat_eq x y) refl
    where
      by : (b : Bool) → nat_eq x y ≡ b → variable y ≡ variable x
      by true q = ap variable (sym (eqb-true x y q))
      by false q = absurd (parts.other x y [] ss n (eqb-false x y q) is e)

  -- a write of the whole, or of a part of it
  write_stands : (p : Place) (s : Bool) (r : Root) (ss : List Step) → r ≡ variable x → ((is_variable r x && (is_front [] ss && not (is_front ss []) && not (is_behind []))) ≡ true → s ≡ true) → (is_variable r x && is_front ss []) || s ≡ true
  write_stands p s r [] e f = let h : (is_variable r x && true) ≡ true = subst (λ q. (is_variable q x && true) ≡ true) (sym e) (ap (λ b. b && true) (itself x)) in by (is_variable r x && true) h
    where
      by : (b : Bool) → b ≡ true → b || s ≡ true
      by true e = refl
      by false e = absurd (true≢false (sym e))
  write_stands p s r (q ∷ ss) e f = or_right (is_variable r x && false) s (f (subst (λ z. (is_variable z x && true) ≡ true) (sym e) (ap (λ b. b && true) (itself x))))

  whole_moved : (p : Place) (y : Bool) → is_variable p.root x && same_steps p.steps [] ≡ true → is_part F p n ≡ true
  whole_moved p y e = by p.root p.steps (both_true (is_variable p.root x) (same_steps p.steps []) e)
    where
      by : (r : Root) (ss : List Step) → (is_variable r x ≡ true) × (same_steps ss [] ≡ true) → is_part F (record { root = r; steps = ss }) n ≡ true
      by (variable z) [] h = subst (λ v. is_part F (own v) n ≡ true) (sym ((Decides-eqb z x).0 h.0)) is
      by (variable z) (q ∷ ss) h = absurd (true≢false (sym h.1))
      by (temporary t) ss h = absurd (true≢false (sym h.0))

  step : (a : Act) (s t : Bool) → (s ≡ true → t ≡ true) → (wholes.enters x [] a ≡ true → t ≡ true) → sets F n a || (not (unsets F n a) && s) ≡ true → regains x [] a || (not (loses x [] a) && t) ≡ true
  step (Declare y) s t f g e = kept (is_part F (own y) n) ((y == x) && true) s t (λ q. subst (λ v. is_part F (own v) n ≡ true) (sym ((Decides-eqb y x).0 (both_true (y == x) true q).0)) is) f e
  step (Dead y) s t f g e = kept (is_part F (own y) n) ((y == x) && true) s t (λ q. subst (λ v. is_part F (own v) n ≡ true) (sym ((Decides-eqb y x).0 (both_true (y == x) true q).0)) is) f e
  step (Read true p d) s t f g e = kept (is_part F p n) (is_variable p.root x && same_steps p.steps []) s t (λ q. whole_moved p true q) f e
  step (Read false p d) s t f g e = f e
  step (Write p d ss) s t f g e = by (either (not (is_behind p.steps) && is_part F p n) s e)
    where
      by : (not (is_behind p.steps) && is_part F p n ≡ true) ⊎ (s ≡ true) → (is_variable p.root x && is_front p.steps []) || t ≡ true
      by (inl h) = write_stands p t p.root p.steps (of_it p.root p.steps (both_true (not (is_behind p.steps)) (is_part F p n) h).1) g
      by (inr h) = or_right (is_variable p.root x && is_front p.steps []) t (f h)
  step (Borrow k p d) s t f g e = f e
  step (Test p c) s t f g e = f e
  step (Call m ts d) s t f g e = f e
  step (Build w js ts d) s t f g e = f e
  step (Input d) s t f g e = f e
  step (Print d) s t f g e = f e
  step (Give d) s t f g e = f e

  pub set_stands : (muts : List Bool) (f : Function) → Initialised F muts f → (h : List Action) → IsHistory f h → since (setting F n) h ≡ true → since (standing x []) h ≡ true
  set_stands muts f init [] k e = e
  set_stands muts f init (a ∷ h) k e =
      step a.act (since (setting F n) h) (since (standing x []) h) (λ q. set_stands muts f init h (older f a h k) q)
      (λ q. sym (after_back (standing x []) h []) ∙ (init (back h []) a (next_walk f a h k)).enters x [] q) e

-- ---- what stands was written

is_here : (r : Root) (x : ℕ) → is_variable r x ≡ true → IsRoot r x
is_here (variable y) x e = sym ((Decides-eqb y x).0 e)
is_here (temporary t) x e = true≢false (sym e)

is_whole : (ss : List Step) → is_front ss [] ≡ true → IsWhole ss
is_whole [] e = tt
is_whole (s ∷ ss) e = true≢false (sym e)

pub stands_written : (x : ℕ) (h : List Action) → since (standing x []) h ≡ true → Written h x
stands_written x [] e = true≢false (sym e)
stands_written x (a ∷ h) e = by a.act (λ q. stands_written x h q) e
  where
    behind_it : (l s : Bool) → not l && s ≡ true → s ≡ true
    behind_it true s q = absurd (true≢false (sym q))
    behind_it false s q = q

    by : (y : Act) → (since (standing x []) h ≡ true → Written h x) → regains x [] y || (not (loses x [] y) && since (standing x []) h) ≡ true
        → WritesWhole y x ⊎ ((Declares y x → ⊥) × Written h x)
    by (Declare y) f q = inr ((λ d. not_it d), f (behind_it ((y == x) && true) (since (standing x []) h) q))
      where
        not_it : x ≡ y → ⊥
        not_it d = no ((y == x) && true) (ap (λ b. b && true) (subst (λ v. (v == x) ≡ true) d (itself x))) q
          where
            no : (b : Bool) → b ≡ true → not b && since (standing x []) h ≡ true → ⊥
            no true e z = true≢false (sym z)
            no false e z = true≢false (sym e)
    by (Dead y) f q = inr ((λ d. d), f (behind_it ((y == x) && true) (since (standing x []) h) q))
    by (Read true p d) f q = inr ((λ d. d), f (behind_it (is_variable p.root x && same_steps p.steps []) (since (standing x []) h) q))
    by (Read false p d) f q = inr ((λ d. d), f q)
    by (Write p d ss) f q = its (either (is_variable p.root x && is_front p.steps []) (since (standing x []) h) q)
      where
        its : (is_variable p.root x && is_front p.steps [] ≡ true) ⊎ (since (standing x []) h ≡ true) → (WritesWhole (Write p d ss) x) ⊎ ((⊥ → ⊥) × Written h x)
        its (inl z) = let b = both_true (is_variable p.root x) (is_front p.steps []) z in inl (is_here p.root x b.0, is_whole p.steps b.1)
        its (inr z) = inr ((λ d. d), f z)
    by (Borrow k p d) f q = inr ((λ d. d), f q)
    by (Test p c) f q = inr ((λ d. d), f q)
    by (Call m ts d) f q = inr ((λ d. d), f q)
    by (Build w js ts d) f q = inr ((λ d. d), f q)
    by (Input d) f q = inr ((λ d. d), f q)
    by (Print d) f q = inr ((λ d. d), f q)
    by (Give d) f q = inr ((λ d. d), f q)

pub set_written : (F : Frame) → Parted F → (muts : List Bool) (f : Function) → Initialised F muts f → (x n : ℕ) → is_part F (own x) n ≡ true → (h : List Action) → IsHistory f h → after (setting F n) (back h []) false ≡ true → Written h x
set_written F parts muts f init x n is h k e = stands_written x h (set_stands F parts x n is muts f init h k (sym (after_back (setting F n) h []) ∙ e))
