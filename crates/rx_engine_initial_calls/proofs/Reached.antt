-- Some walk comes to each exit of a run that is reached: whether one comes to a point is told by the sites of the marked function, and an exit
-- other than the run's end has a jump that takes it.
use Rattle.std.proofs.Common.{◌≡◌, ◌⊎◌, inl, inr, ℕ, zero, suc, ◌==◌, Bool, true, false, ◌&&◌, ◌||◌, if◌then◌else◌, List, [], ◌∷◌, ◌++◌, Some, refl, sym, ◌∙◌, subst, ap, true≢false}
use Rattle.std.proofs.lemmas.Bool.Decides.{Decides-eqb}
use Rattle.rx_typed.specs.Tree.{Temporary, tuple, temporary_at}
use Rattle.rx_lower_walks.specs.Actions.{Act, Build, Action, does}
use Rattle.rx_lower_walks.specs.Walks.{Among, here, there}
use Rattle.rx_lower_walks.specs.Graph.{Site, HasSite, has_site}
use Rattle.rx_lower_walks.specs.Pieces.{graph}
use Rattle.rx_lower_walks.proofs.Sites.{site_held, has_held}
use Rattle.rx_exits_plan.specs.Points.{Exit, next, breaks, continues, returns, same_exit, Point, enters, leaves, number}
use Rattle.rx_exits_plan.specs.Marked.{shown, marked}
use Rattle.rx_exits_plan.specs.Unmarked.{makes_mark}
use Rattle.rx_exits_plan.specs.Diverging.{run_diverges}
use Rattle.rx_exits_plan.specs.Exits.{Jump, exits, jumps, is_taken, where_taken, of_loops}
use Rattle.rx_exits_plan.specs.Asked.{Asked}
use Rattle.rx_exits_plan.specs.Unreachable.{SomeComes, IsToEnd, first_of, At, first, last, jump, Unreachable, not_begun, not_ended, not_left}

-- ---- whether an action is the mark of a point

abbrev is_at : ℕ → Temporary → Bool
is_at n t = (t.node == n) && (t.which == 0)

abbrev makes_it : ℕ → Act → Bool
makes_it n (Build w is ts d) = makes_mark w is ts && is_at n d
makes_it n _ = false

abbrev is_shown : ℕ → Action → Bool
is_shown n a = (a.node == n) && makes_it n a.act

both_true : (a b : Bool) → (a && b) ≡ true → (a ≡ true) × (b ≡ true)
both_true true b h = (refl, h)
both_true false b h = absurd (true≢false (sym h))

there_is : (n : ℕ) (t : Temporary) → is_at n t ≡ true → t ≡ temporary_at n 0
there_is n t h =
    let b = both_true (t.node == n) (t.which == 0) h in
    ap (λ k. temporary_at k t.which) ((Decides-eqb t.node n).0 b.0) ∙ ap (λ k. temporary_at n k) ((Decides-eqb t.which 0).0 b.1)

is_made : (n : ℕ) (a : Act) → makes_it n a ≡ true → a ≡ Build tuple [] [] (temporary_at n 0)
is_made n (Build tuple [] [] d) h = ap (λ t. Build tuple [] [] t) (there_is n d h)
is_made n _ h = absurd (true≢false (sym h))

it_is : (p : Point) (a : Action) → is_shown (number p) a ≡ true → a ≡ shown p
it_is p a h =
    let b = both_true (a.node == number p) (makes_it (number p) a.act) h in
    ap (λ n. does n a.act) ((Decides-eqb a.node (number p)).0 b.0) ∙ ap (λ x. does (number p) x) (is_made (number p) a.act b.1)

shows_itself : (p : Point) → is_shown (number p) (shown p) ≡ true
shows_itself p = ap (λ b. b && (b && true)) ((Decides-eqb (number p) (number p)).1 refl)

the_mark : (p : Point) (a : Action) → (a ≡ shown p) ⊎ (a ≡ shown p → ⊥)
the_mark p a = by (is_shown (number p) a) refl
  where
    by : (b : Bool) → is_shown (number p) a ≡ b → (a ≡ shown p) ⊎ (a ≡ shown p → ⊥)
    by true e = inl (it_is p a e)
    by false e = inr (λ q. true≢false (sym (shows_itself p) ∙ (ap (λ x. is_shown (number p) x) (sym q) ∙ e)))

-- ---- whether some walk comes to a point

later : {g : List Site} {a : Action} (s : Site) → HasSite g a → HasSite (s ∷ g) a
later s (has_site i t e d) = has_site (suc i) t e d

none_there : {a : Action} → HasSite [] a → ⊥
none_there (has_site i s e d) = absurd (cc)

neither : {a : Action} (s : Site) (g : List Site) → (s.action ≡ a → ⊥) → (HasSite g a → ⊥) → HasSite (s ∷ g) a → ⊥
neither s g n f (has_site zero t e d) = let z : s ≡ t = cc in n (ap (λ (x : Site). x.action) z ∙ d)
neither s g n f (has_site (suc i) t e d) = f (has_site i t e d)

site_or_none : (p : Point) (g : List Site) → HasSite g (shown p) ⊎ (HasSite g (shown p) → ⊥)
site_or_none p [] = inr none_there
site_or_none p (s ∷ g) = by (the_mark p s.action) (site_or_none p g)
  where
    by : (s.action ≡ shown p) ⊎ (s.action ≡ shown p → ⊥) → HasSite g (shown p) ⊎ (HasSite g (shown p) → ⊥) → HasSite (s ∷ g) (shown p) ⊎ (HasSite (s ∷ g) (shown p) → ⊥)
    by (inl e) h = inl (has_site 0 s refl e)
    by (inr n) (inl h) = inl (later s h)
    by (inr n) (inr f) = inr (neither s g n f)

pub some_or_none : (A : Asked) (q : Point) → SomeComes A q ⊎ (SomeComes A q → ⊥)
some_or_none A q = by (site_or_none q (graph (marked A.run A.home.around.loops [] A.function)))
  where
    by : HasSite (graph (marked A.run A.home.around.loops [] A.function)) (shown q) ⊎ (HasSite (graph (marked A.run A.home.around.loops [] A.function)) (shown q) → ⊥) → SomeComes A q ⊎ (SomeComes A q → ⊥)
    by (inl h) = inl (has_held (marked A.run A.home.around.loops [] A.function) (shown q) h)
    by (inr n) = inr (λ c. n (site_held (marked A.run A.home.around.loops [] A.function) (shown q) c))

-- ---- an exit has a jump

abbrev HasJump : Exit → List Jump → Type 0
HasJump x js = (n : ℕ) × (first_of x js ≡ Some n)

first_taken : (x : Exit) (js : List Jump) → is_taken x js ≡ true → HasJump x js
first_taken x [] e = absurd (true≢false (sym e))
first_taken x (j ∷ js) e = by (same_exit x j.exit) e (λ h. first_taken x js h)
  where
    by : (b : Bool) → (b || is_taken x js) ≡ true → (is_taken x js ≡ true → HasJump x js) → (n : ℕ) × ((if b then Some j.node else first_of x js) ≡ Some n)
    by true h f = (j.node, refl)
    by false h f = f h

one_only : {x y : Exit} → Among x (y ∷ []) → x ≡ y
one_only here = refl
one_only (there i) = elim i [ ]

either_part : {x : Exit} (l m : List Exit) → Among x (l ++ m) → Among x l ⊎ Among x m
either_part [] m i = inr i
either_part (y ∷ l) m here = inl here
either_part {x = x} (y ∷ l) m (there i) = by (either_part l m i)
  where
    by : Among x l ⊎ Among x m → Among x (y ∷ l) ⊎ Among x m
    by (inl k) = inl (there k)
    by (inr k) = inr k

takes : (x e : Exit) (js : List Jump) → Among e (where_taken x js) → HasJump e js
takes x e js i = by (is_taken x js) refl i
  where
    by : (b : Bool) → is_taken x js ≡ b → Among e (if b then x ∷ [] else []) → HasJump e js
    by true h k = subst (λ y. HasJump y js) (sym (one_only k)) (first_taken x js h)
    by false h k = elim k [ ]

loop_takes : (ls : List ℕ) (e : Exit) (js : List Jump) → Among e (of_loops ls js) → HasJump e js
loop_takes [] e js i = elim i [ ]
loop_takes (l ∷ ls) e js i = by (either_part (where_taken (breaks l) js) (where_taken (continues l) js ++ of_loops ls js) i) (λ k. loop_takes ls e js k)
  where
    rest : Among e (where_taken (continues l) js) ⊎ Among e (of_loops ls js) → (Among e (of_loops ls js) → HasJump e js) → HasJump e js
    rest (inl k) f = takes (continues l) e js k
    rest (inr k) f = f k

    by : Among e (where_taken (breaks l) js) ⊎ Among e (where_taken (continues l) js ++ of_loops ls js) → (Among e (of_loops ls js) → HasJump e js) → HasJump e js
    by (inl k) f = takes (breaks l) e js k
    by (inr k) f = rest (either_part (where_taken (continues l) js) (of_loops ls js) k) f

has_jump : (A : Asked) (e : Exit) → Among e (exits A.run A.home) → (e ≡ next → ⊥) → HasJump e (jumps A.run A.home)
has_jump A e i other = by (either_part (if run_diverges A.run A.home.body then [] else next ∷ []) (of_loops A.home.around.loops (jumps A.run A.home) ++ where_taken returns (jumps A.run A.home)) i)
  where
    at_end : (b : Bool) → Among e (if b then [] else next ∷ []) → HasJump e (jumps A.run A.home)
    at_end true k = elim k [ ]
    at_end false k = absurd (other (one_only k))

    rest : Among e (of_loops A.home.around.loops (jumps A.run A.home)) ⊎ Among e (where_taken returns (jumps A.run A.home)) → HasJump e (jumps A.run A.home)
    rest (inl k) = loop_takes A.home.around.loops e (jumps A.run A.home) k
    rest (inr k) = takes returns e (jumps A.run A.home) k

    by : Among e (if run_diverges A.run A.home.body then [] else next ∷ []) ⊎ Among e (of_loops A.home.around.loops (jumps A.run A.home) ++ where_taken returns (jumps A.run A.home)) → HasJump e (jumps A.run A.home)
    by (inl k) = at_end (run_diverges A.run A.home.body) k
    by (inr k) = rest (either_part (of_loops A.home.around.loops (jumps A.run A.home)) (where_taken returns (jumps A.run A.home)) k)

-- ---- a run that is reached

module _ (A : Asked) (f : (q : At) → Unreachable A q → ⊥) where
  entered : SomeComes A enters
  entered = by (some_or_none A enters)
    where
      by : SomeComes A enters ⊎ (SomeComes A enters → ⊥) → SomeComes A enters
      by (inl c) = c
      by (inr n) = absurd (f first (not_begun n))

  ended : IsToEnd A → SomeComes A (leaves next)
  ended t = by (some_or_none A (leaves next))
    where
      by : SomeComes A (leaves next) ⊎ (SomeComes A (leaves next) → ⊥) → SomeComes A (leaves next)
      by (inl c) = c
      by (inr n) = absurd (f last (not_ended entered t n))

  ended_or_not : SomeComes A (leaves next) ⊎ (IsToEnd A → ⊥)
  ended_or_not = by (some_or_none A (leaves next))
    where
      by : SomeComes A (leaves next) ⊎ (SomeComes A (leaves next) → ⊥) → SomeComes A (leaves next) ⊎ (IsToEnd A → ⊥)
      by (inl c) = inl c
      by (inr n) = inr (λ t. n (ended t))

  left : (e : Exit) → Among e (exits A.run A.home) → (e ≡ next → ⊥) → SomeComes A (leaves e)
  left e i other = by (some_or_none A (leaves e)) (has_jump A e i other)
    where
      by : SomeComes A (leaves e) ⊎ (SomeComes A (leaves e) → ⊥) → HasJump e (jumps A.run A.home) → SomeComes A (leaves e)
      by (inl c) j = c
      by (inr n) (k, g) = absurd (f (jump k) (not_left entered ended_or_not e k i other n g))

  pub reached : (e : Exit) → Among e (exits A.run A.home) → SomeComes A (leaves e)
  reached next i = ended (inl i)
  reached (breaks l) i = left (breaks l) i (λ h. absurd (cc))
  reached (continues l) i = left (continues l) i (λ h. absurd (cc))
  reached returns i = left returns i (λ h. absurd (cc))
