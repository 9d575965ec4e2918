-- What becomes of the variables of the caller in some actions, from one renaming to another: it was had so before, and is left as it is; it is written and
-- left then, handed out; or it begins again.
use Rattle.std.proofs.Common.{◌≡◌, ℕ, List, [], ◌∷◌, ◌++◌, Some, refl, sym, ◌∙◌, subst, ap}
use Rattle.rx_core.specs.declared.types.Step.{Step}
use Rattle.rx_typed.specs.Tree.{Temporary, own}
use Rattle.rx_lower_walks.specs.Actions.{Declare, Write, Action, does}
use Rattle.rx_lower_walks.specs.Walks.{Among, here, there}
use Rattle.rx_exits_plan.specs.Points.{Exit}
use Rattle.rx_exits_plan.specs.Plan.{Plan}
use Rattle.rx_engine_simulation.specs.Sights.{special, Sight, sight, Renaming, sight_of, IsNew}
use Rattle.rx_engine_initial.specs.Fates.{AllLeave}
use Rattle.rx_engine_initial.proofs.Tracing.{joined}
use Rattle.rx_engine_initial_related.proofs.Scope.{OneOr, the_one, another, one_or}
use Rattle.rx_engine_initial_related.proofs.Arguments.{one_more_leaves}

-- with those that may begin again
pub data Came (k : Plan) (e : Exit) (agains : List ℕ) (N : Renaming) (us : List Action) (x : ℕ) (s : Sight) : Type 0 where
  was_so : sight_of N x ≡ Some s → AllLeave us s.to → Came k e agains N us x s
  was_written : Among x (k.outs e) → (before behind : List Action) (n : ℕ) (t : Temporary) (ss : List Step) → us ≡ before ++ does n (Write (own s.to) t ss) ∷ behind → AllLeave behind s.to → Came k e agains N us x s
  has_begun : Among x agains → (before behind : List Action) (n : ℕ) → us ≡ before ++ does n (Declare s.to) ∷ behind → AllLeave behind s.to → Came k e agains N us x s

abbrev pub Comes : Plan → Exit → List ℕ → Renaming → List Action → Renaming → Type 0
Comes k e agains N us M = (x : ℕ) (s : Sight) → sight_of M x ≡ Some s → Came k e agains N us x s

pub both_leave : (us vs : List Action) (y : ℕ) → AllLeave us y → AllLeave vs y → AllLeave (us ++ vs) y
both_leave [] vs y f g a i = g a i
both_leave (u ∷ us) vs y f g a i = one_more_leaves u (us ++ vs) y (f u here) (both_leave us vs y (λ b j. f b (there j)) g) a i

pub none_left : (y : ℕ) → AllLeave [] y
none_left y a i = elim i [ ]

module _ (k : Plan) (e : Exit) (agains : List ℕ) where
  pub comes_none : (N : Renaming) → Comes k e agains N [] N
  comes_none N x s h = was_so h (none_left s.to)

  -- and is left so behind that
  pub came_further : (N : Renaming) (us vs : List Action) (x : ℕ) (s : Sight) → AllLeave vs s.to → Came k e agains N us x s → Came k e agains N (us ++ vs) x s
  came_further N us vs x s l (was_so q m) = was_so q (both_leave us vs s.to m l)
  came_further N us vs x s l (was_written o w b n t ss q m) = was_written o w (b ++ vs) n t ss (ap (λ c. c ++ vs) q ∙ joined w (does n (Write (own s.to) t ss) ∷ b) vs) (both_leave b vs s.to m l)
  came_further N us vs x s l (has_begun o w b n q m) = has_begun o w (b ++ vs) n (ap (λ c. c ++ vs) q ∙ joined w (does n (Declare s.to) ∷ b) vs) (both_leave b vs s.to m l)

  pub comes_both : (N M P : Renaming) (us vs : List Action) → Comes k e agains N us M → Comes k e agains M vs P → Comes k e agains N (us ++ vs) P
  comes_both N M P us vs f g x s h = by (g x s h)
    where
      by : Came k e agains M vs x s → Came k e agains N (us ++ vs) x s
      by (was_so q l) = came_further N us vs x s l (f x s q)
      by (was_written o w b n t ss q l) = was_written o (us ++ w) b n t ss (ap (λ c. us ++ c) q ∙ sym (joined us w (does n (Write (own s.to) t ss) ∷ b))) l
      by (has_begun o w b n q l) = has_begun o (us ++ w) b n (ap (λ c. us ++ c) q ∙ sym (joined us w (does n (Declare s.to) ∷ b))) l

  -- a variable is written that is none of those before; in front of that nothing but this one is touched
  pub comes_written : (N : Renaming) (x y n : ℕ) (t : Temporary) (ss : List Step) (us : List Action) → Among x (k.outs e) → IsNew N y → ((z : ℕ) (s : Sight) → (z ≡ x → ⊥) → sight_of N z ≡ Some s → AllLeave us s.to)
      → Comes k e agains N (us ++ does n (Write (own y) t ss) ∷ []) ((x, sight y special) ∷ N)
  comes_written N x y n t ss us o new f z s h = by (one_or N x (sight y special) z s h)
    where
      by : OneOr N x (sight y special) z s → Came k e agains N (us ++ does n (Write (own y) t ss) ∷ []) z s
      by (the_one i j) =
          subst (λ (v : Sight). Came k e agains N (us ++ does n (Write (own y) t ss) ∷ []) z v) (sym j) (was_written (subst (λ v. Among v (k.outs e)) (sym i) o) us [] n t ss refl (none_left y))
      by (another i j) = was_so j (both_leave us (does n (Write (own y) t ss) ∷ []) s.to (f z s i j) (one_more_leaves (does n (Write (own y) t ss)) [] s.to (λ (q : y ≡ s.to). new z s j (sym q)) (none_left s.to)))

  pub comes_begun : (N : Renaming) (x y n : ℕ) → Among x agains → IsNew N y → Comes k e agains N (does n (Declare y) ∷ []) ((x, sight y special) ∷ N)
  comes_begun N x y n o new z s h = by (one_or N x (sight y special) z s h)
    where
      by : OneOr N x (sight y special) z s → Came k e agains N (does n (Declare y) ∷ []) z s
      by (the_one i j) = subst (λ (v : Sight). Came k e agains N (does n (Declare y) ∷ []) z v) (sym j) (has_begun (subst (λ v. Among v agains) (sym i) o) [] [] n refl (none_left y))
      by (another i j) = was_so j (one_more_leaves (does n (Declare y)) [] s.to (λ (q : y ≡ s.to). new z s j (sym q)) (none_left s.to))
