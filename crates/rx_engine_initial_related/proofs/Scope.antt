-- What is in scope, by a renaming that has each variable in a slot of its own.
use Rattle.std.proofs.Common.{◌≡◌, ℕ, Bool, true, false, nat_eq, if◌then◌else◌, List, [], ◌∷◌, ◌++◌, Option, Some, None, refl, sym, ◌∙◌, subst, ap, eqb-true}
use Rattle.rx_lower_walks.specs.Walks.{Among, here, there}
use Rattle.rx_engine_simulation.specs.Sights.{How, plain, special, through, copied, viewed, absent, Sight, sight, Renaming, sight_of, IsNew}
use Rattle.rx_engine_simulation.specs.Places.{IsDirect}
use Rattle.rx_engine_initial.specs.Variables.{Kept, as_itself, by_reference, Sides, LikeVariable, KnownVariables}
use Rattle.rx_engine_initial.specs.Entered.{IsNewHere}
use Rattle.rx_engine_initial.proofs.Ways.{same_self, other_number}
use Rattle.rx_engine_initial.proofs.Uses.{some_is, none_is}
use Rattle.rx_engine_initial_forms.specs.Agreeing.{Agrees}
use Rattle.rx_engine_initial_related.specs.CallerAsked.{IsSlot}

-- ---- renamings

abbrev pub AllSlots : Renaming → Type 0
AllSlots N = (x : ℕ) (e : Sight) → sight_of N x ≡ Some e → IsSlot e.how

-- no variable of the answer stands for two
abbrev pub Injective : Renaming → Type 0
Injective N = (x z : ℕ) (e f : Sight) → sight_of N x ≡ Some e → sight_of N z ≡ Some f → e.to ≡ f.to → x ≡ z

pub slot_direct : (w : How) → IsSlot w → IsDirect w
slot_direct (plain h) s = tt
slot_direct special s = tt
slot_direct copied s = tt
slot_direct (through h m) s = s
slot_direct viewed s = s
slot_direct absent s = s

-- with one entry more
module _ (N : Renaming) (x : ℕ) (s : Sight) where
  pub first : sight_of ((x, s) ∷ N) x ≡ Some s
  first = ap (λ b. if b then Some s else sight_of N x) (same_self x)

  pub further : (z : ℕ) → (z ≡ x → ⊥) → sight_of ((x, s) ∷ N) z ≡ sight_of N z
  further z n = ap (λ b. if b then Some s else sight_of N z) (other_number z x n)

  -- where it had none, it has no more for others than before
  pub earlier : sight_of N x ≡ None → (z : ℕ) → sight_of ((x, s) ∷ N) z ≡ None → sight_of N z ≡ None
  earlier none z q = by (sight_of N z) refl
    where
      by : (o : Option Sight) → sight_of N z ≡ o → sight_of N z ≡ None
      by None p = p
      by (Some t) p = none_is (sym q ∙ (further z (λ (i : z ≡ x). none_is (sym none ∙ subst (λ v. sight_of N v ≡ Some t) i p)) ∙ p))

  -- what it says is said of the new one, or was said
  pub data OneOr (z : ℕ) (e : Sight) : Type 0 where
    the_one : z ≡ x → e ≡ s → OneOr z e
    another : (z ≡ x → ⊥) → sight_of N z ≡ Some e → OneOr z e

  not_same : {A : Type 0} → nat_eq x x ≡ false → A
  not_same e = absurd (clash (sym e ∙ same_self x))
    where
      clash : false ≡ true → ⊥
      clash q = cc

  pub one_or : (z : ℕ) (e : Sight) → sight_of ((x, s) ∷ N) z ≡ Some e → OneOr z e
  one_or z e h = by (nat_eq z x) refl h
    where
      by : (b : Bool) → nat_eq z x ≡ b → (if b then Some s else sight_of N z) ≡ Some e → OneOr z e
      by true q k = the_one (eqb-true z x q) (sym (some_is k))
      by false q k = another (λ (p : z ≡ x). not_same (subst (λ v. nat_eq v x ≡ false) p q)) k

pub injective_more : (N : Renaming) (x : ℕ) (s : Sight) → Injective N → IsNew N s.to → Injective ((x, s) ∷ N)
injective_more N x s inj new a b e f h k q = by (one_or N x s a e h) (one_or N x s b f k)
  where
    by : OneOr N x s a e → OneOr N x s b f → a ≡ b
    by (the_one i j) (the_one m n) = i ∙ sym m
    by (the_one i j) (another m n) = absurd (new b f n (sym q ∙ ap (λ (t : Sight). t.to) j))
    by (another i j) (the_one m n) = absurd (new a e j (q ∙ ap (λ (t : Sight). t.to) n))
    by (another i j) (another m n) = inj a b e f j n q

pub slots_more : (N : Renaming) (x y : ℕ) → AllSlots N → AllSlots ((x, sight y special) ∷ N)
slots_more N x y all z e h = by (one_or N x (sight y special) z e h)
  where
    by : OneOr N x (sight y special) z e → IsSlot e.how
    by (the_one i j) = subst (λ (t : Sight). IsSlot t.how) (sym j) tt
    by (another i j) = all z e j

-- ---- what is in scope

abbrev kept_by : ℕ → Option Sight → List Kept
kept_by x None = []
kept_by x (Some e) = as_itself e.to x ∷ []

-- by the entries of the second, as the first says
abbrev all_kept : Renaming → Renaming → List Kept
all_kept N [] = []
all_kept N (b ∷ bs) = kept_by b.0 (sight_of N b.0) ++ all_kept N bs

record Says (N : Renaming) (y x : ℕ) : Type 0 where
  says : Sight
  is : sight_of N x ≡ Some says
  to : says.to ≡ y

kept_by_is : (N : Renaming) (v : ℕ) (rest : List Kept) (y x : ℕ) (o : Option Sight) → sight_of N v ≡ o → Among (as_itself y x) (kept_by v o ++ rest) → (Among (as_itself y x) rest → Says N y x) → Says N y x
kept_by_is N v rest y x None e j f = f j
kept_by_is N v rest _ _ (Some s) e here f = record { says = s; is = e; to = refl }
kept_by_is N v rest y x (Some s) e (there j) f = f j

kept_is : (N M : Renaming) (y x : ℕ) → Among (as_itself y x) (all_kept N M) → Says N y x
kept_is N [] y x i = elim i [ ]
kept_is N (b ∷ bs) y x i = kept_by_is N b.0 (all_kept N bs) y x (sight_of N b.0) refl i (λ j. kept_is N bs y x j)

kept_there : (N M : Renaming) (x : ℕ) (e d : Sight) → sight_of M x ≡ Some d → sight_of N x ≡ Some e → Among (as_itself e.to x) (all_kept N M)
kept_there N [] x e d h k = none_is h
kept_there N (b ∷ bs) x e d h k = by (nat_eq x b.0) refl h (λ j. kept_there N bs x e d j k)
  where
    -- in front of the others, or among them
    behind : (o : Option Sight) → Among (as_itself e.to x) (all_kept N bs) → Among (as_itself e.to x) (kept_by b.0 o ++ all_kept N bs)
    behind None j = j
    behind (Some s) j = there j

    by : (t : Bool) → nat_eq x b.0 ≡ t → (if t then Some b.1 else sight_of bs x) ≡ Some d → (sight_of bs x ≡ Some d → Among (as_itself e.to x) (all_kept N bs)) → Among (as_itself e.to x) (kept_by b.0 (sight_of N b.0) ++ all_kept N bs)
    by true q p rest =
        subst (λ o. Among (as_itself e.to x) (kept_by b.0 o ++ all_kept N bs)) (sym k ∙ ap (λ v. sight_of N v) (eqb-true x b.0 q))
        (subst (λ v. Among (as_itself e.to x) (as_itself e.to v ∷ all_kept N bs)) (eqb-true x b.0 q) here)
    by false q p rest = behind (sight_of N b.0) (rest p)

no_reference : (N M : Renaming) {y : ℕ} → Among (by_reference y) (all_kept N M) → ⊥
no_reference N [] i = elim i [ ]
no_reference N (b ∷ bs) {y} i = by (sight_of N b.0) i (λ j. no_reference N bs j)
  where
    by : (o : Option Sight) → Among (by_reference y) (kept_by b.0 o ++ all_kept N bs) → (Among (by_reference y) (all_kept N bs) → ⊥) → ⊥
    by None j rest = rest j
    by (Some s) (there j) rest = rest j

module _ (S : Sides) (N : Renaming) (loops : List (ℕ × ℕ)) (all : AllSlots N) (inj : Injective N) (types : (x : ℕ) (e : Sight) → sight_of N x ≡ Some e → LikeVariable S e.to x) where
  one_there : (x y z : ℕ) → Among (as_itself x y) (all_kept N N) → Among (as_itself x z) (all_kept N N) → y ≡ z
  one_there x y z i j = let p = kept_is N N x y i in let q = kept_is N N x z j in inj y z p.says q.says p.is q.is (p.to ∙ sym q.to)

  one_here : (x y z : ℕ) → Among (as_itself x z) (all_kept N N) → Among (as_itself y z) (all_kept N N) → x ≡ y
  one_here x y z i j = let p = kept_is N N x z i in let q = kept_is N N y z j in sym p.to ∙ (ap (λ (t : Sight). t.to) (some_is (sym p.is ∙ q.is)) ∙ q.to)

  alike : (x y : ℕ) → Among (as_itself x y) (all_kept N N) → LikeVariable S x y
  alike x y i = let p = kept_is N N x y i in subst (λ v. LikeVariable S v y) p.to (types y p.says p.is)

  pub known : KnownVariables S
  known = record { variables = all_kept N N; loops = loops; one_there = one_there; one_here = one_here; apart = λ x y i j. no_reference N N j; alike = alike }

  pub known_loops : known.loops ≡ loops
  unfolding known
  known_loops = refl

  pub in_scope : (x : ℕ) (e : Sight) → sight_of N x ≡ Some e → Among (as_itself e.to x) known.variables
  unfolding known
  in_scope x e h = kept_there N N x e e h h

  pub none_by_reference : (y : ℕ) → Among (by_reference y) known.variables → ⊥
  unfolding known
  none_by_reference y i = no_reference N N i

  pub what_is_in_scope : (x y : ℕ) → Among (as_itself y x) known.variables → (e : Sight) × (sight_of N x ≡ Some e) × (e.to ≡ y)
  unfolding known
  what_is_in_scope x y i = let p = kept_is N N y x i in (p.says, p.is, p.to)

  pub agrees : Agrees S N known
  unfolding known
  agrees = record {
    as_they_are = λ x y w h d. in_scope x (sight y w) h;
    behind_them = λ x y w m h. absurd (all x _ h);
    seen_through = λ x y h. absurd (all x _ h);
    no_others = λ x y i. let p = kept_is N N y x i in (p.says.how, p.is ∙ ap (λ v. Some (sight v p.says.how)) p.to, slot_direct p.says.how (all x p.says p.is));
    no_other_references = λ y i. absurd (no_reference N N i);
  }

-- ---- of a caller's scope

module _ (S : Sides) (R : Renaming) (K : KnownVariables S) (g : Agrees S R K) (all : AllSlots R) where
  pub seen : (x : ℕ) (e : Sight) → sight_of R x ≡ Some e → Among (as_itself e.to x) K.variables
  seen x e h = g.as_they_are x e.to e.how h (slot_direct e.how (all x e h))

  pub scope_injective : Injective R
  scope_injective x z e f h k q = K.one_there e.to x z (seen x e h) (subst (λ v. Among (as_itself v z) K.variables) (sym q) (seen z f k))

  pub nothing_behind : (y : ℕ) → Among (by_reference y) K.variables → ⊥
  nothing_behind y i = let z = g.no_other_references y i in K.apart y z.0 (seen z.0 (sight y z.1) z.2) i

  -- what is new in the renaming is new in scope
  pub new_here : (o : ℕ) → IsNew R o → IsNewHere K.variables o
  new_here o n = record { itself = λ x i. let z = g.no_others x o i in n x (sight o z.0) z.1 refl; reference = λ i. nothing_behind o i }
