-- What a turn of both can be, by the turns that each has left; a pair of states that grew, and grew again, has grown.
use Rattle.std.proofs.Common.{◌≡◌, ℕ, zero, suc, ◌+◌, ◌*◌, ◌≤◌, List, length, Some, subst, arith, le_refl, ◌⊎◌, inl, inr, ⊎_elim}
use Rattle.std.proofs.Math.Nat.{suc-mul}
use Rattle.rx_meaning.specs.Values.{slot_of, State}
use Rattle.rx_engine_simulation.proofs.Values.{Pair, In}
pub use Rattle.rx_engine_simulation.specs.Turns.{Direction, shorter, longer, Turns, TextMayStop, AnswerMayStop, MayStray, TextMayEnd, AnswerMayEnd, Allowance, gain}
pub use Rattle.rx_engine_simulation.specs.States.{Frozen, Thawed, SameAt, IsPlain, IsThrough, IsCopied, IsViewed, IsSpecial, Binding, Paired, Framed, IsSetAt, StatesAlike, Grown}
pub use Rattle.rx_engine_simulation.specs.Sights.{How, plain, special, through, copied, viewed, absent, Sight, sight, Renaming, sight_of}
pub use Rattle.rx_engine_simulation.specs.Histories.{IsRoot, IsOwn, IsWhole, Declares, WritesWhole, WritesOwn, BorrowsOwn, Uses, Kills, Written, Borrowed, Facts, Living, asked, now, later}

pub weaken : (d : Direction) (c e t t' : ℕ) → e ≤ c → Turns d c t t' → Turns d e t t'
weaken (shorter g) c e t t' le h = h
weaken (longer g) c e t t' le h = less (t * g.turns) h
  where
    less : (x : ℕ) → t + x + c ≤ t' → t + x + e ≤ t'
    less x h = omega arith

-- what a turn of both can be
pub data TurnCase (d : Direction) (c : ℕ) : ℕ → ℕ → Type 0 where
  text_out : {t' : ℕ} → TextMayStop d → TurnCase d c zero t'
  answer_out : {t : ℕ} → AnswerMayStop d → TurnCase d c t zero
  both_turn : {t t' : ℕ} → Turns d ((gain d).turns + c) t t' → TurnCase d c (suc t) (suc t')

pub turn_case : (d : Direction) (c t t' : ℕ) → Turns d c t t' → TurnCase d c t t'
turn_case (shorter g) c t zero h = answer_out tt
turn_case (shorter g) c zero (suc t') h = absurd (omega arith)
turn_case (shorter g) c (suc t) (suc t') h = both_turn (omega arith)
turn_case (longer g) c zero t' h = text_out tt
turn_case (longer g) c (suc t) zero h = absurd (omega arith)
turn_case (longer g) c (suc t) (suc t') h = both_turn (gained (t * g.turns) (subst (λ x. suc t + x + c ≤ suc t') (suc-mul t g.turns) h))
  where
    gained : (x : ℕ) → suc t + (x + g.turns) + c ≤ suc t' → t + x + (g.turns + c) ≤ t'
    gained x h = omega arith

-- what a turn of the answer alone can be
pub data EntryCase (d : Direction) (c t : ℕ) : ℕ → Type 0 where
  cut_off : AnswerMayStop d → EntryCase d c t zero
  extra : {t' : ℕ} → Turns d c t t' → EntryCase d c t (suc t')

pub entry_case : (d : Direction) (c t t' : ℕ) → Turns d (suc c) t t' → EntryCase d c t t'
entry_case (shorter g) c t zero h = cut_off tt
entry_case (shorter g) c t (suc t') h = extra (omega arith)
entry_case (longer g) c t zero h = absurd (omega arith)
entry_case (longer g) c t (suc t') h = extra (fewer (t * g.turns) h)
  where
    fewer : (x : ℕ) → t + x + suc c ≤ suc t' → t + x + c ≤ t'
    fewer x h = omega arith

-- ---- growth

pub grown_refl : (j : List Pair) (s s' : State) → Grown j s s' j s s'
grown_refl j s s' = record {
  more = λ p i. i;
  fresh = λ q i. inl i;
  fresh' = λ q i. inl i;
  long = le_refl _;
  long' = le_refl _;
  scope = λ x i e. inl e;
  scope' = λ x i e. inl e;
  sets = λ i e. e;
  fewer = le_refl _;
  fewer' = le_refl _;
}

pub grown_trans : (j j1 j2 : List Pair) (s s' t t' u u' : State) → Grown j s s' j1 t t' → Grown j1 t t' j2 u u' → Grown j s s' j2 u u'
grown_trans j j1 j2 s s' t t' u u' g h = record {
  more = λ p i. h.more p (g.more p i);
  fresh = λ q i. new q (h.fresh q i);
  fresh' = λ q i. new' q (h.fresh' q i);
  long = omega (arith, g.long, h.long);
  long' = omega (arith, g.long', h.long');
  scope = λ x i e. ⊎_elim (λ f. g.scope x i f) (λ f. inr (omega (arith, f, g.long))) (h.scope x i e);
  scope' = λ x i e. ⊎_elim (λ f. g.scope' x i f) (λ f. inr (omega (arith, f, g.long'))) (h.scope' x i e);
  sets = λ i e. h.sets i (g.sets i e);
  fewer = omega (arith, g.fewer, h.fewer);
  fewer' = omega (arith, g.fewer', h.fewer');
}
  where
    new : (q : Pair) → In q j1 ⊎ (length t.memory ≤ q.left) ⊎ ((x : ℕ) × (slot_of t.frame.slots x ≡ Some q.left)) → In q j ⊎ (length s.memory ≤ q.left) ⊎ ((x : ℕ) × (slot_of s.frame.slots x ≡ Some q.left))
    new q (inl i) = g.fresh q i
    new q (inr (inl l)) = inr (inl (omega (arith, l, g.long)))
    new q (inr (inr e)) = ⊎_elim (λ f. inr (inr (e.0, f))) (λ f. inr (inl f)) (g.scope e.0 q.left e.1)

    new' : (q : Pair) → In q j1 ⊎ (length t'.memory ≤ q.right) ⊎ ((x : ℕ) × (slot_of t'.frame.slots x ≡ Some q.right)) → In q j ⊎ (length s'.memory ≤ q.right) ⊎ ((x : ℕ) × (slot_of s'.frame.slots x ≡ Some q.right))
    new' q (inl i) = g.fresh' q i
    new' q (inr (inl l)) = inr (inl (omega (arith, l, g.long')))
    new' q (inr (inr e)) = ⊎_elim (λ f. inr (inr (e.0, f))) (λ f. inr (inl f)) (g.scope' e.0 q.right e.1)
