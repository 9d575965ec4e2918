-- The demands of one rule at one node are counted. Rules are counted by slots; a rule that leaves its demand only one form at
-- a node is settled, and not counted.
use Rattle.std.proofs.Common.{◌≡◌, ◌⊎◌, inl, inr, ℕ, ◌+◌, ◌≤◌, nat_eq, Bool, true, false, cond, List, [], ◌∷◌, ◌++◌, refl, sym, ap, ◌∙◌, arith}
use Rattle.std.proofs.lemmas.Bool.{eq-eqb}
use Rattle.rx_typed.specs.declared.nodes.Node.{Node}
use Rattle.rx_typeck_solver.specs.declared.facts.Broken.{Broken}
use Rattle.rx_typeck_solver.specs.declared.facts.Subject.TheVariants as subject
use Rattle.rx_typeck_solver.specs.declared.facts.Op.TheVariants as op
use Rattle.rx_typeck_solver.specs.declared.facts.Test.TheVariants as test
use Rattle.rx_typeck_solver.specs.declared.facts.Fact.{Fact}
use Rattle.rx_typeck_solver.specs.declared.facts.Fact.TheVariants as fact
use Rattle.rx_typeck_solver.specs.declared.facts.Demand.{Demand}
use Rattle.rx_typeck_typed.specs.Asking.{Asking, ◌>>◌, nothing, asks, when, signed}
use Rattle.rx_typeck_fault_laws.specs.TypeRules as rules
use Rattle.rx_typeck_fault_laws.specs.TypeRules.{TypeRule, of_asked, rule_of}

pub data Slot : Type 0 where
  settled : Slot
  expects : Slot
  own : Slot
  binds : Slot
  gives : Slot
  returns : Slot
  operands : Slot
  shape : Slot
  suffix : Slot
  direct : Slot
  range : Slot
  arguments : Slot
  names : Slot
  step : Slot
  limits : Slot
  lifetimes : Slot
  kept : Slot
  mutable : Slot

abbrev pub slot_of : TypeRule → Slot
slot_of rules.expectation = expects
slot_of rules.own_type = own
slot_of rules.binding = binds
slot_of rules.given_type = gives
slot_of rules.returned_unit = returns
slot_of rules.operands = operands
slot_of rules.pattern_shape = shape
slot_of rules.literal_suffix = suffix
slot_of rules.direct_binding = direct
slot_of rules.literal_range = range
slot_of rules.argument_count = arguments
slot_of rules.field_names = names
slot_of rules.place_step = step
slot_of rules.type_limits = limits
slot_of rules.lifetime_count = lifetimes
slot_of rules.kept_place = kept
slot_of (rules.mutable_place x) = mutable
slot_of _ = settled

-- what a settled rule asks at a node
abbrev pub facts_of : ℕ → TypeRule → List Fact
facts_of n rules.own_expectation = fact.Equals (subject.Expected n) op.Same (subject.Node n ∷ []) [] ∷ []
facts_of n (rules.same_type m) = fact.Equals (subject.Node n) op.Same (subject.Node m ∷ []) [] ∷ []
facts_of n rules.unit_type = fact.Equals (subject.Node n) op.Unit [] [] ∷ []
facts_of n rules.joined_type = fact.Equals (subject.Node n) op.Same (subject.Expected n ∷ []) [] ∷ []
facts_of n rules.coercion = fact.Equals (subject.Node n) op.Coerced (subject.Node n ∷ subject.Expected n ∷ []) [] ∷ []
facts_of n (rules.variable_type x) = fact.Equals (subject.Variable x) op.Same (subject.Node n ∷ []) [] ∷ []
facts_of n rules.tested = fact.Equals (subject.Node n) op.Truth [] [] ∷ []
facts_of n rules.printed = fact.Passes test.Plain (subject.Node n ∷ []) [] [] ∷ []
facts_of n rules.literal_sign = fact.IntegerBehind n signed ∷ []
facts_of n _ = fact.Never ∷ []

-- ---- counts

one : Slot → Slot → ℕ
one settled settled = 0
one expects expects = 1
one own own = 1
one binds binds = 1
one gives gives = 1
one returns returns = 1
one operands operands = 1
one shape shape = 1
one suffix suffix = 1
one direct direct = 1
one range range = 1
one arguments arguments = 1
one names names = 1
one step step = 1
one limits limits = 1
one lifetimes lifetimes = 1
one kept kept = 1
one mutable mutable = 1
one _ _ = 0

no_settled : (s : Slot) → one s settled ≡ 0
unfolding one
no_settled settled = refl
no_settled expects = refl
no_settled own = refl
no_settled binds = refl
no_settled gives = refl
no_settled returns = refl
no_settled operands = refl
no_settled shape = refl
no_settled suffix = refl
no_settled direct = refl
no_settled range = refl
no_settled arguments = refl
no_settled names = refl
no_settled step = refl
no_settled limits = refl
no_settled lifetimes = refl
no_settled kept = refl
no_settled mutable = refl

-- a slot that isn't settled is its own
own_slot : (s : Slot) → (s ≡ settled → ⊥) → one s s ≡ 1
unfolding one
own_slot settled u = absurd (u refl)
own_slot expects u = refl
own_slot own u = refl
own_slot binds u = refl
own_slot gives u = refl
own_slot returns u = refl
own_slot operands u = refl
own_slot shape u = refl
own_slot suffix u = refl
own_slot direct u = refl
own_slot range u = refl
own_slot arguments u = refl
own_slot names u = refl
own_slot step u = refl
own_slot limits u = refl
own_slot lifetimes u = refl
own_slot kept u = refl
own_slot mutable u = refl

pub is_settled : (s : Slot) → (s ≡ settled) ⊎ (s ≡ settled → ⊥)
is_settled settled = inl refl
is_settled expects = inr (λ e. cc)
is_settled own = inr (λ e. cc)
is_settled binds = inr (λ e. cc)
is_settled gives = inr (λ e. cc)
is_settled returns = inr (λ e. cc)
is_settled operands = inr (λ e. cc)
is_settled shape = inr (λ e. cc)
is_settled suffix = inr (λ e. cc)
is_settled direct = inr (λ e. cc)
is_settled range = inr (λ e. cc)
is_settled arguments = inr (λ e. cc)
is_settled names = inr (λ e. cc)
is_settled step = inr (λ e. cc)
is_settled limits = inr (λ e. cc)
is_settled lifetimes = inr (λ e. cc)
is_settled kept = inr (λ e. cc)
is_settled mutable = inr (λ e. cc)

abbrev pub sum_of : (Slot → ℕ) → ℕ
sum_of f = f expects + (f own + (f binds + (f gives + (f returns + (f operands + (f shape + (f suffix + (f direct + (f range + (f arguments
    + (f names + (f step + (f limits + (f lifetimes + (f kept + f mutable)))))))))))))))

only_one : (s : Slot) → sum_of (one s) ≤ 1
unfolding one
only_one settled = omega arith
only_one expects = omega arith
only_one own = omega arith
only_one binds = omega arith
only_one gives = omega arith
only_one returns = omega arith
only_one operands = omega arith
only_one shape = omega arith
only_one suffix = omega arith
only_one direct = omega arith
only_one range = omega arith
only_one arguments = omega arith
only_one names = omega arith
only_one step = omega arith
only_one limits = omega arith
only_one lifetimes = omega arith
only_one kept = omega arith
only_one mutable = omega arith

-- ---- of one node and one slot

module _ (m : ℕ) (s : Slot) where
  -- whether it is the node
  pub at : ℕ → ℕ
  at n = cond (nat_eq m n) 1 0

  -- whether it is, and a rule of this slot is that of the slot
  pub hit : ℕ → Slot → ℕ
  hit n r = cond (nat_eq m n) (one s r) 0

  pub at_few : (n : ℕ) → at n ≤ 1
  unfolding at
  at_few n = by (nat_eq m n)
    where
      by : (b : Bool) → cond b 1 0 ≤ 1
      by true = omega arith
      by false = omega arith

  pub at_none : (n : ℕ) → nat_eq m n ≡ false → at n ≡ 0
  unfolding at
  at_none n e = ap (λ b. cond b 1 0) e

  by_node : (b : Bool) → sum_of (λ r. cond b (one s r) 0) ≤ cond b 1 0
  by_node true = only_one s
  by_node false = omega arith

  pub few : (n : ℕ) → sum_of (hit n) ≤ at n
  unfolding at hit
  few n = by_node (nat_eq m n)

  pub count : List Demand → ℕ
  count [] = 0
  count (d ∷ ds) = hit d.node (slot_of (rule_of d)) + count ds

  pub count_none : count [] ≡ 0
  unfolding count
  count_none = refl

  pub count_first : (d : Demand) (ds : List Demand) → count (d ∷ ds) ≡ hit d.node (slot_of (rule_of d)) + count ds
  unfolding count
  count_first d ds = refl

  count_last : (ds : List Demand) (d : Demand) → count (ds ++ d ∷ []) ≡ count ds + hit d.node (slot_of (rule_of d))
  unfolding count
  count_last [] d = omega arith
  count_last (e ∷ ds) d = let h = count_last ds d in omega (arith, h)

  not_counted : (n : ℕ) → hit n settled ≡ 0
  unfolding hit
  not_counted n = by (nat_eq m n)
    where
      by : (b : Bool) → cond b (one s settled) 0 ≡ 0
      by true = no_settled s
      by false = refl

  -- a demand of a settled rule asks what the rule asks at its node
  abbrev pub Fine : Demand → Type 0
  Fine d = slot_of (rule_of d) ≡ settled → d.facts ≡ facts_of d.node (rule_of d)

  abbrev pub AllFine : List Demand → Type 0
  AllFine [] = Unit {0}
  AllFine (d ∷ ds) = Fine d × AllFine ds

  fine_last : (ds : List Demand) (d : Demand) → AllFine ds → Fine d → AllFine (ds ++ d ∷ [])
  fine_last [] d a f = (f, tt)
  fine_last (e ∷ ds) d a f = (a.0, fine_last ds d a.1 f)

  -- what is asked counts at most so many, less some that are left for what is asked round it
  pub record Within (g : Asking) (left most : ℕ) : Type 0 where
    pub counts : (ds : List Demand) → count (g ds) + left ≤ count ds + most
    pub fine : (ds : List Demand) → AllFine ds → AllFine (g ds)

  pub both : {g h : Asking} {i j k l : ℕ} → Within g i j → Within h k l → Within (g >> h) (i + k) (j + l)
  both {g = g} {h = h} {i = i} {j = j} {k = k} {l = l} a b = record {
    counts = λ ds. let x = a.counts ds in let y = b.counts (g ds) in omega (arith, x, y);
    fine = λ ds f. b.fine (g ds) (a.fine ds f);
  }

  pub none : Within nothing 0 0
  none = record { counts = λ ds. omega arith; fine = λ ds f. f }

  -- at most as many, or as many more as are left
  pub weaker : {g : Asking} {i j : ℕ} (k l : ℕ) → Within g i j → k + j ≤ i + l → Within g k l
  weaker {g = g} {i = i} {j = j} k l a h = record { counts = λ ds. let x = a.counts ds in omega (arith, x, h); fine = a.fine }

  -- a demand of a rule that is counted
  pub counted : (n : Node) (b : Broken) (o : Bool) (fs : List Fact) (r : TypeRule) → of_asked n.number b fs ≡ r → (slot_of r ≡ settled → ⊥)
      → Within (asks n b o fs) 0 (hit n.number (slot_of r))
  counted n b o fs r e u = record {
    counts = λ ds. let h = count_last ds (record { node = n.number; span = n.span; broken = b; unsuffixed = o; facts = fs }) in
        let q : hit n.number (slot_of (of_asked n.number b fs)) ≡ hit n.number (slot_of r) = ap (λ x. hit n.number (slot_of x)) e in omega (arith, h, q);
    fine = λ ds f. fine_last ds _ f (λ q. absurd (u (sym (ap slot_of e) ∙ q)));
  }

  -- one of a settled rule
  pub certain : (n : Node) (b : Broken) (o : Bool) (fs : List Fact) (r : TypeRule) → of_asked n.number b fs ≡ r → slot_of r ≡ settled → fs ≡ facts_of n.number r
      → Within (asks n b o fs) 0 0
  certain n b o fs r e u same = record {
    counts = λ ds. let h = count_last ds (record { node = n.number; span = n.span; broken = b; unsuffixed = o; facts = fs }) in
        let q : hit n.number (slot_of (of_asked n.number b fs)) ≡ 0 = ap (λ x. hit n.number (slot_of x)) e ∙ ap (λ x. hit n.number x) u ∙ not_counted n.number in omega (arith, h, q);
    fine = λ ds f. fine_last ds _ f (λ q. same ∙ ap (λ x. facts_of n.number x) (sym e));
  }

  pub where_so : {g : Asking} {j : ℕ} (b : Bool) → Within g 0 j → Within (when b g) 0 j
  where_so true w = w
  where_so {g = g} {j = j} false w = weaker 0 j none (omega arith)

-- a slot that isn't settled is hit at its own node
pub own_hit : (n : ℕ) (s : Slot) → (s ≡ settled → ⊥) → hit n s n s ≡ 1
unfolding hit
own_hit n s u = ap (λ b. cond b (one s s) 0) (eq-eqb n n refl) ∙ own_slot s u
