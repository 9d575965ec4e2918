-- Demands of one rule at one node ask the same; so a set of demands can be chosen by node and rule.
use Rattle.std.proofs.Common.{◌≡◌, ◌⊎◌, ◌↔◌, inl, inr, ⊎_elim, ℕ, zero, suc, ◌≤◌, nat_eq, Bool, true, false, ◌&&◌, ◌||◌, IsTrue, List, [], ◌∷◌, slice_get, Option, Some, None, refl, sym, ap, ◌∙◌, subst, arith}
use Rattle.std.proofs.lemmas.Bool.{eqb-true, eq-eqb}
use Rattle.rx_core.specs.declared.types.Span.{Span}
use Rattle.rx_tree.specs.Plain as plain
use Rattle.rx_tree.specs.Plain.{Function, ProgramTree}
use Rattle.rx_resolve_names.specs.declared.resolved.ItemNames.{ItemNames}
use Rattle.rx_resolve_names.specs.declared.resolved.NodeNames.{NodeNames}
use Rattle.rx_typed.specs.Naming.{function_named}
use Rattle.rx_typeck_solver.specs.declared.facts.Broken.{Broken}
use Rattle.rx_typeck_solver.specs.declared.facts.Demand.{Demand}
use Rattle.rx_typeck_solver.specs.Facts.{Assignment, KnownItems, MeetsAll}
use Rattle.rx_typeck_solver.specs.Stepping.{known}
use Rattle.rx_typeck_solver.specs.Valid.{Task, MeetsChosen, Breaks}
use Rattle.rx_typeck_typed.specs.Demands.{demands, task}
use Rattle.rx_typeck_typed.specs.declared.typed.TypeFault.{TypeFault}
use Rattle.rx_typeck_typed.specs.Typing as typing
use Rattle.rx_typeck_typed.specs.Typing.{entries, variables_at, FunctionUntyped, FirstUntyped, Causes}
use Rattle.rx_typeck_fault_laws.specs.TypeRules as rules
use Rattle.rx_typeck_fault_laws.specs.TypeRules.{TypeRule, rule_of}
use Rattle.rx_typeck_fault_laws.specs.Breaking as breaking
use Rattle.rx_typeck_fault_laws.specs.Breaking.{Singles, MeetsSingles, BreaksRule, FunctionBreaks, FirstBreaks, Faulty}
use Rattle.rx_typeck_fault_laws.proofs.Slots.{Slot, slot_of, settled, is_settled, facts_of, hit, count, count_none, count_first, own_hit, AllFine, Fine}
use Rattle.rx_typeck_fault_laws.proofs.Counting.{function_within}
use Rattle.rx_typeck_fault_laws.proofs.Once.{at_most_once}

abbrev Among : Demand → List Demand → Type 0
Among d [] = ⊥
Among d (e ∷ es) = (d ≡ e) ⊎ Among d es

among_at : (ds : List Demand) (i : ℕ) (d : Demand) → slice_get ds i ≡ Some d → Among d ds
among_at [] i d e = absurd (cc)
among_at (x ∷ ds) zero d e = inl (cc)
among_at (x ∷ ds) (suc i) d e = inr (among_at ds i d e)

module _ (m : ℕ) (s : Slot) where
  abbrev Hits : Demand → Type 0
  Hits d = hit m s d.node (slot_of (rule_of d)) ≡ 1

  counts_one : (ds : List Demand) (d : Demand) → Among d ds → Hits d → 1 ≤ count m s ds
  counts_one [] d a h = absurd a
  counts_one (x ∷ ds) d (inl e) h = let c = count_first m s x ds in let q : hit m s x.node (slot_of (rule_of x)) ≡ 1 = subst Hits e h in omega (arith, c, q)
  counts_one (x ∷ ds) d (inr a) h = let c = count_first m s x ds in let q = counts_one ds d a h in omega (arith, c, q)

  only_once : (ds : List Demand) (d e : Demand) → Among d ds → Among e ds → Hits d → Hits e → count m s ds ≤ 1 → d ≡ e
  only_once [] d e a b h g c = absurd a
  only_once (x ∷ ds) d e (inl p) (inl q) h g c = p ∙ sym q
  only_once (x ∷ ds) d e (inl p) (inr b) h g c =
      let f = count_first m s x ds in let k : hit m s x.node (slot_of (rule_of x)) ≡ 1 = subst Hits p h in let l = counts_one ds e b g in absurd (omega (arith, f, k, l, c))
  only_once (x ∷ ds) d e (inr a) (inl q) h g c =
      let f = count_first m s x ds in let k : hit m s x.node (slot_of (rule_of x)) ≡ 1 = subst Hits q g in let l = counts_one ds d a h in absurd (omega (arith, f, k, l, c))
  only_once (x ∷ ds) d e (inr a) (inr b) h g c = let f = count_first m s x ds in only_once ds d e a b h g (omega (arith, f, c))

  fine_among : (ds : List Demand) (d : Demand) → Among d ds → AllFine m s ds → Fine m s d
  fine_among [] d a f = absurd a
  fine_among (x ∷ ds) d (inl e) f = subst (λ y. Fine m s y) (sym e) f.0
  fine_among (x ∷ ds) d (inr a) f = fine_among ds d a f.1

-- in a list of demands those of one rule at one node ask the same
pub record AreSingle (ds : List Demand) : Type 0 where
  pub same : (d e : Demand) → Among d ds → Among e ds → d.node ≡ e.node → rule_of d ≡ rule_of e → d.facts ≡ e.facts

are_single : (ds : List Demand) → ((m : ℕ) (s : Slot) → count m s ds ≤ 1) → ((m : ℕ) (s : Slot) → AllFine m s ds) → AreSingle ds
are_single ds few fine = record { same = λ d e a b n r. by d e a b n r (is_settled (slot_of (rule_of d))) }
  where
    by : (d e : Demand) → Among d ds → Among e ds → d.node ≡ e.node → rule_of d ≡ rule_of e → (slot_of (rule_of d) ≡ settled) ⊎ (slot_of (rule_of d) ≡ settled → ⊥) → d.facts ≡ e.facts
    by d e a b n r (inl q) = let s = slot_of (rule_of d) in
        fine_among d.node s ds d a (fine d.node s) q ∙ ap (λ k. facts_of k (rule_of d)) n ∙ ap (λ t. facts_of e.node t) r
        ∙ sym (fine_among d.node s ds e b (fine d.node s) (ap slot_of (sym r) ∙ q))
    by d e a b n r (inr u) = let s = slot_of (rule_of d) in let h = own_hit d.node s u in
        ap (λ x. x.facts) (only_once d.node s ds d e a b h
        (ap (λ k. hit d.node s k (slot_of (rule_of e))) (sym n) ∙ ap (λ t. hit d.node s d.node (slot_of t)) (sym r) ∙ h) (few d.node s))

pub function_single : (i : ℕ) (s : Span) (f : Function) (ns : List NodeNames) → AreSingle (demands (function_named i s f ns))
function_single i s f ns = let F = function_named i s f ns in are_single (demands F)
    (λ m z. let w = (function_within m z F).counts [] in let o = at_most_once m z i s f ns in let c = count_none m z in omega (arith, w, o, c))
    (λ m z. (function_within m z F).fine [] tt)

pub same_facts : (i : ℕ) (s : Span) (f : Function) (ns : List NodeNames) (j k : ℕ) (d e : Demand) → let ds = demands (function_named i s f ns) in
    slice_get ds j ≡ Some d → slice_get ds k ≡ Some e → d.node ≡ e.node → rule_of d ≡ rule_of e → d.facts ≡ e.facts
same_facts i s f ns j k d e p q n r = let ds = demands (function_named i s f ns) in (function_single i s f ns).same d e (among_at ds j d p) (among_at ds k e q) n r

-- ---- whether rules are one

abbrev rank : TypeRule → ℕ
rank rules.expectation = 0
rank rules.own_expectation = 1
rank rules.own_type = 2
rank (rules.same_type m) = 3
rank rules.unit_type = 4
rank rules.joined_type = 5
rank rules.coercion = 6
rank rules.binding = 7
rank (rules.variable_type x) = 8
rank rules.given_type = 9
rank rules.returned_unit = 10
rank rules.tested = 11
rank rules.printed = 12
rank rules.operands = 13
rank rules.pattern_shape = 14
rank rules.literal_sign = 15
rank rules.literal_suffix = 16
rank rules.direct_binding = 17
rank rules.literal_range = 18
rank rules.argument_count = 19
rank rules.field_names = 20
rank rules.place_step = 21
rank rules.type_limits = 22
rank rules.lifetime_count = 23
rank rules.kept_place = 24
rank (rules.mutable_place x) = 25
rank rules.no_place = 26
rank rules.no_function = 27
rank rules.unclear = 28
rank rules.no_rule = 29

abbrev number_in : TypeRule → ℕ
number_in (rules.same_type m) = m
number_in (rules.variable_type x) = x
number_in (rules.mutable_place x) = x
number_in _ = 0

abbrev ranked : List (ℕ → TypeRule)
ranked = (λ x. rules.expectation) ∷ (λ x. rules.own_expectation) ∷ (λ x. rules.own_type) ∷ (λ x. rules.same_type x) ∷ (λ x. rules.unit_type) ∷ (λ x. rules.joined_type) ∷ (λ x. rules.coercion)
    ∷ (λ x. rules.binding) ∷ (λ x. rules.variable_type x) ∷ (λ x. rules.given_type) ∷ (λ x. rules.returned_unit) ∷ (λ x. rules.tested) ∷ (λ x. rules.printed) ∷ (λ x. rules.operands)
    ∷ (λ x. rules.pattern_shape) ∷ (λ x. rules.literal_sign) ∷ (λ x. rules.literal_suffix) ∷ (λ x. rules.direct_binding) ∷ (λ x. rules.literal_range) ∷ (λ x. rules.argument_count)
    ∷ (λ x. rules.field_names) ∷ (λ x. rules.place_step) ∷ (λ x. rules.type_limits) ∷ (λ x. rules.lifetime_count) ∷ (λ x. rules.kept_place) ∷ (λ x. rules.mutable_place x) ∷ (λ x. rules.no_place)
    ∷ (λ x. rules.no_function) ∷ (λ x. rules.unclear) ∷ (λ x. rules.no_rule) ∷ []

abbrev applied : Option (ℕ → TypeRule) → ℕ → TypeRule
applied None x = rules.no_rule
applied (Some f) x = f x

abbrev rule_at : ℕ → ℕ → TypeRule
rule_at k x = applied (slice_get ranked k) x

by_rank : (r : TypeRule) → rule_at (rank r) (number_in r) ≡ r
by_rank rules.expectation = refl
by_rank rules.own_expectation = refl
by_rank rules.own_type = refl
by_rank (rules.same_type m) = refl
by_rank rules.unit_type = refl
by_rank rules.joined_type = refl
by_rank rules.coercion = refl
by_rank rules.binding = refl
by_rank (rules.variable_type x) = refl
by_rank rules.given_type = refl
by_rank rules.returned_unit = refl
by_rank rules.tested = refl
by_rank rules.printed = refl
by_rank rules.operands = refl
by_rank rules.pattern_shape = refl
by_rank rules.literal_sign = refl
by_rank rules.literal_suffix = refl
by_rank rules.direct_binding = refl
by_rank rules.literal_range = refl
by_rank rules.argument_count = refl
by_rank rules.field_names = refl
by_rank rules.place_step = refl
by_rank rules.type_limits = refl
by_rank rules.lifetime_count = refl
by_rank rules.kept_place = refl
by_rank (rules.mutable_place x) = refl
by_rank rules.no_place = refl
by_rank rules.no_function = refl
by_rank rules.unclear = refl
by_rank rules.no_rule = refl

same_rule : TypeRule → TypeRule → Bool
same_rule a b = nat_eq (rank a) (rank b) && nat_eq (number_in a) (number_in b)

both_true : (a b : Bool) → (a && b) ≡ true → (a ≡ true) × (b ≡ true)
both_true true b e = (refl, e)
both_true false b e = absurd (cc)

either_true : (a b : Bool) → (a || b) ≡ true → (a ≡ true) ⊎ (b ≡ true)
either_true true b e = inl refl
either_true false b e = inr e

or_later : (a b : Bool) → b ≡ true → (a || b) ≡ true
or_later true b e = refl
or_later false b e = e

rules_same : (a b : TypeRule) → same_rule a b ≡ true → a ≡ b
unfolding same_rule
rules_same a b e = let h = both_true (nat_eq (rank a) (rank b)) (nat_eq (number_in a) (number_in b)) e in
    sym (by_rank a) ∙ ap (λ k. rule_at k (number_in a)) (eqb-true (rank a) (rank b) h.0) ∙ ap (λ x. rule_at (rank b) x) (eqb-true (number_in a) (number_in b) h.1) ∙ by_rank b

rule_itself : (a : TypeRule) → same_rule a a ≡ true
unfolding same_rule
rule_itself a = ap (λ x. x && nat_eq (number_in a) (number_in a)) (eq-eqb (rank a) (rank a) refl) ∙ eq-eqb (number_in a) (number_in a) refl

-- ---- sets of demands, by flags and by node and rule

abbrev named_by : Demand → ℕ → TypeRule → Bool
named_by d n r = nat_eq d.node n && same_rule (rule_of d) r

named_itself : (d : Demand) → named_by d d.node (rule_of d) ≡ true
named_itself d = ap (λ x. x && same_rule (rule_of d) (rule_of d)) (eq-eqb d.node d.node refl) ∙ rule_itself (rule_of d)

abbrev flagged : List Bool → List Demand → Singles
flagged [] ds n r = false
flagged (b ∷ bs) [] n r = false
flagged (true ∷ bs) (d ∷ ds) n r = named_by d n r || flagged bs ds n r
flagged (false ∷ bs) (d ∷ ds) n r = flagged bs ds n r

abbrev flags_of : Singles → List Demand → List Bool
flags_of chosen [] = []
flags_of chosen (d ∷ ds) = chosen d.node (rule_of d) ∷ flags_of chosen ds

module _ (K : KnownItems) (t : Task) (A : Assignment) where
  -- one of the flagged demands, at this node and of this rule
  record Found (ds : List Demand) (n : ℕ) (r : TypeRule) : Type 0 where
    demand : Demand
    among : Among demand ds
    node : demand.node ≡ n
    rule : rule_of demand ≡ r
    met : MeetsAll K A demand.facts

  later : (d : Demand) (ds : List Demand) (n : ℕ) (r : TypeRule) → Found ds n r → Found (d ∷ ds) n r
  later d ds n r f = record { demand = f.demand; among = inr f.among; node = f.node; rule = f.rule; met = f.met }

  first_found : (d : Demand) (ds : List Demand) (n : ℕ) (r : TypeRule) (q : Bool) → MeetsAll K A d.facts → (named_by d n r ≡ true) ⊎ (q ≡ true) → (q ≡ true → Found ds n r) → Found (d ∷ ds) n r
  first_found d ds n r q h (inl e) g = let p = both_true (nat_eq d.node n) (same_rule (rule_of d) r) e in
      record { demand = d; among = inl refl; node = eqb-true d.node n p.0; rule = rules_same (rule_of d) r p.1; met = h }
  first_found d ds n r q h (inr e) g = later d ds n r (g e)

  found : (bs : List Bool) (ds : List Demand) (n : ℕ) (r : TypeRule) → MeetsChosen K t bs A ds → IsTrue (flagged bs ds n r) → Found ds n r
  found [] ds n r h e = absurd (cc)
  found (b ∷ bs) [] n r h e = absurd (cc)
  found (true ∷ bs) (d ∷ ds) n r h e = first_found d ds n r (flagged bs ds n r) h.0 (either_true (named_by d n r) (flagged bs ds n r) e) (λ q. found bs ds n r h.1 q)
  found (false ∷ bs) (d ∷ ds) n r h e = later d ds n r (found bs ds n r h e)

  meets_each : (chosen : Singles) (ds : List Demand) → ((d : Demand) → Among d ds → IsTrue (chosen d.node (rule_of d)) → MeetsAll K A d.facts) → MeetsSingles K t chosen A ds
  meets_each chosen [] h = tt
  meets_each chosen (d ∷ ds) h = (h d (inl refl), meets_each chosen ds (λ e a. h e (inr a)))

  to_singles : (bs : List Bool) (ds : List Demand) → AreSingle ds → MeetsChosen K t bs A ds → MeetsSingles K t (flagged bs ds) A ds
  to_singles bs ds single h = meets_each (flagged bs ds) ds
      (λ d a e. let f = found bs ds d.node (rule_of d) h e in subst (λ fs. MeetsAll K A fs) (single.same f.demand d f.among a f.node f.rule) f.met)

  of_singles : (chosen : Singles) (bs : List Bool) (ds : List Demand) → ((n : ℕ) (r : TypeRule) → IsTrue (flagged bs ds n r) → IsTrue (chosen n r)) → MeetsSingles K t chosen A ds → MeetsChosen K t bs A ds
  of_singles chosen [] ds h g = tt
  of_singles chosen (b ∷ bs) [] h g = tt
  of_singles chosen (true ∷ bs) (d ∷ ds) h g =
      (g.0 (h d.node (rule_of d) (ap (λ x. x || flagged bs ds d.node (rule_of d)) (named_itself d))), of_singles chosen bs ds (λ n r e. h n r (or_later (named_by d n r) (flagged bs ds n r) e)) g.1)
  of_singles chosen (false ∷ bs) (d ∷ ds) h g = of_singles chosen bs ds h g.1

  one_flag : (b : Bool) (bs : List Bool) (d : Demand) (ds : List Demand) → (IsTrue b → MeetsAll K A d.facts) → MeetsChosen K t bs A ds → MeetsChosen K t (b ∷ bs) A (d ∷ ds)
  one_flag true bs d ds h g = (h refl, g)
  one_flag false bs d ds h g = g

  flag_one : (b : Bool) (bs : List Bool) (d : Demand) (ds : List Demand) → MeetsChosen K t (b ∷ bs) A (d ∷ ds) → (IsTrue b → MeetsAll K A d.facts) × MeetsChosen K t bs A ds
  flag_one true bs d ds h = (λ e. h.0, h.1)
  flag_one false bs d ds h = (λ e. absurd (cc), h)

  to_flags : (chosen : Singles) (ds : List Demand) → MeetsSingles K t chosen A ds → MeetsChosen K t (flags_of chosen ds) A ds
  to_flags chosen [] h = tt
  to_flags chosen (d ∷ ds) h = one_flag (chosen d.node (rule_of d)) (flags_of chosen ds) d ds h.0 (to_flags chosen ds h.1)

  of_flags : (chosen : Singles) (ds : List Demand) → MeetsChosen K t (flags_of chosen ds) A ds → MeetsSingles K t chosen A ds
  of_flags chosen [] h = tt
  of_flags chosen (d ∷ ds) h = let g = flag_one (chosen d.node (rule_of d)) (flags_of chosen ds) d ds h in (g.0, of_flags chosen ds g.1)

-- ---- nodes that break a rule

by_rules : (K : KnownItems) (t : Task) → AreSingle t.demands → (n : ℕ) (b : Broken) → Breaks K t n b → BreaksRule K t n b
by_rules K t single n b h = record {
  chosen = flagged h.chosen t.demands;
  some = h.some;
  met = to_singles K t h.some h.chosen t.demands single h.met;
  none = λ A g o. h.none A (of_singles K t A (flagged h.chosen t.demands) h.chosen t.demands (λ m r e. e) g) o;
}

by_flags : (K : KnownItems) (t : Task) (n : ℕ) (b : Broken) → BreaksRule K t n b → Breaks K t n b
by_flags K t n b h = record {
  chosen = flags_of h.chosen t.demands;
  some = h.some;
  met = to_flags K t h.some h.chosen t.demands h.met;
  none = λ A g o. h.none A (of_flags K t A h.chosen t.demands g) o;
}

pub breaks_both : (K : KnownItems) (i : ℕ) (s : Span) (f : Function) (ns : List NodeNames) (n : ℕ) (b : Broken)
    → Breaks K (task (function_named i s f ns)) n b ↔ BreaksRule K (task (function_named i s f ns)) n b
breaks_both K i s f ns n b = let t = task (function_named i s f ns) in (by_rules K t (function_single i s f ns) n b, by_flags K t n b)

pub untyped_breaks : (K : KnownItems) (i : ℕ) (s : Span) (f : Function) (ns : List NodeNames) (vars : List Span) (e : TypeFault)
    → FunctionUntyped K (function_named i s f ns) vars e → FunctionBreaks K (function_named i s f ns) vars e
untyped_breaks K i s f ns vars e u = record {
  none = u.none;
  node = u.node;
  at = u.at;
  rule = u.rule;
  asked = u.asked;
  breaks = ⊎_elim (λ b. inl (by_rules K (task (function_named i s f ns)) (function_single i s f ns) u.node u.rule b)) (λ c. inr c) u.breaks;
  is = u.is;
}

-- ---- programs

first_breaks : (K : KnownItems) (ns : List ItemNames) (i : ℕ) (p : ProgramTree) (e : TypeFault) → FirstUntyped K ns i p e → FirstBreaks K ns i p e
first_breaks K ns i [] e u = absurd u
first_breaks K ns i (plain.function_item s f ∷ is) e u =
    ⊎_elim (λ a. inl (untyped_breaks K i s f (entries (slice_get ns i)) (variables_at (slice_get ns i)) e a)) (λ b. inr (b.0, first_breaks K ns (suc i) is e b.1)) u
first_breaks K ns i (plain.rt_item s r ∷ is) e u = first_breaks K ns (suc i) is e u
first_breaks K ns i (plain.struct_item s d ∷ is) e u = first_breaks K ns (suc i) is e u
first_breaks K ns i (plain.enum_item s d ∷ is) e u = first_breaks K ns (suc i) is e u

pub causes_break : (p : ProgramTree) (ns : List ItemNames) (e : TypeFault) → Causes p ns e → Faulty p ns e
causes_break p ns e (typing.in_declaration d w is) = breaking.in_declaration d w is
causes_break p ns e (typing.in_function ds d sizes z first) = breaking.in_function ds d sizes z (first_breaks (known ds sizes) ns 0 p e first)
