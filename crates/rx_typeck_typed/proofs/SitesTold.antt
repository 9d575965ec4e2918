-- What the place of a value asks is asked in order, and what joins values has a type where one of them has.
use Rattle.std.proofs.Common.{◌≡◌, ℕ, Bool, true, false, not, ◌&&◌, ◌||◌, IsTrue, List, [], ◌∷◌, ◌++◌, refl, ap, eq-eqb}
use Rattle.rx_tree.specs.declared.tree.BinaryOp.{BinaryOp}
use Rattle.rx_typed.specs.declared.nodes.Node.{Node}
use Rattle.rx_typed.specs.declared.nodes.Site.{Site}
use Rattle.rx_typed.specs.Named as named
use Rattle.rx_typed.specs.Named.{Exp, node_of, never, is_place, is_variable, root}
use Rattle.rx_typed.specs.Naming.{passed_on}
use Rattle.rx_typeck_solver.specs.declared.facts.Rule.{Rule}
use Rattle.rx_typeck_solver.specs.declared.facts.Broken.{Broken}
use Rattle.rx_typeck_solver.specs.declared.facts.Broken.TheVariants as broken
use Rattle.rx_typeck_solver.specs.declared.facts.Kinds.{Kinds}
use Rattle.rx_typeck_solver.specs.declared.facts.Subject.{Subject}
use Rattle.rx_typeck_solver.specs.declared.facts.Subject.TheVariants as subject
use Rattle.rx_typeck_solver.specs.declared.facts.Passing.{Passing}
use Rattle.rx_typeck_solver.specs.declared.facts.Op.{Op}
use Rattle.rx_typeck_solver.specs.declared.facts.Op.TheVariants as op
use Rattle.rx_typeck_solver.specs.declared.facts.Test.{Test}
use Rattle.rx_typeck_solver.specs.declared.facts.Test.TheVariants as test
use Rattle.rx_typeck_solver.specs.declared.facts.Fact.{Fact}
use Rattle.rx_typeck_solver.specs.declared.facts.Fact.TheVariants as fact
use Rattle.rx_typeck_solver.specs.declared.facts.Demand.{Demand}
use Rattle.rx_typeck_solver.specs.Ordered as order
use Rattle.rx_typeck_solver.specs.Ordered.{Knowing, knows, learns, learns_all, ready, all_known}
use Rattle.rx_typeck_typed.specs.Asking.{asks, ask, when, typed, type_of, expected, is, alike, passes, all, signed}
use Rattle.rx_typeck_typed.specs.Demands.{through, coerces, expects_own, kept, lendable, place_in, value_in, never_in, writable, assignable, matched_in, matched_if, matched, as_part, joins, join, hands_on, part_before, part_after, tested, printed, nothing_given, not_never, own, own_operand, same_operands, integer_operand, plain_operand, truth_operand, arithmetic, equality, order, lazy, updated, negated, inverted, operation, value_at}
use Rattle.rx_typeck_typed.proofs.Reach.{Sure, Known, Passed, Reach, stays, ◌⇒◌, Tells, sure_kept, equals_asked, passes_asked, never_asked, asked, learnt, and_true, sure_passed, known_none, known_one, known_two, passed_none, EachReady, ready_each, each_join, each_typed, same_self}
use Rattle.rx_typeck_typed.proofs.PatternsTold.{SureMatched}

-- what a site needs told before its value
abbrev pub WantedAt : Site → Node → List Demand → Type 0
WantedAt Site.Expects n ds = Sure ds (expected n)
WantedAt Site.Initialises n ds = Sure ds (expected n)
WantedAt _ n ds = Unit {0}

pub record Wanted (t : Site) (n : Node) (ds : List Demand) : Type 0 where
  pub is : WantedAt t n ds

wanted_at_kept : (t : Site) (n : Node) (ds ds' : List Demand) → Reach ds ds' → WantedAt t n ds → WantedAt t n ds'
wanted_at_kept Site.Expects n ds ds' r w = sure_kept r w
wanted_at_kept Site.Initialises n ds ds' r w = sure_kept r w
wanted_at_kept Site.Value n ds ds' r w = tt
wanted_at_kept Site.Place n ds ds' r w = tt
wanted_at_kept Site.Scrutinee n ds ds' r w = tt
wanted_at_kept Site.Reborrows n ds ds' r w = tt

pub wanted_kept : {t : Site} {n : Node} {ds ds' : List Demand} → Reach ds ds' → Wanted t n ds → Wanted t n ds'
wanted_kept {t} {n} {ds} {ds'} r w = record { is = wanted_at_kept t n ds ds' r w.is }

pub nothing_wanted : {n : Node} {ds : List Demand} → Wanted Site.Value n ds
nothing_wanted = record { is = tt }

-- the node has a type where it isn't Never; where a place is wanted it has one, or nothing is met
abbrev pub ToldAt : Site → Bool → List Demand → Node → Type 0
ToldAt Site.Place v ds n = Sure ds (type_of n)
ToldAt _ true ds n = Unit {0}
ToldAt _ false ds n = Sure ds (type_of n)

pub record ToldIf (t : Site) (v : Bool) (ds : List Demand) (n : Node) : Type 0 where
  pub is : ToldAt t v ds n

told_at : (t : Site) (v : Bool) (ds : List Demand) (n : Node) → Sure ds (type_of n) → ToldAt t v ds n
told_at Site.Place v ds n h = h
told_at Site.Value true ds n h = tt
told_at Site.Value false ds n h = h
told_at Site.Scrutinee true ds n h = tt
told_at Site.Scrutinee false ds n h = h
told_at Site.Expects true ds n h = tt
told_at Site.Expects false ds n h = h
told_at Site.Initialises true ds n h = tt
told_at Site.Initialises false ds n h = h
told_at Site.Reborrows true ds n h = tt
told_at Site.Reborrows false ds n h = h

pub told_if : {t : Site} {v : Bool} {ds : List Demand} {n : Node} → Sure ds (type_of n) → ToldIf t v ds n
told_if {t} {v} {ds} {n} h = record { is = told_at t v ds n h }

told_at_sure : (t : Site) (v : Bool) (ds : List Demand) (n : Node) → v ≡ false → ToldAt t v ds n → Sure ds (type_of n)
told_at_sure Site.Place v ds n e h = h
told_at_sure Site.Value true ds n e h = absurd (cc)
told_at_sure Site.Value false ds n e h = h
told_at_sure Site.Scrutinee true ds n e h = absurd (cc)
told_at_sure Site.Scrutinee false ds n e h = h
told_at_sure Site.Expects true ds n e h = absurd (cc)
told_at_sure Site.Expects false ds n e h = h
told_at_sure Site.Initialises true ds n e h = absurd (cc)
told_at_sure Site.Initialises false ds n e h = h
told_at_sure Site.Reborrows true ds n e h = absurd (cc)
told_at_sure Site.Reborrows false ds n e h = h

pub told_sure : {t : Site} {v : Bool} {ds : List Demand} {n : Node} → v ≡ false → ToldIf t v ds n → Sure ds (type_of n)
told_sure {t} {v} {ds} {n} e h = told_at_sure t v ds n e h.is

told_at_kept : (t : Site) (v : Bool) (ds ds' : List Demand) (n : Node) → Reach ds ds' → ToldAt t v ds n → ToldAt t v ds' n
told_at_kept Site.Place v ds ds' n r h = sure_kept r h
told_at_kept Site.Value true ds ds' n r h = tt
told_at_kept Site.Value false ds ds' n r h = sure_kept r h
told_at_kept Site.Scrutinee true ds ds' n r h = tt
told_at_kept Site.Scrutinee false ds ds' n r h = sure_kept r h
told_at_kept Site.Expects true ds ds' n r h = tt
told_at_kept Site.Expects false ds ds' n r h = sure_kept r h
told_at_kept Site.Initialises true ds ds' n r h = tt
told_at_kept Site.Initialises false ds ds' n r h = sure_kept r h
told_at_kept Site.Reborrows true ds ds' n r h = tt
told_at_kept Site.Reborrows false ds ds' n r h = sure_kept r h

pub told_kept : {t : Site} {v : Bool} {ds ds' : List Demand} {n : Node} → Reach ds ds' → ToldIf t v ds n → ToldIf t v ds' n
told_kept {t} {v} {ds} {ds'} {n} r h = record { is = told_at_kept t v ds ds' n r h.is }

-- where a place is wanted
pub told_place : {v : Bool} {ds : List Demand} {n : Node} → ToldIf Site.Place v ds n → Sure ds (type_of n)
told_place h = h.is

-- ---- a value, or a place, where it stands

fits_reach : (n : Node) (ds : List Demand) → Sure ds (type_of n) → Sure ds (expected n) → Reach ds (coerces n ds)
fits_reach n ds h k = (equals_asked n _ _ _ (type_of n ∷ expected n ∷ []) [] ds (known_two h k) passed_none).reach

own_expected : (n : Node) (ds : List Demand) → Sure ds (type_of n) → Tells ds (expects_own n ds) (expected n)
own_expected n ds h = equals_asked n _ _ _ (type_of n ∷ []) [] ds (known_one h) passed_none

pub value_reach : (n : Node) (t : Site) (ds : List Demand) → Sure ds (type_of n) → Wanted t n ds → Reach ds (value_in n t ds)
value_reach n Site.Value ds h w = stays ds
value_reach n Site.Place ds h w = (never_asked n _ ds).reach
value_reach n Site.Scrutinee ds h w = stays ds
value_reach n Site.Expects ds h w = fits_reach n ds h w.is
value_reach n Site.Initialises ds h w = fits_reach n ds h w.is
value_reach n Site.Reborrows ds h w = (own_expected n ds h).reach

kept_reach : (n : Node) (t : Test) (ps : List Passing) (ds : List Demand) → Sure ds (type_of n) → Passed ds ps → Reach ds (kept n t ps ds)
kept_reach n t ps ds h k = passes_asked n _ t (type_of n ∷ []) [] ps ds (known_one h) passed_none k

lendable_reach : (n : Node) (x : ℕ) (ps : List Passing) (ds : List Demand) → Sure ds (type_of n) → Sure ds (expected n) → Passed ds ps → Reach ds (lendable n x ps ds)
lendable_reach n x ps ds h w k = passes_asked n _ _ (type_of n ∷ expected n ∷ []) [] ps ds (known_two h w) passed_none k

pub place_reach : (n : Node) (x : ℕ) (ps : List Passing) (t : Site) (ds : List Demand) → Sure ds (type_of n) → Passed ds ps → Wanted t n ds → Reach ds (place_in n x ps t ds)
place_reach n x ps Site.Value ds h k w = kept_reach n _ ps ds h k
place_reach n x ps Site.Place ds h k w = stays ds
place_reach n x ps Site.Scrutinee ds h k w = stays ds
place_reach n x ps Site.Expects ds h k w = let a = fits_reach n ds h w.is in let b = a ⇒ kept_reach n test.KeptOrLent ps _ (sure_kept a h) (sure_passed a k) in
    b ⇒ lendable_reach n x ps _ (sure_kept b h) (sure_kept b w.is) (sure_passed b k)
place_reach n x ps Site.Initialises ds h k w = let a = fits_reach n ds h w.is in a ⇒ lendable_reach n x ps _ (sure_kept a h) (sure_kept a w.is) (sure_passed a k)
place_reach n x ps Site.Reborrows ds h k w = let o = own_expected n ds h in let a = o.reach in
    let c = kept_reach n test.KeptOrLent ps _ (sure_kept a h) (sure_passed a k) in let b = a ⇒ c in
    b ⇒ lendable_reach n x ps _ (sure_kept b h) (sure_kept c o.told) (sure_passed b k)

pub own_told : (n : Node) (o : Op) (xs : List Subject) (ds : List Demand) → Known ds xs → Wanted n.site n ds → Tells ds (own n o xs ds) (type_of n)
own_told n o xs ds k w = let a = equals_asked n (broken.Mismatch Rule.Equal) (type_of n) o xs [] ds k passed_none in
    let b = value_reach n n.site _ a.told (wanted_kept a.reach w) in record { reach = a.reach ⇒ b; told = sure_kept b a.told }

pub record NeverTold (t : Site) (ds ds' : List Demand) (n : Node) : Type 0 where
  pub reach : Reach ds ds'
  pub told : ToldIf t true ds' n

pub never_told : (t : Site) (n : Node) (ds : List Demand) → NeverTold t ds (never_in n t ds) n
never_told Site.Place n ds = let a = never_asked n (broken.Mismatch Rule.NotPlace) ds in record { reach = a.reach; told = record { is = a.told _ } }
never_told Site.Value n ds = record { reach = stays ds; told = record { is = tt } }
never_told Site.Scrutinee n ds = record { reach = stays ds; told = record { is = tt } }
never_told Site.Expects n ds = record { reach = stays ds; told = record { is = tt } }
never_told Site.Initialises n ds = record { reach = stays ds; told = record { is = tt } }
never_told Site.Reborrows n ds = record { reach = stays ds; told = record { is = tt } }

-- ---- what isn't Never

pub not_never_in : (v : Bool) (n : Node) (t : Site) (ds : List Demand) → ToldIf t v ds n → Tells ds (when v (ask n Rule.Unclear (fact.Never ∷ [])) ds) (type_of n)
not_never_in true n t ds h = let a = never_asked n (broken.Mismatch Rule.Unclear) ds in record { reach = a.reach; told = a.told _ }
not_never_in false n t ds h = record { reach = stays ds; told = told_sure refl h }

pub not_never_told : (n : Node) (v : Bool) (t : Site) (ds : List Demand) → ToldIf t v ds n → Tells ds (not_never n v ds) (type_of n)
not_never_told n v t ds h = not_never_in v n t ds h

-- a fact of one node that is asked where it has a type
when_equals : (v : Bool) (n m : Node) (t : Site) (b : Broken) (o : Op) (ds : List Demand) → ToldIf t v ds m → Reach ds (when (not v) (asks n b false (is (type_of m) o [] ∷ [])) ds)
when_equals true n m t b o ds h = stays ds
when_equals false n m t b o ds h = (equals_asked n b (type_of m) o [] [] ds known_none passed_none).reach

pub tested_reach : (n : Node) (v : Bool) (t : Site) (ds : List Demand) → ToldIf t v ds n → Reach ds (tested n v ds)
tested_reach n v t ds h = when_equals v n n t (broken.Mismatch Rule.KindOf) op.Truth ds h

-- what gives the unit has a type behind it, where it isn't Never
pub unit_told : (n : Node) (v : Bool) (ds : List Demand) → Tells ds (nothing_given n false ds) (type_of n)
unit_told n v ds = equals_asked n _ _ _ [] [] ds known_none passed_none

pub nothing_reach : (n : Node) (v : Bool) (ds : List Demand) → Reach ds (nothing_given n v ds)
nothing_reach n true ds = stays ds
nothing_reach n false ds = (unit_told n false ds).reach

pub print_reach : (v : Bool) (n : Node) (t : Site) (ds : List Demand) → ToldIf t v ds n → Reach ds (printed n v ds)
print_reach true n t ds h = stays ds
print_reach false n t ds h = passes_asked n _ _ (type_of n ∷ []) [] [] ds (known_one (told_sure refl h)) passed_none passed_none

-- ---- joins

-- what the parts of a join have told so far
abbrev pub GivenAt : Site → Bool → List Demand → Node → Type 0
GivenAt Site.Expects v ds n = Unit {0}
GivenAt Site.Initialises v ds n = Unit {0}
GivenAt _ true ds n = Unit {0}
GivenAt _ false ds n = Sure ds (type_of n)

pub record GivenIf (t : Site) (v : Bool) (ds : List Demand) (n : Node) : Type 0 where
  pub is : GivenAt t v ds n

given_at_kept : (t : Site) (v : Bool) (ds ds' : List Demand) (n : Node) → Reach ds ds' → GivenAt t v ds n → GivenAt t v ds' n
given_at_kept Site.Expects v ds ds' n r h = tt
given_at_kept Site.Initialises v ds ds' n r h = tt
given_at_kept Site.Place true ds ds' n r h = tt
given_at_kept Site.Place false ds ds' n r h = sure_kept r h
given_at_kept Site.Value true ds ds' n r h = tt
given_at_kept Site.Value false ds ds' n r h = sure_kept r h
given_at_kept Site.Scrutinee true ds ds' n r h = tt
given_at_kept Site.Scrutinee false ds ds' n r h = sure_kept r h
given_at_kept Site.Reborrows true ds ds' n r h = tt
given_at_kept Site.Reborrows false ds ds' n r h = sure_kept r h

pub given_kept : {t : Site} {v : Bool} {ds ds' : List Demand} {n : Node} → Reach ds ds' → GivenIf t v ds n → GivenIf t v ds' n
given_kept {t} {v} {ds} {ds'} {n} r h = record { is = given_at_kept t v ds ds' n r h.is }

given_at : (t : Site) (v : Bool) (ds : List Demand) (n : Node) → (v ≡ false → Sure ds (type_of n)) → GivenAt t v ds n
given_at Site.Expects v ds n h = tt
given_at Site.Initialises v ds n h = tt
given_at Site.Place true ds n h = tt
given_at Site.Place false ds n h = h refl
given_at Site.Value true ds n h = tt
given_at Site.Value false ds n h = h refl
given_at Site.Scrutinee true ds n h = tt
given_at Site.Scrutinee false ds n h = h refl
given_at Site.Reborrows true ds n h = tt
given_at Site.Reborrows false ds n h = h refl

pub given_none : {t : Site} {ds : List Demand} {n : Node} → GivenIf t true ds n
given_none {t} {ds} {n} = record { is = given_at t true ds n (λ e. absurd (cc)) }

pub given_sure : {t : Site} {v : Bool} {ds : List Demand} {n : Node} → Sure ds (type_of n) → GivenIf t v ds n
given_sure {t} {v} {ds} {n} h = record { is = given_at t v ds n (λ e. h) }

pub given_both : {t : Site} {ds : List Demand} {n : Node} (v w : Bool) → GivenIf t v ds n → GivenIf t w ds n → GivenIf t (v && w) ds n
given_both true w h k = k
given_both false w h k = h

pub record Before (t : Site) (ds ds' : List Demand) (m : Node) : Type 0 where
  pub reach : Reach ds ds'
  pub wanted : Wanted t m ds'

hands_told : (n m : Node) (ds : List Demand) → Sure ds (expected n) → Tells ds (hands_on n m ds) (expected m)
hands_told n m ds w = equals_asked m _ _ _ (expected n ∷ []) [] ds (known_one w) passed_none

-- a part at the same site as the whole
pub before_same : (t : Site) (n m : Node) (ds : List Demand) → Wanted t n ds → Before t ds (part_before n t m ds) m
before_same Site.Expects n m ds w = let a = hands_told n m ds w.is in record { reach = a.reach; wanted = record { is = a.told } }
before_same Site.Initialises n m ds w = let a = hands_told n m ds w.is in record { reach = a.reach; wanted = record { is = a.told } }
before_same Site.Value n m ds w = record { reach = stays ds; wanted = record { is = tt } }
before_same Site.Place n m ds w = record { reach = stays ds; wanted = record { is = tt } }
before_same Site.Scrutinee n m ds w = record { reach = stays ds; wanted = record { is = tt } }
before_same Site.Reborrows n m ds w = record { reach = stays ds; wanted = record { is = tt } }

-- a part at the site that the whole passes on
pub before_told : (t : Site) (n m : Node) (ds : List Demand) → Wanted t n ds → Before (passed_on t) ds (part_before n t m ds) m
before_told Site.Expects n m ds w = let a = hands_told n m ds w.is in record { reach = a.reach; wanted = record { is = a.told } }
before_told Site.Initialises n m ds w = let a = hands_told n m ds w.is in record { reach = a.reach; wanted = record { is = a.told } }
before_told Site.Value n m ds w = record { reach = stays ds; wanted = record { is = tt } }
before_told Site.Place n m ds w = record { reach = stays ds; wanted = record { is = tt } }
before_told Site.Scrutinee n m ds w = record { reach = stays ds; wanted = record { is = tt } }
before_told Site.Reborrows n m ds w = record { reach = stays ds; wanted = record { is = tt } }

pub record After (t : Site) (v : Bool) (ds ds' : List Demand) (n : Node) : Type 0 where
  pub reach : Reach ds ds'
  pub given : GivenIf t v ds' n

part_given : (t u : Site) (v : Bool) (n m : Node) (ds : List Demand) → ToldIf u v ds m → After t v ds (as_part n v m ds) n
part_given t u true n m ds h = record { reach = stays ds; given = given_none }
part_given t u false n m ds h = let a = equals_asked n (broken.Mismatch Rule.Equal) (type_of n) op.Same (type_of m ∷ []) [] ds (known_one (told_sure refl h)) passed_none in
    record { reach = a.reach; given = given_sure a.told }

pub after_told : (t u : Site) (v : Bool) (n m : Node) (ds : List Demand) → ToldIf u v ds m → After t v ds (part_after n t v m ds) n
after_told Site.Expects u v n m ds h = record { reach = stays ds; given = record { is = tt } }
after_told Site.Initialises u v n m ds h = record { reach = stays ds; given = record { is = tt } }
after_told Site.Value u v n m ds h = part_given Site.Value u v n m ds h
after_told Site.Place u v n m ds h = part_given Site.Place u v n m ds h
after_told Site.Scrutinee u v n m ds h = part_given Site.Scrutinee u v n m ds h
after_told Site.Reborrows u v n m ds h = part_given Site.Reborrows u v n m ds h

pub record Joined (t : Site) (v : Bool) (ds ds' : List Demand) (n : Node) : Type 0 where
  pub reach : Reach ds ds'
  pub told : ToldIf t v ds' n

joins_told : (n : Node) (t : Site) (ds : List Demand) → GivenIf t false ds n → Wanted t n ds → Joined t false ds (joins n t ds) n
joins_told n Site.Value ds h w = record { reach = stays ds; told = told_if h.is }
joins_told n Site.Place ds h w = let a = never_asked n (broken.Mismatch Rule.NotPlace) ds in record { reach = a.reach; told = told_if (a.told _) }
joins_told n Site.Scrutinee ds h w = record { reach = stays ds; told = told_if h.is }
joins_told n Site.Reborrows ds h w = let a = own_expected n ds h.is in record { reach = a.reach; told = told_if (sure_kept a.reach h.is) }
joins_told n Site.Expects ds h w = let a = equals_asked n (broken.Mismatch Rule.Equal) (type_of n) op.Same (expected n ∷ []) [] ds (known_one w.is) passed_none in record { reach = a.reach; told = told_if a.told }
joins_told n Site.Initialises ds h w = let a = equals_asked n (broken.Mismatch Rule.Equal) (type_of n) op.Same (expected n ∷ []) [] ds (known_one w.is) passed_none in record { reach = a.reach; told = told_if a.told }

pub join_told : (n : Node) (v : Bool) (ds : List Demand) → GivenIf n.site v ds n → Wanted n.site n ds → Joined n.site v ds (join n v ds) n
join_told n true ds h w = let a = never_told n.site n ds in record { reach = a.reach; told = a.told }
join_told n false ds h w = joins_told n n.site ds h w

-- ---- what is matched

matched_sure : (t : Site) (n : Node) (x : ℕ) (ps : List Passing) (ds : List Demand) → Sure ds (type_of n) → Passed ds ps → SureMatched ds (matched_in t n x ps)
matched_sure Site.Initialises n x ps ds h k = (h, k)
matched_sure Site.Value n x ps ds h k = k
matched_sure Site.Place n x ps ds h k = k
matched_sure Site.Scrutinee n x ps ds h k = k
matched_sure Site.Expects n x ps ds h k = k
matched_sure Site.Reborrows n x ps ds h k = k

matched_sure_if : (b : Bool) (n : Node) (x : ℕ) (ps : List Passing) (ds : List Demand) → (b ≡ true → Sure ds (type_of n)) → Passed ds ps → SureMatched ds (matched_if b n x ps)
matched_sure_if true n x ps ds h k = matched_sure n.site n x ps ds (h refl) k
matched_sure_if false n x ps ds h k = tt

pub sure_to_match : (e : Exp) (ds : List Demand) → (is_place e ≡ true → Sure ds (type_of (node_of e))) → Passed ds (through e) → SureMatched ds (matched e)
sure_to_match e ds h k = matched_sure_if (is_place e) (node_of e) (root e).number (through e) ds h k

-- a place isn't Never
pub place_typed : (e : Exp) → is_place e ≡ true → never e ≡ false
place_typed (named.var n x) p = refl
place_typed (named.field n e x) p = refl
place_typed (named.part n e i) p = refl
place_typed (named.deref n e) p = refl
place_typed _ p = absurd (cc)

-- ---- operators

or_true : (a b : Bool) → IsTrue b → IsTrue (a || b)
or_true true b h = refl
or_true false b h = h

-- what the last facts of a list tell, the whole tells
ends_told : (fs gs : List Fact) (x : Subject) → ((K : Knowing) → IsTrue (learns_all K gs x)) → (K : Knowing) → IsTrue (learns_all K (fs ++ gs) x)
ends_told [] gs x h K = h K
ends_told (f ∷ fs) gs x h K = ends_told fs gs x h (learns K f)

integer_ends : (n : ℕ) (s : Kinds) (K : Knowing) → IsTrue (learns_all K (fact.Integer n s ∷ []) (subject.Node n))
integer_ends n s K = ap (λ c. c || K (subject.Node n)) (same_self (subject.Node n))

own_integer : (n : ℕ) (s : Kinds) (K : Knowing) → EachReady n K (fact.Integer n s ∷ [])
own_integer n s K = (ap (λ c. c || K (subject.Node n)) (eq-eqb n n refl), tt)

own_ready : (k : ℕ) (n m : Node) (t : Site) (v : Bool) (ds : List Demand) → ToldIf t v ds m → EachReady k (knows order.nothing ds) (own_operand n m v)
own_ready k n m t v ds h = each_typed k _ v _ (λ e. and_true _ _ (and_true _ _ (told_sure e h).is refl) refl)

integer_asked_last : (n : Node) (fs : List Fact) (s : Kinds) (ds : List Demand) → EachReady n.number (knows order.nothing ds) fs → Wanted n.site n ds
    → Tells ds (value_at n (ask n Rule.KindOf (fs ++ (fact.Integer n.number s ∷ [])) ds)) (type_of n)
integer_asked_last n fs s ds h w =
    let r = asked n (broken.Mismatch Rule.KindOf) false (fs ++ (fact.Integer n.number s ∷ [])) ds (ready_each n.number _ _ (each_join n.number _ fs _ h (own_integer n.number s (knows order.nothing ds)))) (λ f. absurd (cc)) in
    let k = learnt n (broken.Mismatch Rule.KindOf) false (fs ++ (fact.Integer n.number s ∷ [])) ds (type_of n) (ends_told fs _ _ (integer_ends n.number s) _) in
    let c = value_reach n n.site _ k (wanted_kept r w) in record { reach = r ⇒ c; told = sure_kept c k }

-- one operand, of the type of the node
pub negated_told : (n m : Node) (v : Bool) (t : Site) (ds : List Demand) → ToldIf t v ds m → Wanted n.site n ds → Tells ds (negated n m v ds) (type_of n)
negated_told n m v t ds h w = integer_asked_last n (own_operand n m v) signed ds (own_ready n.number n m t v ds h) w

arithmetic_told : (n a : Node) (x : Bool) (b : Node) (y : Bool) (t : Site) (ds : List Demand) → ToldIf t x ds a → ToldIf t y ds b → Wanted n.site n ds → Tells ds (arithmetic n a x b y ds) (type_of n)
arithmetic_told n a x b y t ds h k w = integer_asked_last n (own_operand n a x ++ own_operand n b y) all ds (each_join n.number _ (own_operand n a x) _ (own_ready n.number n a t x ds h) (own_ready n.number n b t y ds k)) w

integer_ready : (k : ℕ) (a : Node) (x : Bool) (t : Site) (ds : List Demand) → ToldIf t x ds a → EachReady k (knows order.nothing ds) (integer_operand a x)
integer_ready k a x t ds h = each_typed k _ x _ (λ e. or_true _ _ (told_sure e h).is)

plain_ready : (k : ℕ) (a : Node) (x : Bool) (t : Site) (ds : List Demand) → ToldIf t x ds a → EachReady k (knows order.nothing ds) (plain_operand a x)
plain_ready k a x t ds h = each_typed k _ x _ (λ e. and_true _ _ (and_true _ _ (and_true _ _ (told_sure e h).is refl) refl) refl)

truth_ready : (k : ℕ) (a : Node) (x : Bool) (ds : List Demand) → EachReady k (knows order.nothing ds) (truth_operand a x)
truth_ready k a x ds = each_typed k _ x _ (λ e. refl)

right_false : (a b : Bool) → (a || b) ≡ false → b ≡ false
right_false true b e = absurd (cc)
right_false false b e = e

same_ready : (k : ℕ) (a : Node) (x : Bool) (b : Node) (y : Bool) (t : Site) (ds : List Demand) → ToldIf t y ds b → EachReady k (knows order.nothing ds) (same_operands a x b y)
same_ready k a x b y t ds h = each_typed k _ (x || y) _ (λ e. and_true _ _ (and_true _ _ (told_sure (right_false _ _ e) h).is refl) refl)

-- two integers of one kind, asked at a node
pub updated_reach : (n a : Node) (x : Bool) (b : Node) (y : Bool) (t u : Site) (ds : List Demand) → ToldIf t x ds a → ToldIf u y ds b → Reach ds (updated n a x b y ds)
updated_reach n a x b y t u ds h k = asked n _ false _ ds (ready_each n.number _ _ (each_join n.number _ (integer_operand a x ++ integer_operand b y) _
    (each_join n.number _ (integer_operand a x) _ (integer_ready n.number a x t ds h) (integer_ready n.number b y u ds k)) (same_ready n.number a x b y u ds k))) (λ f. absurd (cc))

truth_own : (n : Node) (ds ds' : List Demand) → Reach ds ds' → Wanted n.site n ds → Tells ds (own n op.Truth [] ds') (type_of n)
truth_own n ds ds' r w = let a = own_told n op.Truth [] ds' known_none (wanted_kept r w) in record { reach = r ⇒ a.reach; told = a.told }

order_told : (n a : Node) (x : Bool) (b : Node) (y : Bool) (t : Site) (ds : List Demand) → ToldIf t x ds a → ToldIf t y ds b → Wanted n.site n ds → Tells ds (order n a x b y ds) (type_of n)
order_told n a x b y t ds h k w = truth_own n ds _ (updated_reach n a x b y t t ds h k) w

equality_told : (n a : Node) (x : Bool) (b : Node) (y : Bool) (t : Site) (ds : List Demand) → ToldIf t x ds a → ToldIf t y ds b → Wanted n.site n ds → Tells ds (equality n a x b y ds) (type_of n)
equality_told n a x b y t ds h k w = truth_own n ds _ (asked n _ false _ ds (ready_each n.number _ _ (each_join n.number _ (plain_operand a x ++ plain_operand b y) _
    (each_join n.number _ (plain_operand a x) _ (plain_ready n.number a x t ds h) (plain_ready n.number b y t ds k)) (same_ready n.number a x b y t ds k))) (λ f. absurd (cc))) w

lazy_told : (n a : Node) (x : Bool) (b : Node) (y : Bool) (ds : List Demand) → Wanted n.site n ds → Tells ds (lazy n a x b y ds) (type_of n)
lazy_told n a x b y ds w = truth_own n ds _ (asked n _ false _ ds (ready_each n.number _ _ (each_join n.number _ (truth_operand a x) _ (truth_ready n.number a x ds) (truth_ready n.number b y ds))) (λ f. absurd (cc))) w

pub inverted_told : (n a : Node) (x : Bool) (ds : List Demand) → Wanted n.site n ds → Tells ds (inverted n a x ds) (type_of n)
inverted_told n a x ds w = truth_own n ds _ (asked n _ false _ ds (ready_each n.number _ _ (truth_ready n.number a x ds)) (λ f. absurd (cc))) w

pub operation_told : (o : BinaryOp) (n a : Node) (x : Bool) (b : Node) (y : Bool) (t : Site) (ds : List Demand) → ToldIf t x ds a → ToldIf t y ds b → Wanted n.site n ds → Tells ds (operation o n a x b y ds) (type_of n)
operation_told BinaryOp.Or n a x b y t ds h k w = lazy_told n a x b y ds w
operation_told BinaryOp.And n a x b y t ds h k w = lazy_told n a x b y ds w
operation_told BinaryOp.Eq n a x b y t ds h k w = equality_told n a x b y t ds h k w
operation_told BinaryOp.Ne n a x b y t ds h k w = equality_told n a x b y t ds h k w
operation_told BinaryOp.Lt n a x b y t ds h k w = order_told n a x b y t ds h k w
operation_told BinaryOp.Le n a x b y t ds h k w = order_told n a x b y t ds h k w
operation_told BinaryOp.Gt n a x b y t ds h k w = order_told n a x b y t ds h k w
operation_told BinaryOp.Ge n a x b y t ds h k w = order_told n a x b y t ds h k w
operation_told _ n a x b y t ds h k w = arithmetic_told n a x b y t ds h k w

-- ---- assignments

writable_reach : (n : Node) (m : Bool) (x : ℕ) (ps : List Passing) (ds : List Demand) → Passed ds ps → Reach ds (writable n m x ps ds)
writable_reach n m x ps ds k = passes_asked n _ _ [] [] ps ds known_none passed_none k

pub borrowed_reach : (m : Bool) (n : Node) (p : Exp) (ds : List Demand) → Passed ds (through p) → Reach ds (when m (writable n (root p).mutable (root p).number (through p)) ds)
borrowed_reach true n p ds k = writable_reach n (root p).mutable (root p).number (through p) ds k
borrowed_reach false n p ds k = stays ds

assignable_in : (b : Bool) (n : Node) (p : Exp) (ds : List Demand) → Passed ds (through p) → Reach ds (when (not b) (writable n (root p).mutable (root p).number (through p)) ds)
assignable_in true n p ds k = stays ds
assignable_in false n p ds k = writable_reach n (root p).mutable (root p).number (through p) ds k

pub assignable_reach : (n : Node) (p : Exp) (ds : List Demand) → Passed ds (through p) → Reach ds (assignable n p ds)
assignable_reach n p ds k = assignable_in (is_variable p) n p ds k
