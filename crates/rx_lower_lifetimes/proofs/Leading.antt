-- Where flows lead by their own form is what their sums tell, whatever is around them.
use Rattle.std.proofs.Common.{◌≡◌, ℕ, ◌<◌, ◌==◌, ◌+◌, ◌-◌, List, [], ◌∷◌, ◌++◌, length, drop, map, get_or, append_assoc, append-nil, Bool, true, false, ◌||◌, if◌then◌else◌, refl, sym, ap, ◌∙◌}
use Rattle.std.proofs.lemmas.Bool.Decides.{Decides-eqb}
use Rattle.rx_lower_walks.specs.Orders as orders
use Rattle.rx_lower_walks.specs.Flows.{Flow, nothing, nowhere, act, items, or, leave, passes, Items, last, do_and, ends_and, may_and, else_and, Item, doing, ending, may, trying, item_and, items_of}
use Rattle.rx_lower_walks.specs.declared.flow.Item as code
use Rattle.rx_lower_walks.specs.PlainFlow.{plain-Item}
use Rattle.rx_lower_walks.specs.declared.sums.Sum.{Sum}
use Rattle.rx_lower_walks.specs.declared.around.Around.{Around}
use Rattle.rx_lower_walks.specs.Around.{nothing_around, with_variable, with_loop, depth}
use Rattle.rx_lower_walks.specs.Sums.{exit_way, has, joined, without, breaks_of, leaving_sum, then_sum, else_sum, or_sum, sum, sum_items}
use Rattle.rx_lower_walks.proofs.Agrees.{or_false, has_both}
use Rattle.rx_lower_lifetimes.specs.declared.onward.Onward.{Onward}
use Rattle.rx_lower_lifetimes.specs.declared.onward.Front.{Front}
use Rattle.rx_lower_lifetimes.specs.Held.{goes_on}
use Rattle.rx_lower_lifetimes.specs.Leads.{stops, then_onward, else_onward, or_onward, leads, leads_items, broken, broken_items, item_leads, item_broken, item_goes_on, finished}
use Rattle.rx_lower_lifetimes.proofs.Noting.{items_first}

-- ---- loops, as often as they are broken and each once

or_assoc : (a b c : Bool) → ((a || b) || c) ≡ (a || (b || c))
or_assoc true b c = refl
or_assoc false b c = refl

has_added : (l m : ℕ) (ls : List ℕ) → has l (if has m ls then ls else ls ++ m ∷ []) ≡ (has l ls || (l == m))
has_added l m ls = by (has m ls) refl
  where
    there : (b : Bool) → (l == m) ≡ b → has m ls ≡ true → has l ls ≡ (has l ls || b)
    there true e h = let d : l ≡ m = (Decides-eqb l m).0 e in let k : has l ls ≡ true = ap (λ n. has n ls) d ∙ h in rw k refl
    there false e h = sym (or_false (has l ls))

    by : (b : Bool) → has m ls ≡ b → has l (if b then ls else ls ++ m ∷ []) ≡ (has l ls || (l == m))
    by true e = there (l == m) refl e
    by false e = has_both l ls (m ∷ []) ∙ ap (λ (b : Bool). has l ls || b) (or_false (l == m))

has_joined : (l : ℕ) (xs ys : List ℕ) → has l (joined xs ys) ≡ (has l xs || has l ys)
has_joined l xs [] = sym (or_false (has l xs))
has_joined l xs (m ∷ ms) =
    has_joined l (if has m xs then xs else xs ++ m ∷ []) ms ∙ ap (λ (b : Bool). b || has l ms) (has_added l m xs) ∙ or_assoc (has l xs) (l == m) (has l ms)

-- the loop itself is not among them, and the others are as they were
own_gone : (l q : ℕ) → q ≡ l → (zs : List ℕ) → has q (without l zs) ≡ false
own_gone l q e [] = refl
own_gone l q e (z ∷ zs) = go (z == l) (q == z) refl refl (own_gone l q e zs)
  where
    go : (c d : Bool) → (z == l) ≡ c → (q == z) ≡ d → has q (without l zs) ≡ false → has q (if c then without l zs else z ∷ without l zs) ≡ false
    go true d i k h = h
    go false true i k h = absurd (let f : z ≡ l = sym ((Decides-eqb q z).0 k) ∙ e in let g : (z == l) ≡ true = (Decides-eqb z l).1 f in cc)
    go false false i k h = rw k h

others_stay : (l q : ℕ) → (q == l) ≡ false → (zs : List ℕ) → has q (without l zs) ≡ has q zs
others_stay l q e [] = refl
others_stay l q e (z ∷ zs) = go (z == l) (q == z) refl refl (others_stay l q e zs)
  where
    go : (c d : Bool) → (z == l) ≡ c → (q == z) ≡ d → has q (without l zs) ≡ has q zs → has q (if c then without l zs else z ∷ without l zs) ≡ (d || has q zs)
    go true true i k h = absurd (let f : q ≡ l = (Decides-eqb q z).0 k ∙ (Decides-eqb z l).0 i in let g : (q == l) ≡ true = (Decides-eqb q l).1 f in cc)
    go true false i k h = h
    go false d i k h = rw (k, h) refl

same_without : (l : ℕ) (xs ys : List ℕ) → ((q : ℕ) → has q xs ≡ has q ys) → (q : ℕ) → has q (without l xs) ≡ has q (without l ys)
same_without l xs ys e q = by (q == l) refl
  where
    by : (c : Bool) → (q == l) ≡ c → has q (without l xs) ≡ has q (without l ys)
    by true i = let f : q ≡ l = (Decides-eqb q l).0 i in own_gone l q f xs ∙ sym (own_gone l q f ys)
    by false i = others_stay l q i xs ∙ e q ∙ sym (others_stay l q i ys)

-- ---- two parts

record Alike (h : Onward) (bs : List ℕ) (m : Sum) : Type 0 where
  pub ahead : h.ahead ≡ m.ahead
  pub failing : h.failing ≡ m.failing
  pub breaks : (l : ℕ) → has l bs ≡ has l m.breaks

two_breaks : (l : ℕ) (bs cs ds es : List ℕ) (c d : Bool) → has l bs ≡ has l ds → has l cs ≡ has l es → c ≡ d
    → has l (bs ++ (if c then cs else [])) ≡ has l (joined ds (if d then es else []))
two_breaks l bs cs ds es c d e f g =
    has_both l bs (if c then cs else []) ∙ ap (λ (b : Bool). b || has l (if c then cs else [])) e ∙ ap (λ (b : Bool). has l ds || b) (which c d g)
    ∙ sym (has_joined l ds (if d then es else []))
  where
    which : (c d : Bool) → c ≡ d → has l (if c then cs else []) ≡ has l (if d then es else [])
    which true d g = rw (sym g) f
    which false d g = rw (sym g) refl

then_alike : (h k : Onward) (bs cs : List ℕ) (m n : Sum) → Alike h bs m → Alike k cs n → Alike (then_onward h k) (bs ++ (if h.ahead then cs else [])) (then_sum m n)
then_alike h k bs cs m n a b = record {
  ahead = rw (a.ahead, b.ahead) refl;
  failing = rw (a.failing, a.ahead, b.failing) refl;
  breaks = λ l. two_breaks l bs cs m.breaks n.breaks h.ahead m.ahead (a.breaks l) (b.breaks l) a.ahead;
}

else_alike : (h k : Onward) (bs cs : List ℕ) (m n : Sum) → Alike h bs m → Alike k cs n → Alike (else_onward h k) (bs ++ (if h.failing then cs else [])) (else_sum m n)
else_alike h k bs cs m n a b = record {
  ahead = rw (a.ahead, a.failing, b.ahead) refl;
  failing = rw (a.failing, b.failing) refl;
  breaks = λ l. two_breaks l bs cs m.breaks n.breaks h.failing m.failing (a.breaks l) (b.breaks l) a.failing;
}

or_alike : (h k : Onward) (bs cs : List ℕ) (m n : Sum) → Alike h bs m → Alike k cs n → Alike (or_onward h k) (bs ++ cs) (or_sum m n)
or_alike h k bs cs m n a b = record {
  ahead = rw (a.ahead, b.ahead) refl;
  failing = rw (a.failing, b.failing) refl;
  breaks = λ l. two_breaks l bs cs m.breaks n.breaks true true (a.breaks l) (b.breaks l) refl;
}

leave_alike : (x : orders.Exit) (n : ℕ) → Alike stops (breaks_of (exit_way x)) (leaving_sum n (exit_way x))
leave_alike (orders.breaks m l) n = record { ahead = refl; failing = refl; breaks = λ q. refl }
leave_alike (orders.continues m l) n = record { ahead = refl; failing = refl; breaks = λ q. refl }
leave_alike (orders.returns m) n = record { ahead = refl; failing = refl; breaks = λ q. refl }

-- ---- flows, and sequences

mutual
  leads_alike : (A : Around) (f : Flow) → Alike (leads f) (broken f) (sum A f)
  leads_alike A nothing = record { ahead = refl; failing = refl; breaks = λ q. refl }
  leads_alike A nowhere = record { ahead = refl; failing = refl; breaks = λ q. refl }
  leads_alike A (act a) = record { ahead = refl; failing = refl; breaks = λ q. refl }
  leads_alike A (items l) = items_alike A l
  leads_alike A (or f g) = or_alike (leads f) (leads g) (broken f) (broken g) (sum A f) (sum A g) (leads_alike A f) (leads_alike A g)
  leads_alike A (leave x) = leave_alike x (length A.variables - depth x A.loops)
  leads_alike A (passes l f) =
      let m = sum (with_loop l [] [] A) f in
      let a = leads_alike (with_loop l [] [] A) f in
      record { ahead = a.breaks l; failing = refl; breaks = same_without l (broken f) m.breaks a.breaks }

  items_alike : (A : Around) (l : Items) → Alike (leads_items l) (broken_items l) (sum_items A l)
  items_alike A (last f) = leads_alike A f
  items_alike A (do_and f l) =
      then_alike (leads f) (leads_items l) (broken f) (broken_items l) (sum A f) (sum_items A l) (leads_alike A f) (items_alike A l)
  items_alike A (ends_and n x l) = let a = items_alike (with_variable x A) l in record { ahead = a.ahead; failing = refl; breaks = a.breaks }
  items_alike A (may_and l) = let a = items_alike A l in record { ahead = a.ahead; failing = refl; breaks = a.breaks }
  items_alike A (else_and f l) =
      else_alike (leads f) (leads_items l) (broken f) (broken_items l) (sum A f) (sum_items A l) (leads_alike A f) (items_alike A l)

-- whether what follows an item is reached
pub item_reached : (i : Item) → item_goes_on i ≡ goes_on i
item_reached (doing f) = (leads_alike nothing_around f).ahead
item_reached (ending n x) = refl
item_reached may = refl
item_reached (trying f) = (leads_alike nothing_around f).failing

-- ---- a turn of the loop over a sequence

pub none_broken : (bs : List ℕ) → bs ++ [] ≡ bs
none_broken bs = append-nil bs

leads_first : (i : Item) (l : Items) → leads_items (item_and i l) ≡ item_leads i (leads_items l)
leads_first (doing f) l = refl
leads_first (ending n x) l = refl
leads_first may l = refl
leads_first (trying f) l = refl

broken_first : (i : Item) (l : Items) → broken_items (item_and i l) ≡ item_broken i ++ (if item_goes_on i then broken_items l else [])
broken_first (doing f) l = refl
broken_first (ending n x) l = refl
broken_first may l = refl
broken_first (trying f) l = refl

pub leads_turn : (F G : Front) (is : List code.Item) (l : Items) (i : ℕ) (it : code.Item) → i < length is → it ≡ get_or is i it
    → (goes : Bool) → item_goes_on (plain-Item it) ≡ goes
    → ((h : Onward) → finished F (item_leads (plain-Item it) h) ≡ finished G (if item_goes_on (plain-Item it) then h else stops))
    → finished G (if goes then leads_items (items_of (map plain-Item (drop (i + 1) is)) l) else stops) ≡ finished F (leads_items (items_of (map plain-Item (drop i is)) l))
leads_turn F G is l i it less it_is goes e fronts =
    let R = items_of (map plain-Item (drop (i + 1) is)) l in
    ap (λ (b : Bool). finished G (if b then leads_items R else stops)) (sym e) ∙ sym (fronts (leads_items R))
    ∙ sym (ap (finished F) (ap leads_items (items_first is l i it less it_is) ∙ leads_first (plain-Item it) R))

pub broken_turn : (bs cs : List ℕ) (is : List code.Item) (l : Items) (i : ℕ) (it : code.Item) → i < length is → it ≡ get_or is i it
    → (goes : Bool) → item_goes_on (plain-Item it) ≡ goes → cs ≡ bs ++ item_broken (plain-Item it)
    → cs ++ (if goes then broken_items (items_of (map plain-Item (drop (i + 1) is)) l) else []) ≡ bs ++ broken_items (items_of (map plain-Item (drop i is)) l)
broken_turn bs cs is l i it less it_is goes e added =
    let R = items_of (map plain-Item (drop (i + 1) is)) l in
    let rest = if goes then broken_items R else [] in
    let first : broken_items (items_of (map plain-Item (drop i is)) l) ≡ item_broken (plain-Item it) ++ rest =
    ap broken_items (items_first is l i it less it_is) ∙ broken_first (plain-Item it) R ∙ ap (λ (b : Bool). item_broken (plain-Item it) ++ (if b then broken_items R else [])) e in
    ap (λ ds. ds ++ rest) added ∙ append_assoc bs (item_broken (plain-Item it)) rest ∙ sym (ap (λ ds. bs ++ ds) first)
