-- Roots get numbers.
use Rattle.std.proofs.Common.{◌≡◌, ◌⊎◌, inl, inr, ℕ, zero, suc, ◌+◌, ◌<◌, ◌≤◌, Bool, true, false, ◌&&◌, ◌||◌, ◌==◌, List, [], ◌∷◌, ◌++◌, map, length, drop, get_or, Option, Some, None, MatchBool, MatchOption, option_to_list, Result, Ok, Err, OnOk, slice_get, refl, ap, sym, ◌∙◌, subst, arith, true≢false}
use Rattle.std.proofs.lemmas.List.{drop_more, get_or_past}
use Rattle.std.proofs.lemmas.Option.{slice_get_within, slice_get_past}
use Rattle.std.proofs.lemmas.Bool.{cases_eq, cases_lt}
use Rattle.std.proofs.lemmas.Bool.Decides.{Decides-eqb}
use Rattle.rx_lower_walks.specs.Actions.{Act}
use Rattle.rx_lower_walks.specs.Walks.{Among, here, there}
use Rattle.rx_graph.specs.Facts.{has, targets}
use Rattle.rx_lower_walks.specs.declared.actions.Root.{Root}
use Rattle.rx_lower_walks.specs.PlainFlow.{plain-Root}
use Rattle.rx_facts_tables.specs.Turning.{Joined}
use Rattle.rx_typed.specs.TypedPlaces.{same_root}
use Rattle.rx_facts_tables.specs.Live.{has_root, used}
use Rattle.rx_facts_tables.specs.LiveTables.{key, IsNot, HasNumber, HasNumbers, KeepsRoots, HasUsed, IsIndex}
use Rattle.rx_facts_tables.specs.declared.index.Index.{Index}
use Rattle.std.specs.declared.alloc.AllocError.{AllocError}
use Rattle.rx_facts_tables.proofs.Roots.{same_is, itself}

one_of : (a b : Bool) → (a || b) ≡ true → (a ≡ true) ⊎ (b ≡ true)
one_of true b h = inl refl
one_of false b h = inr h

none_left : (ns : List ℕ) (k : ℕ) → length ns ≤ k → drop k ns ≡ []
none_left [] zero h = refl
none_left [] (suc k) h = refl
none_left (n ∷ ns) zero h = absurd (omega (arith, h))
none_left (n ∷ ns) (suc k) h = none_left ns k (omega (arith, h))

pub roots_left : (rs : List Root) (k : ℕ) → length rs ≤ k → drop k rs ≡ []
roots_left [] zero h = refl
roots_left [] (suc k) h = refl
roots_left (r ∷ rs) zero h = absurd (omega (arith, h))
roots_left (r ∷ rs) (suc k) h = roots_left rs k (omega (arith, h))

none_among : {B : Type 0} (r : Root) (rs : List Root) → rs ≡ [] → Among r rs → B
none_among r rs e here = absurd (cc)
none_among r rs e (there h) = absurd (cc)

-- ---- a list of roots with one more

last_got : (W : List Root) (r : Root) → slice_get (W ++ r ∷ []) (length W) ≡ Some r
last_got [] r = refl
last_got (q ∷ W) r = last_got W r

front_got : (W : List Root) (r : Root) (k : ℕ) → k < length W → slice_get (W ++ r ∷ []) k ≡ slice_get W k
front_got [] r k h = absurd (omega (arith, h))
front_got (q ∷ W) r zero h = refl
front_got (q ∷ W) r (suc k) h = front_got W r k (omega (arith, h))

-- what stands at a number of the longer list
pub data Got (W : List Root) (r : Root) (k : ℕ) (q : Root) : Type 0 where
  old : slice_get W k ≡ Some q → Got W r k q
  new : k ≡ length W → q ≡ r → Got W r k q

past_got : {B : Type 0} (W : List Root) (r : Root) (k : ℕ) (q : Root) → length W < k → slice_get (W ++ r ∷ []) k ≡ Some q → B
past_got [] r zero q h e = absurd (omega (arith, h))
past_got [] r (suc k) q h e = absurd (cc)
past_got (p ∷ W) r zero q h e = absurd (omega (arith, h))
past_got (p ∷ W) r (suc k) q h e = past_got W r k q (omega (arith, h)) e

pub got : (W : List Root) (r : Root) (k : ℕ) (q : Root) → slice_get (W ++ r ∷ []) k ≡ Some q → Got W r k q
got W r k q e = by (cases_lt k (length W)) (cases_eq k (length W))
  where
    by : (k < length W) ⊎ (length W ≤ k) → (k ≡ length W) ⊎ (k ≡ length W → ⊥) → Got W r k q
    by (inl h) d = old (sym (front_got W r k h) ∙ e)
    by (inr h) (inl d) = new d (let z : Some r ≡ Some q = sym (last_got W r) ∙ ap (λ n. slice_get (W ++ r ∷ []) n) (sym d) ∙ e in cc)
    by (inr h) (inr d) = past_got W r k q (omega (arith, h, d)) e

pub kept_old : (W : List Root) (r : Root) → KeepsRoots W (W ++ r ∷ [])
kept_old W r q h = (h.0, front_got W r h.0 (slice_get_within W h.0 q h.1) ∙ h.1)

pub kept_new : (W : List Root) (r : Root) → HasNumber (W ++ r ∷ []) r
kept_new W r = (length W, last_got W r)

-- ---- buckets

or_true : (a : Bool) → (a || true) ≡ true
or_true true = refl
or_true false = refl

gained : (a b : Bool) → a ≡ true → (a || b) ≡ true
gained true b h = refl
gained false b h = absurd (true≢false (sym h))

-- a site's list that is there
has_below : (T : List (List ℕ)) (q k : ℕ) → has (targets T q) k ≡ true → q < length T
has_below [] q k h = absurd (true≢false (sym h))
has_below (r ∷ T) zero k h = omega arith
has_below (r ∷ T) (suc q) k h = omega (arith, has_below T q k h)

module _ (W : List Root) (S T V : List (List ℕ)) (r : Root) (n : ℕ) (number : n ≡ length W)
    (stands : (k : ℕ) (q : Root) → slice_get W k ≡ Some q → has (targets S (key q)) k ≡ true) (grown : (q : ℕ) → targets T q ≡ targets S q) (within : key r < length T)
    (joined : Joined T V (key r ∷ []) n) where
  pub stands_on : (k : ℕ) (q : Root) → slice_get (W ++ r ∷ []) k ≡ Some q → has (targets V (key q)) k ≡ true
  stands_on k q e = by (got W r k q e)
    where
      by : Got W r k q → has (targets V (key q)) k ≡ true
      by (old h) =
          let s : has (targets T (key q)) k ≡ true = ap (λ l. has l k) (grown (key q)) ∙ stands k q h in
          joined.at (key q) k (has_below T (key q) k s) ∙ gained (has (targets T (key q)) k) _ s
      by (new d x) = ap (λ (p : Root). has (targets V (key p)) k) x ∙ joined.at (key r) k within
          ∙ ap (λ b. has (targets T (key r)) k || b) (ap (λ b. b && (key r == key r || false)) ((Decides-eqb k n).1 (d ∙ sym number)) ∙ ap (λ b. b || false) ((Decides-eqb (key r) (key r)).1 refl))
          ∙ or_true (has (targets T (key r)) k)

pub once_on : (W : List Root) (r : Root) → ((j k : ℕ) (q : Root) → slice_get W j ≡ Some q → slice_get W k ≡ Some q → j ≡ k) → ((k : ℕ) → IsNot W k r)
    → (j k : ℕ) (q : Root) → slice_get (W ++ r ∷ []) j ≡ Some q → slice_get (W ++ r ∷ []) k ≡ Some q → j ≡ k
once_on W r once fresh j k q e d = by (got W r j q e) (got W r k q d)
  where
    by : Got W r j q → Got W r k q → j ≡ k
    by (old a) (old b) = once j k q a b
    by (old a) (new b c) = absurd (fresh j (a ∙ ap (λ (p : Root). Some p) c))
    by (new a c) (old b) = absurd (fresh k (b ∙ ap (λ (p : Root). Some p) c))
    by (new a c) (new b d) = a ∙ sym b

-- ---- loops

pub at_is : (W : List Root) (k : ℕ) (other r : Root) (b : Bool) → slice_get W k ≡ Some other → b ≡ same_root (plain-Root other) (plain-Root r)
    → MatchBool b (slice_get W k ≡ Some r) (IsNot W k r)
at_is W k other r true e h = e ∙ ap (λ (p : Root). Some p) (same_is other r (sym h))
at_is W k other r false e h = λ x. true≢false (sym (h ∙ (let z : other ≡ r = cc in ap (λ (p : Root). same_root (plain-Root p) (plain-Root r)) z) ∙ itself r))

pub none_at : (W : List Root) (k : ℕ) (r : Root) → length W ≤ k → IsNot W k r
none_at W k r h e = let z = slice_get_past W k h in absurd (cc)

-- the numbers that were passed are not it
abbrev pub Passed : List Root → List ℕ → Root → ℕ → Type 0
Passed W ns r i = (k : ℕ) → has ns k ≡ true → (has (drop i ns) k ≡ true) ⊎ IsNot W k r

pub passed_more : (W : List Root) (ns : List ℕ) (r : Root) (i : ℕ) → i < length ns → IsNot W (get_or ns i 0) r → Passed W ns r i → Passed W ns r (i + 1)
passed_more W ns r i within is before k h = by (before k h)
  where
    later : ((k == get_or ns i 0) || has (drop (i + 1) ns) k) ≡ true → (has (drop (i + 1) ns) k ≡ true) ⊎ IsNot W k r
    later e = elim (one_of (k == get_or ns i 0) (has (drop (i + 1) ns) k) e) [
      | inl x ↦ inr (subst (λ n. IsNot W n r) (sym ((Decides-eqb k (get_or ns i 0)).0 x)) is)
      | inr x ↦ inl x
    ]

    by : (has (drop i ns) k ≡ true) ⊎ IsNot W k r → (has (drop (i + 1) ns) k ≡ true) ⊎ IsNot W k r
    by (inl e) = later (ap (λ l. has l k) (sym (drop_more ns i 0 within)) ∙ e)
    by (inr e) = inr e

pub all_passed : (W : List Root) (ns : List ℕ) (r : Root) (i : ℕ) → length ns ≤ i → Passed W ns r i → (k : ℕ) → has ns k ≡ true → IsNot W k r
all_passed W ns r i past before k h = by (before k h)
  where
    by : (has (drop i ns) k ≡ true) ⊎ IsNot W k r → IsNot W k r
    by (inl e) = absurd (true≢false (sym (ap (λ l. has l k) (sym (none_left ns i past)) ∙ e)))
    by (inr e) = e

-- among the first number, where there is one, and others
pub among_others : (W : List Root) (r : Root) (first : Option ℕ) (others all : List ℕ) (n : Option ℕ) → option_to_list first ++ others ≡ all
    → ((k : ℕ) → has (option_to_list first) k ≡ true → IsNot W k r)
    → MatchOption n ((k : ℕ) → has others k ≡ true → IsNot W k r) (λ k. slice_get W k ≡ Some r)
    → MatchOption n ((k : ℕ) → has all k ≡ true → IsNot W k r) (λ k. slice_get W k ≡ Some r)
among_others W r first others all (Some n) is none found = found
among_others W r first others all None is none found = λ k h. by first none k (ap (λ l. has l k) is ∙ h)
  where
    by : (o : Option ℕ) → ((k : ℕ) → has (option_to_list o) k ≡ true → IsNot W k r) → (k : ℕ) → has (option_to_list o ++ others) k ≡ true → IsNot W k r
    by None f k g = found k g
    by (Some m) f k g = elim (one_of (k == m) (has others k) g) [
      | inl x ↦ f k (ap (λ b. b || false) x)
      | inr x ↦ found k x
    ]

pub not_first : (W : List Root) (r : Root) (n k : ℕ) → IsNot W n r → has (n ∷ []) k ≡ true → IsNot W k r
not_first W r n k is h = by (one_of (k == n) false h)
  where
    by : (k == n ≡ true) ⊎ (false ≡ true) → IsNot W k r
    by (inl x) = subst (λ m. IsNot W m r) (sym ((Decides-eqb k n).0 x)) is
    by (inr x) = absurd (true≢false (sym x))

-- roots that were passed have numbers
abbrev pub Given : List Root → List Root → ℕ → Type 0
Given W rs i = (r : Root) → Among r rs → Among r (drop i rs) ⊎ HasNumber W r

pub given_more : (V W : List Root) (rs : List Root) (i : ℕ) (d : Root) → i < length rs → KeepsRoots V W → HasNumber W (get_or rs i d) → Given V rs i → Given W rs (i + 1)
given_more V W rs i d within keeps has_it before r m = by (before r m)
  where
    later : (l : List Root) → l ≡ get_or rs i d ∷ drop (i + 1) rs → Among r l → Among r (drop (i + 1) rs) ⊎ HasNumber W r
    later l e (here {l = k}) = inr (let z : r ≡ get_or rs i d = cc in subst (λ (p : Root). HasNumber W p) (sym z) has_it)
    later l e (there {b = b} {l = k} x) = inl (let z : k ≡ drop (i + 1) rs = cc in subst (λ (l : List Root). Among r l) z x)

    by : Among r (drop i rs) ⊎ HasNumber V r → Among r (drop (i + 1) rs) ⊎ HasNumber W r
    by (inl x) = later (drop i rs) (drop_more rs i d within) x
    by (inr x) = inr (keeps r x)

pub all_given : (W : List Root) (rs : List Root) (i : ℕ) → length rs ≤ i → Given W rs i → HasNumbers W rs
all_given W rs i past before r m = by (before r m)
  where
    by : Among r (drop i rs) ⊎ HasNumber W r → HasNumber W r
    by (inl x) = none_among r (drop i rs) (roots_left rs i past) x
    by (inr x) = x

-- what is among plain roots is a root of the list
pub is_among : (rs : List Root) (r : Root) → has_root (map plain-Root rs) (plain-Root r) ≡ true → Among r rs
is_among [] r h = absurd (true≢false (sym h))
is_among (q ∷ rs) r h = by (one_of (same_root (plain-Root r) (plain-Root q)) (has_root (map plain-Root rs) (plain-Root r)) h) (λ e. is_among rs r e)
  where
    by : (same_root (plain-Root r) (plain-Root q) ≡ true) ⊎ (has_root (map plain-Root rs) (plain-Root r) ≡ true)
        → (has_root (map plain-Root rs) (plain-Root r) ≡ true → Among r rs) → Among r (q ∷ rs)
    by (inl e) rest = subst (λ (p : Root). Among r (p ∷ rs)) (same_is r q e) here
    by (inr e) rest = there (rest e)

pub used_numbered : (W rs : List Root) (a : Act) → map plain-Root rs ≡ used a → HasNumbers W rs → HasUsed W a
used_numbered W rs a e h r u = h r (is_among rs r (ap (λ l. has_root l (plain-Root r)) e ∙ u))

pub on_both : {P Q R : Type 0} (r : Result (Unit {0}) AllocError) → (P → Q → R) → OnOk r P → OnOk r Q → OnOk r R
on_both (Ok u) f h k = f h k
on_both (Err e) f h k = tt

-- those of the first, where there is one, and of others
pub numbered_then : (V W : List Root) (first : Option Root) (rs all : List Root) → option_to_list first ++ rs ≡ all → KeepsRoots V W → HasNumbers V (option_to_list first)
    → HasNumbers W rs → HasNumbers W all
numbered_then V W first rs all is keeps one others = subst (HasNumbers W) is (λ r m. by first one r m) where
  by : (o : Option Root) → HasNumbers V (option_to_list o) → (r : Root) → Among r (option_to_list o ++ rs) → HasNumber W r
  by None h r m = others r m
  by (Some q) h r here = keeps r (h r here)
  by (Some q) h r (there m) = others r m

pub has_used : (V W : List Root) (a : Act) → KeepsRoots V W → HasUsed V a → HasUsed W a
has_used V W a keeps h r u = keeps r (h r u)

pub on_ok : {P Q : Type 0} (r : Result (Unit {0}) AllocError) → (P → Q) → OnOk r P → OnOk r Q
on_ok (Ok u) f h = f h
on_ok (Err e) f h = tt

-- ---- the index

pub found_in : (W V : List Root) (T : List (List ℕ)) (r : Root) (q : ℕ) (ns ms : List ℕ) (n : Option ℕ) → ((k : ℕ) (r : Root) → slice_get W k ≡ Some r → has (targets T (key r)) k ≡ true)
    → V ≡ W → q ≡ key r → ms ≡ targets T q → ns ≡ ms → MatchOption n ((k : ℕ) → has ns k ≡ true → IsNot V k r) (λ k. slice_get V k ≡ Some r)
    → MatchOption n ((k : ℕ) → IsNot W k r) (λ k. slice_get W k ≡ Some r)
found_in W V T r q ns ms None stands v e a b h = λ k g.
    h k (ap (λ l. has l k) (b ∙ a ∙ ap (λ m. targets T m) e) ∙ stands k r g) (ap (λ (l : List Root). slice_get l k) v ∙ g)
found_in W V T r q ns ms (Some n) stands v e a b h = ap (λ (l : List Root). slice_get l n) (sym v) ∙ h

pub none_in : (W : List Root) (T : List (List ℕ)) (r : Root) (q : ℕ) → ((k : ℕ) (r : Root) → slice_get W k ≡ Some r → has (targets T (key r)) k ≡ true)
    → q ≡ key r → length T ≤ q → (k : ℕ) → IsNot W k r
none_in W T r q stands e past k g =
    true≢false (sym (stands k r g) ∙ ap (λ l. has l k) (ap (λ m. targets T m) (sym e) ∙ get_or_past T q [] past))

pub indexed : (x y : Index) (T U : List (List ℕ)) (r : Root) (n p q : ℕ) → IsIndex x → ((k : ℕ) → IsNot x.roots k r) → n ≡ length x.roots → ((m : ℕ) → targets T m ≡ targets x.buckets.items m)
    → p ≡ key r → q ≡ key r → p < length T → U ≡ T → Joined U y.buckets.items (q ∷ []) n → y.roots ≡ x.roots ++ r ∷ [] → IsIndex y
indexed x y T U r n p q index fresh number grown a b within u joined roots = record {
  stands = λ k s e. stands_on x.roots x.buckets.items T y.buckets.items r n number index.stands grown (subst (λ m. m < length T) a within)
      (subst (λ m. Joined T y.buckets.items (m ∷ []) n) b (subst (λ l. Joined l y.buckets.items (q ∷ []) n) u joined)) k s
      (ap (λ (l : List Root). slice_get l k) (sym roots) ∙ e);
  once = λ j k s e d. once_on x.roots r index.once fresh j k s (ap (λ (l : List Root). slice_get l j) (sym roots) ∙ e) (ap (λ (l : List Root). slice_get l k) (sym roots) ∙ d);
}
