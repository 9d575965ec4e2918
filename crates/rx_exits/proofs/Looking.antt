-- Loops over marks and over sites: what holds of the first of them.
use Rattle.std.proofs.Common.{◌≡◌, ◌⊎◌, inl, inr, ℕ, suc, ◌+◌, ◌<◌, ◌≤◌, Bool, true, false, true≢false, MatchBool, List, [], length, take, get_or, ap, sym, ◌∙◌, subst, arith}
use Rattle.rx_lower_walks.specs.Walks.{Among}
use Rattle.rx_lower_walks.specs.Graph as graph
use Rattle.rx_lower_walks.specs.declared.site.Site.{Site}
use Rattle.rx_lower_walks.specs.PlainSite.{plain-Site}
use Rattle.rx_facts_tables.proofs.Each.{SoFar, each_more}
use Rattle.rx_facts_tables.specs.Wholes.{regains}
use Rattle.rx_exits.specs.declared.marks.MarkSite.{MarkSite}
use Rattle.rx_exits.specs.Facts.{SomeMarked, NoneMarked}
use Rattle.rx_exits.proofs.Among.{in_front, got, all_of, not_among}

-- ---- marks

pub none_yet : (ms : List MarkSite) (n : ℕ) (N : ℕ → Type 0) → NoneMarked (take 0 ms) n N
none_yet ms n N m h = not_among m h

pub none_more : (ms : List MarkSite) (k n : ℕ) (d : MarkSite) (N : ℕ → Type 0) → ((get_or ms k d).point ≡ n → N (get_or ms k d).site) → NoneMarked (take k ms) n N
    → NoneMarked (take (k + 1) ms) n N
none_more ms k n d N one before x among at = by (in_front x ms k d (subst (λ j. Among x (take j ms)) plus among))
  where
    plus : k + 1 ≡ suc k
    plus = omega arith

    by : (x ≡ get_or ms k d) ⊎ Among x (take k ms) → N x.site
    by (inl e) = subst (λ (y : MarkSite). N y.site) (sym e) (one (ap (λ (y : MarkSite). y.point) (sym e) ∙ at))
    by (inr h) = before x h at

pub some_here : (ms : List MarkSite) (k n : ℕ) (d : MarkSite) (Q : ℕ → Type 0) → k < length ms → (get_or ms k d).point ≡ n → Q (get_or ms k d).site → SomeMarked ms n Q
some_here ms k n d Q within at h = (get_or ms k d, got ms k d within, at, h)

pub none_at_all : (ms : List MarkSite) (k n : ℕ) (N : ℕ → Type 0) → length ms ≤ k → NoneMarked (take k ms) n N → NoneMarked ms n N
none_at_all ms k n N past h = subst (λ l. NoneMarked l n N) (all_of ms k past) h

-- a mark where a truth value says whether it is one of the point, and something holds there
pub found_here : (ms : List MarkSite) (k n : ℕ) (d : MarkSite) (Q : ℕ → Type 0) (r : Bool) → k < length ms → r ≡ true
    → MatchBool r ((get_or ms k d).point ≡ n × Q (get_or ms k d).site) ((get_or ms k d).point ≡ n → Q (get_or ms k d).site → ⊥) → SomeMarked ms n Q
found_here ms k n d Q true within e h = some_here ms k n d Q within h.0 h.1
found_here ms k n d Q false within e h = absurd (true≢false (sym e))

pub not_found_here : (ms : List MarkSite) (k n : ℕ) (d : MarkSite) (Q : ℕ → Type 0) (r : Bool) → r ≡ false
    → MatchBool r ((get_or ms k d).point ≡ n × Q (get_or ms k d).site) ((get_or ms k d).point ≡ n → Q (get_or ms k d).site → ⊥)
    → NoneMarked (take k ms) n (λ i. Q i → ⊥) → NoneMarked (take (k + 1) ms) n (λ i. Q i → ⊥)
not_found_here ms k n d Q true e h before = absurd (true≢false e)
not_found_here ms k n d Q false e h before = none_more ms k n d (λ i. Q i → ⊥) h before

-- the same, of the same marks and the same point
pub told_of : (r : Bool) (ms ns : List MarkSite) (n m : ℕ) (Q N : ℕ → Type 0) → ns ≡ ms → n ≡ m → MatchBool r (SomeMarked ns n Q) (NoneMarked ns n N)
    → MatchBool r (SomeMarked ms m Q) (NoneMarked ms m N)
told_of r ms ns n m Q N e q h =
    subst (λ k. MatchBool r (SomeMarked ms k Q) (NoneMarked ms k N)) q (subst (λ (l : List MarkSite). MatchBool r (SomeMarked l n Q) (NoneMarked l n N)) e h)

-- ---- sites

-- an action writes no variable as a whole whose number is not below this one
abbrev pub Below : ℕ → graph.Site → Type 0
Below least s = (x : ℕ) → least ≤ x → regains x [] s.action.act ≡ false

pub below_more : (sites : List Site) (k old new : ℕ) (s d : Site) → k < length sites → s ≡ get_or sites k d → old ≤ new → Below new (plain-Site s)
    → SoFar (λ i t. Below old t) sites k → SoFar (λ i t. Below new t) sites (k + 1)
below_more sites k old new s d within is le h before =
    each_more (λ i t. Below new t) sites k s d within is h (λ i t e less x y. before i t e less x (omega (arith, le, y)))
