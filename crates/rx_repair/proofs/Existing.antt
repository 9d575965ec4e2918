-- There are least sets. A point is in the set of a lifetime where a way along what is imposed comes to one that must have it by itself;
-- that one is the function's own, or stands in the type of one of finitely many variables and temporaries, so this is decided.
use Rattle.std.proofs.Common.{◌≡◌, ◌⊎◌, ◌↔◌, inl, inr, ℕ, zero, suc, ◌<◌, ◌-◌, Bool, true, false, ◌==◌, if◌then◌else◌, List, [], ◌∷◌, length, drop, take, get_or, Option, Some, None, slice_get, refl, sym, ap, subst, ◌∙◌, true≢false, arith, nat_lt}
use Rattle.std.proofs.lemmas.Bool.{eqb-true}
use Rattle.rx_graph_cycles.specs.Reaches.{IsIn}
use Rattle.rx_graph.proofs.Spreading.{both_of}
use Rattle.rx_typed.specs.Regions.{RegionTyp, lifetimes_in}
use Rattle.rx_typed.specs.Tree.{Root, variable, temporary, Temporary}
use Rattle.rx_typed.specs.Renaming.{unit_region}
use Rattle.rx_lower_walks.specs.Graph.{Site}
use Rattle.rx_lower_walks.specs.Text.{actions_of}
use Rattle.rx_facts_tables.specs.Live.{living, IsLive}
use Rattle.rx_lower_lifetimes.specs.Values.{same}
use Rattle.rx_region.specs.Constraints.{Context, root_type, temporary_type, variables_of, imposed}
use Rattle.rx_region.specs.Solutions.{Point, site, end, Sets, Least, whole, ends, live, longer, AreLeast}
use Rattle.rx_region.specs.Tables.{Follows, itself, by}
use Rattle.rx_repair.proofs.Asked.{least_along}
use Rattle.rx_repair.proofs.Deciding.{Decided, Below, any_below, Within, any_within, same_or, follows_or}
use Rattle.rx_repair.proofs.Living.{lies_ahead_or}

-- ---- what is decided

pub both_or : {A B : Type 0} → Decided A → Decided B → Decided (A × B)
both_or (inl a) (inl b) = inl (a, b)
both_or (inl a) (inr n) = inr (λ c. n c.1)
both_or (inr n) b = inr (λ c. n c.0)

pub less_or : (a b : ℕ) → Decided (a < b)
less_or a zero = inr (λ w. omega (arith, w))
less_or zero (suc b) = inl (omega arith)
less_or (suc a) (suc b) = elim (less_or a b) [ inl w ↦ inl (omega (arith, w)) | inr n ↦ inr (λ w. n (omega (arith, w))) ]

abbrev pub says : {A : Type 0} → Decided A → Bool
says (inl a) = true
says (inr n) = false

pub said : {A : Type 0} (d : Decided A) → (says d ≡ true) ↔ A
said (inl a) = (λ e. a, λ b. refl)
said (inr n) = (λ e. absurd (true≢false (sym e)), λ a. absurd (n a))

-- ---- variables and temporaries with lifetimes in their types

variable_within : (ts : List RegionTyp) (v x l : ℕ) → IsIn (lifetimes_in (get_or (take v ts) x unit_region)) l → x < v
variable_within ts zero x l h = absurd h
variable_within [] (suc v) x l h = absurd h
variable_within (t ∷ ts) (suc v) zero l h = omega arith
variable_within (t ∷ ts) (suc v) (suc x) l h = let w = variable_within ts v x l h in omega (arith, w)

made : ℕ → ℕ → Temporary
made n w = record { node = n; which = w }

same_is : (s t : Temporary) → same s t ≡ true → s ≡ t
unfolding made
same_is s t e = let b = both_of (s.node == t.node) (s.which == t.which) e in
    ap (λ n. made n s.which) (eqb-true s.node t.node b.0) ∙ ap (λ w. made t.node w) (eqb-true s.which t.which b.1)

record Placed (ss : List Temporary) (t : Temporary) : Type 0 where
  place : ℕ
  below : place < length ss
  stands : slice_get ss place ≡ Some t

temporary_within : (ss : List Temporary) (ys : List RegionTyp) (t : Temporary) (l : ℕ) → IsIn (lifetimes_in (temporary_type ss ys t)) l → Placed ss t
temporary_within [] ys t l h = absurd h
temporary_within (s ∷ ss) [] t l h = absurd h
temporary_within (s ∷ ss) (y ∷ ys) t l h = choose (same s t) refl (temporary_within ss ys t l) h where
  choose : (b : Bool) → same s t ≡ b → (IsIn (lifetimes_in (temporary_type ss ys t)) l → Placed ss t) → IsIn (lifetimes_in (if b then y else temporary_type ss ys t)) l → Placed (s ∷ ss) t
  choose true e rest h = record { place = 0; below = omega arith; stands = ap (λ x. Some x) (same_is s t e) }
  choose false e rest h = let p = rest h in let b = p.below in record { place = suc p.place; below = omega (arith, b); stands = p.stands }

some_same : (a b : Temporary) → ◌≡◌ {A = Option Temporary} (Some a) (Some b) → a ≡ b
some_same a b e = cc

none_some : (a : Temporary) → ◌≡◌ {A = Option Temporary} None (Some a) → ⊥
none_some a e = cc

-- ---- of a function

module _ (C : Context) (g : List Site) where
  abbrev Leads : ℕ → ℕ → Type 0
  Leads l m = Follows (imposed C (actions_of g)) l m

  leads_or : (l m : ℕ) → Decided (Leads l m)
  leads_or l m = follows_or (imposed C (actions_of g)) l m

  -- a variable or temporary that is live at a site, with a lifetime in its type that a way comes to
  abbrev Lived : ℕ → ℕ → Root → Type 0
  Lived l p r = IsLive g r p × Within (Leads l) (lifetimes_in (root_type C.lifetimes r))

  lived_or : (l p : ℕ) (r : Root) → Decided (Lived l p r)
  lived_or l p r = both_or (lies_ahead_or g (living r) p) (any_within (Leads l) (leads_or l) (lifetimes_in (root_type C.lifetimes r)))

  record TemporaryLived (l p j : ℕ) : Type 0 where
    which : Temporary
    stands : slice_get C.lifetimes.temporaries j ≡ Some which
    lived : Lived l p (temporary which)

  temporary_or : (l p j : ℕ) (o : Option Temporary) → slice_get C.lifetimes.temporaries j ≡ o → Decided (TemporaryLived l p j)
  temporary_or l p j None e = inr (λ t. none_some t.which (sym e ∙ t.stands))
  temporary_or l p j (Some t) e = elim (lived_or l p (temporary t)) [
    | inl h ↦ inl (record { which = t; stands = e; lived = h })
    | inr n ↦ inr (λ x. n (subst (λ (y : Temporary). Lived l p (temporary y)) (some_same x.which t (sym x.stands ∙ e)) x.lived))
  ]

  data Holds (l p : ℕ) : Type 0 where
    own_holds : p < length g → Below (Leads l) C.lifetimes.own → Holds l p
    variable_holds : Below (λ x. Lived l p (variable x)) (variables_of C.lifetimes) → Holds l p
    temporary_holds : Below (TemporaryLived l p) (length C.lifetimes.temporaries) → Holds l p

  holds_or : (l p : ℕ) → Decided (Holds l p)
  holds_or l p = choose (both_or (less_or p (length g)) (any_below (Leads l) (leads_or l) C.lifetimes.own))
      (any_below (λ x. Lived l p (variable x)) (λ x. lived_or l p (variable x)) (variables_of C.lifetimes))
      (any_below (TemporaryLived l p) (λ j. temporary_or l p j (slice_get C.lifetimes.temporaries j) refl) (length C.lifetimes.temporaries)) where
        none : (p < length g × Below (Leads l) C.lifetimes.own → ⊥) → (Below (λ x. Lived l p (variable x)) (variables_of C.lifetimes) → ⊥)
            → (Below (TemporaryLived l p) (length C.lifetimes.temporaries) → ⊥) → Holds l p → ⊥
        none a b c (own_holds w h) = a (w, h)
        none a b c (variable_holds h) = b h
        none a b c (temporary_holds h) = c h

        choose : Decided (p < length g × Below (Leads l) C.lifetimes.own) → Decided (Below (λ x. Lived l p (variable x)) (variables_of C.lifetimes))
            → Decided (Below (TemporaryLived l p) (length C.lifetimes.temporaries)) → Decided (Holds l p)
        choose (inl a) b c = inl (own_holds a.0 a.1)
        choose (inr a) (inl b) c = inl (variable_holds b)
        choose (inr a) (inr b) (inl c) = inl (temporary_holds c)
        choose (inr a) (inr b) (inr c) = inr (none a b c)

  -- ---- and nothing else is in the least sets

  along : (l k p : ℕ) → Follows (imposed C (actions_of g)) l k → Least C g k (site p) → Least C g l (site p)
  along l k p w h = least_along C g l k w (site p) h

  holds_least : (l p : ℕ) → Holds l p → Least C g l (site p)
  holds_least l p (own_holds w b) = along l b.number p b.holds (whole b.below w)
  holds_least l p (variable_holds b) = let m = b.holds.1 in along l m.number p m.holds (live (variable b.number) b.holds.0 m.among)
  holds_least l p (temporary_holds b) = let t = b.holds in let m = t.lived.1 in along l m.number p m.holds (live (temporary t.which) t.lived.0 m.among)

  lived_holds : (l p m : ℕ) → Leads l m → (r : Root) → IsLive g r p → IsIn (lifetimes_in (root_type C.lifetimes r)) m → Holds l p
  lived_holds l p m w (variable x) is there = variable_holds (record {
    number = x;
    below = variable_within C.lifetimes.types (variables_of C.lifetimes) x m there;
    holds = (is, record { number = m; among = there; holds = w });
  })
  lived_holds l p m w (temporary t) is there =
      let q = temporary_within C.lifetimes.temporaries (drop (variables_of C.lifetimes) C.lifetimes.types) t m there in
      temporary_holds (record { number = q.place; below = q.below; holds = record { which = t; stands = q.stands; lived = (is, record { number = m; among = there; holds = w }) } })

  more_leads : (l k : ℕ) → Leads l k → (m : ℕ) → Leads k m → Leads l m
  more_leads l k itself m v = v
  more_leads l k (by n pair rest) m v = by n pair (more_leads n k rest m v)

  abbrev HoldsPoint : ℕ → Point → Type 0
  HoldsPoint l (site p) = Holds l p
  HoldsPoint l (end k) = k < C.lifetimes.own × Leads l k

  least_holds : (l : ℕ) (x : Point) → Least C g l x → (m : ℕ) → Leads m l → HoldsPoint m x
  least_holds l _ (whole {p = p} own there) m w = own_holds there (record { number = l; below = own; holds = w })
  least_holds l _ (ends own) m w = (own, w)
  least_holds l _ (live {p = p} r is there) m w = lived_holds m p l w r is there
  least_holds l x (longer k pair h) m w = least_holds k x h m (more_leads m l w k (by k pair itself))

  point_or : (l : ℕ) (x : Point) → Decided (HoldsPoint l x)
  point_or l (site p) = holds_or l p
  point_or l (end k) = both_or (less_or k C.lifetimes.own) (leads_or l k)

  point_least : (l : ℕ) (x : Point) → HoldsPoint l x → Least C g l x
  point_least l (site p) h = holds_least l p h
  point_least l (end k) h = least_along C g l k h.1 (end k) (ends h.0)

  pub least_or : (l : ℕ) (x : Point) → Decided (Least C g l x)
  least_or l x = elim (point_or l x) [ inl h ↦ inl (point_least l x h) | inr n ↦ inr (λ h. n (least_holds l x h l itself)) ]

  pub least_sets : Sets
  least_sets l x = says (point_or l x)

  pub are_least : AreLeast C g least_sets
  unfolding least_sets
  are_least l x = (λ h. point_least l x ((said (point_or l x)).0 h), λ h. (said (point_or l x)).1 (least_holds l x h l itself))
