-- Sites are seen, one after the other, and a way goes on from each.
use Rattle.std.proofs.Common.{◌≡◌, ◌⊎◌, inl, inr, ◌↔◌, ℕ, zero, suc, ◌+◌, ◌*◌, ◌<◌, ◌≤◌, Bool, true, false, ◌||◌, ◌==◌, if◌then◌else◌, List, [], ◌∷◌, ◌++◌, length, get_or, drop, refl, ap, sym, ◌∙◌, subst, arith, true≢false}
use Rattle.std.proofs.lemmas.Bool.{cases_eq, eq-eqb, eqb-true}
use Rattle.std.proofs.lemmas.List.{drop_more, length-append}
use Rattle.rx_graph_bits.specs.Rows.{holds, words, Inserted}
use Rattle.rx_graph.specs.Facts.{has, targets}
use Rattle.rx_graph.proofs.Spreading.{one_of, different, or_true}
use Rattle.rx_graph_reach.specs.Reached.{Reached, next, further}
use Rattle.rx_graph_reach.specs.Walking.{unseen, Added, Stands, onward}

-- ---- lists

pub has_append : (xs ys : List ℕ) (p : ℕ) → has (xs ++ ys) p ≡ (has xs p || has ys p)
has_append [] ys p = refl
has_append (x ∷ xs) ys p = ap (λ b. p == x || b) (has_append xs ys p) ∙ sym (assoc (p == x) (has xs p) (has ys p)) where
  assoc : (a b c : Bool) → ((a || b) || c) ≡ (a || (b || c))
  assoc true b c = refl
  assoc false b c = refl

or_false : (a : Bool) → (a || false) ≡ a
or_false true = refl
or_false false = refl

pub has_one : (x p : ℕ) → has (x ∷ []) p ≡ true → p ≡ x
has_one x p h = eqb-true p x (sym (or_false (p == x)) ∙ h)

pub has_itself : (x : ℕ) → has (x ∷ []) x ≡ true
has_itself x = ap (λ b. b || false) (eq-eqb x x refl)

in_front : (xs ys : List ℕ) (p : ℕ) → has xs p ≡ true → has (xs ++ ys) p ≡ true
in_front xs ys p h = has_append xs ys p ∙ ap (λ b. b || has ys p) h

behind : (xs ys : List ℕ) (p : ℕ) → has ys p ≡ true → has (xs ++ ys) p ≡ true
behind xs ys p h = has_append xs ys p ∙ ap (λ b. has xs p || b) h ∙ or_true (has xs p)

pub either : (xs ys : List ℕ) (p : ℕ) → has (xs ++ ys) p ≡ true → (has xs p ≡ true) ⊎ (has ys p ≡ true)
either xs ys p h = one_of (has xs p) (has ys p) (sym (has_append xs ys p) ∙ h)

-- a site that leads somewhere is there
pub leads_within : (edges : List (List ℕ)) (q p : ℕ) → has (targets edges q) p ≡ true → q < length edges
leads_within [] q p h = absurd (true≢false (sym h))
leads_within (e ∷ edges) zero p h = omega arith
leads_within (e ∷ edges) (suc q) p h = let r = leads_within edges q p h in omega (arith, r)

-- ---- numbers that are not seen

same_unseen : (n : ℕ) (r s : List ℕ) → ((i : ℕ) → i < n → holds s i ≡ holds r i) → unseen n s ≡ unseen n r
same_unseen zero r s h = refl
same_unseen (suc n) r s h = ap (λ b. (if b then 0 else 1) + unseen n s) (h n (omega arith))
    ∙ ap (λ k. (if holds r n then 0 else 1) + k) (same_unseen n r s (λ i w. h i (omega (arith, w))))

one_less : (a b c d : ℕ) → a ≡ 0 → b ≡ d → c ≡ 1 → suc (a + b) ≡ c + d
one_less a b c d f g h = omega (arith, f, g, h)

same_more : (a b c d : ℕ) → a ≡ c → suc b ≡ d → suc (a + b) ≡ c + d
same_more a b c d f g = omega (arith, f, g)

fewer_last : (n : ℕ) (r s : List ℕ) (x : ℕ) → x < suc n → holds r x ≡ false → ((i : ℕ) → i < suc n → holds s i ≡ (i == x || holds r i))
    → (x < n → suc (unseen n s) ≡ unseen n r) → (n ≡ x) ⊎ (n ≡ x → ⊥) → suc (unseen (suc n) s) ≡ unseen (suc n) r
fewer_last n r s x within none h rest (inl e) = one_less (if holds s n then 0 else 1) (unseen n s) (if holds r n then 0 else 1) (unseen n r)
    (ap (λ b. if b then 0 else 1) (h n (omega arith) ∙ ap (λ b. b || holds r n) (eq-eqb n x e)))
    (same_unseen n r s (λ i w. h i (omega (arith, w)) ∙ ap (λ b. b || holds r i) (different i x (λ f. omega (arith, f, e, w)))))
    (ap (λ b. if b then 0 else 1) (ap (λ k. holds r k) e ∙ none))
fewer_last n r s x within none h rest (inr e) = same_more (if holds s n then 0 else 1) (unseen n s) (if holds r n then 0 else 1) (unseen n r)
    (ap (λ b. if b then 0 else 1) (h n (omega arith) ∙ ap (λ b. b || holds r n) (different n x e))) (rest (less n x within e)) where
      less : (n x : ℕ) → x < suc n → (n ≡ x → ⊥) → x < n
      less n x w f = omega (arith, w, f)

fewer_unseen : (n : ℕ) (r s : List ℕ) (x : ℕ) → x < n → holds r x ≡ false → ((i : ℕ) → i < n → holds s i ≡ (i == x || holds r i))
    → suc (unseen n s) ≡ unseen n r
fewer_unseen zero r s x within none h = absurd (omega (arith, within))
fewer_unseen (suc n) r s x within none h = fewer_last n r s x within none h (λ w. fewer_unseen n r s x w none (λ i v. h i (omega (arith, v)))) (cases_eq n x)

-- ---- sites that are seen

pub none_added : (n : ℕ) (inside : ℕ → Bool) (seen ahead : List ℕ) → Added n inside [] seen ahead seen ahead
none_added n inside seen ahead = record {
  width = refl;
  keeps = λ p w h. h;
  kept = λ p h. h;
  only = λ p w h. inl h;
  opens = λ p h. inl h;
  all = λ p w h. absurd (true≢false (sym h));
  left = refl;
}

-- one that is past the end, outside, or seen
pub nothing_added : (n : ℕ) (inside : ℕ → Bool) (x : ℕ) (seen ahead : List ℕ) → (x < n → inside x ≡ true → holds seen x ≡ true)
    → Added n inside (x ∷ []) seen ahead seen ahead
nothing_added n inside x seen ahead why = record {
  width = refl;
  keeps = λ p w h. h;
  kept = λ p h. h;
  only = λ p w h. inl h;
  opens = λ p h. inl h;
  all = λ p w h i. let e = has_one x p h in subst (λ k. holds seen k ≡ true) (sym e) (why (subst (λ k. k < n) e w) (subst (λ k. inside k ≡ true) e i));
  left = refl;
}

pub one_added : (n : ℕ) (inside : ℕ → Bool) (x : ℕ) (seen ahead seen' : List ℕ) → n ≤ 64 * length seen → x < n → inside x ≡ true → holds seen x ≡ false
    → Inserted seen seen' x → Added n inside (x ∷ []) seen ahead seen' (ahead ++ x ∷ [])
one_added n inside x seen ahead seen' wide within i none put = record {
  width = put.width;
  keeps = λ p w h. at p w ∙ ap (λ b. p == x || b) h ∙ or_true (p == x);
  kept = λ p h. in_front ahead (x ∷ []) p h;
  only = λ p w h. new p (one_of (p == x) (holds seen p) (sym (at p w) ∙ h));
  opens = λ p h. opened p (either ahead (x ∷ []) p h);
  all = λ p w h k. subst (λ k. holds seen' k ≡ true) (sym (has_one x p h)) there;
  left = ap (λ k. k + unseen n seen') (length-append ahead (x ∷ [])) ∙ moved (length ahead) (fewer_unseen n seen seen' x within none at);
} where
  at : (p : ℕ) → p < n → holds seen' p ≡ (p == x || holds seen p)
  at p w = put.holds p (omega (arith, w, wide))

  there : holds seen' x ≡ true
  there = at x within ∙ ap (λ b. b || holds seen x) (eq-eqb x x refl)

  new : (p : ℕ) → (p == x ≡ true) ⊎ (holds seen p ≡ true)
      → (holds seen p ≡ true) ⊎ ((has (x ∷ []) p ≡ true) × (inside p ≡ true) × (has (ahead ++ x ∷ []) p ≡ true))
  new p (inl e) = let f = eqb-true p x e in
      inr (
        subst (λ k. has (x ∷ []) k ≡ true) (sym f) (has_itself x),
        subst (λ k. inside k ≡ true) (sym f) i,
        subst (λ k. has (ahead ++ x ∷ []) k ≡ true) (sym f) (behind ahead (x ∷ []) x (has_itself x)),
      )
  new p (inr h) = inl h

  opened : (p : ℕ) → (has ahead p ≡ true) ⊎ (has (x ∷ []) p ≡ true) → (has ahead p ≡ true) ⊎ ((p < n) × (holds seen' p ≡ true))
  opened p (inl h) = inl h
  opened p (inr h) = let f = has_one x p h in inr (subst (λ k. k < n) (sym f) within, subst (λ k. holds seen' k ≡ true) (sym f) there)

  moved : (k : ℕ) → suc (unseen n seen') ≡ unseen n seen → k + 1 + unseen n seen' ≡ k + unseen n seen
  moved k f = omega (arith, f)

-- one after the other
pub added_both : (n : ℕ) (inside : ℕ → Bool) (x : ℕ) (xs r a s b t c : List ℕ) → Added n inside (x ∷ []) r a s b → Added n inside xs s b t c
    → Added n inside (x ∷ xs) r a t c
added_both n inside x xs r a s b t c one more = record {
  width = more.width ∙ one.width;
  keeps = λ p w h. more.keeps p w (one.keeps p w h);
  kept = λ p h. more.kept p (one.kept p h);
  only = λ p w h. new p w (more.only p w h);
  opens = λ p h. opened p (more.opens p h);
  all = λ p w h i. each p w i (one_of (p == x) (has xs p) h);
  left = more.left ∙ one.left;
} where
  first : (p : ℕ) → p < n → (holds r p ≡ true) ⊎ ((has (x ∷ []) p ≡ true) × (inside p ≡ true) × (has b p ≡ true))
      → (holds r p ≡ true) ⊎ ((has (x ∷ xs) p ≡ true) × (inside p ≡ true) × (has c p ≡ true))
  first p w (inl h) = inl h
  first p w (inr h) = inr (ap (λ k. k || has xs p) (sym (or_false (p == x)) ∙ h.0), h.1, more.kept p h.2)

  new : (p : ℕ) → p < n → (holds s p ≡ true) ⊎ ((has xs p ≡ true) × (inside p ≡ true) × (has c p ≡ true))
      → (holds r p ≡ true) ⊎ ((has (x ∷ xs) p ≡ true) × (inside p ≡ true) × (has c p ≡ true))
  new p w (inl h) = first p w (one.only p w h)
  new p w (inr h) = inr (ap (λ k. p == x || k) h.0 ∙ or_true (p == x), h.1, h.2)

  earlier : (p : ℕ) → (has a p ≡ true) ⊎ ((p < n) × (holds s p ≡ true)) → (has a p ≡ true) ⊎ ((p < n) × (holds t p ≡ true))
  earlier p (inl h) = inl h
  earlier p (inr h) = inr (h.0, more.keeps p h.0 h.1)

  opened : (p : ℕ) → (has b p ≡ true) ⊎ ((p < n) × (holds t p ≡ true)) → (has a p ≡ true) ⊎ ((p < n) × (holds t p ≡ true))
  opened p (inl h) = earlier p (one.opens p h)
  opened p (inr h) = inr h

  each : (p : ℕ) → p < n → inside p ≡ true → (p == x ≡ true) ⊎ (has xs p ≡ true) → holds t p ≡ true
  each p w i (inl e) = more.keeps p w (one.all p w (ap (λ k. k || false) e) i)
  each p w i (inr h) = more.all p w h i

-- what is left to see
abbrev pub Adding : ℕ → (ℕ → Bool) → List ℕ → ℕ → List ℕ → List ℕ → List ℕ → List ℕ → Type 0
Adding n inside xs k r a s b = (t c : List ℕ) → Added n inside (drop k xs) s b t c → Added n inside xs r a t c

pub adding_more : (n : ℕ) (inside : ℕ → Bool) (xs : List ℕ) (k : ℕ) (r a s b s' b' : List ℕ) → k < length xs
    → Added n inside (get_or xs k 0 ∷ []) s b s' b' → Adding n inside xs k r a s b → Adding n inside xs (k + 1) r a s' b'
adding_more n inside xs k r a s b s' b' w one before t c more =
    before t c (subst (λ l. Added n inside l s b t c) (sym (drop_more xs k 0 w)) (added_both n inside (get_or xs k 0) (drop (k + 1) xs) s b s' b' t c one more))

none_left : (xs : List ℕ) (k : ℕ) → length xs ≤ k → drop k xs ≡ []
none_left [] zero h = refl
none_left [] (suc k) h = refl
none_left (x ∷ xs) zero h = absurd (omega (arith, h))
none_left (x ∷ xs) (suc k) h = none_left xs k (omega (arith, h))

pub adding_done : (n : ℕ) (inside : ℕ → Bool) (xs : List ℕ) (k : ℕ) (r a s b : List ℕ) → length xs ≤ k → Adding n inside xs k r a s b → Added n inside xs r a s b
adding_done n inside xs k r a s b h before = before s b (subst (λ l. Added n inside l s b s b) (sym (none_left xs k h)) (none_added n inside s b))

-- ---- the search

pub begins : (edges : List (List ℕ)) (inside stops : ℕ → Bool) (first : ℕ) (seen seen' ahead' : List ℕ) → length edges ≤ 64 * length seen
    → ((i : ℕ) → holds seen i ≡ false) → Added (length edges) inside (targets edges first) seen [] seen' ahead' → Stands edges inside stops first seen' ahead'
begins edges inside stops first seen seen' ahead' wide none added = record {
  wide = subst (λ k. length edges ≤ 64 * k) (sym added.width) wide;
  sound = λ p w h. reach p w (added.only p w h);
  opened = λ p h. ahead p (added.opens p h);
  begun = added.all;
  closed = λ q w h. inl (fresh q (added.only q w h));
} where
  reach : (p : ℕ) → p < length edges → (holds seen p ≡ true) ⊎ ((has (targets edges first) p ≡ true) × (inside p ≡ true) × (has ahead' p ≡ true)) → Reached edges inside stops first p
  reach p w (inl h) = absurd (true≢false (sym h ∙ none p))
  reach p w (inr h) = next h.0 h.1

  ahead : (p : ℕ) → (has [] p ≡ true) ⊎ ((p < length edges) × (holds seen' p ≡ true)) → (p < length edges) × (holds seen' p ≡ true)
  ahead p (inl h) = absurd (true≢false (sym h))
  ahead p (inr h) = h

  fresh : (q : ℕ) → (holds seen q ≡ true) ⊎ ((has (targets edges first) q ≡ true) × (inside q ≡ true) × (has ahead' q ≡ true)) → has ahead' q ≡ true
  fresh q (inl h) = absurd (true≢false (sym h ∙ none q))
  fresh q (inr h) = h.2

onward_goes : (edges : List (List ℕ)) (stops : ℕ → Bool) (q p : ℕ) → has (onward edges stops q) p ≡ true → (stops q ≡ false) × (has (targets edges q) p ≡ true)
onward_goes edges stops q p h = go (stops q) refl h where
  go : (b : Bool) → stops q ≡ b → has (if b then [] else targets edges q) p ≡ true → (stops q ≡ false) × (has (targets edges q) p ≡ true)
  go true e h = absurd (true≢false (sym h))
  go false e h = (e, h)

goes_onward : (edges : List (List ℕ)) (stops : ℕ → Bool) (q p : ℕ) → stops q ≡ false → has (targets edges q) p ≡ true → has (onward edges stops q) p ≡ true
goes_onward edges stops q p e h = ap (λ b. has (if b then [] else targets edges q) p) e ∙ h

pub goes_on : (edges : List (List ℕ)) (inside stops : ℕ → Bool) (first x : ℕ) (seen ahead left seen' ahead' : List ℕ) → ahead ≡ left ++ x ∷ []
    → Added (length edges) inside (onward edges stops x) seen left seen' ahead' → Stands edges inside stops first seen ahead → Stands edges inside stops first seen' ahead'
goes_on edges inside stops first x seen ahead left seen' ahead' e added before = record {
  wide = subst (λ k. length edges ≤ 64 * k) (sym added.width) before.wide;
  sound = λ p w h. reach p w (added.only p w h);
  opened = λ p h. opening p (added.opens p h);
  begun = λ p w h i. added.keeps p w (before.begun p w h i);
  closed = λ q w h. closing q w (added.only q w h);
} where
  last : (p : ℕ) → has left p ≡ true → has ahead p ≡ true
  last p h = subst (λ l. has l p ≡ true) (sym e) (in_front left (x ∷ []) p h)

  popped : (x < length edges) × (holds seen x ≡ true)
  popped = before.opened x (subst (λ l. has l x ≡ true) (sym e) (behind left (x ∷ []) x (has_itself x)))

  reach : (p : ℕ) → p < length edges → (holds seen p ≡ true) ⊎ ((has (onward edges stops x) p ≡ true) × (inside p ≡ true) × (has ahead' p ≡ true)) → Reached edges inside stops first p
  reach p w (inl h) = before.sound p w h
  reach p w (inr h) = let o = onward_goes edges stops x p h.0 in further x (before.sound x popped.0 popped.1) o.0 o.1 h.1

  opening : (p : ℕ) → (has left p ≡ true) ⊎ ((p < length edges) × (holds seen' p ≡ true)) → (p < length edges) × (holds seen' p ≡ true)
  opening p (inl h) = let o = before.opened p (last p h) in (o.0, added.keeps p o.0 o.1)
  opening p (inr h) = h

  Closed : ℕ → Type 0
  Closed q = (has ahead' q ≡ true)
      ⊎ (stops q ≡ false → (p : ℕ) → p < length edges → has (targets edges q) p ≡ true → inside p ≡ true → holds seen' p ≡ true)

  still : (q : ℕ) → (has left q ≡ true) ⊎ (has (x ∷ []) q ≡ true) → Closed q
  still q (inl h) = inl (added.kept q h)
  still q (inr h) = inr (λ s p w t i. added.all p w (goes_onward edges stops x p (subst (λ k. stops k ≡ false) (has_one x q h) s) (subst (λ k. has (targets edges k) p ≡ true) (has_one x q h) t)) i)

  older : (q : ℕ) → (has ahead q ≡ true) ⊎ (stops q ≡ false → (p : ℕ) → p < length edges → has (targets edges q) p ≡ true → inside p ≡ true → holds seen p ≡ true) → Closed q
  older q (inl h) = still q (either left (x ∷ []) q (subst (λ l. has l q ≡ true) e h))
  older q (inr h) = inr (λ s p w t i. added.keeps p w (h s p w t i))

  closing : (q : ℕ) → q < length edges → (holds seen q ≡ true) ⊎ ((has (onward edges stops x) q ≡ true) × (inside q ≡ true) × (has ahead' q ≡ true)) → Closed q
  closing q w (inl h) = older q (before.closed q w h)
  closing q w (inr h) = inl h.2

pub ends : (edges : List (List ℕ)) (inside stops : ℕ → Bool) (first : ℕ) (seen : List ℕ) → Stands edges inside stops first seen []
    → (p : ℕ) → p < length edges → (holds seen p ≡ true) ↔ Reached edges inside stops first p
ends edges inside stops first seen h p w = (h.sound p w, λ r. complete p w r) where
  closed : (q p : ℕ) → (has [] q ≡ true) ⊎ (stops q ≡ false → (p : ℕ) → p < length edges → has (targets edges q) p ≡ true → inside p ≡ true → holds seen p ≡ true)
      → stops q ≡ false → p < length edges → has (targets edges q) p ≡ true → inside p ≡ true → holds seen p ≡ true
  closed q p (inl n) s w t i = absurd (true≢false (sym n))
  closed q p (inr f) s w t i = f s p w t i

  complete : (p : ℕ) → p < length edges → Reached edges inside stops first p → holds seen p ≡ true
  complete p w (next t i) = h.begun p w t i
  complete p w (further q r s t i) = let inside_q = leads_within edges q p t in closed q p (h.closed q inside_q (complete q inside_q r)) s w t i

pub wide_enough : (n : ℕ) (row : List ℕ) → length row ≡ words n → n ≤ 64 * length row
wide_enough n row e = subst (λ k. n ≤ 64 * k) (sym e) (bound n) where
  bound : (n : ℕ) → n ≤ 64 * words n
  bound n = omega arith

pub after_push : (n : ℕ) (inside : ℕ → Bool) (x : ℕ) (seen ahead ahead' seen' : List ℕ) → ahead' ≡ ahead ++ x ∷ []
    → Added n inside (x ∷ []) seen ahead seen' (ahead ++ x ∷ []) → Added n inside (x ∷ []) seen ahead seen' ahead'
after_push n inside x seen ahead ahead' seen' e h = subst (λ l. Added n inside (x ∷ []) seen ahead seen' l) (sym e) h
