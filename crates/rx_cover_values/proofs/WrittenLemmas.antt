-- What is written of nodes, one after the other, is the text of their value.
use Rattle.std.proofs.Common.{◌≡◌, ℕ, zero, suc, ◌+◌, ◌-◌, ◌<◌, ◌≤◌, pos, negsuc, true, false, List, [], ◌∷◌, ◌++◌, length, drop, get_or, slice_get, refl, sym, ap, ◌∙◌, subst, arith, append_assoc, append-nil}
use Rattle.std.proofs.Common.{drop-cons, add-one}
use Rattle.std.specs.Prelude.{codes}
use Rattle.rx_tree.specs.Plain.{ProgramTree}
use Rattle.rx_cover.specs.declared.node.Node.{Node}
use Rattle.rx_cover.specs.Values as plain
use Rattle.rx_cover.specs.Values.{Value, Values, no_value, value_and}
use Rattle.rx_cover.specs.PlainValue.{count, nodes, nodes_of, first, behind}
use Rattle.rx_cover.proofs.NodeLemmas.{joined, first_joined, behind_joined}
use Rattle.rx_cover_values.specs.declared.writing.Open.{Open}
use Rattle.rx_cover_values.specs.Shown.{name_of, fields_of, variants_of, variant_name, field_name, comma, shown, shown_parts, shown_fields, end_of_tuple}
use Rattle.rx_cover_values.specs.Written.{parts_of, end_by, opening, preface, closing, middle, left, wanted, due}

-- ---- a value is a node and parts

abbrev node : Value → Node
node (plain.number (pos n)) = Node.Int false n
node (plain.number (negsuc n)) = Node.Int true (suc n)
node (plain.truth b) = Node.Bool b
node (plain.tuple vs) = Node.Tuple (count vs)
node (plain.made i vs) = Node.Made i (count vs)
node (plain.variant i k vs) = Node.Variant i k (count vs)
node (plain.pointing v) = Node.Reference

abbrev parts : Value → Values
parts (plain.number i) = no_value
parts (plain.truth b) = no_value
parts (plain.tuple vs) = vs
parts (plain.made i vs) = vs
parts (plain.variant i k vs) = vs
parts (plain.pointing v) = value_and v no_value

split : (v : Value) → nodes v ≡ node v ∷ nodes_of (parts v)
split (plain.number (pos n)) = refl
split (plain.number (negsuc n)) = refl
split (plain.truth b) = refl
split (plain.tuple vs) = refl
split (plain.made i vs) = refl
split (plain.variant i k vs) = refl
split (plain.pointing v) = ap (λ l. Node.Reference ∷ l) (sym (append-nil (nodes v)))

counted : (v : Value) → parts_of (node v) ≡ count (parts v)
counted (plain.number (pos n)) = refl
counted (plain.number (negsuc n)) = refl
counted (plain.truth b) = refl
counted (plain.tuple vs) = refl
counted (plain.made i vs) = refl
counted (plain.variant i k vs) = refl
counted (plain.pointing v) = refl

-- ---- texts

tuple_end : (vs : Values) → end_of_tuple vs ≡ end_by (count vs)
tuple_end no_value = refl
tuple_end (value_and v no_value) = refl
tuple_end (value_and v (value_and w vs)) = refl

two : (a b c : List ℕ) → (a ++ b) ++ c ≡ a ++ (b ++ c)
two a b c = append_assoc a b c

module _ (p : ProgramTree) where
  written : (v : Value) → shown p v ≡ opening p (node v) ++ (middle p (node v) 0 (parts v) ++ closing (node v))
  written (plain.number (pos n)) = sym (append-nil _)
  written (plain.number (negsuc n)) = sym (append-nil _)
  written (plain.truth b) = sym (append-nil _)
  written (plain.tuple vs) = ap (λ l. codes "(" ++ (shown_parts p 0 vs ++ l)) (tuple_end vs)
  written (plain.made i no_value) = sym (append-nil _)
  written (plain.made i (value_and v vs)) =
      let m = shown_fields p (fields_of (slice_get p i)) 0 (value_and v vs) ++ codes " }" in
      sym (two (name_of (slice_get p i)) (codes " { ") m)
  written (plain.variant i k no_value) = sym (append-nil _)
  written (plain.variant i k (value_and v vs)) =
      let m = shown_parts p 0 (value_and v vs) ++ codes ")" in
      let name = name_of (slice_get p i) in
      let own = variant_name (slice_get (variants_of (slice_get p i)) k) in
      ap (λ l. name ++ (codes "::" ++ l)) (sym (two own (codes "(") m))
      ∙ ap (λ l. name ++ l) (sym (two (codes "::") (own ++ codes "(") m))
      ∙ sym (two name (codes "::" ++ (own ++ codes "(")) m)
  written (plain.pointing v) = ap (λ l. codes "&" ++ l) (sym (append-nil (shown p v ++ []) ∙ append-nil (shown p v)))

  -- a part more of an opened node
  middle_next : (n : Node) (d m : ℕ) (v : Value) (vs : Values) → parts_of n - d ≡ suc m → middle p n d (value_and v vs) ≡ preface p n d ++ (shown p v ++ middle p n (suc d) vs)
  middle_next (Node.Tuple k) d m v vs e = refl
  middle_next (Node.Variant i j k) d m v vs e = refl
  middle_next (Node.Made i k) d m v vs e =
      let name = field_name (slice_get (fields_of (slice_get p i)) d) in
      let rest = shown p v ++ shown_fields p (fields_of (slice_get p i)) (suc d) vs in
      ap (λ l. comma d ++ l) (sym (two name (codes ": ") rest)) ∙ sym (two (comma d) (name ++ codes ": ") rest)
  middle_next Node.Reference d m v vs e = refl
  middle_next (Node.Int g k) d m v vs e = absurd (omega (arith, e))
  middle_next (Node.Bool b) d m v vs e = absurd (omega (arith, e))

  middle_end : (n : Node) (d : ℕ) → middle p n d no_value ≡ []
  middle_end (Node.Tuple k) d = refl
  middle_end (Node.Variant i j k) d = refl
  middle_end (Node.Made i k) d = refl
  middle_end Node.Reference d = refl
  middle_end (Node.Int g k) d = refl
  middle_end (Node.Bool b) d = refl

  due_push : (rest : Values → List ℕ) (os : List Open) (o : Open) (vs : Values) → due p rest (os ++ o ∷ []) vs ≡ (middle p o.node o.done (first (left o) vs) ++ closing o.node) ++ due p rest os (behind (left o) vs)
  due_push rest [] o vs = refl
  due_push rest (x ∷ os) o vs = due_push (λ ws. (middle p x.node x.done (first (left x) ws) ++ closing x.node) ++ rest (behind (left x) ws)) os o vs

wanted_push : (n : ℕ) (os : List Open) (o : Open) → wanted n (os ++ o ∷ []) ≡ left o + wanted n os
wanted_push n [] o = refl
wanted_push n (x ∷ os) o = wanted_push (left x + n) os o

rearranged : (T A O M R C B : List ℕ) → T ++ (((A ++ ((O ++ M) ++ R)) ++ C) ++ B) ≡ ((T ++ A) ++ O) ++ (M ++ ((R ++ C) ++ B))
rearranged T A O M R C B =
    ap (λ l. T ++ l) (append_assoc (A ++ ((O ++ M) ++ R)) C B ∙ append_assoc A ((O ++ M) ++ R) (C ++ B)
    ∙ ap (λ l. A ++ l) (append_assoc (O ++ M) R (C ++ B) ∙ append_assoc O M (R ++ (C ++ B))))
    ∙ sym (append_assoc (T ++ A) O (M ++ ((R ++ C) ++ B)) ∙ append_assoc T A (O ++ (M ++ ((R ++ C) ++ B))) ∙ ap (λ l. T ++ (A ++ (O ++ (M ++ l)))) (append_assoc R C B))

nodes_joined : (us vs : Values) → nodes_of us ++ nodes_of vs ≡ nodes_of (joined us vs)
nodes_joined no_value vs = refl
nodes_joined (value_and u us) vs = append_assoc (nodes u) (nodes_of us) (nodes_of vs) ∙ ap (λ l. nodes u ++ l) (nodes_joined us vs)

count_joined : (us vs : Values) → count (joined us vs) ≡ count us + count vs
count_joined no_value vs = omega arith
count_joined (value_and u us) vs = let h = count_joined us vs in omega (arith, h)

past : (l : List Node) (i : ℕ) → length l ≤ i → drop i l ≡ []
past [] zero h = refl
past [] (suc i) h = refl
past (x ∷ l) zero h = absurd (omega (arith, h))
past (x ∷ l) (suc i) h = past l i (omega (arith, h))

-- ---- what is written and what is due make the whole

pub record Makes (p : ProgramTree) (all : List Node) (start : List ℕ) (v : Value) (opened : List Open) (at : ℕ) (text : List ℕ) : Type 0 where
  pub values : Values
  pub nodes_are : drop at all ≡ nodes_of values
  pub enough : count values ≡ wanted 0 opened
  pub makes : text ++ due p (λ vs. []) opened values ≡ start ++ shown p v

-- whatever value has these nodes
pub record Goes (p : ProgramTree) (all : List Node) (start : List ℕ) (opened : List Open) (at : ℕ) (text : List ℕ) : Type 0 where
  pub each : (v : Value) → all ≡ nodes v → Makes p all start v opened at text

abbrev root : Open
root = record { node = Node.Reference; done = 0 }

pub goes_first : (p : ProgramTree) (all : List Node) (start : List ℕ) (opened empty : List Open) → empty ≡ [] → opened ≡ empty ++ record { node = Node.Reference; done = 0 } ∷ [] → Goes p all start opened 0 start
goes_first p all start opened empty e f = record {
  each = λ v is. let one : left root ≡ 1 = omega arith in subst (λ l. Makes p all start v l 0 start) (sym (f ∙ ap (λ l. l ++ root ∷ []) e)) (record {
    values = value_and v no_value;
    nodes_are = is ∙ sym (append-nil (nodes v));
    enough = omega arith;
    makes = ap (λ l. start ++ l) (ap (λ n. (middle p Node.Reference 0 (first n (value_and v no_value)) ++ []) ++ []) one
        ∙ append-nil ((shown p v ++ []) ++ []) ∙ append-nil (shown p v ++ []) ∙ append-nil (shown p v));
  });
}

module _ (p : ProgramTree) (all : List Node) (start : List ℕ) (at : ℕ) (text : List ℕ) where
  pub goes_last : (opened : List Open) → Goes p all start opened at text → opened ≡ [] → (v : Value) → all ≡ nodes v → text ≡ start ++ shown p v
  goes_last opened g e v is = by (subst (λ l. Makes p all start v l at text) e (g.each v is))
    where
      by : Makes p all start v [] at text → text ≡ start ++ shown p v
      by m = sym (append-nil text) ∙ m.makes

module _ (p : ProgramTree) (all : List Node) (start : List ℕ) (opened old : List Open) (top : Open) (at : ℕ) (text : List ℕ) (here : opened ≡ old ++ top ∷ []) (goes : Goes p all start opened at text) where
  -- an open node has all its parts
  pub goes_back : (more : List ℕ) → parts_of top.node ≤ top.done → more ≡ text ++ closing top.node → Goes p all start old at more
  goes_back more full e = record { each = λ v is. by v (goes.each v is) }
    where
      none : left top ≡ 0
      none = omega (arith, full)

      by : (v : Value) → Makes p all start v opened at text → Makes p all start v old at more
      by v m = record {
        values = m.values;
        nodes_are = m.nodes_are;
        enough = let a = m.enough in let b = ap (λ l. wanted 0 l) here in let d = wanted_push 0 old top in let z = none in omega (arith, a, b, d, z);
        makes =
            ap (λ l. l ++ due p (λ vs. []) old m.values) e ∙ append_assoc text (closing top.node) (due p (λ vs. []) old m.values)
            ∙ ap (λ l. text ++ l) (sym (ap (λ l. due p (λ vs. []) l m.values) here ∙ due_push p (λ vs. []) old top m.values
            ∙ ap (λ n. (middle p top.node top.done (first n m.values) ++ closing top.node) ++ due p (λ vs. []) old (behind n m.values)) none
            ∙ ap (λ l. (l ++ closing top.node) ++ due p (λ vs. []) old m.values) (middle_end p top.node top.done)))
            ∙ m.makes;
      }

  fewer : top.done < parts_of top.node → (m : ℕ) × (left top ≡ suc m)
  fewer l = (parts_of top.node - suc top.done, omega (arith, l))

  enough_left : (m : ℕ) → left top ≡ suc m → (v : Value) (q : Makes p all start v opened at text) → count q.values ≡ suc m + wanted 0 old
  enough_left m e v q = q.enough ∙ ap (λ l. wanted 0 l) here ∙ wanted_push 0 old top ∙ ap (λ n. n + wanted 0 old) e

  no_nodes : (m : ℕ) (vs : Values) → [] ≡ nodes_of vs → count vs ≡ suc m + wanted 0 old → ⊥
  no_nodes m no_value e n = omega (arith, n)
  no_nodes m (value_and v vs) e n = let q : [] ≡ node v ∷ (nodes_of (parts v) ++ nodes_of vs) = e ∙ ap (λ l. l ++ nodes_of vs) (split v) in let z = ap length q in omega (arith, z)

  -- nodes are left as long as parts are
  pub goes_nowhere : (new : List Open) (now : ℕ) (more : List ℕ) → top.done < parts_of top.node → length all ≤ at → Goes p all start new now more
  goes_nowhere new now more l out = record { each = λ v is. absurd (by v (goes.each v is)) }
    where
      by : (v : Value) → Makes p all start v opened at text → ⊥
      by v m = let f = fewer l in no_nodes f.0 m.values (sym (past all at out) ∙ m.nodes_are) (enough_left f.0 f.1 v m)

  abbrev outer : Open
  outer = record { node = top.node; done = top.done + 1 }

  abbrev inner : Value → Open
  inner w = record { node = node w; done = 0 }

  due_two : (m : ℕ) → left top ≡ suc m → (w : Value) (vs : Values)
      → due p (λ us. []) ((old ++ outer ∷ []) ++ inner w ∷ []) (joined (parts w) vs)
      ≡ (middle p (node w) 0 (parts w) ++ closing (node w)) ++ ((middle p top.node (suc top.done) (first m vs) ++ closing top.node) ++ due p (λ us. []) old (behind m vs))
  due_two m e w vs =
      let rest : Values → List ℕ = due p (λ us. []) (old ++ outer ∷ []) in
      let inner_left : left (inner w) ≡ count (parts w) = (let c = counted w in omega (arith, c)) in
      let outer_left : left outer ≡ m = omega (arith, e) in
      due_push p (λ us. []) (old ++ outer ∷ []) (inner w) (joined (parts w) vs)
      ∙ ap (λ c. (middle p (node w) 0 (first c (joined (parts w) vs)) ++ closing (node w)) ++ rest (behind c (joined (parts w) vs))) inner_left
      ∙ ap (λ us. (middle p (node w) 0 us ++ closing (node w)) ++ rest (behind (count (parts w)) (joined (parts w) vs))) (first_joined (parts w) vs)
      ∙ ap (λ us. (middle p (node w) 0 (parts w) ++ closing (node w)) ++ rest us) (behind_joined (parts w) vs)
      ∙ ap (λ c. (middle p (node w) 0 (parts w) ++ closing (node w)) ++ c) (due_push p (λ us. []) old outer vs
      ∙ ap (λ c. (middle p top.node (top.done + 1) (first c vs) ++ closing top.node) ++ due p (λ us. []) old (behind c vs)) outer_left
      ∙ ap (λ c. (middle p top.node c (first m vs) ++ closing top.node) ++ due p (λ us. []) old (behind m vs)) (add-one top.done))

  wants_two : (m : ℕ) → left top ≡ suc m → (w : Value) (vs : Values) → suc (count vs) ≡ suc m + wanted 0 old → count (joined (parts w) vs) ≡ wanted 0 ((old ++ outer ∷ []) ++ inner w ∷ [])
  wants_two m e w vs n =
      let a = wanted_push 0 (old ++ outer ∷ []) (inner w) in
      let b = wanted_push 0 old outer in
      let c = counted w in
      let d = count_joined (parts w) vs in
      omega (arith, a, b, c, d, e, n)

  next_text : (m : ℕ) → left top ≡ suc m → (w : Value) (vs : Values) (whole : List ℕ)
      → text ++ ((middle p top.node top.done (value_and w (first m vs)) ++ closing top.node) ++ due p (λ us. []) old (behind m vs)) ≡ whole
      → ((text ++ preface p top.node top.done) ++ opening p (node w)) ++ due p (λ us. []) ((old ++ outer ∷ []) ++ inner w ∷ []) (joined (parts w) vs) ≡ whole
  next_text m e w vs whole k =
      let A = preface p top.node top.done in
      let O = opening p (node w) in
      let M = middle p (node w) 0 (parts w) ++ closing (node w) in
      let R = middle p top.node (suc top.done) (first m vs) in
      let C = closing top.node in
      let B = due p (λ us. []) old (behind m vs) in
      ap (λ l. ((text ++ A) ++ O) ++ l) (due_two m e w vs)
      ∙ sym (ap (λ l. text ++ ((l ++ C) ++ B)) (middle_next p top.node top.done m w (first m vs) e ∙ ap (λ l. A ++ (l ++ R)) (written p w)) ∙ rearranged text A O M R C B)
      ∙ k

  -- the next part of an open node is begun
  pub goes_on : (x : Node) (new : List Open) (more : List ℕ) → top.done < parts_of top.node → at < length all → x ≡ get_or all at x
      → new ≡ (old ++ record { node = top.node; done = top.done + 1 } ∷ []) ++ record { node = x; done = 0 } ∷ []
      → more ≡ (text ++ preface p top.node top.done) ++ opening p x → Goes p all start new (at + 1) more
  goes_on x new more l within is new_is more_is = record { each = λ v same. by v (goes.each v same) }
    where
      next : drop at all ≡ x ∷ drop (at + 1) all
      next = drop-cons all at x within ∙ ap (λ y. y ∷ drop (suc at) all) (sym is) ∙ ap (λ n. x ∷ drop n all) (sym (add-one at))

      turn : (m : ℕ) → left top ≡ suc m → (v : Value) (values : Values) → drop at all ≡ nodes_of values → count values ≡ suc m + wanted 0 old
          → text ++ ((middle p top.node top.done (first (suc m) values) ++ closing top.node) ++ due p (λ vs. []) old (behind (suc m) values)) ≡ start ++ shown p v
          → Makes p all start v new (at + 1) more
      turn m e v no_value f n k = absurd (omega (arith, n))
      turn m e v (value_and w vs) f n k =
          let both : x ∷ drop (at + 1) all ≡ node w ∷ (nodes_of (parts w) ++ nodes_of vs) = sym next ∙ f ∙ ap (λ l. l ++ nodes_of vs) (split w) in
          let first_is : x ≡ node w = ap (λ l. get_or l 0 x) both in
          let news : new ≡ (old ++ outer ∷ []) ++ inner w ∷ [] = new_is ∙ ap (λ (y : Node). (old ++ outer ∷ []) ++ record { node = y; done = 0 } ∷ []) first_is in
          subst (λ l. Makes p all start v l (at + 1) more) (sym news) (record {
            values = joined (parts w) vs;
            nodes_are = ap (λ l. drop 1 l) both ∙ nodes_joined (parts w) vs;
            enough = wants_two m e w vs n;
            makes = ap (λ l. l ++ due p (λ us. []) ((old ++ outer ∷ []) ++ inner w ∷ []) (joined (parts w) vs)) (more_is ∙ ap (λ (y : Node). (text ++ preface p top.node top.done) ++ opening p y) first_is)
                ∙ next_text m e w vs (start ++ shown p v) k;
          })

      by : (v : Value) → Makes p all start v opened at text → Makes p all start v new (at + 1) more
      by v q =
          let f = fewer l in
          turn f.0 f.1 v q.values q.nodes_are (enough_left f.0 f.1 v q)
          (ap (λ l. text ++ l) (sym (ap (λ l. due p (λ us. []) l q.values) here ∙ due_push p (λ us. []) old top q.values
          ∙ ap (λ n. (middle p top.node top.done (first n q.values) ++ closing top.node) ++ due p (λ us. []) old (behind n q.values)) f.1)) ∙ q.makes)

  same_at : (d : Node) (l : List Node) (i : ℕ) → i < length l → get_or l i d ≡ get_or l i (get_or l i d)
  same_at d l i h = other l i d (get_or l i d) h
    where
      other : (l : List Node) (i : ℕ) (d e : Node) → i < length l → get_or l i d ≡ get_or l i e
      other [] i d e h = absurd (omega (arith, h))
      other (x ∷ l) zero d e h = refl
      other (x ∷ l) (suc i) d e h = other l i d e (omega (arith, h))

  -- the same, where the code has the node of a place
  pub goes_on_at : (d : Node) (new : List Open) (more : List ℕ) → top.done < parts_of top.node → at < length all
      → new ≡ (old ++ record { node = top.node; done = top.done + 1 } ∷ []) ++ record { node = get_or all at d; done = 0 } ∷ []
      → more ≡ (text ++ preface p top.node top.done) ++ opening p (get_or all at d) → Goes p all start new (at + 1) more
  goes_on_at d new more l within e f = goes_on (get_or all at d) new more l within (same_at d all at within) e f
