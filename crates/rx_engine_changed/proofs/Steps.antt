-- Two numberings go on side by side: variables that correspond are known alike and the same loops are left behind each step.
use Rattle.std.specs.Prelude.{nat_eq, nat_le, nat_lt}
use Rattle.std.proofs.Common.{◌≡◌, ◌≤◌, ◌<◌, ◌-◌, ℕ, zero, suc, Bool, true, false, List, [], ◌∷◌, ◌++◌, length, Option, Some, None, option_map, slice_get, slice_set, get_or, refl, sym, ap, ◌∙◌, subst, eqb-true, eq-eqb, arith}
use Rattle.rx_core.specs.declared.types.Span.{Span}
use Rattle.rx_tree.specs.Plain.{TypeTree, PatternTree}
use Rattle.rx_resolve_names.specs.declared.resolved.NodeNames.{NodeNames}
use Rattle.rx_typed.specs.declared.nodes.Stage.{Stage}
use Rattle.rx_typed.specs.declared.nodes.Declaration.{Declaration}
use Rattle.rx_typed.specs.Naming as numbering
use Rattle.rx_typed.specs.declared.nodes.Site.{Site}
use Rattle.rx_typed.specs.Naming.{Cursor, a_node, an_entry, taken, as_known, known_among, declaration, not_declared, is_known}
use Rattle.rx_engine_names.specs.Renaming.{Renaming}
use Rattle.rx_engine_changed.specs.Beside.{Piece, paired, Grows, stays, and_pair, IsPiece, IsOneToOne}
use Rattle.rx_engine_changed.specs.Stages.{Mutability, LikeDeclared, not_yet, known, given, waits, waits_there, Alike, InStep}
use Rattle.rx_engine_changed.proofs.Lists.{newest_at, older_at, one_longer, set_there, set_elsewhere, set_many, Within, becomes_known, stays_known, known_length, still_piece}

-- ---- numbers are the same or not

pub data Decided (A : Type 0) : Type 0 where
  so : A → Decided A
  not_so : (A → ⊥) → Decided A

pub same_or_not : (n m : ℕ) → Decided (n ≡ m)
same_or_not n m = by (nat_eq n m) refl
  where
    by : (b : Bool) → nat_eq n m ≡ b → Decided (n ≡ m)
    by true e = so (eqb-true n m e)
    by false e = not_so (λ d. let x : nat_eq n m ≡ true = eq-eqb n m d in absurd (cc))

pub within_or_not : (i j n : ℕ) → Decided (Within i j n)
within_or_not i j n = by (nat_le i n) refl (nat_lt n j) refl
  where
    by : (b : Bool) → nat_le i n ≡ b → (d : Bool) → nat_lt n j ≡ d → Decided (Within i j n)
    by false e d f = not_so (λ w. let x = w.0 in absurd (grind arith))
    by true e false f = not_so (λ w. let x = w.1 in absurd (grind arith))
    by true e true f = so ((grind arith), (grind arith))

further : (i n : ℕ) → i ≤ n → (n ≡ i → ⊥) → suc i ≤ n
further i n h w = by (nat_le (suc i) n) refl
  where
    by : (b : Bool) → nat_le (suc i) n ≡ b → suc i ≤ n
    by true e = grind arith
    by false e = absurd (w (let a : n < suc i = grind arith in omega (arith, a, h)))

-- ---- what is read where nothing is declared

abbrev pub or_else : {A : Type 0} → A → Option A → A
or_else d None = d
or_else d (Some x) = x

pub read : {A : Type 0} (vs : List A) (n : ℕ) (d : A) → get_or vs n d ≡ or_else d (slice_get vs n)
read [] n d = refl
read (v ∷ vs) zero d = refl
read (v ∷ vs) (suc n) d = read vs n d

abbrev at_stage : Stage → Declaration → Declaration
at_stage s d = record { mutable = d.mutable; stage = s }

stage_there : (vs : List Declaration) (n : ℕ) (s : Stage) → slice_get (slice_set vs n (record (get_or vs n not_declared) { stage = s })) n ≡ option_map (at_stage s) (slice_get vs n)
stage_there [] n s = refl
stage_there (v ∷ vs) zero s = refl
stage_there (v ∷ vs) (suc n) s = stage_there vs n s

known_waits_not : (o : Option Declaration) → waits_there (option_map as_known o) ≡ false
known_waits_not None = refl
known_waits_not (Some d) = refl

-- ---- numbers of a pattern's variables

pub data Ranges (R : Renaming) : ℕ → ℕ → ℕ → ℕ → Type 0 where
  none_ranges : {i i' : ℕ} → Ranges R i i' i i'
  more_range : {i i' j j' : ℕ} → R.variable i i' ≡ true → Ranges R (suc i) (suc i') j j' → Ranges R i i' j j'

module _ {R : Renaming} where
  pub ranges_on : {i i' j j' k k' : ℕ} → Ranges R i i' j j' → Ranges R j j' k k' → Ranges R i i' k k'
  ranges_on none_ranges h = h
  ranges_on (more_range r g) h = more_range r (ranges_on g h)

  pub ranges_rise : {i i' j j' : ℕ} → Ranges R i i' j j' → (i ≤ j) × (i' ≤ j')
  ranges_rise none_ranges = (omega arith, omega arith)
  ranges_rise (more_range r g) = let h = ranges_rise g in let a = h.0 in let b = h.1 in (omega (arith, a), omega (arith, b))

module _ (R : Renaming) (W : Mutability) (apart : IsOneToOne R) (even : (n m : ℕ) (b : Bool) → W n m b b) where
  pub within_on : {i i' j j' : ℕ} (n m : ℕ) → R.variable n m ≡ true → Ranges R i i' j j' → Within i j n → Within i' j' m
  within_on n m e none_ranges w = let a = w.0 in let b = w.1 in absurd (omega (arith, a, b))
  within_on {i = i} {i' = i'} {j = j} {j' = j'} n m e (more_range r g) w = by (same_or_not n i) (λ v. within_on n m e g v)
    where
      by : Decided (n ≡ i) → (Within (suc i) j n → Within (suc i') j' m) → Within i' j' m
      by (so d) k = let x : m ≡ i' = apart.variables_on n m i' e (subst (λ (z : ℕ). R.variable z i' ≡ true) (sym d) r) in let b = (ranges_rise g).1 in (omega (arith, x), omega (arith, x, b))
      by (not_so d) k = let a = w.0 in let b = w.1 in let c : suc i ≤ n = further i n a d in let v = k (c, b) in let x = v.0 in (omega (arith, x), v.1)

  pub within_back : {i i' j j' : ℕ} (n m : ℕ) → R.variable n m ≡ true → Ranges R i i' j j' → Within i' j' m → Within i j n
  within_back n m e none_ranges w = let a = w.0 in let b = w.1 in absurd (omega (arith, a, b))
  within_back {i = i} {i' = i'} {j = j} {j' = j'} n m e (more_range r g) w = by (same_or_not m i') (λ v. within_back n m e g v)
    where
      by : Decided (m ≡ i') → (Within (suc i') j' m → Within (suc i) j n) → Within i j n
      by (so d) k = let x : n ≡ i = apart.variables_back n i m e (subst (λ (z : ℕ). R.variable i z ≡ true) (sym d) r) in let b = (ranges_rise g).0 in (omega (arith, x), omega (arith, x, b))
      by (not_so d) k = let a = w.0 in let b = w.1 in let c : suc i' ≤ m = further i' m a d in let v = k (c, b) in let x = v.0 in (omega (arith, x), v.1)

  -- ---- declarations

  declared_later : {made : List Piece} {a a' : ℕ} {now : List Piece} {b b' : ℕ} {X : Bool → Bool → Type 0} {o o' : Option Declaration} → Grows made a a' now b b' → LikeDeclared made X o o' → LikeDeclared now X o o'
  declared_later g not_yet = not_yet
  declared_later g (known w) = known w
  declared_later g (given w) = given w
  declared_later g (waits w i) = waits w (still_piece g i)

  now_known : {made : List Piece} {X : Bool → Bool → Type 0} {o o' : Option Declaration} → LikeDeclared made X o o' → LikeDeclared made X (option_map as_known o) (option_map as_known o')
  now_known not_yet = not_yet
  now_known (known w) = known w
  now_known (given w) = known w
  now_known (waits w i) = known w

  now_waits : {made : List Piece} {X : Bool → Bool → Type 0} {o o' : Option Declaration} (p p' : ℕ) (s s' : Span) → IsPiece (paired p p') made → LikeDeclared made X o o' → LikeDeclared made X (option_map (at_stage (Stage.Waits p s)) o) (option_map (at_stage (Stage.Waits p' s')) o')
  now_waits p p' s s' i not_yet = not_yet
  now_waits p p' s s' i (known w) = waits w i
  now_waits p p' s s' i (given w) = waits w i
  now_waits p p' s s' i (waits w j) = waits w i

  -- where nothing is declared, something is read
  read_like : {made : List Piece} {X : Bool → Bool → Type 0} {o o' : Option Declaration} → X false false → LikeDeclared made X o o' → LikeDeclared made X (Some (or_else not_declared o)) (Some (or_else not_declared o'))
  read_like w not_yet = given w
  read_like w (known v) = known v
  read_like w (given v) = given v
  read_like w (waits v i) = waits v i

  module _ {made : List Piece} {vs : List Declaration} {ls : List Bool} {d : ℕ} {vs' : List Declaration} {ls' : List Bool} {d' : ℕ} (st : Alike R W made vs ls d vs' ls' d') where
    pub alike_later : {a a' : ℕ} {now : List Piece} {b b' : ℕ} → Grows made a a' now b b' → Alike R W now vs ls d vs' ls' d'
    alike_later g = record { variables = λ n m r. declared_later g (st.variables n m r); alone = st.alone; loops = st.loops; counted = st.counted; counted' = st.counted' }

    pub alike_declared : (x : Declaration) → R.variable d d' ≡ true → ((n m : ℕ) → LikeDeclared made (W n m) (Some x) (Some x)) → Alike R W made (vs ++ x ∷ []) ls (suc d) (vs' ++ x ∷ []) ls' (suc d')
    alike_declared x e same = record {
      variables = λ n m r. by n m r (same_or_not n d);
      alone = λ m w. lone m w (same_or_not m d');
      loops = st.loops;
      counted = one_longer vs x ∙ ap suc st.counted;
      counted' = one_longer vs' x ∙ ap suc st.counted';
    }
      where
        lone : (m : ℕ) → ((n : ℕ) → R.variable n m ≡ true → ⊥) → Decided (m ≡ d') → waits_there (slice_get (vs' ++ x ∷ []) m) ≡ false
        lone m w (so h) = absurd (w d (subst (λ (z : ℕ). R.variable d z ≡ true) (sym h) e))
        lone m w (not_so h) = ap waits_there (older_at vs' x m (λ g. h (g ∙ st.counted'))) ∙ st.alone m w

        by : (n m : ℕ) → R.variable n m ≡ true → Decided (n ≡ d) → LikeDeclared made (W n m) (slice_get (vs ++ x ∷ []) n) (slice_get (vs' ++ x ∷ []) m)
        by n m r (so h) =
            let k : m ≡ d' = apart.variables_on n m d' r (subst (λ (z : ℕ). R.variable z d' ≡ true) (sym h) e) in
            subst (λ (o : Option Declaration). LikeDeclared made (W n m) o (slice_get (vs' ++ x ∷ []) m)) (sym (newest_at vs x n (h ∙ sym st.counted)))
            (subst (λ (o : Option Declaration). LikeDeclared made (W n m) (Some x) o) (sym (newest_at vs' x m (k ∙ sym st.counted'))) (same n m))
        by n m r (not_so h) =
            let k : m ≡ d' → ⊥ = λ g. h (apart.variables_back n d m r (subst (λ (z : ℕ). R.variable d z ≡ true) (sym g) e)) in
            subst (λ (o : Option Declaration). LikeDeclared made (W n m) o (slice_get (vs' ++ x ∷ []) m)) (sym (older_at vs x n (λ g. h (g ∙ st.counted))))
            (subst (λ (o : Option Declaration). LikeDeclared made (W n m) (slice_get vs n) o) (sym (older_at vs' x m (λ g. k (g ∙ st.counted')))) (st.variables n m r))

    -- another stage of two that correspond
    alike_staged : (x x' : ℕ) (s s' : Stage) → R.variable x x' ≡ true → LikeDeclared made (W x x') (option_map (at_stage s) (slice_get vs x)) (option_map (at_stage s') (slice_get vs' x'))
        → Alike R W made (slice_set vs x (record (get_or vs x not_declared) { stage = s })) ls d (slice_set vs' x' (record (get_or vs' x' not_declared) { stage = s' })) ls' d'
    alike_staged x x' s s' e h = record {
      variables = λ n m r. by n m r (same_or_not n x);
      alone = λ m w. lone m w (same_or_not m x');
      loops = st.loops;
      counted = set_many vs x (record (get_or vs x not_declared) { stage = s }) ∙ st.counted;
      counted' = set_many vs' x' (record (get_or vs' x' not_declared) { stage = s' }) ∙ st.counted';
    }
      where
        z : Declaration
        z = record (get_or vs x not_declared) { stage = s }

        z' : Declaration
        z' = record (get_or vs' x' not_declared) { stage = s' }

        lone : (m : ℕ) → ((n : ℕ) → R.variable n m ≡ true → ⊥) → Decided (m ≡ x') → waits_there (slice_get (slice_set vs' x' z') m) ≡ false
        lone m w (so h) = absurd (w x (subst (λ (y : ℕ). R.variable x y ≡ true) (sym h) e))
        lone m w (not_so h) = ap waits_there (set_elsewhere vs' x' m z' h) ∙ st.alone m w

        by : (n m : ℕ) → R.variable n m ≡ true → Decided (n ≡ x) → LikeDeclared made (W n m) (slice_get (slice_set vs x z) n) (slice_get (slice_set vs' x' z') m)
        by n m r (so g) =
            let k : m ≡ x' = apart.variables_on n m x' r (subst (λ (y : ℕ). R.variable y x' ≡ true) (sym g) e) in
            subst (λ (y : ℕ). LikeDeclared made (W y m) (slice_get (slice_set vs x z) y) (slice_get (slice_set vs' x' z') m)) (sym g)
            (subst (λ (y : ℕ). LikeDeclared made (W x y) (slice_get (slice_set vs x z) x) (slice_get (slice_set vs' x' z') y)) (sym k)
            (subst (λ (o : Option Declaration). LikeDeclared made (W x x') o (slice_get (slice_set vs' x' z') x')) (sym (stage_there vs x s))
            (subst (λ (o : Option Declaration). LikeDeclared made (W x x') (option_map (at_stage s) (slice_get vs x)) o) (sym (stage_there vs' x' s')) h)))
        by n m r (not_so g) =
            let k : m ≡ x' → ⊥ = λ i. g (apart.variables_back n x m r (subst (λ (y : ℕ). R.variable x y ≡ true) (sym i) e)) in
            subst (λ (o : Option Declaration). LikeDeclared made (W n m) o (slice_get (slice_set vs' x' z') m)) (sym (set_elsewhere vs x n z g))
            (subst (λ (o : Option Declaration). LikeDeclared made (W n m) (slice_get vs n) o) (sym (set_elsewhere vs' x' m z' k)) (st.variables n m r))

    pub alike_settled : (x x' : ℕ) → R.variable x x' ≡ true → Alike R W made (slice_set vs x (record (get_or vs x not_declared) { stage = Stage.Known })) ls d (slice_set vs' x' (record (get_or vs' x' not_declared) { stage = Stage.Known })) ls' d'
    alike_settled x x' e = alike_staged x x' Stage.Known Stage.Known e (now_known (st.variables x x' e))

    pub alike_waiting : (x x' p p' : ℕ) (s s' : Span) → R.variable x x' ≡ true → IsPiece (paired p p') made
        → Alike R W made (slice_set vs x (record (get_or vs x not_declared) { stage = Stage.Waits p s })) ls d (slice_set vs' x' (record (get_or vs' x' not_declared) { stage = Stage.Waits p' s' })) ls' d'
    alike_waiting x x' p p' s s' e i = alike_staged x x' (Stage.Waits p s) (Stage.Waits p' s') e (now_waits p p' s s' i (st.variables x x' e))

    pub alike_known : {i i' j j' : ℕ} → Ranges R i i' j j' → Alike R W made (known_among i (j - i) vs) ls d (known_among i' (j' - i') vs') ls' d'
    alike_known {i} {i'} {j} {j'} g = record {
      variables = λ n m r. by n m r (within_or_not i j n);
      alone = λ m w. lone m w (within_or_not i' j' m);
      loops = st.loops;
      counted = known_length i (j - i) vs ∙ st.counted;
      counted' = known_length i' (j' - i') vs' ∙ st.counted';
    }
      where
        lone : (m : ℕ) → ((n : ℕ) → R.variable n m ≡ true → ⊥) → Decided (Within i' j' m) → waits_there (slice_get (known_among i' (j' - i') vs') m) ≡ false
        lone m w (so h) = ap waits_there (becomes_known i' j' m vs' h) ∙ known_waits_not (slice_get vs' m)
        lone m w (not_so h) = ap waits_there (stays_known i' j' m vs' (ranges_rise g).1 h) ∙ st.alone m w

        by : (n m : ℕ) → R.variable n m ≡ true → Decided (Within i j n) → LikeDeclared made (W n m) (slice_get (known_among i (j - i) vs) n) (slice_get (known_among i' (j' - i') vs') m)
        by n m r (so h) =
            subst (λ (o : Option Declaration). LikeDeclared made (W n m) o (slice_get (known_among i' (j' - i') vs') m)) (sym (becomes_known i j n vs h))
            (subst (λ (o : Option Declaration). LikeDeclared made (W n m) (option_map as_known (slice_get vs n)) o) (sym (becomes_known i' j' m vs' (within_on n m r g h))) (now_known (st.variables n m r)))
        by n m r (not_so h) =
            subst (λ (o : Option Declaration). LikeDeclared made (W n m) o (slice_get (known_among i' (j' - i') vs') m)) (sym (stays_known i j n vs (ranges_rise g).0 h))
            (subst (λ (o : Option Declaration). LikeDeclared made (W n m) (slice_get vs n) o) (sym (stays_known i' j' m vs' (ranges_rise g).1 (λ w. h (within_back n m r g w)))) (st.variables n m r))

    -- ---- loops

    pub alike_loop : R.loop (length ls) (length ls') ≡ true → Alike R W made vs (ls ++ false ∷ []) d vs' (ls' ++ false ∷ []) d'
    alike_loop e = record { variables = st.variables; alone = st.alone; loops = λ n m r. by n m r (same_or_not n (length ls)); counted = st.counted; counted' = st.counted' }
      where
        by : (n m : ℕ) → R.loop n m ≡ true → Decided (n ≡ length ls) → slice_get (ls ++ false ∷ []) n ≡ slice_get (ls' ++ false ∷ []) m
        by n m r (so h) = newest_at ls false n h ∙ sym (newest_at ls' false m (apart.loops_on n m (length ls') r (subst (λ (z : ℕ). R.loop z (length ls') ≡ true) (sym h) e)))
        by n m r (not_so h) = older_at ls false n h ∙ st.loops n m r ∙ sym (older_at ls' false m (λ g. h (apart.loops_back n (length ls) m r (subst (λ (z : ℕ). R.loop (length ls) z ≡ true) (sym g) e))))

    pub alike_led : (l l' : ℕ) → R.loop l l' ≡ true → Alike R W made vs (slice_set ls l true) d vs' (slice_set ls' l' true) d'
    alike_led l l' e = record { variables = st.variables; alone = st.alone; loops = λ n m r. by n m r (same_or_not n l); counted = st.counted; counted' = st.counted' }
      where
        by : (n m : ℕ) → R.loop n m ≡ true → Decided (n ≡ l) → slice_get (slice_set ls l true) n ≡ slice_get (slice_set ls' l' true) m
        by n m r (so h) =
            let k : m ≡ l' = apart.loops_on n m l' r (subst (λ (z : ℕ). R.loop z l' ≡ true) (sym h) e) in
            ap (slice_get (slice_set ls l true)) h ∙ set_there ls l true ∙ ap (option_map (λ (x : Bool). true)) (st.loops l l' e) ∙ sym (set_there ls' l' true) ∙ ap (slice_get (slice_set ls' l' true)) (sym k)
        by n m r (not_so h) = set_elsewhere ls l n true h ∙ st.loops n m r ∙ sym (set_elsewhere ls' l' m true (λ g. h (apart.loops_back n l m r (subst (λ (z : ℕ). R.loop l z ≡ true) (sym g) e))))

    pub left_alike : (l l' : ℕ) → R.loop l l' ≡ true → get_or ls' l' false ≡ get_or ls l false
    left_alike l l' e = read ls' l' false ∙ ap (or_else false) (sym (st.loops l l' e)) ∙ sym (read ls l false)

    pub declared_alike : (x x' : ℕ) → R.variable x x' ≡ true → LikeDeclared made (W x x') (Some (get_or vs x not_declared)) (Some (get_or vs' x' not_declared))
    declared_alike x x' e = subst (λ (z : Declaration). LikeDeclared made (W x x') (Some z) (Some (get_or vs' x' not_declared))) (sym (read vs x not_declared))
        (subst (λ (z : Declaration). LikeDeclared made (W x x') (Some (or_else not_declared (slice_get vs x))) (Some z)) (sym (read vs' x' not_declared)) (read_like (even x x' false) (st.variables x x' e)))

pub one_node : {made : List Piece} (c c' : Cursor) → Grows made c.number c'.number (paired c.number c'.number ∷ made) (suc c.number) (suc c'.number)
one_node c c' = and_pair (stays (omega arith) (omega arith)) (omega arith) (omega arith)

-- ---- nodes, entries of names, and types of `let`s

pub next_node : (R : Renaming) (W : Mutability) (apart : IsOneToOne R) (even : (n m : ℕ) (b : Bool) → W n m b b) {made : List Piece} (s s' : Span) (t t' : Site) (c c' : Cursor) → InStep R W made c c' → InStep R W (paired c.number c'.number ∷ made) (a_node s t c).1 (a_node s' t' c').1
next_node R W apart even {made} s s' t t' c c' st = alike_later R W apart even st (one_node c c')

pub entry_number : (c : Cursor) → (an_entry c).1.number ≡ c.number
entry_number c = by c.names
  where
    by : (xs : List NodeNames) → (taken xs c).1.number ≡ c.number
    by [] = refl
    by (x ∷ xs) = refl

pub next_entry : (R : Renaming) (W : Mutability) {made : List Piece} (c c' : Cursor) → InStep R W made c c' → InStep R W made (an_entry c).1 (an_entry c').1
next_entry R W {made} c c' st = by c.names c'.names
  where
    by : (xs xs' : List NodeNames) → InStep R W made (taken xs c).1 (taken xs' c').1
    by [] [] = st
    by [] (x' ∷ xs') = st
    by (x ∷ xs) [] = st
    by (x ∷ xs) (x' ∷ xs') = st

pub annotation_number : (p : PatternTree) (y : Option TypeTree) (c : Cursor) → (numbering.annotates p y c).1.number ≡ c.number
annotation_number p None c = refl
annotation_number p (Some t) c = refl

pub next_annotation : (R : Renaming) (W : Mutability) {made : List Piece} (p : PatternTree) (y : Option TypeTree) (c c' : Cursor) → InStep R W made c c' → InStep R W made (numbering.annotates p y c).1 (numbering.annotates p y c').1
next_annotation R W p None c c' st = st
next_annotation R W p (Some t) c c' st = st
