-- Pieces with one thing that stands for a part.
use Rattle.std.proofs.Common.{◌≡◌, ◌≤◌, ◌<◌, ◌⊎◌, inl, inr, ℕ, List, [], ◌∷◌, None, refl, sym, subst, arith}
use Rattle.rx_typed.specs.Named.{Function}
use Rattle.rx_engine_names.specs.Renaming.{Made, Renaming}
use Rattle.rx_engine_names.specs.Apart.{Apart, Below, Few}
use Rattle.rx_engine_typing.specs.Renumbered.{Holes}
use Rattle.rx_engine_changed.specs.Beside.{and_instead, and_own, and_pair, behind_own, first_own, no_later, one_later, paired, stays, unpaired, replaced, newest, older, Grows, Instead, IsPiece, Later, Numbers, Piece}
use Rattle.rx_engine_changed.specs.Chosen.{least, OneInstead}
use Rattle.rx_engine_changed.specs.Numbered.{NumberedBeside}
use Rattle.rx_engine_changed.specs.Once.{ByOneNumbering, NumberedOnce}
use Rattle.rx_engine_changed.proofs.Kept.{insteads, Adds, Such}
use Rattle.rx_engine_changed.proofs.Pieces.{chosen}

none_stands : (ps : List Piece) → insteads ps ≡ 0 → (i : Instead) → IsPiece (replaced i) ps → ⊥
none_stands [] e i z = elim z [ ]
none_stands (paired n n' ∷ ps) e i (older z) = none_stands ps e i z
none_stands (unpaired n m n' m' ∷ ps) e i (older z) = none_stands ps e i z
none_stands (replaced j ∷ ps) e i z = absurd (omega (arith, e))

record OneStands (ps : List Piece) : Type 0 where
  instead : Instead
  there : IsPiece (replaced instead) ps
  once : OneInstead instead ps

pair_older : (n n' : ℕ) (ps : List Piece) → OneStands ps → OneStands (paired n n' ∷ ps)
pair_older n n' ps x = record { instead = x.instead; there = older x.there; once = λ j z. by j z }
  where
    by : (j : Instead) → IsPiece (replaced j) (paired n n' ∷ ps) → x.instead ≡ j
    by j (older z) = x.once j z

own_older : (n m n' m' : ℕ) (ps : List Piece) → OneStands ps → OneStands (unpaired n m n' m' ∷ ps)
own_older n m n' m' ps x = record { instead = x.instead; there = older x.there; once = λ j z. by j z }
  where
    by : (j : Instead) → IsPiece (replaced j) (unpaired n m n' m' ∷ ps) → x.instead ≡ j
    by j (older z) = x.once j z

one_stands : (ps : List Piece) → insteads ps ≡ 1 → OneStands ps
one_stands [] e = absurd (omega (arith, e))
one_stands (paired n n' ∷ ps) e = pair_older n n' ps (one_stands ps e)
one_stands (unpaired n m n' m' ∷ ps) e = own_older n m n' m' ps (one_stands ps e)
one_stands (replaced i ∷ ps) e = record { instead = i; there = newest; once = λ j z. by j z }
  where
    by : (j : Instead) → IsPiece (replaced j) (replaced i ∷ ps) → i ≡ j
    by j newest = refl
    by j (older z) = absurd (none_stands ps (omega (arith, e)) j z)

pub numbered_once : {R : Renaming} {P : List Piece → Instead → Type 0} {holes : Numbers → Holes} {f g : Function} (x : NumberedBeside R holes f g) → Adds P 1 [] x.pieces → NumberedOnce R P holes f g
numbered_once {P = P} x h =
    let y = one_stands x.pieces (let e = h.many in omega (arith, e)) in let z = by y.instead (h.each y.instead y.there) in
    record { beside = x; instead = y.instead; there = y.there; once = y.once; made = z.made; still = z.still; such = z.such }
  where
    by : (i : Instead) → IsPiece (replaced i) [] ⊎ Such P x.pieces i → Such P x.pieces i
    by i (inl z) = elim z [ ]
    by i (inr p) = p

-- ---- pieces that were made before

later_piece : {made now : List Piece} {p : Piece} → Later made now → IsPiece p made → IsPiece p now
later_piece no_later z = z
later_piece (one_later h) z = older (later_piece h z)

pair_below : {ps : List Piece} {l l' n n' : ℕ} → Grows [] 0 0 ps l l' → IsPiece (paired n n') ps → n' < l'
pair_below (stays h h') z = elim z [ ]
pair_below (and_pair g h h') newest = h'
pair_below (and_pair g h h') (older z) = let k = pair_below g z in omega (arith, k, h')
pair_below (and_own g a b h h') (older z) = let k = pair_below g z in omega (arith, k, b, h')
pair_below (and_instead g h a b c) (older z) = let k = pair_below g z in omega (arith, k, a, b, c)

pair_in_front : {i : Instead} {made ps : List Piece} {l l' n n' : ℕ} → Grows [] 0 0 ps l l' → Later (replaced i ∷ made) ps → IsPiece (paired n n') made → n' < first_own i
pair_in_front (stays h h') k z = elim k [ ]
pair_in_front (and_pair g h h') (one_later k) z = pair_in_front g k z
pair_in_front (and_own g a b h h') (one_later k) z = pair_in_front g k z
pair_in_front (and_instead g h a b c) no_later z = let k = pair_below g z in omega (arith, k, a)
pair_in_front (and_instead g h a b c) (one_later k) z = pair_in_front g k z

-- ---- by one numbering

pub by_one_numbering : (items : ℕ → ℕ) (M : Made) (a b c d : ℕ) → Few a → Few b → Few c → Few d → Apart M.variables → Below M.variables a b → Apart M.loops → Below M.loops c d
    → (P : List Piece → Instead → Type 0) (holes : Numbers → Holes) (f g : Function) → NumberedOnce (least items M) P holes f g → ByOneNumbering (least items M) P holes f g
by_one_numbering items M a b c d fa fb fc fd vs bs ls bl P holes f g o =
    let x = chosen items M a b c d fa fb fc fd vs bs ls bl o.beside.pieces o.beside.last o.beside.last' o.beside.grows o.instead o.once in record {
      numbers = x.numbers;
      follows = x.follows;
      variables_apart = x.variables_apart;
      loops_apart = x.loops_apart;
      comes_back = x.comes_back;
      made = o.made;
      correspond = λ p z. x.correspond p (later_piece o.still (older z));
      in_front = λ n n' z. subst (λ (i : Instead). n' < first_own i) (sym (x.correspond (replaced o.instead) o.there).0) (pair_in_front o.beside.grows o.still z);
      such = subst (P o.made) (sym (x.correspond (replaced o.instead) o.there).0) o.such;
      own = subst (λ (i : Instead). (k : ℕ) → first_own i ≤ k → k < behind_own i → x.numbers.back.node k ≡ None) (sym (x.correspond (replaced o.instead) o.there).0) (x.correspond (replaced o.instead) o.there).1;
      like = o.beside.like x.numbers x.follows x.correspond;
    }
