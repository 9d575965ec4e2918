-- Calls on a stream one after another add up, by associativity.
use Rattle.std.proofs.Common.{ℕ, ◌≡◌, ◌++◌, ◌+◌, ◌≤◌, List, Option, Some, length, take, drop, ◌-◌, refl, sym, ap, subst, ◌∙◌, append_assoc, arith, length-drop, length-take, append-nil}
use Rattle.std.proofs.lemmas.List.{take-take, take-append-drop, length-take-le, drop-drop}
use Rattle.std.proofs.Math.Seq.{take-add, take_all, take-append_seam}
use Rattle.rx_core.specs.Streams.{Gone, Grown}

pub gone-more : (s t u : Option (List ℕ)) (xs ys zs : List ℕ) → Gone s t xs → Gone t u ys → zs ≡ xs ++ ys → Gone s u zs
gone-more s t u xs ys zs a b e = record {
  told = λ left h.
      let p = a.told left h in
      let q = b.told p.0 p.2 in
      (q.0, p.1 ∙ (ap (λ r. xs ++ r) q.1 ∙ simp (e, append_assoc)), q.2);
  untold = λ h. b.untold (a.untold h);
}

pub grown-more : (s t u : Option (List ℕ)) (xs ys zs : List ℕ) → Grown s t xs → Grown t u ys → zs ≡ xs ++ ys → Grown s u zs
grown-more s t u xs ys zs a b e = record {
  told = λ held h. b.told (held ++ xs) (a.told held h) ∙ simp (e, append_assoc);
  untold = λ h. b.untold (a.untold h);
}

-- where the first `done` bytes were taken, and then n of the others, the first done + n were
pub grown-on : (s t u : Option (List ℕ)) (xs : List ℕ) (done n : ℕ) → done ≤ length xs → n ≤ length (take (length xs - done) (drop done xs))
    → Grown s t (take done xs) → Grown t u (take n (take (length xs - done) (drop done xs)))
    → (done + n ≤ length xs) × Grown s u (take (done + n) xs)
grown-on s t u xs done n h k a b =
    let e : length (drop done xs) ≡ length xs - done = length-drop done xs in
    let f : n ≤ length xs - done = omega (arith, length-take {A = ℕ}) in (
      omega arith,
      grown-more s t u (take done xs) _ (take (done + n) xs) a b
          (take-add done n xs ∙ ap (λ r. take done xs ++ r) (sym (take-take n (length xs - done) (drop done xs) f))),
    )

-- where none of the others was taken, the first `done` were
pub grown-still : (s t u : Option (List ℕ)) (xs more : List ℕ) (n : ℕ) → n ≡ 0 → Grown s t xs → Grown t u (take n more) → Grown s u xs
grown-still s t u xs more n e a b =
    grown-more s t u xs (take n more) xs a b (rw e (sym (append-nil xs)))

-- the first n bytes left, copied to the start of a buffer, are gone
pub gone-copied : (left copied behind rest : List ℕ) (n : ℕ) → n ≤ length left → copied ≡ take n left → rest ≡ drop n left
    → Gone (Some left) (Some rest) (take n (copied ++ behind))
gone-copied left copied behind rest n h e f =
    let k : length copied ≡ n = ap length e ∙ length-take-le n left h in
    let t : take n (copied ++ behind) ≡ take n left = subst (λ (m : ℕ). take m (copied ++ behind) ≡ take n left) k (take-append_seam copied behind ∙ e) in
    record {
      told = λ l g. (rest, (let q : left ≡ l = cc in sym q) ∙ (sym (take-append-drop n left) ∙ simp (t, f)), refl);
      untold = λ g. cc;
    }

-- the same of the bytes behind the first `given`
pub gone-given : (all bytes left copied buf : List ℕ) (given n : ℕ) → all ≡ bytes → drop given bytes ≡ left
    → n ≤ length (take (length all - given) (drop given all))
    → copied ≡ take n (take (length all - given) (drop given all))
    → Gone (Some left) (Some (drop (given + n) bytes)) (take n (copied ++ drop n buf))
gone-given all bytes left copied buf given n e v m k =
    let w : drop given all ≡ left = ap (drop given) e ∙ v in
    let d : length left ≡ length all - given = ap length (sym w) ∙ length-drop given all in
    let h : take (length all - given) (drop given all) ≡ left = rw w (take_all (length all - given) left (omega arith)) in
    let le : n ≤ length left = subst (λ (l : List ℕ). n ≤ length l) h m in
    gone-copied left copied (drop n buf) (drop (given + n) bytes) n le (k ∙ ap (take n) h) (sym (drop-drop n given bytes) ∙ ap (drop n) v)
