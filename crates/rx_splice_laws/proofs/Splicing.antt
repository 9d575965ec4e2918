-- Edits of two parts of a text, one after the other: the parts are spliced each for itself.
use Rattle.std.proofs.Common.{◌≡◌, ℕ, suc, ◌+◌, ◌-◌, ◌≤◌, List, [], ◌∷◌, ◌++◌, length, length-drop, take, drop, refl, sym, ap, ◌∙◌, arith, append_assoc}
use Rattle.std.proofs.lemmas.List.{take-append-le, drop-append-le}
use Rattle.rx_print_spelling.specs.Pieces.{flat}
use Rattle.rx_splice_laws.specs.Edits.{Edit, spliced, Ordered, no_edit, edit_and}

pub ordered_low : {from to : ℕ} {es : List Edit} → Ordered from es to → from ≤ to
ordered_low (no_edit l) = l
ordered_low (edit_and a b o) = let h = ordered_low o in omega (arith, a, b, h)

pub ordered-append : {from mid to : ℕ} {es fs : List Edit} → Ordered from es mid → Ordered mid fs to → Ordered from (es ++ fs) to
ordered-append (no_edit l) (no_edit k) = no_edit (omega (arith, l, k))
ordered-append (no_edit l) (edit_and a b o) = edit_and (omega (arith, l, a)) b o
ordered-append (edit_and a b o) p = edit_and a b (ordered-append o p)

-- so many behind the front, with what is added to its length
take_past : (t u : List ℕ) (n : ℕ) → take (length t + n) (t ++ u) ≡ t ++ take n u
take_past [] u n = ap (λ m. take m u) (let e : 0 + n ≡ n = omega arith in e)
take_past (c ∷ t) u n = ap (λ m. take m (c ∷ (t ++ u))) (let e : length (c ∷ t) + n ≡ suc (length t + n) = omega arith in e) ∙ ap (λ l. c ∷ l) (take_past t u n)

drop_past : (t u : List ℕ) (n : ℕ) → drop (length t + n) (t ++ u) ≡ drop n u
drop_past [] u n = ap (λ m. drop m u) (let e : 0 + n ≡ n = omega arith in e)
drop_past (c ∷ t) u n = ap (λ m. drop m (c ∷ (t ++ u))) (let e : length (c ∷ t) + n ≡ suc (length t + n) = omega arith in e) ∙ drop_past t u n

-- where the first part has no edit
behind : (at mid to : ℕ) (t u : List ℕ) (fs : List Edit) → mid ≡ at + length t → Ordered mid fs to → spliced at (t ++ u) fs ≡ t ++ spliced mid u fs
behind at mid to t u [] m o = refl
behind at mid to t u (f ∷ fs) m (edit_and a b o) =
    let k : f.from - at ≡ length t + (f.from - mid) = omega (arith, m, a) in
    let l : f.to - at ≡ length t + (f.to - mid) = omega (arith, m, a, b) in
    ap (λ n. take n (t ++ u) ++ (flat f.by ++ spliced f.to (drop (f.to - at) (t ++ u)) fs)) k
    ∙ ap (λ x. x ++ (flat f.by ++ spliced f.to (drop (f.to - at) (t ++ u)) fs)) (take_past t u (f.from - mid))
    ∙ ap (λ x. (t ++ take (f.from - mid) u) ++ (flat f.by ++ spliced f.to x fs)) (ap (λ n. drop n (t ++ u)) l ∙ drop_past t u (f.to - mid))
    ∙ append_assoc t (take (f.from - mid) u) (flat f.by ++ spliced f.to (drop (f.to - mid) u) fs)

pub spliced-append : (at mid to : ℕ) (t u : List ℕ) (es fs : List Edit) → mid ≡ at + length t → Ordered at es mid → Ordered mid fs to
    → spliced at (t ++ u) (es ++ fs) ≡ spliced at t es ++ spliced mid u fs
spliced-append at mid to t u [] fs m (no_edit l) p = behind at mid to t u fs m p
spliced-append at mid to t u (e ∷ es) fs m (edit_and a b o) p =
    let h = ordered_low o in
    let i : e.from - at ≤ length t = omega (arith, m, a, b, h) in
    let j : e.to - at ≤ length t = omega (arith, m, a, b, h) in
    let k : mid ≡ e.to + length (drop (e.to - at) t) = omega (arith, m, a, b, h, length-drop (e.to - at) t) in
    ap (λ x. x ++ (flat e.by ++ spliced e.to (drop (e.to - at) (t ++ u)) (es ++ fs))) (take-append-le (e.from - at) t u i)
    ∙ ap (λ x. take (e.from - at) t ++ (flat e.by ++ spliced e.to x (es ++ fs))) (drop-append-le (e.to - at) t u j)
    ∙ ap (λ x. take (e.from - at) t ++ (flat e.by ++ x)) (spliced-append e.to mid to (drop (e.to - at) t) u es fs k o p)
    ∙ ap (λ x. take (e.from - at) t ++ x) (sym (append_assoc (flat e.by) (spliced e.to (drop (e.to - at) t) es) (spliced mid u fs)))
    ∙ sym (append_assoc (take (e.from - at) t) (flat e.by ++ spliced e.to (drop (e.to - at) t) es) (spliced mid u fs))
