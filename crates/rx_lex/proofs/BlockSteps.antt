-- One step of the search for a comment's end, at a place of the text: by the two bytes that stand there.
use Rattle.std.proofs.Common.{◌≡◌, ℕ, zero, suc, ◌+◌, ◌-◌, ◌≤◌, ◌<◌, true, false, List, [], ◌∷◌, length, get_or, drop, None, refl, sym, ap, ◌∙◌, arith, length-drop}
use Rattle.std.specs.Prelude.{◌==◌, ◌&&◌}
use Rattle.std.proofs.lemmas.List.{drop_more}
use Rattle.rx_lex.specs.Scan.{block_rest}

drop_two : (ts : List ℕ) (at : ℕ) → at + 1 < length ts → drop at ts ≡ get_or ts at 0 ∷ get_or ts (at + 1) 0 ∷ drop (at + 2) ts
drop_two ts at h =
    let e : at + 1 + 1 ≡ at + 2 = omega arith in
    drop_more ts at 0 (omega arith) ∙ ap (λ l. get_or ts at 0 ∷ l) (drop_more ts (at + 1) 0 h ∙ ap (λ n. get_or ts (at + 1) 0 ∷ drop n ts) e)

pub block_opens : (n at : ℕ) (ts : List ℕ) → at + 1 < length ts → ((get_or ts at 0 == 47) && (get_or ts (at + 1) 0 == 42)) ≡ true
    → block_rest n (drop at ts) ≡ block_rest (n + 1) (drop (at + 2) ts)
block_opens n at ts h b = let e : suc n ≡ n + 1 = omega arith in ap (block_rest n) (drop_two ts at h) ∙ (rw b (ap (λ m. block_rest m (drop (at + 2) ts)) e))

pub block_closes : (n at : ℕ) (ts : List ℕ) → at + 1 < length ts → ((get_or ts at 0 == 47) && (get_or ts (at + 1) 0 == 42)) ≡ false
    → ((get_or ts at 0 == 42) && (get_or ts (at + 1) 0 == 47)) ≡ true → (n ≡ 0 → ⊥) → block_rest n (drop at ts) ≡ block_rest (n - 1) (drop (at + 2) ts)
block_closes zero at ts h a b c = absurd (c refl)
block_closes (suc n) at ts h a b c = let e : suc n - 1 ≡ n = omega arith in ap (block_rest (suc n)) (drop_two ts at h) ∙ rw (a, b, e)

pub block_goes : (n at : ℕ) (ts : List ℕ) → at + 1 < length ts → ((get_or ts at 0 == 47) && (get_or ts (at + 1) 0 == 42)) ≡ false
    → ((get_or ts at 0 == 42) && (get_or ts (at + 1) 0 == 47)) ≡ false → block_rest n (drop at ts) ≡ block_rest n (drop (at + 1) ts)
block_goes n at ts h a b =
    let e : at + 1 + 1 ≡ at + 2 = omega arith in
    let s : drop (at + 1) ts ≡ get_or ts (at + 1) 0 ∷ drop (at + 2) ts = drop_more ts (at + 1) 0 h ∙ ap (λ m. get_or ts (at + 1) 0 ∷ drop m ts) e in
    ap (block_rest n) (drop_two ts at h) ∙ (rw (a, b) (ap (block_rest n) (sym s)))

short_none : (n : ℕ) (l : List ℕ) → length l ≤ 1 → block_rest n l ≡ None
short_none n [] h = refl
short_none n (c ∷ []) h = refl
short_none n (c ∷ d ∷ l) h = absurd (omega arith)

pub block_ends : (n at : ℕ) (ts : List ℕ) → length ts ≤ at + 1 → block_rest n (drop at ts) ≡ None
block_ends n at ts h = short_none n (drop at ts) (omega (arith, length-drop at ts))
