-- Lists of numbers, each once.
use Rattle.std.proofs.Common.{◌≡◌, ℕ, ◌==◌, List, [], ◌∷◌, ◌++◌, Bool, true, false, ◌||◌, if◌then◌else◌, refl, sym, ap, ◌∙◌, append_assoc, append-nil}
use Rattle.std.proofs.lemmas.Bool.Decides.{Decides-eqb}
use Rattle.rx_lower_walks.specs.Pieces.{without, distinct}
use Rattle.rx_lower_walks.specs.Sums.{has, joined}
use Rattle.rx_lower_walks.proofs.Agrees.{has_both, or_false}

-- those that the first list does not have
abbrev less : List ℕ → List ℕ → List ℕ
less ls [] = []
less ls (m ∷ ms) = if has m ls then less ls ms else m ∷ less ls ms

less_none : (ms : List ℕ) → less [] ms ≡ ms
less_none [] = refl
less_none (m ∷ ms) = ap (λ l. m ∷ l) (less_none ms)

less_more : (ls : List ℕ) (p : ℕ) (ms : List ℕ) → less (ls ++ p ∷ []) ms ≡ less ls (without p ms)
less_more ls p [] = refl
less_more ls p (m ∷ ms) =
    ap (λ (b : Bool). if b then less (ls ++ p ∷ []) ms else m ∷ less (ls ++ p ∷ []) ms) (has_both m ls (p ∷ []) ∙ ap (λ (b : Bool). has m ls || b) (or_false (m == p)))
    ∙ ap (λ (r : List ℕ). if has m ls || (m == p) then r else m ∷ r) (less_more ls p ms)
    ∙ by (m == p) (has m ls) refl
  where
    by : (b c : Bool) → has m ls ≡ c → (if c || b then less ls (without p ms) else m ∷ less ls (without p ms)) ≡ less ls (if b then without p ms else m ∷ without p ms)
    by true true e = refl
    by true false e = refl
    by false true e = rw e refl
    by false false e = rw e refl

less_same : (ls : List ℕ) (p : ℕ) (ms : List ℕ) → has p ls ≡ true → less ls (without p ms) ≡ less ls ms
less_same ls p [] h = refl
less_same ls p (m ∷ ms) h = by (m == p) refl (less_same ls p ms h)
  where
    by : (b : Bool) → (m == p) ≡ b → less ls (without p ms) ≡ less ls ms
        → less ls (if b then without p ms else m ∷ without p ms) ≡ (if has m ls then less ls ms else m ∷ less ls ms)
    by true e r = let d : m ≡ p = (Decides-eqb m p).0 e in let k : has m ls ≡ true = ap (λ n. has n ls) d ∙ h in rw k r
    by false e r = ap (λ (l : List ℕ). if has m ls then l else m ∷ l) r

joined_less : (ls ms : List ℕ) → joined ls ms ≡ ls ++ less ls (distinct ms)
joined_less ls [] = sym (append-nil ls)
joined_less ls (m ∷ ms) = by (has m ls) refl (joined_less ls ms) (joined_less (ls ++ m ∷ []) ms)
  where
    by : (b : Bool) → has m ls ≡ b → joined ls ms ≡ ls ++ less ls (distinct ms) → joined (ls ++ m ∷ []) ms ≡ (ls ++ m ∷ []) ++ less (ls ++ m ∷ []) (distinct ms)
        → joined (if b then ls else ls ++ m ∷ []) ms ≡ ls ++ (if b then less ls (without m (distinct ms)) else m ∷ less ls (without m (distinct ms)))
    by true e r s = r ∙ ap (λ l. ls ++ l) (sym (less_same ls m (distinct ms) e))
    by false e r s = s ∙ append_assoc ls (m ∷ []) _ ∙ ap (λ l. ls ++ m ∷ l) (less_more ls m (distinct ms))

pub joined_distinct : (ms : List ℕ) → joined [] ms ≡ distinct ms
joined_distinct ms = joined_less [] ms ∙ less_none (distinct ms)
