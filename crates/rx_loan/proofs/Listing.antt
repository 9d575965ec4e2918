-- The loans of sites, one after the other.
use Rattle.std.proofs.Common.{◌≡◌, ℕ, ◌+◌, ◌<◌, ◌≤◌, List, [], ◌∷◌, ◌++◌, length, drop, get_or, map, refl, ap, sym, ◌∙◌}
use Rattle.std.proofs.lemmas.List.{drop_more, append_assoc, append-nil}
use Rattle.rx_lower_walks.specs.Graph as graph
use Rattle.rx_lower_walks.specs.PlainSite.{plain-Site}
use Rattle.rx_lower_walks.specs.declared.site.Site.{Site}
use Rattle.rx_lower_lifetimes.specs.PlainOwn.{plain-Own}
use Rattle.rx_lower_lifetimes.specs.declared.numbering.Own.{Own}
use Rattle.rx_loan.specs.Accesses.{Loan}
use Rattle.rx_loan.specs.Loans.{loan_at, loans_from, loans_of}
use Rattle.rx_lower_walks.proofs.Fronts.{none_left}

-- what is left to list
abbrev pub left : List Site → List Own → ℕ → List Loan
left sites owned k = loans_from k (map plain-Site (drop k sites)) (map plain-Own (drop k owned))

abbrev pub Listing : List Site → List Own → ℕ → List Loan → Type 0
Listing sites owned k ls = ls ++ left sites owned k ≡ loans_of (map plain-Site sites) (map plain-Own owned)

pub list_next : (sites : List Site) (owned : List Own) (k : ℕ) (s : Site) (o : Own) (ls more ms : List Loan) → k < length sites → k < length owned
    → s ≡ get_or sites k s → o ≡ get_or owned k o → more ≡ loan_at k (plain-Site s).action.act (plain-Own o) → ms ≡ ls ++ more
    → Listing sites owned k ls → Listing sites owned (k + 1) ms
list_next sites owned k s o ls more ms within there is_s is_o is_more is before =
    ap (λ l. l ++ left sites owned (k + 1)) (is ∙ ap (λ m. ls ++ m) is_more)
    ∙ append_assoc ls (loan_at k (plain-Site s).action.act (plain-Own o)) (left sites owned (k + 1))
    ∙ ap (λ l. ls ++ l) (sym step) ∙ before where
      step : left sites owned k ≡ loan_at k (plain-Site s).action.act (plain-Own o) ++ left sites owned (k + 1)
      step = ap (λ l. loans_from k (map plain-Site l) (map plain-Own (drop k owned))) (drop_more sites k s within ∙ ap (λ x. x ∷ drop (k + 1) sites) (sym is_s))
          ∙ ap (λ l. loans_from k (plain-Site s ∷ map plain-Site (drop (k + 1) sites)) (map plain-Own l)) (drop_more owned k o there ∙ ap (λ x. x ∷ drop (k + 1) owned) (sym is_o))

pub no_site_left : (sites : List Site) (owned : List Own) (k : ℕ) (ls : List Loan) → length sites ≤ k → Listing sites owned k ls
    → ls ≡ loans_of (map plain-Site sites) (map plain-Own owned)
no_site_left sites owned k ls past before = sym (append-nil ls) ∙ ap (λ l. ls ++ l) (sym none) ∙ before where
  none : left sites owned k ≡ []
  none = ap (λ l. loans_from k (map plain-Site l) (map plain-Own (drop k owned))) (none_left sites k past)

pub no_own_left : (sites : List Site) (owned : List Own) (k : ℕ) (ls : List Loan) → length owned ≤ k → Listing sites owned k ls
    → ls ≡ loans_of (map plain-Site sites) (map plain-Own owned)
no_own_left sites owned k ls past before = sym (append-nil ls) ∙ ap (λ l. ls ++ l) (sym none) ∙ before where
  nothing : (g : List graph.Site) → loans_from k g [] ≡ []
  nothing [] = refl
  nothing (s ∷ g) = refl

  none : left sites owned k ≡ []
  none = ap (λ l. loans_from k (map plain-Site (drop k sites)) (map plain-Own l)) (none_left owned k past) ∙ nothing (map plain-Site (drop k sites))
