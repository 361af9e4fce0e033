-- The mixture of the rows with positive shares. Assumes nothing.
use Rattle.std.proofs.Common.{◌≡◌, ℕ, ◌≤◌, cond, ltb, List, [], ◌∷◌, ◌++◌, map, length, get_or, ℤ, pos, ◌+ℤ◌, All, sum, refl, ap, arith}
use borrow.Author.Differences.{same_in, same_out, sum_is_lem, product_is}
use Rattle.std.proofs.lemmas.List.Elements.{All-nil, All-cons, All-head, All-tail}
use Rattle.std.proofs.lemmas.List.Sums.{sum_by-cons}
use Rattle.std.proofs.lemmas.Bool.{cond_both, ltb-true, ltb-false}
use Rattle.mdp.specs.Table.{Table, Facts}
use Rattle.plans.specs.declared.Objective.{Objective}
use Rattle.plans.specs.Totals.{◌·◌, weight_sum, total}
use Rattle.plans.specs.Plans.{Mixture}
use Rattle.plans.specs.Claims.{Candidate, candidate_share, planned}
use Rattle.plans.proofs.Reach.{mixture_valid}
use Rattle.truth.specs.Dockets.{Priced, point, part_sum, backed}

backed_shares : (ss : List ℕ) (rs : List Priced) → All (λ c. 1 ≤ c.share) (backed ss rs)
backed_shares [] rs = All-nil (λ (c : Candidate). 1 ≤ c.share)
backed_shares (s ∷ ss) [] = All-nil (λ (c : Candidate). 1 ≤ c.share)
backed_shares (s ∷ ss) (r ∷ rs) =
    cond_both (ltb 0 s) (record { share = s; weights = r.weights } ∷ backed ss rs) (backed ss rs) (All (λ c. 1 ≤ c.share))
    (λ e. All-cons (λ (c : Candidate). 1 ≤ c.share) _ (backed ss rs) (ltb-true 0 s e) (backed_shares ss rs)) (λ e. backed_shares ss rs)

-- a later row has no share
pub backed_more : (ss : List ℕ) (rs qs : List Priced) → length ss ≤ length rs → backed ss (rs ++ qs) ≡ backed ss rs
backed_more [] rs qs h = refl
backed_more (s ∷ ss) [] qs h = absurd (omega arith)
backed_more (s ∷ ss) (r ∷ rs) qs h = ap (λ cs. cond (ltb 0 s) (record { share = s; weights = r.weights } ∷ cs) cs) (backed_more ss rs qs (omega arith))

pub backed_sum : (ss : List ℕ) (rs : List Priced) → length ss ≡ length rs → weight_sum candidate_share (backed ss rs) ≡ sum ss
backed_sum [] [] h = refl
backed_sum [] (r ∷ rs) h = absurd (omega arith)
backed_sum (s ∷ ss) [] h = absurd (omega arith)
backed_sum (s ∷ ss) (r ∷ rs) h =
    let i = backed_sum ss rs (omega arith) in
    let all = sum_by-cons (λ x. x) s ss in
    cond_both (ltb 0 s) (record { share = s; weights = r.weights } ∷ backed ss rs) (backed ss rs) (λ cs. weight_sum candidate_share cs ≡ sum (s ∷ ss))
    (λ e. omega arith) (λ e. omega (arith, ltb-false 0 s e))

pub backed_parts : (t : Table) (os : List Objective) (i : ℕ) (ss : List ℕ) (rs : List Priced) → length ss ≡ length rs → All (λ r. r.point ≡ point t os r.weights) rs →
    total candidate_share (λ j c. get_or (point t os c.weights) i (pos 0)) (backed ss rs) ≡ part_sum ss rs i
backed_parts t os i [] [] h told = refl
backed_parts t os i [] (r ∷ rs) h told = absurd (omega arith)
backed_parts t os i (s ∷ ss) [] h told = absurd (omega arith)
backed_parts t os i (s ∷ ss) (r ∷ rs) h told =
    let Told : Priced → Type 0 = λ r. r.point ≡ point t os r.weights in
    let g = backed_parts t os i ss rs (omega arith) (All-tail Told r rs told) in
    let p = get_or r.point i (pos 0) in
    cond_both (ltb 0 s) (record { share = s; weights = r.weights } ∷ backed ss rs) (backed ss rs)
    (λ cs. total candidate_share (λ j c. get_or (point t os c.weights) i (pos 0)) cs ≡ s · p +ℤ part_sum ss rs i)
    (λ e. let a = ap (λ (ps : List ℤ). s · get_or ps i (pos 0)) (All-head Told r rs told) in omega (arith, same_in, same_out, sum_is_lem))
    (λ e.
    let z : s ≡ 0 = omega (arith, ltb-false 0 s e) in
    let a = ap (λ (n : ℕ). n · p) z in
    omega (arith, same_in, same_out, sum_is_lem, product_is))

pub backed_mixture : (t : Table) (os : List Objective) → Facts t → (ss : List ℕ) (rs : List Priced) → length ss ≡ length rs → 1 ≤ sum ss → Mixture t os (map (planned t os) (backed ss rs))
backed_mixture t os facts ss rs h some =
    mixture_valid t os (backed ss rs) facts (by (backed ss rs) (omega (arith, backed_sum ss rs h))) (backed_shares ss rs)
  where
    by : (cs : List Candidate) → 1 ≤ weight_sum candidate_share cs → 1 ≤ length cs
    by [] l = l
    by (c ∷ cs) l = omega arith
