-- The pricings of a settle: how they narrow in on target 0, and what they give. Assumes nothing.
use Rattle.std.proofs.Common.{◌≡◌, ℕ, zero, suc, ◌+◌, ◌-◌, ◌/◌, ◌^◌, ◌<◌, ◌≤◌, ◌&&◌, ltb, ◌⊎◌, List, [], ◌∷◌, ◌++◌, length, get_or, take, pos, ◌<ℤ◌, Decides, fold, All, Contains, sym, refl, ap, subst, inl, inr, arith}
use borrow.Author.Differences.{ints}
use lib.Signed.{le_z, lt_z}
use Rattle.std.proofs.lemmas.List.Elements.{All-nil, All-cons, All-head, All-tail, All-contains, All-contains_itself, Contains-append_left, Contains-push, Contains-push_cases}
use Rattle.std.proofs.lemmas.List.{length-append, append-nil, append_assoc}
use Rattle.std.proofs.lemmas.Bool.{cond_both, and_parts, and_cases, ltb-true, ltb-false, false≢true}
use Rattle.std.proofs.lemmas.Bool.Decides.{not_from_Decides}
use Rattle.mdp.specs.Table.{Table}
use Rattle.plans.specs.declared.Objective.{Objective}
use Rattle.plans.specs.Plans.{no_objective, target_sum}
use Rattle.truth.specs.Dockets.{Verdict, Open, Achieved, Refuted, Docket, ceiling, point, judged, is_open, priced, cleared, toward, bisected, settle_prices, settle_priced}
use Rattle.truth.specs.Claims.{NotBelow, Brings, SettleCloses, Halves, SettleHalves}
use Rattle.truth.proofs.Tests.{decides_leZ, decides_ltZ}

pub decides_open : (v : Verdict) → Decides (is_open v) (v ≡ Open)
decides_open Open = ((λ e. refl), (λ e. refl))
decides_open (Achieved ss) = ((λ e. absurd (false≢true e)), (λ e. cc))
decides_open (Refuted ws c s) = ((λ e. absurd (false≢true e)), (λ e. cc))

module _ (t : Table) where
  -- the bisections from lo and hi on: each of an open docket, at the middle, and then in the half that target 0 asks for
  abbrev Narrows : Docket → ℕ → ℕ → List (List ℕ) → Type 0
  Narrows d lo hi [] = (hi - lo ≤ 1) ⊎ (¬ (d.verdict ≡ Open))
  Narrows d lo hi (ws ∷ wss) =
      let a = (lo + hi) / 2 in
      (1 < hi - lo) × (d.verdict ≡ Open) × (ws ≡ toward a)
      × ((Brings t d.objectives a × Narrows (priced t d ws) lo a wss) ⊎ ((¬ Brings t d.objectives a) × Narrows (priced t d ws) a hi wss))

  bisected_narrows : (n : ℕ) (d : Docket) (lo hi : ℕ) → hi - lo ≤ suc n → Narrows d lo hi (bisected t n d lo hi)
  unfolding bisected
  bisected_narrows zero d lo hi h = inl (omega arith)
  bisected_narrows (suc n) d lo hi h =
      let a = (lo + hi) / 2 in
      let next = priced t d (toward a) in
      let want = (get_or d.objectives 0 no_objective).target in
      let got = get_or (point t d.objectives (toward a)) 0 (pos 0) in
      cond_both (ltb 1 (hi - lo) && is_open d.verdict) _ [] (Narrows d lo hi)
      (λ e.
      let p = and_parts (ltb 1 (hi - lo)) (is_open d.verdict) e in
      let w = ltb-true 1 (hi - lo) p.0 in (
        w,
        (decides_open d.verdict).0 p.1,
        refl,
        cond_both (le_z want got) (bisected t n next lo a) (bisected t n next a hi)
            (λ wss. (Brings t d.objectives a × Narrows next lo a wss) ⊎ ((¬ Brings t d.objectives a) × Narrows next a hi wss))
            (λ r. inl ((decides_leZ want got).0 r, bisected_narrows n next lo a (omega arith)))
            (λ r. inr (not_from_Decides (le_z want got) (decides_leZ want got) r, bisected_narrows n next a hi (omega arith))),
      ))
      (λ e.
      elim (and_cases (ltb 1 (hi - lo)) (is_open d.verdict) e)
      [ inl x ↦ inl (ltb-false 1 (hi - lo) x) | inr y ↦ inr (not_from_Decides (is_open d.verdict) (decides_open d.verdict) y) ])

  -- a docket that settle has priced at both ends
  abbrev both_ends : Docket → Docket
  both_ends d = priced t (priced t (cleared d) (toward 0)) (toward 1000)

  -- the weights that a settle prices: (0, 1000), and while the docket is open (1000, 0) and the bisections
  prices_cases : (d : Docket) (P : List (List ℕ) → Type 0) →
      let v = (priced t (cleared d) (toward 0)).verdict in
      (¬ (v ≡ Open) → P (toward 0 ∷ [])) →
      (v ≡ Open → (wss : List (List ℕ)) → Narrows (both_ends d) 0 1000 wss → P (toward 0 ∷ toward 1000 ∷ wss)) →
      P (settle_prices t d)
  unfolding settle_prices
  prices_cases d P over more =
      let v = (priced t (cleared d) (toward 0)).verdict in
      let two = both_ends d in
      cond_both (is_open v) (toward 1000 ∷ bisected t 1000 two 0 1000) [] (λ wss. P (toward 0 ∷ wss))
      (λ e. more ((decides_open v).0 e) (bisected t 1000 two 0 1000) (bisected_narrows 1000 two 0 1000 (omega arith)))
      (λ e. over (not_from_Decides (is_open v) (decides_open v) e))

  -- ---- at most 12, each toward some a
  narrows_short : (m : ℕ) (wss : List (List ℕ)) (d : Docket) (lo hi : ℕ) → hi - lo ≤ 2 ^ m → Narrows d lo hi wss → length wss ≤ m
  narrows_short m [] d lo hi h n = omega arith
  narrows_short zero (ws ∷ wss) d lo hi h n = absurd (omega (arith, n.0))
  narrows_short (suc m) (ws ∷ wss) d lo hi h (w, o, e, inl (b, r)) = omega (arith, narrows_short m wss (priced t d ws) lo ((lo + hi) / 2) (omega arith) r)
  narrows_short (suc m) (ws ∷ wss) d lo hi h (w, o, e, inr (b, r)) = omega (arith, narrows_short m wss (priced t d ws) ((lo + hi) / 2) hi (omega arith) r)

  pub prices_short : (d : Docket) → length (settle_prices t d) ≤ 12
  prices_short d =
      prices_cases d (λ wss. length wss ≤ 12) (λ v. omega arith)
      (λ v wss n. omega (arith, narrows_short 10 wss (both_ends d) 0 1000 (omega arith) n))

  abbrev pub Toward : List ℕ → Type 0
  Toward ws = (a : ℕ) × (a ≤ 1000) × (ws ≡ toward a)

  narrows_toward : (wss : List (List ℕ)) (d : Docket) (lo hi : ℕ) → hi ≤ 1000 → Narrows d lo hi wss → All Toward wss
  narrows_toward [] d lo hi h n = All-nil Toward
  narrows_toward (ws ∷ wss) d lo hi h (w, o, e, inl (b, r)) = All-cons Toward ws wss ((lo + hi) / 2, omega arith, e) (narrows_toward wss (priced t d ws) lo ((lo + hi) / 2) (omega arith) r)
  narrows_toward (ws ∷ wss) d lo hi h (w, o, e, inr (b, r)) = All-cons Toward ws wss ((lo + hi) / 2, omega arith, e) (narrows_toward wss (priced t d ws) ((lo + hi) / 2) hi h r)

  pub prices_toward : (d : Docket) → All Toward (settle_prices t d)
  prices_toward d =
      prices_cases d (All Toward) (λ v. All-cons Toward (toward 0) [] (0, omega arith, refl) (All-nil Toward))
      (λ v wss n. All-cons Toward (toward 0) (toward 1000 ∷ wss) (0, omega arith, refl) (All-cons Toward (toward 1000) wss (1000, omega arith, refl) (narrows_toward wss (both_ends d) 0 1000 (omega arith) n)))

  -- ---- each is of an open docket, so only the last can refute
  abbrev WhileOpen : Docket → List (List ℕ) → Type 0
  WhileOpen d [] = Unit {0}
  WhileOpen d (ws ∷ wss) = (d.verdict ≡ Open) × WhileOpen (priced t d ws) wss

  narrows_open : (wss : List (List ℕ)) (d : Docket) (lo hi : ℕ) → Narrows d lo hi wss → WhileOpen d wss
  narrows_open [] d lo hi n = tt
  narrows_open (ws ∷ wss) d lo hi (w, o, e, inl (b, r)) = (o, narrows_open wss (priced t d ws) lo ((lo + hi) / 2) r)
  narrows_open (ws ∷ wss) d lo hi (w, o, e, inr (b, r)) = (o, narrows_open wss (priced t d ws) ((lo + hi) / 2) hi r)

  -- what pricings gave an open docket
  abbrev pub Gave : List Objective → List (List ℕ) → Verdict → Type 0
  Gave os wss Open = All (NotBelow t os) wss
  Gave os wss (Achieved ss) = ⊥
  Gave os wss (Refuted ws c s) =
      (front : List (List ℕ)) × (wss ≡ front ++ (ws ∷ [])) × All (NotBelow t os) front × (c ≡ ceiling t os ws) × (s ≡ target_sum ws os) × (c <ℤ s)

  gave_more : (os : List Objective) (ws : List ℕ) (wss : List (List ℕ)) (v : Verdict) → NotBelow t os ws → Gave os wss v → Gave os (ws ∷ wss) v
  gave_more os ws wss Open h g = All-cons (NotBelow t os) ws wss h g
  gave_more os ws wss (Achieved ss) h g = g
  gave_more os ws wss (Refuted qs c s) h (front, e, a, b, x, y) = (ws ∷ front, ap (λ xs. ws ∷ xs) e, All-cons (NotBelow t os) ws front h a, b, x, y)

  -- an open docket after one pricing
  one_priced : (d : Docket) (ws : List ℕ) (P : Verdict → Type 0) → d.verdict ≡ Open →
      let c = ceiling t d.objectives ws in
      let s = target_sum ws d.objectives in
      (c <ℤ s → P (Refuted ws c s)) → (NotBelow t d.objectives ws → P Open) → P (priced t d ws).verdict
  unfolding priced
  one_priced d ws P e low high =
      let c = ceiling t d.objectives ws in
      let s = target_sum ws d.objectives in
      subst (λ v. P (judged v (lt_z c s) (Refuted ws c s))) (sym e)
      (cond_both (lt_z c s) (Refuted ws c s) Open P (λ q. low ((decides_ltZ c s).0 q)) (λ q. high (omega (arith, ints))))

  gave : (ws : List ℕ) (wss : List (List ℕ)) (d : Docket) → WhileOpen d (ws ∷ wss) → Gave d.objectives (ws ∷ wss) (fold (priced t) d (ws ∷ wss)).verdict
  unfolding priced
  gave ws [] d (e, w) = one_priced d ws (Gave d.objectives (ws ∷ [])) e (λ l. ([], refl, All-nil (NotBelow t d.objectives), refl, refl, l)) (λ h. All-cons (NotBelow t d.objectives) ws [] h (All-nil (NotBelow t d.objectives)))
  gave ws (x ∷ wss) d (e, w) =
      let high = one_priced d ws (λ v. v ≡ Open → NotBelow t d.objectives ws) e (λ l q. absurd (false≢true (cc))) (λ h q. h) w.0 in
      gave_more d.objectives ws (x ∷ wss) (fold (priced t) (priced t d ws) (x ∷ wss)).verdict high (gave x wss (priced t d ws) w)

  pub prices_gave : (d : Docket) → Gave d.objectives (settle_prices t d) (settle_priced t d).verdict
  prices_gave d =
      prices_cases d (λ wss. Gave d.objectives wss (fold (priced t) (cleared d) wss).verdict) (λ v. gave (toward 0) [] (cleared d) (refl, tt))
      (λ v wss n. gave (toward 0) (toward 1000 ∷ wss) (cleared d) (refl, (v, narrows_open wss (both_ends d) 0 1000 n)))

  -- ---- they close in on target 0
  abbrev Low : List Objective → ℕ → Type 0
  Low os a = (a ≡ 0) ⊎ (¬ Brings t os a)

  abbrev High : List Objective → ℕ → Type 0
  High os a = (a ≡ 1000) ⊎ Brings t os a

  abbrev Between : List Objective → (List ℕ → Type 0) → Type 0
  Between os Q = (a : ℕ) × Q (toward a) × Q (toward (suc a)) × Low os a × High os (suc a)

  narrows_closes : (Q : List ℕ → Type 0) (wss : List (List ℕ)) (d : Docket) (lo hi : ℕ) → lo < hi → Narrows d lo hi wss → (fold (priced t) d wss).verdict ≡ Open →
      Q (toward lo) → Q (toward hi) → Low d.objectives lo → High d.objectives hi → All Q wss → Between d.objectives Q
  unfolding priced
  narrows_closes Q [] d lo hi l n v ql qh low high h =
      elim n [
        | inl x ↦ (let e : hi ≡ suc lo = omega arith in (lo, ql, subst (λ b. Q (toward b)) e qh, low, subst (High d.objectives) e high))
        | inr y ↦ absurd (y v)
      ]
  narrows_closes Q (ws ∷ wss) d lo hi l (w, o, e, inl (b, r)) v ql qh low high h =
      narrows_closes Q wss (priced t d ws) lo ((lo + hi) / 2) (omega arith) r v ql (subst Q e (All-head Q ws wss h)) low (inr b) (All-tail Q ws wss h)
  narrows_closes Q (ws ∷ wss) d lo hi l (w, o, e, inr (b, r)) v ql qh low high h =
      narrows_closes Q wss (priced t d ws) ((lo + hi) / 2) hi (omega arith) r v (subst Q e (All-head Q ws wss h)) qh (inr b) high (All-tail Q ws wss h)

  -- ---- each is in the middle of a gap between two that were priced
  abbrev Gap : List Objective → List (List ℕ) → ℕ → ℕ → Type 0
  Gap os before lo hi =
      Contains before (toward lo) × Contains before (toward hi) × ((b : ℕ) → lo < b → b < hi → ¬ Contains before (toward b)) × Low os lo × High os hi

  abbrev InMiddle : List Objective → List (List ℕ) → List ℕ → Type 0
  InMiddle os before ws = (a : ℕ) × (ws ≡ toward a) × Halves t os before a

  narrows_halves : (front back : List (List ℕ)) (ws : List ℕ) (before : List (List ℕ)) (d : Docket) (lo hi : ℕ) →
      Narrows d lo hi (front ++ (ws ∷ back)) → Gap d.objectives before lo hi → InMiddle d.objectives (before ++ front) ws
  unfolding priced
  narrows_halves [] back ws before d lo hi (w, o, e, r) (gl, gh, none, low, high) =
      rw append-nil (
        (lo + hi) / 2,
        e,
        record { low = lo; high = hi; apart = omega arith; middle = refl; low_priced = gl; high_priced = gh; none_between = none; low_short = low; high_brings = high },
      )
  narrows_halves (x ∷ front) back ws before d lo hi (w, o, e, r) (gl, gh, none, low, high) =
      let a = (lo + hi) / 2 in
      let now = before ++ x ∷ [] in
      let here : Contains now (toward a) = subst (Contains now) e (Contains-push before x) in
      let fresh : (b : ℕ) → lo < b → b < hi → ¬ (a ≡ b) → ¬ Contains now (toward b) =
      λ b l h n has. elim (Contains-push_cases before x (toward b) has) [ inl p ↦ none b l h p | inr q ↦ n (cc) ] in
      subst (λ now. InMiddle d.objectives now ws) (append_assoc before (x ∷ []) front)
      (elim r [
        | inl (br, r) ↦
            narrows_halves front back ws now (priced t d x) lo a r
            (Contains-append_left before (x ∷ []) (toward lo) gl, here, (λ b l h. fresh b l (omega arith) (omega arith)), low, inr br)
        | inr (br, r) ↦
            narrows_halves front back ws now (priced t d x) a hi r
            (here, Contains-append_left before (x ∷ []) (toward hi) gh, (λ b l h. fresh b (omega arith) h (omega arith)), inr br, high)
      ])

  ends_gap : (os : List Objective) → Gap os (toward 0 ∷ toward 1000 ∷ []) 0 1000
  ends_gap os =
      let ends = toward 0 ∷ toward 1000 ∷ [] in
      let each = All-contains_itself ends in
      let none : (b : ℕ) → 0 < b → b < 1000 → ¬ Contains ends (toward b) =
      λ b l h has.
      let Other : List ℕ → Type 0 = λ ws. ¬ (ws ≡ toward b) in
      let others = All-cons Other (toward 0) (toward 1000 ∷ []) (λ e. let z : 0 ≡ b = cc in omega arith)
      (All-cons Other (toward 1000) [] (λ e. let z : 1000 ≡ b = cc in omega arith) (All-nil Other)) in
      All-contains Other ends (toward b) others has refl in
      let first = All-head (Contains ends) (toward 0) (toward 1000 ∷ []) each in
      let last = All-head (Contains ends) (toward 1000) [] (All-tail (Contains ends) (toward 0) (toward 1000 ∷ []) each) in
      (first, last, none, inl refl, inl refl)

  after_ends : (d : Docket) (front back : List (List ℕ)) (ws : List ℕ) (wss : List (List ℕ)) → Narrows (both_ends d) 0 1000 wss →
      toward 0 ∷ toward 1000 ∷ wss ≡ front ++ (ws ∷ back) → 2 ≤ length front → InMiddle d.objectives front ws
  unfolding priced
  after_ends d [] back ws wss n e l = absurd (omega arith)
  after_ends d (x ∷ []) back ws wss n e l = absurd (omega arith)
  after_ends d (x ∷ y ∷ front) back ws wss n e l =
      let os = d.objectives in
      let rest : wss ≡ front ++ (ws ∷ back) = cc in
      let ends : toward 0 ∷ toward 1000 ∷ [] ≡ x ∷ y ∷ [] = cc in
      narrows_halves front back ws (x ∷ y ∷ []) (both_ends d) 0 1000 (subst (Narrows (both_ends d) 0 1000) rest n) (subst (λ before. Gap os before 0 1000) ends (ends_gap os))

pub settle_closes : SettleCloses
unfolding priced
settle_closes t d =
    prices_cases t d
    (λ wss. (fold (priced t) (cleared d) wss).verdict ≡ Open → (take 2 wss ≡ toward 0 ∷ toward 1000 ∷ []) × Between t d.objectives (Contains wss))
    (λ n v. absurd (n v))
    (λ o wss n v.
    let all = toward 0 ∷ toward 1000 ∷ wss in
    let h = All-contains_itself all in
    let rest = All-tail (Contains all) (toward 0) (toward 1000 ∷ wss) h in (
      refl,
      narrows_closes t (Contains all) wss (both_ends t d) 0 1000 (omega arith) n v (All-head (Contains all) (toward 0) (toward 1000 ∷ wss) h) (All-head (Contains all) (toward 1000) wss rest)
          (inl refl) (inl refl) (All-tail (Contains all) (toward 1000) wss rest),
    ))

pub settle_halves : SettleHalves
settle_halves t d front back ws =
    prices_cases t d (λ wss. wss ≡ front ++ (ws ∷ back) → 2 ≤ length front → InMiddle t d.objectives front ws)
    (λ n e l. absurd (omega (arith, ap length e, length-append front (ws ∷ back))))
    (λ o wss n. after_ends t d front back ws wss n)
