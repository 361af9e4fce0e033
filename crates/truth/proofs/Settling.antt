-- What a settle makes of a docket. Assumes nothing.
use Rattle.std.proofs.Common.{◌-◌, ◌≡◌, ℕ, suc, ◌+◌, ◌*◌, ◌≤◌, List, [], ◌∷◌, ◌++◌, map, length, take, None, fold, All, sum, filter, Option, sym, refl, ap, ◌∙◌, subst, inl, arith}
use Rattle.std.proofs.lemmas.List.{length_push}
use Rattle.std.proofs.lemmas.Bool.{cond_both, false≢true}
use Rattle.std.proofs.lemmas.Bool.Decides.{not_from_Decides}
use Rattle.std.proofs.lemmas.List.Elements.{All-nil, All-cons, All-head, All-tail}
use Rattle.mdp.specs.Table.{Table}
use Rattle.truth.specs.Dockets.{Verdict, Open, Achieved, Refuted, Docket, judged, meets, is_open, priced, mixed, cleared, toward, pairings, settle_prices, settle_priced, settle_mixes, settled}
use Rattle.truth.specs.Calls.{Call, price, mix, clear, settle, Fault, refusal, if_taken, effect, ran}
use Rattle.truth.specs.Claims.{SettledAs, SettleVerdict, SettleFirst, settle_calls, SettleFits}
use Rattle.truth.proofs.Taken.{after_taken, taken_exactly}
use Rattle.truth.proofs.Rows.{rows_priced, row_of}
use Rattle.truth.proofs.Pairs.{NoneIn, First, first_cases, first_passes, none_pair, first_pair, pair_whole}
use Rattle.truth.proofs.Narrowing.{decides_open, Toward, prices_short, prices_toward, Gave, prices_gave}

-- a settle mixes where its pricings leave the docket open, and then the first pair that meets
pub mixes_cases : (e : Docket) (P : List (List ℕ) → Type 0) →
    let ps = pairings (length e.table) in
    (¬ (e.verdict ≡ Open) → P []) → (e.verdict ≡ Open → NoneIn (meets e) ps → P []) → (e.verdict ≡ Open → (ss : List ℕ) → First (meets e) ps ss → P (ss ∷ [])) → P (settle_mixes e)
unfolding settle_mixes
mixes_cases e P over none some =
    let v = e.verdict in
    let ps = pairings (length e.table) in
    cond_both (is_open v) (take 1 (filter (meets e) ps)) [] P
    (λ q. let o = (decides_open v).0 q in first_cases (meets e) ps P (none o) (some o))
    (λ q. over (not_from_Decides (is_open v) (decides_open v) q))

pub achieved : (e : Docket) (ss : List ℕ) → e.verdict ≡ Open → First (meets e) (pairings (length e.table)) ss → (mixed e ss).verdict ≡ Achieved ss
unfolding mixed
achieved e ss o f = λ i. judged (o i) (first_passes (meets e) (pairings (length e.table)) ss f i) (Achieved ss)

pub settle_verdict : SettleVerdict
settle_verdict t d =
    let e = settle_priced t d in
    mixes_cases e (λ sss. settle_mixes e ≡ sss → SettledAs t d (fold mixed e sss).verdict)
    (λ n q. over e.verdict n (prices_gave t d))
    (λ o none q. subst (SettledAs t d) (sym o) (subst (Gave t d.objectives (settle_prices t d)) o (prices_gave t d), none))
    (λ o ss f q.
    subst (SettledAs t d) (sym (achieved e ss o f))
    (subst (Gave t d.objectives (settle_prices t d)) o (prices_gave t d), q, first_passes (meets e) (pairings (length e.table)) ss f))
    refl
  where
    over : (v : Verdict) → ¬ (v ≡ Open) → Gave t d.objectives (settle_prices t d) v → SettledAs t d v
    over Open n g = absurd (n refl)
    over (Achieved ss) n g = absurd g
    over (Refuted ws c s) n g = g

pub settle_first : SettleFirst
settle_first t d =
    let e = settle_priced t d in
    let n = length e.table in (
      (λ v q o. none_pair n (meets e) (subst (SettledAs t d) v (settle_verdict t d)).1 q o),
      (λ ss v.
          let s = subst (SettledAs t d) v (settle_verdict t d) in
          let f = mixes_cases e (λ sss. sss ≡ ss ∷ [] → First (meets e) (pairings n) ss)
          (λ o q. absurd (false≢true (cc)))
          (λ o none q. absurd (false≢true (cc)))
          (λ o qs f q. subst (First (meets e) (pairings n)) (cc) f) s.1 in
          let (p, o, is, none) = first_pair n (meets e) ss f in
          (p, o, is, s.2, none)),
    )

-- ---- each pricing and mix that a settle makes would be taken as a call
module _ (t : Table) where
  -- every call of a run is taken
  abbrev AllTaken : Docket → List Call → Type 0
  AllTaken d [] = Unit {0}
  AllTaken d (c ∷ cs) = (refusal t d c ≡ None) × AllTaken (effect t d c) cs

  -- each where it stands
  at_place : (front back : List Call) (call : Call) (d : Docket) → AllTaken d (front ++ (call ∷ back)) → refusal t (ran t d front) call ≡ None
  at_place [] back call d h = h.0
  at_place (c ∷ front) back call d h = rw (after_taken t d c h.0) (at_place front back call (effect t d c) h.1)

  -- mixes
  mixes_taken : (d : Docket) → AllTaken d (map mix (settle_mixes d))
  mixes_taken d =
      mixes_cases d (λ sss. AllTaken d (map mix sss)) (λ o. tt) (λ o none. tt)
      (λ o ss f.
      let n = length d.table in
      let (p, in-n, is, none) = first_pair n (meets d) ss f in
      let w = pair_whole n p in-n in
      let l = ap length is in
      let s = ap sum is in
      (((taken_exactly t d).mix_if ss).1 (omega arith, omega arith, omega arith), tt))

  run_mixes : (sss : List (List ℕ)) (d : Docket) → AllTaken d (map mix sss) → ran t d (map mix sss) ≡ fold mixed d sss
  run_mixes [] d h = refl
  run_mixes (ss ∷ sss) d h = ap (λ e. ran t e (map mix sss)) (after_taken t d (mix ss) h.0) ∙ run_mixes sss (mixed d ss) h.1

  keep_mixes : (P : Docket → Type 0) → ((e : Docket) (ss : List ℕ) → refusal t e (mix ss) ≡ None → P e → P (mixed e ss)) →
      (sss : List (List ℕ)) (d : Docket) → AllTaken d (map mix sss) → P d → P (fold mixed d sss)
  keep_mixes P step [] d h p = p
  keep_mixes P step (ss ∷ sss) d h p = keep_mixes P step sss (mixed d ss) h.1 (step d ss h.0 p)

  -- pricings
  row_more : (d : Docket) (ws : List ℕ) → length (priced t d ws).table ≤ suc (length d.table)
  row_more d ws = rows_priced t d ws (λ rs. length rs ≤ suc (length d.table)) (λ q. omega arith) (λ q. omega (arith, length_push d.table (row_of t d ws)))

  rows_few : (wss : List (List ℕ)) (d : Docket) → length (fold (priced t) d wss).table ≤ length d.table + length wss
  rows_few [] d = omega arith
  rows_few (ws ∷ wss) d = omega (arith, rows_few wss (priced t d ws), row_more d ws)

  module _ (lent : ℕ) where
    abbrev to_price : List (List ℕ) → List Call
    to_price wss = map (λ ws. price ws lent) wss

    prices_taken : 2 * length t.states ≤ lent → (wss : List (List ℕ)) (cs : List Call) (d : Docket) → length d.objectives ≡ 2 → length d.table + length wss ≤ 16 →
        All (Toward t) wss → AllTaken (fold (priced t) d wss) cs → AllTaken d (to_price wss ++ cs)
    unfolding priced
    prices_taken rich [] cs d two room h r = r
    prices_taken rich (ws ∷ wss) cs d two room h r =
        let (a, small, e) = All-head (Toward t) ws wss h in
        let fits : refusal t d (price (toward a) lent) ≡ None =
        ((taken_exactly t d).price_if (toward a) lent).1 (record { each = sym two; small = All-cons (λ w. w ≤ 1000) a ((1000 - a) ∷ []) small (All-cons (λ w. w ≤ 1000) (1000 - a) [] (omega arith) (All-nil (λ w. w ≤ 1000))); some = omega arith }, rich, inl (omega arith)) in
        (rw e fits, prices_taken rich wss cs (priced t d ws) two (omega (arith, row_more d ws)) (All-tail (Toward t) ws wss h) r)

    run_prices : (wss : List (List ℕ)) (cs : List Call) (d : Docket) → AllTaken d (to_price wss ++ cs) → ran t d (to_price wss ++ cs) ≡ ran t (fold (priced t) d wss) cs
    run_prices [] cs d h = refl
    run_prices (ws ∷ wss) cs d h = ap (λ e. ran t e (to_price wss ++ cs)) (after_taken t d (price ws lent) h.0) ∙ run_prices wss cs (priced t d ws) h.1

    keep_prices : (P : Docket → Type 0) → ((e : Docket) (ws : List ℕ) → refusal t e (price ws lent) ≡ None → P e → P (priced t e ws)) →
        (wss : List (List ℕ)) (cs : List Call) (d : Docket) → AllTaken d (to_price wss ++ cs) → P d → P (fold (priced t) d wss)
    keep_prices P step [] cs d h p = p
    keep_prices P step (ws ∷ wss) cs d h p = keep_prices P step wss cs (priced t d ws) h.1 (step d ws h.0 p)

    -- all of a settle that is taken
    module _ (d : Docket) (taken : refusal t d (settle lent) ≡ None) where
      settle_taken : AllTaken (cleared d) (to_price (settle_prices t d) ++ map mix (settle_mixes (settle_priced t d)))
      settle_taken =
          let h = ((taken_exactly t d).settle_if lent).0 taken in
          let e = settle_priced t d in
          prices_taken h.0 (settle_prices t d) (map mix (settle_mixes e)) (cleared d) h.1 (omega (arith, prices_short t d)) (prices_toward t d) (mixes_taken e)

      -- what its steps keep, it keeps
      pub settle_keeps : (P : Docket → Type 0) → P (cleared d) →
          ((e : Docket) (ws : List ℕ) → refusal t e (price ws lent) ≡ None → P e → P (priced t e ws)) →
          ((e : Docket) (ss : List ℕ) → refusal t e (mix ss) ≡ None → P e → P (mixed e ss)) → P (settled t d)
      settle_keeps P first by-price by-mix =
          let e = settle_priced t d in
          keep_mixes P by-mix (settle_mixes e) e (mixes_taken e) (keep_prices P by-price (settle_prices t d) (map mix (settle_mixes e)) (cleared d) settle_taken first)

pub settle_fits : SettleFits
unfolding mixed
settle_fits t d lent taken =
    let wss = settle_prices t d in
    let e = settle_priced t d in
    let sss = settle_mixes e in
    let all = settle_taken t lent d taken in
    let calls : settle_calls t d lent ≡ clear ∷ (to_price t lent wss ++ map mix sss) =
    ap (λ (o : Option Fault). clear ∷ (to_price t lent (if_taken o wss []) ++ map mix (if_taken o sss []))) taken in
    let few : length e.table ≤ 12 = omega (arith, rows_few t wss (cleared d), prices_short t d) in (
      (λ front back call q. at_place t front back call d (subst (AllTaken t d) (sym calls ∙ q) (refl, all))),
      after_taken t d (settle lent) taken ∙ sym (run_prices t lent wss (map mix sss) (cleared d) all ∙ run_mixes t sss e (mixes_taken t e)) ∙ ap (ran t d) (sym calls),
      prices_short t d,
      mixes_cases e (λ sss. length (fold mixed e sss).table ≤ 12) (λ o. few) (λ o none. few) (λ o ss f. few),
    )
