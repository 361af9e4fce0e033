-- The pricings of a settle, as the code makes them. Assumes nothing.
use Rattle.std.proofs.Common.{◌≡◌, ℕ, zero, suc, ◌+◌, ◌-◌, ◌/◌, ◌<◌, ◌≤◌, Bool, true, false, cond, ◌&&◌, ltb, List, [], ◌∷◌, length, None, fold, sym, refl, ap, ◌∙◌, inl, arith}
use Rattle.std.proofs.lemmas.List.{length_push}
use Rattle.std.proofs.lemmas.List.Elements.{All-nil, All-cons}
use Rattle.std.proofs.lemmas.Bool.{lt-ltb, and_from}
use Rattle.mdp.specs.declared.Model.{Ghosts}
use Rattle.plans.specs.declared.Row.{Row}
use Rattle.truth.specs.Dockets.{is_open, priced, cleared, toward, bisected, settle_prices}
use Rattle.truth.specs.Calls.{Call, price, refusal, after, if_taken}
use Rattle.truth.proofs.Rows.{row_of, rows_priced}
use Rattle.truth.proofs.Taken.{taken_exactly, after_taken}
use Rattle.truth.proofs.Narrowing.{prices_short}
use Rattle.verdict.proofs.Refused.{if_none}
use Rattle.docket.specs.declared.docket.Docket as code
use Rattle.docket.specs.declared.docket.settling.Settling.{Settling}
use Rattle.docket.specs.Views.{view}
use Rattle.docket.specs.Pricing.{priced_rows}
use Rattle.docket.specs.Settling.{all_priced_rows}
use Rattle.docket.specs.Stages.{Stage, stage, Room, brings, after_price, after_prices, bisections, prices_on, priced_anew}

-- a pricing toward the first objective is taken where there is room
module _ {M : Type 0} {m : Ghosts M} (s : Settling M m) (a : ℕ) (room : Room (stage s) 1) (small : a ≤ 1000) where
  abbrev call : Call
  call = price (toward a) (length s.rows.now)

  toward_taken : refusal (stage s).table (stage s).docket call ≡ None
  toward_taken =
      ((taken_exactly (stage s).table (stage s).docket).price_if (toward a) (length s.rows.now)).1 (
        record {
          each = sym s.two;
          small = All-cons (λ w. w ≤ 1000) a ((1000 - a) ∷ []) small (All-cons (λ w. w ≤ 1000) (1000 - a) [] (omega arith) (All-nil (λ w. w ≤ 1000)));
          some = omega (arith, small);
        },
        s.lent,
        inl (omega (arith, room)),
      )

  pub toward_leads : (d : code.Docket M) (rs : List Row) → d.model ≡ s.docket.now.model → view d ≡ after (stage s).table (stage s).docket call →
      rs ≡ if_taken (refusal (stage s).table (stage s).docket call) (priced_rows (stage s).table (stage s).docket.objectives (toward a) s.rows.now) s.rows.now →
      record (stage s) { model = d.model; table = m.table d.model; docket = view d; rows = rs } ≡ after_price (stage s) (toward a)
  toward_leads d rs x y z =
      let docket_is = y ∙ after_taken (stage s).table (stage s).docket call toward_taken in
      let rows_is = z ∙ if_none (refusal (stage s).table (stage s).docket call) (priced_rows (stage s).table (stage s).docket.objectives (toward a) s.rows.now) s.rows.now toward_taken in
      λ i. record (stage s) { model = x i; table = m.table (x i); docket = docket_is i; rows = rows_is i }

abbrev pub middle : ℕ → ℕ → ℕ
middle lo hi = (lo + hi) / 2

module _ {M : Type 0} where
  pub all_priced : (s : Stage M) (wss : List (List ℕ)) →
      after_prices s wss ≡ record s { docket = fold (priced s.table) s.docket wss; rows = all_priced_rows s.table s.docket.objectives s.rows wss }
  unfolding priced
  all_priced s [] = refl
  all_priced s (ws ∷ wss) = all_priced (after_price s ws) wss

  -- a pricing adds at most one row
  row_more : (s : Stage M) (ws : List ℕ) → length (after_price s ws).docket.table ≤ length s.docket.table + 1
  row_more s ws =
      rows_priced s.table s.docket ws (λ rs. length rs ≤ length s.docket.table + 1) (λ e. omega arith)
      (λ e. omega (arith, length_push s.docket.table (row_of s.table s.docket ws)))

  -- the bisections between lo and hi, at most n
  abbrev between : ℕ → Stage M → ℕ → ℕ → List (List ℕ)
  between n s lo hi = bisected s.table n s.docket lo hi

  abbrev wants : Stage M → ℕ → ℕ → Bool
  wants s lo hi = ltb 1 (hi - lo) && is_open s.docket.verdict

  abbrev halfway : Stage M → ℕ → ℕ → Stage M
  halfway s lo hi = after_price s (toward (middle lo hi))

  -- the middle, and then the lower half or the upper
  abbrev onward : ℕ → Stage M → ℕ → ℕ → Bool → List (List ℕ)
  onward n s lo hi low = toward (middle lo hi) ∷ cond low (between n (halfway s lo hi) lo (middle lo hi)) (between n (halfway s lo hi) (middle lo hi) hi)

  by_test : (n : ℕ) (s : Stage M) (lo hi : ℕ) (b : Bool) → wants s lo hi ≡ b → between (suc n) s lo hi ≡ cond b (onward n s lo hi (brings s (middle lo hi))) []
  unfolding bisected
  by_test n s lo hi b e = ap (λ x. cond x (onward n s lo hi (brings s (middle lo hi))) []) e

  none_between : (n : ℕ) (s : Stage M) (lo hi : ℕ) → wants s lo hi ≡ false → between n s lo hi ≡ []
  unfolding bisected
  none_between zero s lo hi e = refl
  none_between (suc n) s lo hi e = by_test n s lo hi false e

  -- what is left to price at a stage leads to what all bisections of the first lead to
  pub record Left (first s : Stage M) (lo hi : ℕ) : Type 0 where
    pub steps : ℕ
    pub enough : hi - lo ≤ suc steps
    pub leads : after_prices s (between steps s lo hi) ≡ after_prices first (bisections first)
    pub room : Room s (length (between steps s lo hi))
    pub rising : lo < hi
    pub small : hi ≤ 1000

  module _ {first s : Stage M} {lo hi : ℕ} (h : Left first s lo hi) where
    pub ended : wants s lo hi ≡ false → s ≡ after_prices first (bisections first)
    ended e = sym (ap (after_prices s) (none_between h.steps s lo hi e)) ∙ h.leads

    -- one pricing more
    module _ (wide : 1 < hi - lo) (is : is_open s.docket.verdict ≡ true) where
      split : (b : Bool) → b ≡ brings s (middle lo hi) → between h.steps s lo hi ≡ onward (h.steps - 1) s lo hi b
      split b e =
          let some : h.steps ≡ suc (h.steps - 1) = omega (arith, h.enough) in
          ap (λ n. between n s lo hi) some
          ∙ by_test (h.steps - 1) s lo hi true (and_from (ltb 1 (hi - lo)) (is_open s.docket.verdict) (lt-ltb 1 (hi - lo) wide) is)
          ∙ ap (onward (h.steps - 1) s lo hi) (sym e)

      pub room_left : Room s 1
      room_left = omega (arith, ap length (split (brings s (middle lo hi)) refl), h.room)

      narrower : (l u : ℕ) → between h.steps s lo hi ≡ toward (middle lo hi) ∷ between (h.steps - 1) (halfway s lo hi) l u → u - l ≤ h.steps → l < u → u ≤ 1000 → Left first (halfway s lo hi) l u
      narrower l u e enough rising small = record {
        steps = h.steps - 1;
        enough = omega (arith, h.enough);
        leads = sym (ap (after_prices s) e) ∙ h.leads;
        room = omega (arith, ap length e, h.room, row_more s (toward (middle lo hi)));
        rising = rising;
        small = small;
      }

      pub halved : (b : Bool) → b ≡ brings s (middle lo hi) → Left first (halfway s lo hi) (cond b lo (middle lo hi)) (cond b (middle lo hi) hi)
      halved true e = narrower lo (middle lo hi) (split true e) (omega (arith, h.enough)) (omega arith) (omega (arith, h.small))
      halved false e = narrower (middle lo hi) hi (split false e) (omega (arith, h.enough)) (omega arith) h.small

  -- the other end, and then between
  module _ (s : Stage M) where
    pub on_is : (b : Bool) → is_open s.docket.verdict ≡ b → prices_on s ≡ cond b (toward 1000 ∷ bisections (after_price s (toward 1000))) []
    on_is b e = ap (λ x. cond x (toward 1000 ∷ bisections (after_price s (toward 1000))) []) e

    pub room_between : is_open s.docket.verdict ≡ true → Room s (length (prices_on s)) → Room (after_price s (toward 1000)) (length (bisections (after_price s (toward 1000))))
    room_between e h = omega (arith, ap length (on_is true e), row_more s (toward 1000))

  -- all pricings of a settle
  abbrev pub emptied : Stage M → Stage M
  emptied s = record s { docket = cleared s.docket }

  module _ (s : Stage M) where
    abbrev pub one : Stage M
    one = after_price (emptied s) (toward 0)

    prices_are : settle_prices s.table s.docket ≡ toward 0 ∷ prices_on one
    unfolding settle_prices
    prices_are = refl

    pub room_on : Room one (length (prices_on one))
    room_on = omega (arith, prices_short s.table s.docket, ap length prices_are, row_more (emptied s) (toward 0))

    pub anew_is : after_prices one (prices_on one) ≡ priced_anew s
    anew_is = sym (ap (after_prices (emptied s)) prices_are) ∙ all_priced (emptied s) (settle_prices s.table s.docket)

-- cleared, and priced once
pub one_is : {M : Type 0} {m : Ghosts M} (s : Settling M m) (d : code.Docket M) (after : Stage M) → d.model ≡ s.docket.now.model → view d ≡ cleared (view s.docket.now) →
    after ≡ after_price (record (stage s) { model = d.model; table = m.table d.model; docket = view d }) (toward 0) → after ≡ one (stage s)
one_is {m = m} s d after x y z = z ∙ (λ i. after_price (record (stage s) { model = x i; table = m.table (x i); docket = y i }) (toward 0))
