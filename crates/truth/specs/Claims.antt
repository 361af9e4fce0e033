-- The theorems about dockets. Assumes nothing.
use Rattle.std.specs.Prelude.{◌≡◌, ℕ, suc, ◌+◌, ◌*◌, ◌/◌, ◌^◌, ◌<◌, ◌≤◌, max, true, false, ◌⊎◌, ◌↔◌, List, [], ◌∷◌, ◌++◌, map, length, get_or, take, ℤ, pos, neg_ℤ, ◌≤ℤ◌, ◌<ℤ◌, Some, None, All, Contains, sum, Option, slice_index_or}
use Rattle.mdp.specs.Table.{Table, Facts}
use Rattle.plans.specs.declared.Objective.{Objective}
use Rattle.plans.specs.Totals.{◌·◌}
use Rattle.plans.specs.Plans.{Plan, Valid, Share, Mixture, Meets, Clears, Misses, no_objective, horizon, target_sum}
use Rattle.truth.specs.Dockets.{Verdict, Open, Achieved, Refuted, Docket, no_priced, ceiling, point, number, part_sum, meets, shown, retargeted, posed, toward, paired, pairings, settle_prices, settle_priced, settle_mixes, settled}
use Rattle.truth.specs.Calls.{Call, price, mix, retarget, clear, settle, Fault, draft_refusal, drafted, refusal, after, ran, priced_by, mixed_by}

-- objectives that a draft over the table accepts
pub record Accepted (t : Table) (o : Objective) : Type 0 where
  pub there : o.column < t.columns
  pub some : 1 ≤ o.bound
  pub short : o.bound ≤ 256
  pub low : neg_ℤ (pos (2 ^ 40)) ≤ℤ o.target
  pub high : o.target ≤ℤ pos (2 ^ 40)

pub record Posable (t : Table) (os : List Objective) : Type 0 where
  pub few : length os ≤ 4
  pub each : All (Accepted t) os

abbrev pub MeetsAll : Table → List Objective → List Share → Type 0
MeetsAll t os ms = All (Meets t os ms) os

-- at these weights every plan misses by K grains or more
abbrev pub AllMiss : Table → List Objective → List ℕ → Type 0
AllMiss t os ws = (p : Plan) → Valid t (horizon os) t.first p → Misses t os ws p

-- the mixture of the rows with positive shares clears every present target by its bound
abbrev pub AllClear : Table → Docket → List ℕ → Type 0
AllClear t d ss = All (Clears t d.objectives (shown t d ss)) d.objectives

abbrev pub IsAchieved : Verdict → Type 0
IsAchieved v = (ss : List ℕ) × (v ≡ Achieved ss)

abbrev pub IsRefuted : Verdict → Type 0
IsRefuted v = (ws : List ℕ) × (c : ℤ) × (s : ℤ) × (v ≡ Refuted ws c s)

-- what is shown is true of the table
pub record ShowsTrue (t : Table) (d : Docket) : Type 0 where
  pub if_achieved : (ss : List ℕ) → d.verdict ≡ Achieved ss →
      Mixture t d.objectives (shown t d ss) × MeetsAll t d.objectives (shown t d ss)
  pub if_refuted : (ws : List ℕ) (c s : ℤ) → d.verdict ≡ Refuted ws c s →
      (ms : List Share) → Mixture t d.objectives ms → ¬ MeetsAll t d.objectives ms
  pub numbers : (ws : List ℕ) (c s : ℤ) → d.verdict ≡ Refuted ws c s →
      (c ≡ ceiling t d.objectives ws) × (s ≡ target_sum ws d.objectives) × (c <ℤ s)

-- after any calls on a docket posed with accepted objectives and one more, taken or refused
abbrev pub Truth : Type 0
Truth =
    (t : Table) (os : List Objective) (calls : List Call) (call : Call) → Facts t → Posable t os →
    let before = ran t (posed os) calls in
    let d = after t before call in
    ShowsTrue t d
    × All (λ ws. AllMiss t d.objectives ws → IsRefuted d.verdict) (priced_by t before call)
    × All (λ ss. AllClear t d ss → IsAchieved d.verdict) (mixed_by t before call)

-- of a model with this table: whatever is offered to its draft, and whatever calls are made on the docket then posed, taken or refused, after each of them
-- what is shown is true; a call that took a pricing at weights by which all plans miss leaves it refuted; one that took a mix that clears all targets, achieved
abbrev pub TruthOver : Table → Type 0
TruthOver t =
    (offers : List Objective) (calls : List Call) (call : Call) →
    let before = ran t (posed (drafted t.columns offers)) calls in
    let d = after t before call in
    ShowsTrue t d
    × All (λ ws. AllMiss t d.objectives ws → IsRefuted d.verdict) (priced_by t before call)
    × All (λ ss. AllClear t d ss → IsAchieved d.verdict) (mixed_by t before call)

abbrev pub TruthDrafted : Type 0
TruthDrafted = (t : Table) → Facts t → TruthOver t

abbrev pub sent_back : ℕ → ℕ → Option Fault
sent_back n p = Some (record { number = n; place = p })

-- which objectives a draft takes, and which fault it gives otherwise
pub record Offers (t : Table) (os : List Objective) (o : Objective) : Type 0 where
  pub taken_if : (draft_refusal t.columns os o ≡ None) ↔ ((length os < 4) × Accepted t o)
  pub if_full : 4 ≤ length os → draft_refusal t.columns os o ≡ sent_back 9 4
  pub if_outside : length os < 4 → ¬ Accepted t o → draft_refusal t.columns os o ≡ sent_back 8 (length os)

abbrev pub OfferedExactly : Type 0
OfferedExactly = (t : Table) (os : List Objective) (o : Objective) → Offers t os o

-- settle is a run of calls: it clears, and then makes the pricings and the mix that it takes. Each of these is taken, there are no more than 12 pricings, and no more than 12 rows come
abbrev pub settle_calls : Table → Docket → ℕ → List Call
settle_calls t d lent = clear ∷ (map (λ ws. price ws lent) (priced_by t d (settle lent)) ++ map mix (mixed_by t d (settle lent)))

abbrev pub SettleFits : Type 0
SettleFits =
    (t : Table) (d : Docket) (lent : ℕ) → refusal t d (settle lent) ≡ None →
    ((front back : List Call) (call : Call) → settle_calls t d lent ≡ front ++ (call ∷ back) → refusal t (ran t d front) call ≡ None)
    × (after t d (settle lent) ≡ ran t d (settle_calls t d lent))
    × (length (settle_prices t d) ≤ 12) × (length (settled t d).table ≤ 12)

-- the verdict of a settle is what its own steps gave
abbrev pub NotBelow : Table → List Objective → List ℕ → Type 0
NotBelow t os ws = target_sum ws os ≤ℤ ceiling t os ws

abbrev pub SettledAs : Table → Docket → Verdict → Type 0
SettledAs t d Open =
    All (NotBelow t d.objectives) (settle_prices t d)
    × All (λ ss. meets (settle_priced t d) ss ≡ false) (pairings (length (settle_priced t d).table))
SettledAs t d (Achieved ss) =
    All (NotBelow t d.objectives) (settle_prices t d)
    × (settle_mixes (settle_priced t d) ≡ ss ∷ []) × (meets (settle_priced t d) ss ≡ true)
SettledAs t d (Refuted ws c s) =
    (front : List (List ℕ)) × (settle_prices t d ≡ front ++ (ws ∷ [])) × All (NotBelow t d.objectives) front
    × (c ≡ ceiling t d.objectives ws) × (s ≡ target_sum ws d.objectives) × (c <ℤ s)

abbrev pub SettleVerdict : Type 0
SettleVerdict = (t : Table) (d : Docket) → SettledAs t d (settled t d).verdict

-- a call that is sent back changes nothing; a verdict stands until retarget, clear or settle
abbrev pub Stands : Type 0
Stands =
    (t : Table) (d : Docket) →
    ((c : Call) (f : Fault) → refusal t d c ≡ Some f → after t d c ≡ d)
    × (¬ (d.verdict ≡ Open) →
    ((ws : List ℕ) (lent : ℕ) → (after t d (price ws lent)).verdict ≡ d.verdict) × ((ss : List ℕ) → (after t d (mix ss)).verdict ≡ d.verdict))

-- weights that a pricing takes
pub record Weighs (os : List Objective) (ws : List ℕ) : Type 0 where
  pub each : length ws ≡ length os
  pub small : All (λ w. w ≤ 1000) ws
  pub some : 1 ≤ sum ws

-- what holds of every docket: its objectives are accepted, its rows few and apart, and each has the sweep's point
pub record Orderly (t : Table) (d : Docket) : Type 0 where
  pub posable : Posable t d.objectives
  pub few : length d.table ≤ 16
  pub weighs : All (λ r. Weighs d.objectives r.weights) d.table
  pub told : All (λ r. r.point ≡ point t d.objectives r.weights) d.table
  pub apart : (i j : ℕ) → j < i → i < length d.table → ¬ ((get_or d.table i no_priced).weights ≡ (get_or d.table j no_priced).weights)

abbrev pub StaysOrderly : Type 0
StaysOrderly = (t : Table) (os : List Objective) (calls : List Call) → Posable t os → Orderly t (ran t (posed os) calls)

-- the same of whatever was offered to a draft
abbrev pub StaysOrderlyDrafted : Type 0
StaysOrderlyDrafted = (t : Table) (offers : List Objective) (calls : List Call) → Orderly t (ran t (posed (drafted t.columns offers)) calls)

-- a pricing that is taken leaves the rows where they are, and a row with its weights at the number that it answers; that row is new only if none had these weights
abbrev pub RowNumbered : Type 0
RowNumbered =
    (t : Table) (d : Docket) (ws : List ℕ) (lent : ℕ) → refusal t d (price ws lent) ≡ None →
    (length (after t d (price ws lent)).table ≡ max (length d.table) (suc (number ws d.table)))
    × ((get_or (after t d (price ws lent)).table (number ws d.table) no_priced).weights ≡ ws)
    × (take (length d.table) (after t d (price ws lent)).table ≡ d.table)

-- the sweep toward a brings target 0
abbrev pub Brings : Table → List Objective → ℕ → Type 0
Brings t os a = (get_or os 0 no_objective).target ≤ℤ slice_index_or (point t os (toward a)) 0 (pos 0)

-- where the pricings of a settle leave the docket open, they have closed in: first both ends were priced, and then two neighbours,
-- of which the lower does not bring target 0, or is 0, and the upper does, or is 1000
abbrev pub SettleCloses : Type 0
SettleCloses =
    (t : Table) (d : Docket) → (settle_priced t d).verdict ≡ Open →
    let ps = settle_prices t d in
    (take 2 ps ≡ toward 0 ∷ toward 1000 ∷ [])
    × ((a : ℕ) × Contains ps (toward a) × Contains ps (toward (suc a))
    × ((a ≡ 0) ⊎ (¬ Brings t d.objectives a)) × ((suc a ≡ 1000) ⊎ Brings t d.objectives (suc a)))

-- each pricing after the two ends is at the middle, rounded down, of two numbers that were priced before, with none between them that was;
-- the lower does not bring target 0, or is 0, and the upper does, or is 1000
pub record Halves (t : Table) (os : List Objective) (before : List (List ℕ)) (a : ℕ) : Type 0 where
  pub low : ℕ
  pub high : ℕ
  pub apart : suc low < high
  pub middle : a ≡ (low + high) / 2
  pub low_priced : Contains before (toward low)
  pub high_priced : Contains before (toward high)
  pub none_between : (b : ℕ) → low < b → b < high → ¬ Contains before (toward b)
  pub low_short : (low ≡ 0) ⊎ (¬ Brings t os low)
  pub high_brings : (high ≡ 1000) ⊎ Brings t os high

abbrev pub SettleHalves : Type 0
SettleHalves =
    (t : Table) (d : Docket) (front back : List (List ℕ)) (ws : List ℕ) → settle_prices t d ≡ front ++ (ws ∷ back) → 2 ≤ length front →
    (a : ℕ) × (ws ≡ toward a) × Halves t d.objectives front a

-- a pair of rows with the share of the first; one comes before another by the first row, then the second, then the share
pub record Pair : Type 0 where
  pub first : ℕ
  pub second : ℕ
  pub share : ℕ

pub record Of (n : ℕ) (p : Pair) : Type 0 where
  pub rising : p.first < p.second
  pub within : p.second < n
  pub small : p.share ≤ 1000

abbrev pub Before : Pair → Pair → Type 0
Before q p =
    (q.first < p.first)
    ⊎ ((q.first ≡ p.first) × ((q.second < p.second) ⊎ ((q.second ≡ p.second) × (q.share < p.share))))

abbrev pub shares_of : ℕ → Pair → List ℕ
shares_of n p = paired n p.first p.second p.share

-- settle mixes the first pair that meets; where it leaves the docket open, none meets
abbrev pub SettleFirst : Type 0
SettleFirst =
    (t : Table) (d : Docket) →
    let e = settle_priced t d in
    let n = length e.table in
    ((settled t d).verdict ≡ Open → (q : Pair) → Of n q → meets e (shares_of n q) ≡ false)
    × ((ss : List ℕ) → (settled t d).verdict ≡ Achieved ss →
    (p : Pair) × Of n p × (ss ≡ shares_of n p) × (meets e ss ≡ true) × ((q : Pair) → Of n q → Before q p → meets e (shares_of n q) ≡ false))

-- a target within the limits
abbrev pub Small : ℤ → Type 0
Small z = (neg_ℤ (pos (2 ^ 40)) ≤ℤ z) × (z ≤ℤ pos (2 ^ 40))

-- which calls are taken
pub record Takes (t : Table) (d : Docket) : Type 0 where
  pub price_if : (ws : List ℕ) (lent : ℕ) →
      (refusal t d (price ws lent) ≡ None)
      ↔ (Weighs d.objectives ws × (2 * length t.states ≤ lent)
      × ((length d.table < 16) ⊎ ((i : ℕ) × (i < length d.table) × ((get_or d.table i no_priced).weights ≡ ws))))
  pub mix_if : (ss : List ℕ) → (refusal t d (mix ss) ≡ None) ↔ ((length ss ≡ length d.table) × (1 ≤ sum ss) × (sum ss ≤ 1000))
  pub retarget_if : (ts : List ℤ) → (refusal t d (retarget ts) ≡ None) ↔ ((length ts ≡ length d.objectives) × All Small ts)
  pub clear_ever : refusal t d clear ≡ None
  pub settle_if : (lent : ℕ) → (refusal t d (settle lent) ≡ None) ↔ ((2 * length t.states ≤ lent) × (length d.objectives ≡ 2))

abbrev pub TakenExactly : Type 0
TakenExactly = (t : Table) (d : Docket) → Takes t d

-- place i has the first number that is not within the limits
pub record FirstOutside {X : Type 0} (Within : X → Type 0) (xs : List X) (none : X) (i : ℕ) : Type 0 where
  pub there : i < length xs
  pub outside : ¬ Within (slice_index_or xs i none)
  pub before : (j : ℕ) → j < i → Within (slice_index_or xs j none)

-- which fault a call that is sent back gets
pub record Refuses (t : Table) (d : Docket) : Type 0 where
  pub price_count : (ws : List ℕ) (lent : ℕ) → ¬ (length ws ≡ length d.objectives) → refusal t d (price ws lent) ≡ sent_back 10 (length ws)
  pub price_large : (ws : List ℕ) (lent i : ℕ) → length ws ≡ length d.objectives → FirstOutside (λ w. w ≤ 1000) ws 0 i → refusal t d (price ws lent) ≡ sent_back 10 i
  pub price_none : (ws : List ℕ) (lent : ℕ) → length ws ≡ length d.objectives → sum ws ≡ 0 → refusal t d (price ws lent) ≡ sent_back 10 0
  pub price_rows : (ws : List ℕ) (lent : ℕ) → Weighs d.objectives ws → lent < 2 * length t.states → refusal t d (price ws lent) ≡ sent_back 11 lent
  pub price_full : (ws : List ℕ) (lent : ℕ) → Weighs d.objectives ws → 2 * length t.states ≤ lent → 16 ≤ length d.table →
      ((i : ℕ) → i < length d.table → ¬ ((get_or d.table i no_priced).weights ≡ ws)) → refusal t d (price ws lent) ≡ sent_back 12 16
  pub mix_count : (ss : List ℕ) → ¬ (length ss ≡ length d.table) → refusal t d (mix ss) ≡ sent_back 13 (length ss)
  pub mix_total : (ss : List ℕ) → length ss ≡ length d.table → (sum ss ≡ 0) ⊎ (1000 < sum ss) → refusal t d (mix ss) ≡ sent_back 13 0
  pub retarget_count : (ts : List ℤ) → ¬ (length ts ≡ length d.objectives) → refusal t d (retarget ts) ≡ sent_back 14 (length ts)
  pub retarget_large : (ts : List ℤ) (i : ℕ) → length ts ≡ length d.objectives → FirstOutside Small ts (pos 0) i → refusal t d (retarget ts) ≡ sent_back 14 i
  pub settle_rows : (lent : ℕ) → lent < 2 * length t.states → refusal t d (settle lent) ≡ sent_back 11 lent
  pub settle_two : (lent : ℕ) → 2 * length t.states ≤ lent → ¬ (length d.objectives ≡ 2) → refusal t d (settle lent) ≡ sent_back 15 (length d.objectives)

abbrev pub RefusedExactly : Type 0
RefusedExactly = (t : Table) (d : Docket) → Refuses t d

-- the shares bring every present target, by the parts of the rows
abbrev pub Enough : Docket → List ℕ → Type 0
Enough d ss = (i : ℕ) → i < length d.objectives → (sum ss · (get_or d.objectives i no_objective).target) ≤ℤ part_sum ss d.table i

-- what a taken price or mix makes of an open docket
pub record Judges (t : Table) (d : Docket) : Type 0 where
  pub price_refutes : (ws : List ℕ) (lent : ℕ) → refusal t d (price ws lent) ≡ None → ceiling t d.objectives ws <ℤ target_sum ws d.objectives →
      (after t d (price ws lent)).verdict ≡ Refuted ws (ceiling t d.objectives ws) (target_sum ws d.objectives)
  pub price_leaves : (ws : List ℕ) (lent : ℕ) → target_sum ws d.objectives ≤ℤ ceiling t d.objectives ws → (after t d (price ws lent)).verdict ≡ Open
  pub mix_achieves : (ss : List ℕ) → refusal t d (mix ss) ≡ None → Enough d ss → (after t d (mix ss)).verdict ≡ Achieved ss
  pub mix_leaves : (ss : List ℕ) → ¬ Enough d ss → (after t d (mix ss)).verdict ≡ Open

abbrev pub JudgedExactly : Type 0
JudgedExactly = (t : Table) (d : Docket) → d.verdict ≡ Open → Judges t d

-- what the objectives say besides their targets
abbrev pub aspects : List Objective → List (ℕ × ℕ)
aspects os = map (λ o. (o.column, o.bound)) os

abbrev pub targets : List Objective → List ℤ
targets os = map (λ o. o.target) os

-- the present targets are those of the last retarget taken; columns and bounds stay. A mix leaves the rows, and clear leaves a docket as newly posed
abbrev pub TargetsPresent : Type 0
TargetsPresent =
    (t : Table) (d : Docket) →
    ((ts : List ℤ) → refusal t d (retarget ts) ≡ None →
    (targets (after t d (retarget ts)).objectives ≡ ts) × (aspects (after t d (retarget ts)).objectives ≡ aspects d.objectives)
    × ((after t d (retarget ts)).table ≡ d.table) × ((after t d (retarget ts)).verdict ≡ Open))
    × ((ws : List ℕ) (lent : ℕ) → (after t d (price ws lent)).objectives ≡ d.objectives)
    × ((ss : List ℕ) → ((after t d (mix ss)).objectives ≡ d.objectives) × ((after t d (mix ss)).table ≡ d.table))
    × (after t d clear ≡ posed d.objectives)
    × ((lent : ℕ) → (after t d (settle lent)).objectives ≡ d.objectives)

-- new targets leave the plans of the rows as they were
abbrev pub PlansKept : Type 0
PlansKept = (t : Table) (d : Docket) (ts : List ℤ) (ss : List ℕ) → shown t (retargeted d ts) ss ≡ shown t d ss
