-- The calls on a draft and on a docket: why one is sent back, what one makes of the docket, and what one takes. Assumes nothing.
use Rattle.std.specs.Prelude.{ℕ, ◌*◌, ◌^◌, Bool, cond, not, ◌&&◌, ◌||◌, List, [], ◌∷◌, ◌++◌, length, ℤ, pos, neg_ℤ, Some, None, fold, sum, Option, ◌==◌, int_le, nat_le, nat_lt}
use Rattle.std.specs.List.{prefix_len}
use Rattle.mdp.specs.Table.{Table}
use Rattle.plans.specs.declared.Objective.{Objective}
use Rattle.truth.specs.Dockets.{Docket, has_row, priced, mixed, retargeted, cleared, settled, settle_prices, settle_priced, settle_mixes}

-- a price or a settle is lent some number of working rows
pub data Call : Type 0 where
  price : List ℕ → ℕ → Call
  mix : List ℕ → Call
  retarget : List ℤ → Call
  clear : Call
  settle : ℕ → Call

pub record Fault : Type 0 where
  pub number : ℕ
  pub place : ℕ

-- a cause that holds or not, with the fault that it gives
pub record Cause : Type 0 where
  pub holds : Bool
  pub fault : Fault

abbrev pub cause : Bool → ℕ → ℕ → Cause
cause b n p = record { holds = b; fault = record { number = n; place = p } }

-- the fault of the first cause that holds
abbrev pub first_of : List Cause → Option Fault
first_of [] = None
first_of (c ∷ cs) = cond c.holds (Some c.fault) (first_of cs)

-- how many from the front on are within the limits: the number of the first that is not
abbrev pub small_weights : List ℕ → ℕ
small_weights ws = prefix_len (λ w. nat_le w 1000) ws

abbrev pub small_target : ℤ → Bool
small_target z = int_le (neg_ℤ (pos (2 ^ 40))) z && int_le z (pos (2 ^ 40))

abbrev pub small_targets : List ℤ → ℕ
small_targets ts = prefix_len small_target ts

abbrev pub if_taken : {X : Type 0} → Option Fault → X → X → X
if_taken None x y = x
if_taken (Some f) x y = y

-- drafting: objectives are offered one by one, over a model with some number of columns
abbrev pub allowed : ℕ → Objective → Bool
allowed columns o = nat_lt o.column columns && (nat_le 1 o.bound && (nat_le o.bound 256 && small_target o.target))

abbrev pub draft_refusal : ℕ → List Objective → Objective → Option Fault
draft_refusal columns os o = first_of (cause (nat_le 4 (length os)) 9 4 ∷ cause (not (allowed columns o)) 8 (length os) ∷ [])

abbrev pub added : ℕ → List Objective → Objective → List Objective
added columns os o = if_taken (draft_refusal columns os o) (os ++ (o ∷ [])) os

-- what a draft holds after these were offered
abbrev pub drafted : ℕ → List Objective → List Objective
drafted columns offers = fold (added columns) [] offers

-- the calls on a docket
abbrev pub causes : Table → Docket → Call → List Cause
causes t d (price ws lent) =
    cause (not (length ws == length d.objectives)) 10 (length ws)
    ∷ cause (nat_lt (small_weights ws) (length ws)) 10 (small_weights ws)
    ∷ cause (sum ws == 0) 10 0
    ∷ cause (nat_lt lent (2 * length t.states)) 11 lent
    ∷ cause (nat_le 16 (length d.table) && not (has_row ws d.table)) 12 16
    ∷ []
causes t d (mix ss) =
    cause (not (length ss == length d.table)) 13 (length ss)
    ∷ cause (sum ss == 0 || nat_lt 1000 (sum ss)) 13 0
    ∷ []
causes t d (retarget ts) =
    cause (not (length ts == length d.objectives)) 14 (length ts)
    ∷ cause (nat_lt (small_targets ts) (length ts)) 14 (small_targets ts)
    ∷ []
causes t d clear = []
causes t d (settle lent) =
    cause (nat_lt lent (2 * length t.states)) 11 lent
    ∷ cause (not (length d.objectives == 2)) 15 (length d.objectives)
    ∷ []

abbrev pub refusal : Table → Docket → Call → Option Fault
refusal t d c = first_of (causes t d c)

abbrev pub effect : Table → Docket → Call → Docket
effect t d (price ws lent) = priced t d ws
effect t d (mix ss) = mixed d ss
effect t d (retarget ts) = retargeted d ts
effect t d clear = cleared d
effect t d (settle lent) = settled t d

abbrev pub after : Table → Docket → Call → Docket
after t d c = if_taken (refusal t d c) (effect t d c) d

abbrev pub ran : Table → Docket → List Call → Docket
ran t d cs = fold (after t) d cs

-- the weights of the pricings, and the shares of the mixes, that a call makes if it is taken
abbrev pub prices : Table → Docket → Call → List (List ℕ)
prices t d (price ws lent) = ws ∷ []
prices t d (mix ss) = []
prices t d (retarget ts) = []
prices t d clear = []
prices t d (settle lent) = settle_prices t d

abbrev pub mixes : Table → Docket → Call → List (List ℕ)
mixes t d (price ws lent) = []
mixes t d (mix ss) = ss ∷ []
mixes t d (retarget ts) = []
mixes t d clear = []
mixes t d (settle lent) = settle_mixes (settle_priced t d)

abbrev pub priced_by : Table → Docket → Call → List (List ℕ)
priced_by t d c = if_taken (refusal t d c) (prices t d c) []

abbrev pub mixed_by : Table → Docket → Call → List (List ℕ)
mixed_by t d c = if_taken (refusal t d c) (mixes t d c) []
