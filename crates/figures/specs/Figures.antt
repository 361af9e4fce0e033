-- Worked figures: small models, the calls made on a docket over each, and what they give. Assumes nothing.
use Rattle.std.specs.Prelude.{◌≡◌, ℕ, List, [], ◌∷◌, ℤ, pos, neg_ℤ, None, All}
use Rattle.mdp.specs.Table.{Branch, Table, Facts}
use Rattle.file_check.specs.Accepts.{FileOf}
use Rattle.tables.specs.CounterBox.{counter_box}
use Rattle.plans.specs.declared.Objective.{Objective}
use Rattle.plans.specs.Plans.{target_sum}
use Rattle.truth.specs.Dockets.{Docket, Verdict, Open, Achieved, Refuted, ceiling, point, posed}
use Rattle.truth.specs.Calls.{Call, price, mix, drafted, refusal, after, ran}

-- the models
abbrev branch : ℕ → ℕ → List ℤ → Branch
branch w n rs = record { weight = w; next = n; rewards = rs }

-- from state 0 one choice earns (4, 0) and the other (0, 4), and both lead to state 1, which earns nothing
abbrev pub two_states : Table
two_states = record {
  first = 0;
  divisor = 1;
  columns = 2;
  states = ((branch 1 1 (pos 4 ∷ pos 0 ∷ []) ∷ []) ∷ (branch 1 1 (pos 0 ∷ pos 4 ∷ []) ∷ []) ∷ []) ∷ ((branch 1 1 (pos 0 ∷ pos 0 ∷ []) ∷ []) ∷ []) ∷ [];
}

-- a three-way coin: one side earns r, the other two nothing
abbrev pub coin : ℤ → Table
coin r = record { first = 0; divisor = 3; columns = 1; states = ((branch 1 0 (r ∷ []) ∷ branch 2 0 (pos 0 ∷ []) ∷ []) ∷ []) ∷ [] }

-- the bytes of the file of two_states
abbrev pub two_states_file : List ℕ
two_states_file =
    2 ∷ 0 ∷ 0 ∷ 0 ∷ 1 ∷ 0 ∷ 2 ∷ 0 ∷ 16 ∷ 0 ∷ 18 ∷ 0 ∷ 34 ∷ 0 ∷ 9 ∷ 0
    ∷ 1 ∷ 1 ∷ 0 ∷ 1 ∷ 0 ∷ 4 ∷ 0 ∷ 0 ∷ 0 ∷ 1 ∷ 1 ∷ 0 ∷ 1 ∷ 0 ∷ 0 ∷ 0 ∷ 4 ∷ 0 ∷ 1 ∷ 1 ∷ 0 ∷ 1 ∷ 0 ∷ 0 ∷ 0 ∷ 0 ∷ 0 ∷ []

-- what is asked
abbrev want : ℕ → ℕ → ℤ → Objective
want c k t = record { column = c; bound = k; target = t }

-- a docket over a table, calls on it, and what a pricing at some weights gives and the docket shows after them
pub record Figure : Type 0 where
  pub table : Table
  pub objectives : List Objective
  pub calls : List Call
  pub weights : List ℕ
  pub ceiling : ℤ
  pub target_sum : ℤ
  pub point : List ℤ
  pub verdict : Verdict

-- each of the calls is taken
abbrev pub AllTaken : Table → Docket → List Call → Type 0
AllTaken t d [] = Unit {0}
AllTaken t d (c ∷ cs) = (refusal t d c ≡ None) × AllTaken t (after t d c) cs

pub record Comes (f : Figure) : Type 0 where
  pub facts : Facts f.table
  pub drafted : drafted f.table.columns f.objectives ≡ f.objectives
  pub taken : AllTaken f.table (posed f.objectives) f.calls
  pub ceiling : ceiling f.table f.objectives f.weights ≡ f.ceiling
  pub target_sum : target_sum f.weights f.objectives ≡ f.target_sum
  pub point : point f.table f.objectives f.weights ≡ f.point
  pub verdict : (ran f.table (posed f.objectives) f.calls).verdict ≡ f.verdict

abbrev parts : ℤ → ℤ → List ℤ
parts a b = a ∷ b ∷ pos 0 ∷ pos 0 ∷ []

-- the two states at targets s and t
abbrev between : ℕ → ℕ → List Objective
between s t = want 0 1 (pos s) ∷ want 1 1 (pos t) ∷ []

-- a coin with a bound and a target, priced at weight 1, and then more calls
abbrev tossed : ℤ → ℕ → ℤ → List Call → ℤ → ℤ → Verdict → Figure
tossed r k t more c p v = record {
  table = coin r;
  objectives = want 0 k t ∷ [];
  calls = price (1 ∷ []) 2 ∷ more;
  weights = 1 ∷ [];
  ceiling = c;
  target_sum = t;
  point = parts p (pos 0);
  verdict = v;
}

abbrev pub figures : List Figure
figures =
    record {
      table = two_states;
      objectives = between 131072 131072;
      calls = price (1 ∷ 1 ∷ []) 4 ∷ [];
      weights = 1 ∷ 1 ∷ [];
      ceiling = pos 262144;
      target_sum = pos 262144;
      point = parts (pos 262144) (pos 0);
      verdict = Open;
    }
    ∷ record {
      table = two_states;
      objectives = between 131072 131072;
      calls = price (1 ∷ 1 ∷ []) 4 ∷ price (0 ∷ 1 ∷ []) 4 ∷ mix (1 ∷ 1 ∷ []) ∷ [];
      weights = 0 ∷ 1 ∷ [];
      ceiling = pos 262144;
      target_sum = pos 131072;
      point = parts (pos 0) (pos 262144);
      verdict = Achieved (1 ∷ 1 ∷ []);
    }
    ∷ record {
      table = two_states;
      objectives = between 131073 131072;
      calls = price (1 ∷ 1 ∷ []) 4 ∷ [];
      weights = 1 ∷ 1 ∷ [];
      ceiling = pos 262144;
      target_sum = pos 262145;
      point = parts (pos 262144) (pos 0);
      verdict = Refuted (1 ∷ 1 ∷ []) (pos 262144) (pos 262145);
    }
    ∷ tossed (pos 1) 1 (pos 0) [] (pos 21846) (pos 21845) Open
    ∷ tossed (neg_ℤ (pos 1)) 1 (neg_ℤ (pos 21845)) [] (neg_ℤ (pos 21845)) (neg_ℤ (pos 21846)) Open
    ∷ tossed (pos 1) 2 (pos 0) [] (pos 43692) (pos 43690) Open
    ∷ tossed (pos 1) 1 (pos 21847) (mix (1 ∷ []) ∷ []) (pos 21846) (pos 21845) (Refuted (1 ∷ []) (pos 21846) (pos 21847))
    ∷ tossed (pos 1) 1 (pos 21846) (mix (1 ∷ []) ∷ []) (pos 21846) (pos 21845) Open
    ∷ tossed (pos 1) 1 (pos 21845) (mix (1 ∷ []) ∷ []) (pos 21846) (pos 21845) (Achieved (1 ∷ []))
    ∷ record {
      table = counter_box 1 99;
      objectives = want 0 1 (pos 0) ∷ want 1 2 (pos 0) ∷ [];
      calls = price (1 ∷ 0 ∷ []) 4 ∷ [];
      weights = 1 ∷ 0 ∷ [];
      ceiling = pos 64881;
      target_sum = pos 0;
      point = parts (pos 64880) (neg_ℤ (pos 3277));
      verdict = Open;
    }
    ∷ []

-- every figure of the table comes, and the bytes are the file of the two states
pub record Worked : Type 0 where
  pub come : All Comes figures
  pub file : FileOf two_states_file two_states
